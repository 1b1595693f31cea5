-- The greatest weight of a transducer.
use Rattle.std.specs.Prelude.{◌≡◌, ◌≤◌, ℕ, List, Some, max, fold, unwrap_or}
use Rattle.weighted_relations.specs.declared.Arc.{Arc}
use Rattle.weighted_relations.specs.Machines.{Machine, IsArc, final_of}
use Rattle.fst_core.specs.States.{States}

-- the greatest number that f gives, or 0
abbrev pub greatest : {A : Type 0} → (A → ℕ) → List A → ℕ
greatest f xs = fold (λ t x. max t (f x)) 0 xs

abbrev pub row_top : List Arc → ℕ
row_top row = greatest (λ a. a.weight) row

-- the greatest weight of an arc or a final state, and 0 where there is none
abbrev pub top_of : Machine → ℕ
top_of m = max (greatest row_top m.arcs) (greatest (λ o. unwrap_or o 0) m.finals)

-- each weight is at most t
pub record Under (t : ℕ) (b : States) : Type 0 where
  pub arcs : (s k : ℕ) (a : Arc) → IsArc b.arcs s k a → a.weight ≤ t
  pub ends : (s w : ℕ) → final_of b.finals s ≡ Some w → w ≤ t
