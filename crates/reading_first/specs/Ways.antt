-- Ways by arcs that read nothing, and the moves that end them.
use Rattle.std.specs.Prelude.{◌≡◌, ℕ, ◌+◌, List, [], ◌∷◌, ◌++◌, Some}
use Rattle.weighted_relations.specs.declared.Arc.{Arc}
use Rattle.weighted_relations.specs.Graphs.{label}
use Rattle.weighted_relations.specs.Machines.{Machine, IsArc, final_of}
use Rattle.reading_first.specs.declared.parts.Part.{Part}
use Rattle.reading_first.specs.declared.parts.Part.TheVariants.{At, Ended}

-- Arcs that read nothing lead from q to a state: the places of these arcs, the last one first, what they write, and
-- their weight.
pub data Silent (m : Machine) (q : ℕ) : List ℕ → List ℕ → ℕ → ℕ → Type 0 where
  here : Silent m q [] [] 0 q
  on : {ks u : List ℕ} {v s k : ℕ} {a : Arc} → Silent m q ks u v s → IsArc m.arcs s k a → a.input ≡ 0 → Silent m q (k ∷ ks) (u ++ label a.output []) (v + a.weight) a.next

-- A way without input and then an arc that reads, or some arcs without input and then an end: what is read, what is
-- written, the weight, and where it leads.
pub data Move (m : Machine) (q : ℕ) : ℕ → List ℕ → ℕ → Part → Type 0 where
  reads : {u : List ℕ} {v s : ℕ} {a : Arc} (k : ℕ) (ks : List ℕ) → Silent m q ks u v s → IsArc m.arcs s k a → (a.input ≡ 0 → ⊥) → Move m q a.input (u ++ label a.output []) (v + a.weight) (At a.next)
  ends : {u : List ℕ} {v s w : ℕ} (k : ℕ) (ks : List ℕ) → Silent m q (k ∷ ks) u v s → final_of m.finals s ≡ Some w → Move m q 0 u (v + w) Ended
