-- Arcs in the order of their inputs.
use Rattle.std.specs.Prelude.{◌≡◌, ℕ, ◌<◌, [], length, get_or, IsPermutation}
use Rattle.std.specs.List.Sorted.{IsNonDecreasingBy}
use Rattle.weighted_relations.specs.Machines.{Machine, final_of}
use Rattle.fst_core.specs.States.{States}

-- at each state
abbrev pub HasSortedRows : Machine → Type 0
HasSortedRows m = (s : ℕ) → IsNonDecreasingBy (λ y. y.input) (get_or m.arcs s [])

-- the arcs of each of the first n states, in some order
pub record RowsReordered (n : ℕ) (a : Machine) (b : States) : Type 0 where
  pub count : length b.arcs ≡ n
  pub final_count : length b.finals ≡ n
  pub rows : (s : ℕ) → s < n → IsPermutation (get_or a.arcs s []) (get_or b.arcs s [])
  pub sorted : (s : ℕ) → s < n → IsNonDecreasingBy (λ y. y.input) (get_or b.arcs s [])
  pub ends : (s : ℕ) → s < n → final_of b.finals s ≡ final_of a.finals s

-- the same transducer with the arcs of each state in some order
pub record IsReordered (a m : Machine) : Type 0 where
  pub start : m.start ≡ a.start
  pub count : length m.arcs ≡ length a.arcs
  pub rows : (s : ℕ) → IsPermutation (get_or a.arcs s []) (get_or m.arcs s [])
  pub ends : (s : ℕ) → final_of m.finals s ≡ final_of a.finals s
