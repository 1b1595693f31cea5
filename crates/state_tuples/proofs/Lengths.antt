-- The lengths of the states and filters of moves.
use Rattle.std.specs.Prelude.{◌≡◌, ℕ, suc, List, ◌∷◌, length}
use Rattle.std.proofs.Common.{refl, ap}
use Rattle.weighted_relations.specs.Machines.{Machine}
use Rattle.compose_filter.specs.declared.filters.Filter.{Filter}
use Rattle.compose_filter.specs.declared.filters.Filter.TheVariants.{Open}
use Rattle.compose_filter.specs.ComposedPaths.{Combination, IsMove, only_moves, both_move, first_moves, second_moves}

-- as many states as parts, and one filter less
pub record Lengths (ms : List Machine) (qs : List ℕ) (fs : List Filter) : Type 0 where
  pub states : length qs ≡ length ms
  pub filters : suc (length fs) ≡ length ms

pub longer : {ms : List Machine} {qs : List ℕ} {fs : List Filter} (m : Machine) (q : ℕ) (f : Filter)
    → Lengths ms qs fs → Lengths (m ∷ ms) (q ∷ qs) (f ∷ fs)
longer m q f l = record { states = ap suc l.states; filters = ap suc l.filters }

pub shorter : {m : Machine} {q : ℕ} {f : Filter} (ms : List Machine) (qs : List ℕ) (fs : List Filter)
    → Lengths (m ∷ ms) (q ∷ qs) (f ∷ fs) → Lengths ms qs fs
shorter ms qs fs l = (let s = l.states in let f = l.filters in record { states = cc; filters = cc })

pub move_lengths : {ms : List Machine} {qs rs : List ℕ} {fs gs : List Filter} {c : Combination} {i o w : ℕ}
    → Lengths ms qs fs → IsMove ms qs fs c i o w rs gs → Lengths ms rs gs
move_lengths l (only_moves h) = record { states = refl; filters = refl }
move_lengths l (both_move {m} {ms} {qs} {fs} {a} mv g e) = longer m a.next Open (move_lengths (shorter ms qs fs l) mv)
move_lengths l (first_moves {m} {ms} {q} {qs} {fs} mv) = longer m q Open (move_lengths (shorter ms qs fs l) mv)
move_lengths l (second_moves g e) = record { states = l.states; filters = l.filters }
