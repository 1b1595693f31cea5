-- What a cascade keeps beside its parts.
use Rattle.std.specs.Prelude.{Bool, IsTrue, IfSome, Option, All, get_or}
use Rattle.fst_core.specs.Sorted.{HasSortedRows}
use Rattle.look_ahead.specs.Aheads.{Sets, IsAhead}
use Rattle.state_tuples.specs.Cascades.{Cascaded, IsSound, no_part}

-- It is sound. Where this is said, the arcs of each state of each part are in the order of their inputs. What is kept of what the first part
-- reads next is true of it.
pub record IsKept (c : Cascaded) (told : Bool) (sets : Option Sets) : Type 0 where
  pub sound : IsSound c
  pub sorted : IsTrue told → All HasSortedRows c.parts
  pub ahead : IfSome sets (IsAhead (get_or c.parts 0 no_part))
