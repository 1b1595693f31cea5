-- States while a transducer is built.
use Rattle.std.specs.Prelude.{◌≡◌, ℕ, ◌+◌, ◌<◌, List, [], ◌∷◌, ◌++◌, length, get_or, slice_set, Option}
use Rattle.fst_core.specs.declared.builder.Kept.{Kept}
use Rattle.weighted_relations.specs.declared.Arc.{Arc}
use Rattle.weighted_relations.specs.Machines.{Machine, final_of}
use Rattle.fst_core.specs.Placed.{Region}

-- each state's arcs and final weight
pub record States : Type 0 where
  pub arcs : List (List Arc)
  pub finals : List (Option ℕ)

abbrev pub no_states : States
no_states = record { arcs = []; finals = [] }

-- the states of a transducer
abbrev pub as_states : Machine → States
as_states a = record { arcs = a.arcs; finals = a.finals }

-- the transducer of these states
abbrev pub as_machine : ℕ → States → Machine
as_machine start b = record { start = start; arcs = b.arcs; finals = b.finals }

-- one more state
abbrev pub with_state : States → List Arc → Option ℕ → States
with_state b row last = record { arcs = b.arcs ++ row ∷ []; finals = b.finals ++ last ∷ [] }

-- one more arc from a state
abbrev pub with_arc : States → ℕ → Arc → States
with_arc b s a = record { arcs = slice_set b.arcs s (get_or b.arcs s [] ++ a ∷ []); finals = b.finals }

-- the states old, and after them the first n states of p
pub record Adds (old new : States) (p : Machine) (n : ℕ) (i o : Kept) (exit : Option ℕ) : Type 0 where
  pub arc_count : length new.arcs ≡ length old.arcs + n
  pub final_count : length new.finals ≡ length old.arcs + n
  pub old_arcs : (s : ℕ) → s < length old.arcs → get_or new.arcs s [] ≡ get_or old.arcs s []
  pub old_finals : (s : ℕ) → s < length old.arcs → final_of new.finals s ≡ final_of old.finals s
  pub region : Region new.arcs new.finals p n (length old.arcs) i o exit
