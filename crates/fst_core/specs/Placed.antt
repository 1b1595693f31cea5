-- One transducer's states within another's.
use Rattle.std.specs.Prelude.{◌≡◌, ℕ, ◌+◌, ◌<◌, List, [], ◌∷◌, ◌++◌, map, get_or, Option, Some, None}
use Rattle.fst_core.specs.declared.builder.Kept.{Kept}
use Rattle.fst_core.specs.declared.builder.Kept.TheVariants.{Input, Output, Neither}
use Rattle.weighted_relations.specs.declared.Arc.{Arc}
use Rattle.weighted_relations.specs.Relations.{Relation, Is}
use Rattle.weighted_relations.specs.Machines.{Machine, From, final_of}

-- the label that is taken
abbrev pub taken : Kept → ℕ → ℕ → ℕ
taken Input n m = n
taken Output n m = m
taken Neither n m = 0

-- the list of labels that is taken
abbrev pub all_taken : Kept → List ℕ → List ℕ → List ℕ
all_taken Input x y = x
all_taken Output x y = y
all_taken Neither x y = []

-- an arc of a transducer whose states begin at off
abbrev pub placed_arc : ℕ → Kept → Kept → Arc → Arc
placed_arc off i o a = record { input = taken i a.input a.output; output = taken o a.input a.output; weight = a.weight; next = off + a.next }

-- an arc that reads and writes nothing
abbrev pub empty_arc : ℕ → ℕ → Arc
empty_arc w t = record { input = 0; output = 0; weight = w; next = t }

-- an arc that reads and writes a label
abbrev pub label_arc : ℕ → ℕ → Arc
label_arc n t = record { input = n; output = n; weight = 0; next = t }

-- where there is an exit, a final state goes on there
abbrev pub exit_arcs : Option ℕ → Option ℕ → List Arc
exit_arcs None last = []
exit_arcs (Some t) None = []
exit_arcs (Some t) (Some w) = empty_arc w t ∷ []

-- where there is an exit, no state is final
abbrev pub placed_final : Option ℕ → Option ℕ → Option ℕ
placed_final None last = last
placed_final (Some t) last = None

abbrev pub placed_row : ℕ → Kept → Kept → Option ℕ → List Arc → Option ℕ → List Arc
placed_row off i o exit row last = map (placed_arc off i o) row ++ exit_arcs exit last

-- From off on, the first n states of p stand among these.
pub record Region (arcs : List (List Arc)) (finals : List (Option ℕ)) (p : Machine) (n off : ℕ) (i o : Kept) (exit : Option ℕ) : Type 0 where
  pub rows : (s : ℕ) → s < n → get_or arcs (off + s) [] ≡ placed_row off i o exit (get_or p.arcs s []) (final_of p.finals s)
  pub ends : (s : ℕ) → s < n → final_of finals (off + s) ≡ placed_final exit (final_of p.finals s)

-- R with other lists as its inputs and outputs
pub record Picked (i o : Kept) (R : Relation) (x y : List ℕ) (w : ℕ) : Type 0 where
  pub from_x : List ℕ
  pub from_y : List ℕ
  pub input : x ≡ all_taken i from_x from_y
  pub output : y ≡ all_taken o from_x from_y
  pub reads : R from_x from_y w

-- what follows a final state
abbrev pub Ends : Machine → Option ℕ → Relation
Ends m None = Is []
Ends m (Some t) = From m t
