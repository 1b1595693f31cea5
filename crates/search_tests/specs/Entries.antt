-- A search's lists as the laws of searches see them.
use Rattle.std.specs.Prelude.{◌≡◌, ◌≤◌, ℕ, List, length, drop, Some, None, Contains}
use Rattle.weighted_relations.specs.Least.{Below}
use Rattle.weighted_relations.specs.SearchPaths.{Spot}
use Rattle.weighted_relations.specs.SearchRuns.{Open}
use Rattle.search_tests.specs.declared.entries.Entry.{Entry}
use Rattle.search_tests.specs.declared.entries.Pair.{Pair}
use Rattle.search_tests.specs.declared.entries.Place.{Place}
use Rattle.search_tests.specs.declared.entries.Place.TheVariants.{At, End}

-- no greater: by weight, then by length, then by labels
abbrev pub Before : Entry → Entry → Type 0
Before a b = Below a.weight a.output.items b.weight b.output.items

-- a place, by what is left of the line
abbrev pub spot_of : List ℕ → Place → Spot ℕ
spot_of line (At p) = Some (drop p.position line, p.state)
spot_of line End = None

abbrev pub open_of : List ℕ → Entry → Open (Spot ℕ)
open_of line e = record { node = spot_of line e.place; weight = e.weight; output = e.output.items }

-- a place within the line
abbrev pub IsWithin : List ℕ → Place → Type 0
IsWithin line (At p) = p.position ≤ length line
IsWithin line End = Unit {0}

-- a pair that is settled, by what is left of the line
abbrev pub IsSettled : List ℕ → List Pair → Spot ℕ → Type 0
IsSettled line settled None = ⊥
IsSettled line settled (Some n) = (i : ℕ) × Contains settled (record { position = i; state = n.1 }) × (n.0 ≡ drop i line)
