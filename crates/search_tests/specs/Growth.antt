-- How the open entries grow where a pair is settled.
use Rattle.std.specs.Prelude.{◌≡◌, ◌≤◌, ◌⊎◌, ℕ, ◌+◌, List, [], ◌++◌, length, All, Contains, Option, Some, None}
use Rattle.weighted_relations.specs.declared.Arc.{Arc}
use Rattle.weighted_relations.specs.Graphs.{label}
use Rattle.weighted_relations.specs.SearchPaths.{Spot}
use Rattle.search_tests.specs.declared.entries.Entry.{Entry}
use Rattle.search_tests.specs.declared.entries.Pair.{Pair}
use Rattle.search_tests.specs.Entries.{spot_of, open_of, IsWithin, IsSettled}

-- where edges lead to, at which weight and with which output
abbrev pub Leading : Type 1
Leading = Spot ℕ → ℕ → List ℕ → Type 0

-- along an arc, where what is left of the line begins with its input
abbrev pub AlongArc : List ℕ → Arc → Leading
AlongArc x a None u z = ⊥
AlongArc x a (Some n) u z = (x ≡ label a.input n.0) × (n.1 ≡ a.next) × (u ≡ a.weight) × (z ≡ label a.output [])

-- along one of these arcs
abbrev pub AlongAny : List ℕ → List Arc → Leading
AlongAny x row n u z = (a : Arc) × Contains row a × AlongArc x a n u z

-- to the end, where nothing is left of the line and the state is final
abbrev pub AtEnd : List ℕ → Option ℕ → Leading
AtEnd x last None u z = (x ≡ []) × (last ≡ Some u) × (z ≡ [])
AtEnd x last (Some n) u z = ⊥

-- an entry that one of these edges leads to
pub record Led (line : List ℕ) (from : Entry) (D : Leading) (e : Entry) : Type 0 where
  pub within : IsWithin line e.place
  pub added : ℕ
  pub text : List ℕ
  pub edge : D (spot_of line e.place) added text
  pub weight : e.weight ≡ from.weight + added
  pub output : e.output.items ≡ from.output.items ++ text

-- From an entry, at most so many are opened: each is led to by one of these edges, and whatever an
-- edge leads to is settled or opened.
pub record Grown (line : List ℕ) (settled : List Pair) (old new : List Entry) (from : Entry) (most : ℕ) (D : Leading) : Type 0 where
  pub opened : List Entry
  pub items : new ≡ old ++ opened
  pub few : length opened ≤ most
  pub led : All (Led line from D) opened
  pub covered : (n : Spot ℕ) (u : ℕ) (z : List ℕ) → D n u z → IsSettled line settled n ⊎ ((e : Entry) × Contains opened e × (open_of line e ≡ record { node = n; weight = from.weight + u; output = from.output.items ++ z }))
