-- Paths that were begun, and the readings that they lead to.
use Rattle.std.specs.Prelude.{◌≡◌, ◌<◌, ◌+◌, ℕ, List, [], ◌++◌, ◌∷◌, All, length, Option, Some, None}
use Rattle.weighted_relations.specs.declared.Arc.{Arc}
use Rattle.weighted_relations.specs.Graphs.{label}
use Rattle.weighted_relations.specs.Relations.{Relation, Same, Either, AnyOf, IsLabel}
use Rattle.weighted_relations.specs.Machines.{Machine, From}
use Rattle.lexicon_trees.specs.declared.entries.Entry.{Entry}
use Rattle.lexicon_trees.specs.Entries.{ReadsEntry}
use Rattle.rewrite_rules.specs.declared.few_readings.Begun.{Begun}

-- these before what is read from a state
pub record Continued (m : Machine) (x0 y0 : List ℕ) (w0 s : ℕ) (x y : List ℕ) (w : ℕ) : Type 0 where
  pub input : List ℕ
  pub output : List ℕ
  pub more : ℕ
  pub reads : x ≡ x0 ++ input
  pub writes : y ≡ y0 ++ output
  pub weighs : w ≡ w0 + more
  pub rest : From m s input output more

abbrev pub ReadsFrom : Machine → Entry → Option ℕ → Relation
ReadsFrom m e None = ReadsEntry e
ReadsFrom m e (Some s) = Continued m e.input.items e.output.items e.weight s

-- what a path that was begun leads to
abbrev pub ReadsOn : Machine → Begun → Relation
ReadsOn m b = ReadsFrom m b.so_far b.state

abbrev pub IsWithin : Machine → Option ℕ → Type 0
IsWithin m None = Unit {0}
IsWithin m (Some s) = s < length m.arcs

-- it has labels, and has come to a state
pub record IsBegun (m : Machine) (b : Begun) : Type 0 where
  pub input : All IsLabel b.so_far.input.items
  pub output : All IsLabel b.so_far.output.items
  pub within : IsWithin m b.state

-- the path goes on by an arc
pub record IsArcOn (e : Entry) (a : Arc) (b : Begun) : Type 0 where
  pub input : b.so_far.input.items ≡ e.input.items ++ label a.input []
  pub output : b.so_far.output.items ≡ e.output.items ++ label a.output []
  pub weight : b.so_far.weight ≡ e.weight + a.weight
  pub state : b.state ≡ Some a.next

-- the path ends with this weight more
pub record IsEnd (e : Entry) (w : ℕ) (b : Begun) : Type 0 where
  pub input : b.so_far.input.items ≡ e.input.items
  pub output : b.so_far.output.items ≡ e.output.items
  pub weight : b.so_far.weight ≡ e.weight + w
  pub state : b.state ≡ None

-- it stands behind the others, if it ends
abbrev pub IsEndOn : Entry → Option ℕ → List Begun → List Begun → Type 0
IsEndOn e None old new = new ≡ old
IsEndOn e (Some w) old new = (b : Begun) × IsEnd e w b × (new ≡ old ++ b ∷ [])

-- the paths lead to what they did before, and to what the path that has come to the state does
pub record Branched (m : Machine) (s : ℕ) (e : Entry) (old new : List Begun) : Type 0 where
  pub reads : Same (AnyOf (ReadsOn m) new) (Either (AnyOf (ReadsOn m) old) (Continued m e.input.items e.output.items e.weight s))
  pub begun : All (IsBegun m) old → All (IsBegun m) new
