-- A tree while it grows.
use Rattle.std.specs.Prelude.{◌≡◌, ◌<◌, ◌≤◌, ◌+◌, ℕ, List, [], ◌∷◌, ◌++◌, length, get_or, Option, Some, None, slice_get, slice_set}
use Rattle.weighted_relations.specs.declared.Arc.{Arc}
use Rattle.weighted_relations.specs.Graphs.{label}
use Rattle.weighted_relations.specs.Relations.{Relation, Same, Either}
use Rattle.weighted_relations.specs.Machines.{IsArc, Reads}
use Rattle.fst_core.specs.States.{States, as_machine}
use Rattle.fst_core.specs.Top.{Under}
use Rattle.lexicon_trees.specs.declared.entries.Entry.{Entry}
use Rattle.lexicon_trees.specs.declared.trees.Way.{Way}
use Rattle.lexicon_trees.specs.declared.trees.Way.TheVariants.{Copied, Read, Written}
use Rattle.lexicon_trees.specs.Entries.{One, ReadsEntry}
use Rattle.lexicon_trees.specs.Shapes.{Before, IsOrdered}

-- the relation of the paths from the first state
abbrev pub TreeReads : States → Relation
TreeReads b = Reads (as_machine 0 b)

-- what a path from the first state reads and writes to come to a state
pub data Comes (arcs : List (List Arc)) : ℕ → List ℕ → List ℕ → Type 0 where
  here : Comes arcs 0 [] []
  on : {s : ℕ} {x y : List ℕ} (k : ℕ) (a : Arc) → Comes arcs s x y → IsArc arcs s k a → Comes arcs a.next (x ++ label a.input []) (y ++ label a.output [])

-- what each path to a state reads and writes
abbrev pub Place : Type 0
Place = List ℕ × List ℕ

abbrev pub first_place : Place
first_place = ([], [])

abbrev pub place_of : List Place → ℕ → Place
place_of places s = get_or places s first_place

-- the place where an arc leads to
abbrev pub place_after : Place → Arc → Place
place_after p a = (p.0 ++ label a.input [], p.1 ++ label a.output [])

-- an arc of a tree with these places
pub record ArcLeads (places : List Place) (s : ℕ) (a : Arc) : Type 0 where
  pub input : a.input ≤ 257
  pub output : a.output ≤ 257
  pub weight : a.weight ≡ 0
  pub next : a.next < length places
  pub place : place_of places a.next ≡ place_after (place_of places s) a

-- Each state has one place, whatever path leads to it.
pub record IsTree (b : States) : Type 0 where
  pub places : List Place
  pub count : length places ≡ length b.arcs
  pub ends : length b.finals ≡ length b.arcs
  pub some : 0 < length b.arcs
  pub root : place_of places 0 ≡ first_place
  pub arcs : (s k : ℕ) (a : Arc) → IsArc b.arcs s k a → ArcLeads places s a
  pub comes : (s : ℕ) → s < length b.arcs → Comes b.arcs s (place_of places s).0 (place_of places s).1
  pub ordered : (s : ℕ) → IsOrdered (get_or b.arcs s [])

-- one state, which isn't final
abbrev pub one_state : States
one_state = record { arcs = [] ∷ []; finals = None ∷ [] }

-- other arcs of a state, and a new state after the others
abbrev pub grown : States → ℕ → List Arc → List Arc → Option ℕ → States
grown b s row more last = record { arcs = slice_set b.arcs s row ++ more ∷ []; finals = b.finals ++ last ∷ [] }

-- the first of the arcs alone
abbrev pub head_of : List Arc → List Arc
head_of [] = []
head_of (a ∷ row) = a ∷ []

-- the first so many arcs stand before these labels, and the others don't
pub record Splits (row : List Arc) (i o place : ℕ) : Type 0 where
  pub within : place ≤ length row
  pub below : (k : ℕ) (a : Arc) → k < place → slice_get row k ≡ Some a → Before a.input a.output i o
  pub above : (k : ℕ) (a : Arc) → place ≤ k → slice_get row k ≡ Some a → Before a.input a.output i o → ⊥

-- an arc with these labels is among these, and leads there
pub record LeadsTo (row : List Arc) (i o next : ℕ) : Type 0 where
  pub place : ℕ
  pub arc : Arc
  pub there : slice_get row place ≡ Some arc
  pub input : arc.input ≡ i
  pub output : arc.output ≡ o
  pub leads : arc.next ≡ next

-- an arc with these labels isn't among these, and has its place here
pub record FitsAt (row : List Arc) (i o place : ℕ) : Type 0 where
  pub within : place ≤ length row
  pub below : (k : ℕ) (a : Arc) → k < place → slice_get row k ≡ Some a → Before a.input a.output i o
  pub above : (k : ℕ) (a : Arc) → place ≤ k → slice_get row k ≡ Some a → Before i o a.input a.output

-- labels lead from one state to another, and nothing that was read or written before has changed
pub record Led (old new : States) (s : ℕ) (x y : List ℕ) (next : ℕ) : Type 0 where
  pub tree : IsTree new
  pub within : next < length new.arcs
  pub same : Same (TreeReads new) (TreeReads old)
  pub kept : (t : ℕ) (u v : List ℕ) → Comes old.arcs t u v → Comes new.arcs t u v
  pub there : (u v : List ℕ) → Comes old.arcs s u v → Comes new.arcs next (u ++ x) (v ++ y)
  pub under : (t : ℕ) → Under t old → Under t new

-- paths that come to a state end there at this weight, too
pub record Ended (old new : States) (s w : ℕ) : Type 0 where
  pub tree : IsTree new
  pub reads : (x y : List ℕ) → Comes old.arcs s x y → Same (TreeReads new) (Either (TreeReads old) (One x y w))
  pub under : (t : ℕ) → Under t old → w ≤ t → Under t new

-- the readings of an entry, too
pub record Added (old new : States) (e : Entry) : Type 0 where
  pub tree : IsTree new
  pub reads : Same (TreeReads new) (Either (TreeReads old) (ReadsEntry e))
  pub under : (t : ℕ) → Under t old → e.weight ≤ t → Under t new

-- what is read of labels, and what is written
abbrev pub read_of : Way → ℕ → ℕ
read_of Copied n = n
read_of Read n = n
read_of Written n = 0

abbrev pub written_of : Way → ℕ → ℕ
written_of Copied n = n
written_of Read n = 0
written_of Written n = n

abbrev pub all_read : Way → List ℕ → List ℕ
all_read Copied x = x
all_read Read x = x
all_read Written x = []

abbrev pub all_written : Way → List ℕ → List ℕ
all_written Copied x = x
all_written Read x = []
all_written Written x = x
