-- What the entries of a lexicon read and write.
use Rattle.std.specs.Prelude.{◌≡◌, ◌<◌, ◌^◌, ℕ, List, All}
use Rattle.weighted_relations.specs.Relations.{Relation, IsLabel}
use Rattle.lexicon_trees.specs.declared.entries.Entry.{Entry}

-- one string that is read, one that is written, and a weight
pub record One (input output : List ℕ) (weight : ℕ) (x y : List ℕ) (w : ℕ) : Type 0 where
  pub reads : x ≡ input
  pub writes : y ≡ output
  pub weighs : w ≡ weight

-- the one reading of an entry
abbrev pub ReadsEntry : Entry → Relation
ReadsEntry e = One e.input.items e.output.items e.weight

-- its labels are no empty ones, and its weight is one that a transducer can hold
pub record IsEntry (e : Entry) : Type 0 where
  pub input : All IsLabel e.input.items
  pub output : All IsLabel e.output.items
  pub weight : e.weight < 2 ^ 54
