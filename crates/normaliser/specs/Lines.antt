-- What a line is classified as, by the classifier's relation alone.
use Rattle.std.specs.Prelude.{◌≡◌, ◌<◌, ◌≤◌, ℕ, List, [], None, Some, Ok, Err, Result, length, slice_get}
use Rattle.weighted_relations.specs.Least.{Least}
use Rattle.weighted_relations.specs.Relations.{Relation}
use Rattle.normaliser.specs.declared.faults.LineFault.{LineFault}
use Rattle.normaliser.specs.declared.faults.LineFault.TheVariants.{NulByte, LongLine, NoPath, Memory}
use Rattle.normaliser.specs.declared.normalisers.Spoken.{Spoken}

-- what is said of a line, or its first fault
abbrev pub Answer : Type 0
Answer = Result (List ℕ) LineFault

-- a relation of lines and answers
abbrev pub Saying : Type 1
Saying = List ℕ → Answer → Type 0

-- a line without a byte 0
abbrev pub HasNoZero : List ℕ → Type 0
HasNoZero line = (k : ℕ) → slice_get line k ≡ Some 0 → ⊥

-- the place of the first byte 0, from 0
pub record IsFirstZero (line : List ℕ) (at : ℕ) : Type 0 where
  pub zero : slice_get line at ≡ Some 0
  pub first : (k : ℕ) → k < at → slice_get line k ≡ Some 0 → ⊥

-- a line that is looked up
pub record IsSearched (line : List ℕ) : Type 0 where
  pub some : 0 < length line
  pub no_zero : HasNoZero line
  pub short : length line ≤ 16384

-- the line is looked up, and this is the output of its least reading
pub record IsClassifiedAs (C : Relation) (line y : List ℕ) : Type 0 where
  pub searched : IsSearched line
  pub weight : ℕ
  pub least : Least C (λ x. x ≡ line) (Some (weight, y))

-- What one line is classified as: an empty line as no bytes; any other as its first fault in this order, or as the output of its least reading.
pub data Classified (C : Relation) (line : List ℕ) : Answer → Type 0 where
  empty : line ≡ [] → Classified C line (Ok [])
  nul_byte : (at : ℕ) → IsFirstZero line at → Classified C line (Err (NulByte at))
  long_line : HasNoZero line → 16384 < length line → Classified C line (Err LongLine)
  no_path : IsSearched line → Least C (λ x. x ≡ line) None → Classified C line (Err NoPath)
  found : (y : List ℕ) → IsClassifiedAs C line y → Classified C line (Ok y)

-- what a call answers of a line; want of memory says nothing of it
abbrev pub IsSaid : Saying → List ℕ → Result Spoken LineFault → Type 0
IsSaid says line (Ok spoken) = says line (Ok spoken.words.items)
IsSaid says line (Err Memory) = Unit {0}
IsSaid says line (Err fault) = says line (Err fault)
