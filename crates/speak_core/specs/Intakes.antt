-- What was read of an input and isn't handled yet.
use Rattle.std.specs.Prelude.{◌≡◌, ◌==◌, ◌≤◌, ℕ, ◌+◌, ◌^◌, List, [], ◌∷◌, ◌++◌, Option, IfSome, IsSomeAnd, length, if◌then◌else◌}
use Rattle.std.specs.Io.KnownBytes.{Consumes}
use Rattle.text_lines.specs.Lines.{lines}
use Rattle.speak_core.specs.Given.{GaveAtMost, first_lines}
use Rattle.speak_core.specs.declared.intakes.Intake.{Intake}

abbrev pub line_feeds : List ℕ → ℕ
line_feeds [] = 0
line_feeds (b ∷ bytes) = if b == 10 then 1 + line_feeds bytes else line_feeds bytes

-- A text of so many lines, each with its end. Whatever follows it, they stay its lines.
pub record AreWhole (count : ℕ) (text : List ℕ) : Type 0 where
  pub parts : (more : List ℕ) → lines (text ++ more) ≡ lines text ++ lines more
  pub number : length (lines text) ≡ count
  pub ends : line_feeds text ≡ count

-- Whole lines, the front of the next one as far as it was looked at, and what wasn't looked at.
pub record IsIntake (i : Intake) : Type 0 where
  pub front : List ℕ
  pub line : List ℕ
  pub rest : List ℕ
  pub parts : i.bytes.items ≡ front ++ (line ++ rest)
  pub whole : AreWhole i.lines front
  pub end : i.end ≡ length front
  pub seen : i.seen ≡ length front + length line
  pub none : line_feeds line ≡ 0
  pub few : i.lines ≤ 1024
  pub within : i.given ≤ 2 ^ 28
  pub kept : length i.bytes.items ≤ i.given

-- A source that had so much gave what was handled and what is kept, and this is left.
pub record Holds (start left : Option (List ℕ)) (handled : List ℕ) (i : Intake) : Type 0 where
  pub given : Consumes start left (handled ++ i.bytes.items)
  pub all : length handled + length i.bytes.items ≡ i.given

-- no more was given than so many bytes, by a source that tells
abbrev pub GaveOnly : ℕ → Option (List ℕ) → Option (List ℕ) → Type 0
GaveOnly n before after = IfSome before (λ had. IsSomeAnd after (GaveAtMost n had))

-- no more was given than so many lines and a read
abbrev pub GaveWithin : ℕ → Option (List ℕ) → Option (List ℕ) → Type 0
GaveWithin n start left = IfSome start (λ input. IsSomeAnd left (GaveAtMost (length (first_lines n input) + 65536) input))
