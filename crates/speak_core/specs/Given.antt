-- How much of its input a source gave, by what was written until then.
use Rattle.std.specs.Prelude.{◌≡◌, ◌==◌, ◌≤◌, ℕ, suc, zero, ◌+◌, ◌*◌, List, [], ◌∷◌, ◌++◌, Option, IsSomeAnd, String, length, take, true, if◌then◌else◌}
use Rattle.std.specs.Io.KnownBytes.{Appends}
use Rattle.std.specs.declared.alloc.Global.{Global}
use Rattle.norm_base.specs.Files.{Files}
use Rattle.normaliser.specs.Lines.{Answer}
use Rattle.speak_core.specs.Accepted.{Accepted, AskForNone}
use Rattle.speak_core.specs.Answers.{AllSaid, written}
use Rattle.speak_core.specs.Devices.{Observed, OfInput}
use Rattle.speak_core.specs.Outputs.{lines_for, reads_input}
use Rattle.speak_core.specs.Plans.{Plan, saying_of}

-- the first lines of an input, with their ends: so many, or all
abbrev pub first_lines : ℕ → List ℕ → List ℕ
first_lines n [] = []
first_lines zero (b ∷ bytes) = []
first_lines (suc n) (b ∷ bytes) = b ∷ (if b == 10 then first_lines n bytes else first_lines (suc n) bytes)

-- of an input of which this is left, so many bytes at most were given
abbrev pub GaveAtMost : ℕ → List ℕ → List ℕ → Type 0
GaveAtMost n input left = length input ≤ length left + n

-- known bytes grew by a text at least
pub record AppendsAtLeast (old new : Option (List ℕ)) (text : List ℕ) : Type 0 where
  pub more : List ℕ
  pub grown : Appends old new (text ++ more)

-- The words of so many whole batches were written. No more of the input was given than these lines, those of one batch more, and 65,536
-- bytes. So it is of the greatest number of batches whose words were written: with it the bound grows.
pub record GivesBatches (answers : List Answer) (input left : List ℕ) (out out' : Option (List ℕ)) : Type 0 where
  pub batches : ℕ
  pub whole : 1024 * batches ≤ length answers
  pub words : AppendsAtLeast out out' (written (take (1024 * batches) answers))
  pub bound : GaveAtMost (length (first_lines (1024 * (batches + 1)) input) + 65536) input left

-- Where words and files ask for nothing that is done, nothing was given.
pub record GivesInput (words : List (String Global)) (out out' : Option (List ℕ)) (files : Files) (input left : List ℕ) : Type 0 where
  pub nothing : AskForNone words files → left ≡ input
  pub batches : (plan : Plan) (accepted : Accepted words files plan) → reads_input accepted.job ≡ true → (answers : List Answer) → AllSaid (saying_of plan) (lines_for accepted.job input) answers
      → GivesBatches answers input left out out'

-- so it is of the files and the input, where both were told
abbrev pub Gives : List (String Global) → Observed → Type 0
Gives words d = OfInput d.before.shelf.files d.before.source.left (λ files input. IsSomeAnd d.after.source.left (GivesInput words d.before.out.held d.after.out.held files input))
