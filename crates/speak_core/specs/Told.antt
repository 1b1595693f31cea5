-- What stands last in the errors.
use Rattle.std.specs.Prelude.{◌≡◌, ◌⊎◌, ℕ, List, [], Option, None, IsSomeAnd, String}
use Rattle.std.specs.Io.KnownBytes.{Appends}
use Rattle.std.specs.declared.alloc.Global.{Global}
use Rattle.norm_base.specs.Bytes.{AppendsPrefix}
use Rattle.norm_base.specs.Counts.{Rose}
use Rattle.norm_base.specs.Files.{Files}
use Rattle.speak_core.specs.Accepted.{Refused}
use Rattle.speak_core.specs.Requests.{job_in}
use Rattle.speak_core.specs.Devices.{Observed, OfInput, SinkSeen, SomeRose}
use Rattle.speak_core.specs.Inputs.{GaveMore}
use Rattle.speak_core.specs.Owed.{Owed, Spoke, Told}
use Rattle.speak_core.specs.Parts.{AppendsSome}
use Rattle.speak_core.specs.Stops.{text_of}
use Rattle.speak_core.specs.declared.stop.Stop.{Stop}
use Rattle.speak_core.specs.declared.stop.Stop.TheVariants.{Words, Outside, TooLong, Memory}

-- a prefix of what may be told of the lines, and then a text
pub record TellsThen (old new : Option (List ℕ)) (spoke : Spoke) (text : List ℕ) : Type 0 where
  pub between : Option (List ℕ)
  pub lines : AppendsSome (Told spoke) old between
  pub last : Appends between new text

-- a prefix of what may be told of the lines, and then a prefix of a text
pub record TellsThenPrefix (old new : Option (List ℕ)) (spoke : Spoke) (text : List ℕ) : Type 0 where
  pub between : Option (List ℕ)
  pub lines : AppendsSome (Told spoke) old between
  pub last : AppendsPrefix between new text

-- a prefix of what may be told of the lines, and then a text; a prefix of the text alone only where the count rose
pub record TellsLast (before after : SinkSeen) (spoke : Spoke) (text : List ℕ) : Type 0 where
  pub whole : Rose before.faults after.faults ⊎ TellsThen before.held after.held spoke text
  pub front : TellsThenPrefix before.held after.held spoke text

-- what is told of a stop, the whole text or a prefix of it where the count rose, unless the status is that of want of memory
pub record TellsStop (status : ℕ) (before after : SinkSeen) (stop : Stop) : Type 0 where
  pub whole : (status ≡ 5) ⊎ (Rose before.faults after.faults ⊎ Appends before.held after.held (text_of stop))
  pub front : (status ≡ 5) ⊎ AppendsPrefix before.held after.held (text_of stop)

-- A text that a run may tell last, with its cause: that the words are wrong, that what they name is refused, that a count rose, or that the input is too long. Where all is well it tells nothing.
pub data MayTell (words : List (String Global)) (d : Observed) (files : Files) (input : List ℕ) : List ℕ → Type 0 where
  no_text : MayTell words d files input []
  wrong_words : job_in words ≡ None → MayTell words d files input (text_of Words)
  refusal : (text : List ℕ) → Refused words files text → MayTell words d files input text
  outside : SomeRose d → MayTell words d files input (text_of Outside)
  too_long : IsSomeAnd d.after.source.left (λ now. GaveMore input now) → MayTell words d files input (text_of TooLong)

-- a prefix of a text, and then a prefix of the text that memory is wanting
pub record TellsTwice (old new : Option (List ℕ)) (text : List ℕ) : Type 0 where
  pub between : Option (List ℕ)
  pub first : AppendsPrefix old between text
  pub memory : AppendsPrefix between new (text_of Memory)

-- For want of memory: a prefix of what may be told of the lines, a prefix of what the run may tell last, and then a prefix of the
-- text that memory is wanting.
pub record TellsShortOf (words : List (String Global)) (d : Observed) (files : Files) (input : List ℕ) (spoke : Spoke) : Type 0 where
  pub between : Option (List ℕ)
  pub text : List ℕ
  pub cause : MayTell words d files input text
  pub lines : AppendsSome (Told spoke) d.before.err.held between
  pub last : TellsTwice between d.after.err.held text

-- so it is whatever is owed of the files and the input, where both were told
abbrev pub TellsShort : List (String Global) → Observed → Type 0
TellsShort words d = OfInput d.before.shelf.files d.before.source.left (λ files input. (output : List ℕ) (spoke : Spoke) → Owed words files input output spoke → TellsShortOf words d files input spoke)
