-- How far the lines of a text were cut, answered, told and written.
use Rattle.std.specs.Prelude.{◌≡◌, ◌<◌, ℕ, ◌+◌, ◌≤◌, List, [], ◌++◌, length, map, Option, Bool, true, false, Result, Ok, Err}
use Rattle.std.specs.Borrow.{Bor}
use Rattle.std.specs.Io.KnownBytes.{Appends}
use Rattle.normaliser.specs.Lines.{Answer, IsSearched, Saying}
use Rattle.normaliser.specs.Searches.{places_of}
use Rattle.normaliser.specs.declared.normalisers.Normaliser.{Normaliser}
use Rattle.place_words.specs.declared.view.Entry.{Entry}
use Rattle.shared_cascade.specs.Callers.{cascades_in, log_of, seats_of}
use Rattle.shared_cascade.specs.Episodes.{Episodes}
use Rattle.shared_cascade.specs.Tallies.{no_tally, with_all}
use Rattle.shared_cascade.specs.declared.callers.Caller.{Caller}
use Rattle.shared_cascade.specs.declared.tallies.Outcome.{Outcome}
use Rattle.normaliser.specs.Loads.{classifier_of, verbaliser_of}
use Rattle.normaliser.specs.declared.faults.LineFault.{LineFault}
use Rattle.normaliser.specs.declared.faults.LineFault.TheVariants.{Memory}
use Rattle.normaliser.specs.declared.normalisers.Spoken.{Spoken}
use Rattle.sample_lines.specs.Summary.{Said, Totals, totals_of}
use Rattle.norm_base.specs.Bytes.{AppendsPrefix}
use Rattle.shared_cascade.specs.declared.tallies.Tally.{Tally}
use Rattle.speak_core.specs.Answers.{AllSaid, Tells, written, told, all_read}
use Rattle.speak_core.specs.Reports.{AllTallied, Reporting, with_tallies}
use Rattle.speak_core.specs.declared.batches.Heard.{Heard}
use Rattle.speak_core.specs.Outputs.{said_of}
use Rattle.speak_core.specs.Plans.{says_in}
use Rattle.speak_core.specs.declared.speakers.Speaker.{Speaker}
use Rattle.text_lines.specs.Lines.{lines}

-- what a line says by a speaker
abbrev pub says_of : Speaker → Saying
says_of s = says_in s.mode (classifier_of s.normaliser) (verbaliser_of s.normaliser)

-- lines that are borrowed
abbrev pub lines_of : List (Bor (List ℕ)) → List (List ℕ)
lines_of all = map (λ line. line.now) all

-- memory was wanting for a line
abbrev pub is_short : Result Spoken LineFault → Bool
is_short (Ok spoken) = false
is_short (Err Memory) = true
is_short (Err fault) = false

-- an answer as contracts see it
abbrev pub answer_in : Result Spoken LineFault → Answer
answer_in (Ok spoken) = Ok spoken.words.items
answer_in (Err fault) = Err fault

-- what a line says of those that were heard, and what came of its looks
abbrev pub answer_of : Heard → Answer
answer_of h = answer_in h.answer

abbrev pub tally_of : Heard → Tally
tally_of h = h.tally

-- what may be told of lines that say this, up to an end
pub record TellsSome (report : Bool) (first : ℕ) (all : List (List ℕ)) (answers : List Answer) (old new : Option (List ℕ)) : Type 0 where
  pub tallies : List Tally
  pub tallied : AllTallied all answers tallies
  pub front : AppendsPrefix old new (told report first answers tallies)

-- a front of one of some texts was appended
pub record AppendsSome (Texts : List ℕ → Type 0) (old new : Option (List ℕ)) : Type 0 where
  pub text : List ℕ
  pub is : Texts text
  pub front : AppendsPrefix old new text

-- one of some texts was appended
pub record AppendsOne (Texts : List ℕ → Type 0) (old new : Option (List ℕ)) : Type 0 where
  pub text : List ℕ
  pub is : Texts text
  pub whole : Appends old new text

-- Lines were cut off the front of a text, and this follows them. They are as many as a batch may have, or all.
pub record Cuts (most : ℕ) (text : List ℕ) (cut : List (List ℕ)) (rest : List ℕ) : Type 0 where
  pub parts : lines text ≡ cut ++ lines rest
  pub few : length cut ≤ most
  pub full : length cut < most → rest ≡ []
  pub shorter : length cut + length rest ≤ length text

-- The caller c has become d: episodes are all that came into its log, and this counts what they came to. A line that isn't searched adds none.
pub record IsPart (n : Normaliser) (line : List ℕ) (c d : Caller) (t : Tally) : Type 0 where
  pub outcomes : List Outcome
  pub entries : List Entry
  pub episodes : Episodes (cascades_in n.shared) (places_of n) outcomes entries
  pub log : log_of d ≡ log_of c ++ entries
  pub counted : t ≡ with_all outcomes no_tally
  pub unsearched : (IsSearched line → ⊥) → (t ≡ no_tally) × (log_of d ≡ log_of c)
  pub places : seats_of c ≡ 1 → t.no_place ≡ 0

-- The first of some lines were answered, or all.
pub record AnswersFront (says : Saying) (all : List (List ℕ)) (answers : List Answer) (tallies : List Tally) (is_whole : Bool) : Type 0 where
  pub done : List (List ℕ)
  pub left : List (List ℕ)
  pub parts : all ≡ done ++ left
  pub said : AllSaid says done answers
  pub tallied : AllTallied done answers tallies
  pub whole : is_whole ≡ true → left ≡ []

-- The first of some lines that were heard were told, or all: these are their words, and what is told of them, numbered on from this number.
pub record TellsFront (report : Bool) (first : ℕ) (heard : List Heard) (words faults : List ℕ) (is_whole : Bool) : Type 0 where
  pub done : List Heard
  pub left : List Heard
  pub parts : heard ≡ done ++ left
  pub all_words : words ≡ written (map answer_of done)
  pub all_faults : faults ≡ told report first (map answer_of done) (map tally_of done)
  pub whole : is_whole ≡ true → left ≡ []

-- Each line's words were written, and what is told of it, numbered on from this number.
pub record Speaks (says : Saying) (report : Bool) (first : ℕ) (sum sum' : Tally) (all : List (List ℕ)) (out out' err err' : Option (List ℕ)) (was_read : Bool) : Type 0 where
  pub answers : List Answer
  pub said : AllSaid says all answers
  pub tallies : List Tally
  pub tallied : AllTallied all answers tallies
  pub words : Appends out out' (written answers)
  pub faults : Appends err err' (told report first answers tallies)
  pub total : sum' ≡ with_tallies sum tallies
  pub read : was_read ≡ all_read answers

-- and this holds of the tallies that were told
abbrev pub SpeaksBy : (List Tally → Type 0) → Saying → Bool → ℕ → Tally → Tally → List (List ℕ) → Option (List ℕ) → Option (List ℕ) → Option (List ℕ) → Option (List ℕ) → Bool → Type 0
SpeaksBy Ran says report first sum sum' all out out' err err' was_read = (spoken : Speaks says report first sum sum' all out out' err err' was_read) × Ran spoken.tallies

-- What all lines say was written as one text of their answers, and what is told of them.
pub record Writes (says : Saying) (report : Reporting) (all : List (List ℕ)) (text : List Answer → List ℕ) (out out' err err' : Option (List ℕ)) (was_read : Bool) : Type 0 where
  pub answers : List Answer
  pub said : AllSaid says all answers
  pub output : Appends out out' (text answers)
  pub faults : AppendsOne (Tells report all answers) err err'
  pub read : was_read ≡ all_read answers

-- What each line says was added to the totals of lines before, and what is told of it was written, numbered on from this number.
pub record SumsUp (says : Saying) (report : Bool) (first : ℕ) (sum sum' : Tally) (all : List (List ℕ)) (old new : Totals) (err err' : Option (List ℕ)) : Type 0 where
  pub answers : List Answer
  pub said : AllSaid says all answers
  pub added : (before : List Said) → old ≡ totals_of before → new ≡ totals_of (before ++ map said_of answers)
  pub tallies : List Tally
  pub tallied : AllTallied all answers tallies
  pub faults : Appends err err' (told report first answers tallies)
  pub total : sum' ≡ with_tallies sum tallies

-- and this holds of the tallies that were told
abbrev pub SumsUpBy : (List Tally → Type 0) → Saying → Bool → ℕ → Tally → Tally → List (List ℕ) → Totals → Totals → Option (List ℕ) → Option (List ℕ) → Type 0
SumsUpBy Ran says report first sum sum' all old new err err' = (summed : SumsUp says report first sum sum' all old new err err') × Ran summed.tallies
