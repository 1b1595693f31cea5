-- What a run owes its two sinks.
use Rattle.std.specs.Prelude.{ℕ, List, [], Option, String, Bool}
use Rattle.std.specs.declared.alloc.Global.{Global}
use Rattle.norm_base.specs.Files.{Files}
use Rattle.normaliser.specs.Lines.{Answer}
use Rattle.speak_core.specs.Accepted.{Accepted, AskForNone}
use Rattle.speak_core.specs.Answers.{AllSaid, Tells}
use Rattle.speak_core.specs.Devices.{Observed, OfInput}
use Rattle.speak_core.specs.Outputs.{lines_for, out_text, reports_for}
use Rattle.speak_core.specs.Parts.{Writes}
use Rattle.speak_core.specs.Plans.{Plan, saying_of}
use Rattle.speak_core.specs.Reports.{Reporting, no_reporting, reporting_of}
use Rattle.speak_core.specs.Requests.{settings_in}

-- the lines of a run, with what they say, and what it reports
pub record Spoke : Type 0 where
  pub report : Reporting
  pub lines : List (List ℕ)
  pub answers : List Answer

abbrev pub spoke_nothing : Spoke
spoke_nothing = record { report = no_reporting; lines = []; answers = [] }

-- What may be told of the lines of a run.
abbrev pub Told : Spoke → List ℕ → Type 0
Told s text = Tells s.report s.lines s.answers text

-- Owed words files input output spoke: nothing where the words or the files are refused; else what the job writes of what its
-- lines say, and the fault of each line that is refused, with a report if it is wanted.
pub data Owed (words : List (String Global)) (files : Files) (input : List ℕ) : List ℕ → Spoke → Type 0 where
  nothing : AskForNone words files → Owed words files input [] spoke_nothing
  of_job : (plan : Plan) (answers : List Answer) (accepted : Accepted words files plan) → AllSaid (saying_of plan) (lines_for accepted.job input) answers
      → Owed words files input (out_text accepted.job plan answers) (record { report = reports_for accepted.job (reporting_of (settings_in words)); lines = lines_for accepted.job input; answers = answers })

-- this holds of all that is owed, where the files and the input were told
abbrev pub OfOwed : List (String Global) → Option Files → Option (List ℕ) → (List ℕ → Spoke → Type 0) → Type 0
OfOwed words files left P = OfInput files left (λ known input. (output : List ℕ) (spoke : Spoke) → Owed words known input output spoke → P output spoke)

-- The words and the files are accepted, and all that is owed was written, by what each line says by the plan that they ask for.
-- Each line was read, or not.
pub record SpeaksInput (words : List (String Global)) (d : Observed) (is_read : Bool) (files : Files) (input : List ℕ) : Type 0 where
  pub plan : Plan
  pub accepted : Accepted words files plan
  pub writes : Writes (saying_of plan) (reports_for accepted.job (reporting_of (settings_in words))) (lines_for accepted.job input) (out_text accepted.job plan) d.before.out.held d.after.out.held d.before.err.held d.after.err.held is_read

-- so it is of the files and the input, where both were told
abbrev pub SpeaksAll : List (String Global) → Observed → Bool → Type 0
SpeaksAll words d is_read = OfInput d.before.shelf.files d.before.source.left (SpeaksInput words d is_read)
