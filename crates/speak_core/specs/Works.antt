-- What is left to do for a job once all is loaded.
use Rattle.std.specs.Prelude.{◌≡◌, ◌⊎◌, ℕ, List, [], Option, Result, Ok, Err, Bool, true, false}
use Rattle.norm_base.specs.Counts.{Rose}
use Rattle.normaliser.specs.Lines.{Answer, Saying}
use Rattle.speak_words.specs.Asked.{Job}
use Rattle.speak_words.specs.declared.asked.Settings.{Settings}
use Rattle.text_lines.specs.Lines.{lines}
use Rattle.speak_core.specs.Answers.{AllSaid, written}
use Rattle.shared_cascade.specs.declared.callers.Caller.{Caller}
use Rattle.speak_core.specs.Left.{JobLeaves, Leaves}
use Rattle.speak_core.specs.Loaded.{ChecksBy, IsLoadedBy, SpeaksBy}
use Rattle.speak_core.specs.Outputs.{lines_for, out_text, reports_for, sample_lines, summary_of}
use Rattle.speak_core.specs.Parts.{says_of}
use Rattle.speak_core.specs.Plans.{Plan, saying_of}
use Rattle.speak_core.specs.Reports.{Reporting, no_reporting}
use Rattle.speak_core.specs.declared.stop.Stop.{Stop}
use Rattle.speak_core.specs.declared.stop.Stop.TheVariants.{Outside, Memory}
use Rattle.speak_core.specs.declared.works.Work.{Work}
use Rattle.speak_core.specs.declared.works.Work.TheVariants.{Input, Checked, Sampled}

-- a line says nothing
abbrev pub SaysNothing : Saying
SaysNothing line answer = ⊥

abbrev pub work_says : Work → Saying
work_says (Input loaded) = says_of loaded.speaker
work_says (Checked text) = SaysNothing
work_says (Sampled sample) = says_of sample.loaded.speaker

abbrev pub work_lines : Work → List ℕ → List (List ℕ)
work_lines (Input loaded) input = lines input
work_lines (Checked text) input = []
work_lines (Sampled sample) input = sample_lines sample.count sample.start

abbrev pub work_text : Work → List Answer → List ℕ
work_text (Input loaded) answers = written answers
work_text (Checked text) answers = text.items
work_text (Sampled sample) answers = summary_of answers

-- a speaker's callers may be given lines, by these settings
abbrev pub CanBeDone : Settings → Work → Type 0
CanBeDone settings (Input loaded) = IsLoadedBy settings loaded
CanBeDone settings (Checked text) = Unit {0}
CanBeDone settings (Sampled sample) = IsLoadedBy settings sample.loaded

-- what it leaves of callers: none where only sizes are told
abbrev pub work_leaves : Work → Settings → List ℕ → List Caller → Option (List ℕ) → Option (List ℕ) → Type 0
work_leaves (Input loaded) settings input callers err err' = Leaves (says_of loaded.speaker) loaded.speaker.normaliser settings (lines input) callers err err'
work_leaves (Checked text) settings input callers err err' = callers ≡ []
work_leaves (Sampled sample) settings input callers err err' = Leaves (says_of sample.loaded.speaker) sample.loaded.speaker.normaliser settings (sample_lines sample.count sample.start) callers err err'

-- whether the work reads the input
abbrev pub work_reads : Work → Bool
work_reads (Input loaded) = true
work_reads (Checked text) = false
work_reads (Sampled sample) = false

-- what the work reports, where this is wanted
abbrev pub work_reports : Work → Reporting → Reporting
work_reports (Input loaded) report = report
work_reports (Checked text) report = no_reporting
work_reports (Sampled sample) report = report

-- what a plan comes to: the lines of the input, the sizes of its rules, or the lines of a sample
abbrev pub InputBy : Plan → Work → Type 0
InputBy plan (Input loaded) = SpeaksBy plan loaded
InputBy plan (Checked text) = ⊥
InputBy plan (Sampled sample) = ⊥

abbrev pub CheckedBy : Plan → Work → Type 0
CheckedBy plan (Input loaded) = ⊥
CheckedBy plan (Checked text) = ChecksBy plan text
CheckedBy plan (Sampled sample) = ⊥

abbrev pub SampledBy : ℕ → ℕ → Plan → Work → Type 0
SampledBy count start plan (Input loaded) = ⊥
SampledBy count start plan (Checked text) = ⊥
SampledBy count start plan (Sampled sample) = SpeaksBy plan sample.loaded × (sample.count ≡ count) × (sample.start ≡ start)

-- By this work the lines of a job say what they say by its plan, and what it writes is written.
pub record Does (job : Job) (plan : Plan) (work : Work) : Type 0 where
  pub by_plan : (input : List ℕ) (answers : List Answer) → AllSaid (work_says work) (work_lines work input) answers → AllSaid (saying_of plan) (lines_for job input) answers
  pub by_work : (input : List ℕ) (answers : List Answer) → AllSaid (saying_of plan) (lines_for job input) answers → AllSaid (work_says work) (work_lines work input) answers
  pub text : (answers : List Answer) → work_text work answers ≡ out_text job plan answers
  pub lines : (input : List ℕ) → work_lines work input ≡ lines_for job input
  pub reports : (report : Reporting) → work_reports work report ≡ reports_for job report
  pub leaves : (settings : Settings) (input : List ℕ) (callers : List Caller) (err err' : Option (List ℕ)) → work_leaves work settings input callers err err' → JobLeaves job plan settings input callers err err'

-- The counts of the source and the two sinks: all stay where the work ends well or the input is too long, and one rose where it stops at an
-- outside fault.
abbrev pub WorkCounts : {T : Type 0} → ℕ → ℕ → ℕ → ℕ → ℕ → ℕ → Result T Stop → Type 0
WorkCounts source source' out out' err err' (Ok x) = (source' ≡ source) × (out' ≡ out) × (err' ≡ err)
WorkCounts source source' out out' err err' (Err Outside) = Rose source source' ⊎ (Rose out out' ⊎ Rose err err')
WorkCounts source source' out out' err err' (Err Memory) = Unit {0}
WorkCounts source source' out out' err err' (Err stop) = (source' ≡ source) × (out' ≡ out) × (err' ≡ err)
