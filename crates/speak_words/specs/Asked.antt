-- What words ask for.
use Rattle.std.specs.Prelude.{Bool, ℕ, ◌<◌, ◌≤◌, ◌^◌, List, Option, Some, None, codes, if◌then◌else◌, unwrap_or}
use Rattle.std.specs.Option.{option_map_or}
use Rattle.std.specs.Str.{bytes_eq}
use Rattle.std.specs.Str.Parse.{digits_value, without_leading_plus}
use Rattle.clap.specs.Walk.{is_empty}
use Rattle.clap.specs.Words.{Row, Text, fault_of, first_of, matches_of, one_of}
use Rattle.speak_words.specs.Options.{command}
use Rattle.speak_words.specs.declared.asked.Mode.{Mode}
use Rattle.speak_words.specs.declared.asked.Settings.{Settings}
use Rattle.speak_words.specs.declared.asked.Mode.TheVariants.{Speak, Classify, Check, Sample}

-- what a run does: a setup's name, or how many lines from which state
pub data Job : Type 0 where
  speak : Text → Job
  classify : Text → Job
  check : Text → Job
  sample : ℕ → ℕ → Job

abbrev pub job_of : Mode → Job
job_of (Speak setup) = speak setup.now
job_of (Classify setup) = classify setup.now
job_of (Check setup) = check setup.now
job_of (Sample count start) = sample count start

-- the job of a mode: a setup belongs to each mode but sample, and to that one none
abbrev pub job : Text → Option Text → ℕ → ℕ → Option Job
job mode (Some setup) count start =
    if bytes_eq mode (codes "speak") then Some (speak setup) else
    if bytes_eq mode (codes "classify") then Some (classify setup) else
    if bytes_eq mode (codes "check") then Some (check setup) else None
job mode None count start =
    if bytes_eq mode (codes "sample") then Some (sample count start) else None

-- what a decimal says, with or without a plus
abbrev pub number : Text → ℕ
number text = digits_value 10 (without_leading_plus text)

-- by what clap found for each option
abbrev pub job_by : List Row → Option Job
job_by rows = job
    (unwrap_or (first_of (codes "mode") rows) (codes "speak"))
    (first_of (codes "setup") rows)
    (option_map_or number (one_of (codes "count") rows) 1000)
    (option_map_or number (one_of (codes "start") rows) 1)

-- the words, of which the first is the program's name: clap takes them, and they ask for this job
unfoldable pub job_for : List Text → Option Job
job_for words = if is_empty (fault_of command words) then job_by (matches_of command words) else None

-- a flag is given
abbrev pub is_given : Text → List Row → Bool
is_given name rows = bytes_eq (unwrap_or (first_of name rows) (codes "false")) (codes "true")

-- how the job is to be done, by what clap found for each option
abbrev pub settings_by : List Row → Settings
settings_by rows = record {
  places = option_map_or number (one_of (codes "places") rows) 256;
  jobs = option_map_or number (one_of (codes "jobs") rows) 1;
  sweep = option_map_or number (one_of (codes "sweep") rows) 0;
  report = is_given (codes "report") rows;
}

-- how it is to be done by words that clap takes
unfoldable pub settings_for : List Text → Settings
settings_for words = settings_by (matches_of command words)

-- the bounds of the numbers of places, of workers and of rounds
pub record AreInBounds (settings : Settings) : Type 0 where
  pub places : (1 ≤ settings.places) × (settings.places ≤ 4096)
  pub jobs : (1 ≤ settings.jobs) × (settings.jobs ≤ 63)
  pub sweep : settings.sweep ≤ 10000

-- the bounds of what a mode needs
abbrev pub InBounds : Mode → Type 0
InBounds (Sample count start) = (1 ≤ count) × (count ≤ 100000) × (start < 2 ^ 31)
InBounds _ = Unit {0}
