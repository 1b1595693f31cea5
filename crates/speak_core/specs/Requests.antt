-- The job that words ask for, and what it wants to be loaded.
use Rattle.std.specs.Prelude.{ℕ, List, map, codes, String}
use Rattle.std.specs.String.{string_bytes}
use Rattle.std.specs.declared.option.Option.{Option}
use Rattle.std.specs.declared.alloc.Global.{Global}
use Rattle.norm_base.specs.Files.{Files}
use Rattle.sample_lines.specs.Toy.{toy_files}
use Rattle.speak_words.specs.Asked.{Job, check, classify, job_for, sample, settings_for, speak}
use Rattle.speak_words.specs.declared.asked.Settings.{Settings}
use Rattle.speak_core.specs.declared.requests.Request.{Request as NamedRequest}
use Rattle.speak_core.specs.declared.requests.Mode.{Mode}
use Rattle.speak_core.specs.declared.requests.Mode.TheVariants.{Classify, Speak}

-- the job of these words, where they are the command's
abbrev pub job_in : List (String Global) → Option Job
job_in words = job_for (map string_bytes words)

-- how these words want it done
abbrev pub settings_in : List (String Global) → Settings
settings_in words = settings_for (map string_bytes words)

-- the name of a setup, and what is to be said of each line
pub record Request : Type 0 where
  pub setup : List ℕ
  pub mode : Mode

-- what a job wants to be loaded
abbrev pub request_for : Job → Request
request_for (speak setup) = record { setup = setup; mode = Speak }
request_for (classify setup) = record { setup = setup; mode = Classify }
request_for (check setup) = record { setup = setup; mode = Speak }
request_for (sample count start) = record { setup = codes "toy.setup"; mode = Speak }

-- the files that it is loaded from: the sample has its own
abbrev pub files_for : Job → Files → Files
files_for (speak setup) files = files
files_for (classify setup) files = files
files_for (check setup) files = files
files_for (sample count start) files = toy_files

-- a request as contracts see it
abbrev pub request_of : NamedRequest → Request
request_of r = record { setup = r.setup.now; mode = r.mode }
