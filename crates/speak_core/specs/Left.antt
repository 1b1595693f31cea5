-- The callers that a run leaves, and what they have done.
use Rattle.std.specs.Prelude.{◌≡◌, ℕ, All, Bool, List, [], Option, String, false, length, true}
use Rattle.std.specs.declared.alloc.Global.{Global}
use Rattle.norm_base.specs.Files.{Files}
use Rattle.speak_words.specs.Asked.{Job, check}
use Rattle.speak_core.specs.Accepted.{Accepted}
use Rattle.speak_core.specs.Outputs.{lines_for}
use Rattle.speak_core.specs.Requests.{settings_in}
use Rattle.std.specs.Io.KnownBytes.{Appends}
use Rattle.weighted_relations.specs.Expressions.{Rel}
use Rattle.weighted_relations.specs.Relations.{Cascade, Same}
use Rattle.normaliser.specs.Lines.{Answer, Saying}
use Rattle.normaliser.specs.Loads.{classifier_of, verbaliser_of}
use Rattle.normaliser.specs.Searches.{IsCallerOf, places_of}
use Rattle.normaliser.specs.declared.normalisers.Normaliser.{Normaliser}
use Rattle.shared_cascade.specs.declared.callers.Caller.{Caller}
use Rattle.shared_cascade.specs.declared.sweeping.Swept.{Swept}
use Rattle.shared_cascade.specs.declared.tallies.Tally.{Tally}
use Rattle.speak_words.specs.declared.asked.Settings.{Settings}
use Rattle.speak_core.specs.Answers.{AllSaid, told_all}
use Rattle.speak_core.specs.Crews.{AreSeated, HaveRun, seats_for}
use Rattle.speak_core.specs.Plans.{Plan, saying_of}
use Rattle.speak_core.specs.Reports.{AllTallied, TellsAlone, batches_of, reporting_of}

-- the two cascades of a normaliser have the relations of a plan's rules
pub record IsOfPlan (n : Normaliser) (plan : Plan) : Type 0 where
  pub classifier : Same (classifier_of n) (Cascade Rel plan.classifier)
  pub verbaliser : Same (verbaliser_of n) (Cascade Rel plan.verbaliser)

-- After lines that say this: the callers were opened together, a seat for each worker and one for the sweeper where there are rounds to sweep, and
-- are ready. What was told of the lines has the numbers that the callers' logs tell of, and with one job and no sweep what one caller alone tells.
pub record Leaves (says : Saying) (n : Normaliser) (s : Settings) (lines : List (List ℕ)) (callers : List Caller) (err err' : Option (List ℕ)) : Type 0 where
  pub ready : All (IsCallerOf n) callers
  pub count : length callers ≡ seats_for s.jobs s.sweep
  pub seated : AreSeated (seats_for s.jobs s.sweep) callers
  pub places : places_of n ≡ s.places
  pub answers : List Answer
  pub said : AllSaid says lines answers
  pub tallies : List Tally
  pub tallied : AllTallied lines answers tallies
  pub swept : Swept
  pub told : Appends err err' (told_all (reporting_of s) answers tallies swept)
  pub run : HaveRun n s callers swept tallies (batches_of (length lines))
  pub alone : s.jobs ≡ 1 → s.sweep ≡ 0 → TellsAlone tallies

-- whether lines are handled
abbrev pub handles_lines : Job → Bool
handles_lines (check setup) = false
handles_lines _ = true

-- A job leaves the callers of its lines, at a table of its plan's cascades; without lines it leaves none.
pub record JobLeaves (job : Job) (plan : Plan) (s : Settings) (input : List ℕ) (callers : List Caller) (err err' : Option (List ℕ)) : Type 0 where
  pub of_lines : handles_lines job ≡ true → (n : Normaliser) × IsOfPlan n plan × Leaves (saying_of plan) n s (lines_for job input) callers err err'
  pub of_none : handles_lines job ≡ false → callers ≡ []

-- so it is of the job that is asked for
pub record LeavesCallers (words : List (String Global)) (files : Files) (input : List ℕ) (callers : List Caller) (err err' : Option (List ℕ)) : Type 0 where
  pub plan : Plan
  pub accepted : Accepted words files plan
  pub left : JobLeaves accepted.job plan (settings_in words) input callers err err'
