-- The callers that a run leaves.
use Rattle.std.proofs.Common.{◌≡◌, ◌*◌, ◌∙◌, ℕ, List, Bool, length, ap, subst}
use Rattle.std.specs.Io.KnownBytes.{Appends}
use Rattle.std.specs.declared.option.Option.{Option}
use Rattle.normaliser.specs.Lines.{Answer, Saying}
use Rattle.normaliser.specs.declared.normalisers.Normaliser.{Normaliser}
use Rattle.shared_cascade.specs.Tallies.{no_tally}
use Rattle.shared_cascade.specs.declared.tallies.Tally.{Tally}
use Rattle.sample_lines.specs.Summary.{Totals}
use Rattle.speak_words.specs.declared.asked.Settings.{Settings}
use Rattle.speak_core.specs.Answers.{AllSaid, told}
use Rattle.speak_core.specs.Crews.{AreSeated, HasRun, HaveRun, IsCrewOf, seats_for}
use Rattle.speak_core.specs.Left.{Leaves}
use Rattle.speak_core.specs.Parts.{SpeaksBy, SumsUpBy}
use Rattle.speak_core.specs.Reports.{AllTallied, TellsAlone, batches_of, end_text, if_wanted, reporting_of, swept_sum, with_tallies}
use Rattle.speak_core.specs.declared.crews.Crew.{Crew}
use Rattle.speak_core.proofs.Lone.{tells_alone}
use Rattle.speak_core.proofs.Said.{told_by}

module _ (P : Saying) (n : Normaliser) (s : Settings) (crew : Crew) (still : crew.settings ≡ s) (ready : IsCrewOf n crew) (all : List (List ℕ)) (v : Bool) (wanted : v ≡ (reporting_of s).wanted) (u t : Tally) (none : u ≡ no_tally) (err emid err' : Option (List ℕ)) (count : ℕ) (counted : count ≡ length all) (sums : swept_sum crew.swept ≡ (reporting_of s).beside * batches_of (length all)) (last : Appends emid err' (if_wanted (reporting_of s).wanted (end_text (reporting_of s).beside count t crew.swept))) where
  leaves : (answers : List Answer) → AllSaid P all answers → (tallies : List Tally) → AllTallied all answers tallies → Appends err emid (told v 1 answers tallies) → t ≡ with_tallies u tallies → HasRun n crew tallies (batches_of (length all)) → Leaves P n s all crew.callers.items err err'
  leaves answers said tallies tallied faults total run = record {
    ready = ready.callers;
    count = ready.count ∙ ap (λ (x : Settings). seats_for x.jobs x.sweep) still;
    seated = subst (λ (x : Settings). AreSeated (seats_for x.jobs x.sweep) crew.callers.items) still ready.seated;
    places = ready.places ∙ ap (λ (x : Settings). x.places) still;
    answers = answers;
    said = said;
    tallies = tallies;
    tallied = tallied;
    swept = crew.swept;
    told = told_by P (reporting_of s) t all answers said tallies tallied (total ∙ ap (λ x. with_tallies x tallies) none) err emid err' (subst (λ b. Appends err emid (told b 1 answers tallies)) wanted faults) count counted crew.swept sums last;
    run = subst (λ x. HaveRun n x crew.callers.items crew.swept tallies (batches_of (length all))) still run;
    alone = subst (λ (x : Settings). x.jobs ≡ 1 → x.sweep ≡ 0 → TellsAlone tallies) still (tells_alone n crew.settings crew.callers.items crew.swept tallies (batches_of (length all)) ready.count ready.seated run);
  }

  -- after the lines of an input
  pub input_leaves : (out out' : Option (List ℕ)) (r : Bool) → SpeaksBy (λ ts. HasRun n crew ts (batches_of (length all))) P v 1 u t all out out' err emid r → Leaves P n s all crew.callers.items err err'
  input_leaves out out' r h = leaves h.0.answers h.0.said h.0.tallies h.0.tallied h.0.faults h.0.total h.1

  -- after those of a sample
  pub sample_leaves : (old new : Totals) → SumsUpBy (λ ts. HasRun n crew ts (batches_of (length all))) P v 1 u t all old new err emid → Leaves P n s all crew.callers.items err err'
  sample_leaves old new h = leaves h.0.answers h.0.said h.0.tallies h.0.tallied h.0.faults h.0.total h.1
