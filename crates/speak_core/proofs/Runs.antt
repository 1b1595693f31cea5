-- From the plan that was found to what a run owes.
use Rattle.std.proofs.Common.{◌≡◌, ℕ, List, None, Some, Ok, Err, Bool, true, Result, inr, length, IfSome, IfOk, IfErr, IsSomeAnd, OnOk, [], false, refl, ap, sym, ◌∙◌, subst, String, Global, arith}
use Rattle.std.proofs.KnownBytes.{Appends-nil}
use Rattle.std.specs.declared.option.Option.{Option}
use Rattle.std.specs.Io.KnownBytes.{Appends, IsAtEnd}
use Rattle.std.specs.Option.{option_map}
use Rattle.std.specs.Result.{IsErrAnd}
use Rattle.speak_words.specs.Asked.{Job}
use Rattle.norm_base.specs.Bytes.{AppendsPrefix}
use Rattle.norm_base.specs.Files.{Files}
use Rattle.norm_base.proofs.Front.{prefix_none}
use Rattle.normaliser.specs.Lines.{Answer}
use Rattle.speak_core.specs.Accepted.{Accepted, Asks, IsOnly, JobAsks, OrText, Refused}
use Rattle.speak_core.specs.Answers.{AllSaid, Tells}
use Rattle.speak_words.specs.declared.asked.Settings.{Settings}
use Rattle.speak_core.specs.Reports.{Reporting, reporting_of}
use Rattle.speak_core.specs.Given.{GivesBatches, GivesInput}
use Rattle.shared_cascade.specs.declared.callers.Caller.{Caller}
use Rattle.speak_core.specs.Left.{JobLeaves, LeavesCallers}
use Rattle.speak_core.specs.Requests.{job_in, settings_in}
use Rattle.speak_core.specs.Devices.{Observed}
use Rattle.speak_core.specs.Loaded.{Planned, StopsAs}
use Rattle.speak_core.specs.Owed.{Owed, SpeaksInput, Spoke, Told, nothing, of_job}
use Rattle.speak_core.specs.Outputs.{lines_for, out_text, reads_input, reports_for}
use Rattle.speak_core.specs.Parts.{AppendsOne, AppendsSome, Writes}
use Rattle.speak_core.specs.Plans.{Plan, saying_of}
use Rattle.speak_core.specs.Stops.{AllCounts, IsReadingStop, IsRefusalStop}
use Rattle.speak_core.specs.Works.{Does, WorkCounts, work_leaves, work_lines, work_reads, work_reports, work_says, work_text}
use Rattle.speak_core.specs.declared.stop.Stop.{Stop}
use Rattle.speak_core.specs.declared.stop.Stop.TheVariants as stop
use Rattle.speak_core.specs.declared.works.Work.{Work}
use Rattle.speak_core.proofs.Found.{stops_through}
use Rattle.speak_core.proofs.Said.{said_count, some_none}

some_and : {X : Type 0} (o : Option X) (P Q : X → Type 0) → ((x : X) → P x → Q x) → IsSomeAnd o P → IsSomeAnd o Q
some_and None P Q f h = h
some_and (Some x) P Q f h = f x h

module _ (words : List (String Global)) (job : Job) (is_job : Some job ≡ job_in words) where
  same_job : (files : Files) (asked : OrText Plan) (s : Asks words files asked) → s.job ≡ job
  same_job files asked s = let both : Some s.job ≡ Some job = sym s.is_job ∙ sym is_job in cc

  asks_only : (files : Files) (asked : OrText Plan) → IsOnly (JobAsks files job) asked → IsOnly (Asks words files) asked
  asks_only files asked o = record { found = record { job = job; is_job = sym is_job; asks = o.found }; only = λ other a. o.only other (subst (λ j. JobAsks files j other) (same_job files other a) a.asks) }

  -- what was refused of the job
  pub job_stops : (known : Option Files) (s : Stop) → IfSome known (λ files. StopsAs (JobAsks files job) s) → IfSome known (λ files. StopsAs (Asks words files) s)
  job_stops None s h = tt
  job_stops (Some files) s h = stops_through (JobAsks files job) (Asks words files) s (λ text. asks_only files (Err text)) h

  -- what is so of the job is so of that of the words
  pub of_words : (P : Job → Type 0) → P job → IfSome (job_in words) P
  of_words P h = subst (λ o. IfSome o P) is_job h

  module _ (w : Work) where
    module _ (files : Files) (l : Planned (Does job) (JobAsks files job) w) where
      same_plan : (plan : Plan) → Accepted words files plan → plan ≡ l.plan
      same_plan plan a = (let both : Ok plan ≡ Ok l.plan = (asks_only files (Ok l.plan) l.is_only).only (Ok plan) a in cc)

      -- what the lines say by a plan that is asked for they say by the work
      by_its_work : (input : List ℕ) (plan : Plan) (answers : List Answer) (a : Accepted words files plan) → AllSaid (saying_of plan) (lines_for a.job input) answers → AllSaid (work_says w) (work_lines w input) answers
      by_its_work input plan answers a said =
          l.fits.by_work input answers (subst (λ p. AllSaid (saying_of p) (lines_for job input) answers) (same_plan plan a) (subst (λ j. AllSaid (saying_of plan) (lines_for j input) answers) (same_job files (Ok plan) a) said))

      same_text : (plan : Plan) (answers : List Answer) (a : Accepted words files plan) → work_text w answers ≡ out_text a.job plan answers
      same_text plan answers a = l.fits.text answers ∙ (ap (λ p. out_text job p answers) (sym (same_plan plan a)) ∙ ap (λ j. out_text j plan answers) (sym (same_job files (Ok plan) a)))

      accepted : Accepted words files l.plan
      accepted = (asks_only files (Ok l.plan) l.is_only).found

      module _ (old new : Option (List ℕ)) (input : List ℕ) where
        owed_output : (output : List ℕ) (spoke : Spoke) → ((answers : List Answer) → AllSaid (work_says w) (work_lines w input) answers → AppendsPrefix old new (work_text w answers)) → Owed words files input output spoke → AppendsPrefix old new output
        owed_output output spoke front (nothing none) = absurd (none l.plan accepted)
        owed_output output spoke front (of_job plan answers a said) = subst (AppendsPrefix old new) (same_text plan answers a) (front answers (by_its_work input plan answers a said))

        owed_told : (report : Reporting) → reporting_of (settings_in words) ≡ report → (output : List ℕ) (spoke : Spoke) → ((answers : List Answer) → AllSaid (work_says w) (work_lines w input) answers → AppendsSome (Tells (work_reports w report) (work_lines w input) answers) old new)
            → Owed words files input output spoke → AppendsSome (Told spoke) old new
        owed_told report wants output spoke front (nothing none) = absurd (none l.plan accepted)
        owed_told report wants output spoke front (of_job plan answers a said) =
            let reports : work_reports w report ≡ reports_for a.job (reporting_of (settings_in words)) = l.fits.reports report ∙ (ap (λ j. reports_for j report) (sym (same_job files (Ok plan) a)) ∙ ap (reports_for a.job) (sym wants)) in
            let lines : work_lines w input ≡ lines_for a.job input = l.fits.lines input ∙ ap (λ j. lines_for j input) (sym (same_job files (Ok plan) a)) in
            subst (λ r. AppendsSome (Tells r (lines_for a.job input) answers) old new) reports
            (subst (λ x. AppendsSome (Tells (work_reports w report) x answers) old new) lines (front answers (by_its_work input plan answers a said)))

    pub run_output : (old new : Option (List ℕ)) (known : Option Files) (left : Option (List ℕ)) → IfSome known (λ files. Planned (Does job) (JobAsks files job) w)
        → IfSome left (λ input. (answers : List Answer) → AllSaid (work_says w) (work_lines w input) answers → AppendsPrefix old new (work_text w answers))
        → IfSome known (λ files. IfSome left (λ input. (output : List ℕ) (spoke : Spoke) → Owed words files input output spoke → AppendsPrefix old new output))
    run_output old new None left l front = tt
    run_output old new (Some files) None l front = tt
    run_output old new (Some files) (Some input) l front = λ output spoke. owed_output files l old new input output spoke front

    pub run_told : (report : Reporting) → reporting_of (settings_in words) ≡ report → (old new : Option (List ℕ)) (known : Option Files) (left : Option (List ℕ)) → IfSome known (λ files. Planned (Does job) (JobAsks files job) w)
        → IfSome left (λ input. (answers : List Answer) → AllSaid (work_says w) (work_lines w input) answers → AppendsSome (Tells (work_reports w report) (work_lines w input) answers) old new)
        → IfSome known (λ files. IfSome left (λ input. (output : List ℕ) (spoke : Spoke) → Owed words files input output spoke → AppendsSome (Told spoke) old new))
    run_told report wants old new None left l front = tt
    run_told report wants old new (Some files) None l front = tt
    run_told report wants old new (Some files) (Some input) l front = λ output spoke. owed_told files l old new input report wants output spoke front

    all_spoken : (report : Reporting) → reporting_of (settings_in words) ≡ report → (known : Option Files) (left : Option (List ℕ)) (d : Observed) (is_read : Bool) → IfSome known (λ files. Planned (Does job) (JobAsks files job) w)
        → IfSome left (λ input. Writes (work_says w) (work_reports w report) (work_lines w input) (work_text w) d.before.out.held d.after.out.held d.before.err.held d.after.err.held is_read)
        → IfSome known (λ files. IfSome left (λ input. SpeaksInput words d is_read files input))
    all_spoken report wants None left d is_read l h = tt
    all_spoken report wants (Some files) None d is_read l h = tt
    all_spoken report wants (Some files) (Some input) d is_read l h = record {
      plan = l.plan;
      accepted = record { job = job; is_job = sym is_job; asks = l.is_only.found };
      writes = record {
        answers = h.answers;
        said = l.fits.by_plan input h.answers h.said;
        output = subst (Appends d.before.out.held d.after.out.held) (l.fits.text h.answers) h.output;
        faults = subst (λ r. AppendsOne (Tells r (lines_for job input) h.answers) d.before.err.held d.after.err.held) (l.fits.reports report ∙ ap (reports_for job) (sym wants))
            (subst (λ x. AppendsOne (Tells (work_reports w report) x h.answers) d.before.err.held d.after.err.held) (l.fits.lines input) h.faults);
        read = h.read;
      };
    }

    written_of : (left : Option (List ℕ)) (P : List ℕ → Bool → Type 0) (is_read : Bool) → IfSome left (λ input. IfOk {E = Stop} (Ok is_read) (P input)) → IfSome left (λ input. P input is_read)
    written_of None P is_read h = tt
    written_of (Some input) P is_read h = h

    pub run_speaks : (report : Reporting) → reporting_of (settings_in words) ≡ report → (known : Option Files) (left : Option (List ℕ)) (d : Observed) (r : Result Bool Stop) → IfSome known (λ files. Planned (Does job) (JobAsks files job) w)
        → IfSome left (λ input. IfOk r (Writes (work_says w) (work_reports w report) (work_lines w input) (work_text w) d.before.out.held d.after.out.held d.before.err.held d.after.err.held))
        → IfOk r (λ is_read. IfSome known (λ files. IfSome left (λ input. SpeaksInput words d is_read files input)))
    run_speaks report wants known left d (Ok is_read) l h = all_spoken report wants known left d is_read l (written_of left (λ input. Writes (work_says w) (work_reports w report) (work_lines w input) (work_text w) d.before.out.held d.after.out.held d.before.err.held d.after.err.held) is_read h)
    run_speaks report wants known left d (Err s) l h = tt

    -- the callers that the work leaves
    pub run_leaves : (settings : Settings) → settings_in words ≡ settings → (callers : List Caller) (err err' : Option (List ℕ)) (known : Option Files) (left : Option (List ℕ)) (r : Result Bool Stop) → IfSome known (λ files. Planned (Does job) (JobAsks files job) w)
        → IfSome left (λ input. OnOk r (work_leaves w settings input callers err err')) → IfOk r (λ is_read. IfSome known (λ files. IfSome left (λ input. LeavesCallers words files input callers err err')))
    run_leaves settings wants callers err err' known left (Err s) l h = tt
    run_leaves settings wants callers err err' None left (Ok is_read) l h = tt
    run_leaves settings wants callers err err' (Some files) None (Ok is_read) l h = tt
    run_leaves settings wants callers err err' (Some files) (Some input) (Ok is_read) l h = record {
      plan = l.plan;
      accepted = record { job = job; is_job = sym is_job; asks = l.is_only.found };
      left = subst (λ s. JobLeaves job l.plan s input callers err err') (sym wants) (l.fits.leaves settings input callers err err' h);
    }

    -- what was given of an input that the work reads, or doesn't
    pub run_gives : (out out' : Option (List ℕ)) (known : Option Files) (left left' : Option (List ℕ)) → work_reads w ≡ reads_input job → IfSome known (λ files. Planned (Does job) (JobAsks files job) w)
        → (work_reads w ≡ true → IfSome left (λ input. IsSomeAnd left' (λ now. (answers : List Answer) → AllSaid (work_says w) (work_lines w input) answers → GivesBatches answers input now out out'))) → (work_reads w ≡ false → left' ≡ left)
        → IfSome known (λ files. IfSome left (λ input. IsSomeAnd left' (GivesInput words out out' files input)))
    run_gives out out' None left left' same l h kept = tt
    run_gives out out' (Some files) None left' same l h kept = tt
    run_gives out out' (Some files) (Some input) left' same l h kept = go (work_reads w) refl
      where
        go : (b : Bool) → work_reads w ≡ b → IsSomeAnd left' (GivesInput words out out' files input)
        go true reads = some_and left' _ _ (λ now f. record { nothing = λ none. absurd (none l.plan (accepted files l)); batches = λ plan a is answers said. f answers (by_its_work files l input plan answers a said) }) (h reads)
        go false reads = subst (λ o. IsSomeAnd o (GivesInput words out out' files input)) (sym (kept reads)) (record {
          nothing = λ none. refl;
          batches = λ plan a is answers said. absurd (let both : true ≡ false = sym is ∙ (ap reads_input (same_job files (Ok plan) a) ∙ (sym same ∙ reads)) in cc);
        })

    -- words and files that are accepted aren't refused
    pub run_accepts : (known : Option Files) → IfSome known (λ files. Planned (Does job) (JobAsks files job) w) → IfSome known (λ files. (text : List ℕ) → Refused words files text → ⊥)
    run_accepts None l = tt
    run_accepts (Some files) l = λ text a. (let both : Err text ≡ Ok l.plan = (asks_only files (Ok l.plan) l.is_only).only (Err text) a in cc)

reading_stop : {A : Type 0} (P : OrText A → Type 0) (s : Stop) → IsReadingStop s → StopsAs P s
reading_stop P stop.Words h = absurd h
reading_stop P (stop.Refused text) h = absurd h
reading_stop P stop.Outside h = tt
reading_stop P stop.Memory h = tt
reading_stop P stop.TooLong h = tt

ending_stops : (words : List (String Global)) (known : Option Files) (s : Stop) → IsReadingStop s → IfSome known (λ files. StopsAs (Asks words files) s)
ending_stops words None s h = tt
ending_stops words (Some files) s h = reading_stop (Asks words files) s h

pub lines_stops : {T : Type 0} (words : List (String Global)) (known : Option Files) (r : Result T Stop) → IfErr r IsReadingStop → IfErr r (λ s. IfSome known (λ files. StopsAs (Asks words files) s))
lines_stops words known (Ok x) h = tt
lines_stops words known (Err s) h = ending_stops words known s h

-- the lines end in no refusal
pub lines_refuse : {T : Type 0} (r : Result T Stop) → IfErr r IsReadingStop → IsErrAnd r IsRefusalStop → ⊥
lines_refuse (Ok x) h k = k
lines_refuse (Err stop.Words) h k = h
lines_refuse (Err (stop.Refused text)) h k = h
lines_refuse (Err stop.Outside) h k = k
lines_refuse (Err stop.Memory) h k = k
lines_refuse (Err stop.TooLong) h k = k

-- the words aren't found wrong where there is a job
pub no_wrong_words : {T : Type 0} (P : Type 0) (r : Result T Stop) → IfErr r IsReadingStop → r ≡ Err stop.Words → P
no_wrong_words P r h is = absurd (subst (λ v. IfErr v IsReadingStop) is h)

-- the counts of all four, where those of the shelf stay
pub run_counts : {T : Type 0} (d : Observed) (r : Result T Stop) → d.after.shelf.faults ≡ d.before.shelf.faults
    → WorkCounts d.before.source.faults d.after.source.faults d.before.out.faults d.after.out.faults d.before.err.faults d.after.err.faults r → AllCounts d r
run_counts d (Ok x) shelf h = (shelf, h.0, h.1, h.2)
run_counts d (Err stop.Words) shelf h = (shelf, h.0, h.1, h.2)
run_counts d (Err (stop.Refused text)) shelf h = (shelf, h.0, h.1, h.2)
run_counts d (Err stop.Outside) shelf h = inr h
run_counts d (Err stop.Memory) shelf h = tt
run_counts d (Err stop.TooLong) shelf h = (shelf, h.0, h.1, h.2)

-- the input is at its end where the job reads it
pub run_ends : {T : Type 0} (words : List (String Global)) (job : Job) (is_job : Some job ≡ job_in words) (reads : Bool) (now : Option (List ℕ)) (r : Result T Stop) → reads ≡ reads_input job → (reads ≡ true → OnOk r (IsAtEnd now)) → OnOk r (IfSome (job_in words) (λ j. reads_input j ≡ true → IsAtEnd now))
run_ends words job is_job reads now (Ok x) same end = of_words words job is_job (λ j. reads_input j ≡ true → IsAtEnd now) (λ h. end (same ∙ h))
run_ends words job is_job reads now (Err s) same end = tt

-- and how it is wanted
pub found_settings : {A : Type 0} (f : A → Settings) (s : Settings) (o : Option A) (a : A) → o ≡ Some a → IfSome o (λ x. f x ≡ s) → s ≡ f a
found_settings f s o a is e = sym (subst (λ q. IfSome q (λ x. f x ≡ s)) is e)

pub found_report : {A : Type 0} (f : A → Settings) (s : Settings) (o : Option A) (a : A) → o ≡ Some a → IfSome o (λ x. f x ≡ s) → reporting_of s ≡ reporting_of (f a)
found_report f s o a is e = ap reporting_of (found_settings f s o a is e)

-- the job that was read
pub found_job : {A : Type 0} (f : A → Job) (o : Option A) (a : A) {x : Option Job} → o ≡ Some a → option_map f o ≡ x → Some (f a) ≡ x
found_job f o a is e = sym (ap (option_map f) is) ∙ e

-- nothing was written
pub owes_nothing : (words : List (String Global)) (known : Option Files) (left old : Option (List ℕ)) → IfSome known (λ files. IfSome left (λ input. (output : List ℕ) (spoke : Spoke) → Owed words files input output spoke → AppendsPrefix old old output))
owes_nothing words None left old = tt
owes_nothing words (Some files) None old = tt
owes_nothing words (Some files) (Some input) old = λ output spoke owed. prefix_none old output

owed_count : (words : List (String Global)) (files : Files) (input output : List ℕ) (spoke : Spoke) → Owed words files input output spoke → length spoke.answers ≡ length spoke.lines
owed_count words files input output spoke (nothing none) = refl
owed_count words files input output spoke (of_job plan answers accepted said) = said_count (saying_of plan) (lines_for accepted.job input) answers said

pub tells_nothing : (words : List (String Global)) (known : Option Files) (left old : Option (List ℕ)) → IfSome known (λ files. IfSome left (λ input. (output : List ℕ) (spoke : Spoke) → Owed words files input output spoke → AppendsSome (Told spoke) old old))
tells_nothing words None left old = tt
tells_nothing words (Some files) None old = tt
tells_nothing words (Some files) (Some input) old = λ output spoke owed. some_none spoke.report spoke.lines spoke.answers old (owed_count words files input output spoke owed)

-- nothing was given
pub gives_nothing : (words : List (String Global)) (known : Option Files) (left old : Option (List ℕ)) → IfSome known (λ files. IfSome left (λ input. IsSomeAnd left (GivesInput words old old files input)))
gives_nothing words None left old = tt
gives_nothing words (Some files) None old = tt
gives_nothing words (Some files) (Some input) old = record {
  nothing = λ none. refl;
  batches = λ plan a reads answers said. record { batches = 0; whole = omega arith; words = record { more = []; grown = Appends-nil old }; bound = omega arith };
}

-- so a fault of what is refused is none of the lines'
pub not_refused : (words : List (String Global)) (known : Option Files) (P : Type 0) → IfSome known (λ files. (text : List ℕ) → Refused words files text → ⊥) → IfSome known (λ files. (text : List ℕ) → Refused words files text → P)
not_refused words None P h = tt
not_refused words (Some files) P h = λ text a. absurd (h text a)
