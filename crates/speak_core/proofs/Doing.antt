-- From what fits a plan to what its job does, and what work on lines leaves of its devices.
use Rattle.std.proofs.Common.{◌≡◌, ◌*◌, ℕ, List, [], ◌∷◌, None, Some, Ok, Err, Result, Bool, true, false, length, inl, inr, IfSome, IfOk, IfErr, refl, sym, ap, ◌∙◌, subst, Vec, Global, arith}
use Rattle.std.proofs.KnownBytes.{Appends-nil}
use Rattle.std.specs.Io.KnownBytes.{Appends}
use Rattle.std.specs.declared.option.Option.{Option}
use Rattle.norm_base.specs.Counts.{Rose}
use Rattle.norm_base.specs.Files.{Files}
use Rattle.normaliser.specs.Lines.{Answer, Saying}
use Rattle.normaliser.specs.declared.normalisers.Normaliser.{Normaliser}
use Rattle.shared_cascade.specs.declared.callers.Caller.{Caller}
use Rattle.speak_words.specs.declared.asked.Settings.{Settings}
use Rattle.speak_core.specs.Left.{Leaves}
use Rattle.speak_words.specs.Asked.{Job, check, classify, sample, speak}
use Rattle.text_lines.specs.Lines.{lines}
use Rattle.speak_core.specs.Accepted.{JobAsks, OrText}
use Rattle.speak_core.specs.Answers.{AllSaid, Tells, written}
use Rattle.norm_base.specs.Bytes.{AppendsPrefix}
use Rattle.shared_cascade.specs.Tallies.{no_tally}
use Rattle.shared_cascade.specs.declared.tallies.Tally.{Tally}
use Rattle.speak_core.specs.Reports.{Reporting, batches_of, end_text, if_wanted, no_reporting, swept_sum}
use Rattle.shared_cascade.specs.declared.sweeping.Swept.{Swept}
use Rattle.speak_core.specs.Inputs.{IfGaveTooMuch}
use Rattle.speak_core.specs.Loaded.{FindsPlanned, Planned, SaysOnce}
use Rattle.speak_core.specs.Outputs.{sample_lines}
use Rattle.speak_core.specs.Parts.{AppendsSome, Speaks, TellsSome, Writes, says_of}
use Rattle.speak_core.specs.Plans.{Plan, saying_of}
use Rattle.speak_core.specs.Stops.{Counts, IsDeviceStop, IsReadingStop, SinkCounts}
use Rattle.speak_core.specs.Works.{CheckedBy, Does, InputBy, SampledBy, SaysNothing, WorkCounts, work_lines, work_reports, work_says, work_text}
use Rattle.speak_core.specs.declared.stop.Stop.{Stop}
use Rattle.speak_core.specs.declared.stop.Stop.TheVariants.{Words, Refused, Outside, Memory, TooLong}
use Rattle.speak_core.specs.declared.works.Work.{Work}
use Rattle.speak_core.specs.declared.works.Work.TheVariants.{Input, Checked, Sampled}
use Rattle.speak_core.proofs.Said.{all_said_to, said_once, some_front, told_until, told_whole}

-- what fits a plan fits it otherwise too
pub fits_through : {B : Type 0} (Fits Other : Plan → B → Type 0) (P : OrText Plan → Type 0) (r : Result B Stop) → ((plan : Plan) (b : B) → Fits plan b → Other plan b) → FindsPlanned Fits P r → FindsPlanned Other P r
fits_through Fits Other P (Ok b) f h = record { plan = h.plan; is_only = h.is_only; fits = f h.plan b h.fits }
fits_through Fits Other P (Err s) f h = h

pub fits_as : {B C : Type 0} (Fits : Plan → B → Type 0) (Other : Plan → C → Type 0) (P : OrText Plan → Type 0) (b : B) (c : C) → ((plan : Plan) → Fits plan b → Other plan c) → Planned Fits P b → Planned Other P c
fits_as Fits Other P b c f h = record { plan = h.plan; is_only = h.is_only; fits = f h.plan h.fits }

said_nothing : (P Q : Saying) (answers : List Answer) → AllSaid P [] answers → AllSaid Q [] answers
said_nothing P Q [] h = tt
said_nothing P Q (a ∷ answers) h = absurd h

-- callers that are left of lines that say the same
leaves_alike : (P Q : Saying) → ((line : List ℕ) (a : Answer) → P line a → Q line a) → (n : Normaliser) (s : Settings) (lines : List (List ℕ)) (callers : List Caller) (err err' : Option (List ℕ)) → Leaves P n s lines callers err err' → Leaves Q n s lines callers err err'
leaves_alike P Q f n s lines callers err err' h = record { ready = h.ready; count = h.count; places = h.places; answers = h.answers; said = all_said_to P Q f lines h.answers h.said; tallies = h.tallies; tallied = h.tallied; swept = h.swept; told = h.told; run = h.run; seated = h.seated; alone = h.alone }

pub input_speaks : (setup : List ℕ) (plan : Plan) (w : Work) → InputBy plan w → Does (speak setup) plan w
input_speaks setup plan (Input s) h = record {
  by_plan = λ input answers. all_said_to (says_of s.speaker) (saying_of plan) (λ line a. (h.says line a).0) (lines input) answers;
  by_work = λ input answers. all_said_to (saying_of plan) (says_of s.speaker) (λ line a. (h.says line a).1) (lines input) answers;
  text = λ answers. refl;
  lines = λ input. refl;
  reports = λ report. refl;
  leaves = λ settings input callers err err' left. record { of_lines = λ handled. (s.speaker.normaliser, h.of_plan, leaves_alike (says_of s.speaker) (saying_of plan) (λ line a. (h.says line a).0) s.speaker.normaliser settings (lines input) callers err err' left); of_none = λ none. absurd (let both : true ≡ false = none in cc) };
}
input_speaks setup plan (Checked text) h = absurd h
input_speaks setup plan (Sampled s) h = absurd h

pub input_classifies : (setup : List ℕ) (plan : Plan) (w : Work) → InputBy plan w → Does (classify setup) plan w
input_classifies setup plan (Input s) h = record {
  by_plan = λ input answers. all_said_to (says_of s.speaker) (saying_of plan) (λ line a. (h.says line a).0) (lines input) answers;
  by_work = λ input answers. all_said_to (saying_of plan) (says_of s.speaker) (λ line a. (h.says line a).1) (lines input) answers;
  text = λ answers. refl;
  lines = λ input. refl;
  reports = λ report. refl;
  leaves = λ settings input callers err err' left. record { of_lines = λ handled. (s.speaker.normaliser, h.of_plan, leaves_alike (says_of s.speaker) (saying_of plan) (λ line a. (h.says line a).0) s.speaker.normaliser settings (lines input) callers err err' left); of_none = λ none. absurd (let both : true ≡ false = none in cc) };
}
input_classifies setup plan (Checked text) h = absurd h
input_classifies setup plan (Sampled s) h = absurd h

pub rules_checked : (setup : List ℕ) (plan : Plan) (w : Work) → CheckedBy plan w → Does (check setup) plan w
rules_checked setup plan (Input s) h = absurd h
rules_checked setup plan (Checked text) h = record {
  by_plan = λ input answers. said_nothing SaysNothing (saying_of plan) answers;
  by_work = λ input answers. said_nothing (saying_of plan) SaysNothing answers;
  text = λ answers. h;
  lines = λ input. refl;
  reports = λ report. refl;
  leaves = λ settings input callers err err' left. record { of_lines = λ handled. absurd (let both : false ≡ true = handled in cc); of_none = λ none. left };
}
rules_checked setup plan (Sampled s) h = absurd h

pub sample_sampled : (count start : ℕ) (plan : Plan) (w : Work) → SampledBy count start plan w → Does (sample count start) plan w
sample_sampled count start plan (Input s) h = absurd h
sample_sampled count start plan (Checked text) h = absurd h
sample_sampled count start plan (Sampled s) h =
    let same : sample_lines s.count s.start ≡ sample_lines count start = ap (λ n. sample_lines n s.start) h.1 ∙ ap (λ x. sample_lines count x) h.2 in
    record {
      by_plan = λ input answers said. subst (λ l. AllSaid (saying_of plan) l answers) same (all_said_to (says_of s.loaded.speaker) (saying_of plan) (λ line a. (h.0.says line a).0) (sample_lines s.count s.start) answers said);
      by_work = λ input answers said. subst (λ l. AllSaid (says_of s.loaded.speaker) l answers) (sym same) (all_said_to (saying_of plan) (says_of s.loaded.speaker) (λ line a. (h.0.says line a).1) (sample_lines count start) answers said);
      text = λ answers. refl;
      lines = λ input. same;
      reports = λ report. refl;
      leaves = λ settings input callers err err' left. record {
        of_lines = λ handled. (s.loaded.speaker.normaliser, h.0.of_plan, subst (λ l. Leaves (saying_of plan) s.loaded.speaker.normaliser settings l callers err err') same (leaves_alike (says_of s.loaded.speaker) (saying_of plan) (λ line a. (h.0.says line a).0) s.loaded.speaker.normaliser settings (sample_lines s.count s.start) callers err err' left));
        of_none = λ none. absurd (let both : true ≡ false = none in cc);
      };
    }

-- what is found for a job, by what fits its plan
pub job_finds : (known : Option Files) (Fits : Plan → Work → Type 0) (j k : Job) (r : Result Work Stop) → j ≡ k → ((plan : Plan) (w : Work) → Fits plan w → Does k plan w)
    → IfSome known (λ files. FindsPlanned Fits (JobAsks files k) r) → IfSome known (λ files. FindsPlanned (Does j) (JobAsks files j) r)
job_finds None Fits j k r is f h = tt
job_finds (Some files) Fits j k r is f h = subst (λ (i : Job). FindsPlanned (Does i) (JobAsks files i) r) (sym is) (fits_through Fits (Does k) (JobAsks files k) r f h)

-- counts

pub never_rose : {T : Type 0} (n : ℕ) (r : Result T Stop) → (r ≡ Err Outside → ⊥) → Counts n n r
never_rose n (Ok x) h = refl
never_rose n (Err Words) h = refl
never_rose n (Err (Refused text)) h = refl
never_rose n (Err Outside) h = absurd (h refl)
never_rose n (Err Memory) h = refl
never_rose n (Err TooLong) h = refl

pub put_counts : {T : Type 0} (source out out' err : ℕ) (r : Result T Stop) → Counts out out' r → WorkCounts source source out out' err err r
put_counts source out out' err (Ok x) h = (refl, h, refl)
put_counts source out out' err (Err Words) h = (refl, h, refl)
put_counts source out out' err (Err (Refused text)) h = (refl, h, refl)
put_counts source out out' err (Err Outside) h = inr (inl h)
put_counts source out out' err (Err Memory) h = tt
put_counts source out out' err (Err TooLong) h = (refl, h, refl)

pub sink_counts : {T : Type 0} (source out out' err err' : ℕ) (r : Result T Stop) → SinkCounts out out' err err' r → IfErr r IsDeviceStop → WorkCounts source source out out' err err' r
sink_counts source out out' err err' (Ok x) h k = (refl, h.0, h.1)
sink_counts source out out' err err' (Err Words) h k = absurd k
sink_counts source out out' err err' (Err (Refused text)) h k = absurd k
sink_counts source out out' err err' (Err Outside) h k = inr h
sink_counts source out out' err err' (Err Memory) h k = tt
sink_counts source out out' err err' (Err TooLong) h k = absurd k

-- stops

pub reading_stops : {T : Type 0} (r : Result T Stop) → IfErr r IsDeviceStop → IfErr r IsReadingStop
reading_stops (Ok x) h = tt
reading_stops (Err Words) h = absurd h
reading_stops (Err (Refused text)) h = absurd h
reading_stops (Err Outside) h = tt
reading_stops (Err Memory) h = tt
reading_stops (Err TooLong) h = tt

pub device_not_long : {T : Type 0} (P : Type 0) (r : Result T Stop) → IfErr r IsDeviceStop → r ≡ Err TooLong → P
device_not_long P r h is = absurd (subst (λ v. IfErr v IsDeviceStop) is h)

-- a source that isn't read gives nothing
pub none_given : (left : Option (List ℕ)) (P : Type 0) → IfGaveTooMuch left left P
none_given None P = tt
none_given (Some l) P = λ more. absurd (omega (arith, more))

-- what is written

pub where_known : {X : Type 0} (known : Option X) (P : X → Type 0) → ((x : X) → P x) → IfSome known P
where_known None P f = tt
where_known (Some x) P f = f x

pub speaks_writes : (P : Saying) (w : Reporting) (t : Tally) (all : List (List ℕ)) (out out' err emid err' : Option (List ℕ)) (is_read : Bool) → Speaks P w.wanted 1 no_tally t all out out' err emid is_read → (n : ℕ) → n ≡ length all → (swept : Swept) → swept_sum swept ≡ w.beside * batches_of (length all)
    → Appends emid err' (if_wanted w.wanted (end_text w.beside n t swept)) → Writes P w all written out out' err err' is_read
speaks_writes P w t all out out' err emid err' is_read h n counted swept sums last =
    record { answers = h.answers; said = h.said; output = h.words; faults = told_whole P w t all h.answers h.said h.tallies h.tallied h.total err emid err' h.faults n counted swept sums last; read = h.read }

-- lines that were spoken from no lines on, by what is known of the report
pub speaks_anew : (P : Saying) (w v : Bool) (s t : Tally) (all : List (List ℕ)) (out out' err err' : Option (List ℕ)) (is_read : Bool) → v ≡ w → s ≡ no_tally → Speaks P v 1 s t all out out' err err' is_read → Speaks P w 1 no_tally t all out out' err err' is_read
speaks_anew P w v s t all out out' err err' is_read wanted none h =
    subst (λ b. Speaks P b 1 no_tally t all out out' err err' is_read) wanted (subst (λ x. Speaks P v 1 x t all out out' err err' is_read) none h)

-- a front of what may be told of lines before the total
pub front_until : (P : Saying) (w : Reporting) (v : Bool) (all : List (List ℕ)) (old new : Option (List ℕ)) → v ≡ w.wanted → ((answers : List Answer) → AllSaid P all answers → TellsSome v 1 all answers old new) → (answers : List Answer) → AllSaid P all answers → AppendsSome (Tells w all answers) old new
front_until P w v all old new wanted front answers said = some_front w all answers old new (subst (λ b. TellsSome b 1 all answers old new) wanted (front answers said))

-- the counts where the total isn't told after all lines were
pub total_counts : (T U : Type 0) (source source' out out' err emid err' : ℕ) (s : Stop) → source' ≡ source → (out' ≡ out) × (emid ≡ err) → Counts {T = T} emid err' (Err s) → IsDeviceStop s → WorkCounts {T = U} source source' out out' err err' (Err s)
total_counts T U source source' out out' err emid err' Words read kept told stop = absurd stop
total_counts T U source source' out out' err emid err' (Refused text) read kept told stop = absurd stop
total_counts T U source source' out out' err emid err' Outside read kept told stop = inr (inr (subst (λ e. Rose e err') kept.1 told))
total_counts T U source source' out out' err emid err' Memory read kept told stop = tt
total_counts T U source source' out out' err emid err' TooLong read kept told stop = absurd stop

-- where the total is cut off, a front of all is told
pub speaks_until : (P : Saying) (w : Reporting) (t : Tally) (all : List (List ℕ)) (out out' err emid err' : Option (List ℕ)) (is_read : Bool) → Speaks P w.wanted 1 no_tally t all out out' err emid is_read → SaysOnce P → (n : ℕ) → n ≡ length all → (swept : Swept) → swept_sum swept ≡ w.beside * batches_of (length all)
    → AppendsPrefix emid err' (if_wanted w.wanted (end_text w.beside n t swept)) → (answers : List Answer) → AllSaid P all answers → AppendsSome (Tells w all answers) err err'
speaks_until P w t all out out' err emid err' is_read h once n counted swept sums last answers said =
    subst (λ a. AppendsSome (Tells w all a) err err') (said_once P once all h.answers answers h.said said) (told_until P w t all h.answers h.said h.tallies h.tallied h.total err emid err' h.faults n counted swept sums last)

pub text_writes : (text : List ℕ) (out out' err : Option (List ℕ)) (is_read : Bool) → (is_read ≡ true) × Appends out out' text → Writes SaysNothing no_reporting [] (λ answers. text) out out' err err is_read
text_writes text out out' err is_read h = record {
  answers = [];
  said = tt;
  output = h.1;
  faults = record { text = []; is = record { tallies = []; tallied = tt; swept = record { done = 0; was = 0 }; sums = omega arith; is = refl }; whole = Appends-nil err };
  read = h.0;
}

-- the sizes of rules were written, and nothing is told
pub checked_writes : (w : Work) (text : Vec ℕ Global) (report : Reporting) (left : Option (List ℕ)) (bytes : List ℕ) (out out' err : Option (List ℕ)) (r : Result Bool Stop) → w ≡ Checked text → bytes ≡ text.items → IfOk r (λ is_read. (is_read ≡ true) × Appends out out' bytes)
    → IfSome left (λ input. IfOk r (Writes (work_says w) (work_reports w report) (work_lines w input) (work_text w) out out' err err))
checked_writes w text report None bytes out out' err r is same h = tt
checked_writes w text report (Some input) bytes out out' err (Ok is_read) is same h =
    subst (λ v. Writes (work_says v) (work_reports v report) (work_lines v input) (work_text v) out out' err err is_read) (sym is) (text_writes text.items out out' err is_read (h.0, subst (Appends out out') same h.1))
checked_writes w text report (Some input) bytes out out' err (Err s) is same h = tt

-- what is known of an input that is told
pub of_known : {X : Type 0} (known : Option X) (P Q : X → Type 0) → ((x : X) → P x → Q x) → IfSome known P → IfSome known Q
of_known None P Q f h = tt
of_known (Some x) P Q f h = f x h

pub of_three : {X : Type 0} (known : Option X) (P Q R S : X → Type 0) → ((x : X) → P x → Q x → R x → S x) → IfSome known P → IfSome known Q → IfSome known R → IfSome known S
of_three None P Q R S f h k l = tt
of_three (Some x) P Q R S f h k l = f x h k l
