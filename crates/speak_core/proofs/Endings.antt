-- From the stop of a run to its status and to what is told of it.
use Rattle.std.proofs.Common.{inl, inr, ◌≡◌, ◌⊎◌, ◌==◌, ℕ, ◌+◌, ◌≤◌, ◌^◌, List, [], None, Some, Ok, Err, Bool, true, false, IfSome, IfOk, IfErr, OnErr, OnOk, IsSomeAnd, length, refl, sym, ap, ◌∙◌, subst, arith, if◌then◌else◌, String, Vec, Global}
use Rattle.std.specs.Prelude.{Result, Option}
use Rattle.std.specs.Result.{IsErrAnd}
use Rattle.norm_base.specs.Counts.{capped}
use Rattle.norm_base.specs.Files.{Files}
use Rattle.speak_core.specs.Outputs.{lines_for, out_text, reads_input, reports_for}
use Rattle.speak_core.specs.Accepted.{Accepted, Asks, IsRefusal, OrText, Refused as Refuses}
use Rattle.speak_core.specs.Requests.{job_in, settings_in}
use Rattle.speak_core.specs.Reports.{no_reporting, reporting_of}
use Rattle.speak_core.specs.Inputs.{GaveMore, GaveTooMuch, IfGaveTooMuch}
use Rattle.speak_core.specs.Loaded.{StopsAs}
use Rattle.speak_core.specs.Owed.{Owed, SpeaksAll, SpeaksInput, Spoke, Told, spoke_nothing}
use Rattle.speak_core.specs.Devices.{Observed, SinkSeen, SomeRose, NoneRose}
use Rattle.speak_core.specs.Parts.{AppendsSome, Writes}
use Rattle.speak_core.specs.Plans.{Plan, saying_of}
use Rattle.speak_core.specs.Stops.{status_of, text_of, last_text, AllCounts, IsAccepted, IsEnd, IsRefusalStop}
use Rattle.speak_core.specs.Told.{TellsLast, TellsTwice, TellsShortOf, TellsStop, MayTell, no_text, wrong_words, refusal, outside, too_long}
use Rattle.speak_core.proofs.Said.{some_none}
use Rattle.speak_core.specs.declared.stop.Stop.{Stop}
use Rattle.speak_core.specs.declared.stop.Stop.TheVariants.{Words, Refused, Outside, Memory, TooLong}

stop_of : ℕ → Stop
stop_of n = if n == 2 then Words else (if n == 4 then Outside else (if n == 6 then TooLong else Memory))

-- a stop without a text of its own
plain : Stop → Bool
plain (Refused text) = false
plain _ = true

stop_of_status : (s : Stop) → plain s ≡ true → stop_of (status_of s) ≡ s
unfolding stop_of plain
stop_of_status Words p = refl
stop_of_status (Refused text) p = absurd (let e : false ≡ true = p in cc)
stop_of_status Outside p = refl
stop_of_status Memory p = refl
stop_of_status TooLong p = refl

plain_status : (s : Stop) → (status_of s == 3) ≡ false → plain s ≡ true
unfolding plain
plain_status Words p = refl
plain_status (Refused text) p = absurd (let e : true ≡ false = p in cc)
plain_status Outside p = refl
plain_status Memory p = refl
plain_status TooLong p = refl

status_least : (s : Stop) → 2 ≤ status_of s
status_least Words = omega arith
status_least (Refused text) = omega arith
status_least Outside = omega arith
status_least Memory = omega arith
status_least TooLong = omega arith

status_most : (s : Stop) → status_of s ≤ 6
status_most Words = omega arith
status_most (Refused text) = omega arith
status_most Outside = omega arith
status_most Memory = omega arith
status_most TooLong = omega arith

same_stop : (s t : Stop) → status_of s ≡ status_of t → (status_of t == 3) ≡ false → s ≡ t
same_stop s t e other = sym (stop_of_status s (plain_status s (subst (λ (n : ℕ). (n == 3) ≡ false) (sym e) other))) ∙ ap stop_of e ∙ stop_of_status t (plain_status t other)

not_five : (t : Stop) (n : ℕ) → n ≡ status_of t → (status_of t == 5) ≡ false → n ≡ 5 → ⊥
not_five t n is other five =
    let h : status_of t ≡ 5 = sym is ∙ five in
    let k : true ≡ false = subst (λ m. (m == 5) ≡ false) h other in
    cc

-- a status other than those of a refusal and of want of memory tells the stop
pub stopped_at : (r : Result Bool Stop) (t : Stop) (n : ℕ) → IsEnd n r → n ≡ status_of t → (status_of t == 5) ≡ false → (status_of t == 3) ≡ false → r ≡ Err t
stopped_at (Ok true) t n end is other named = let l = status_least t in absurd (omega (arith, end, is, l))
stopped_at (Ok false) t n end is other named = let l = status_least t in absurd (omega (arith, end, is, l))
stopped_at (Err s) t n (inl e) is other named = ap Err (same_stop s t (sym e ∙ is) named)
stopped_at (Err s) t n (inr e) is other named = absurd (not_five t n is other e)

-- a run that stopped at a refusal
pub record AtRefusal (r : Result Bool Stop) : Type 0 where
  pub text : Vec ℕ Global
  pub is : r ≡ Err (Refused text)

pub refused_at : (r : Result Bool Stop) (n : ℕ) → IsEnd n r → n ≡ 3 → AtRefusal r
refused_at (Ok true) n end is = absurd (omega (arith, end, is))
refused_at (Ok false) n end is = absurd (omega (arith, end, is))
refused_at (Err Words) n (inl e) is = absurd (omega (arith, e, is))
refused_at (Err Words) n (inr e) is = absurd (omega (arith, e, is))
refused_at (Err (Refused text)) n end is = record { text = text; is = refl }
refused_at (Err Outside) n (inl e) is = absurd (omega (arith, e, is))
refused_at (Err Outside) n (inr e) is = absurd (omega (arith, e, is))
refused_at (Err Memory) n (inl e) is = absurd (omega (arith, e, is))
refused_at (Err Memory) n (inr e) is = absurd (omega (arith, e, is))
refused_at (Err TooLong) n (inl e) is = absurd (omega (arith, e, is))
refused_at (Err TooLong) n (inr e) is = absurd (omega (arith, e, is))

pub end_at : (r : Result Bool Stop) (t : Stop) (n : ℕ) → IsEnd n r → r ≡ Err t → (n ≡ status_of t) ⊎ (n ≡ 5)
end_at r t n end is = subst (λ v. IsEnd n v) is end

pub at_most_six : (r : Result Bool Stop) (n : ℕ) → IsEnd n r → n ≤ 6
at_most_six (Ok true) n end = omega (arith, end)
at_most_six (Ok false) n end = omega (arith, end)
at_most_six (Err s) n (inl e) = let l = status_most s in omega (arith, e, l)
at_most_six (Err s) n (inr e) = omega (arith, e)

-- a run that isn't stopped
pub record Finished (r : Result Bool Stop) : Type 0 where
  pub is_read : Bool
  pub is : r ≡ Ok is_read

pub finished : (r : Result Bool Stop) (n : ℕ) → IsEnd n r → n ≤ 1 → Finished r
finished (Ok b) n end l = record { is_read = b; is = refl }
finished (Err s) n (inl e) l = let m = status_least s in absurd (omega (arith, e, l, m))
finished (Err s) n (inr e) l = absurd (omega (arith, e, l))

pub all_read_at : (r : Result Bool Stop) (n : ℕ) → IsEnd n r → n ≡ 0 → r ≡ Ok true
all_read_at (Ok true) n end z = refl
all_read_at (Ok false) n end z = absurd (omega (arith, end, z))
all_read_at (Err s) n (inl e) z = let m = status_least s in absurd (omega (arith, e, z, m))
all_read_at (Err s) n (inr e) z = absurd (omega (arith, e, z))

pub some_refused_at : (r : Result Bool Stop) (n : ℕ) → IsEnd n r → n ≡ 1 → r ≡ Ok false
some_refused_at (Ok true) n end z = absurd (omega (arith, end, z))
some_refused_at (Ok false) n end z = refl
some_refused_at (Err s) n (inl e) z = let m = status_least s in absurd (omega (arith, e, z, m))
some_refused_at (Err s) n (inr e) z = absurd (omega (arith, e, z))

-- a refusal of the words, or of what they name
pub is_refusal : (r : Result Bool Stop) (n : ℕ) → IsEnd n r → (n ≡ 2) ⊎ (n ≡ 3) → IsErrAnd r IsRefusalStop
is_refusal r n end (inl e) = subst (λ v. IsErrAnd v IsRefusalStop) (sym (stopped_at r Words n end e refl refl)) tt
is_refusal r n end (inr e) = let at = refused_at r n end e in subst (λ v. IsErrAnd v IsRefusalStop) (sym at.is) tt

-- what was refused ends so, or by a fault of which this is known
pub refused_end : (words : List (String Global)) (known : Option Files) (Rises : Type 0) (r : Result Bool Stop) (n : ℕ) → IsEnd n r → (r ≡ Err Words → job_in words ≡ None) → (IsAccepted r → IfSome known (λ files. (text : List ℕ) → Refuses words files text → ⊥))
    → (r ≡ Err Outside → IfSome known (λ files. (text : List ℕ) → Refuses words files text → Rises))
    → IfSome known (λ files. (text : List ℕ) → Refuses words files text → (n ≡ 3) ⊎ ((n ≡ 5) ⊎ ((n ≡ 4) × Rises)))
refused_end words None Rises r n end wrong accepted rises = tt
refused_end words (Some files) Rises (Ok b) n end wrong accepted rises = λ text h. absurd (accepted tt text h)
refused_end words (Some files) Rises (Err Words) n end wrong accepted rises = λ text h. absurd (let no_name : Some h.job ≡ None = sym h.is_job ∙ wrong refl in cc)
refused_end words (Some files) Rises (Err (Refused t)) n end wrong accepted rises = λ text h. elim end [ inl e ↦ inl e | inr e ↦ inr (inl e) ]
refused_end words (Some files) Rises (Err Outside) n end wrong accepted rises = λ text h. elim end [ inl e ↦ inr (inr (e, rises refl text h)) | inr e ↦ inr (inl e) ]
refused_end words (Some files) Rises (Err Memory) n end wrong accepted rises = λ text h. elim end [ inl e ↦ inr (inl e) | inr e ↦ inr (inl e) ]
refused_end words (Some files) Rises (Err TooLong) n end wrong accepted rises = λ text h. absurd (accepted tt text h)

-- the refusal that a run stopped at, where the files are known
pub refusal_known : (words : List (String Global)) (known : Option Files) (r : Result Bool Stop) (text : Vec ℕ Global) → r ≡ Err (Refused text) → IfErr r (λ s. IfSome known (λ files. StopsAs (Asks words files) s)) → IfSome known (λ files. IsRefusal words files text.items)
refusal_known words known r text is refusals = subst (λ v. IfErr v (λ s. IfSome known (λ files. StopsAs (Asks words files) s))) is refusals

some_text : (words : List (String Global)) (known : Option Files) (text : List ℕ) → IfSome known (λ files. IsRefusal words files text) → IfSome known (λ files. (t : List ℕ) × IsRefusal words files t)
some_text words None text h = tt
some_text words (Some files) text h = (text, h)

pub refusal_end : (words : List (String Global)) (known : Option Files) (r : Result Bool Stop) (n : ℕ) → IsEnd n r → n ≡ 3 → IfErr r (λ s. IfSome known (λ files. StopsAs (Asks words files) s)) → IfSome known (λ files. (t : List ℕ) × IsRefusal words files t)
refusal_end words known r n end is refusals = let at = refused_at r n end is in some_text words known at.text.items (refusal_known words known r at.text at.is refusals)

pub long_end : (left now : Option (List ℕ)) (r : Result Bool Stop) (n : ℕ) → IsEnd n r → IfGaveTooMuch left now (r ≡ Err TooLong) → IfGaveTooMuch left now ((n ≡ 6) ⊎ (n ≡ 5))
long_end None now r n end long = tt
long_end (Some before) None r n end long = tt
long_end (Some before) (Some after) r n end long = λ more. end_at r TooLong n end (long more)

-- the same devices, but for the errors after all was told
abbrev pub then_err : Observed → SinkSeen → Observed
then_err d err = record { before = d.before; after = record { shelf = d.after.shelf; source = d.after.source; out = d.after.out; err = err } }

-- the count of the errors stood or rose after
rose_later : (d : Observed) (err : SinkSeen) → SomeRose d → d.after.err.faults ≤ err.faults → SomeRose (then_err d err)
rose_later d err (inl r) l = inl r
rose_later d err (inr (inl r)) l = inr (inl r)
rose_later d err (inr (inr (inl r))) l = inr (inr (inl r))
rose_later d err (inr (inr (inr r))) l = inr (inr (inr (omega (arith, r, l))))

pub outside_rose : (d : Observed) (err : SinkSeen) (r : Result Bool Stop) → AllCounts d r → d.after.err.faults ≤ err.faults → r ≡ Err Outside → SomeRose (then_err d err)
outside_rose d err r counts l is = rose_later d err (subst (λ v. AllCounts d v) is counts) l

pub none_rose : (d : Observed) (err : SinkSeen) (r : Result Bool Stop) → AllCounts d r → Finished r → IfOk r (λ b. err.faults ≡ d.after.err.faults) → NoneRose (then_err d err)
none_rose d err r counts f kept =
    let c : NoneRose d = subst (λ v. AllCounts d v) f.is counts in
    let k : err.faults ≡ d.after.err.faults = subst (λ v. IfOk v (λ b. err.faults ≡ d.after.err.faults)) f.is kept in
    (c.0, c.1, c.2, k ∙ c.3)

pub at_end : (P : Type 0) (r : Result Bool Stop) → OnOk r P → Finished r → P
at_end P r end f = subst (λ v. OnOk v P) f.is end

-- what was left where the errors stood so, and nothing is told after that
pub left_at : (T : Option (List ℕ) → Type 0) (mid end : Option (List ℕ)) (r : Result Bool Stop) → IfOk r (λ is_read. T mid) → IfOk r (λ is_read. end ≡ mid) → Finished r → T end
left_at T mid end r left kept f = subst T (sym (subst (λ v. IfOk v (λ is_read. end ≡ mid)) f.is kept)) (subst (λ v. IfOk v (λ is_read. T mid)) f.is left)

-- what holds of a run that stopped
pub stopped_with : (P : Type 0) (r : Result Bool Stop) (n : ℕ) → IsEnd n r → 2 ≤ n → OnErr r P → P
stopped_with P (Ok true) n end past h = absurd (omega (arith, end, past))
stopped_with P (Ok false) n end past h = absurd (omega (arith, end, past))
stopped_with P (Err s) n end past h = h

-- words that are no job, of which a run also finds that memory is wanting
pub words_end : (r : Result Bool Stop) (n : ℕ) → IsEnd n r → (r ≡ Err Words) ⊎ (r ≡ Err Memory) → (n ≡ 2) ⊎ (n ≡ 5)
words_end r n end (inl is) = end_at r Words n end is
words_end r n end (inr is) = elim (end_at r Memory n end is) [ inl e ↦ inr e | inr e ↦ inr e ]

pub speaks_at : (words : List (String Global)) (d : Observed) (err : SinkSeen) (r : Result Bool Stop) (b : Bool) → r ≡ Ok b → IfOk r (λ is_read. SpeaksAll words d is_read) → IfOk r (λ is_read. err.held ≡ d.after.err.held) → SpeaksAll words (then_err d err) b
speaks_at words d err r b is done kept = go d.before.shelf.files d.before.source.left (subst (λ v. IfOk v (λ is_read. SpeaksAll words d is_read)) is done) where
  same : err.held ≡ d.after.err.held
  same = subst (λ v. IfOk v (λ is_read. err.held ≡ d.after.err.held)) is kept

  go : (known : Option Files) (left : Option (List ℕ)) → IfSome known (λ files. IfSome left (λ input. SpeaksInput words d b files input)) → IfSome known (λ files. IfSome left (λ input. SpeaksInput words (then_err d err) b files input))
  go None left s = tt
  go (Some files) None s = tt
  go (Some files) (Some input) s = record {
    plan = s.plan;
    accepted = s.accepted;
    writes = subst (λ held. Writes (saying_of s.plan) (reports_for s.accepted.job (reporting_of (settings_in words))) (lines_for s.accepted.job input) (out_text s.accepted.job s.plan) d.before.out.held d.after.out.held d.before.err.held held b) (sym same) s.writes;
  }

-- what is known of a run that stopped
pub record Known (words : List (String Global)) (known : Option Files) (left : Option (List ℕ)) (d : Observed) (r : Result Bool Stop) : Type 0 where
  pub wrong : r ≡ Err Words → job_in words ≡ None
  pub refusals : IfErr r (λ s. IfSome known (λ files. StopsAs (Asks words files) s))
  pub rises : r ≡ Err Outside → SomeRose d
  pub long : r ≡ Err TooLong → GaveTooMuch left d.after.source.left
  pub kept : IfSome (job_in words) (λ job. reads_input job ≡ false → d.after.source.left ≡ left)

not_long : (input : List ℕ) (now : Option (List ℕ)) → length input ≤ 2 ^ 28 → IsSomeAnd now (λ after. GaveMore input after) → ⊥
not_long input None l more = more
not_long input (Some after) l more = omega (arith, l, more)

same_left : (input : List ℕ) → GaveMore input input → ⊥
same_left input more = omega (arith, more)

-- an input that isn't too long, or isn't read
not_much : (input : List ℕ) (now : Option (List ℕ)) (reads : Bool) → (reads ≡ true → length input ≤ 2 ^ 28) → (reads ≡ false → now ≡ Some input) → IsSomeAnd now (λ after. GaveMore input after) → ⊥
not_much input now true fits kept more = not_long input now (fits refl) more
not_much input now false fits kept more = same_left input (subst (λ n. IsSomeAnd n (λ after. GaveMore input after)) (kept refl) more)

named : (words : List (String Global)) (files : Files) (plan : Plan) → Accepted words files plan → job_in words ≡ None → ⊥
named words files e a none = let no_name : Some a.job ≡ None = sym a.is_job ∙ none in cc

pub complete_end : (words : List (String Global)) (known : Option Files) (left : Option (List ℕ)) (d : Observed) (r : Result Bool Stop) (n : ℕ) → IsEnd n r → Known words known left d r
    → IfSome known (λ files. IfSome left (λ input. (plan : Plan) → (accepted : Accepted words files plan) → (reads_input accepted.job ≡ true → length input ≤ 2 ^ 28) → (SomeRose d → ⊥) → (n ≤ 1) ⊎ (n ≡ 5)))
complete_end words None left d r n end k = tt
complete_end words (Some files) None d r n end k = tt
complete_end words (Some files) (Some input) d (Ok true) n end k = λ e a l calm. inl (omega (arith, end))
complete_end words (Some files) (Some input) d (Ok false) n end k = λ e a l calm. inl (omega (arith, end))
complete_end words (Some files) (Some input) d (Err Words) n end k = λ e a l calm. absurd (named words files e a (k.wrong refl))
complete_end words (Some files) (Some input) d (Err (Refused text)) n end k = λ e a l calm. absurd (let same : Ok e ≡ Err text.items = k.refusals.only (Ok e) a in cc)
complete_end words (Some files) (Some input) d (Err Outside) n end k = λ e a l calm. absurd (calm (k.rises refl))
complete_end words (Some files) (Some input) d (Err Memory) n end k = λ e a l calm. elim end [ inl e ↦ inr e | inr e ↦ inr e ]
complete_end words (Some files) (Some input) d (Err TooLong) n end k = λ e a l calm. absurd (not_much input d.after.source.left (reads_input a.job) l (subst (λ o. IfSome o (λ job. reads_input job ≡ false → d.after.source.left ≡ Some input)) a.is_job k.kept) (k.long refl))

tells_last : (n : ℕ) (old mid new : SinkSeen) (spoke : Spoke) (t : Stop) → n ≡ status_of t → (status_of t == 5) ≡ false → TellsStop n mid new t → old.faults ≤ mid.faults → AppendsSome (Told spoke) old.held mid.held → TellsLast old new spoke (text_of t)
tells_last n old mid new spoke t is other told later lines = record {
  whole = elim told.whole [ inl five ↦ absurd (not_five t n is other five) | inr w ↦ elim w [ inl rose ↦ inl (let r : capped (mid.faults + 1) ≤ new.faults = rose in omega (arith, r, later)) | inr last ↦ inr (record { between = mid.held; lines = lines; last = last }) ] ];
  front = elim told.front [ inl five ↦ absurd (not_five t n is other five) | inr last ↦ record { between = mid.held; lines = lines; last = last } ];
}

-- nothing was told of lines
told_none : (old mid : Option (List ℕ)) → mid ≡ old → AppendsSome (Told spoke_nothing) old mid
told_none old mid same = subst (λ m. AppendsSome (Told spoke_nothing) old m) (sym same) (some_none no_reporting [] [] old refl)

-- after a refusal nothing else stands in the errors
pub told_words : (r : Result Bool Stop) (n : ℕ) (old mid new : SinkSeen) → IsEnd n r → IfErr r (λ s. TellsStop n mid new s) → n ≡ 2 → old.faults ≤ mid.faults → mid.held ≡ old.held → TellsLast old new spoke_nothing (text_of Words)
told_words r n old mid new end told is later same =
    tells_last n old mid new spoke_nothing Words is refl (subst (λ v. IfErr v (λ s. TellsStop n mid new s)) (stopped_at r Words n end is refl refl) told) later (told_none old.held mid.held same)

told_text : (words : List (String Global)) (known : Option Files) (text : List ℕ) (T : List ℕ → Type 0) → IfSome known (λ files. IsRefusal words files text) → T text → IfSome known (λ files. (other : List ℕ) → Refuses words files other → T other)
told_text words None text T one told = tt
told_text words (Some files) text T one told = λ other a.
    let both : ◌≡◌ {A = OrText Plan} (Err other) (Err text) = one.only (Err other) a in
    let same : text ≡ other = cc in
    subst T same told

pub told_refusal : (words : List (String Global)) (known : Option Files) (r : Result Bool Stop) (n : ℕ) (old mid new : SinkSeen) → IsEnd n r → IfErr r (λ s. TellsStop n mid new s) → n ≡ 3 → old.faults ≤ mid.faults → mid.held ≡ old.held
    → IfErr r (λ s. IfSome known (λ files. StopsAs (Asks words files) s))
    → IfSome known (λ files. (text : List ℕ) → Refuses words files text → TellsLast old new spoke_nothing text)
told_refusal words known r n old mid new end told is later same refusals =
    let at = refused_at r n end is in
    told_text words known at.text.items (λ t. TellsLast old new spoke_nothing t) (refusal_known words known r at.text at.is refusals)
    (tells_last n old mid new spoke_nothing (Refused at.text) is refl (subst (λ v. IfErr v (λ s. TellsStop n mid new s)) at.is told) later (told_none old.held mid.held same))

pub told_stop : (words : List (String Global)) (known : Option Files) (left : Option (List ℕ)) (r : Result Bool Stop) (t : Stop) (n : ℕ) (old mid new : SinkSeen) → IsEnd n r → IfErr r (λ s. TellsStop n mid new s) → n ≡ status_of t → (status_of t == 5) ≡ false → (status_of t == 3) ≡ false → old.faults ≤ mid.faults
    → IfSome known (λ files. IfSome left (λ input. (output : List ℕ) (spoke : Spoke) → Owed words files input output spoke → AppendsSome (Told spoke) old.held mid.held))
    → IfSome known (λ files. IfSome left (λ input. (output : List ℕ) (spoke : Spoke) → Owed words files input output spoke → TellsLast old new spoke (text_of t)))
told_stop words None left r t n old mid new end told is other named later lines = tt
told_stop words (Some files) None r t n old mid new end told is other named later lines = tt
told_stop words (Some files) (Some input) r t n old mid new end told is other named later lines = λ output spoke owed.
    tells_last n old mid new spoke t is other (subst (λ v. IfErr v (λ s. TellsStop n mid new s)) (stopped_at r t n end is other named) told) later (lines output spoke owed)

may_tell : (words : List (String Global)) (files : Files) (input : List ℕ) (d : Observed) (s : Stop) → Known words (Some files) (Some input) d (Err s) → MayTell words d files input (last_text s)
may_tell words files input d Words k = wrong_words (k.wrong refl)
may_tell words files input d (Refused text) k = refusal text.items k.refusals.found
may_tell words files input d Outside k = outside (k.rises refl)
may_tell words files input d Memory k = no_text
may_tell words files input d TooLong k = too_long (k.long refl)

pub told_short : (words : List (String Global)) (known : Option Files) (left : Option (List ℕ)) (d : Observed) (r : Result Bool Stop) (n : ℕ) (mid : Option (List ℕ)) → IsEnd n r → n ≡ 5 → Known words known left d r
    → IfErr r (λ s. TellsTwice mid d.after.err.held (last_text s))
    → IfSome known (λ files. IfSome left (λ input. (output : List ℕ) (spoke : Spoke) → Owed words files input output spoke → AppendsSome (Told spoke) d.before.err.held mid))
    → IfSome known (λ files. IfSome left (λ input. (output : List ℕ) (spoke : Spoke) → Owed words files input output spoke → TellsShortOf words d files input spoke))
told_short words None left d r n mid end five k twice lines = tt
told_short words (Some files) None d r n mid end five k twice lines = tt
told_short words (Some files) (Some input) d (Ok true) n mid end five k twice lines = absurd (omega (arith, end, five))
told_short words (Some files) (Some input) d (Ok false) n mid end five k twice lines = absurd (omega (arith, end, five))
told_short words (Some files) (Some input) d (Err s) n mid end five k twice lines = λ output spoke owed.
    record { between = mid; text = last_text s; cause = may_tell words files input d s k; lines = lines output spoke owed; last = twice }
