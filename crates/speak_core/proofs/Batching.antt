-- From one batch to many: what the callers of a run have done.
use Rattle.std.proofs.Common.{◌≡◌, ◌≤◌, ◌+◌, ◌*◌, ◌∙◌, ℕ, All, List, [], ◌++◌, Some, slice_get, Bool, true, length, sym, ap, subst, append-nil, arith}
use Rattle.std.proofs.lemmas.List.Elements.{All-get_or, All-nil}
use Rattle.std.proofs.lemmas.Option.{get_or_from_slice_get, slice_get_within}
use Rattle.std.specs.declared.option.Option.{Option}
use Rattle.shared_cascade.specs.Callers.{log_of, number_in, seats_of}
use Rattle.shared_cascade.specs.Sweeps.{AreRounds, done_in, was_in}
use Rattle.shared_cascade.specs.declared.callers.Caller.{Caller}
use Rattle.normaliser.specs.Searches.{IsNewCallerOf, places_of}
use Rattle.normaliser.specs.Lines.{Saying}
use Rattle.normaliser.specs.declared.normalisers.Normaliser.{Normaliser}
use Rattle.shared_cascade.specs.declared.tallies.Tally.{Tally}
use Rattle.speak_core.specs.Crews.{AreSeated, HasRun, RunsAll, RunsOn}
use Rattle.speak_core.specs.Parts.{SpeaksBy}
use Rattle.speak_core.specs.Reports.{batches_of, swept_sum}
use Rattle.speak_core.specs.declared.crews.Crew.{Crew}
use Rattle.speak_core.proofs.Said.{speaks_none_by, tallied_count}

-- callers that were opened together
pub seated_new : (seats : ℕ) (callers : List Caller) → All (λ c. seats_of c ≡ seats) callers → ((k : ℕ) (c : Caller) → slice_get callers k ≡ Some c → number_in c ≡ k) → AreSeated seats callers
seated_new seats callers all numbers k c at = (numbers k c at, subst (λ (d : Caller). seats_of d ≡ seats) (get_or_from_slice_get callers k c c at) (All-get_or (λ (d : Caller). seats_of d ≡ seats) callers k c (slice_get_within callers k c at) all))

module _ (n : Normaliser) where
  is_new : (crew : Crew) → All (IsNewCallerOf n) crew.callers.items → (j : ℕ) (c : Caller) → slice_get crew.callers.items j ≡ Some c → log_of c ≡ []
  is_new crew new j c at = subst (λ d. log_of d ≡ []) (get_or_from_slice_get crew.callers.items j c c at) (All-get_or (IsNewCallerOf n) crew.callers.items j c (slice_get_within crew.callers.items j c at) new).log

  -- new callers have done nothing
  pub new_run : (crew : Crew) → All (IsNewCallerOf n) crew.callers.items → swept_sum crew.swept ≡ 0 → HasRun n crew [] 0
  new_run crew new none = record {
    workers = λ j c within at. is_new crew new j c at;
    places = λ j c within at one. All-nil _;
    sweeper = λ c at. (
      subst (λ k. AreRounds (places_of n) k (log_of c)) (let z : 0 ≡ crew.settings.sweep * 0 = omega arith in z) (is_new crew new crew.settings.jobs c at),
      (let z : crew.swept.done ≡ 0 = omega (arith, none) in z) ∙ ap done_in (sym (is_new crew new crew.settings.jobs c at)),
      (let z : crew.swept.was ≡ 0 = omega (arith, none) in z) ∙ ap was_in (sym (is_new crew new crew.settings.jobs c at)),
    );
  }

  -- no lines make no batch
  pub runs_none : (crew : Crew) (first : ℕ) → RunsAll n crew crew first []
  runs_none crew first before batches placed run = subst (λ ts. HasRun n crew ts (batches + 0)) (sym (append-nil before)) (subst (HasRun n crew before) (let z : batches ≡ batches + 0 = omega arith in z) run)

  -- some lines, and no more than a batch has, make one
  pub runs_one : (old new : Crew) (first : ℕ) (ts : List Tally) → 1 ≤ length ts → length ts ≤ 1024 → RunsOn n old new first ts → RunsAll n old new first ts
  runs_one old new first ts some few one before batches placed run =
      let single : batches_of (length ts) ≡ 1 = omega (arith, some, few) in
      subst (λ k. HasRun n new (before ++ ts) (batches + k)) (sym single) (one before batches placed run)

module _ (P : Saying) (n : Normaliser) (w : Bool) (first : ℕ) where
  pub none_ran : (crew : Crew) (t : Tally) (out err : Option (List ℕ)) → SpeaksBy (RunsAll n crew crew first) P w first t t [] out out err err true
  none_ran crew t out err = speaks_none_by P w (RunsAll n crew crew first) (runs_none n crew first) first t out err

  pub one_ran : (old new : Crew) (t t' : Tally) (all : List (List ℕ)) (out out' err err' : Option (List ℕ)) (r : Bool) → 1 ≤ length all → length all ≤ 1024 → SpeaksBy (RunsOn n old new first) P w first t t' all out out' err err' r → SpeaksBy (RunsAll n old new first) P w first t t' all out out' err err' r
  one_ran old new t t' all out out' err err' r some few s =
      let count = tallied_count all s.0.answers s.0.tallies s.0.tallied in
      (s.0, runs_one n old new first s.0.tallies (omega (arith, some, count)) (omega (arith, few, count)) s.1)

-- the batches of so many lines, and of one batch more after whole ones
pub one_batch_more : (batches count size : ℕ) → count ≡ 1024 * batches → 1 ≤ size → size ≤ 1024 → batches_of (count + size) ≡ batches_of count + 1
one_batch_more batches count size whole some few = omega (arith, whole, some, few)
