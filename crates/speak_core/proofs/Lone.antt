-- What a report of one caller alone tells.
use Rattle.std.proofs.Common.{◌≡◌, ◌<◌, ◌≤◌, ◌+◌, ◌%◌, ◌∙◌, ℕ, All, List, [], ◌∷◌, ◌++◌, Some, length, slice_get, ap, refl, subst, sym, arith, eq-eqb}
use Rattle.std.proofs.lemmas.List.Elements.{All-head, All-tail}
use Rattle.place_words.specs.declared.view.Entry.{Entry}
use Rattle.state_tuples.specs.Cascades.{Cascaded}
use Rattle.shared_cascade.proofs.Alone.{looked_first, none_looked}
use Rattle.shared_cascade.specs.Callers.{cascades_in, log_of, seats_of}
use Rattle.shared_cascade.specs.Tallies.{no_tally}
use Rattle.shared_cascade.specs.declared.callers.Caller.{Caller}
use Rattle.shared_cascade.specs.declared.sweeping.Swept.{Swept}
use Rattle.shared_cascade.specs.declared.tallies.Tally.{Tally}
use Rattle.normaliser.specs.Searches.{places_of}
use Rattle.normaliser.specs.declared.normalisers.Normaliser.{Normaliser}
use Rattle.speak_words.specs.declared.asked.Settings.{Settings}
use Rattle.speak_core.specs.Crews.{AreSeated, HaveRun, dealt, seats_for}
use Rattle.speak_core.specs.Logs.{AreTallies}
use Rattle.speak_core.specs.Reports.{TellsAlone, with_tally, with_tallies}

-- one worker has all lines
dealt_one : {X : Type 0} (before : ℕ) (xs : List X) → dealt 1 0 before xs ≡ xs
dealt_one before [] = refl
dealt_one before (x ∷ xs) = rw (eq-eqb (before % 1) 0 (omega arith)) (ap (λ l. x ∷ l) (dealt_one (before + 1) xs))

first_caller : (callers : List Caller) → length callers ≡ 1 → (c : Caller) × (slice_get callers 0 ≡ Some c)
first_caller [] one = absurd (omega (arith, one))
first_caller (c ∷ callers) one = (c, refl)

-- the first tally that looked is of the first entries of the log
first_absent : (c : Caller) → seats_of c ≡ 1 → (cs : List Cascaded) (n : ℕ) (before after : List Tally) (t : Tally) (es : List Entry) → AreTallies cs n (before ++ t ∷ after) es → log_of c ≡ es → All (λ (u : Tally). u.looks ≡ 0) before → 0 < t.looks → 0 < t.absent
first_absent c one cs n [] after t es h log none some = looked_first c one cs n h.0 h.1 h.2 t h.3 h.4 (log ∙ h.6) some
first_absent c one cs n (u ∷ before) after t es h log none some =
    let empty : h.1 ≡ [] = none_looked cs n h.0 h.1 u h.3 h.4 (All-head (λ (x : Tally). x.looks ≡ 0) u before none) in
    first_absent c one cs n before after t h.2 h.5 (log ∙ h.6 ∙ ap (λ a. a ++ h.2) empty) (All-tail (λ (x : Tally). x.looks ≡ 0) u before none) some

no_total : (t : Tally) (ts : List Tally) → t.no_place ≡ 0 → All (λ (x : Tally). x.no_place ≡ 0) ts → (with_tallies t ts).no_place ≡ 0
no_total t [] none all = none
no_total t (u ∷ us) none all = no_total (with_tally t u) us (let more = All-head (λ (x : Tally). x.no_place ≡ 0) u us all in omega (arith, none, more)) (All-tail (λ (x : Tally). x.no_place ≡ 0) u us all)

module _ (n : Normaliser) (s : Settings) (callers : List Caller) (swept : Swept) (tallies : List Tally) (batches : ℕ) (count : length callers ≡ seats_for s.jobs s.sweep) (seated : AreSeated (seats_for s.jobs s.sweep) callers) (run : HaveRun n s callers swept tallies batches) (one : s.jobs ≡ 1) (none : s.sweep ≡ 0) where
  pub tells_alone : TellsAlone tallies
  tells_alone =
      let seats : seats_for s.jobs s.sweep ≡ 1 = ap (λ k. seats_for k s.sweep) one ∙ ap (seats_for 1) none in
      let (c, at) = first_caller callers (count ∙ seats) in
      let lone : seats_of c ≡ 1 = (seated 0 c at).1 ∙ seats in
      let all : dealt s.jobs 0 0 tallies ≡ tallies = ap (λ k. dealt k 0 0 tallies) one ∙ dealt_one 0 tallies in
      let places : All (λ (t : Tally). t.no_place ≡ 0) tallies = subst (All (λ (t : Tally). t.no_place ≡ 0)) all (run.places 0 c (omega (arith, one)) at lone) in
      record {
        no_place = places;
        total = no_total no_tally tallies refl places;
        first = λ before after t is. first_absent c lone (cascades_in n.shared) (places_of n) before after t (log_of c) (subst (λ ts. AreTallies (cascades_in n.shared) (places_of n) ts (log_of c)) (all ∙ is) (run.workers 0 c (omega (arith, one)) at)) refl;
      }
