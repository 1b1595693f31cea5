-- A caller's tally stays that of its log.
use Rattle.std.specs.Prelude.{◌≡◌, ◌≢◌, ℕ, List, [], ◌∷◌, ◌++◌, Option, Some, None}
use Rattle.std.proofs.Common.{refl, sym, ◌∙◌, ap, subst, append_assoc}
use Rattle.std.proofs.lemmas.List.{append-nil}
use Rattle.place_words.specs.declared.view.Entry.{Entry}
use Rattle.place_words.specs.declared.view.View.{View}
use Rattle.place_words.specs.Seats.{view_of}
use Rattle.state_tuples.specs.Cascades.{Cascaded}
use Rattle.shared_cascade.specs.declared.callers.Caller.{Caller}
use Rattle.shared_cascade.specs.declared.facts.Grammars.{Grammars}
use Rattle.shared_cascade.specs.declared.shared.Shared.{Shared}
use Rattle.shared_cascade.specs.declared.tallies.Outcome.{Outcome}
use Rattle.shared_cascade.specs.declared.tallies.Outcome.TheVariants.{Shown, Published, NoPlace, Wide}
use Rattle.shared_cascade.specs.declared.tallies.Tally.{Tally}
use Rattle.shared_cascade.specs.Callers.{Adds, FindsPlace, HasLooked, IsAtRest, IsReady, KeepsTally, cascades_in, log_before, log_of, places_in, seats_of}
use Rattle.shared_cascade.specs.HandLaws.{both_counted}
use Rattle.shared_cascade.specs.Since.{AreParts, IsPart, IsTally, counted}
use Rattle.shared_cascade.specs.Tallies.{no_tally, with_all, with_outcome}

module _ (cs : List Cascaded) (n : ℕ) where
  parts_append : (xs ys : List (Option Outcome)) (a b : List Entry) → AreParts cs n xs a → AreParts cs n ys b → AreParts cs n (xs ++ ys) (a ++ b)
  parts_append [] ys a b h g = subst (λ t. AreParts cs n ys (t ++ b)) (sym h) g
  parts_append (x ∷ xs) ys a b h g = (h.0, h.1 ++ b, h.2, parts_append xs ys h.1 b h.3 g, ap (λ t. t ++ b) h.4 ∙ append_assoc h.0 h.1 b)

  counted_append : (xs ys : List (Option Outcome)) → counted (xs ++ ys) ≡ counted xs ++ counted ys
  counted_append [] ys = refl
  counted_append (Some o ∷ xs) ys = ap (λ t. o ∷ t) (counted_append xs ys)
  counted_append (None ∷ xs) ys = counted_append xs ys

  -- one part more
  tally_more : (es b : List Entry) (t u : Tally) (x : Option Outcome) → IsTally cs n es t → IsPart cs n x b → u ≡ with_all (counted (x ∷ [])) t → IsTally cs n (es ++ b) u
  tally_more es b t u x h part is = record {
    parts = h.parts ++ x ∷ [];
    are = parts_append h.parts (x ∷ []) es b h.are (b, [], part, refl, sym (append-nil b));
    tally = is ∙ (ap (with_all (counted (x ∷ []))) h.tally
        ∙ sym (ap (λ os. with_all os no_tally) (counted_append h.parts (x ∷ [])) ∙ both_counted (counted h.parts) (counted (x ∷ [])) no_tally));
  }

same_places : (o : Outcome) (t : Tally) → o ≢ NoPlace → (with_outcome o t).no_place ≡ t.no_place
same_places Shown t other = refl
same_places Published t other = refl
same_places NoPlace t other = absurd (other refl)
same_places Wide t other = refl

pub keeps_more : (s : Shared) (c d : Caller) (x : Option Outcome) (es : List Entry) → KeepsTally s c → log_before d ≡ log_before c → IsPart (cascades_in s) (places_in s) x es
    → view_of d.seat ≡ record (view_of c.seat) { log = log_of c ++ es } → d.tally ≡ with_all (counted (x ∷ [])) c.tally → (seats_of c ≡ 1 → d.tally.no_place ≡ c.tally.no_place) → KeepsTally s d
keeps_more s c d x es h before part view tally places = record {
  since = h.since ++ es;
  log = ap (λ (v : View Grammars). v.log) view ∙ (ap (λ l. l ++ es) h.log ∙ (append_assoc (log_before c) h.since es ∙ ap (λ l. l ++ (h.since ++ es)) (sym before)));
  is = tally_more (cascades_in s) (places_in s) h.since es c.tally d.tally x h.is part tally;
  alone = λ one. (let same : seats_of c ≡ 1 = sym (ap (λ (v : View Grammars). v.seats) view) ∙ one in places same ∙ h.alone same);
}

-- the caller is ready again after a call of one look
pub readied : (s : Shared) (c d : Caller) (Kind : Outcome → List Entry → Type 0) → IsReady s c → HasLooked s c d Kind
    → ((o : Outcome) (es : List Entry) → Kind o es → IsPart (cascades_in s) (places_in s) (Some o) es × FindsPlace c o) → IsReady s d
readied s c d Kind ready looked kind =
    let a = looked.adds in
    let k = kind a.0 a.1 a.2 in
    record {
      together = looked.rest.together;
      tag = looked.rest.tag;
      idle = looked.rest.idle;
      whole = looked.rest.whole;
      sound = looked.rest.sound;
      counted = keeps_more s c d (Some a.0) a.1 ready.counted looked.before k.0 a.3 a.4 (λ one. ap (λ t. t.no_place) a.4 ∙ same_places a.0 c.tally (k.1 one));
    }

pub at_rest : (s : Shared) (c : Caller) → IsReady s c → IsAtRest s c
at_rest s c h = record { together = h.together; tag = h.tag; idle = h.idle; whole = h.whole; sound = h.sound }

pub adds_so : (c d : Caller) (K L : Outcome → List Entry → Type 0) → ((o : Outcome) (es : List Entry) → K o es → L o es) → Adds c d K → Adds c d L
adds_so c d K L f h = (h.0, h.1, f h.0 h.1 h.2, h.3, h.4)
