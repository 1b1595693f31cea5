-- What one visit adds is what a hand may add.
use Rattle.std.specs.Prelude.{◌≡◌, ◌≢◌, ℕ, List, [], ◌∷◌, ◌++◌, OnErr, OnOk, Result, Ok, Err, Some}
use Rattle.std.proofs.Common.{refl, sym, ◌∙◌, ap, subst, inl, inr, append_assoc}
use Rattle.std.proofs.lemmas.List.{append-nil}
use Rattle.std.proofs.lemmas.Result.{on_ok_weaker}
use Rattle.place_words.specs.declared.view.Entry.{Entry}
use Rattle.place_words.specs.declared.view.Mode.TheVariants.{Idle}
use Rattle.place_words.specs.declared.view.View.{View}
use Rattle.place_words.specs.Seats.{view_of}
use Rattle.place_table.specs.Entries.{logged}
use Rattle.state_tuples.specs.Cascades.{Cascaded}
use Rattle.shared_cascade.specs.declared.callers.Caller.{Caller}
use Rattle.shared_cascade.specs.declared.facts.Grammars.{Grammars}
use Rattle.shared_cascade.specs.declared.hands.Hand.{Hand}
use Rattle.shared_cascade.specs.declared.tallies.Outcome.{Outcome}
use Rattle.shared_cascade.specs.declared.tallies.Outcome.TheVariants.{Shown, Published, NoPlace, Wide}
use Rattle.state_tuples.specs.Codes.{key}
use Rattle.state_tuples.specs.declared.tuples.Tuple.{Tuple}
use Rattle.shared_cascade.specs.declared.shared.Shared.{Shared}
use Rattle.shared_cascade.specs.Callers.{Adds, FindsPlace, FoundFor, MadeFor, MissedFor, cascades_in, log_before, log_of, places_in}
use Rattle.shared_cascade.specs.Since.{IsPart}
use Rattle.shared_cascade.specs.Episodes.{Episode, Made, Missed}
use Rattle.shared_cascade.specs.Hands.{GivesUp, GoesOn, IsStill}
use Rattle.shared_cascade.specs.Tallies.{with_outcome}

-- a look that found nothing, and what followed it
pub episode : (cs : List Cascaded) (n : ℕ) (key : List ℕ) (o : Outcome) (a b : List Entry) → Missed n key a → Made cs n key o b → Episode cs n key o (a ++ b)
episode cs n key Shown a b m h = absurd h
episode cs n key Published a b m h = (a, b, m, h, refl)
episode cs n key NoPlace a b m h = (a, b, m, h, refl)
episode cs n key Wide a b m h = subst (λ t. Episode cs n key Wide (a ++ t)) (sym h.1) (subst (Episode cs n key Wide) (sym (append-nil a)) (m, h.0))

not_shown : (cs : List Cascaded) (n : ℕ) (key : List ℕ) (o : Outcome) (es : List Entry) → Made cs n key o es → o ≢ Shown
not_shown cs n key Shown es h same = h
not_shown cs n key Published es h same = absurd (cc)
not_shown cs n key NoPlace es h same = absurd (cc)
not_shown cs n key Wide es h same = absurd (cc)

-- the caller c has looked and found nothing, which left it as m, and then has made the expansion
pub whole_episode : (s : Shared) (t : Tuple) (c m d : Caller) (a : List Entry) → (view_of c.seat).mode ≡ Idle → Missed (places_in s) (key t) a
    → view_of m.seat ≡ logged (view_of c.seat) a → m.tally ≡ c.tally → Adds m d (λ o es. Made (cascades_in s) (places_in s) (key t) o es × FindsPlace m o) → Adds c d (MadeFor s c t)
whole_episode s t c m d a idle missed view same h = (
  h.0,
  a ++ h.1,
  (
    episode (cascades_in s) (places_in s) (key t) h.0 a h.1 missed h.2.0,
    not_shown (cascades_in s) (places_in s) (key t) h.0 h.1 h.2.0,
    λ one. h.2.1 (ap (λ (v : View Grammars). v.seats) view ∙ one),
  ),
  h.3 ∙ (ap (λ (v : View Grammars). record v { log = v.log ++ h.1 }) view ∙ (λ i. record (view_of c.seat) { mode = sym idle i; log = append_assoc (log_of c) a h.1 i })),
  h.4 ∙ ap (with_outcome h.0) same,
)

-- each kind of a call of one look is an episode or a part of the log
module _ (s : Shared) (t : Tuple) where
  pub found_so : (most : ℕ) (o : Outcome) (es : List Entry) → FoundFor s t most o es → Episode (cascades_in s) (places_in s) (key t) o es
  found_so most o es h = subst (λ p. Episode (cascades_in s) (places_in s) (key t) p es) (sym h.0) h.1

  pub found_part : (c : Caller) (most : ℕ) (o : Outcome) (es : List Entry) → FoundFor s t most o es → IsPart (cascades_in s) (places_in s) (Some o) es × FindsPlace c o
  found_part c most o es h = ((key t, inl (found_so most o es h)), λ one same. absurd (let e : Shown ≡ NoPlace = sym h.0 ∙ same in cc))

  pub made_part : (c : Caller) (o : Outcome) (es : List Entry) → MadeFor s c t o es → IsPart (cascades_in s) (places_in s) (Some o) es × FindsPlace c o
  made_part c o es h = ((key t, inl h.0), h.2)

  pub missed_part : (c : Caller) (o : Outcome) (es : List Entry) → MissedFor s t o es → IsPart (cascades_in s) (places_in s) (Some o) es × FindsPlace c o
  missed_part c o es h = ((key t, inr h), λ one same. absurd (let e : Wide ≡ NoPlace = sym h.0 ∙ same in cc))

pub goes_on : (x y : Hand) (key : List ℕ) → IsStill x y → log_before y.caller.now ≡ log_before x.caller.now → Adds x.caller.now y.caller.now (Episode (cascades_in x.shared.now) (places_in x.shared.now) key) → GoesOn x y
goes_on x y key still before h = record {
  still = still;
  outcomes = h.0 ∷ [];
  entries = h.1;
  episodes = (key, h.1, [], h.2, refl, sym (append-nil h.1));
  view = h.3;
  tally = h.4;
  before = before;
}

pub gave_up : (x y : Hand) (key : List ℕ) → IsStill x y → log_before y.caller.now ≡ log_before x.caller.now → Adds x.caller.now y.caller.now (λ o es. Missed (places_in x.shared.now) key es) → GivesUp x y
gave_up x y key still before h = record { still = still; key = key; adds = (h.0, h.1, inr h.2, h.3, h.4); before = before }

pub gave_up_late : (x y : Hand) (key : List ℕ) → IsStill x y → log_before y.caller.now ≡ log_before x.caller.now → Adds x.caller.now y.caller.now (Episode (cascades_in x.shared.now) (places_in x.shared.now) key) → GivesUp x y
gave_up_late x y key still before h = record { still = still; key = key; adds = (h.0, h.1, inl h.2, h.3, h.4); before = before }

pub on_any_error : {T E P : Type 0} (r : Result T E) → P → OnErr r P
on_any_error (Ok x) p = tt
on_any_error (Err e) p = p

pub on_any_value : {T E P : Type 0} (r : Result T E) → P → OnOk r P
on_any_value (Ok x) p = p
on_any_value (Err e) p = tt

pub no_value : {T E : Type 0} (P : Type 0) (r : Result T E) (e : E) → r ≡ Err e → OnOk r P
no_value P (Ok x) e is = absurd (cc)
no_value P (Err d) e is = tt

pub same_value : {T E P Q : Type 0} (r s : Result T E) → r ≡ s → (P → Q) → OnOk s P → OnOk r Q
same_value {Q = Q} r s is f h = subst (λ x. OnOk x Q) (sym is) (on_ok_weaker s f h)
