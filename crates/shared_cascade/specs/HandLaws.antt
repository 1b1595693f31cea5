-- Why the laws of expanders hold of a hand.
use Rattle.std.specs.Prelude.{◌≡◌, ℕ, zero, suc, List, [], ◌∷◌, ◌++◌, All}
use Rattle.std.proofs.Common.{refl, sym, ◌∙◌, ap, subst, arith, append_assoc}
use Rattle.std.proofs.lemmas.List.{append-nil}
use Rattle.std.proofs.lemmas.Option.{get_or_from_slice_get}
use Rattle.place_words.specs.declared.view.Entry.{Entry}
use Rattle.place_words.specs.declared.view.View.{View}
use Rattle.place_words.specs.Seats.{view_of}
use Rattle.state_tuples.specs.Cascades.{Cascaded, IsSound}
use Rattle.state_tuples.specs.Calls.{HaveOwnNumbers}
use Rattle.shared_cascade.specs.declared.facts.Grammars.{Grammars}
use Rattle.shared_cascade.specs.declared.hands.Hand.{Hand}
use Rattle.shared_cascade.specs.declared.tallies.Outcome.{Outcome}
use Rattle.shared_cascade.specs.declared.tallies.Tally.{Tally}
use Rattle.shared_cascade.specs.Callers.{IsReady, cascades_in, grammars_of, log_of, places_in}
use Rattle.shared_cascade.specs.Episodes.{Episodes}
use Rattle.shared_cascade.specs.Grammars.{HaveNumbers, cascades_of}
use Rattle.shared_cascade.specs.Hands.{GivesUp, GoesOn}
use Rattle.shared_cascade.specs.Tallies.{with_all}

pub sound : (x : Hand) → IsReady x.shared.now x.caller.now → All IsSound (cascades_in x.shared.now)
sound x h = h.sound

other : (g : Grammars) → HaveNumbers g → (c d : Cascaded) → g.classifier ≡ c → g.verbaliser ≡ d → c.number ≡ d.number → ⊥
other g h c d a b same =
    let p : g.classifier.number ≡ c.number = ap (λ (x : Cascaded). x.number) a in
    let q : g.verbaliser.number ≡ d.number = ap (λ (x : Cascaded). x.number) b in
    omega (arith, h.0, h.1)

numbers_apart : (g : Grammars) → HaveNumbers g → HaveOwnNumbers (cascades_of g)
numbers_apart g h zero zero c d e f same = refl
numbers_apart g h zero (suc zero) c d e f same = absurd (other g h c d (get_or_from_slice_get (cascades_of g) 0 c c e) (get_or_from_slice_get (cascades_of g) 1 d d f) same)
numbers_apart g h (suc zero) zero c d e f same = absurd (other g h d c (get_or_from_slice_get (cascades_of g) 0 d d f) (get_or_from_slice_get (cascades_of g) 1 c c e) (sym same))
numbers_apart g h (suc zero) (suc zero) c d e f same = refl
numbers_apart g h zero (suc (suc j)) c d e f same = absurd (cc)
numbers_apart g h (suc zero) (suc (suc j)) c d e f same = absurd (cc)
numbers_apart g h (suc (suc i)) j c d e f same = absurd (cc)

pub own_numbers : (x : Hand) → HaveOwnNumbers (cascades_in x.shared.now)
own_numbers x = numbers_apart (grammars_of x.shared.now) x.shared.now.numbered

pub on_stays : (x y : Hand) → GoesOn x y → cascades_in y.shared.now ≡ cascades_in x.shared.now
on_stays x y h = ap cascades_in h.still.shared

pub up_stays : (x y : Hand) → GivesUp x y → cascades_in y.shared.now ≡ cascades_in x.shared.now
up_stays x y h = ap cascades_in h.still.shared

pub on_self : (x : Hand) → GoesOn x x
on_self x = record {
  still = record { shared = refl; caller = refl };
  outcomes = [];
  entries = [];
  episodes = refl;
  view = λ i. record (view_of x.caller.now.seat) { log = sym (append-nil (log_of x.caller.now)) i };
  tally = refl;
  before = refl;
}

-- episodes after episodes
both : (cs : List Cascaded) (n : ℕ) (os ps : List Outcome) (es fs : List Entry) → Episodes cs n os es → Episodes cs n ps fs → Episodes cs n (os ++ ps) (es ++ fs)
both cs n [] ps es fs h g = subst (λ t. Episodes cs n ps (t ++ fs)) (sym h) g
both cs n (o ∷ os) ps es fs h g =
    (h.0, h.1, h.2 ++ fs, h.3, both cs n os ps h.2 fs h.4 g, ap (λ t. t ++ fs) h.5 ∙ append_assoc h.1 h.2 fs)

pub both_counted : (os ps : List Outcome) (t : Tally) → with_all (os ++ ps) t ≡ with_all ps (with_all os t)
both_counted [] ps t = refl
both_counted (o ∷ os) ps t = both_counted os ps _

pub on_again : (x y z : Hand) → GoesOn x y → GoesOn y z → GoesOn x z
on_again x y z f g =
    let later = subst (λ s. Episodes (cascades_in s) (places_in s) g.outcomes g.entries) f.still.shared g.episodes in
    record {
      still = record { shared = g.still.shared ∙ f.still.shared; caller = g.still.caller ∙ f.still.caller };
      outcomes = f.outcomes ++ g.outcomes;
      entries = f.entries ++ g.entries;
      episodes = both (cascades_in x.shared.now) (places_in x.shared.now) f.outcomes g.outcomes f.entries g.entries f.episodes later;
      view = g.view ∙ (ap (λ (v : View Grammars). record v { log = v.log ++ g.entries }) f.view ∙ (λ i. record (view_of x.caller.now.seat) { log = append_assoc (log_of x.caller.now) f.entries g.entries i }));
      tally = g.tally ∙ (ap (with_all g.outcomes) f.tally ∙ sym (both_counted f.outcomes g.outcomes x.caller.now.tally));
      before = g.before ∙ f.before;
    }
