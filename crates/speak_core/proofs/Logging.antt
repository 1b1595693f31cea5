-- How the logs of callers grow.
use Rattle.std.proofs.Common.{◌≡◌, ◌+◌, ◌∙◌, ℕ, List, [], ◌∷◌, ◌++◌, refl, sym, ap, subst, append_assoc, append-nil, arith}
use Rattle.std.proofs.lemmas.List.Elements.{All-append, All-cons, All-nil}
use Rattle.place_words.specs.declared.view.Entry.{Entry}
use Rattle.state_tuples.specs.Cascades.{Cascaded}
use Rattle.shared_cascade.specs.Callers.{cascades_in, log_of}
use Rattle.shared_cascade.proofs.Rounds.{done_append, rounds_append, was_append}
use Rattle.shared_cascade.specs.Sweeps.{AreRounds, SweptBy, done_in, nothing_swept, was_in}
use Rattle.shared_cascade.specs.declared.callers.Caller.{Caller}
use Rattle.shared_cascade.specs.declared.sweeping.Swept.{Swept}
use Rattle.shared_cascade.specs.declared.tallies.Tally.{Tally}
use Rattle.normaliser.specs.Searches.{KeepsSeat, places_of}
use Rattle.normaliser.specs.declared.normalisers.Normaliser.{Normaliser}
use Rattle.speak_core.specs.Logs.{AreTallies, Grows, GrowsBySweep}
use Rattle.speak_core.specs.Parts.{IsPart}

module _ (cs : List Cascaded) (n : ℕ) where
  pub tallies_append : (ts us : List Tally) (a b : List Entry) → AreTallies cs n ts a → AreTallies cs n us b → AreTallies cs n (ts ++ us) (a ++ b)
  tallies_append [] us a b f g = subst (λ e. AreTallies cs n us (e ++ b)) (sym f) g
  tallies_append (t ∷ ts) us a b f g = (f.0, f.1, f.2 ++ b, f.3, f.4, tallies_append ts us f.2 b f.5 g, ap (λ e. e ++ b) f.6 ∙ append_assoc f.1 f.2 b)

module _ (n : Normaliser) where
  pub grows_none : (c d : Caller) → log_of d ≡ log_of c → Grows n c d []
  grows_none c d same = record { entries = []; parts = refl; log = same ∙ sym (append-nil (log_of c)); places = λ one. All-nil _ }

  pub grows_more : (c d e : Caller) (ts us : List Tally) → KeepsSeat c d → Grows n c d ts → Grows n d e us → Grows n c e (ts ++ us)
  grows_more c d e ts us seat f g = record {
    entries = f.entries ++ g.entries;
    parts = tallies_append (cascades_in n.shared) (places_of n) ts us f.entries g.entries f.parts g.parts;
    log = g.log ∙ ap (λ l. l ++ g.entries) f.log ∙ append_assoc (log_of c) f.entries g.entries;
    places = λ one. All-append (λ (t : Tally). t.no_place ≡ 0) ts us (f.places one) (g.places (seat.seats ∙ one));
  }

  -- a line that was answered
  pub grows_part : (line : List ℕ) (c d : Caller) (t : Tally) → IsPart n line c d t → Grows n c d (t ∷ [])
  grows_part line c d t p = record { entries = p.entries; parts = (p.outcomes, p.entries, [], p.episodes, p.counted, refl, sym (append-nil p.entries)); log = p.log; places = λ one. All-cons (λ (t : Tally). t.no_place ≡ 0) t [] (p.places one) (All-nil _) }

  pub grows_swept : (c d : Caller) (count : ℕ) (es : List Entry) (w : Swept) → AreRounds (places_of n) count es → SweptBy n.shared c d es nothing_swept w → GrowsBySweep n c d count w
  grows_swept c d count es w rounds by = record {
    entries = es;
    rounds = rounds;
    log = ap (λ v. v.log) by.view;
    done = (let h = by.done in omega (arith, h));
    was = (let h = by.was in omega (arith, h));
  }

-- a sweeper's log, and another sweep
pub swept_on : (n : Normaliser) (c m d : Caller) (count more : ℕ) (old new found : Swept) → log_of m ≡ log_of c → AreRounds (places_of n) count (log_of c) → old.done ≡ done_in (log_of c) → old.was ≡ was_in (log_of c) → GrowsBySweep n m d more found → new.done ≡ old.done + found.done → new.was ≡ old.was + found.was
    → AreRounds (places_of n) (count + more) (log_of d) × (new.done ≡ done_in (log_of d)) × (new.was ≡ was_in (log_of d))
swept_on n c m d count more old new found same rounds done was by added again =
    let log : log_of d ≡ log_of c ++ by.entries = by.log ∙ ap (λ l. l ++ by.entries) same in (
      subst (AreRounds (places_of n) (count + more)) (sym log) (rounds_append (places_of n) count more (log_of c) by.entries rounds by.rounds),
      added ∙ (let e = done_append (log_of c) by.entries in let f = by.done in let z : old.done + found.done ≡ done_in (log_of c ++ by.entries) = omega (arith, done, e, f) in z) ∙ ap done_in (sym log),
      again ∙ (let e = was_append (log_of c) by.entries in let f = by.was in let z : old.was + found.was ≡ was_in (log_of c ++ by.entries) = omega (arith, was, e, f) in z) ∙ ap was_in (sym log),
    )
