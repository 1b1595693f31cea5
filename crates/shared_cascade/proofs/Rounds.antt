-- A sweep, place by place and round by round.
use Rattle.std.specs.Prelude.{None, ◌≡◌, ◌≢◌, Bool, true, false, ℕ, zero, suc, ◌+◌, List, [], ◌∷◌, ◌++◌, cond, length, nat_eq}
use Rattle.std.proofs.Common.{refl, sym, ◌∙◌, ap, subst, arith, append_assoc}
use Rattle.std.proofs.lemmas.Bool.{ne_eqb}
use Rattle.std.proofs.lemmas.List.{append-nil}
use Rattle.place_words.specs.declared.layout.TheConstants.{STATE}
use Rattle.place_words.specs.declared.view.Entry.{Entry}
use Rattle.place_words.specs.declared.view.Entry.TheVariants.{Knock, Leave, Read, TakeEmpty, TakeShown, Write, Show, Empty}
use Rattle.place_words.specs.declared.view.View.{View}
use Rattle.place_words.specs.Seats.{IsSeatOf, view_of}
use Rattle.place_table.specs.Entries.{logged}
use Rattle.place_table.specs.Tables.{words_of}
use Rattle.place_table.specs.Ways.{way_count}
use Rattle.shared_cascade.specs.declared.callers.Caller.{Caller}
use Rattle.shared_cascade.specs.declared.facts.Grammars.{Grammars}
use Rattle.shared_cascade.specs.declared.shared.Shared.{Shared}
use Rattle.shared_cascade.specs.declared.sweeping.Swept.{Swept}
use Rattle.shared_cascade.specs.Callers.{IsReady, log_before, log_of, places_in}
use Rattle.shared_cascade.specs.Sweeps.{AreRounds, IsRound, SweptBy, done_in, empties, was_in}
use Rattle.shared_cascade.proofs.Counting.{Runs}
use Rattle.shared_cascade.proofs.Keeping.{at_rest, keeps_more}
use Rattle.shared_cascade.proofs.Readies.{again, still_idle}

empties_more : (p : ℕ) (ws : List ℕ) (w : ℕ) → empties p (ws ++ w ∷ []) ≡ empties p ws ++ Empty (p + length ws) w ∷ []
empties_more p [] w = ap (λ (q : ℕ). Empty q w ∷ []) (let e : p ≡ p + 0 = omega arith in e)
empties_more p (x ∷ ws) w =
    ap (λ l. Empty p x ∷ l) (empties_more (p + 1) ws w)
    ∙ ap (λ (q : ℕ). Empty p x ∷ (empties (p + 1) ws ++ Empty q w ∷ [])) (let e : p + 1 + length ws ≡ p + suc (length ws) = omega arith in e)

pub done_append : (a b : List Entry) → done_in (a ++ b) ≡ done_in a + done_in b
done_append [] b = (let e : done_in b ≡ 0 + done_in b = omega arith in e)
done_append (Empty p w ∷ a) b = (let e = done_append a b in omega arith)
done_append (Knock p w ∷ a) b = done_append a b
done_append (Leave p w hit ∷ a) b = done_append a b
done_append (Read p i w ∷ a) b = done_append a b
done_append (TakeEmpty p w ∷ a) b = done_append a b
done_append (TakeShown p w ∷ a) b = done_append a b
done_append (Write p i w ∷ a) b = done_append a b
done_append (Show p w ∷ a) b = done_append a b

pub was_append : (a b : List Entry) → was_in (a ++ b) ≡ was_in a + was_in b
was_append [] b = (let e : was_in b ≡ 0 + was_in b = omega arith in e)
was_append (Empty p w ∷ a) b = (let e = was_append a b in omega arith)
was_append (Knock p w ∷ a) b = was_append a b
was_append (Leave p w hit ∷ a) b = was_append a b
was_append (Read p i w ∷ a) b = was_append a b
was_append (TakeEmpty p w ∷ a) b = was_append a b
was_append (TakeShown p w ∷ a) b = was_append a b
was_append (Write p i w ∷ a) b = was_append a b
was_append (Show p w ∷ a) b = was_append a b

pub nothing_yet : (s : Shared) (c : Caller) (old : Swept) → IsReady s c → SweptBy s c c [] old old
nothing_yet s c old h = record {
  ready = h;
  view = λ i. record (view_of c.seat) { log = sym (append-nil (log_of c)) i };
  done = omega arith;
  was = omega arith;
  looks = refl;
  tally = refl;
  before = refl;
}

-- one after the other
pub then : (s : Shared) (c d e : Caller) (es fs : List Entry) (old mid new : Swept) → SweptBy s c d es old mid → SweptBy s d e fs mid new → SweptBy s c e (es ++ fs) old new
then s c d e es fs old mid new f g = record {
  ready = g.ready;
  view = g.view ∙ (ap (λ (v : View Grammars). record v { log = v.log ++ fs }) f.view ∙ (λ i. record (view_of c.seat) { log = append_assoc (log_of c) es fs i }));
  done = (let a = f.done in let b = g.done in let x = done_append es fs in omega arith);
  was = (let a = f.was in let b = g.was in let x = was_append es fs in omega arith);
  looks = g.looks ∙ f.looks;
  tally = g.tally ∙ f.tally;
  before = g.before ∙ f.before;
}

-- one place
pub one_place : (s : Shared) (c d : Caller) (p w : ℕ) (es : List Entry) (old new : Swept) → IsReady s c → IsSeatOf (words_of s.table) d.seat → es ≡ Empty p w ∷ [] → view_of d.seat ≡ logged (view_of c.seat) es → d.tally ≡ c.tally → log_before d ≡ log_before c
    → new.done ≡ old.done + cond (nat_eq w STATE) 1 0 → new.was ≡ old.was + cond (nat_eq w STATE) 0 1 → SweptBy s c d (Empty p w ∷ []) old new
one_place s c d p w es old new h own is view tally before done was =
    let n = way_count (places_in s) in
    let at : view_of d.seat ≡ logged (view_of c.seat) (Empty p w ∷ []) = view ∙ ap (logged (view_of c.seat)) is in
    let runs : Runs n 0 (Empty p w ∷ []) 0 0 = record { left = refl; ended = refl } in
    let x = again s c d (Empty p w ∷ []) 0 (at_rest s c h) own at runs in
    let seen = at ∙ still_idle (view_of c.seat) (Empty p w ∷ []) h.idle in
    record {
      ready = record {
        together = x.rest.together;
        tag = x.rest.tag;
        idle = x.rest.idle;
        whole = x.rest.whole;
        sound = x.rest.sound;
        counted = keeps_more s c d None (Empty p w ∷ []) h.counted before (p, w, refl) seen tally (λ one. ap (λ t. t.no_place) tally);
      };
      view = seen;
      done = omega arith;
      was = omega arith;
      looks = (let e = x.looks in omega arith);
      tally = tally;
      before = before;
    }

-- where another word was found, nothing was made empty
pub not_taken : (w n : ℕ) → w ≢ STATE → (n ≡ n + cond (nat_eq w STATE) 1 0) × (n + 1 ≡ n + cond (nat_eq w STATE) 0 1)
not_taken w n other = by (nat_eq w STATE) (ne_eqb w STATE other)
  where
    by : (b : Bool) → b ≡ false → (n ≡ n + cond b 1 0) × (n + 1 ≡ n + cond b 0 1)
    by true e = absurd (cc)
    by false e = (omega arith, refl)

-- one more round
pub rounds_more : (n k : ℕ) (a b : List Entry) → AreRounds n k a → IsRound n b → AreRounds n (k + 1) (a ++ b)
rounds_more n k a b f g = subst (λ j. AreRounds n j (a ++ b)) (let e : suc k ≡ k + 1 = omega arith in e) (a, b, f, g, refl)

-- one more place of a round
pub place_more : (s : Shared) (c d e : Caller) (ws : List ℕ) (p w : ℕ) (old mid new : Swept) → length ws ≡ p → SweptBy s c d (empties 0 ws) old mid → SweptBy s d e (Empty p w ∷ []) mid new → SweptBy s c e (empties 0 (ws ++ w ∷ [])) old new
place_more s c d e ws p w old mid new count f g =
    let is : empties 0 ws ++ Empty p w ∷ [] ≡ empties 0 (ws ++ w ∷ []) =
    ap (λ (q : ℕ). empties 0 ws ++ Empty q w ∷ []) (let e : p ≡ 0 + length ws = omega arith in e) ∙ sym (empties_more 0 ws w) in
    subst (λ l. SweptBy s c e l old new) is (then s c d e (empties 0 ws) (Empty p w ∷ []) old mid new f g)

-- rounds, and then more of them
pub rounds_append : (n k m : ℕ) (a b : List Entry) → AreRounds n k a → AreRounds n m b → AreRounds n (k + m) (a ++ b)
rounds_append n k zero a b f g = subst (AreRounds n (k + 0)) (sym (append-nil a) ∙ ap (λ l. a ++ l) (sym g)) (subst (λ j. AreRounds n j a) (let e : k ≡ k + 0 = omega arith in e) f)
rounds_append n k (suc m) a b f (c, d, more, last, is) =
    subst (λ j. AreRounds n j (a ++ b)) (let e : suc (k + m) ≡ k + suc m = omega arith in e)
    (a ++ c, d, rounds_append n k m a c f more, last, ap (λ l. a ++ l) is ∙ sym (append_assoc a c d))
