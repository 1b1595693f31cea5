-- The words at first, and how the view of all seats is dealt.
use Rattle.std.proofs.Common.{◌≡◌, ◌≢◌, ◌⊎◌, ℕ, zero, suc, ◌+◌, ◌*◌, ◌<◌, ◌≤◌, List, [], ◌∷◌, ◌++◌, length, replicate, get_or, set, sym, refl, ap, ◌∙◌, subst, ⊎_elim, inl, inr, arith, Some, None, length-append}
use Rattle.std.specs.List.{slice_get}
use mathlib.Core.Logic.{dite}
use mathlib.Core.Option.{some, some-injective, some-ne-none}
use native.Mathlib.Decide.{ℕ_discrete}
use lib.ListN.{get_elem?, length-replicate}
use Rattle.atomic_table.specs.Table.{Me, Splits}
use Rattle.atomic_table.proofs.Lists.{at_last, at_set, set_here, set_else, at_longer}
use Rattle.place_words.specs.declared.view.View.{View}
use Rattle.place_words.specs.declared.view.Mode.TheVariants.{Idle, Writing}
use Rattle.place_words.specs.Places.{state_word, state_of, count_of}
use Rattle.place_words.specs.Modes.{counted_at, readers, start, lower, upper, idle as idle_view}
use Rattle.place_words.specs.Laws.{DealsKeep, StartsLawful}
use Rattle.place_words.specs.Rule.{Stands, LawfulView, Lawful}
use Rattle.place_words.proofs.Views.{there, readers_set, readers_snoc, widths_snoc, widths_put}

blank : (k i : ℕ) → get_or {A = ℕ} (replicate k 0) i 0 ≡ 0
blank zero i = refl
blank (suc k) zero = refl
blank (suc k) (suc i) = blank k i

only_zero : {A : Type 0} (a : A) (i : ℕ) (v : A) → get_elem? (a ∷ []) i ≡ some v → (i ≡ 0) × (a ≡ v)
only_zero a zero v e = (refl, some-injective a v e)
only_zero a (suc i) v e = absurd (some-ne-none v (sym e))

pub opens : {T : Type 0} (right : T → List ℕ → Type 0) → StartsLawful right
opens {T} right tag n seats some_seat few = let ws : List ℕ = replicate (2049 * n) 0 in let z : (i : ℕ) → get_or ws i 0 ≡ 0 = blank (2049 * n) in record {
  all_words = length-replicate (2049 * n) 0;
  some_seats = (some_seat, few);
  counts = λ p lt. ap count_of (z (2049 * p));
  claims = λ p lt big. let s : state_of (state_word ws p) ≡ 0 = ap state_of (z (2049 * p)) in absurd (omega arith);
  shown = λ p lt one. let s : state_of (state_word ws p) ≡ 0 = ap state_of (z (2049 * p)) in absurd (omega arith);
  each = λ j v at. subst (LawfulView tag n seats ws) (only_zero (start tag seats) j v at).1 record {
    range = (omega arith, omega arith);
    same_tag = refl;
    same_seats = refl;
    undealt = λ _. (refl, refl);
    stands = tt;
  };
  apart = λ i j v w k ai aj hv hw. (only_zero (start tag seats) i v ai).0 ∙ sym (only_zero (start tag seats) j w aj).0;
  total = omega arith;
  covers = λ k lt. (0, start tag seats, refl, omega arith, lt);
  history = record {
    turns = [];
    dealt = λ i d lt. absurd (omega arith);
    in_turn = λ before rest t split. let len = ap length split in let more = length-append before (t ∷ rest) in absurd (omega (arith, len, more));
    words = z;
    logs = λ j v at s low high. ap (λ (u : View T). u.log) (only_zero (start tag seats) j v at).1;
  };
}

at_end : {A : Type 0} (l : List A) (a b : A) (j : ℕ) → get_elem? (l ++ a ∷ []) j ≡ some b → (get_elem? l j ≡ some b) ⊎ ((j ≡ length l) × (a ≡ b))
at_end [] a b zero e = inr (refl, some-injective a b e)
at_end [] a b (suc j) e = absurd (some-ne-none b (sym e))
at_end (x ∷ xs) a b zero e = inl e
at_end (x ∷ xs) a b (suc j) e = ⊎_elim (λ t. inl t) (λ t. inr (ap suc t.0, t.1)) (at_end xs a b j e)

module _ {T : Type 0} (right : T → List ℕ → Type 0) where
  pub deals : DealsKeep right
  deals tag n seats id ws vs v r at wide still bare =
      let one : List (View T) = set vs id (lower v) in let ok = r.each id v at in
      let low : LawfulView tag n seats ws (lower v) = record { range = (omega arith, omega (arith, ok.range)); same_tag = ok.same_tag; same_seats = ok.same_seats; undealt = λ _. (still, bare); stands = ok.stands } in
      let high : LawfulView tag n seats ws (upper v) = record { range = (omega arith, ok.range.1); same_tag = ok.same_tag; same_seats = ok.same_seats; undealt = λ _. (still, bare); stands = subst (Stands ws n (v.from + 1)) (sym still) tt } in
      let zero_here : (p : ℕ) → counted_at p v.mode ≡ 0 = λ p. ap (counted_at p) still in
      let same : (p : ℕ) → readers p (one ++ upper v ∷ []) ≡ readers p vs = λ p. let a = readers_snoc p one (upper v) in let b = readers_set p vs id v (lower v) at in let z = zero_here p in omega (arith, a, b, z) in
      let inside : (i : ℕ) (a : View T) (k : ℕ) → get_elem? one i ≡ some a → (a.from ≤ k) × (k < a.to) → (x : View T) × (get_elem? vs i ≡ some x) × (x.from ≤ k) × (k < x.to) × (i ≡ id → k < v.from + 1) =
      λ i a k ai h. ⊎_elim
      (λ (t : (i ≡ id) × (lower v ≡ a)). let f : v.from ≡ a.from = ap (λ (y : View T). y.from) t.1 in let e : v.from + 1 ≡ a.to = ap (λ (y : View T). y.to) t.1 in (v, ap (get_elem? vs) t.0 ∙ at, omega arith, omega arith, λ _. omega arith))
      (λ (t : (i ≢ id) × (get_elem? vs i ≡ some a)). (a, t.1, h.0, h.1, λ is. absurd (t.0 is)))
      (at_set vs id i (lower v) a ai) in
      record {
        all_words = r.all_words;
        some_seats = r.some_seats;
        counts = λ p lt. r.counts p lt ∙ sym (same p);
        claims = λ p lt big. let t = r.claims p lt big in let u = set_else vs id t.0 (lower v)
            (λ e. let bad : Idle ≡ Writing p t.2 = sym still ∙ (ap (λ (y : View T). y.mode) (some-injective v t.1 (sym at ∙ ap (get_elem? vs) (sym e) ∙ t.3)) ∙ t.5) in cc) ∙ t.3 in
            (t.0, t.1, t.2, at_longer one (upper v ∷ []) t.0 t.1 u, t.4, t.5);
        shown = r.shown;
        each = λ j u is. ⊎_elim
            (λ (a : get_elem? one j ≡ some u). ⊎_elim
            (λ (t : (j ≡ id) × (lower v ≡ u)). subst (LawfulView tag n seats ws) t.1 low)
            (λ (t : (j ≢ id) × (get_elem? vs j ≡ some u)). r.each j u t.1)
            (at_set vs id j (lower v) u a))
            (λ (t : (j ≡ length one) × (upper v ≡ u)). subst (LawfulView tag n seats ws) t.1 high)
            (at_end one (upper v) u j is);
        apart = λ i j a b k ai bj ha hb. ⊎_elim
            (λ (x : get_elem? one i ≡ some a). let p = inside i a k x ha in ⊎_elim
            (λ (y : get_elem? one j ≡ some b). let q = inside j b k y hb in r.apart i j p.0 q.0 k p.1 q.1 (p.2, p.3) (q.2, q.3))
            (λ (y : (j ≡ length one) × (upper v ≡ b)). let f : v.from + 1 ≡ b.from = ap (λ (z : View T). z.from) y.1 in let e : v.to ≡ b.to = ap (λ (z : View T). z.to) y.1 in
            let is = r.apart i id p.0 v k p.1 at (p.2, p.3) (omega arith, omega arith) in let under = p.4 is in absurd (omega arith))
            (at_end one (upper v) b j bj))
            (λ (x : (i ≡ length one) × (upper v ≡ a)). let f : v.from + 1 ≡ a.from = ap (λ (z : View T). z.from) x.1 in let e : v.to ≡ a.to = ap (λ (z : View T). z.to) x.1 in ⊎_elim
            (λ (y : get_elem? one j ≡ some b). let q = inside j b k y hb in
            let is = r.apart j id q.0 v k q.1 at (q.2, q.3) (omega arith, omega arith) in let under = q.4 is in absurd (omega arith))
            (λ (y : (j ≡ length one) × (upper v ≡ b)). x.0 ∙ sym y.0)
            (at_end one (upper v) b j bj))
            (at_end one (upper v) a i ai);
        total = let a = widths_snoc one (upper v) in let b = widths_put vs id v (lower v) at in let c = r.total in omega (arith, a, b, c);
        covers = λ k lt. let t = r.covers k lt in dite (ℕ_discrete t.0 id)
            (λ is. let same : v ≡ t.1 = some-injective v t.1 (sym at ∙ ap (get_elem? vs) (sym is) ∙ t.2) in let f : v.from ≡ t.1.from = ap (λ (u : View T). u.from) same in let e : v.to ≡ t.1.to = ap (λ (u : View T). u.to) same in
            let lo = t.3 in let hi = t.4 in dite (ℕ_discrete k v.from)
            (λ first. (id, lower v, at_longer one (upper v ∷ []) id (lower v) (set_here vs id (lower v) (there vs id v at)), omega arith, omega arith))
            (λ later. (length one, upper v, at_last one (upper v) (length one) refl, omega arith, omega arith)))
            (λ ne. (t.0, t.1, at_longer one (upper v ∷ []) t.0 t.1 (set_else vs id t.0 (lower v) ne ∙ t.2), t.3, t.4));
        history = let h = r.history in record {
          turns = h.turns;
          dealt = h.dealt;
          in_turn = h.in_turn;
          words = h.words;
          logs = λ j u is s low high. ⊎_elim
              (λ (a : get_elem? one j ≡ some u). ⊎_elim
              (λ (t : (j ≡ id) × (lower v ≡ u)). let f : v.from ≡ u.from = ap (λ (z : View T). z.from) t.1 in let e : v.from + 1 ≡ u.to = ap (λ (z : View T). z.to) t.1 in
              h.logs id v at s (omega arith) (omega arith) ∙ ap (λ (z : View T). z.log) t.1)
              (λ (t : (j ≢ id) × (get_elem? vs j ≡ some u)). h.logs j u t.1 s low high)
              (at_set vs id j (lower v) u a))
              (λ (t : (j ≡ length one) × (upper v ≡ u)). let f : v.from + 1 ≡ u.from = ap (λ (z : View T). z.from) t.1 in let e : v.to ≡ u.to = ap (λ (z : View T). z.to) t.1 in
              h.logs id v at s (omega arith) (omega arith) ∙ ap (λ (z : View T). z.log) t.1)
              (at_end one (upper v) u j is);
        };
      }

-- what holds of each element with its index holds with one more
pub each_snoc : {X : Type 0} (P : ℕ → X → Type 0) (l : List X) (n : ℕ) (a : X) → length l ≡ n → P n a → ((k : ℕ) (x : X) → slice_get l k ≡ Some x → P k x)
    → (k : ℕ) (x : X) → slice_get (l ++ a ∷ []) k ≡ Some x → P k x
each_snoc P [] zero a e p h zero x is = let same : a ≡ x = cc in subst (P 0) same p
each_snoc P [] zero a e p h (suc k) x is = let bad : None ≡ Some x = is in cc
each_snoc P [] (suc n) a e p h k x is = absurd (omega arith)
each_snoc P (y ∷ ys) zero a e p h k x is = absurd (omega arith)
each_snoc P (y ∷ ys) (suc n) a e p h zero x is = h 0 x is
each_snoc P (y ∷ ys) (suc n) a e p h (suc k) x is = each_snoc (λ j. P (suc j)) ys n a (omega arith) p (λ j z. h (suc j) z) k x is

pub cut_allowed : {T : Type 0} (right : T → List ℕ → Type 0) (tag t : T) (n seats id a b q : ℕ) (me : Me (Unit {0}) (View T)) → me ≡ (idle_view t q a b, []) → a + 1 < b
    → Splits {S = Unit {0}} (λ s. Lawful right tag n seats s.words s.views) id me.0 (lower me.0) (upper me.0)
cut_allowed {T} right tag t n seats id a b q me is wide s r at = deals right tag n seats id s.words s.views me.0 r at
    (let f : me.0.from ≡ a = ap (λ (m : Me (Unit {0}) (View T)). m.0.from) is in let e : me.0.to ≡ b = ap (λ (m : Me (Unit {0}) (View T)). m.0.to) is in omega arith)
    (ap (λ (m : Me (Unit {0}) (View T)). m.0.mode) is) (ap (λ (m : Me (Unit {0}) (View T)). m.0.log) is)
