-- The base may take each step: whatever the words are then, the rule is kept.
use Rattle.std.proofs.Common.{◌≡◌, ℕ, ◌+◌, ◌-◌, ◌*◌, ◌/◌, ◌%◌, ◌^◌, ◌<◌, ◌≤◌, if◌then◌else◌, eqb, Bool, true, false, List, [], ◌∷◌, ◌++◌, length, set, sym, refl, ap, ◌∙◌, subst, inl, inr, arith, length-set, eq-eqb, ne_eqb}
use Rattle.std.specs.List.{All}
use Rattle.std.proofs.lemmas.List.{set-get_or}
use mathlib.Core.Logic.{dite}
use mathlib.Core.Option.{none, some, some-injective}
use native.Mathlib.Decide.{ℕ_discrete, dec_le}
use lib.ListN.{get_elem?}
use prog.Atomic.{either}
use Rattle.atomic_table.specs.Table.{State, Me, step, keeps, Allows}
use Rattle.atomic_table.proofs.Lists.{set_here}
use Rattle.place_words.specs.declared.view.View.{View}
use Rattle.place_words.specs.declared.view.Mode.{Mode}
use Rattle.place_words.specs.declared.view.Mode.TheVariants.{Idle, Reading, Writing}
use Rattle.place_words.specs.declared.view.Entry.{Entry}
use Rattle.place_words.specs.declared.view.Entry.TheVariants.{Knock, Leave, Read as ReadWord, TakeEmpty, TakeShown, Write, Show, Empty}
use Rattle.place_words.specs.Places.{state_word, word_at, state_of}
use Rattle.place_words.specs.Modes.{counted_at, stored_of, seen_of, IsAt, IsReading, place_or}
use Rattle.place_words.specs.Steps.{moved, knocked, left, saw, took_empty, took_shown, emptied, showed}
use Rattle.place_words.specs.Alone.{left_by, Lone, Settled}
use Rattle.place_words.specs.History.{Turn}
use Rattle.place_words.specs.Rule.{Stands, Lawful}
use Rattle.place_words.specs.Plays.{knocks, leaves, reads, takes_empty, takes_shown, empties, writes, shows}
use Rattle.place_words.proofs.Modes.{counted_where}
use Rattle.place_words.proofs.Views.{there, no_readers, readers_at, readers_few}
use Rattle.place_words.proofs.Histories.{at_of, set_is, played_alone}
use Rattle.place_words.proofs.Keeps.{keeps_lawful}

-- what an exchange leaves
swapped : (b : Bool) (ws : List ℕ) (p k x i : ℕ) → x ≡ at_of ws (2049 * p) → (if eqb i (2049 * p) then either b k x else at_of ws i) ≡ (if b then (if eqb i (2049 * p) then k else at_of ws i) else at_of ws i)
swapped true ws p k x i is = refl
swapped false ws p k x i is = dite (ℕ_discrete i (2049 * p))
    (λ e. ap (λ (t : Bool). if t then x else at_of ws i) (eq-eqb i (2049 * p) e) ∙ is ∙ sym (ap (at_of ws) e))
    (λ ne. ap (λ (t : Bool). if t then x else at_of ws i) (ne_eqb i (2049 * p) ne))

module _ {T : Type 0} (right : T → List ℕ → Type 0) (tag : T) (n seats : ℕ) (law : (code : List ℕ) → right tag code → length code ≤ 2048) where
  abbrev Rule : State (Unit {0}) (View T) → Type 0
  Rule s = Lawful right tag n seats s.words s.views

  lone : (ws : List ℕ) (vs : List (View T)) (r : Lawful right tag n seats ws vs) (id : ℕ) (v : View T) → get_elem? vs id ≡ some v → (i : ℕ) → Lone v i (at_of ws i)
  lone ws vs r id v at i one' = let ok = r.each id v at in let one : seats ≡ 1 = sym ok.same_seats ∙ one' in let h = r.history in
      h.words i ∙ ap (λ (f : ℕ → ℕ). f i) (played_alone (λ _. 0) h.turns (subst (λ (z : ℕ). All (λ (t : Turn). t.0 < z) h.turns) one h.dealt))
      ∙ ap (λ (l : List Entry). left_by l i) (h.logs id v at 0 (omega (arith, ok.range)) (omega (arith, ok.range)))

  settled : (ws : List ℕ) (vs : List (View T)) (r : Lawful right tag n seats ws vs) (id : ℕ) (v : View T) → get_elem? vs id ≡ some v → (p : ℕ) → p < n → v.mode ≡ Idle → Settled v (state_word ws p)
  settled ws vs r id v at p lt idle one' = let ok = r.each id v at in let one : seats ≡ 1 = sym ok.same_seats ∙ one' in let x : ℕ = state_word ws p in
      let same : (j : ℕ) (u : View T) → get_elem? vs j ≡ some u → v ≡ u = λ j u e. let o = r.each j u e in
      let is : j ≡ id = r.apart j id u v 0 e at (omega (arith, o.range), omega (arith, o.range)) (omega (arith, ok.range), omega (arith, ok.range)) in some-injective v u (sym at ∙ ap (get_elem? vs) (sym is) ∙ e) in
      let none_there : x % 4294967296 ≡ 0 = r.counts p lt ∙ no_readers p vs (λ j u e. ap (λ (y : View T). counted_at p y.mode) (sym (same j u e)) ∙ ap (counted_at p) idle) in
      dite (dec_le 2 (state_of x))
      (λ big. let t = r.claims p lt big in let bad : Idle ≡ Writing p t.2 = sym idle ∙ (ap (λ (y : View T). y.mode) (same t.0 t.1 t.3) ∙ t.5) in absurd (cc))
      (λ small. dite (ℕ_discrete x 0) (λ e. inl e) (λ ne. inr (let s2 : ¬ (2 ≤ x / 4294967296) = small in omega arith)))

  pub knock_allowed : (slots id : ℕ) (me : Me (Unit {0}) (View T)) (p : ℕ) → p < n → me.0.from + 1 ≡ me.0.to → me.0.mode ≡ Idle
      → Allows Rule slots id me (2049 * p) (λ x. (x + 1) % 2 ^ 64) (knocks (step slots (2049 * p) 1 0 none) me)
  knock_allowed slots id me p lt alone idle s r _ at small =
      let ws : List ℕ = s.words in let x : ℕ = state_word ws p in let v : View T = me.0 in let inside : 2049 * p < length ws = (let w = r.all_words in omega arith) in
      let few : x % 4294967296 ≤ 64 = (let c = r.counts p lt in let a = readers_few p s.views (λ j u is. (r.each j u is).range.0) in let b = r.total in let d = r.some_seats.1 in omega (arith, c, a, b, d)) in
      let sum : (x + 1) % 18446744073709551616 ≡ x + 1 = (let small' : x < 18446744073709551616 = small in omega arith) in (
        knocked v p x,
        keeps,
        tt,
        keeps_lawful right tag law n seats ws _ s.views r id v at alone (length-set ws (2049 * p) _) _ (Knock p x) lt (idle, refl)
            ((λ i. set_is ws (2049 * p) _ i inside ∙ ap (λ (z : ℕ). if eqb i (2049 * p) then z else at_of ws i) sum), refl),
        (refl, λ q e. ap (λ (z : ℕ). knocked v z x) (let d : 2049 * p ≡ 2049 * q = e in omega arith), lone ws s.views r id v at (2049 * p), settled ws s.views r id v at p lt idle),
      )

  pub leave_allowed : (hit : Bool) (slots id : ℕ) (me : Me (Unit {0}) (View T)) (p : ℕ) → p < n → me.0.from + 1 ≡ me.0.to → IsAt me.0.mode → place_or p me.0.mode ≡ p → (hit ≡ true → IsReading me.0.mode)
      → Allows Rule slots id me (2049 * p) (λ x. (x + (2 ^ 64 - 1)) % 2 ^ 64) (leaves hit (step slots (2049 * p) 1 0 none) me)
  leave_allowed hit slots id me p lt alone is_at is_p is_hit s r _ at small =
      let ws : List ℕ = s.words in let x : ℕ = state_word ws p in let v : View T = me.0 in let inside : 2049 * p < length ws = (let w = r.all_words in omega arith) in
      let here : counted_at p v.mode ≡ 1 = counted_where p p v.mode is_at is_p ∙ ap (λ (b : Bool). if b then 1 else 0) (eq-eqb p p refl) in
      let some_reader : 1 ≤ x % 4294967296 = (let c = r.counts p lt in let d = readers_at p s.views id v at in omega (arith, c, d, here)) in
      let less : (x + 18446744073709551615) % 18446744073709551616 ≡ x - 1 = (let small' : x < 18446744073709551616 = small in omega arith) in (
        left v p x hit,
        keeps,
        tt,
        keeps_lawful right tag law n seats ws _ s.views r id v at alone (length-set ws (2049 * p) _) _ (Leave p x hit) lt (is_at, is_p, is_hit, refl)
            ((λ i. set_is ws (2049 * p) _ i inside ∙ ap (λ (z : ℕ). if eqb i (2049 * p) then z else at_of ws i) less), refl),
        (refl, λ q e. ap (λ (z : ℕ). left v z x hit) (let d : 2049 * p ≡ 2049 * q = e in omega arith), lone ws s.views r id v at (2049 * p)),
      )

  pub take_empty_allowed : (slots id : ℕ) (me : Me (Unit {0}) (View T)) (p k : ℕ) → p < n → me.0.from + 1 ≡ me.0.to → me.0.mode ≡ Idle → k ≡ (2 + me.0.from) * 4294967296
      → Allows Rule slots id me (2049 * p) (λ x. either (eqb x 0) k x) (takes_empty (step slots (2049 * p) 0 k none) me)
  take_empty_allowed slots id me p k lt alone idle is_k s r _ at small =
      let ws : List ℕ = s.words in let x : ℕ = state_word ws p in let v : View T = me.0 in let inside : 2049 * p < length ws = (let w = r.all_words in omega arith) in (
        took_empty v p x,
        keeps,
        tt,
        keeps_lawful right tag law n seats ws _ s.views r id v at alone (length-set ws (2049 * p) _) _ (TakeEmpty p x) lt (idle, refl)
            ((λ i. set_is ws (2049 * p) _ i inside ∙ swapped (eqb x 0) ws p k x i refl ∙ ap (λ (z : ℕ). if eqb x 0 then (if eqb i (2049 * p) then z else at_of ws i) else at_of ws i) is_k), refl),
        (refl, λ q e. ap (λ (z : ℕ). took_empty v z x) (let d : 2049 * p ≡ 2049 * q = e in omega arith), lone ws s.views r id v at (2049 * p), settled ws s.views r id v at p lt idle),
      )

  pub take_shown_allowed : (slots id : ℕ) (me : Me (Unit {0}) (View T)) (p k : ℕ) → p < n → me.0.from + 1 ≡ me.0.to → me.0.mode ≡ Idle → k ≡ (2 + me.0.from) * 4294967296
      → Allows Rule slots id me (2049 * p) (λ x. either (eqb x 4294967296) k x) (takes_shown (step slots (2049 * p) 4294967296 k none) me)
  take_shown_allowed slots id me p k lt alone idle is_k s r _ at small =
      let ws : List ℕ = s.words in let x : ℕ = state_word ws p in let v : View T = me.0 in let inside : 2049 * p < length ws = (let w = r.all_words in omega arith) in (
        took_shown v p x,
        keeps,
        tt,
        keeps_lawful right tag law n seats ws _ s.views r id v at alone (length-set ws (2049 * p) _) _ (TakeShown p x) lt (idle, refl)
            ((λ i. set_is ws (2049 * p) _ i inside ∙ swapped (eqb x 4294967296) ws p k x i refl ∙ ap (λ (z : ℕ). if eqb x 4294967296 then (if eqb i (2049 * p) then z else at_of ws i) else at_of ws i) is_k), refl),
        (refl, λ q e. ap (λ (z : ℕ). took_shown v z x) (let d : 2049 * p ≡ 2049 * q = e in omega arith), lone ws s.views r id v at (2049 * p), settled ws s.views r id v at p lt idle),
      )

  pub empty_allowed : (slots id : ℕ) (me : Me (Unit {0}) (View T)) (p : ℕ) → p < n → me.0.from + 1 ≡ me.0.to → me.0.mode ≡ Idle
      → Allows Rule slots id me (2049 * p) (λ x. either (eqb x 4294967296) 0 x) (empties (step slots (2049 * p) 4294967296 0 none) me)
  empty_allowed slots id me p lt alone idle s r _ at small =
      let ws : List ℕ = s.words in let x : ℕ = state_word ws p in let v : View T = me.0 in let inside : 2049 * p < length ws = (let w = r.all_words in omega arith) in (
        emptied v p x,
        keeps,
        tt,
        keeps_lawful right tag law n seats ws _ s.views r id v at alone (length-set ws (2049 * p) _) _ (Empty p x) lt (idle, refl)
            ((λ i. set_is ws (2049 * p) _ i inside ∙ swapped (eqb x 4294967296) ws p 0 x i refl), refl),
        (refl, λ q e. ap (λ (z : ℕ). emptied v z x) (let d : 2049 * p ≡ 2049 * q = e in omega arith), lone ws s.views r id v at (2049 * p), settled ws s.views r id v at p lt idle),
      )

  pub read_allowed : (slots id : ℕ) (me : Me (Unit {0}) (View T)) (p i : ℕ) → p < n → i < 2048 → me.0.from + 1 ≡ me.0.to → me.0.mode ≡ Reading p (seen_of me.0.mode)
      → Allows Rule slots id me (2049 * p + 1 + i) (λ x. x) (reads right (step slots (2049 * p + 1 + i) 0 0 none) me)
  read_allowed slots id me p i lt low alone reading s r _ at small =
      let ws : List ℕ = s.words in let x : ℕ = word_at ws p i in let v : View T = me.0 in let inside : 2049 * p + 1 + i < length ws = (let w = r.all_words in omega arith) in
      let m : Mode = Reading p (seen_of v.mode ++ record { index = i; word = x } ∷ []) in
      let kept : Rule record { words = set ws (2049 * p + 1 + i) x; homes = s.homes; views = set s.views id (moved v m (ReadWord p i x)) } =
      keeps_lawful right tag law n seats ws _ s.views r id v at alone (length-set ws (2049 * p + 1 + i) _) m (ReadWord p i x) lt (reading, low, refl)
      ((λ j. ap (λ (l : List ℕ). at_of l j) (set-get_or ws (2049 * p + 1 + i) 0)), refl) in
      let g : Stands ws n v.from m = subst (λ (l : List ℕ). Stands l n v.from m) (set-get_or ws (2049 * p + 1 + i) 0) ((kept.each id (moved v m (ReadWord p i x)) (set_here s.views id _ (there s.views id v at))).stands) in (
        saw v p i x,
        keeps,
        tt,
        kept,
        (
          refl,
          λ q k lk e. let d : 2049 * p + 1 + i ≡ 2049 * q + 1 + k = e in let same_place : p ≡ q = omega arith in let same_index : i ≡ k = omega arith in cc,
          lone ws s.views r id v at (2049 * p + 1 + i),
          (let t = r.shown p lt g.1 in (t.0, subst (λ (z : T). right z t.0) (sym (r.each id v at).same_tag) t.1, λ k y yk short. sym (t.2 y.index short) ∙ (g.2 k y yk).1)),
        ),
      )

  pub write_allowed : (slots id : ℕ) (me : Me (Unit {0}) (View T)) (p y d : ℕ) → p < n → d ≡ length (stored_of me.0.mode) → d < 2048 → me.0.from + 1 ≡ me.0.to → me.0.mode ≡ Writing p (stored_of me.0.mode)
      → Allows Rule slots id me (2049 * p + 1 + d) (λ _. y) (λ _. writes (step slots (2049 * p + 1 + d) y 0 none) me y)
  write_allowed slots id me p y d lt next room alone writing s r _ at small =
      let ws : List ℕ = s.words in let v : View T = me.0 in let inside : 2049 * p + 1 + d < length ws = (let w = r.all_words in omega arith) in
      let m : Mode = Writing p (stored_of v.mode ++ y ∷ []) in (
        moved v m (Write p d y),
        keeps,
        tt,
        keeps_lawful right tag law n seats ws _ s.views r id v at alone (length-set ws (2049 * p + 1 + d) y) m (Write p d y) lt (writing, next, room, refl)
            ((λ i. set_is ws (2049 * p + 1 + d) y i inside), refl),
        (
          refl,
          λ q e room'. let same : 2049 * p + 1 + d ≡ 2049 * q + 1 + length (stored_of v.mode) = e in let place : p ≡ q = omega (arith, same, next, room) in
              ap (λ (z : ℕ). moved v (Writing z (stored_of v.mode ++ y ∷ [])) (Write z d y)) place ∙ ap (λ (z : ℕ). moved v (Writing q (stored_of v.mode ++ y ∷ [])) (Write q z y)) next,
        ),
      )

  pub show_allowed : (slots id : ℕ) (me : Me (Unit {0}) (View T)) (p k : ℕ) → p < n → me.0.from + 1 ≡ me.0.to → me.0.mode ≡ Writing p (stored_of me.0.mode) → right me.0.tag (stored_of me.0.mode) → k ≡ (1 + me.0.from) * 4294967296
      → Allows Rule slots id me (2049 * p) (λ x. (x + (2 ^ 64 - k)) % 2 ^ 64) (shows (step slots (2049 * p) k 0 none) me)
  show_allowed slots id me p k lt alone writing good is_k s r _ at small =
      let ws : List ℕ = s.words in let x : ℕ = state_word ws p in let v : View T = me.0 in let inside : 2049 * p < length ws = (let w = r.all_words in omega arith) in
      let g : Stands ws n v.from (Writing p (stored_of v.mode)) = subst (Stands ws n v.from) writing ((r.each id v at).stands) in
      let claimed : x / 4294967296 ≡ 2 + v.from = g.1 in let range = (r.each id v at).range in let few = r.some_seats.1 in
      let less : (x + (18446744073709551616 - k)) % 18446744073709551616 ≡ x - k = (let small' : x < 18446744073709551616 = small in let low : v.from < 64 = omega (arith, range, few) in omega arith) in (
        showed v p x,
        keeps,
        tt,
        keeps_lawful right tag law n seats ws _ s.views r id v at alone (length-set ws (2049 * p) _) _ (Show p x) lt (writing, good, refl)
            ((λ i. set_is ws (2049 * p) _ i inside ∙ ap (λ (z : ℕ). if eqb i (2049 * p) then z else at_of ws i) (less ∙ ap (λ (z : ℕ). x - z) is_k)), refl),
        (refl, λ q e. ap (λ (z : ℕ). showed v z x) (let d : 2049 * p ≡ 2049 * q = e in omega arith), lone ws s.views r id v at (2049 * p)),
      )
