-- Each step keeps the rule, by cases on its entry.
use Rattle.std.proofs.Common.{◌≡◌, ◌≢◌, ℕ, ◌+◌, ◌-◌, ◌*◌, ◌/◌, ◌%◌, ◌<◌, ◌≤◌, if◌then◌else◌, eqb, Bool, List, [], ◌∷◌, ◌++◌, length, set, sym, refl, ap, ◌∙◌, subst, ⊎_elim, arith, length-append, eq-eqb, ne_eqb}
use Rattle.std.proofs.lemmas.List.{get_or_push, get_or_append_left}
use mathlib.Core.Logic.{dite}
use mathlib.Core.Option.{some, some-injective}
use native.Mathlib.Decide.{ℕ_discrete}
use lib.ListN.{get_elem?}
use Rattle.atomic_table.proofs.Lists.{at_set, set_here, set_else, at_snoc}
use Rattle.place_words.specs.declared.view.Read.{Read}
use Rattle.place_words.specs.declared.view.View.{View}
use Rattle.place_words.specs.declared.view.Mode.{Mode}
use Rattle.place_words.specs.declared.view.Mode.TheVariants.{Idle, Knocked, Reading, Writing}
use Rattle.place_words.specs.declared.view.Entry.{Entry}
use Rattle.place_words.specs.declared.view.Entry.TheVariants.{Knock, Leave, Read as ReadWord, TakeEmpty, TakeShown, Write, Show, Empty}
use Rattle.place_words.specs.Places.{state_word, word_at, state_of, count_of, Begins, Saw}
use Rattle.place_words.specs.Modes.{counted_at, readers, stored_of, seen_of, IsAt, place_or}
use Rattle.place_words.specs.Steps.{place_of, Moves, moved}
use Rattle.place_words.specs.Rule.{Stands, Claimed, LawfulView, Lawful}
use Rattle.place_words.specs.Laws.{StepsKeep}
use Rattle.place_words.proofs.Modes.{counted_where, counted_reading, counted_knock, knock_stands, not_writing}
use Rattle.place_words.proofs.Views.{there, readers_set, readers_at, readers_few, widths_set}
use Rattle.place_words.proofs.Histories.{at_of, skip, Follows, keeps_history}

-- the place q is as it was
abbrev Same : List ℕ → List ℕ → ℕ → Type 0
Same ws ws' q = (state_of (state_word ws' q) ≡ state_of (state_word ws q)) × ((k : ℕ) → k < 2048 → word_at ws' q k ≡ word_at ws q k)

stands_same : (ws ws' : List ℕ) (n s : ℕ) (m : Mode) → (place_or n m < n → Same ws ws' (place_or n m)) → Stands ws n s m → Stands ws' n s m
stands_same ws ws' n s Idle h g = tt
stands_same ws ws' n s (Knocked p) h g = g
stands_same ws ws' n s (Reading p seen) h g = let same = h g.0 in (g.0, same.0 ∙ g.1, λ k r at. let one = g.2 k r at in (one.0, same.1 r.index one.0 ∙ one.1))
stands_same ws ws' n s (Writing p stored) h g = let same = h g.0 in (g.0, same.0 ∙ g.1, g.2, λ k lt. same.1 k (omega (arith, g.2)) ∙ g.3 k lt)

-- of the state words that of place p changed, to y, and no other; and no word of a code
abbrev Changes : List ℕ → List ℕ → ℕ → ℕ → Type 0
Changes ws ws' p y = (state_word ws' p ≡ y) × ((q : ℕ) → q ≢ p → state_word ws' q ≡ state_word ws q) × ((q k : ℕ) → k < 2048 → word_at ws' q k ≡ word_at ws q k)

changes : (ws ws' : List ℕ) (p y : ℕ) → ((i : ℕ) → at_of ws' i ≡ (if eqb i (2049 * p) then y else at_of ws i)) → Changes ws ws' p y
changes ws ws' p y h = (
  h (2049 * p) ∙ ap (λ (b : Bool). if b then y else at_of ws (2049 * p)) (eq-eqb (2049 * p) (2049 * p) refl),
  λ q ne. h (2049 * q) ∙ skip (2049 * q) (2049 * p) y (at_of ws (2049 * q)) (λ e. ne (omega arith)),
  λ q k low. h (2049 * q + 1 + k) ∙ skip (2049 * q + 1 + k) (2049 * p) y (at_of ws (2049 * q + 1 + k)) (λ e. omega arith),
)

unchanged : (ws ws' : List ℕ) (p : ℕ) → ((i : ℕ) → at_of ws' i ≡ at_of ws i) → Changes ws ws' p (state_word ws p)
unchanged ws ws' p h = (h (2049 * p), λ q ne. h (2049 * q), λ q k low. h (2049 * q + 1 + k))

same_else : (ws ws' : List ℕ) (p y : ℕ) → Changes ws ws' p y → (q : ℕ) → q ≢ p → Same ws ws' q
same_else ws ws' p y c q ne = (ap state_of (c.1 q ne), λ k low. c.2 q k low)

same_all : (ws ws' : List ℕ) (p y : ℕ) → Changes ws ws' p y → state_of y ≡ state_of (state_word ws p) → (q : ℕ) → Same ws ws' q
same_all ws ws' p y c is q = dite (ℕ_discrete q p)
    (λ e. subst (Same ws ws') (sym e) (ap state_of c.0 ∙ is, λ k low. c.2 p k low))
    (λ ne. same_else ws ws' p y c q ne)

stands_apart : (ws ws' : List ℕ) (n s p : ℕ) (m : Mode) → ((q : ℕ) → q ≢ p → Same ws ws' q) → ((seen : List Read) → m ≡ Reading p seen → ⊥) → ((stored : List ℕ) → m ≡ Writing p stored → ⊥)
    → Stands ws n s m → Stands ws' n s m
stands_apart ws ws' n s p Idle same a b g = tt
stands_apart ws ws' n s p (Knocked q) same a b g = g
stands_apart ws ws' n s p (Reading q seen) same a b g = stands_same ws ws' n s (Reading q seen) (λ _. same q (λ e. a seen (ap (λ (z : ℕ). Reading z seen) e))) g
stands_apart ws ws' n s p (Writing q stored) same a b g = stands_same ws ws' n s (Writing q stored) (λ _. same q (λ e. b stored (ap (λ (z : ℕ). Writing z stored) e))) g

-- a step of the seat whose view is the id-th
module _ {T : Type 0} (right : T → List ℕ → Type 0) (tag : T) (law : (code : List ℕ) → right tag code → length code ≤ 2048) (n seats : ℕ)
    (ws ws' : List ℕ) (vs : List (View T)) (r : Lawful right tag n seats ws vs) (id : ℕ) (v : View T) (at : get_elem? vs id ≡ some v) (alone : v.from + 1 ≡ v.to) (wide : length ws' ≡ length ws) where
  abbrev Next : Mode → Entry → Type 0
  Next m e = Lawful right tag n seats ws' (set vs id (moved v m e))

  -- no seat reads or writes at place p
  abbrev Nobody : ℕ → Type 0
  Nobody p = (j : ℕ) (u : View T) → get_elem? vs j ≡ some u → ((seen : List Read) → u.mode ≡ Reading p seen → ⊥) × ((stored : List ℕ) → u.mode ≡ Writing p stored → ⊥)

  was : (m : Mode) (e : Entry) (j : ℕ) (u : View T) → get_elem? (set vs id (moved v m e)) j ≡ some u → (x : View T) × (get_elem? vs j ≡ some x) × (x.from ≡ u.from) × (x.to ≡ u.to)
  was m e j u is = ⊎_elim
      (λ (t : (j ≡ id) × (moved v m e ≡ u)). (v, ap (get_elem? vs) t.0 ∙ at, ap (λ (y : View T). y.from) t.1, ap (λ (y : View T). y.to) t.1))
      (λ (t : (j ≢ id) × (get_elem? vs j ≡ some u)). (u, t.1, refl, refl))
      (at_set vs id j (moved v m e) u is)

  keeps_step : (m : Mode) (e : Entry)
      → ((p : ℕ) → p < n → count_of (state_word ws' p) ≡ readers p (set vs id (moved v m e)))
      → ((p : ℕ) → p < n → 2 ≤ state_of (state_word ws' p) → Claimed (set vs id (moved v m e)) p (state_of (state_word ws' p)))
      → ((p : ℕ) → p < n → state_of (state_word ws' p) ≡ 1 → (code : List ℕ) × right tag code × Begins ws' p code)
      → ((j : ℕ) (u : View T) → j ≢ id → get_elem? vs j ≡ some u → Stands ws n u.from u.mode → Stands ws' n u.from u.mode)
      → Stands ws' n v.from m → Follows v.from ws ws' e → Next m e
  keeps_step m e counts' claims' shown' others mine follows =
      let ok = r.each id v at in record {
        all_words = wide ∙ r.all_words;
        some_seats = r.some_seats;
        counts = counts';
        claims = claims';
        shown = shown';
        each = λ j u is. ⊎_elim
            (λ (t : (j ≡ id) × (moved v m e ≡ u)). subst (λ (y : View T). LawfulView tag n seats ws' y) t.1 record {
              range = ok.range;
              same_tag = ok.same_tag;
              same_seats = ok.same_seats;
              undealt = λ not. absurd (not alone);
              stands = mine;
            })
            (λ (t : (j ≢ id) × (get_elem? vs j ≡ some u)). let o = r.each j u t.1 in record {
              range = o.range;
              same_tag = o.same_tag;
              same_seats = o.same_seats;
              undealt = o.undealt;
              stands = others j u t.0 t.1 o.stands;
            })
            (at_set vs id j (moved v m e) u is);
        apart = λ i j a b k ai bj ha hb. let x = was m e i a ai in let y = was m e j b bj in
            r.apart i j x.0 y.0 k x.1 y.1 (omega (arith, ha, x.2, x.3), omega (arith, ha, x.2, x.3)) (omega (arith, hb, y.2, y.3), omega (arith, hb, y.2, y.3));
        total = widths_set vs id v (moved v m e) at refl refl ∙ r.total;
        covers = λ k lt. let t = r.covers k lt in dite (ℕ_discrete t.0 id)
            (λ is. let same : v ≡ t.1 = some-injective v t.1 (sym at ∙ ap (get_elem? vs) (sym is) ∙ t.2) in let f : v.from ≡ t.1.from = ap (λ (u : View T). u.from) same in let e' : v.to ≡ t.1.to = ap (λ (u : View T). u.to) same in
            let low = t.3 in let high = t.4 in (id, moved v m e, set_here vs id (moved v m e) (there vs id v at), omega arith, omega arith))
            (λ ne. (t.0, t.1, set_else vs id t.0 (moved v m e) ne ∙ t.2, t.3, t.4));
        history = keeps_history right tag n seats ws vs r id v m e ws' at alone follows;
      }

  shown_same : (q : ℕ) → Same ws ws' q → ((code : List ℕ) × right tag code × Begins ws q code) → (code : List ℕ) × right tag code × Begins ws' q code
  shown_same q same t = (t.0, t.1, λ k lt. same.1 k (let most = law t.0 t.1 in omega arith) ∙ t.2 k lt)

  claimed_else : (w : View T) (q st : ℕ) → ((stored : List ℕ) → v.mode ≡ Writing q stored → ⊥) → Claimed vs q st → Claimed (set vs id w) q st
  claimed_else w q st not t = (t.0, t.1, t.2, set_else vs id t.0 w (λ e. not t.2 (ap (λ (y : View T). y.mode) (some-injective v t.1 (sym at ∙ ap (get_elem? vs) (sym e) ∙ t.3)) ∙ t.5)) ∙ t.3, t.4, t.5)

  -- a step that changes the count of place p alone, or nothing
  keeps_count : (m : Mode) (e : Entry) (p y : ℕ) → Changes ws ws' p y → state_of y ≡ state_of (state_word ws p)
      → count_of y + counted_at p v.mode ≡ count_of (state_word ws p) + counted_at p m → ((q : ℕ) → q ≢ p → counted_at q v.mode ≡ counted_at q m)
      → ((q : ℕ) (stored : List ℕ) → v.mode ≡ Writing q stored → ⊥) → Stands ws n v.from m → Follows v.from ws ws' e → Next m e
  keeps_count m e p y c is sum apart' not mine follows = let w : View T = moved v m e in let same = same_all ws ws' p y c is in
      keeps_step m e
      (λ q l. let count = r.counts q l in let d = readers_set q vs id v w at in dite (ℕ_discrete q p)
      (λ eq. let y' : count_of (state_word ws' q) ≡ count_of y = ap (λ (z : ℕ). count_of (state_word ws' z)) eq ∙ ap count_of c.0 in
      let c' : count_of (state_word ws p) ≡ readers q vs = ap (λ (z : ℕ). count_of (state_word ws z)) (sym eq) ∙ count in
      let a' : counted_at p v.mode ≡ counted_at q v.mode = ap (λ (z : ℕ). counted_at z v.mode) (sym eq) in let b' : counted_at p m ≡ counted_at q m = ap (λ (z : ℕ). counted_at z m) (sym eq) in omega (arith, sum, y', c', a', b', d))
      (λ ne. let y' : count_of (state_word ws' q) ≡ count_of (state_word ws q) = ap count_of (c.1 q ne) in let h = apart' q ne in omega (arith, y', count, d, h)))
      (λ q l big. subst (Claimed (set vs id w) q) (sym (same q).0) (claimed_else w q (state_of (state_word ws q)) (not q) (r.claims q l (subst (λ (z : ℕ). 2 ≤ z) (same q).0 big))))
      (λ q l one. shown_same q (same q) (r.shown q l (sym (same q).0 ∙ one)))
      (λ j u ne is' g. stands_same ws ws' n u.from u.mode (λ _. same (place_or n u.mode)) g)
      (stands_same ws ws' n v.from m (λ _. same (place_or n m)) mine)
      follows

  -- a step that changes the state of place p alone
  keeps_state : (m : Mode) (e : Entry) (p y : ℕ) → Changes ws ws' p y → count_of y ≡ count_of (state_word ws p) → ((q : ℕ) → counted_at q v.mode ≡ counted_at q m)
      → ((q : ℕ) (stored : List ℕ) → q ≢ p → v.mode ≡ Writing q stored → ⊥)
      → (2 ≤ state_of y → Claimed (set vs id (moved v m e)) p (state_of y))
      → (state_of y ≡ 1 → (code : List ℕ) × right tag code × Begins ws p code)
      → ((j : ℕ) (u : View T) → j ≢ id → get_elem? vs j ≡ some u → ((seen : List Read) → u.mode ≡ Reading p seen → ⊥) × ((stored : List ℕ) → u.mode ≡ Writing p stored → ⊥))
      → Stands ws' n v.from m → Follows v.from ws ws' e → Next m e
  keeps_state m e p y c sum still not claim show others mine follows = let w : View T = moved v m e in
      keeps_step m e
      (λ q l. let count = r.counts q l in let d = readers_set q vs id v w at in let h = still q in dite (ℕ_discrete q p)
      (λ eq. let y' : count_of (state_word ws' q) ≡ count_of y = ap (λ (z : ℕ). count_of (state_word ws' z)) eq ∙ ap count_of c.0 in
      let c' : count_of (state_word ws p) ≡ readers q vs = ap (λ (z : ℕ). count_of (state_word ws z)) (sym eq) ∙ count in omega (arith, sum, y', c', d, h))
      (λ ne. let y' : count_of (state_word ws' q) ≡ count_of (state_word ws q) = ap count_of (c.1 q ne) in omega (arith, y', count, d, h)))
      (λ q l big. dite (ℕ_discrete q p)
      (λ eq. let st : state_of (state_word ws' q) ≡ state_of y = ap (λ (z : ℕ). state_of (state_word ws' z)) eq ∙ ap state_of c.0 in
      subst (λ (z : ℕ × ℕ). Claimed (set vs id w) z.0 z.1) (λ i. (sym eq i, sym st i)) (claim (subst (λ (z : ℕ). 2 ≤ z) st big)))
      (λ ne. let same = same_else ws ws' p y c q ne in subst (Claimed (set vs id w) q) (sym same.0) (claimed_else w q (state_of (state_word ws q)) (λ stored is. not q stored ne is) (r.claims q l (subst (λ (z : ℕ). 2 ≤ z) same.0 big)))))
      (λ q l one. dite (ℕ_discrete q p)
      (λ eq. let st : state_of (state_word ws' q) ≡ state_of y = ap (λ (z : ℕ). state_of (state_word ws' z)) eq ∙ ap state_of c.0 in let t = show (sym st ∙ one) in
      subst (λ (z : ℕ). (code : List ℕ) × right tag code × Begins ws' z code) (sym eq) (t.0, t.1, λ k h. c.2 p k (let most = law t.0 t.1 in omega arith) ∙ t.2 k h))
      (λ ne. let same = same_else ws ws' p y c q ne in shown_same q same (r.shown q l (sym same.0 ∙ one))))
      (λ j u ne is' g. let o = others j u ne is' in stands_apart ws ws' n u.from p u.mode (same_else ws ws' p y c) o.0 o.1 g)
      mine
      follows

  few_readers : (p : ℕ) → readers p vs ≤ 64
  few_readers p = let a = readers_few p vs (λ j u is. (r.each j u is).range.0) in let b = r.total in let c = r.some_seats.1 in omega arith

  keeps_knock : (p w : ℕ) → p < n → v.mode ≡ Idle → Follows v.from ws ws' (Knock p w) → Next (if eqb (state_of w) 1 then Reading p [] else Knocked p) (Knock p w)
  keeps_knock p w lt idle f = let m : Mode = if eqb (state_of w) 1 then Reading p [] else Knocked p in let found : w ≡ state_word ws p = f.1 in
      let count = r.counts p lt in let few = few_readers p in let idle_here : counted_at p v.mode ≡ 0 = ap (counted_at p) idle in
      let knocked_here : counted_at p m ≡ 1 = counted_knock (eqb (state_of w) 1) p p ∙ ap (λ (b : Bool). if b then 1 else 0) (eq-eqb p p refl) in
      let small : w % 4294967296 ≤ 64 = (let c : w % 4294967296 ≡ readers p vs = ap count_of found ∙ count in omega arith) in
      let same_count : w % 4294967296 ≡ count_of (state_word ws p) = ap count_of found in let same_state : w / 4294967296 ≡ state_of (state_word ws p) = ap state_of found in
      let up : (w + 1) % 4294967296 ≡ w % 4294967296 + 1 = omega arith in let kept : (w + 1) / 4294967296 ≡ w / 4294967296 = omega arith in
      keeps_count m (Knock p w) p (w + 1) (changes ws ws' p (w + 1) f.0) (kept ∙ same_state) (omega (arith, up, same_count, idle_here, knocked_here))
      (λ q ne. ap (counted_at q) idle ∙ sym (counted_knock (eqb (state_of w) 1) p q ∙ ap (λ (b : Bool). if b then 1 else 0) (ne_eqb p q (λ e. ne (sym e)))))
      (λ q stored is. let bad : Idle ≡ Writing q stored = sym idle ∙ is in cc)
      (knock_stands ws n v.from p w lt (sym found))
      f

  keeps_leave : (p w : ℕ) (hit : Bool) → p < n → IsAt v.mode → place_or p v.mode ≡ p → Follows v.from ws ws' (Leave p w hit) → Next Idle (Leave p w hit)
  keeps_leave p w hit lt is_at is_p f = let found : w ≡ state_word ws p = f.1 in
      let here : counted_at p v.mode ≡ 1 = counted_where p p v.mode is_at is_p ∙ ap (λ (b : Bool). if b then 1 else 0) (eq-eqb p p refl) in
      let same_count : w % 4294967296 ≡ count_of (state_word ws p) = ap count_of found in let same_state : w / 4294967296 ≡ state_of (state_word ws p) = ap state_of found in
      let some_reader : 1 ≤ w % 4294967296 = (let c = r.counts p lt in let d = readers_at p vs id v at in omega (arith, c, d, here, same_count)) in
      let down : (w - 1) % 4294967296 + 1 ≡ w % 4294967296 = omega arith in let kept : (w - 1) / 4294967296 ≡ w / 4294967296 = omega arith in
      keeps_count Idle (Leave p w hit) p (w - 1) (changes ws ws' p (w - 1) f.0) (kept ∙ same_state) (omega (arith, down, same_count, here))
      (λ q ne. counted_where p q v.mode is_at is_p ∙ ap (λ (b : Bool). if b then 1 else 0) (ne_eqb p q (λ e. ne (sym e))))
      (λ q stored is. not_writing q stored v.mode is_at is)
      tt
      f

  keeps_read : (p i w : ℕ) → i < 2048 → v.mode ≡ Reading p (seen_of v.mode) → Follows v.from ws ws' (ReadWord p i w) → Next (Reading p (seen_of v.mode ++ record { index = i; word = w } ∷ [])) (ReadWord p i w)
  keeps_read p i w low reading f = let old : List Read = seen_of v.mode in let one : Read = record { index = i; word = w } in
      let g : Stands ws n v.from (Reading p old) = subst (Stands ws n v.from) reading ((r.each id v at).stands) in
      let more_seen : Saw ws p (old ++ one ∷ []) = λ k y yk. ⊎_elim (λ (t : get_elem? old k ≡ some y). g.2 k y t) (λ (t : one ≡ y). subst (λ (z : Read). (z.index < 2048) × (word_at ws p z.index ≡ z.word)) t (low, sym f.1)) (at_snoc old one y k yk) in
      keeps_count (Reading p (old ++ one ∷ [])) (ReadWord p i w) p (state_word ws p) (unchanged ws ws' p f.0) refl
      (ap (λ (m : Mode). count_of (state_word ws p) + counted_at p m) reading)
      (λ q ne. ap (counted_at q) reading)
      (λ q stored is. let bad : Reading p old ≡ Writing q stored = sym reading ∙ is in cc)
      (g.0, g.1, more_seen)
      f

  -- an exchange that finds another word
  keeps_miss : (p : ℕ) (e : Entry) → v.mode ≡ Idle → ((i : ℕ) → at_of ws' i ≡ at_of ws i) → Follows v.from ws ws' e → Next Idle e
  keeps_miss p e idle same f = keeps_count Idle e p (state_word ws p) (unchanged ws ws' p same) refl
      (ap (λ (m : Mode). count_of (state_word ws p) + counted_at p m) idle) (λ q ne. ap (counted_at q) idle) (λ q stored is. let bad : Idle ≡ Writing q stored = sym idle ∙ is in cc) tt f

  nobody_empty : (p : ℕ) → state_word ws p ≡ 0 → Nobody p
  nobody_empty p zero_word j u is = let g = (r.each j u is).stands in let z : state_of (state_word ws p) ≡ 0 = ap state_of zero_word in (
    (λ seen m. let t = subst (Stands ws n u.from) m g in absurd (let t' : state_of (state_word ws p) ≡ 1 = t.1 in omega arith)),
    (λ stored m. let t = subst (Stands ws n u.from) m g in absurd (let t' : state_of (state_word ws p) ≡ 2 + u.from = t.1 in omega arith)),
  )

  -- who reads is counted, so where the word is 2^32 nobody does
  nobody_free : (p : ℕ) → p < n → state_word ws p ≡ 4294967296 → Nobody p
  nobody_free p lt free j u is = let g = (r.each j u is).stands in let none_there : count_of (state_word ws p) ≡ 0 = ap count_of free in let one : state_of (state_word ws p) ≡ 1 = ap state_of free in (
    (λ seen m. let a = r.counts p lt in let b = readers_at p vs j u is in let c = counted_reading p u.mode seen m in absurd (omega (arith, a, b, c, none_there))),
    (λ stored m. let t = subst (Stands ws n u.from) m g in absurd (let t' : state_of (state_word ws p) ≡ 2 + u.from = t.1 in omega arith)),
  )

  -- an exchange from `old` to the claim of this seat
  keeps_take : (p w old : ℕ) (e : Entry) → p < n → w ≡ state_word ws p → v.mode ≡ Idle → count_of old ≡ 0 → (state_word ws p ≡ old → Nobody p)
      → ((i : ℕ) → at_of ws' i ≡ (if eqb w old then (if eqb i (2049 * p) then (2 + v.from) * 4294967296 else at_of ws i) else at_of ws i))
      → Follows v.from ws ws' e → Next (if eqb w old then Writing p [] else Idle) e
  keeps_take p w old e lt found idle free nobody words f = let k : ℕ = (2 + v.from) * 4294967296 in dite (ℕ_discrete w old)
      (λ hit. let b = eq-eqb w old hit in let c = changes ws ws' p k (λ i. words i ∙ ap (λ (t : Bool). if t then (if eqb i (2049 * p) then k else at_of ws i) else at_of ws i) b) in
      subst (λ (t : Bool). Next (if t then Writing p [] else Idle) e) (sym b)
      (keeps_state (Writing p []) e p k c
      (let k' : count_of k ≡ 0 = omega arith in let w' : count_of (state_word ws p) ≡ 0 = ap count_of (sym found ∙ hit) ∙ free in omega arith)
      (λ q. ap (counted_at q) idle)
      (λ q stored ne is. let bad : Idle ≡ Writing q stored = sym idle ∙ is in cc)
      (λ _. (id, moved v (Writing p []) e, [], set_here vs id _ (there vs id v at), omega arith, refl))
      (λ one. absurd (omega arith))
      (λ j u ne is. nobody (sym found ∙ hit) j u is)
      (lt, (let h : state_of (state_word ws' p) ≡ state_of k = ap state_of c.0 in omega arith), (omega arith), (λ i h. absurd (omega arith)))
      f))
      (λ miss. let b = ne_eqb w old miss in subst (λ (t : Bool). Next (if t then Writing p [] else Idle) e) (sym b)
      (keeps_miss p e idle (λ i. words i ∙ ap (λ (t : Bool). if t then (if eqb i (2049 * p) then k else at_of ws i) else at_of ws i) b) f))

  keeps_empty : (p w : ℕ) → p < n → v.mode ≡ Idle → Follows v.from ws ws' (Empty p w) → Next Idle (Empty p w)
  keeps_empty p w lt idle f = let found : w ≡ state_word ws p = f.1 in dite (ℕ_discrete w 4294967296)
      (λ hit. let free = sym found ∙ hit in let nobody = nobody_free p lt free in
      keeps_state Idle (Empty p w) p 0 (changes ws ws' p 0 (λ i. f.0 i ∙ ap (λ (t : Bool). if t then (if eqb i (2049 * p) then 0 else at_of ws i) else at_of ws i) (eq-eqb w 4294967296 hit)))
      (sym (ap count_of free))
      (λ q. ap (counted_at q) idle)
      (λ q stored ne is. let bad : Idle ≡ Writing q stored = sym idle ∙ is in cc)
      (λ big. absurd (omega arith))
      (λ one. absurd (omega arith))
      (λ j u ne is. nobody j u is)
      tt
      f)
      (λ miss. keeps_miss p (Empty p w) idle (λ i. f.0 i ∙ ap (λ (t : Bool). if t then (if eqb i (2049 * p) then 0 else at_of ws i) else at_of ws i) (ne_eqb w 4294967296 miss)) f)

  -- two views that write at one place are one
  one_writer : (j p : ℕ) (u : View T) (a b : List ℕ) → get_elem? vs j ≡ some u → v.mode ≡ Writing p a → u.mode ≡ Writing p b → j ≡ id
  one_writer j p u a b is va ub =
      let g = subst (Stands ws n v.from) va ((r.each id v at).stands) in let h = subst (Stands ws n u.from) ub ((r.each j u is).stands) in
      let x : state_of (state_word ws p) ≡ 2 + v.from = g.1 in let y : state_of (state_word ws p) ≡ 2 + u.from = h.1 in
      let vr = (r.each id v at).range in let ur = (r.each j u is).range in r.apart j id u v v.from is at (omega (arith, ur), omega (arith, ur)) (omega arith, omega (arith, vr))

  keeps_write : (p i x : ℕ) → i ≡ length (stored_of v.mode) → i < 2048 → v.mode ≡ Writing p (stored_of v.mode) → Follows v.from ws ws' (Write p i x) → Next (Writing p (stored_of v.mode ++ x ∷ [])) (Write p i x)
  keeps_write p i x next low writing f = let old : List ℕ = stored_of v.mode in let m : Mode = Writing p (old ++ x ∷ []) in let e : Entry = Write p i x in let w : View T = moved v m e in
      let g : Stands ws n v.from (Writing p old) = subst (Stands ws n v.from) writing ((r.each id v at).stands) in
      let k : ℕ = 2049 * p + 1 + i in let here : at_of ws' k ≡ x = f.0 k ∙ ap (λ (t : Bool). if t then x else at_of ws k) (eq-eqb k k refl) in
      let else_here : (j : ℕ) → j ≢ k → at_of ws' j ≡ at_of ws j = λ j ne. f.0 j ∙ skip j k x (at_of ws j) ne in
      let st : (q : ℕ) → state_word ws' q ≡ state_word ws q = λ q. else_here (2049 * q) (λ e'. omega arith) in
      let same : (q : ℕ) → q ≢ p → Same ws ws' q = λ q ne. (ap state_of (st q), λ j lt. else_here (2049 * q + 1 + j) (λ e'. ne (omega arith))) in
      let begins : Begins ws' p (old ++ x ∷ []) = λ j lt. let len = length-append old (x ∷ []) in dite (ℕ_discrete j i)
      (λ e'. ap (λ (z : ℕ). word_at ws' p z) e' ∙ here ∙ sym (get_or_push old x 0 j (sym (e' ∙ next))))
      (λ ne. else_here (2049 * p + 1 + j) (λ e'. ne (omega arith)) ∙ g.3 j (omega arith) ∙ sym (get_or_append_left old (x ∷ []) 0 j (omega arith))) in
      keeps_step m e
      (λ q l. let a = r.counts q l in let b = readers_set q vs id v w at in let c : counted_at q v.mode ≡ 0 = ap (counted_at q) writing in let d : count_of (state_word ws' q) ≡ count_of (state_word ws q) = ap count_of (st q) in omega (arith, a, b, c, d))
      (λ q l big. subst (λ (z : ℕ). Claimed (set vs id w) q z) (sym (ap state_of (st q)))
      (let t = r.claims q l (subst (λ (z : ℕ). 2 ≤ state_of z) (st q) big) in dite (ℕ_discrete t.0 id)
      (λ e'. let is_v : v ≡ t.1 = some-injective v t.1 (sym at ∙ ap (get_elem? vs) (sym e') ∙ t.3) in
      let here_too : Writing p old ≡ Writing q t.2 = sym writing ∙ ap (λ (z : View T). z.mode) is_v ∙ t.5 in let same_place : p ≡ q = cc in
      (id, w, old ++ x ∷ [], set_here vs id w (there vs id v at), t.4 ∙ ap (λ (z : View T). 2 + z.from) (sym is_v), ap (λ (z : ℕ). Writing z (old ++ x ∷ [])) same_place))
      (λ ne. (t.0, t.1, t.2, set_else vs id t.0 w ne ∙ t.3, t.4, t.5))))
      (λ q l one. let one' = ap state_of (sym (st q)) ∙ one in dite (ℕ_discrete q p)
      (λ e'. let two : state_of (state_word ws p) ≡ 2 + v.from = g.1 in let one'' : state_of (state_word ws p) ≡ 1 = ap (λ (z : ℕ). state_of (state_word ws z)) (sym e') ∙ one' in absurd (omega arith))
      (λ ne. shown_same q (same q ne) (r.shown q l one')))
      (λ j u ne is h. stands_apart ws ws' n u.from p u.mode same
      (λ seen e'. let t = subst (Stands ws n u.from) e' h in let two : state_of (state_word ws p) ≡ 2 + v.from = g.1 in let one : state_of (state_word ws p) ≡ 1 = t.1 in absurd (omega arith))
      (λ stored e'. ne (one_writer j p u old stored is writing e'))
      h)
      (g.0, (ap state_of (st p) ∙ g.1), (let len = length-append old (x ∷ []) in omega arith), begins)
      f

  keeps_show : (p w : ℕ) → p < n → v.mode ≡ Writing p (stored_of v.mode) → right v.tag (stored_of v.mode) → Follows v.from ws ws' (Show p w) → Next Idle (Show p w)
  keeps_show p w lt writing good f = let found : w ≡ state_word ws p = f.1 in let old : List ℕ = stored_of v.mode in let ok = r.each id v at in
      let g : Stands ws n v.from (Writing p old) = subst (Stands ws n v.from) writing ok.stands in
      let claimed : state_of (state_word ws p) ≡ 2 + v.from = g.1 in let two : w / 4294967296 ≡ 2 + v.from = ap state_of found ∙ claimed in
      let y : ℕ = w - (1 + v.from) * 4294967296 in let st : y / 4294967296 ≡ 1 = omega arith in let ct : y % 4294967296 ≡ w % 4294967296 = omega arith in
      keeps_state Idle (Show p w) p y (changes ws ws' p y f.0) (ct ∙ ap count_of found)
      (λ q. ap (counted_at q) writing)
      (λ q stored ne is. let e : Writing p old ≡ Writing q stored = sym writing ∙ is in let same_place : p ≡ q = cc in ne (sym same_place))
      (λ big. absurd (omega arith))
      (λ one. (old, subst (λ (t : T). right t old) ok.same_tag good, g.3))
      (λ j u ne is. (
        (λ seen m. let t = subst (Stands ws n u.from) m ((r.each j u is).stands) in let one : state_of (state_word ws p) ≡ 1 = t.1 in absurd (omega arith)),
        (λ stored m. ne (one_writer j p u old stored is writing m)),
      ))
      tt
      f

  pub keeps_lawful : (m : Mode) (e : Entry) → place_of e < n → Moves right v e m → Follows v.from ws ws' e → Next m e
  keeps_lawful m (Knock p w) lt moves f = subst (λ (z : Mode). Next z (Knock p w)) (sym moves.1) (keeps_knock p w lt moves.0 f)
  keeps_lawful m (Leave p w hit) lt moves f = subst (λ (z : Mode). Next z (Leave p w hit)) (sym moves.3) (keeps_leave p w hit lt moves.0 moves.1 f)
  keeps_lawful m (ReadWord p i w) lt moves f = subst (λ (z : Mode). Next z (ReadWord p i w)) (sym moves.2) (keeps_read p i w moves.1 moves.0 f)
  keeps_lawful m (TakeEmpty p w) lt moves f = subst (λ (z : Mode). Next z (TakeEmpty p w)) (sym moves.1) (keeps_take p w 0 (TakeEmpty p w) lt f.1 moves.0 refl (nobody_empty p) f.0 f)
  keeps_lawful m (TakeShown p w) lt moves f = subst (λ (z : Mode). Next z (TakeShown p w)) (sym moves.1) (keeps_take p w 4294967296 (TakeShown p w) lt f.1 moves.0 refl (nobody_free p lt) f.0 f)
  keeps_lawful m (Write p i x) lt moves f = subst (λ (z : Mode). Next z (Write p i x)) (sym moves.3) (keeps_write p i x moves.1 moves.2 moves.0 f)
  keeps_lawful m (Show p w) lt moves f = subst (λ (z : Mode). Next z (Show p w)) (sym moves.2) (keeps_show p w lt moves.0 moves.1 f)
  keeps_lawful m (Empty p w) lt moves f = subst (λ (z : Mode). Next z (Empty p w)) (sym moves.1) (keeps_empty p w lt moves.0 f)

pub steps_keep : {T : Type 0} (right : T → List ℕ → Type 0) → ((t : T) (code : List ℕ) → right t code → length code ≤ 2048) → StepsKeep right
steps_keep right sized tag n seats id ws ws' vs vs' r s = subst (Lawful right tag n seats ws') (sym s.views)
    (keeps_lawful right tag (sized tag) n seats ws ws' vs r id s.mine s.at s.alone s.as_many s.next s.entry s.within s.moves (s.words, s.found))
