-- A shaped transducer has the readings of the plain one.
use Rattle.std.specs.Prelude.{◌≡◌, ◌⊎◌, ◌<◌, ℕ, zero, suc, ◌+◌, List, [], ◌∷◌, ◌++◌, Some, None, get_or, slice_get}
use Rattle.std.specs.List.{Contains}
use Rattle.std.proofs.Common.{refl, sym, ◌∙◌, ap, subst, inl, inr, arith, append_assoc, append-nil}
use Rattle.std.proofs.lemmas.Option.{slice_get-get_or, slice_get_within, get_or_from_slice_get}
use Rattle.weighted_relations.specs.declared.Arc.{Arc}
use Rattle.weighted_relations.specs.Relations.{Same}
use Rattle.weighted_relations.specs.Graphs.{stop, step, label}
use Rattle.weighted_relations.specs.Machines.{Machine, IsArc, Path, Reads, From, final_of}
use Rattle.reading_first.specs.declared.parts.Part.{Part}
use Rattle.reading_first.specs.declared.parts.Part.TheVariants.{At, Writes, Ended}
use Rattle.reading_first.specs.Ways.{Silent, here, on, Move, reads, ends}
use Rattle.reading_first.specs.Shapes.{Before, IsMove, Has, Moves, writing, IsShaped}

pub contains_at : {X : Type 0} (xs : List X) (k : ℕ) (x : X) → slice_get xs k ≡ Some x → Contains xs x
contains_at xs k x e = (k, slice_get_within xs k x e, get_or_from_slice_get xs k x x e)

pub at_contained : {X : Type 0} (xs : List X) (x : X) → Contains xs x → (k : ℕ) × (slice_get xs k ≡ Some x)
at_contained xs x h = (h.0, slice_get-get_or xs h.0 x h.1 ∙ ap Some h.2)

pub only_one : {X : Type 0} (xs : List X) (x y : X) (k : ℕ) → xs ≡ x ∷ [] → slice_get xs k ≡ Some y → y ≡ x
only_one xs x y zero e h = let f : Some x ≡ Some y = sym (ap (λ l. slice_get l 0) e) ∙ h in cc
only_one xs x y (suc k) e h = absurd (let f : None ≡ Some y = sym (ap (λ l. slice_get l (suc k)) e) ∙ h in cc)

pub label_before : (o : ℕ) (t y : List ℕ) → label o (t ++ y) ≡ label o t ++ y
label_before zero t y = refl
label_before (suc o) t y = refl

pub label_some : (l : ℕ) (y : List ℕ) → 0 < l → label l y ≡ l ∷ y
label_some zero y h = absurd (omega (arith, h))
label_some (suc l) y h = refl

pub is_empty : (n : ℕ) → (n ≡ 0) ⊎ (n ≡ 0 → ⊥)
is_empty zero = inl refl
is_empty (suc n) = inr (λ e. absurd (omega (arith, e)))

from_same : (m : Machine) (q : ℕ) (x y x' y' : List ℕ) (w w' : ℕ) → x ≡ x' → y ≡ y' → w ≡ w' → From m q x y w → From m q x' y' w'
from_same m q x y x' y' w w' e f g p = subst (λ t. From m q t y' w') e (subst (λ t. From m q x t w') f (subst (From m q x y) g p))

by_step : (m : Machine) (q k : ℕ) (b : Arc) (x y : List ℕ) (w : ℕ) → IsArc m.arcs q k b → From m b.next x y w → From m q (label b.input x) (label b.output y) (b.weight + w)
by_step m q k b x y w h p = (k ∷ p.0, step h p.1)

pub regroup : (u y : List ℕ) (o : ℕ) → (u ++ label o []) ++ y ≡ u ++ label o y
regroup u y o = append_assoc u (label o []) y ∙ ap (λ t. u ++ t) (sym (label_before o [] y))

-- a way without input, and then a path
silent_path : (m : Machine) (q : ℕ) (x y : List ℕ) (w : ℕ) {ks u : List ℕ} {v s : ℕ} → Silent m q ks u v s → From m s x y w → From m q x (u ++ y) (v + w)
silent_path m q x y w here p = let e : w ≡ 0 + w = omega arith in subst (From m q x y) e p
silent_path m q x y w (on {ks} {u} {v} {s} {k} {a} way h e) p =
    let one : From m s x (label a.output y) (a.weight + w) = subst (λ i. From m s (label i x) (label a.output y) (a.weight + w)) e (by_step m s k a x y w h p) in
    let g : v + (a.weight + w) ≡ (v + a.weight) + w = omega arith in
    from_same m q x (u ++ label a.output y) x ((u ++ label a.output []) ++ y) (v + (a.weight + w)) ((v + a.weight) + w) refl (sym (regroup u y a.output)) g (silent_path m q x (label a.output y) (a.weight + w) way one)

-- a move, and then a path from where it leads
move_reads : (m : Machine) (q s : ℕ) (x y : List ℕ) (w : ℕ) {i : ℕ} {t : List ℕ} {v : ℕ} → Move m q i t v (At s) → From m s x y w → From m q (label i x) (t ++ y) (v + w)
move_reads m q _ x y w (reads {u} {v} {s} {a} k ks way h some) p =
    let one : From m s (label a.input x) (label a.output y) (a.weight + w) = by_step m s k a x y w h p in
    let g : v + (a.weight + w) ≡ (v + a.weight) + w = omega arith in
    from_same m q (label a.input x) (u ++ label a.output y) (label a.input x) ((u ++ label a.output []) ++ y) (v + (a.weight + w)) ((v + a.weight) + w) refl (sym (regroup u y a.output)) g (silent_path m q (label a.input x) (label a.output y) (a.weight + w) way one)

move_ends : (m : Machine) (q : ℕ) {i : ℕ} {t : List ℕ} {v : ℕ} → Move m q i t v Ended → (i ≡ 0) × From m q [] t v
move_ends m q (ends {u} {v} {s} {w} k ks way h) =
    let p : From m q [] (u ++ []) (v + w) = silent_path m q [] [] w way ([], stop h) in
    (refl, from_same m q [] (u ++ []) [] u (v + w) (v + w) refl (append-nil u) refl p)

no_writing : (m : Machine) (q i : ℕ) (t : List ℕ) (v l k : ℕ) → Move m q i t v (Writes l k) → ⊥
no_writing m q i t v l k mv = elim mv [ ]

-- a path by an arc that is a move
moved : (m : Machine) (q : ℕ) (parts : List Part) (a : Arc) (x z : List ℕ) (w : ℕ) → IsMove m q parts a → ((s : ℕ) (t : List ℕ) → Before parts a.next t (At s) → (y : List ℕ) × (z ≡ t ++ y) × From m s x y w) → ((t : List ℕ) → Before parts a.next t Ended → (x ≡ []) × (z ≡ t) × (w ≡ 0)) → From m q (label a.input x) (label a.output z) (a.weight + w)
moved m q parts a x z w g at end = go g.to g.move g.says.leads where
  go : (p : Part) → Move m q g.input g.text g.weight p → Before parts a.next g.says.rest p → From m q (label a.input x) (label a.output z) (a.weight + w)
  go (At s) mv b =
      let r = at s g.says.rest b in
      from_same m q (label g.input x) (g.text ++ r.0) (label a.input x) (label a.output z) (g.weight + w) (a.weight + w)
      (ap (λ i. label i x) (sym g.says.reads))
      (ap (λ t. t ++ r.0) (sym g.says.writes) ∙ sym (label_before a.output g.says.rest r.0) ∙ ap (label a.output) (sym r.1))
      (ap (λ n. n + w) (sym g.says.costs))
      (move_reads m q s x r.0 w mv r.2)
  go (Writes l k) mv b = absurd (no_writing m q g.input g.text g.weight l k mv)
  go Ended mv b =
      let r = end g.says.rest b in
      let e = move_ends m q mv in
      let f : a.weight ≡ g.weight = g.says.costs in
      let n : w ≡ 0 = r.2 in
      let sum : g.weight ≡ a.weight + w = omega arith in
      from_same m q [] g.text (label a.input x) (label a.output z) g.weight (a.weight + w)
      (sym (ap (λ i. label i x) (g.says.reads ∙ e.0) ∙ r.0))
      (sym g.says.writes ∙ ap (label a.output) (sym r.1))
      sum
      e.1

module _ (m r : Machine) (is : IsShaped m r) where
  -- from a text before an end, it alone is written
  ended : {n : ℕ} {ks x z : List ℕ} {w : ℕ} → Path r n ks x z w → (t : List ℕ) → Before is.parts n t Ended → (x ≡ []) × (z ≡ t) × (w ≡ 0)
  ended (stop {s = n} {w} h) [] b = (refl, refl, let e : Some 0 ≡ Some w = sym (is.rows n Ended b).1 ∙ h in cc)
  ended (stop {s = n} {w} h) (l ∷ t) b = absurd (let e : None ≡ Some w = sym (is.rows n (Writes l b.0) b.1).1 ∙ h in cc)
  ended (step {s = n} {k} {a = a} h path) [] b = absurd (let e : None ≡ Some a = sym (ap (λ row. slice_get row k) (is.rows n Ended b).0) ∙ h in cc)
  ended (step {s = n} {k} {ks} {a} {x} {y} {w} h path) (l ∷ t) b =
      let e : a ≡ writing l b.0 = only_one (get_or r.arcs n []) (writing l b.0) a k (is.rows n (Writes l b.0) b.1).0 h in
      let i = ended path t (subst (λ (c : Arc). Before is.parts c.next t Ended) (sym e) b.2) in
      let f : a.weight ≡ 0 = ap (λ (c : Arc). c.weight) e in
      let g : w ≡ 0 = i.2 in
      let sum : a.weight + w ≡ 0 = omega arith in (
        ap (λ (c : Arc). label c.input x) e ∙ i.0,
        ap (λ (c : Arc). label c.output y) e ∙ label_some l y (is.fit n (Writes l b.0) b.1).0 ∙ ap (λ v. l ∷ v) i.1,
        sum,
      )

  back : {n : ℕ} {ks x z : List ℕ} {w : ℕ} → Path r n ks x z w → (q : ℕ) (t : List ℕ) → Before is.parts n t (At q) → (y : List ℕ) × (z ≡ t ++ y) × From m q x y w
  back (stop {s = n} {w} h) q [] b = elim (is.rows n (At q) b) [
    | inl st ↦ absurd (let e : None ≡ Some w = sym st.end ∙ h in cc)
    | inr mv ↦ ([], refl, ([], stop (sym mv.end ∙ h)))
  ]
  back (stop {s = n} {w} h) q (l ∷ t) b = absurd (let e : None ≡ Some w = sym (is.rows n (Writes l b.0) b.1).1 ∙ h in cc)
  back (step {s = n} {k} {ks} {a} {x} {y} {w} h path) q [] b = elim (is.rows n (At q) b) [
    | inl st ↦
        let e : a ≡ st.arc = only_one (get_or r.arcs n []) st.arc a k st.alone h in
        let i = back path st.was.next [] (subst (λ (c : Arc). slice_get is.parts c.next ≡ Some (At st.was.next)) (sym e) st.next) in
        let there : IsArc m.arcs q 0 st.was = ap (λ row. slice_get row 0) st.forced.arc in
        let p = by_step m q 0 st.was x i.0 w there i.2 in (
          label a.output y,
          refl,
          from_same m q (label st.was.input x) (label st.was.output i.0) (label a.input x) (label a.output y) (st.was.weight + w) (a.weight + w)
              (ap (λ j. label j x) (st.forced.silent ∙ sym st.input ∙ sym (ap (λ (c : Arc). c.input) e)))
              (ap (λ j. label j i.0) (sym st.output ∙ sym (ap (λ (c : Arc). c.output) e)) ∙ ap (label a.output) (sym i.1))
              (ap (λ j. j + w) (sym st.weight ∙ sym (ap (λ (c : Arc). c.weight) e)))
              p,
        )
    | inr mv ↦ (label a.output y, refl, moved m q is.parts a x y w (mv.sound a (contains_at (get_or r.arcs n []) k a h)) (λ s t c. back path s t c) (λ t c. ended path t c))
  ]
  back (step {s = n} {k} {ks} {a} {x} {y} {w} h path) q (l ∷ t) b =
      let e : a ≡ writing l b.0 = only_one (get_or r.arcs n []) (writing l b.0) a k (is.rows n (Writes l b.0) b.1).0 h in
      let i = back path q t (subst (λ (c : Arc). Before is.parts c.next t (At q)) (sym e) b.2) in
      let f : a.weight ≡ 0 = ap (λ (c : Arc). c.weight) e in
      let sum : w ≡ a.weight + w = omega arith in (
        i.0,
        ap (λ (c : Arc). label c.output y) e ∙ label_some l y (is.fit n (Writes l b.0) b.1).0 ∙ ap (λ v. l ∷ v) i.1,
        from_same m q x i.0 (label a.input x) i.0 w (a.weight + w) (sym (ap (λ (c : Arc). label c.input x) e)) refl sum i.2,
      )

  -- a text, and then a path
  before_path : (t : List ℕ) (n : ℕ) (p : Part) (x y : List ℕ) (w : ℕ) → Before is.parts n t p → ((k : ℕ) → slice_get is.parts k ≡ Some p → From r k x y w) → From r n x (t ++ y) w
  before_path [] n p x y w b f = f n b
  before_path (l ∷ t) n p x y w b f =
      let there : IsArc r.arcs n 0 (writing l b.0) = ap (λ row. slice_get row 0) (is.rows n (Writes l b.0) b.1).0 in
      let q = by_step r n 0 (writing l b.0) x (t ++ y) w there (before_path t b.0 p x y w b.2 f) in
      let sum : 0 + w ≡ w = omega arith in
      from_same r n x (label l (t ++ y)) x (l ∷ (t ++ y)) (0 + w) w refl (label_some l (t ++ y) (is.fit n (Writes l b.0) b.1).0) sum q

  -- a path by the arc of a move
  has_path : (n i : ℕ) (t : List ℕ) (v : ℕ) (p : Part) (x y : List ℕ) (w : ℕ) → Has is.parts (get_or r.arcs n []) i t v p → ((k : ℕ) → slice_get is.parts k ≡ Some p → From r k x y w) → From r n (label i x) (t ++ y) (v + w)
  has_path n i t v p x y w h f =
      let c = at_contained (get_or r.arcs n []) h.arc h.is in
      let s = h.says in
      from_same r n (label h.arc.input x) (label h.arc.output (s.rest ++ y)) (label i x) (t ++ y) (h.arc.weight + w) (v + w)
      (ap (λ j. label j x) s.reads)
      (label_before h.arc.output s.rest y ∙ ap (λ u. u ++ y) s.writes)
      (ap (λ j. j + w) s.costs)
      (by_step r n c.0 h.arc x (s.rest ++ y) w c.1 (before_path s.rest h.arc.next p x y w s.leads f))

  abbrev Begins : ℕ → List ℕ → List ℕ → ℕ → Type 0
  Begins s x y w = (n : ℕ) → slice_get is.parts n ≡ Some (At s) → From r n x y w

  abbrev GoesOn : ℕ → List ℕ → List ℕ → ℕ → Type 0
  GoesOn s x y w = (n q : ℕ) (js u : List ℕ) (v : ℕ) → Moves m q is.parts (get_or r.arcs n []) (final_of r.finals n) → Silent m q js u v s → From r n x (u ++ y) (v + w)

  way_ends : (n q : ℕ) (w : ℕ) {js u : List ℕ} {v s : ℕ} → Silent m q js u v s → Moves m q is.parts (get_or r.arcs n []) (final_of r.finals n) → final_of m.finals s ≡ Some w → From r n [] (u ++ []) (v + w)
  way_ends n q w here mv h = let sum : w ≡ 0 + w = omega arith in subst (From r n [] []) sum ([], stop (mv.end ∙ h))
  way_ends n q w (on {ks} {u} {v} {s} {k} {a} way g e) mv h =
      let t : List ℕ = u ++ label a.output [] in
      let has = mv.found 0 t ((v + a.weight) + w) Ended (ends k ks (on way g e) h) in
      let sum : ((v + a.weight) + w) + 0 ≡ (v + a.weight) + w = omega arith in
      subst (From r n [] (t ++ [])) sum (has_path n 0 t ((v + a.weight) + w) Ended [] [] 0 has (λ k f. ([], stop (is.rows k Ended f).1)))

  forth : {s : ℕ} {ks x y : List ℕ} {w : ℕ} → Path m s ks x y w → Begins s x y w × GoesOn s x y w
  forth (stop {s} {w} h) = (
    λ n e. elim (is.rows n (At s) e) [
      | inl st ↦ absurd (let f : None ≡ Some w = sym st.forced.end ∙ h in cc)
      | inr mv ↦ ([], stop (mv.end ∙ h))
    ],
    λ n q js u v mv way. way_ends n q w way mv h,
  )
  forth (step {s} {k} {ks} {a} {x} {y} {w} h path) =
      let ih = forth path in
      let more : GoesOn s (label a.input x) (label a.output y) (a.weight + w) = λ n q js u v mv way.
      let sum : (v + a.weight) + w ≡ v + (a.weight + w) = omega arith in
      elim (is_empty a.input) [
        | inl z ↦ from_same r n x ((u ++ label a.output []) ++ y) (label a.input x) (u ++ label a.output y) ((v + a.weight) + w) (v + (a.weight + w)) (sym (ap (λ j. label j x) z)) (regroup u y a.output) sum (ih.1 n q (k ∷ js) (u ++ label a.output []) (v + a.weight) mv (on way h z))
        | inr some ↦
            let has = mv.found a.input (u ++ label a.output []) (v + a.weight) (At a.next) (reads k js way h some) in
            from_same r n (label a.input x) ((u ++ label a.output []) ++ y) (label a.input x) (u ++ label a.output y) ((v + a.weight) + w) (v + (a.weight + w)) refl (regroup u y a.output) sum (has_path n a.input (u ++ label a.output []) (v + a.weight) (At a.next) x y w has ih.0)
      ] in (
        λ n e. elim (is.rows n (At s) e) [
          | inl st ↦
              let f : a ≡ st.was = only_one (get_or m.arcs s []) st.was a k st.forced.arc h in
              let there : IsArc r.arcs n 0 st.arc = ap (λ row. slice_get row 0) st.alone in
              let p = ih.0 st.arc.next (subst (λ (c : Arc). slice_get is.parts st.arc.next ≡ Some (At c.next)) (sym f) st.next) in
              from_same r n (label st.arc.input x) (label st.arc.output y) (label a.input x) (label a.output y) (st.arc.weight + w) (a.weight + w)
              (ap (λ j. label j x) (st.input ∙ sym st.forced.silent ∙ sym (ap (λ (c : Arc). c.input) f)))
              (ap (λ j. label j y) (st.output ∙ sym (ap (λ (c : Arc). c.output) f)))
              (ap (λ j. j + w) (st.weight ∙ sym (ap (λ (c : Arc). c.weight) f)))
              (by_step r n 0 st.arc x y w there p)
          | inr mv ↦
              let sum : 0 + (a.weight + w) ≡ a.weight + w = omega arith in
              subst (From r n (label a.input x) (label a.output y)) sum (more n s [] [] 0 mv here)
        ],
        more,
      )

  pub same_readings : Same (Reads r) (Reads m)
  same_readings x y w = (
    λ p. let b = back p.1 m.start [] is.start in subst (λ z. From m m.start x z w) (sym b.1) b.2,
    λ p. (forth p.1).0 r.start is.start,
  )
