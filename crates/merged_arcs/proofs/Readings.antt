-- A transducer of sets has the readings of that of their states.
use Rattle.std.specs.Prelude.{◌≡◌, ℕ, zero, suc, ◌+◌, ◌<◌, List, [], ◌∷◌, Some, length, get_or, slice_get}
use Rattle.std.specs.List.{Contains}
use Rattle.std.proofs.Common.{refl, sym, ◌∙◌, ap, subst, arith}
use Rattle.std.proofs.lemmas.Option.{slice_get-get_or, slice_get_within, get_or_from_slice_get}
use Rattle.weighted_relations.specs.declared.Arc.{Arc}
use Rattle.weighted_relations.specs.Relations.{Same}
use Rattle.weighted_relations.specs.Graphs.{stop, step, label}
use Rattle.weighted_relations.specs.Machines.{Machine, Path, Reads, From}
use Rattle.merged_arcs.specs.Merged.{Alike, IsMerging}

pub contains_at : {X : Type 0} (xs : List X) (k : ℕ) (x : X) → slice_get xs k ≡ Some x → Contains xs x
contains_at xs k x e = (k, slice_get_within xs k x e, get_or_from_slice_get xs k x x e)

pub one_in : (s t : ℕ) → Contains (s ∷ []) t → t ≡ s
one_in s t (zero, l, e) = sym e
one_in s t (suc k, l, e) = absurd (omega (arith, l))

-- a path by an arc that is like another
on_path : (m : Machine) (s : ℕ) (x y : Arc) (u v : List ℕ) (w : ℕ) → Alike x y → Contains (get_or m.arcs s []) x → From m x.next u v w → From m s (label y.input u) (label y.output v) (y.weight + w)
on_path m s x y u v w e is p =
    let at : slice_get (get_or m.arcs s []) is.0 ≡ Some x = slice_get-get_or (get_or m.arcs s []) is.0 x is.1 ∙ ap Some is.2 in
    subst (λ i. From m s (label i u) (label y.output v) (y.weight + w)) e.input
    (subst (λ o. From m s (label x.input u) (label o v) (y.weight + w)) e.output
    (subst (λ n. From m s (label x.input u) (label x.output v) (n + w)) e.weight (is.0 ∷ p.0, step at p.1)))

module _ (a m : Machine) (is : IsMerging a m) where
  back : {i : ℕ} {ks x y : List ℕ} {w : ℕ} → Path m i ks x y w → i < length is.sets → (s : ℕ) × Contains (get_or is.sets i []) s × From a s x y w
  back (stop {s = i} {w} h) l =
      let r = (is.ends i l).sound w h in
      (r.0, r.1, ([], stop r.2))
  back (step {s = i} {k} {a = x} {x = u} {y = v} {w} h path) l =
      let r = (is.rows i l).sound x (contains_at (get_or m.arcs i []) k x h) in
      let p = back path r.within in
      let f = r.only p.0 p.1 in
      let e = f.alike in
      (f.is.0, f.is.1, on_path a f.is.0 f.arc x u v w (record { input = sym e.input; output = sym e.output; weight = sym e.weight }) f.is.2 (subst (λ t. From a t u v w) (sym f.next) p.2))

  forth : {s : ℕ} {ks x y : List ℕ} {w : ℕ} → Path a s ks x y w → (i : ℕ) → i < length is.sets → Contains (get_or is.sets i []) s → From m i x y w
  forth (stop {s} {w} h) i l c = ([], stop ((is.ends i l).found s w c h))
  forth (step {s} {k} {a = y} {x = u} {y = v} {w} h path) i l c =
      let f = (is.rows i l).found y (s, c, contains_at (get_or a.arcs s []) k y h) in
      let r = (is.rows i l).sound f.arc f.is in
      on_path m i f.arc y u v w f.alike f.is (forth path f.arc.next r.within f.leads)

  pub same_readings : Same (Reads m) (Reads a)
  same_readings x y w = (
    λ p.
        let r = back p.1 is.within in
        let e : r.0 ≡ a.start = one_in a.start r.0 (subst (λ v. Contains v r.0) is.start r.1) in
        subst (λ s. From a s x y w) e r.2,
    λ p. forth p.1 m.start is.within (subst (λ v. Contains v a.start) (sym is.start) (0, (let l : 0 < length (a.start ∷ []) = omega arith in l), refl)),
  )
