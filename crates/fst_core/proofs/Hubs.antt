-- States from which empty arcs lead on, and regions that are kept as they are.
use Rattle.std.proofs.Common.{◌≡◌, ℕ, zero, suc, ◌+◌, ◌<◌, List, [], ◌∷◌, ◌++◌, length, get_or, Some, None, refl, sym, ◌∙◌, ap, subst, inl, inr, arith, append-nil}
use Rattle.std.specs.Prelude.{map, slice_get}
use Rattle.fst_core.specs.declared.builder.Kept.TheVariants.{Input, Output}
use Rattle.weighted_relations.specs.declared.Arc.{Arc}
use Rattle.weighted_relations.specs.Relations.{Relation, Same, Is, Joined, AnyOf}
use Rattle.weighted_relations.specs.RelationLaws.{same_trans}
use Rattle.weighted_relations.specs.Graphs.{stop, step, label}
use Rattle.weighted_relations.specs.Machines.{Machine, Path, From, final_of, WellFormed}
use Rattle.fst_core.specs.Placed.{empty_arc, Picked}
use Rattle.fst_core.proofs.Regions.{Stands, region_reads, retag, go}
use Rattle.fst_core.proofs.Fits.{closed_of}

-- nothing is emptied, and nothing follows
pub plain : (R : Relation) → Same (Joined (Picked Input Output R) (Is [])) R
plain R x y w = (
  λ j.
      let ex : x ≡ j.first.from_x = j.input ∙ ap (λ v. j.x1 ++ v) j.second.input ∙ append-nil j.x1 ∙ j.first.input in
      let ey : y ≡ j.first.from_y = j.output ∙ ap (λ v. j.y1 ++ v) j.second.output ∙ append-nil j.y1 ∙ j.first.output in
      let ew : w ≡ j.w1 = (let a : w ≡ j.w1 + j.w2 = j.weight in let b : j.w2 ≡ 0 = j.second.weight in omega arith) in
      subst (λ v. R x y v) (sym ew) (subst (λ v. R x v j.w1) (sym ey) (subst (λ v. R v j.first.from_y j.w1) (sym ex) j.first.reads)),
  λ r. record {
    x1 = x;
    x2 = [];
    y1 = y;
    y2 = [];
    w1 = w;
    w2 = 0;
    input = sym (append-nil x);
    output = sym (append-nil y);
    weight = omega arith;
    first = record { from_x = x; from_y = y; input = refl; output = refl; reads = r };
    second = record { input = refl; output = refl; weight = refl };
  },
)

-- a region's start that is kept as it is
pub plain_reads : (m p : Machine) (off : ℕ) → Stands m p off Input Output None → WellFormed p → (s : ℕ) → s < length p.arcs → Same (From m (off + s)) (From p s)
plain_reads m p off region sound s l =
    same_trans (From m (off + s)) (Joined (Picked Input Output (From p s)) (Is [])) (From p s) (region_reads m p off Input Output None region (closed_of p sound) s l) (plain (From p s))

-- empty arcs to these states
unfoldable pub empties : List ℕ → List Arc
empties ts = map (empty_arc 0) ts

any_at : (m : Machine) (ts : List ℕ) (k : ℕ) (a : Arc) (x y : List ℕ) (w : ℕ) → slice_get (map (empty_arc 0) ts) k ≡ Some a → From m a.next x y w → AnyOf (From m) ts (label a.input x) (label a.output y) (a.weight + w)
any_at m [] k a x y w h r = absurd (cc)
any_at m (t ∷ ts) zero a x y w h r =
    let e : a ≡ empty_arc 0 t = cc in
    let q : w ≡ 0 + w = omega arith in
    inl (subst (λ (z : Arc). From m t (label z.input x) (label z.output y) (z.weight + w)) (sym e) (retag m t refl refl q (subst (λ n. From m n x y w) (ap (λ (z : Arc). z.next) e) r)))
any_at m (t ∷ ts) (suc k) a x y w h r = inr (any_at m ts k a x y w h r)

any_from : (m : Machine) (ts : List ℕ) (x y : List ℕ) (w : ℕ) → AnyOf (From m) ts x y w → (t : ℕ) × (k : ℕ) × (slice_get (map (empty_arc 0) ts) k ≡ Some (empty_arc 0 t)) × From m t x y w
any_from m [] x y w h = absurd h
any_from m (t ∷ ts) x y w (inl r) = (t, 0, refl, r)
any_from m (t ∷ ts) x y w (inr h) = let q = any_from m ts x y w h in (q.0, suc q.1, q.2, q.3)

hub_out : (m : Machine) (ts : List ℕ) {g : ℕ} {ks x y : List ℕ} {w : ℕ} → Path m g ks x y w → get_or m.arcs g [] ≡ map (empty_arc 0) ts → final_of m.finals g ≡ None → AnyOf (From m) ts x y w
hub_out m ts (stop {w} h) row last = let e : None ≡ Some w = sym last ∙ h in absurd (cc)
hub_out m ts (step {k} {ks} {a} {x} {y} {w} h path) row last = any_at m ts k a x y w (ap (λ z. slice_get z k) (sym row) ∙ h) (ks, path)

pub hub_reads : (m : Machine) (g : ℕ) (ts : List ℕ) → get_or m.arcs g [] ≡ empties ts → final_of m.finals g ≡ None → Same (From m g) (AnyOf (From m) ts)
unfolding empties
hub_reads m g ts row last x y w = (
  λ h. hub_out m ts h.1 row last,
  λ h.
      let q = any_from m ts x y w h in
      let e : 0 + w ≡ w = omega arith in
      retag m g refl refl e (go m g q.1 (empty_arc 0 q.0) (ap (λ z. slice_get z q.1) row ∙ q.2) q.3),
)
