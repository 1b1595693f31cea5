-- A state that leads to each of several transducers.
use Rattle.std.proofs.Common.{◌≡◌, ℕ, zero, suc, ◌+◌, ◌<◌, List, [], ◌∷◌, ◌++◌, length, Some, None, refl, sym, ◌∙◌, ap, subst, inl, inr, arith, length-append, lit≤, lit<}
use Rattle.std.specs.Prelude.{map, slice_get}
use Rattle.std.proofs.lemmas.List.{get_or_push}
use Rattle.fst_core.specs.declared.builder.Kept.TheVariants.{Input, Output}
use Rattle.weighted_relations.specs.declared.Arc.{Arc}
use Rattle.weighted_relations.specs.Relations.{Relation, Same, AnyOf, Nothing}
use Rattle.weighted_relations.specs.RelationLaws.{same_refl, same_trans, same_any, any_push}
use Rattle.weighted_relations.specs.Machines.{Machine, From, WellFormed, Reads, ArcFits}
use Rattle.fst_core.specs.Placed.{empty_arc}
use Rattle.fst_core.specs.States.{States, Adds, with_state, as_machine, no_states}
use Rattle.fst_core.proofs.Regions.{Stands}
use Rattle.fst_core.proofs.Fits.{Fit, RowFits, no_fit, fit_more, adds_fit, state_fits}
use Rattle.fst_core.proofs.Hubs.{plain_reads, empties, hub_reads}
use Rattle.fst_core.proofs.Extends.{adds_extends, push_extends, extended_reads}

-- the parts that were placed, and the empty arcs to their starts
pub record Branches (parts : List Machine) (b : States) (row : List Arc) : Type 0 where
  pub targets : List ℕ
  pub arcs_to : row ≡ empties targets
  pub even : length b.finals ≡ length b.arcs
  pub fits : Fit (length b.arcs) b
  pub within : (k t : ℕ) → slice_get targets k ≡ Some t → t < length b.arcs
  pub reads : Same (AnyOf (From (as_machine 0 b)) targets) (AnyOf Reads parts)

pub branches_none : (b : States) (row : List Arc) → b ≡ no_states → row ≡ [] → Branches [] b row
unfolding empties
branches_none b row e f =
    subst (λ v. Branches [] v row) (sym e) (subst (Branches [] no_states) (sym f) (record { targets = []; arcs_to = refl; even = refl; fits = no_fit 0; within = λ k t h. absurd (cc); reads = same_refl Nothing }))

mapped_push : {A B : Type 0} (f : A → B) (xs : List A) (x : A) → map f (xs ++ x ∷ []) ≡ map f xs ++ f x ∷ []
mapped_push f [] x = refl
mapped_push f (y ∷ xs) x = ap (λ r. f y ∷ r) (mapped_push f xs x)

pushed_at : (xs : List ℕ) (x k t : ℕ) (P : ℕ → Type 0) → ((k t : ℕ) → slice_get xs k ≡ Some t → P t) → P x → slice_get (xs ++ x ∷ []) k ≡ Some t → P t
pushed_at [] x zero t P f p h = subst P (let e : x ≡ t = cc in e) p
pushed_at [] x (suc k) t P f p h = absurd (cc)
pushed_at (y ∷ xs) x zero t P f p h = f 0 t h
pushed_at (y ∷ xs) x (suc k) t P f p h = pushed_at xs x k t P (λ j u e. f (suc j) u e) p h

-- one member more on both sides
both_push : {A B : Type 0} (R : A → Relation) (S : B → Relation) (xs : List A) (ys : List B) (a : A) (b : B) → Same (AnyOf R xs) (AnyOf S ys) → Same (R a) (S b) → Same (AnyOf R (xs ++ a ∷ [])) (AnyOf S (ys ++ b ∷ []))
both_push R S xs ys a b f g x y w =
    let p = any_push R xs a x y w in
    let q = any_push S ys b x y w in (
      λ h. q.1 (elim (p.0 h) [ inl k ↦ inl ((f x y w).0 k) | inr k ↦ inr ((g x y w).0 k) ]),
      λ h. p.1 (elim (q.0 h) [ inl k ↦ inl ((f x y w).1 k) | inr k ↦ inr ((g x y w).1 k) ]),
    )

pub branches_more : (parts : List Machine) (b c : States) (row : List Arc) (p : Machine) → WellFormed p → Branches parts b row → Adds b c p (length p.arcs) Input Output None → Branches (parts ++ p ∷ []) c (row ++ empty_arc 0 (length b.arcs + p.start) ∷ [])
unfolding empties Stands
branches_more parts b c row p sound had adds =
    let n_arcs : length c.arcs ≡ length b.arcs + length p.arcs = adds.arc_count in
    let n_ends : length c.finals ≡ length b.arcs + length p.arcs = adds.final_count in
    let at : p.start < length p.arcs = sound.start in
    let t = length b.arcs + p.start in
    let old : Same (AnyOf (From (as_machine 0 c)) had.targets) (AnyOf Reads parts) = same_trans _ _ _ (same_any (From (as_machine 0 c)) (From (as_machine 0 b)) had.targets (λ k u h. extended_reads b c 0 0 had.fits (adds_extends b c p (length p.arcs) Input Output None adds) u (had.within k u h))) had.reads in
    record {
      targets = had.targets ++ t ∷ [];
      arcs_to = ap (λ r. r ++ empty_arc 0 t ∷ []) had.arcs_to ∙ sym (mapped_push (empty_arc 0) had.targets t);
      even = omega arith;
      fits = adds_fit (length c.arcs) b c p Input Output None sound (omega arith) (λ u e. absurd (cc)) (fit_more (length b.arcs) (length c.arcs) b (omega arith) had.fits) adds;
      within = λ k u h. pushed_at had.targets t k u (λ v. v < length c.arcs) (λ j v e. let l : v < length b.arcs = had.within j v e in omega arith) (omega arith) h;
      reads = both_push (From (as_machine 0 c)) Reads had.targets parts t p old (plain_reads (as_machine 0 c) p (length b.arcs) adds.region sound p.start at);
    }

empty_fits : (n : ℕ) (ts : List ℕ) → ((k t : ℕ) → slice_get ts k ≡ Some t → t < n) → (k : ℕ) (a : Arc) → slice_get (map (empty_arc 0) ts) k ≡ Some a → ArcFits n a
empty_fits n [] f k a h = absurd (cc)
empty_fits n (t ∷ ts) f zero a h = let q : empty_arc 0 t ≡ a = cc in subst (ArcFits n) q (record { input = lit≤ tt; output = lit≤ tt; weight = lit< tt; next = f 0 t refl })
empty_fits n (t ∷ ts) f (suc k) a h = empty_fits n ts (λ j u e. f (suc j) u e) k a h

pub empty_weight : (ts : List ℕ) (k : ℕ) (a : Arc) → slice_get (empties ts) k ≡ Some a → a.weight ≡ 0
unfolding empties
empty_weight [] k a h = absurd (cc)
empty_weight (t ∷ ts) zero a h = let q : empty_arc 0 t ≡ a = cc in ap (λ (z : Arc). z.weight) (sym q)
empty_weight (t ∷ ts) (suc k) a h = empty_weight ts k a h

module _ (parts : List Machine) (b d : States) (row : List Arc) (hub : ℕ) (had : Branches parts b row) (at : hub ≡ length b.arcs) (pushed : d ≡ with_state b row None) where
  pub branches_sound : WellFormed (as_machine hub d)
  unfolding empties
  branches_sound =
      let count : length d.arcs ≡ length b.arcs + 1 = ap (λ (v : States). length v.arcs) pushed ∙ length-append b.arcs _ in
      let ends : length d.finals ≡ length b.finals + 1 = ap (λ (v : States). length v.finals) pushed ∙ length-append b.finals _ in
      let even : length b.finals ≡ length b.arcs = had.even in
      let row_fits : RowFits (length d.arcs) row = record { arcs = λ k a h. empty_fits (length d.arcs) had.targets (λ j t e. let l : t < length b.arcs = had.within j t e in omega arith) k a (ap (λ r. slice_get r k) (sym had.arcs_to) ∙ h) } in
      let all : Fit (length d.arcs) d = subst (Fit (length d.arcs)) (sym pushed) (state_fits (length d.arcs) b row None had.even (fit_more (length b.arcs) (length d.arcs) b (omega arith) had.fits) row_fits (λ w e. absurd (cc))) in
      record { finals = omega arith; start = omega arith; arcs = all.arcs; weights = all.weights }

  pub branches_reads : (m : Machine) → m ≡ as_machine hub d → Same (Reads m) (AnyOf Reads parts)
  branches_reads m built =
      let whole = as_machine (length b.arcs) (with_state b row None) in
      let is : m ≡ whole = built ∙ ap (λ n. as_machine n d) at ∙ ap (as_machine (length b.arcs)) pushed in
      let hubs : Same (From whole (length b.arcs)) (AnyOf (From whole) had.targets) = hub_reads whole (length b.arcs) had.targets (get_or_push b.arcs row [] (length b.arcs) refl ∙ had.arcs_to) (get_or_push b.finals None None (length b.arcs) had.even) in
      let old : Same (AnyOf (From whole) had.targets) (AnyOf (From (as_machine 0 b)) had.targets) = same_any (From whole) (From (as_machine 0 b)) had.targets (λ k u h. extended_reads b (with_state b row None) 0 (length b.arcs) had.fits (push_extends b row None had.even) u (had.within k u h)) in
      subst (λ v. Same (Reads v) (AnyOf Reads parts)) (sym is) (same_trans _ _ _ hubs (same_trans _ _ _ old had.reads))
