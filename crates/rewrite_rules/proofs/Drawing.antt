-- Arcs of moves, one after another.
use Rattle.std.proofs.Common.{◌≡◌, ℕ, zero, suc, ◌+◌, ◌<◌, ◌≤◌, ◌⊎◌, ◌↔◌, List, [], ◌∷◌, ◌++◌, map, length, get_or, Some, refl, sym, ◌∙◌, ap, subst, arith, inl, inr}
use Rattle.std.specs.Prelude.{slice_get}
use Rattle.std.specs.List.{Contains}
use Rattle.std.proofs.lemmas.Bool.{cases_lt}
use Rattle.std.proofs.lemmas.Option.{slice_get-get_or, slice_get_within, get_or_from_slice_get}
use Rattle.std.proofs.lemmas.List.Elements.{Contains-get_or}
use Rattle.weighted_relations.specs.declared.Arc.{Arc}
use Rattle.state_table.specs.Numbers.{Keeps, Numbers}
use Rattle.rewrite_rules.specs.Steps.{Below, Listed, CopyTo, copy_step, copy_arc}
use Rattle.rewrite_rules.specs.Drawn.{IsArcOf, Draws}
use Rattle.rewrite_rules.specs.declared.arcs.Step.{Step}
use Rattle.rewrite_rules.specs.declared.spots.Spot.{Spot}
use Rattle.rewrite_rules.specs.declared.spots.Spot.TheVariants.{Hub}
use Rattle.state_table.proofs.Numbering.{keeps_refl, keeps_trans, keeps_more, kept_at, numbers_keeps, numbers_within, stored_at, fresh_at}

-- an element of two lists, one after the other
pub got_append : {A : Type 0} (xs ys : List A) (k : ℕ) (a : A) → slice_get (xs ++ ys) k ≡ Some a → (slice_get xs k ≡ Some a) ⊎ ((j : ℕ) × (slice_get ys j ≡ Some a))
got_append [] ys k a h = inr (k, h)
got_append (x ∷ xs) ys zero a h = inl h
got_append (x ∷ xs) ys (suc k) a h = got_append xs ys k a h

pub got_left : {A : Type 0} (xs ys : List A) (k : ℕ) (a : A) → slice_get xs k ≡ Some a → slice_get (xs ++ ys) k ≡ Some a
got_left [] ys k a h = absurd (cc)
got_left (x ∷ xs) ys zero a h = h
got_left (x ∷ xs) ys (suc k) a h = got_left xs ys k a h

pub got_right : {A : Type 0} (xs ys : List A) (j : ℕ) (a : A) → slice_get ys j ≡ Some a → (k : ℕ) × (slice_get (xs ++ ys) k ≡ Some a)
got_right [] ys j a h = (j, h)
got_right (x ∷ xs) ys j a h = let r = got_right xs ys j a h in (suc r.0, r.1)

got_map : {A B : Type 0} (f : A → B) (xs : List A) (k : ℕ) (b : B) → slice_get (map f xs) k ≡ Some b → (a : A) × (slice_get xs k ≡ Some a) × (b ≡ f a)
got_map f [] k b h = absurd (cc)
got_map f (x ∷ xs) zero b h = (x, refl, cc)
got_map f (x ∷ xs) (suc k) b h = got_map f xs k b h

map_got : {A B : Type 0} (f : A → B) (xs : List A) (k : ℕ) (a : A) → slice_get xs k ≡ Some a → slice_get (map f xs) k ≡ Some (f a)
map_got f [] k a h = absurd (cc)
map_got f (x ∷ xs) zero a h = let e : x ≡ a = cc in ap (λ z. Some (f z)) e
map_got f (x ∷ xs) (suc k) a h = map_got f xs k a h

pub got_contains : {A : Type 0} (xs : List A) (k : ℕ) (a : A) → slice_get xs k ≡ Some a → Contains xs a
got_contains xs k a h = (k, slice_get_within xs k a h, get_or_from_slice_get xs k a a h)

pub contains_got : {A : Type 0} (xs : List A) (a : A) → Contains xs a → (k : ℕ) × (slice_get xs k ≡ Some a)
contains_got xs a (k, l, e) = (k, slice_get-get_or xs k a l ∙ ap Some e)

pub arc_kept : (old new : List Spot) (x : Step) (a : Arc) → Keeps old new → IsArcOf old x a → IsArcOf new x a
arc_kept old new x a k h = record {
  input = h.input;
  output = h.output;
  weight = h.weight;
  within = let l : a.next < length old = h.within in let m : length old ≤ length new = keeps_more k in omega arith;
  next = kept_at Hub k a.next h.within ∙ h.next;
}

pub draws_none : (P : Step → Type 0) (spots : List Spot) (row : List Arc) → ((x : Step) → P x → ⊥) → Draws P spots spots row row
draws_none P spots row h = record {
  keeps = keeps_refl spots;
  kept = λ k a e. e;
  sound = λ k a e. inl e;
  full = λ x p. absurd (h x p);
  only = λ k l m. absurd (omega arith);
}

pub draws_same : (P Q : Step → Type 0) (old new : List Spot) (row more : List Arc) → ((x : Step) → P x ↔ Q x) → Draws P old new row more → Draws Q old new row more
draws_same P Q old new row more h d = record {
  keeps = d.keeps;
  kept = d.kept;
  sound = λ k a e. elim (d.sound k a e) [ inl f ↦ inl f | inr (x, p, i) ↦ inr (x, (h x).0 p, i) ];
  full = λ x q. d.full x ((h x).1 q);
  only = λ k l m. let s = d.only k l m in (s.0, (h s.0).0 s.1, s.2);
}

pub draws_then : (P Q : Step → Type 0) (a b c : List Spot) (r s t : List Arc) → Draws P a b r s → Draws Q b c s t → Draws (λ x. P x ⊎ Q x) a c r t
draws_then P Q a b c r s t f g = record {
  keeps = keeps_trans f.keeps g.keeps;
  kept = λ k z e. g.kept k z (f.kept k z e);
  sound = λ k z e. elim (g.sound k z e) [
    | inl h ↦ elim (f.sound k z h) [ inl i ↦ inl i | inr (x, p, i) ↦ inr (x, inl p, arc_kept b c x z g.keeps i) ]
    | inr (x, q, i) ↦ inr (x, inr q, i)
  ];
  full = λ x h. elim h [
    | inl p ↦ let e = f.full x p in (e.0, e.1, g.kept e.0 e.1 e.2, arc_kept b c x e.1 g.keeps e.3)
    | inr q ↦ g.full x q
  ];
  only = λ k l m. elim (cases_lt k (length b)) [
    | inl h ↦ let e = f.only k l h in (e.0, inl e.1, kept_at Hub g.keeps k h ∙ e.2)
    | inr h ↦ let e = g.only k h m in (e.0, inr e.1, e.2)
  ];
}

-- the arcs of moves to one place
draws_to : (P : Step → Type 0) (old new : List Spot) (row arcs : List Arc) (to : Spot) (n : ℕ) (one : Step) → Numbers old new to n → P one → one.to ≡ to → ((j : ℕ) (a : Arc) → slice_get arcs j ≡ Some a → (x : Step) × P x × IsArcOf new x a) → ((x : Step) → P x → (j : ℕ) × (a : Arc) × (slice_get arcs j ≡ Some a) × IsArcOf new x a) → Draws P old new row (row ++ arcs)
draws_to P old new row arcs to n one m p at sound full = record {
  keeps = numbers_keeps m;
  kept = λ k a e. got_left row arcs k a e;
  sound = λ k a e. elim (got_append row arcs k a e) [ inl f ↦ inl f | inr (j, f) ↦ inr (sound j a f) ];
  full = λ x q. let f = full x q in let g = got_right row arcs f.0 f.1 f.2 in (g.0, f.1, g.1, f.3);
  only = λ k l h. (one, p, fresh_at m Hub k l h ∙ sym at);
}

-- the arc of one move
pub draws_one : (old new : List Spot) (row : List Arc) (x : Step) (n : ℕ) → Numbers old new x.to n → Draws (λ y. y ≡ x) old new row (row ++ record { input = x.input; output = x.output; weight = x.weight; next = n } ∷ [])
draws_one old new row x n m =
    let arc : Arc = record { input = x.input; output = x.output; weight = x.weight; next = n } in
    let here : IsArcOf new x arc = record { input = refl; output = refl; weight = refl; within = numbers_within m; next = stored_at m Hub } in
    draws_to (λ y. y ≡ x) old new row (arc ∷ []) x.to n x m refl refl
    (λ j a e. (x, refl, subst (IsArcOf new x) (only j a e) here))
    (λ y e. (0, arc, refl, subst (λ z. IsArcOf new z arc) (sym e) here)) where
      only : (j : ℕ) (a : Arc) → slice_get (record { input = x.input; output = x.output; weight = x.weight; next = n } ∷ []) j ≡ Some a → record { input = x.input; output = x.output; weight = x.weight; next = n } ≡ a
      only zero a e = cc
      only (suc j) a e = absurd (cc)

-- the arcs of the copies of some bytes to one place
pub draws_copies : (old new : List Spot) (row : List Arc) (bytes : List ℕ) (to : Spot) (n : ℕ) → Numbers old new to n → 0 < length bytes → Draws (CopyTo bytes to) old new row (row ++ map (copy_arc n) bytes)
draws_copies old new row bytes to n m some =
    let c : ℕ = get_or bytes 0 0 in
    draws_to (CopyTo bytes to) old new row (map (copy_arc n) bytes) to n (copy_step c to) m (c, Contains-get_or bytes 0 0 some, refl) refl
    (λ j a e. let f = got_map (copy_arc n) bytes j a e in (copy_step f.0 to, (f.0, got_contains bytes j f.0 f.1, refl), subst (IsArcOf new (copy_step f.0 to)) (sym f.2) (here f.0)))
    (λ x (d, is, e). let f = contains_got bytes d is in (f.0, copy_arc n d, map_got (copy_arc n) bytes f.0 d f.1, subst (λ z. IsArcOf new z (copy_arc n d)) (sym e) (here d))) where
      here : (d : ℕ) → IsArcOf new (copy_step d to) (copy_arc n d)
      here d = record { input = refl; output = refl; weight = refl; within = numbers_within m; next = stored_at m Hub }

below_split : (Q : ℕ → Step → Type 0) (n : ℕ) (x : Step) → (Below Q n x ⊎ Q n x) ↔ Below Q (n + 1) x
below_split Q n x = (
  λ h. elim h [ inl (k, l, q) ↦ (k, omega arith, q) | inr q ↦ (n, omega arith, q) ],
  λ (k, l, q). elim (cases_lt k n) [ inl m ↦ inl (k, m, q) | inr m ↦ let e : k ≡ n = omega arith in inr (subst (λ j. Q j x) e q) ],
)

pub below_none : (Q : ℕ → Step → Type 0) (spots : List Spot) (row : List Arc) → Draws (Below Q 0) spots spots row row
below_none Q spots row = draws_none (Below Q 0) spots row (λ x (k, l, q). omega (arith, l))

pub below_more : (Q : ℕ → Step → Type 0) (n : ℕ) (a b c : List Spot) (r s t : List Arc) → Draws (Below Q n) a b r s → Draws (Q n) b c s t → Draws (Below Q (n + 1)) a c r t
below_more Q n a b c r s t f g = draws_same (λ x. Below Q n x ⊎ Q n x) (Below Q (n + 1)) a c r t (below_split Q n) (draws_then (Below Q n) (Q n) a b c r s t f g)

pub listed_none : {A : Type 0} (xs : List A) (Q : A → Step → Type 0) (spots : List Spot) (row : List Arc) → Draws (Listed xs Q 0) spots spots row row
listed_none xs Q spots row = draws_none (Listed xs Q 0) spots row (λ x (k, l, q). omega (arith, l))

pub listed_more : {A : Type 0} (xs : List A) (Q : A → Step → Type 0) (n : ℕ) (here : A) (a b c : List Spot) (r s t : List Arc) → slice_get xs n ≡ Some here → Draws (Listed xs Q n) a b r s → Draws (Q here) b c s t → Draws (Listed xs Q (n + 1)) a c r t
listed_more {A} xs Q n here a b c r s t at f g =
    below_more (λ k x. (z : A) × (slice_get xs k ≡ Some z) × Q z x) n a b c r s t f
    (draws_same (Q here) (λ x. (z : A) × (slice_get xs n ≡ Some z) × Q z x) b c s t (λ x. (
      λ q. (here, at, q),
      λ (z, e, q). let w : Some z ≡ Some here = sym e ∙ at in let same : z ≡ here = cc in subst (λ y. Q y x) same q,
    )) g)
