-- Two lists compared from their front.
use Rattle.std.proofs.Common.{◌≡◌, ◌≢◌, ◌<◌, ◌≤◌, ◌↔◌, ℕ, ◌+◌, List, [], ◌∷◌, length, get_or, drop, inl, inr, subst, refl, arith, add-one, drop-cons}
use Rattle.std.proofs.lemmas.List.{drop_all}
use Rattle.weighted_relations.specs.Least.{BytesBelow}

cons_same : (x y : ℕ) (a b : List ℕ) → x ≡ y → BytesBelow (x ∷ a) (y ∷ b) ↔ BytesBelow a b
cons_same x y a b e = (elim [ inl l ↦ absurd (omega (arith, l, e)) | inr h ↦ h.1 ], λ h. inr (e, h))

cons_apart : (x y : ℕ) (a b : List ℕ) → x ≢ y → BytesBelow (x ∷ a) (y ∷ b) ↔ (x < y)
cons_apart x y a b ne = (elim [ inl l ↦ l | inr h ↦ absurd (ne h.0) ], λ l. inl l)

at_front : (a : List ℕ) (i : ℕ) → i < length a → drop i a ≡ get_or a i 0 ∷ drop (i + 1) a
at_front a i h = rw (add-one, drop-cons a i 0) refl

pub same_front : (a b : List ℕ) (i : ℕ) → i < length a → i < length b → get_or a i 0 ≡ get_or b i 0 → BytesBelow (drop i a) (drop i b) ↔ BytesBelow (drop (i + 1) a) (drop (i + 1) b)
same_front a b i l m e = rw (at_front a i l, at_front b i m) (cons_same (get_or a i 0) (get_or b i 0) (drop (i + 1) a) (drop (i + 1) b) e)

pub apart_front : (a b : List ℕ) (i : ℕ) → i < length a → i < length b → get_or a i 0 ≢ get_or b i 0 → BytesBelow (drop i a) (drop i b) ↔ (get_or a i 0 < get_or b i 0)
apart_front a b i l m ne = rw (at_front a i l, at_front b i m) (cons_apart (get_or a i 0) (get_or b i 0) (drop (i + 1) a) (drop (i + 1) b) ne)

pub second_ends : (a b : List ℕ) (i : ℕ) → i < length a → length b ≤ i → BytesBelow (drop i a) (drop i b) → ⊥
second_ends a b i l m h = let k : BytesBelow (get_or a i 0 ∷ drop (i + 1) a) [] = subst (λ t. BytesBelow t []) (at_front a i l) (subst (BytesBelow (drop i a)) (drop_all i b m) h) in k

pub first_ends : (a b : List ℕ) (i : ℕ) → length a ≤ i → BytesBelow (drop i a) (drop i b)
first_ends a b i l = rw (drop_all i a l) tt
