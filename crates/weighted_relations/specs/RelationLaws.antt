-- Laws of relations, which the crates above cite.
use Rattle.std.specs.Prelude.{◌≡◌, ◌↔◌, ◌⊎◌, ℕ, zero, suc, ◌+◌, List, [], ◌∷◌, ◌++◌, take, drop, length, get_or, slice_get, Some, ◌<◌, reverse}
use Rattle.std.proofs.lemmas.List.{take_more, drop_more}
use Rattle.std.proofs.Common.{inl, inr, refl, subst, sym}
use Rattle.weighted_relations.specs.Relations.{Relation, Same, Is, Weighted, Joined, Either, AnyOf, AllOf, Copies, Starred, Crossed, Composed, Without, Accepts, IsInput, Inverted, Inputs, Outputs, Reversed, IsAcceptor, IsUnweighted, IsUnmarked}

pub same_refl : (R : Relation) → Same R R
same_refl R x y w = (λ h. h, λ h. h)

pub same_trans : (R S T : Relation) → Same R S → Same S T → Same R T
same_trans R S T f g x y w = (λ h. (g x y w).0 ((f x y w).0 h), λ h. (f x y w).1 ((g x y w).1 h))

pub same_sym : (R S : Relation) → Same R S → Same S R
same_sym R S f x y w = ((f x y w).1, (f x y w).0)

joined_to : (R S R' S' : Relation) → Same R R' → Same S S' → (x y : List ℕ) (w : ℕ) → Joined R S x y w → Joined R' S' x y w
joined_to R S R' S' f g x y w j = record { x1 = j.x1; x2 = j.x2; y1 = j.y1; y2 = j.y2; w1 = j.w1; w2 = j.w2; input = j.input; output = j.output; weight = j.weight; first = (f j.x1 j.y1 j.w1).0 j.first; second = (g j.x2 j.y2 j.w2).0 j.second }

pub same_joined : (R S R' S' : Relation) → Same R R' → Same S S' → Same (Joined R S) (Joined R' S')
same_joined R S R' S' f g x y w = (joined_to R S R' S' f g x y w, joined_to R' S' R S (same_sym R R' f) (same_sym S S' g) x y w)

-- one more member
pub any_push : {A : Type 0} (R : A → Relation) (xs : List A) (x : A) (u v : List ℕ) (w : ℕ) → AnyOf R (xs ++ x ∷ []) u v w ↔ (AnyOf R xs u v w ⊎ R x u v w)
any_push R [] x u v w = (elim [ inl h ↦ inr h | inr h ↦ inl h ], elim [ inl h ↦ absurd h | inr h ↦ inl h ])
any_push R (y ∷ ys) x u v w = (
  elim [ inl h ↦ inl (inl h) | inr h ↦ elim ((any_push R ys x u v w).0 h) [ inl k ↦ inl (inr k) | inr k ↦ inr k ] ],
  elim [ inl h ↦ elim h [ inl k ↦ inl k | inr k ↦ inr ((any_push R ys x u v w).1 (inl k)) ] | inr h ↦ inr ((any_push R ys x u v w).1 (inr h)) ],
)

pub any_more : {A : Type 0} (R : A → Relation) (xs : List A) (i : ℕ) (x : A) (S T : Relation) → i < length xs → x ≡ get_or xs i x → Same S (AnyOf R (take i xs)) → Same T (Either S (R x)) → Same T (AnyOf R (take (i + 1) xs))
any_more R xs i x S T l e f g u v w =
    rw (take_more xs i x l, ← e) (
    let q = any_push R (take i xs) x u v w in (
      λ h. q.1 (elim ((g u v w).0 h) [ inl k ↦ inl ((f u v w).0 k) | inr k ↦ inr k ]),
      λ h. (g u v w).1 (elim (q.0 h) [ inl k ↦ inl ((f u v w).1 k) | inr k ↦ inr k ]),
    ))

-- one member more in front
pub all_more : {A : Type 0} (R : A → Relation) (xs : List A) (i : ℕ) (x : A) (S T : Relation) → i < length xs → x ≡ get_or xs i x → Same S (AllOf R (drop (i + 1) xs)) → Same T (Joined (R x) S) → Same T (AllOf R (drop i xs))
all_more R xs i x S T l e f g =
    rw (drop_more xs i x l, ← e) (same_trans T (Joined (R x) S) (Joined (R x) (AllOf R (drop (i + 1) xs))) g (same_joined (R x) S (R x) (AllOf R (drop (i + 1) xs)) (same_refl (R x)) f))

copies_to : (R S : Relation) → Same R S → (n : ℕ) → Same (Copies R n) (Copies S n)
copies_to R S f zero = same_refl (Is [])
copies_to R S f (suc n) = same_joined R (Copies R n) S (Copies S n) f (copies_to R S f n)

pub same_starred : (R S : Relation) → Same R S → Same (Starred R) (Starred S)
same_starred R S f x y w = (λ h. (h.0, (copies_to R S f h.0 x y w).0 h.1), λ h. (h.0, (copies_to R S f h.0 x y w).1 h.1))

crossed_to : (R S R' S' : Relation) → Same R R' → Same S S' → (x y : List ℕ) (w : ℕ) → Crossed R S x y w → Crossed R' S' x y w
crossed_to R S R' S' f g x y w j = record { w1 = j.w1; w2 = j.w2; weight = j.weight; first = (f x x j.w1).0 j.first; second = (g y y j.w2).0 j.second }

pub same_crossed : (R S R' S' : Relation) → Same R R' → Same S S' → Same (Crossed R S) (Crossed R' S')
same_crossed R S R' S' f g x y w = (crossed_to R S R' S' f g x y w, crossed_to R' S' R S (same_sym R R' f) (same_sym S S' g) x y w)

pub same_either : (R S R' S' : Relation) → Same R R' → Same S S' → Same (Either R S) (Either R' S')
same_either R S R' S' f g x y w = (
  elim [ inl h ↦ inl ((f x y w).0 h) | inr h ↦ inr ((g x y w).0 h) ],
  elim [ inl h ↦ inl ((f x y w).1 h) | inr h ↦ inr ((g x y w).1 h) ],
)

weighted_to : (v : ℕ) (R S : Relation) → Same R S → (x y : List ℕ) (w : ℕ) → Weighted v R x y w → Weighted v S x y w
weighted_to v R S f x y w j = record { before = j.before; weight = j.weight; reads = (f x y j.before).0 j.reads }

pub same_weighted : (v : ℕ) (R S : Relation) → Same R S → Same (Weighted v R) (Weighted v S)
same_weighted v R S f x y w = (weighted_to v R S f x y w, weighted_to v S R (same_sym R S f) x y w)

composed_to : (R S R' S' : Relation) → Same R R' → Same S S' → (x y : List ℕ) (w : ℕ) → Composed R S x y w → Composed R' S' x y w
composed_to R S R' S' f g x y w j = record { middle = j.middle; w1 = j.w1; w2 = j.w2; weight = j.weight; first = (f x j.middle j.w1).0 j.first; second = (g j.middle y j.w2).0 j.second }

pub same_composed : (R S R' S' : Relation) → Same R R' → Same S S' → Same (Composed R S) (Composed R' S')
same_composed R S R' S' f g x y w = (composed_to R S R' S' f g x y w, composed_to R' S' R S (same_sym R R' f) (same_sym S S' g) x y w)

pub same_accepts : (R S : Relation) → Same R S → (x : List ℕ) → Accepts R x ↔ Accepts S x
same_accepts R S f x = (λ h. (h.0, (f x x h.0).0 h.1), λ h. (h.0, (f x x h.0).1 h.1))

without_to : (R S R' S' : Relation) → Same R R' → Same S S' → (x y : List ℕ) (w : ℕ) → Without R S x y w → Without R' S' x y w
without_to R S R' S' f g x y w j = record { reads = (f x y w).0 j.reads; other = λ h. j.other ((same_accepts S S' g x).1 h) }

pub same_without : (R S R' S' : Relation) → Same R R' → Same S S' → Same (Without R S) (Without R' S')
same_without R S R' S' f g x y w = (without_to R S R' S' f g x y w, without_to R' S' R S (same_sym R R' f) (same_sym S S' g) x y w)

pub same_inverted : (R S : Relation) → Same R S → Same (Inverted R) (Inverted S)
same_inverted R S f x y w = f y x w

inputs_to : (R S : Relation) → Same R S → (x y : List ℕ) (w : ℕ) → Inputs R x y w → Inputs S x y w
inputs_to R S f x y w j = record { other = j.other; same = j.same; reads = (f x j.other w).0 j.reads }

pub same_inputs : (R S : Relation) → Same R S → Same (Inputs R) (Inputs S)
same_inputs R S f x y w = (inputs_to R S f x y w, inputs_to S R (same_sym R S f) x y w)

outputs_to : (R S : Relation) → Same R S → (x y : List ℕ) (w : ℕ) → Outputs R x y w → Outputs S x y w
outputs_to R S f x y w j = record { other = j.other; same = j.same; reads = (f j.other y w).0 j.reads }

pub same_outputs : (R S : Relation) → Same R S → Same (Outputs R) (Outputs S)
same_outputs R S f x y w = (outputs_to R S f x y w, outputs_to S R (same_sym R S f) x y w)

pub same_reversed : (R S : Relation) → Same R S → Same (Reversed R) (Reversed S)
same_reversed R S f x y w = f (reverse x) (reverse y) w

pub same_unweighted : (R S : Relation) → Same R S → IsUnweighted S → IsUnweighted R
same_unweighted R S f h x y w r = h x y w ((f x y w).0 r)

pub same_unmarked : (R S : Relation) → Same R S → IsUnmarked S → IsUnmarked R
same_unmarked R S f h x y w r = h x y w ((f x y w).0 r)

pub same_acceptor : (R S : Relation) → Same R S → IsAcceptor S → IsAcceptor R
same_acceptor R S f h x y w r = h x y w ((f x y w).0 r)

-- members that read the same
pub same_any : {A : Type 0} (R S : A → Relation) (xs : List A) → ((k : ℕ) (x : A) → slice_get xs k ≡ Some x → Same (R x) (S x)) → Same (AnyOf R xs) (AnyOf S xs)
same_any R S [] f x y w = (λ h. h, λ h. h)
same_any R S (a ∷ rest) f x y w = (
  elim [ inl h ↦ inl ((f 0 a refl x y w).0 h) | inr h ↦ inr ((same_any R S rest (λ k b e. f (suc k) b e) x y w).0 h) ],
  elim [ inl h ↦ inl ((f 0 a refl x y w).1 h) | inr h ↦ inr ((same_any R S rest (λ k b e. f (suc k) b e) x y w).1 h) ],
)

-- what an acceptor reads is what it accepts
pub input_accepted : (R : Relation) → IsAcceptor R → (x : List ℕ) → IsInput R x ↔ Accepts R x
input_accepted R f x = (λ h. (h.1, subst (λ y. R x y h.1) (sym (f x h.0 h.1 h.2)) h.2), λ h. (x, h.0, h.1))
