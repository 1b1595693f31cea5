-- The texts that the automata accept, from the transducers that they are made of.
use Rattle.std.proofs.Common.{◌≡◌, ◌↔◌, ℕ, ◌+◌, List, [], ◌∷◌, ◌++◌, refl, sym, ◌∙◌, ap, subst, inl, inr, append-nil}
use Rattle.std.specs.Prelude.{All, reverse}
use Rattle.std.proofs.lemmas.List.{reverse-reverse}
use Rattle.weighted_relations.specs.Relations.{Relation, Same, Is, Joined, Either, Nothing, IsInput, IsLabel}
use Rattle.acceptor_ops.specs.Tables.{Except}
use Rattle.rewrite_rules.specs.AnyTexts.{AnyText}
use Rattle.rewrite_rules.specs.Languages.{Heads, Fronts, LeftText, BackText}

input_same : (R S : Relation) → Same R S → (x : List ℕ) → IsInput R x → IsInput S x
input_same R S f x (y, w, r) = (y, w, (f x y w).0 r)

any_input : (Any : Relation) → Same Any AnyText → (x : List ℕ) → All IsLabel x → IsInput Any x
any_input Any f x h = (x, 0, (f x x 0).1 (record { labels = h; output = refl; weight = refl }))

-- what reads one after the other
input_joined : (R S : Relation) (x y : List ℕ) → IsInput R x → IsInput S y → IsInput (Joined R S) (x ++ y)
input_joined R S x y (v, a, r) (z, b, s) = (v ++ z, a + b, record { x1 = x; x2 = y; y1 = v; y2 = z; w1 = a; w2 = b; input = refl; output = refl; weight = refl; first = r; second = s })

ends_input : (R : Relation) (x : List ℕ) → IsInput R x → IsInput (Joined R (Is [])) x
ends_input R x r = subst (IsInput (Joined R (Is []))) (append-nil x) (input_joined R (Is []) x [] r ([], 0, record { input = refl; output = refl; weight = refl }))

pub left_texts : (L Any Copy : Relation) (E : List ℕ → Type 0) (All' : Relation) → Same Any AnyText → Same Copy L → Same All' (Joined Any (Joined Copy (Is []))) → ((x : List ℕ) → E x ↔ IsInput All' x) → (x : List ℕ) → E x ↔ LeftText L x
left_texts L Any Copy E All' a c f e x = (
  λ h. to ((e x).0 h),
  λ h. (e x).1 (input_same (Joined Any (Joined Copy (Is []))) All' (λ u v w. ((f u v w).1, (f u v w).0)) x
      (subst (IsInput (Joined Any (Joined Copy (Is [])))) (sym h.parts) (input_joined Any (Joined Copy (Is [])) h.front h.back (any_input Any a h.front h.labels) (ends_input Copy h.back (input_same L Copy (λ u v w. ((c u v w).1, (c u v w).0)) h.back h.ends))))),
) where
  to : IsInput All' x → LeftText L x
  to (y, w, r) =
      let j : Joined Any (Joined Copy (Is [])) x y w = (f x y w).0 r in
      let k : Joined Copy (Is []) j.x2 j.y2 j.w2 = j.second in
      let at : j.x2 ≡ k.x1 = k.input ∙ ap (λ v. k.x1 ++ v) k.second.input ∙ append-nil k.x1 in
      record { front = j.x1; back = k.x1; parts = j.input ∙ ap (λ v. j.x1 ++ v) at; labels = ((a j.x1 j.y1 j.w1).0 j.first).labels; ends = (k.y1, k.w1, (c k.x1 k.y1 k.w1).0 k.first) }

pub heads_same : (T None H : Relation) (E : List ℕ → Type 0) → Same None (Is []) → ((x : List ℕ) → E x ↔ IsInput None x) → Same H (Except T E) → Same H (Heads T)
heads_same T None H E n e f x y w = (
  λ h. let g = (f x y w).0 h in record { reads = g.reads; some = λ q. g.other ((e x).1 ([], 0, (n x [] 0).1 (record { input = q; output = refl; weight = refl }))) },
  λ h. (f x y w).1 (record { reads = h.reads; other = λ k. h.some (nothing ((e x).0 k)) }),
) where
  nothing : IsInput None x → x ≡ []
  nothing (v, a, r) = ((n x v a).0 r).input

pub fronts_same : (T H Mark Fr : Relation) → Same H (Heads T) → Same Mark (Is (256 ∷ [])) → Same Fr (Either H (Either Mark Nothing)) → Same Fr (Fronts T)
fronts_same T H Mark Fr h m f x y w = (
  λ k. elim ((f x y w).0 k) [ inl a ↦ inl ((h x y w).0 a) | inr b ↦ elim b [ inl c ↦ inr ((m x y w).0 c) | inr c ↦ absurd c ] ],
  λ k. (f x y w).1 (elim k [ inl a ↦ inl ((h x y w).1 a) | inr b ↦ inr (inl ((m x y w).1 b)) ]),
)

pub back_texts : (T R Fr Copy Any All' : Relation) (E : List ℕ → Type 0) → Same Fr (Fronts T) → Same Copy R → Same Any AnyText → Same All' (Joined Fr (Joined Copy (Joined Any (Is [])))) → ((x : List ℕ) → E x ↔ IsInput All' (reverse x)) → (x : List ℕ) → E (reverse x) ↔ BackText T R x
back_texts T R Fr Copy Any All' E fr c a f e x = (
  λ h. to (subst (IsInput All') (reverse-reverse x) ((e (reverse x)).0 h)),
  λ h. (e (reverse x)).1 (subst (IsInput All') (sym (reverse-reverse x)) (input_same (Joined Fr (Joined Copy (Joined Any (Is [])))) All' (λ u v w. ((f u v w).1, (f u v w).0)) x
      (subst (IsInput (Joined Fr (Joined Copy (Joined Any (Is []))))) (sym h.parts)
      (input_joined Fr (Joined Copy (Joined Any (Is []))) h.front (h.middle ++ h.rest) (input_same (Fronts T) Fr (λ u v w. ((fr u v w).1, (fr u v w).0)) h.front h.begins)
      (input_joined Copy (Joined Any (Is [])) h.middle h.rest (input_same R Copy (λ u v w. ((c u v w).1, (c u v w).0)) h.middle h.starts) (ends_input Any h.rest (any_input Any a h.rest h.labels))))))),
) where
  to : IsInput All' x → BackText T R x
  to (y, w, r) =
      let j : Joined Fr (Joined Copy (Joined Any (Is []))) x y w = (f x y w).0 r in
      let k : Joined Copy (Joined Any (Is [])) j.x2 j.y2 j.w2 = j.second in
      let l : Joined Any (Is []) k.x2 k.y2 k.w2 = k.second in
      let at : k.x2 ≡ l.x1 = l.input ∙ ap (λ v. l.x1 ++ v) l.second.input ∙ append-nil l.x1 in
      record {
        front = j.x1;
        middle = k.x1;
        rest = l.x1;
        parts = j.input ∙ ap (λ v. j.x1 ++ v) (k.input ∙ ap (λ v. k.x1 ++ v) at);
        begins = (j.y1, j.w1, (fr j.x1 j.y1 j.w1).0 j.first);
        starts = (k.y1, k.w1, (c k.x1 k.y1 k.w1).0 k.first);
        labels = ((a l.x1 l.y1 l.w1).0 l.first).labels;
      }
