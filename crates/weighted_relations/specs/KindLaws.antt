-- What the kinds of an expression tell of its readings.
use Rattle.std.specs.Prelude.{◌≡◌, ℕ, zero, suc, List, [], ◌∷◌, ◌++◌, All, true, false, nat_lt}
use Rattle.std.proofs.Common.{inl, inr, sym, subst, ◌∙◌, arith}
use Rattle.std.proofs.lemmas.Bool.{and_parts, or_parts, ltb-false}
use Rattle.std.proofs.lemmas.List.Elements.{All-nil, All-cons, All-head, All-tail, All-same, All-append, All-push}
use Rattle.weighted_relations.specs.Relations.{Relation, IsLabel, IsByte, Is, Joined, Copies, IsAcceptor, IsUnweighted, IsUnmarked}
use Rattle.weighted_relations.specs.Rewriting.{Manner, Rewrites, stop_here, copy, rewrite as rewritten}
use Rattle.weighted_relations.specs.Expressions.{Expression, Expressions, text, weighted, union, concat, star, cross, compose, minus, invert, project, rewrite, no_members, member, input_side, output_side, Rel, RelAny, RelAll, is_acceptor, are_acceptors, is_weighted, some_weighted, holds_mark, is_marked, some_marked, MeetsKinds, MeetKinds}

-- Acceptors

joined_acceptor : (R S : Relation) → IsAcceptor R → IsAcceptor S → IsAcceptor (Joined R S)
joined_acceptor R S f g x y w j = let p = f j.x1 j.y1 j.w1 j.first in let q = g j.x2 j.y2 j.w2 j.second in cc

copies_acceptor : (R : Relation) → IsAcceptor R → (n : ℕ) → IsAcceptor (Copies R n)
copies_acceptor R f zero x y w r = r.input ∙ sym r.output
copies_acceptor R f (suc n) x y w r = joined_acceptor R (Copies R n) f (copies_acceptor R f n) x y w r

mutual
  pub acceptor_kind : (e : Expression) → MeetsKinds e → is_acceptor e ≡ true → IsAcceptor (Rel e)
  acceptor_kind (text labels) h k x y w r = r.input ∙ sym r.output
  acceptor_kind (weighted e v) h k x y w r = acceptor_kind e h.0 k x y r.before r.reads
  acceptor_kind (union es) h k x y w r = acceptor_any es h k x y w r
  acceptor_kind (concat es) h k x y w r = acceptor_all es h k x y w r
  acceptor_kind (star e) h k x y w r = copies_acceptor (Rel e) (acceptor_kind e h k) r.0 x y w r.1
  acceptor_kind (cross a b) h k x y w r = let no : ⊥ = cc in absurd no
  acceptor_kind (compose a b) h k x y w r = let both = and_parts (is_acceptor a) (is_acceptor b) k in acceptor_kind a h.0 both.0 x r.middle r.w1 r.first ∙ acceptor_kind b h.1 both.1 r.middle y r.w2 r.second
  acceptor_kind (minus a b) h k x y w r = acceptor_kind a h.0 h.2 x y w r.reads
  acceptor_kind (invert e) h k x y w r = sym (acceptor_kind e h k y x w r)
  acceptor_kind (project e input_side) h k x y w r = r.same
  acceptor_kind (project e output_side) h k x y w r = r.same
  acceptor_kind (rewrite tau left right sigma manner) h k x y w r = let no : ⊥ = cc in absurd no

  acceptor_any : (es : Expressions) → MeetKinds es → are_acceptors es ≡ true → IsAcceptor (RelAny es)
  acceptor_any no_members h k x y w r = absurd r
  acceptor_any (member e es) h k x y w r = let both = and_parts (is_acceptor e) (are_acceptors es) k in elim r [ inl s ↦ acceptor_kind e h.0 both.0 x y w s | inr s ↦ acceptor_any es h.1 both.1 x y w s ]

  acceptor_all : (es : Expressions) → MeetKinds es → are_acceptors es ≡ true → IsAcceptor (RelAll es)
  acceptor_all no_members h k x y w r = r.input ∙ sym r.output
  acceptor_all (member e es) h k x y w r = let both = and_parts (is_acceptor e) (are_acceptors es) k in joined_acceptor (Rel e) (RelAll es) (acceptor_kind e h.0 both.0) (acceptor_all es h.1 both.1) x y w r

-- Weights

joined_unweighted : (R S : Relation) → IsUnweighted R → IsUnweighted S → IsUnweighted (Joined R S)
joined_unweighted R S f g x y w j = omega (arith, j.weight, f j.x1 j.y1 j.w1 j.first, g j.x2 j.y2 j.w2 j.second)

copies_unweighted : (R : Relation) → IsUnweighted R → (n : ℕ) → IsUnweighted (Copies R n)
copies_unweighted R f zero x y w r = r.weight
copies_unweighted R f (suc n) x y w r = joined_unweighted R (Copies R n) f (copies_unweighted R f n) x y w r

rewrites_unweighted : (tau left right : Relation) (manner : Manner) → IsUnweighted tau → (o r y : List ℕ) (w : ℕ) → Rewrites tau left right manner o r y w → w ≡ 0
rewrites_unweighted tau left right manner f o r y w stop_here = omega arith
rewrites_unweighted tau left right manner f o r y w (copy {c = c} may rest) = rewrites_unweighted tau left right manner f _ _ y w rest
rewrites_unweighted tau left right manner f o r y w (rewritten {u = u} {v = v} {c = c} {w1 = w1} {w2 = w2} begins reads rest) = omega (arith, f (c ∷ u) v w1 reads, rewrites_unweighted tau left right manner f _ _ y w2 rest)

mutual
  pub unweighted_kind : (e : Expression) → MeetsKinds e → is_weighted e ≡ false → IsUnweighted (Rel e)
  unweighted_kind (text labels) h k x y w r = r.weight
  unweighted_kind (weighted e v) h k x y w r = let both = or_parts (is_weighted e) (nat_lt 0 v) k in omega (arith, r.weight, unweighted_kind e h.0 both.0 x y r.before r.reads, ltb-false 0 v both.1)
  unweighted_kind (union es) h k x y w r = unweighted_any es h k x y w r
  unweighted_kind (concat es) h k x y w r = unweighted_all es h k x y w r
  unweighted_kind (star e) h k x y w r = copies_unweighted (Rel e) (unweighted_kind e h k) r.0 x y w r.1
  unweighted_kind (cross a b) h k x y w r = let both = or_parts (is_weighted a) (is_weighted b) k in omega (arith, r.weight, unweighted_kind a h.0 both.0 x x r.w1 r.first, unweighted_kind b h.1 both.1 y y r.w2 r.second)
  unweighted_kind (compose a b) h k x y w r = let both = or_parts (is_weighted a) (is_weighted b) k in omega (arith, r.weight, unweighted_kind a h.0 both.0 x r.middle r.w1 r.first, unweighted_kind b h.1 both.1 r.middle y r.w2 r.second)
  unweighted_kind (minus a b) h k x y w r = unweighted_kind a h.0 k x y w r.reads
  unweighted_kind (invert e) h k x y w r = unweighted_kind e h k y x w r
  unweighted_kind (project e input_side) h k x y w r = unweighted_kind e h k x r.other w r.reads
  unweighted_kind (project e output_side) h k x y w r = unweighted_kind e h k r.other y w r.reads
  unweighted_kind (rewrite tau left right sigma manner) h k x y w r = rewrites_unweighted (Rel tau) (Rel left) (Rel right) manner (unweighted_kind tau h.0 k) [] x y w r.rewrites

  unweighted_any : (es : Expressions) → MeetKinds es → some_weighted es ≡ false → IsUnweighted (RelAny es)
  unweighted_any no_members h k x y w r = absurd r
  unweighted_any (member e es) h k x y w r = let both = or_parts (is_weighted e) (some_weighted es) k in elim r [ inl s ↦ unweighted_kind e h.0 both.0 x y w s | inr s ↦ unweighted_any es h.1 both.1 x y w s ]

  unweighted_all : (es : Expressions) → MeetKinds es → some_weighted es ≡ false → IsUnweighted (RelAll es)
  unweighted_all no_members h k x y w r = r.weight
  unweighted_all (member e es) h k x y w r = let both = or_parts (is_weighted e) (some_weighted es) k in joined_unweighted (Rel e) (RelAll es) (unweighted_kind e h.0 both.0) (unweighted_all es h.1 both.1) x y w r

-- Marks

bytes_back : (xs ys : List ℕ) → All IsByte (xs ++ ys) → All IsByte ys
bytes_back [] ys h = h
bytes_back (x ∷ xs) ys h = bytes_back xs ys (All-tail IsByte x (xs ++ ys) h)

text_unmarked : (labels : List ℕ) → All IsLabel labels → holds_mark labels ≡ false → All IsByte labels
text_unmarked [] h k = All-nil IsByte
text_unmarked (n ∷ labels) h k =
    let both = or_parts (nat_lt 255 n) (holds_mark labels) k in
    let low = All-head IsLabel n labels h in
    All-cons IsByte n labels (low.0, ltb-false 255 n both.0) (text_unmarked labels (All-tail IsLabel n labels h) both.1)

is_unmarked : (labels : List ℕ) → All IsByte labels → IsUnmarked (Is labels)
is_unmarked labels h x y w r = (All-same IsByte x labels r.input h, All-same IsByte y labels r.output h)

joined_unmarked : (R S : Relation) → IsUnmarked R → IsUnmarked S → IsUnmarked (Joined R S)
joined_unmarked R S f g x y w j =
    let p = f j.x1 j.y1 j.w1 j.first in
    let q = g j.x2 j.y2 j.w2 j.second in
    (All-same IsByte x (j.x1 ++ j.x2) j.input (All-append IsByte j.x1 j.x2 p.0 q.0), All-same IsByte y (j.y1 ++ j.y2) j.output (All-append IsByte j.y1 j.y2 p.1 q.1))

copies_unmarked : (R : Relation) → IsUnmarked R → (n : ℕ) → IsUnmarked (Copies R n)
copies_unmarked R f zero x y w r = is_unmarked [] (All-nil IsByte) x y w r
copies_unmarked R f (suc n) x y w r = joined_unmarked R (Copies R n) f (copies_unmarked R f n) x y w r

-- what was written and is unread holds no mark, and tau writes none
rewrites_unmarked : (tau left right : Relation) (manner : Manner) → IsUnmarked tau → (o r y : List ℕ) (w : ℕ) → Rewrites tau left right manner o r y w → All IsByte o → All IsByte r → All IsByte y
rewrites_unmarked tau left right manner f o r y w stop_here h k = h
rewrites_unmarked tau left right manner f o r y w (copy {r = rest} {c = c} may after) h k =
    rewrites_unmarked tau left right manner f (o ++ c ∷ []) rest y w after (All-push IsByte o c h (All-head IsByte c rest k)) (All-tail IsByte c rest k)
rewrites_unmarked tau left right manner f o r y w (rewritten {u = u} {t = t} {v = v} {c = c} {w1 = w1} {w2 = w2} begins reads after) h k =
    rewrites_unmarked tau left right manner f (o ++ v) t y w2 after (All-append IsByte o v h (f (c ∷ u) v w1 reads).1) (bytes_back (c ∷ u) t (subst (λ z. All IsByte z) begins.parts k))

mutual
  pub unmarked_kind : (e : Expression) → MeetsKinds e → is_marked e ≡ false → IsUnmarked (Rel e)
  unmarked_kind (text labels) h k x y w r = is_unmarked labels (text_unmarked labels h k) x y w r
  unmarked_kind (weighted e v) h k x y w r = unmarked_kind e h.0 k x y r.before r.reads
  unmarked_kind (union es) h k x y w r = unmarked_any es h k x y w r
  unmarked_kind (concat es) h k x y w r = unmarked_all es h k x y w r
  unmarked_kind (star e) h k x y w r = copies_unmarked (Rel e) (unmarked_kind e h k) r.0 x y w r.1
  unmarked_kind (cross a b) h k x y w r = let both = or_parts (is_marked a) (is_marked b) k in ((unmarked_kind a h.0 both.0 x x r.w1 r.first).0, (unmarked_kind b h.1 both.1 y y r.w2 r.second).1)
  unmarked_kind (compose a b) h k x y w r = let both = or_parts (is_marked a) (is_marked b) k in ((unmarked_kind a h.0 both.0 x r.middle r.w1 r.first).0, (unmarked_kind b h.1 both.1 r.middle y r.w2 r.second).1)
  unmarked_kind (minus a b) h k x y w r = let both = or_parts (is_marked a) (is_marked b) k in unmarked_kind a h.0 both.0 x y w r.reads
  unmarked_kind (invert e) h k x y w r = let both = unmarked_kind e h k y x w r in (both.1, both.0)
  unmarked_kind (project e input_side) h k x y w r = let both = unmarked_kind e h k x r.other w r.reads in (both.0, All-same IsByte y x (sym r.same) both.0)
  unmarked_kind (project e output_side) h k x y w r = let both = unmarked_kind e h k r.other y w r.reads in (All-same IsByte x y r.same both.1, both.1)
  unmarked_kind (rewrite tau left right sigma manner) h k x y w r =
      let bytes = (unmarked_kind sigma h.3 h.8 x x r.within.0 r.within.1).0 in
      (bytes, rewrites_unmarked (Rel tau) (Rel left) (Rel right) manner (unmarked_kind tau h.0 h.7) [] x y w r.rewrites (All-nil IsByte) bytes)

  unmarked_any : (es : Expressions) → MeetKinds es → some_marked es ≡ false → IsUnmarked (RelAny es)
  unmarked_any no_members h k x y w r = absurd r
  unmarked_any (member e es) h k x y w r = let both = or_parts (is_marked e) (some_marked es) k in elim r [ inl s ↦ unmarked_kind e h.0 both.0 x y w s | inr s ↦ unmarked_any es h.1 both.1 x y w s ]

  unmarked_all : (es : Expressions) → MeetKinds es → some_marked es ≡ false → IsUnmarked (RelAll es)
  unmarked_all no_members h k x y w r = is_unmarked [] (All-nil IsByte) x y w r
  unmarked_all (member e es) h k x y w r = let both = or_parts (is_marked e) (some_marked es) k in joined_unmarked (Rel e) (RelAll es) (unmarked_kind e h.0 both.0) (unmarked_all es h.1 both.1) x y w r
