-- Relations with the same readings serve alike.
use Rattle.std.proofs.Common.{ℕ, List, [], ◌∷◌, ◌++◌, sym, subst}
use Rattle.std.specs.Prelude.{reverse}
use Rattle.std.proofs.lemmas.List.{reverse-reverse}
use Rattle.weighted_relations.specs.Relations.{Relation, Same, IsInput, IsUnmarked, Reversed}
use Rattle.weighted_relations.specs.RelationLaws.{same_sym, same_trans, same_reversed, same_accepts}
use Rattle.weighted_relations.specs.Rewriting.{Manner, obligatory, optional, Begins, MayCopy, Rewrites, stop_here, copy, rewrite, Rewritten}

pub input_to : (R S : Relation) → Same R S → (x : List ℕ) → IsInput R x → IsInput S x
input_to R S f x h = (h.0, h.1, (f x h.0 h.1).0 h.2)

module _ (tau left right tau' left' right' : Relation) (same_tau : Same tau tau') (same_left : Same left left') (same_right : Same right right') where
  begins_to : (o r : List ℕ) (c : ℕ) (u t : List ℕ) → Begins tau left right o r c u t → Begins tau' left' right' o r c u t
  begins_to o r c u t h = record {
    parts = h.parts;
    input = input_to tau tau' same_tau (c ∷ u) h.input;
    ends = record { front = h.ends.front; back = h.ends.back; parts = h.ends.parts; accepted = (same_accepts left left' same_left h.ends.back).0 h.ends.accepted };
    starts = record { front = h.starts.front; back = h.starts.back; parts = h.starts.parts; accepted = (same_accepts right right' same_right h.starts.front).0 h.starts.accepted };
  }

  begins_from : (o r : List ℕ) (c : ℕ) (u t : List ℕ) → Begins tau' left' right' o r c u t → Begins tau left right o r c u t
  begins_from o r c u t h = record {
    parts = h.parts;
    input = input_to tau' tau (same_sym tau tau' same_tau) (c ∷ u) h.input;
    ends = record { front = h.ends.front; back = h.ends.back; parts = h.ends.parts; accepted = (same_accepts left left' same_left h.ends.back).1 h.ends.accepted };
    starts = record { front = h.starts.front; back = h.starts.back; parts = h.starts.parts; accepted = (same_accepts right right' same_right h.starts.front).1 h.starts.accepted };
  }

  may_to : (manner : Manner) (o r : List ℕ) → MayCopy tau left right manner o r → MayCopy tau' left' right' manner o r
  may_to optional o r h = tt
  may_to obligatory o r h = λ c u t b. h c u t (begins_from o r c u t b)

  rewrites_to : (manner : Manner) (o r y : List ℕ) (w : ℕ) → Rewrites tau left right manner o r y w → Rewrites tau' left' right' manner o r y w
  rewrites_to manner o r y w stop_here = stop_here
  rewrites_to manner o r y w (copy {o = from} {r = rest} {c = c} may after) = copy (may_to manner from (c ∷ rest) may) (rewrites_to manner (from ++ c ∷ []) rest y w after)
  rewrites_to manner o r y w (rewrite {o = from} {r = unread} {u = u} {t = t} {v = v} {c = c} {w1 = w1} {w2 = w2} begins reads after) =
      rewrite (begins_to from unread c u t begins) ((same_tau (c ∷ u) v w1).0 reads) (rewrites_to manner (from ++ v) t y w2 after)

pub rewritten_to : (tau left right sigma tau' left' right' sigma' : Relation) (manner : Manner) → Same tau tau' → Same left left' → Same right right' → Same sigma sigma' → (x y : List ℕ) (w : ℕ) → Rewritten tau left right sigma manner x y w → Rewritten tau' left' right' sigma' manner x y w
rewritten_to tau left right sigma tau' left' right' sigma' manner f g h k x y w j = record {
  within = (same_accepts sigma sigma' k x).0 j.within;
  rewrites = rewrites_to tau left right tau' left' right' f g h manner [] x y w j.rewrites;
}

pub same_rewritten : (tau left right sigma tau' left' right' sigma' : Relation) (manner : Manner) → Same tau tau' → Same left left' → Same right right' → Same sigma sigma' → Same (Rewritten tau left right sigma manner) (Rewritten tau' left' right' sigma' manner)
same_rewritten tau left right sigma tau' left' right' sigma' manner f g h k x y w = (
  rewritten_to tau left right sigma tau' left' right' sigma' manner f g h k x y w,
  rewritten_to tau' left' right' sigma' tau left right sigma manner (same_sym tau tau' f) (same_sym left left' g) (same_sym right right' h) (same_sym sigma sigma' k) x y w,
)

pub unmarked_to : (R S : Relation) → Same R S → IsUnmarked R → IsUnmarked S
unmarked_to R S f h x y w r = h x y w ((f x y w).1 r)

reversed_twice : (R : Relation) → Same (Reversed (Reversed R)) R
reversed_twice R x y w = (
  λ h. subst (λ v. R x v w) (reverse-reverse y) (subst (λ v. R v (reverse (reverse y)) w) (reverse-reverse x) h),
  λ h. subst (λ v. R v (reverse (reverse y)) w) (sym (reverse-reverse x)) (subst (λ v. R x v w) (sym (reverse-reverse y)) h),
)

-- what is turned round, listed, and turned round again
pub turned_twice : (R back tree listed m : Relation) → Same back (Reversed R) → Same back listed → Same tree listed → Same m (Reversed tree) → Same m R
turned_twice R back tree listed m turned f g again =
    let same : Same tree (Reversed R) = same_trans tree listed (Reversed R) g (same_trans listed back (Reversed R) (same_sym back listed f) turned) in
    same_trans m (Reversed tree) R again (same_trans (Reversed tree) (Reversed (Reversed R)) R (same_reversed tree (Reversed R) same) (reversed_twice R))
