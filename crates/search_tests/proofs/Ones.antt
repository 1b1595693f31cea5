-- Expanders of one cascade.
use Rattle.std.proofs.Common.{◌≡◌, [], ◌∷◌, subst, arith, inl, inr}
use Rattle.std.specs.Prelude.{Contains}
use Rattle.weighted_relations.specs.Machines.{Machine, Reads}
use Rattle.weighted_relations.specs.Relations.{Cascade, Composed, IsUnmarked}
use Rattle.weighted_relations.specs.SearchRunLaws.{contains_first, contains_cases}
use Rattle.state_tuples.specs.declared.tuples.Tuple.{Tuple}
use Rattle.state_tuples.specs.Cascades.{Cascaded, first_tuple}
use Rattle.least_path.specs.Starting.{IsStart, WritesBytes}

pub one_start : (c : Cascaded) (t : Tuple) → t ≡ first_tuple c → IsStart (c ∷ []) t
one_start c t e = (c, record { one = contains_first c []; first = e })

only : (c d : Cascaded) → Contains (c ∷ []) d → d ≡ c
only c d h = elim (contains_cases c [] d h) [ inl k ↦ absurd (omega (arith, k.1)) | inr k ↦ k ]

-- a cascade of one part that writes no marks
pub one_writes : (m : Machine) (c : Cascaded) (t : Tuple) → IsUnmarked (Reads m) → c.parts ≡ m ∷ [] → WritesBytes (c ∷ []) t
one_writes m c t plain parts d s x y w r =
    let own : Cascade Reads c.parts x y w = subst (λ (e : Cascaded). Cascade Reads e.parts x y w) (only c d s.one) r in
    (plain x y w (subst (λ ms. Cascade Reads ms x y w) parts own)).1

-- a cascade of two parts, of which the second writes no marks
pub two_write : (a b : Machine) (c : Cascaded) (t : Tuple) → IsUnmarked (Reads b) → c.parts ≡ a ∷ b ∷ [] → WritesBytes (c ∷ []) t
two_write a b c t plain parts d s x y w r =
    let own : Cascade Reads c.parts x y w = subst (λ (e : Cascaded). Cascade Reads e.parts x y w) (only c d s.one) r in
    let both : Composed (Reads a) (Reads b) x y w = subst (λ ms. Cascade Reads ms x y w) parts own in
    (plain both.middle y both.w2 both.second).1
