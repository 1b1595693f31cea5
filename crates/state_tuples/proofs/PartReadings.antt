-- Composed paths have the readings of the parts, one after another.
use Rattle.std.specs.Prelude.{◌≡◌, ◌<◌, ℕ, zero, suc, ◌+◌, List, [], ◌∷◌, ◌++◌, get_or, length}
use Rattle.std.proofs.Common.{refl, sym, ap, subst, arith}
use Rattle.weighted_relations.specs.Relations.{Relation, Same, Nothing, Composed, Cascade}
use Rattle.weighted_relations.specs.RelationLaws.{same_refl, same_trans, same_composed}
use Rattle.weighted_relations.specs.Machines.{Machine, Reads}
use Rattle.compose_filter.specs.ComposedPaths.{Combination, ComposedPath, Matched, one, more, starts, all_open}
use Rattle.compose_filter.proofs.Law.{one_to_one}
use Rattle.state_tuples.specs.Positions.{back}
use Rattle.state_tuples.specs.Cascades.{no_part}

-- the readings of the parts from the last to the first, grouped from the left
abbrev Chain : List Machine → Relation
Chain [] = Nothing
Chain (m ∷ []) = Reads m
Chain (m ∷ n ∷ ms) = Composed (Chain (n ∷ ms)) (Reads m)

chain_of : (ms : List Machine) {ps : List (List ℕ)} {x y : List ℕ} {w : ℕ} → Matched ms (starts ms) ps x y w → Chain ms x y w
chain_of [] h = elim h [ ]
chain_of (m ∷ []) (one {ks} p) = (ks, p)
chain_of (m ∷ []) (more h p) = elim h [ ]
chain_of (m ∷ n ∷ ms) (more {w} {v} {ks} {z} h p) = record { middle = z; w1 = w; w2 = v; weight = refl; first = chain_of (n ∷ ms) h; second = (ks, p) }

paths_of : (ms : List Machine) {x y : List ℕ} {w : ℕ} → Chain ms x y w → (ps : List (List ℕ)) × Matched ms (starts ms) ps x y w
paths_of [] h = absurd h
paths_of (m ∷ []) h = (h.0 ∷ [], one h.1)
paths_of (m ∷ n ∷ ms) {x} {y} h =
    let r = paths_of (n ∷ ms) h.first in
    (h.second.0 ∷ r.0, subst (λ t. Matched (m ∷ n ∷ ms) (starts (m ∷ n ∷ ms)) (h.second.0 ∷ r.0) x y t) (sym h.weight) (more r.1 h.second.1))

-- the readings of the composed paths from the start
abbrev pub ComposedReads : List Machine → Relation
ComposedReads ms x y w = (cs : List Combination) × ComposedPath ms (starts ms) (all_open ms) cs x y w

composed_is_chain : (ms : List Machine) → Same (ComposedReads ms) (Chain ms)
composed_is_chain ms x y w = (
  λ c. chain_of ms ((one_to_one ms).sound c.0 x y w c.1),
  λ h.
      let p = paths_of ms h in
      let f = (one_to_one ms).found p.0 x y w p.1 in
      (f.0, f.1),
)

regroup : (R S T : Relation) → Same (Composed (Composed R S) T) (Composed R (Composed S T))
regroup R S T x y w = (
  λ h.
      let f = h.first in
      let e : w ≡ f.w1 + (f.w2 + h.w2) = (let a = h.weight in let b = f.weight in omega arith) in
      let rest : Composed S T f.middle y (f.w2 + h.w2) = record { middle = h.middle; w1 = f.w2; w2 = h.w2; weight = refl; first = f.second; second = h.second } in
      record { middle = f.middle; w1 = f.w1; w2 = f.w2 + h.w2; weight = e; first = f.first; second = rest },
  λ h.
      let s = h.second in
      let e : w ≡ (h.w1 + s.w1) + s.w2 = (let a = h.weight in let b = s.weight in omega arith) in
      let rest : Composed R S x s.middle (h.w1 + s.w1) = record { middle = h.middle; w1 = h.w1; w2 = s.w1; weight = refl; first = h.first; second = s.first } in
      record { middle = s.middle; w1 = h.w1 + s.w1; w2 = s.w2; weight = e; first = rest; second = s.second },
)

-- a part in front of others
chain_first : (a m : Machine) (ms : List Machine) → Same (Chain (m ∷ ms ++ a ∷ [])) (Composed (Reads a) (Chain (m ∷ ms)))
chain_first a m [] = same_refl (Chain (m ∷ a ∷ []))
chain_first a m (n ∷ ms) =
    let T = Reads m in
    same_trans _ _ _ (same_composed _ _ _ _ (chain_first a n ms) (same_refl T)) (regroup (Reads a) (Chain (n ∷ ms)) T)

back_first : {X : Type 0} (d a : X) (xs : List X) (k : ℕ) → back d (a ∷ xs) (suc k) ≡ back d xs k ++ a ∷ []
back_first d a xs zero = refl
back_first d a xs (suc k) = ap (λ t. get_or xs k d ∷ t) (back_first d a xs k)

chain_is_cascade : (a : Machine) (rest : List Machine) → Same (Chain (back no_part (a ∷ rest) (suc (length rest)))) (Cascade Reads (a ∷ rest))
chain_is_cascade a [] = same_refl (Reads a)
chain_is_cascade a (b ∷ rest) =
    let last = get_or (b ∷ rest) (length rest) no_part in
    let before = back no_part (b ∷ rest) (length rest) in
    let rest_same = same_composed _ _ _ _ (same_refl (Reads a)) (chain_is_cascade b rest) in
    let whole = same_trans _ _ _ (chain_first a last before) rest_same in
    subst (λ ms. Same (Chain ms) (Cascade Reads (a ∷ b ∷ rest))) (sym (back_first no_part a (b ∷ rest) (suc (length rest)))) whole

pub composed_is_cascade : (parts : List Machine) → 0 < length parts → Same (ComposedReads (back no_part parts (length parts))) (Cascade Reads parts)
composed_is_cascade [] l = absurd (omega arith)
composed_is_cascade (a ∷ rest) l = same_trans _ _ _ (composed_is_chain (back no_part (a ∷ rest) (suc (length rest)))) (chain_is_cascade a rest)
