-- Laws of expressions and of transducers that have their readings.
use Rattle.std.specs.Prelude.{ℕ, zero, suc, ◌<◌, List, [], ◌∷◌, ◌++◌, length, map, get_or}
use Rattle.std.proofs.Common.{inl, inr, arith}
use Rattle.weighted_relations.specs.Machines.{Machine, Reads}
use Rattle.weighted_relations.specs.Relations.{Relation, Same, AnyOf, AllOf, Is}
use Rattle.weighted_relations.specs.RelationLaws.{same_refl, same_joined, same_inputs, same_outputs}
use Rattle.weighted_relations.specs.Expressions.{Expression, Side, input_side, output_side, Projected, members, Rel, RelAny, RelAll, MeetsKinds, MeetKinds}

pub same_projected : (side : Side) (R S : Relation) → Same R S → Same (Projected side R) (Projected side S)
same_projected input_side = same_inputs
same_projected output_side = same_outputs

-- each transducer has the readings of the expression at its place
abbrev pub Alike : List Machine → List Expression → Type 0
Alike [] [] = Unit {0}
Alike [] (e ∷ es) = ⊥
Alike (m ∷ ms) [] = ⊥
Alike (m ∷ ms) (e ∷ es) = Same (Reads m) (Rel e) × Alike ms es

pub alike_push : (ms : List Machine) (es : List Expression) (m : Machine) (e : Expression) → Alike ms es → Same (Reads m) (Rel e) → Alike (ms ++ m ∷ []) (es ++ e ∷ [])
alike_push [] [] m e h f = (f, tt)
alike_push [] (u ∷ us) m e h f = absurd h
alike_push (n ∷ ns) [] m e h f = absurd h
alike_push (n ∷ ns) (u ∷ us) m e h f = (h.0, alike_push ns us m e h.1 f)

pub alike_any : (ms : List Machine) (es : List Expression) → Alike ms es → Same (AnyOf Reads ms) (RelAny (members es))
alike_any [] [] h = λ x y w. (λ k. k, λ k. k)
alike_any [] (u ∷ us) h = absurd h
alike_any (n ∷ ns) [] h = absurd h
alike_any (n ∷ ns) (u ∷ us) h = λ x y w.
    let f = h.0 x y w in
    let g = alike_any ns us h.1 x y w in
    (elim [ inl k ↦ inl (f.0 k) | inr k ↦ inr (g.0 k) ], elim [ inl k ↦ inl (f.1 k) | inr k ↦ inr (g.1 k) ])

pub alike_all : (ms : List Machine) (es : List Expression) → Alike ms es → Same (AllOf Reads ms) (RelAll (members es))
alike_all [] [] h = same_refl (Is [])
alike_all [] (u ∷ us) h = absurd h
alike_all (n ∷ ns) [] h = absurd h
alike_all (n ∷ ns) (u ∷ us) h = same_joined (Reads n) (AllOf Reads ns) (Rel u) (RelAll (members us)) h.0 (alike_all ns us h.1)

-- a member of a list that meets the rules meets them
pub kinds_at : {A : Type 0} (f : A → Expression) (xs : List A) (i : ℕ) (d : A) → i < length xs → MeetKinds (members (map f xs)) → MeetsKinds (f (get_or xs i d))
kinds_at f [] i d l h = absurd (omega (arith, l))
kinds_at f (x ∷ xs) zero d l h = h.0
kinds_at f (x ∷ xs) (suc i) d l h = kinds_at f xs i d (omega (arith, l)) h.1
