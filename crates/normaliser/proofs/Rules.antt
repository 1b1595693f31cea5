-- The rules of two cascades, one after another.
use Rattle.std.proofs.Common.{◌≡◌, ◌+◌, ◌-◌, ◌<◌, ◌≤◌, ℕ, zero, suc, List, [], ◌∷◌, ◌++◌, All, length, take, get_or, slice_get, refl, sym, ap, ◌∙◌, subst, inl, inr, arith}
use Rattle.std.proofs.lemmas.Bool.{cases_lt}
use Rattle.std.proofs.lemmas.List.{take_more}
use Rattle.std.proofs.lemmas.List.Elements.{All-head, All-tail}
use Rattle.weighted_relations.specs.Expressions.{Expression, Rel}
use Rattle.weighted_relations.specs.KindLaws.{unmarked_kind}
use Rattle.weighted_relations.specs.Machines.{Machine, Reads}
use Rattle.weighted_relations.specs.Relations.{Cascade, IsUnmarked, Nothing, Relation, Same}
use Rattle.grammar_build.specs.Empties.{RewritesEmptyText}
use Rattle.state_tuples.specs.Cascades.{Cascaded, first_tuple}
use Rattle.state_tuples.specs.declared.tuples.Tuple.{Tuple}
use Rattle.weighted_relations.specs.RelationLaws.{same_refl, same_trans}
use Rattle.normaliser.specs.Loads.{CanBeBuilt, NoneRewritesEmpty}
use Rattle.normaliser.specs.Cascades.{AreUnmarked, Begins, relation_at}
use Rattle.normaliser.specs.Parts.{AllReadAs, NoneBefore}

-- readings

read_more : (ms : List Machine) (es : List Expression) (m : Machine) (e : Expression) → AllReadAs ms es → Same (Reads m) (Rel e) → AllReadAs (ms ++ m ∷ []) (es ++ e ∷ [])
read_more [] [] m e all one = (one, tt)
read_more [] (f ∷ es) m e all one = absurd all
read_more (n ∷ ms) [] m e all one = absurd all
read_more (n ∷ ms) (f ∷ es) m e all one = (all.0, read_more ms es m e all.1 one)

read_count : (ms : List Machine) (es : List Expression) → AllReadAs ms es → length ms ≡ length es
read_count [] [] all = refl
read_count [] (e ∷ es) all = absurd all
read_count (m ∷ ms) [] all = absurd all
read_count (m ∷ ms) (e ∷ es) all = ap suc (read_count ms es all.1)

-- the readings of the transducers one after another are those of the expressions
cascade_same : (ms : List Machine) (es : List Expression) → AllReadAs ms es → Same (Cascade Reads ms) (Cascade Rel es)
cascade_same [] [] all x y w = (λ h. h, λ h. h)
cascade_same [] (e ∷ es) all x y w = absurd all
cascade_same (m ∷ ms) [] all x y w = absurd all
cascade_same (m ∷ []) (e ∷ []) all x y w = all.0 x y w
cascade_same (m ∷ []) (e ∷ f ∷ es) all x y w = absurd all.1
cascade_same (m ∷ n ∷ ms) (e ∷ []) all x y w = absurd all.1
cascade_same (m ∷ n ∷ ms) (e ∷ f ∷ es) all x y w =
    let rest = cascade_same (n ∷ ms) (f ∷ es) all.1 in (
      λ h. record { middle = h.middle; w1 = h.w1; w2 = h.w2; weight = h.weight; first = (all.0 x h.middle h.w1).0 h.first; second = (rest h.middle y h.w2).0 h.second },
      λ h. record { middle = h.middle; w1 = h.w1; w2 = h.w2; weight = h.weight; first = (all.0 x h.middle h.w1).1 h.first; second = (rest h.middle y h.w2).1 h.second },
    )

cascade_unmarked : (es : List Expression) → All CanBeBuilt es → IsUnmarked (Cascade Rel es)
cascade_unmarked [] all x y w r = absurd r
cascade_unmarked (e ∷ []) all x y w r = let one = All-head CanBeBuilt e [] all in unmarked_kind e one.sound.kinds one.unmarked x y w r
cascade_unmarked (e ∷ f ∷ es) all x y w r =
    let one = All-head CanBeBuilt e (f ∷ es) all in
    ((unmarked_kind e one.sound.kinds one.unmarked x r.middle r.w1 r.first).0, (cascade_unmarked (f ∷ es) (All-tail CanBeBuilt e (f ∷ es) all) r.middle y r.w2 r.second).1)

unmarked_parts : (ms : List Machine) (es : List Expression) → AllReadAs ms es → All CanBeBuilt es → IsUnmarked (Cascade Reads ms)
unmarked_parts ms es all can x y w r = cascade_unmarked es can x y w ((cascade_same ms es all x y w).0 r)

-- one rule more
pub build_step : (es : List Expression) (i : ℕ) (e : Expression) → i < length es → e ≡ get_or es i e → (ms : List Machine) (m : Machine) → AllReadAs ms (take i es) → Same (Reads m) (Rel e) → AllReadAs (ms ++ m ∷ []) (take (i + 1) es)
build_step es i e within there ms m had same = subst (AllReadAs (ms ++ m ∷ [])) (sym (take_more es i e within ∙ ap (λ y. take i es ++ y ∷ []) (sym there))) (read_more ms (take i es) m e had same)

-- two lists, one after another

front_at : {X : Type 0} (xs ys : List X) (k : ℕ) → k < length xs → slice_get (xs ++ ys) k ≡ slice_get xs k
front_at [] ys k l = absurd (let h : k < 0 = l in omega (arith, h))
front_at (x ∷ xs) ys zero l = refl
front_at (x ∷ xs) ys (suc k) l = front_at xs ys k (let h : suc k < suc (length xs) = l in omega (arith, h))

behind_at : {X : Type 0} (xs ys : List X) (k : ℕ) → slice_get (xs ++ ys) (length xs + k) ≡ slice_get ys k
behind_at [] ys k = ap (slice_get ys) (let e : 0 + k ≡ k = omega arith in e)
behind_at (x ∷ xs) ys k = ap (slice_get (x ∷ (xs ++ ys))) (let e : suc (length xs) + k ≡ suc (length xs + k) = omega arith in e) ∙ behind_at xs ys k

module _ (cs vs : List Expression) where
  -- a rule of both lists is one of the first list or one of the second
  none_past : NoneRewritesEmpty cs → (n : ℕ) → NoneBefore RewritesEmptyText vs n → NoneBefore RewritesEmptyText (cs ++ vs) (length cs + n)
  none_past clean n none k e l at reads =
      elim (cases_lt k (length cs)) [
        | inl low ↦ clean k e (sym (front_at cs vs k low) ∙ at) reads
        | inr high ↦ let j = k - length cs in
            let split : length cs + j ≡ k = omega (arith, high) in
            none j e (omega (arith, split, l)) (sym (behind_at cs vs j) ∙ (ap (slice_get (cs ++ vs)) split ∙ at)) reads
      ]

  pub none_of_both : NoneRewritesEmpty cs → NoneRewritesEmpty vs → NoneRewritesEmpty (cs ++ vs)
  none_of_both clean none k e at reads = none_past clean (k + 1) (λ j f l. none j f) k e (omega arith) at reads

pub few_parts : (ms : List Machine) (es : List Expression) (n : ℕ) → AllReadAs ms es → length es ≤ n → length ms ≤ n
few_parts ms es n all few = subst (λ k. k ≤ n) (sym (read_count ms es all)) few

-- relations with the readings of the transducers one after another

-- the parts of a cascade are these transducers
pub same_parts : (ms : List Machine) (c : Cascaded) (n : ℕ) → c ≡ record { number = n; parts = ms } → Same (Cascade Reads c.parts) (Cascade Reads ms)
same_parts ms c n is = subst (λ (d : Cascaded). Same (Cascade Reads d.parts) (Cascade Reads ms)) (sym is) (same_refl (Cascade Reads ms))

-- one that reads nothing is the only part
pub read_nothing : (m : Machine) (parts : List Machine) (n : ℕ) → Same (Reads m) Nothing → parts ≡ m ∷ [] → (c : Cascaded) → c ≡ record { number = n; parts = parts } → Same (Cascade Reads c.parts) Nothing
read_nothing m parts n none is c value = same_trans (Cascade Reads c.parts) (Cascade Reads parts) Nothing (same_parts parts c n value) (subst (λ l. Same (Cascade Reads l) Nothing) (sym is) none)

module _ (es : List Expression) (ms : List Machine) (R : Relation) (is : Same R (Cascade Reads ms)) (all : AllReadAs ms es) where
  pub parts_same : Same R (Cascade Rel es)
  parts_same = same_trans R (Cascade Reads ms) (Cascade Rel es) is (cascade_same ms es all)

  pub parts_unmarked : All CanBeBuilt es → IsUnmarked R
  parts_unmarked can x y w r = unmarked_parts ms es all can x y w ((is x y w).0 r)

-- the relations of two cascades that are the whole of a list

module _ (cs : List Cascaded) (a b : Cascaded) (is : cs ≡ a ∷ b ∷ []) where
  pub first_same : Same (relation_at 0 cs) (Cascade Reads a.parts)
  first_same = subst (λ l. Same (relation_at 0 l) (Cascade Reads a.parts)) (sym is) (same_refl (Cascade Reads a.parts))

  pub second_same : Same (relation_at 1 cs) (Cascade Reads b.parts)
  second_same = subst (λ l. Same (relation_at 1 l) (Cascade Reads b.parts)) (sym is) (same_refl (Cascade Reads b.parts))

  pub both_unmarked : IsUnmarked (Cascade Reads a.parts) → IsUnmarked (Cascade Reads b.parts) → AreUnmarked cs
  both_unmarked p q = subst AreUnmarked (sym is) (record { classifier = p; verbaliser = q })

  pub first_begins : (t : Tuple) → t ≡ first_tuple a → Begins cs 0 t
  first_begins t e = subst (λ l. Begins l 0 t) (sym is) e

  pub second_begins : (t : Tuple) → t ≡ first_tuple b → Begins cs 1 t
  second_begins t e = subst (λ l. Begins l 1 t) (sym is) e
