use Rattle.std.proofs.Common.{rules, ◌≡◌, ◌∙◌, ◌+◌, ◌++◌, ◌∷◌, [], ℕ, List, length, set, take, ap, arith, append_assoc, length-set}
use Rattle.std.proofs.lemmas.List.{take_more_set}
use Rattle.state_tuples.specs.Positions.{most_parts}
use Rattle.state_tuples.specs.Codes.{key}
use Rattle.state_tuples.proofs.encoding.put_head.Goals as goal

pub returns-clause-head : goal.returns-clause-head
returns-clause-head c =
    let n : ℕ = c.args.width in
    let t = c.args.t.now in
    let f : ℕ = t.filters in
    let a : ℕ = c.end_pair-told.result.0 in
    let b : ℕ = c.end_pair-told.result.1 in
    let xs : List ℕ = c.put_states.new.into in
    let wide : length xs ≡ 2048 = search rules in
    let wide0 : length c.args.into.now ≡ 2048 = search rules in
    let one : List ℕ = set c.args.into.now 0 n in
    let first : take 1 one ≡ n ∷ [] = take_more_set c.args.into.now 0 n (omega arith) in
    let second : take 2 (set one 1 t.cascade) ≡ n ∷ t.cascade ∷ [] = take_more_set one 1 t.cascade (omega (arith, length-set c.args.into.now 0 n)) ∙ ap (λ l. l ++ t.cascade ∷ []) first in
    let states : take (2 + most_parts) xs ≡ n ∷ t.cascade ∷ t.states = c.put_states.ensures.put ∙ ap (λ l. l ++ t.states) second in
    let ys : List ℕ = set xs 6 f in
    let named : take 7 ys ≡ n ∷ key t = take_more_set xs 6 f (omega arith) ∙ ap (λ l. l ++ f ∷ []) states in
    let told : take 8 (set ys 7 a) ≡ (n ∷ key t) ++ a ∷ [] = take_more_set ys 7 a (omega (arith, length-set xs 6 f)) ∙ ap (λ l. l ++ a ∷ []) named in
    take_more_set (set ys 7 a) 8 b (omega (arith, length-set ys 7 a, length-set xs 6 f))
    ∙ (ap (λ l. l ++ b ∷ []) told
    ∙ (append_assoc (n ∷ key t) (a ∷ []) (b ∷ []) ∙ ap (λ l. (n ∷ key t) ++ l) c.end_pair-told.ensures))
