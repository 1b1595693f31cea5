use Rattle.std.proofs.Common.{rules, ◌≡◌, ◌∙◌, ◌+◌, ◌∷◌, ◌++◌, ℕ, List, [], length, set, sym, take, get_or, ap, arith, length-set}
use Rattle.std.proofs.lemmas.List.{take_all, take_more, take_more_set}
use Rattle.state_tuples.specs.Positions.{most_parts}
use Rattle.state_tuples.proofs.encoding.key_of.Goals as goal

pub loop-k-preserved : goal.loop-k-preserved
loop-k-preserved c =
    let k : ℕ = c.loop-k.k in
    let states : List ℕ = c.args.t.now.states in
    let words : List ℕ = c.loop-k.words in
    let wide = c.loop-k.invariant.0 in
    let many : length states ≡ most_parts = search rules in (
      length-set words (k + 1) (get_or states k 0) ∙ wide,
      take_more_set words (k + 1) (get_or states k 0) (omega arith)
          ∙ (ap (λ l. l ++ get_or states k 0 ∷ []) c.loop-k.invariant.1
          ∙ ap (λ l. c.args.t.now.cascade ∷ l) (sym (take_more states k 0 (omega arith)))),
    )

pub returns-clause-value : goal.returns-clause-value
returns-clause-value c =
    let states : List ℕ = c.args.t.now.states in
    let words : List ℕ = c.loop-k.words in
    let wide = c.loop-k.invariant.0 in
    let many : length states ≡ most_parts = search rules in
    let f : ℕ = c.args.t.now.filters in
    sym (take_all (most_parts + 2) (set words (most_parts + 1) f) (omega (arith, length-set words (most_parts + 1) f)))
    ∙ (take_more_set words (most_parts + 1) f (omega arith)
    ∙ (ap (λ (n : ℕ). take (n + 1) words ++ f ∷ []) (let e : most_parts ≡ c.loop-k.k = omega arith in e)
    ∙ (ap (λ l. l ++ f ∷ []) c.loop-k.invariant.1
    ∙ ap (λ l. c.args.t.now.cascade ∷ (l ++ f ∷ [])) (take_all c.loop-k.k states (omega arith)))))
