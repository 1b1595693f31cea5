use Rattle.std.proofs.Common.{◌≡◌, ◌+◌, ◌*◌, ◌^◌, ◌<◌, ◌∙◌, ◌++◌, suc, sym, subst, ap, get_or, All, List, arith}
use Rattle.std.specs.List.{filter_map}
use Rattle.std.proofs.lemmas.List.Elements.{All-weaker}
use Rattle.weighted_relations.specs.declared.Arc.{Arc}
use Rattle.state_tuples.specs.declared.tuples.TupleArc.{TupleArc}
use Rattle.state_tuples.specs.Positions.{filter_at}
use Rattle.state_tuples.specs.Cascades.{no_part}
use Rattle.state_tuples.specs.Stages.{stage, row_of, stayed, entering, all_joined, all_entered}
use Rattle.state_tuples.proofs.Staged.{IsLight, light_row, stage_light, next_stage}
use Rattle.state_tuples.proofs.stages.next_part.Goals as goal

pub add_both-requires-clause-fits : goal.add_both-requires-clause-fits
add_both-requires-clause-fits c =
    let a = c.args in
    let few = c.requires.sound.few in
    let more = c.requires.more in
    let m = get_or a.cascade.now.parts (a.k + 1) no_part in
    let q = get_or a.t.now.states (a.k + 1) 0 in
    let row : All IsLight c.row-row.result.now = subst (All IsLight) (sym c.row-row.ensures) (light_row m q (c.requires.sound.parts (a.k + 1) no_part more)) in
    let left = stage a.cascade.now a.t.now a.asked a.k in
    let light : All (λ (x : TupleArc). x.weight < 2 ^ 63) left
    = All-weaker (λ (x : TupleArc). x.weight < suc a.k * 2 ^ 54) (λ (x : TupleArc). x.weight < 2 ^ 63) (λ x w. omega arith) left (stage_light a.cascade.now a.t.now a.asked a.k c.requires.sound (omega arith)) in
    All-weaker (λ (x : TupleArc). x.weight < 2 ^ 63) (λ (x : TupleArc). All (λ (y : Arc). x.weight + y.weight < 2 ^ 64) c.row-row.result.now)
    (λ x w. All-weaker IsLight (λ (y : Arc). x.weight + y.weight < 2 ^ 64) (λ y v. omega arith) c.row-row.result.now row) a.before.now (subst (All (λ (x : TupleArc). x.weight < 2 ^ 63)) (sym c.requires.stage) light)

pub returns : goal.returns
returns c =
    let a = c.args in
    let v = a.cascade.now in
    let t = a.t.now in
    let k = a.k in
    let before = a.before.now in
    let row = c.row-row.result.now in
    let place = k + 1 in
    let n : suc k ≡ place = omega arith in
    let q = get_or t.states place 0 in
    let f = filter_at t.filters k in
    let done : c.add_entered.new.all.items ≡ (all_joined place before row ++ filter_map (stayed place q f) before) ++ all_entered a.asked place (entering t k) row
    = c.in_ok-add_entered.ensures
    ∙ ap (λ xs. xs ++ all_entered a.asked place (entering t k) row) (c.in_ok-add_first.ensures.moves
    ∙ (ap (λ g. c.add_both.new.all.items ++ filter_map (stayed place q g) before) c.filter_of.ensures
    ∙ ap (λ xs. xs ++ filter_map (stayed place q f) before) (c.in_ok-add_both.ensures.moves ∙ ap (λ xs. xs ++ all_joined place before row) c.requires.empty))) in
    let from : List TupleArc → List Arc → List TupleArc = λ xs ys. (all_joined place xs ys ++ filter_map (stayed place q f) xs) ++ all_entered a.asked place (entering t k) ys in
    let next = subst (λ j. stage v t a.asked j ≡ (all_joined j (stage v t a.asked k) (row_of v t j) ++ filter_map (stayed j (get_or t.states j 0) f) (stage v t a.asked k)) ++ all_entered a.asked j (entering t k) (row_of v t j)) n (next_stage v t a.asked k c.requires.sound (omega (arith, c.requires.more))) in
    done ∙ (ap (λ xs. from xs row) c.requires.stage ∙ (ap (from (stage v t a.asked k)) c.row-row.ensures ∙ sym next))
