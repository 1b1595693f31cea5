use Rattle.std.proofs.Common.{◌≡◌, ◌+◌, ◌<◌, ◌^◌, ◌++◌, sym, subst, All, take, [], ap, ◌∙◌, arith}
use Rattle.std.specs.List.{filter_map}
use Rattle.std.proofs.lemmas.List.{append-nil}
use Rattle.weighted_relations.specs.declared.Arc.{Arc}
use Rattle.compose_filter.specs.Steps.{both_step, both_steps}
use Rattle.fst_core.proofs.Loops.{joined_more}
use Rattle.compose_filter.proofs.Readers.{all_within, readers_give, both_off, both_none}
use Rattle.compose_filter.proofs.steps.add_both.Goals as goal
use Rattle.compose_filter.proofs.steps.add_both.Goals.{then-s-ne0+in_ok-add_readers, else-s-ne0}

pub add_readers-requires : goal.add_readers-requires
add_readers-requires g c =
    let x = c.x-item.result in
    let row = c.args.row.now in
    let fits = subst (λ z. All (λ (y : Arc). (g.J.Joining.step z).weight + y.weight < 2 ^ 64) row) (sym c.x-item.is) (c.requires.fits c.loop-x.x-index x c.loop-x-test.true) in
    record {
      ready = c.requires.ready;
      fits = all_within (λ (y : Arc). (g.J.Joining.step x).weight + y.weight < 2 ^ 64) row c.label_readers.result.now fits c.label_readers.ensures.within;
    }

pub loop-x-preserved : goal.loop-x-preserved
loop-x-preserved g c =
    let left = c.args.left.now in
    let row = c.args.row.now in
    let i = c.loop-x.x-index in
    let x = c.x-item.result in
    let step = g.J.Joining.step in
    let pair = g.J.Joining.pair c.args.joining.now in
    let made = g.J.Joining.made in
    let old = c.args.all.now.items in
    let before = old ++ both_steps step pair made (take i left) row in
    let more : old ++ both_steps step pair made (take (i + 1) left) row ≡ before ++ filter_map (both_step step pair made x) row = joined_more (λ z. filter_map (both_step step pair made z) row) left i x old c.loop-x-test.true ∙ ap (λ z. before ++ filter_map (both_step step pair made z) row) (sym c.x-item.is) in
    elim c.if-s-ne0.branch [
      | then-s-ne0+in_ok-add_readers w ↦
          let items = w.in_ok-add_readers.ensures in
          let label : c.step-s.result.output ≡ (step x).output = ap (λ s. s.output) c.step-s.ensures in
          let whole : filter_map (both_step step pair made x) w.label_readers.result.now ≡ filter_map (both_step step pair made x) row = readers_give c.step-s.result.output row w.label_readers.result.now w.label_readers.ensures (both_step step pair made x) (λ y off. both_off step pair made x y (λ e. off (e ∙ sym label))) in
          cc
      | else-s-ne0 w ↦
          let writes_none : c.step-s.result.output ≡ 0 = omega (arith, w.if-s-ne0.false) in
          let none : filter_map (both_step step pair made x) row ≡ [] = both_none step pair made x row (ap (λ s. s.output) (sym c.step-s.ensures) ∙ writes_none) in
          let same : old ++ both_steps step pair made (take (i + 1) left) row ≡ before = more ∙ (ap (λ t. before ++ t) none ∙ append-nil before) in
          cc
    ]
