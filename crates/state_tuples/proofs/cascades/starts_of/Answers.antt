use Rattle.std.proofs.Common.{◌≡◌, ◌+◌, ◌∙◌, suc, sym, subst, ap, set, get_or, arith}
use Rattle.compose_filter.specs.ComposedPaths.{starts}
use Rattle.std.proofs.lemmas.List.{get_or_default}
use Rattle.state_tuples.specs.Positions.{back, padded}
use Rattle.state_tuples.specs.Cascades.{no_part}
use Rattle.state_tuples.proofs.Padded.{starts_more}
use Rattle.state_tuples.proofs.cascades.starts_of.Goals as goal

pub loop-k-preserved : goal.loop-k-preserved
loop-k-preserved c =
    let parts = c.args.parts.now in
    let k = c.loop-k.k in
    let part = c.index-parts-k.result in
    let n : suc k ≡ k + 1 = omega arith in
    let is : part ≡ get_or parts k no_part = c.index-parts-k.is ∙ get_or_default parts k part no_part c.loop-k-test.true in
    let first : c.start.result ≡ (get_or parts k no_part).start = c.start.ensures.value ∙ ap (λ m. m.start) is in
    subst (λ j. set c.loop-k.states k c.start.result ≡ padded (starts (back no_part parts j))) n
    (ap (λ t. set t k c.start.result) c.loop-k.invariant ∙ (ap (set (padded (starts (back no_part parts k))) k) first ∙ sym (starts_more parts k)))
