use Rattle.std.proofs.Common.{◌≡◌, sym, subst}
use Rattle.std.specs.List.{filter_map}
use Rattle.state_tuples.specs.declared.joins.Asked.{Asked}
use Rattle.state_tuples.specs.declared.joins.Asked.TheVariants.{Only}
use Rattle.state_tuples.specs.Stages.{alone_arc}
use Rattle.compose_filter.proofs.Readers.{readers_give}
use Rattle.state_tuples.proofs.Staged.{alone_off}
use Rattle.state_tuples.proofs.stages.asked_of.Goals as goal

pub returns-in-Only : goal.returns-in-Only
returns-in-Only c =
    let row = c.args.row.now in
    let label = c.in-Only.label in
    let part = c.label_readers.result.now in
    subst (λ (a : Asked). filter_map (alone_arc a) part ≡ filter_map (alone_arc a) row) (sym c.in-Only.is) (readers_give label row part c.label_readers.ensures (alone_arc (Only label)) (alone_off label))
