use Rattle.std.proofs.Common.{◌∙◌, ◌++◌, sym, ap}
use Rattle.std.specs.List.{filter_map}
use Rattle.state_tuples.specs.Stages.{alone_arc}
use Rattle.state_tuples.proofs.Staged.{first_stage}
use Rattle.state_tuples.proofs.stages.first_part.Goals as goal

pub returns : goal.returns
returns c =
    let a = c.args in
    c.in_ok-add_alone.ensures
    ∙ (ap (λ t. t ++ filter_map (alone_arc a.asked) c.asked_of.result.now) c.requires.empty
    ∙ (c.asked_of.ensures
    ∙ (ap (filter_map (alone_arc a.asked)) c.row-row.ensures
    ∙ sym (first_stage a.cascade.now a.t.now a.asked))))
