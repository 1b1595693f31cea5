use Rattle.std.proofs.Common.{ap, ◌∙◌, ◌++◌}
use Rattle.std.specs.List.{filter_map}
use Rattle.compose_filter.specs.Combinations.{first_alone, second_alone, all_joint}
use Rattle.compose_filter.proofs.matches.all_moves.Goals as goal

pub returns : goal.returns
returns c =
    let left = c.args.left.now in
    let row = c.args.row.now in
    let joint = all_joint left row in
    let firsts = filter_map (first_alone c.args.qb c.args.f) left in
    let seconds = filter_map (second_alone c.args.qa) row in
    record {
      exact =
          c.in_ok-add_second.ensures.moves
          ∙ ap (λ t. t ++ seconds) (c.in_ok-add_first.ensures.moves ∙ ap (λ t. t ++ firsts) (c.in_ok-add_both.ensures.moves ∙ ap (λ t. t ++ joint) c.new-all.ensures.items));
    }
