use Rattle.std.proofs.Common.{sym, subst, get_or, [], ◌≡◌}
use Rattle.std.proofs.lemmas.Result.{on_ok_weaker}
use Rattle.lexicon_trees.specs.Shapes.{IsOrdered}
use Rattle.lexicon_trees.proofs.Walks.{row_there, branch_ended, round_ended}
use Rattle.lexicon_trees.proofs.trees.Tree.end_again.Goals as goal

pub find-requires : goal.find-requires
find-requires c =
    let row : c.deref.result.now ≡ get_or c.args.self.now.arcs c.args.state [] = row_there c.self.inside.arcs.items c.self.inside.finals.items c.args.self.now c.args.state c.index.result.now c.deref.result.now c.self.view_is c.requires.state c.index.ensures c.deref.ensures.value in
    record { ordered = subst IsOrdered (sym row) (c.requires.tree.ordered c.args.state) }

pub returns-in-Ok : goal.returns-in-Ok
returns-in-Ok c =
    let row : c.deref.result.now ≡ get_or c.args.self.now.arcs c.args.state [] = row_there c.self.inside.arcs.items c.self.inside.finals.items c.args.self.now c.args.state c.index.result.now c.deref.result.now c.self.view_is c.requires.state c.index.ensures c.deref.ensures.value in
    on_ok_weaker c.lead_round.result (λ e. round_ended c.args.self.now c.lead_round.new.self c.args.state c.args.weight c.len.result c.in-Ok.field-0 c.deref.result.now c.requires.tree c.requires.state c.len.ensures row c.in-Ok.ensures.found e) c.lead_round.ensures.value

pub returns-in-Err : goal.returns-in-Err
returns-in-Err c =
    let row : c.deref.result.now ≡ get_or c.args.self.now.arcs c.args.state [] = row_there c.self.inside.arcs.items c.self.inside.finals.items c.args.self.now c.args.state c.index.result.now c.deref.result.now c.self.view_is c.requires.state c.index.ensures c.deref.ensures.value in
    on_ok_weaker c.branch-self.result (λ e. branch_ended c.args.self.now c.branch-self.new.self c.args.state c.args.weight c.len.result c.in-Err.place c.deref.result.now c.requires.tree c.requires.state c.len.ensures row c.in-Err.ensures.found e) c.branch-self.ensures.value
