use Rattle.std.proofs.Common.{sym, subst, get_or, [], ◌≡◌}
use Rattle.lexicon_trees.specs.Shapes.{IsOrdered}
use Rattle.lexicon_trees.proofs.Walks.{row_there, found_led, branch_led}
use Rattle.lexicon_trees.proofs.trees.Tree.step.Goals as goal

pub find-requires : goal.find-requires
find-requires c =
    let row : c.deref.result.now ≡ get_or c.args.self.now.arcs c.args.state [] = row_there c.self.inside.arcs.items c.self.inside.finals.items c.args.self.now c.args.state c.index.result.now c.deref.result.now c.self.view_is c.requires.state c.index.ensures c.deref.ensures.value in
    record { ordered = subst IsOrdered (sym row) (c.requires.tree.ordered c.args.state) }

pub returns-in-Ok : goal.returns-in-Ok
returns-in-Ok c = found_led c.args.self.now c.args.state c.args.input c.args.output c.in-Ok.next c.deref.result.now c.requires.tree (row_there c.self.inside.arcs.items c.self.inside.finals.items c.args.self.now c.args.state c.index.result.now c.deref.result.now c.self.view_is c.requires.state c.index.ensures c.deref.ensures.value) c.in-Ok.ensures.found

pub returns-in_ok-branch-in-Err : goal.returns-in_ok-branch-in-Err
returns-in_ok-branch-in-Err c = branch_led c.args.self.now c.branch-self.new.self c.args.state c.args.input c.args.output c.len-next.result c.in-Err.place c.deref.result.now c.requires.tree c.requires.state c.requires.input c.requires.output c.len-next.ensures (row_there c.self.inside.arcs.items c.self.inside.finals.items c.args.self.now c.args.state c.index.result.now c.deref.result.now c.self.view_is c.requires.state c.index.ensures c.deref.ensures.value) c.in-Err.ensures.found c.in_ok-branch-in-Err.ensures.value
