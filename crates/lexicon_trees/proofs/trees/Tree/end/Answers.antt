use Rattle.std.proofs.Common.{sym, ap, subst, set, Some, ◌≡◌, ◌∙◌}
use Rattle.weighted_relations.specs.Machines.{final_of}
use Rattle.fst_core.specs.States.{States}
use Rattle.lexicon_trees.specs.Growing.{Ended}
use Rattle.lexicon_trees.proofs.RowsHeld.{rows_of}
use Rattle.lexicon_trees.proofs.Walks.{final_there, ended_same, ended_first}
use Rattle.lexicon_trees.proofs.trees.Tree.end.Goals as goal

pub returns-then-last-weight : goal.returns-then-last-weight
returns-then-last-weight c =
    let is : final_of c.args.self.now.finals c.args.state ≡ c.index.result.now = final_there (rows_of c.self.inside.arcs.items) c.self.inside.finals.items c.args.self.now c.args.state c.index.result.now c.self.view_is c.requires.tree.ends c.requires.state c.index.ensures in
    ended_same c.args.self.now c.args.state c.args.weight c.requires.tree (is ∙ c.in-Some.is ∙ ap Some c.if-last-weight.true)

pub returns-in-None : goal.returns-in-None
returns-in-None c =
    let is : final_of c.args.self.now.finals c.args.state ≡ c.index.result.now = final_there (rows_of c.self.inside.arcs.items) c.self.inside.finals.items c.args.self.now c.args.state c.index.result.now c.self.view_is c.requires.tree.ends c.requires.state c.index.ensures in
    let first = ended_first c.args.self.now c.args.state c.args.weight c.requires.tree c.requires.state (is ∙ c.in-None.is) in
    subst (λ (b : States). Ended c.args.self.now (record { arcs = b.arcs; finals = set b.finals c.args.state (Some c.args.weight) }) c.args.state c.args.weight) (sym c.self.view_is) first
