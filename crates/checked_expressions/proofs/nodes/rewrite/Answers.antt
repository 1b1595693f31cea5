use Rattle.std.proofs.Common.{◌≡◌, sym, subst, true, false, rules}
use Rattle.core_expressions.specs.Views.{manner_of}
use Rattle.checked_expressions.specs.Answers.{Makes, shared_of}
use Rattle.checked_expressions.specs.Sound.{is_plain_acceptor}
use Rattle.weighted_relations.specs.Expressions.{is_marked}
use Rattle.checked_expressions.proofs.KindRules.{rewrite_passes}
use Rattle.checked_expressions.proofs.nodes.rewrite.Goals as goal

pub returns : goal.returns
returns c =
    let a : is_plain_acceptor (shared_of c.args.left) ≡ true = search rules in
    let b : is_plain_acceptor (shared_of c.args.right) ≡ true = search rules in
    let d : is_plain_acceptor (shared_of c.args.sigma) ≡ true = search rules in
    let e : is_marked (shared_of c.args.tau) ≡ false = search rules in
    let f : is_marked (shared_of c.args.sigma) ≡ false = search rules in
    subst (Makes c.rewrite_node.result) (sym (rewrite_passes (manner_of c.args.mode) (shared_of c.args.tau) (shared_of c.args.left) (shared_of c.args.right) (shared_of c.args.sigma) a b d e f)) c.rewrite_node.ensures
