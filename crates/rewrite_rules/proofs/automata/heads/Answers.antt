use Rattle.weighted_relations.specs.Machines.{Reads}
use Rattle.acceptor_ops.specs.Tables.{Accepts}
use Rattle.rewrite_rules.proofs.Accepting.{heads_same}
use Rattle.rewrite_rules.proofs.automata.heads.Goals as goal

pub returns : goal.returns
returns c = record {
  readings = heads_same (Reads c.args.tau.now) (Reads c.in_ok-nothing.nothing) (Reads c.in_ok-m.m) (Accepts c.in_ok-empty.empty) c.in_ok-nothing.ensures.readings c.in_ok-empty.ensures.strings c.in_ok-m.ensures.readings;
}
