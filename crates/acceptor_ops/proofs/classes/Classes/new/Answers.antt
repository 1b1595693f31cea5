use Rattle.acceptor_ops.proofs.Labels.{are_classes}
use Rattle.acceptor_ops.proofs.classes.Classes.new.Goals as goal

pub returns : goal.returns
returns c = record { classes = are_classes c.args.a.now c.in_ok-steps.steps c.in_ok-classes.classes c.in_ok-steps.ensures.steps c.in_ok-classes.ensures.classes }
