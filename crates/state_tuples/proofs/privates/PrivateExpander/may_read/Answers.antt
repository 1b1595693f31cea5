use Rattle.std.proofs.Common.{◌∙◌, subst}
use Rattle.state_tuples.specs.Cascades.{Cascaded}
use Rattle.state_tuples.specs.Calls.{ReadsNot}
use Rattle.state_tuples.proofs.Lists.{only_one}
use Rattle.state_tuples.proofs.privates.PrivateExpander.may_read.Goals as goal

pub returns : goal.returns
returns c = record { none = λ e d h n. subst (λ (v : Cascaded). ReadsNot v c.args.t.now c.args.label) (c.self.view_is ∙ only_one c.args.self.now d h) (c.may_read.ensures.none e) }
