use Rattle.std.proofs.Common.{◌≡◌, ap, sym}
use Rattle.least_path.specs.Mixing.{mix_of}
use Rattle.least_path.specs.declared.node.Node.TheVariants.{At}
use Rattle.least_path.proofs.hashing.mix_node.Goals as goal

pub returns-in-At : goal.returns-in-At
unfolding mix_of
returns-in-At c =
    let e : mix_of c.args.node.now ≡ mix_of (At c.in-At.state c.in-At.tuple) = ap mix_of c.in-At.is in
    cc

pub returns-in-End : goal.returns-in-End
unfolding mix_of
returns-in-End c = sym (ap mix_of c.in-End.is)
