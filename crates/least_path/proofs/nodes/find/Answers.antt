use Rattle.std.proofs.Common.{◌≡◌, ◌<◌, ◌-◌, [], Some, get_or, length, ap, ◌∙◌, sym, arith}
use Rattle.std.proofs.lemmas.Option.{slice_get-get_or}
use Rattle.least_path.specs.declared.node.Node.TheVariants.{At}
use Rattle.least_path.specs.SameNodes.{node_same}
use Rattle.least_path.proofs.nodes.find.Goals as goal

pub returns-then-eq : goal.returns-then-eq
returns-then-eq c =
    let l : c.loop-next.next - 1 < length c.args.nodes.now = omega arith in
    let same : get_or c.args.nodes.now (c.loop-next.next - 1) (At 0 (record { cascade = 0; states = []; filters = 0 })) ≡ c.args.node.now = node_same (get_or c.args.nodes.now (c.loop-next.next - 1) (At 0 (record { cascade = 0; states = []; filters = 0 }))) c.args.node.now (sym c.if-eq.ensures) in
    slice_get-get_or c.args.nodes.now (c.loop-next.next - 1) (At 0 (record { cascade = 0; states = []; filters = 0 })) l ∙ ap Some same
