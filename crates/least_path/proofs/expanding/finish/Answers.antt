use Rattle.std.proofs.Common.{[], sym, ◌∙◌, arith}
use Rattle.least_path.specs.declared.node.Node.TheVariants.{End}
use Rattle.least_path.specs.Texts.{text_of}
use Rattle.least_path.specs.Keeps.{IsEdge}
use Rattle.least_path.specs.Growths.{AtEnd}
use Rattle.least_path.proofs.Joining.{grown_as}
use Rattle.least_path.proofs.Along.{at_end_edge}
use Rattle.least_path.proofs.Paying.{adds_reached, pays_end, pays_none, risen_call, risen_less, risen_self}
use Rattle.least_path.proofs.expanding.finish.Goals as goal

pub returns-clause-grown : goal.returns-clause-grown
returns-clause-grown g c = λ d k h. grown_as c.args.search.now c.reach.new.self c.args.from.now.weight (text_of c.args.search.now.outputs c.args.from.now.output) (IsEdge End c.in-Some-2.weight []) (AtEnd d c.args.tuple.now c.args.last) c.in_ok-reach.ensures (at_end_edge d c.args.tuple.now c.args.last c.in-Some.field-0 c.in-Some-2.weight c.in-Some.is (sym (c.in_ok-weight.ensures.end d k h) ∙ c.in-Some-2.is))

pub returns-in_default-clause-pays : goal.returns-in_default-clause-pays
returns-in_default-clause-pays g c = λ m q e.
    let calls = g.X.Expander.calls c.args.x.now in
    pays_none m q c.args.tuple.now calls calls c.args.search.now.nodes (risen_self calls)

pub returns-in_default-2-clause-pays : goal.returns-in_default-2-clause-pays
returns-in_default-2-clause-pays g c = λ m q e.
    let before = g.X.Expander.calls c.args.x.now in
    let after = g.X.Expander.calls c.finality.new.self in
    pays_none m q c.args.tuple.now before after c.args.search.now.nodes (risen_less 1 0 before after (omega arith) (risen_call before after c.finality.ensures.counted))

pub returns-clause-pays : goal.returns-clause-pays
returns-clause-pays g c = λ m q e.
    let a = c.args.search.now in
    let b = c.reach.new.self in
    let before = g.X.Expander.calls c.args.x.now in
    let after = g.X.Expander.calls c.finality.new.self in
    pays_end m q c.args.tuple.now before after a.nodes b.nodes c.in-Some.field-0 (sym e ∙ c.in-Some.is) (risen_call before after c.finality.ensures.counted)
    (adds_reached a b End c.args.from.now.weight c.in-Some-2.weight (text_of a.outputs c.args.from.now.output) [] c.in_ok-reach.ensures)
