use Rattle.std.proofs.Common.{[], sym, subst}
use Rattle.std.specs.List.Sorted.{IsPermutation}
use Rattle.state_tuples.specs.Orders.{moves_on}
use Rattle.least_path.specs.declared.node.Node.TheVariants.{At}
use Rattle.least_path.specs.Texts.{text_of}
use Rattle.least_path.specs.Keeps.{IsEdge}
use Rattle.least_path.specs.Growths.{AlongArc, AlongMoves}
use Rattle.least_path.proofs.Joining.{grown_as, grown_growth}
use Rattle.least_path.proofs.Along.{moves_as, along_zero, along_some}
use Rattle.least_path.proofs.Paying.{adds_at, adds_moves, adds_reached, pays_along, pays_silently, risen_call}
use Rattle.least_path.proofs.expanding.follow.Goals as goal

pub returns-then-arc-eq0-clause-grown : goal.returns-then-arc-eq0-clause-grown
returns-then-arc-eq0-clause-grown g c = λ d k h. grown_as c.args.search.now c.reach.new.self c.args.from.now.weight (text_of c.args.search.now.outputs c.args.from.now.output) (IsEdge (At c.args.arc.now.next c.args.tuple.now) 0 []) (AlongArc d c.args.tuple.now c.args.arc.now c.args.arc.now.input) c.in_ok-reach.ensures (along_zero d c.args.tuple.now c.args.arc.now c.args.arc.now.input c.if-arc-eq0.true)

pub returns-clause-grown : goal.returns-clause-grown
returns-clause-grown g c = λ d k h.
    let a = c.args.search.now in
    let b = c.reach_all.new.self in
    let w = c.args.from.now.weight in
    let y = text_of c.args.search.now.outputs c.args.from.now.output in
    let t = c.args.tuple.now in
    let all = moves_on d c.args.tuple.now c.args.arc.now.input in
    let moved : IsPermutation all c.deref.result.now = subst (IsPermutation (moves_on d c.args.tuple.now c.args.arc.now.input)) (sym c.deref.ensures.value) (c.in_ok-arcs_on.ensures.arcs d k h).same in
    grown_as a b w y (AlongMoves c.args.arc.now.next t all) (AlongArc d t c.args.arc.now c.args.arc.now.input) (moves_as (grown_growth w y) a b c.args.arc.now.next t all c.deref.result.now moved c.in_ok-reach_all.ensures) (along_some d t c.args.arc.now c.args.arc.now.input c.if-arc-eq0.false)

pub returns-then-arc-eq0-clause-pays : goal.returns-then-arc-eq0-clause-pays
returns-then-arc-eq0-clause-pays g c = λ m q place is.
    let a = c.args.search.now in
    let b = c.reach.new.self in
    let arc = c.args.arc.now in
    let t = c.args.tuple.now in
    pays_silently m q t (g.X.Expander.calls c.args.x.now) a.nodes b.nodes place arc is c.if-arc-eq0.true (adds_at arc.next t a.nodes b.nodes (adds_reached a b (At arc.next t) c.args.from.now.weight 0 (text_of a.outputs c.args.from.now.output) [] c.in_ok-reach.ensures))

pub returns-clause-pays : goal.returns-clause-pays
returns-clause-pays g c = λ m q place is.
    let a = c.args.search.now in
    let b = c.reach_all.new.self in
    let arc = c.args.arc.now in
    let t = c.args.tuple.now in
    let before = g.X.Expander.calls c.args.x.now in
    let after = g.X.Expander.calls c.arcs_on.new.self in
    pays_along m q t before after a.nodes b.nodes place arc is (risen_call before after c.arcs_on.ensures.counted) (adds_moves a b arc.next t c.deref.result.now c.args.from.now.weight (text_of a.outputs c.args.from.now.output) c.in_ok-reach_all.ensures)
