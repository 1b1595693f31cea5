use Rattle.std.proofs.Common.{[]}
use Rattle.std.proofs.lemmas.List.Elements.{All-contains}
use Rattle.weighted_relations.specs.Graphs.{label}
use Rattle.state_tuples.specs.Cascades.{IsSound, next_of}
use Rattle.state_tuples.proofs.ClosedTuples.{tuples_are_closed}
use Rattle.least_path.specs.declared.node.Node.TheVariants.{At}
use Rattle.least_path.specs.Texts.{text_of}
use Rattle.least_path.specs.Ending.{CanEnd}
use Rattle.least_path.specs.Passing.{Passes}
use Rattle.least_path.specs.Keeps.{IsEdge}
use Rattle.least_path.specs.Growths.{Steps}
use Rattle.least_path.proofs.Forced.{forced_edge}
use Rattle.least_path.proofs.Going.{only_known}
use Rattle.least_path.proofs.Meeting.{gained_as}
use Rattle.least_path.proofs.Paying.{pays_staying, risen_self}
use Rattle.least_path.proofs.spreading.spread.Goals as goal

pub meet_along-requires-clause-next : goal.meet_along-requires-clause-next
meet_along-requires-clause-next g c = λ d k h.
    let closed = tuples_are_closed d (All-contains IsSound (g.X.Expander.cascades c.args.x.now) d (g.met.X.Expander.sound c.args.x.now c.requires.ready) k) in
    only_known d closed c.args.tuple.now c.in-Some.a h (c.in-Some.ensures.tuple d k h)

pub returns-in_ok-meet_along-in-Some-clause-gained : goal.returns-in_ok-meet_along-in-Some-clause-gained
returns-in_ok-meet_along-in-Some-clause-gained g c = λ d k h.
    let m = c.args.source.now in
    let q = c.args.state in
    let t = c.args.tuple.now in
    let a = c.in-Some.a in
    gained_as (Passes (Steps m d)) (CanEnd m d) c.args.search.now c.meet_along.new.search c.args.from.now.weight (text_of c.args.search.now.outputs c.args.from.now.output) (IsEdge (At q (next_of t a)) a.weight (label a.output [])) (Steps m d (At q t))
    (c.in_ok-meet_along-in-Some.ensures.gained d k h) (forced_edge m d q t a c.in-Some.ensures.source (c.in-Some.ensures.tuple d k h))

pub returns-in_ok-meet_along-in-Some-clause-pays : goal.returns-in_ok-meet_along-in-Some-clause-pays
returns-in_ok-meet_along-in-Some-clause-pays g c =
    let calls = g.X.Expander.calls c.args.x.now in
    pays_staying c.args.source.now c.args.state c.args.tuple.now calls calls c.args.search.now.nodes c.meet_along.new.search.nodes (risen_self calls) c.in_ok-meet_along-in-Some.ensures.adds
