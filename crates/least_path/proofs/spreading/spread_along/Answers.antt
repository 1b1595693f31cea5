use Rattle.std.proofs.Common.{◌≡◌, [], sym, subst}
use Rattle.std.specs.Prelude.{All, Contains}
use Rattle.std.proofs.lemmas.List.Elements.{All-contains}
use Rattle.state_tuples.specs.Cascades.{IsOf, IsSound, next_of}
use Rattle.state_tuples.proofs.ClosedTuples.{tuples_are_closed}
use Rattle.least_path.proofs.Going.{moves_known}
use Rattle.std.specs.List.Sorted.{IsPermutation}
use Rattle.state_tuples.specs.Orders.{moves_on}
use Rattle.least_path.specs.declared.node.Node.TheVariants.{At}
use Rattle.least_path.specs.Texts.{text_of}
use Rattle.least_path.specs.Keeps.{IsEdge}
use Rattle.least_path.specs.Passing.{Passes}
use Rattle.least_path.specs.Growths.{Steps, AlongArc, AlongMoves}
use Rattle.least_path.specs.Ending.{CanEnd}
use Rattle.least_path.proofs.Meeting.{gained_as, gained_growth, gained_of}
use Rattle.least_path.proofs.Passing.{stays_passed}
use Rattle.least_path.proofs.Along.{moves_as, along_zero, along_some}
use Rattle.least_path.proofs.Paying.{adds_at, adds_met, pays_along, pays_silently, risen_call}
use Rattle.least_path.proofs.spreading.spread_along.Goals as goal

pub returns-then-arc-eq0-clause-gained : goal.returns-then-arc-eq0-clause-gained
returns-then-arc-eq0-clause-gained g c = λ d k h.
    let y = text_of c.args.search.now.outputs c.args.from.now.output in
    gained_as (Passes (Steps c.args.source.now d)) (CanEnd c.args.source.now d) c.args.search.now c.relax.new.self c.args.from.now.weight y (IsEdge (At c.args.arc.now.next c.args.tuple.now) 0 []) (AlongArc d c.args.tuple.now c.args.arc.now c.args.arc.now.input) (gained_of (Passes (Steps c.args.source.now d)) (CanEnd c.args.source.now d) c.args.search.now c.relax.new.self c.args.from.now.weight y (At c.args.arc.now.next c.args.tuple.now) 0 [] (stays_passed (Steps c.args.source.now d) (At c.args.arc.now.next c.args.tuple.now)) c.in_ok-relax.ensures) (along_zero d c.args.tuple.now c.args.arc.now c.args.arc.now.input c.if-arc-eq0.true)

pub returns-clause-gained : goal.returns-clause-gained
returns-clause-gained g c = λ d k h.
    let a = c.args.search.now in
    let b = c.spread_moves.new.search in
    let w = c.args.from.now.weight in
    let y = text_of c.args.search.now.outputs c.args.from.now.output in
    let t = c.args.tuple.now in
    let all = moves_on d c.args.tuple.now c.args.arc.now.input in
    let counts = CanEnd c.args.source.now d in
    let same : g.X.Expander.cascades c.arcs_on.new.self ≡ g.X.Expander.cascades c.args.x.now = g.met.X.Expander.on_stays c.args.x.now c.arcs_on.new.self c.in_ok-arcs_on.ensures.on in
    let moved : IsPermutation all c.deref.result.now = subst (IsPermutation (moves_on d c.args.tuple.now c.args.arc.now.input)) (sym c.deref.ensures.value) (c.in_ok-arcs_on.ensures.arcs d k h).same in
    let one = c.in_ok-spread_moves.ensures.gained d (subst (λ cs. Contains cs d) (sym same) k) h in
    gained_as (Passes (Steps c.args.source.now d)) (CanEnd c.args.source.now d) a b w y (AlongMoves c.args.arc.now.next t all) (AlongArc d t c.args.arc.now c.args.arc.now.input) (moves_as (gained_growth (Passes (Steps c.args.source.now d)) (CanEnd c.args.source.now d) w y) a b c.args.arc.now.next t all c.deref.result.now moved one) (along_some d t c.args.arc.now c.args.arc.now.input c.if-arc-eq0.false)

pub spread_moves-requires-clause-moves : goal.spread_moves-requires-clause-moves
spread_moves-requires-clause-moves g c = λ d k h.
    let same : g.X.Expander.cascades c.arcs_on.new.self ≡ g.X.Expander.cascades c.args.x.now = g.met.X.Expander.on_stays c.args.x.now c.arcs_on.new.self c.in_ok-arcs_on.ensures.on in
    let among = subst (λ cs. Contains cs d) same k in
    let closed = tuples_are_closed d (All-contains IsSound (g.X.Expander.cascades c.args.x.now) d (g.met.X.Expander.sound c.args.x.now c.requires.ready) among) in
    subst (All (λ a. IsOf d (next_of c.args.tuple.now a))) (sym c.deref.ensures.value) (moves_known d closed c.args.tuple.now c.args.arc.now.input c.arcs_on.new.into.items h (c.in_ok-arcs_on.ensures.arcs d among h))

pub returns-then-arc-eq0-clause-pays : goal.returns-then-arc-eq0-clause-pays
returns-then-arc-eq0-clause-pays g c = λ m q place is.
    let a = c.args.search.now in
    let b = c.relax.new.self in
    let arc = c.args.arc.now in
    let t = c.args.tuple.now in
    pays_silently m q t (g.X.Expander.calls c.args.x.now) a.nodes b.nodes place arc is c.if-arc-eq0.true (adds_at arc.next t a.nodes b.nodes (adds_met a b (At arc.next t) c.args.from.now.weight 0 (text_of a.outputs c.args.from.now.output) [] c.in_ok-relax.ensures))

pub returns-clause-pays : goal.returns-clause-pays
returns-clause-pays g c = λ m q place is.
    let before = g.X.Expander.calls c.args.x.now in
    let after = g.X.Expander.calls c.arcs_on.new.self in
    pays_along m q c.args.tuple.now before after c.args.search.now.nodes c.spread_moves.new.search.nodes place c.args.arc.now is (risen_call before after c.arcs_on.ensures.counted) c.in_ok-spread_moves.ensures.adds
