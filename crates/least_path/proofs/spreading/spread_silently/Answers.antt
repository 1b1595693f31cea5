use Rattle.std.proofs.Common.{◌≡◌, [], sym, subst, arith}
use Rattle.std.specs.Prelude.{All, Contains}
use Rattle.std.specs.List.Sorted.{IsPermutation}
use Rattle.std.proofs.lemmas.List.Elements.{All-contains}
use Rattle.state_tuples.specs.Cascades.{IsOf, IsSound, next_of}
use Rattle.state_tuples.specs.Calls.{IsOnward}
use Rattle.state_tuples.specs.Orders.{moves_on}
use Rattle.state_tuples.proofs.ClosedTuples.{tuples_are_closed}
use Rattle.least_path.specs.Texts.{text_of}
use Rattle.least_path.specs.Ending.{CanEnd}
use Rattle.least_path.specs.Passing.{Passes}
use Rattle.least_path.specs.Growths.{AlongMoves, Steps}
use Rattle.least_path.proofs.Meeting.{gained_none, gained_growth}
use Rattle.least_path.proofs.Along.{moves_as}
use Rattle.least_path.proofs.Going.{moves_known}
use Rattle.least_path.proofs.Paying.{pays_none, pays_staying, risen_call, risen_less, risen_self}
use Rattle.least_path.proofs.spreading.spread_silently.Goals as goal

pub spread_moves-requires-clause-moves : goal.spread_moves-requires-clause-moves
spread_moves-requires-clause-moves g c = λ d k h.
    let same : g.X.Expander.cascades c.arcs_on.new.self ≡ g.X.Expander.cascades c.args.x.now = g.met.X.Expander.on_stays c.args.x.now c.arcs_on.new.self c.in_ok-arcs_on.ensures.on in
    let among = subst (λ cs. Contains cs d) same k in
    let closed = tuples_are_closed d (All-contains IsSound (g.X.Expander.cascades c.args.x.now) d (g.met.X.Expander.sound c.args.x.now c.requires.ready) among) in
    subst (All (λ a. IsOf d (next_of c.args.tuple.now a))) (sym c.deref.ensures.value) (moves_known d closed c.args.tuple.now 0 c.arcs_on.new.into.items h (c.in_ok-arcs_on.ensures.arcs d among h))

pub returns-clause-gained : goal.returns-clause-gained
returns-clause-gained g c = λ e k h.
    let same : g.X.Expander.cascades c.arcs_on.new.self ≡ g.X.Expander.cascades c.args.x.now = g.met.X.Expander.on_stays c.args.x.now c.arcs_on.new.self c.in_ok-arcs_on.ensures.on in
    let moved : IsPermutation (moves_on e c.args.tuple.now 0) c.deref.result.now = subst (IsPermutation (moves_on e c.args.tuple.now 0)) (sym c.deref.ensures.value) (c.in_ok-arcs_on.ensures.arcs e k h).same in
    let first = c.in_ok-spread_moves.ensures.gained e (subst (λ cs. Contains cs e) (sym same) k) h in
    moves_as (gained_growth (Passes (Steps c.args.source.now e)) (CanEnd c.args.source.now e) c.args.from.now.weight (text_of c.args.search.now.outputs c.args.from.now.output)) c.args.search.now c.spread_moves.new.search c.args.state c.args.tuple.now (moves_on e c.args.tuple.now 0) c.deref.result.now moved first

pub returns-in-Reads-clause-gained : goal.returns-in-Reads-clause-gained
returns-in-Reads-clause-gained g c = λ e k h.
    let none : moves_on e c.args.tuple.now 0 ≡ [] = subst (IsOnward e c.args.tuple.now) c.in-Reads.is (c.onward.ensures.told e k h) in
    gained_none (Passes (Steps c.args.source.now e)) (CanEnd c.args.source.now e) c.args.search.now c.args.from.now.weight (text_of c.args.search.now.outputs c.args.from.now.output) (AlongMoves c.args.state c.args.tuple.now (moves_on e c.args.tuple.now 0)) c.requires.kept
    (λ n u z o l. (let empty : Contains [] o.0 = subst (λ ms. Contains ms o.0) none o.1 in omega (arith, empty.1)))

pub returns-clause-pays : goal.returns-clause-pays
returns-clause-pays g c =
    let before = g.X.Expander.calls c.args.x.now in
    let after = g.X.Expander.calls c.arcs_on.new.self in
    pays_staying c.args.source.now c.args.state c.args.tuple.now before after c.args.search.now.nodes c.spread_moves.new.search.nodes (risen_less 1 0 before after (omega arith) (risen_call before after c.arcs_on.ensures.counted)) c.in_ok-spread_moves.ensures.adds

pub returns-in-Reads-clause-pays : goal.returns-in-Reads-clause-pays
returns-in-Reads-clause-pays g c =
    let calls = g.X.Expander.calls c.args.x.now in
    pays_none c.args.source.now c.args.state c.args.tuple.now calls calls c.args.search.now.nodes (risen_self calls)
