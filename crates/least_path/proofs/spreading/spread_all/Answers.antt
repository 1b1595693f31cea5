use Rattle.std.proofs.Common.{◌≡◌, ◌<◌, ◌≤◌, [], ℕ, refl, take, get_or, length, ◌∙◌, sym, subst, arith, rules}
use Rattle.std.specs.Prelude.{Contains}
use Rattle.std.proofs.lemmas.List.{take_all}
use Rattle.weighted_relations.specs.declared.Arc.{Arc}
use Rattle.weighted_relations.specs.Searches.{Edges}
use Rattle.weighted_relations.specs.Machines.{final_of}
use Rattle.state_tuples.specs.Calls.{IsKnown}
use Rattle.least_path.specs.declared.node.Node.{Node}
use Rattle.least_path.specs.declared.relaxing.Relaxed.{Relaxed}
use Rattle.least_path.specs.Waiting.{Fits}
use Rattle.least_path.specs.Texts.{text_of, Grows}
use Rattle.least_path.specs.Passing.{Passes}
use Rattle.least_path.specs.Growths.{Leading, Steps, AlongArc, AlongArcs, AtEnd}
use Rattle.least_path.specs.Ending.{CanEnd}
use Rattle.least_path.specs.Relaxing.{Gained}
use Rattle.least_path.proofs.Letters.{grows_same, grows_text, grows_trans}
use Rattle.least_path.proofs.Waiters.{fits_grow}
use Rattle.least_path.proofs.Meeting.{gained_none, gained_growth, gained_at}
use Rattle.least_path.proofs.Along.{arc_fits, arc_in, arcs_more, no_arc, steps_whole}
use Rattle.least_path.proofs.Stops.{stops_later}
use Rattle.least_path.proofs.Paying.{pays_then}
use Rattle.least_path.proofs.spreading.spread_all.Goals as goal

-- a growth, with the text of the beginning
from_start : (On : Edges Node) (counts : Node → Type 0) (a b c : Relaxed) (w o : ℕ) (D : Leading) → Grows a.outputs b.outputs → o < length a.outputs → Gained On counts b c w (text_of b.outputs o) D → Gained On counts b c w (text_of a.outputs o) D
from_start On counts a b c w o D texts l h = gained_at On counts b c w (text_of a.outputs o) (text_of b.outputs o) (grows_text a.outputs b.outputs texts o l) h

pub loop-arc-init : goal.loop-arc-init
loop-arc-init g c =
    let same : g.X.Expander.cascades c.spread_silently.new.x ≡ g.X.Expander.cascades c.args.x.now = g.met.X.Expander.on_stays c.args.x.now c.spread_silently.new.x c.in_ok-spread_silently.ensures.on in
    record {
      kept = c.in_ok-spread_silently.ensures.kept;
      texts = grows_same c.spread_silently.new.search.outputs c.spread_silently.new.search.outputs refl;
      gained = λ e k h. gained_none (Passes (Steps c.args.source.now e)) (CanEnd c.args.source.now e) c.spread_silently.new.search c.args.from.now.weight (text_of c.spread_silently.new.search.outputs c.args.from.now.output) (AlongArcs e c.args.tuple.now []) c.in_ok-spread_silently.ensures.kept (λ n u z o l. omega (arith, o.1.1));
      ready = c.spread_silently.ensures.ready;
      known = subst (λ cs. IsKnown cs c.args.tuple.now) (sym same) c.requires.known;
      on = c.in_ok-spread_silently.ensures.on;
      pays = c.in_ok-spread_silently.ensures.pays;
    }

pub spread_along-requires-clause-label : goal.spread_along-requires-clause-label
spread_along-requires-clause-label g c =
    let l : c.loop-arc.arc-index < length (get_or c.args.source.now.arcs c.args.state []) = subst (λ row. c.loop-arc.arc-index < length row) c.arcs_of-arc-items.ensures.value c.loop-arc-test.true in
    subst (λ row. (get_or row c.loop-arc.arc-index no_arc).input ≤ 257) (sym c.arcs_of-arc-items.ensures.value) (arc_fits c.args.source.now c.args.state c.loop-arc.arc-index c.arcs_of-arc-items.ensures.sound l).input

pub spread_along-requires-clause-next : goal.spread_along-requires-clause-next
spread_along-requires-clause-next g c =
    let l : c.loop-arc.arc-index < length (get_or c.args.source.now.arcs c.args.state []) = subst (λ row. c.loop-arc.arc-index < length row) c.arcs_of-arc-items.ensures.value c.loop-arc-test.true in
    subst (λ row. (get_or row c.loop-arc.arc-index no_arc).next < length c.args.source.now.arcs) (sym c.arcs_of-arc-items.ensures.value) (arc_fits c.args.source.now c.args.state c.loop-arc.arc-index c.arcs_of-arc-items.ensures.sound l).next

pub returns-in_err-spread_along-clause-up : goal.returns-in_err-spread_along-clause-up
returns-in_err-spread_along-clause-up g c =
    let h = stops_later g.X.Expander.goes_on g.X.Expander.gives_up g.met.X.Expander.on_again c.args.x.now c.loop-arc.x c.spread_along.new.x c.loop-arc.invariant.on c.in_err-spread_along.ensures.up in
    search rules

pub returns-in_err-spread_to_end-clause-up : goal.returns-in_err-spread_to_end-clause-up
returns-in_err-spread_to_end-clause-up g c =
    let h = stops_later g.X.Expander.goes_on g.X.Expander.gives_up g.met.X.Expander.on_again c.args.x.now c.loop-arc.x c.spread_to_end.new.x c.loop-arc.invariant.on c.in_err-spread_to_end.ensures.up in
    search rules

pub loop-arc-preserved : goal.loop-arc-preserved
loop-arc-preserved g c =
    let a = c.spread_silently.new.search in
    let b = c.loop-arc.search in
    let d = c.spread_along.new.search in
    let from = c.args.from.now in
    let fits : Fits c.spread_silently.new.search.outputs c.args.from.now = fits_grow c.args.search.now.outputs c.spread_silently.new.search.outputs c.in_ok-spread_silently.ensures.texts c.args.from.now c.requires.from in
    let same : g.X.Expander.cascades c.loop-arc.x ≡ g.X.Expander.cascades c.args.x.now = g.met.X.Expander.on_stays c.args.x.now c.loop-arc.x c.loop-arc.invariant.on in
    let after : g.X.Expander.cascades c.spread_along.new.x ≡ g.X.Expander.cascades c.loop-arc.x = g.met.X.Expander.on_stays c.loop-arc.x c.spread_along.new.x c.in_ok-spread_along.ensures.on in
    let row = c.arcs_of-arc-items.result.now in
    let i = c.loop-arc.arc-index in
    let arc : Arc = get_or c.arcs_of-arc-items.result.now c.loop-arc.arc-index no_arc in
    let own = c.loop-arc.invariant.known in
    let one = c.in_ok-spread_along.ensures.gained own.0 own.1 own.2 in
    record {
      kept = one.kept;
      texts = grows_trans c.spread_silently.new.search.outputs c.loop-arc.search.outputs c.spread_along.new.search.outputs c.loop-arc.invariant.texts one.texts;
      gained = λ e k h. arcs_more (gained_growth (Passes (Steps c.args.source.now e)) (CanEnd c.args.source.now e) from.weight (text_of c.spread_silently.new.search.outputs c.args.from.now.output)) a b d e c.args.tuple.now row i no_arc c.loop-arc-test.true (c.loop-arc.invariant.gained e k h)
          (from_start (Passes (Steps c.args.source.now e)) (CanEnd c.args.source.now e) a b d from.weight from.output (AlongArc e c.args.tuple.now arc arc.input) c.loop-arc.invariant.texts fits.output (c.in_ok-spread_along.ensures.gained e (subst (λ cs. Contains cs e) (sym same) k) h));
      ready = c.spread_along.ensures.ready;
      known = subst (λ cs. IsKnown cs c.args.tuple.now) (sym after) c.loop-arc.invariant.known;
      on = g.met.X.Expander.on_again c.args.x.now c.loop-arc.x c.spread_along.new.x c.loop-arc.invariant.on c.in_ok-spread_along.ensures.on;
      pays = pays_then c.args.source.now c.args.state c.args.tuple.now (g.X.Expander.calls c.args.x.now) (g.X.Expander.calls c.loop-arc.x) (g.X.Expander.calls c.spread_along.new.x) c.args.search.now.nodes b.nodes d.nodes c.loop-arc.invariant.pays
          (c.in_ok-spread_along.ensures.pays c.args.source.now c.args.state i (arc_in c.args.source.now c.args.state i row c.arcs_of-arc-items.ensures.value c.loop-arc-test.true));
    }

pub returns-clause-gained : goal.returns-clause-gained
returns-clause-gained g c = λ e k h.
    let a = c.args.search.now in
    let b = c.spread_silently.new.search in
    let d = c.loop-arc.search in
    let last = c.spread_to_end.new.search in
    let from = c.args.from.now in
    let t = c.args.tuple.now in
    let y = text_of c.args.search.now.outputs c.args.from.now.output in
    let same : g.X.Expander.cascades c.loop-arc.x ≡ g.X.Expander.cascades c.args.x.now = g.met.X.Expander.on_stays c.args.x.now c.loop-arc.x c.loop-arc.invariant.on in
    let whole : take c.loop-arc.arc-index c.arcs_of-arc-items.result.now ≡ get_or c.args.source.now.arcs c.args.state [] = take_all c.loop-arc.arc-index c.arcs_of-arc-items.result.now (omega arith) ∙ c.arcs_of-arc-items.ensures.value in
    let arcs : Gained (Passes (Steps c.args.source.now e)) (CanEnd c.args.source.now e) b d from.weight (text_of c.spread_silently.new.search.outputs c.args.from.now.output) (AlongArcs e t (get_or c.args.source.now.arcs c.args.state [])) = subst (λ row. Gained (Passes (Steps c.args.source.now e)) (CanEnd c.args.source.now e) c.spread_silently.new.search c.loop-arc.search c.args.from.now.weight (text_of c.spread_silently.new.search.outputs c.args.from.now.output) (AlongArcs e c.args.tuple.now row)) whole (c.loop-arc.invariant.gained e k h) in
    let end = c.in_ok-spread_to_end.ensures.gained e (subst (λ cs. Contains cs e) (sym same) k) h in
    let texts = grows_trans c.args.search.now.outputs c.spread_silently.new.search.outputs c.loop-arc.search.outputs c.in_ok-spread_silently.ensures.texts c.loop-arc.invariant.texts in
    let first = c.in_ok-spread_silently.ensures.gained e k h in
    steps_whole c.args.source.now e c.args.state t (gained_growth (Passes (Steps c.args.source.now e)) (CanEnd c.args.source.now e) from.weight y) a b d last
    first
    (from_start (Passes (Steps c.args.source.now e)) (CanEnd c.args.source.now e) a b d from.weight from.output (AlongArcs e t (get_or c.args.source.now.arcs c.args.state [])) c.in_ok-spread_silently.ensures.texts c.requires.from.output arcs)
    (from_start (Passes (Steps c.args.source.now e)) (CanEnd c.args.source.now e) a d last from.weight from.output (AtEnd e t (final_of c.args.source.now.finals c.args.state)) texts c.requires.from.output end)

pub returns-clause-on : goal.returns-clause-on
returns-clause-on g c = g.met.X.Expander.on_again c.args.x.now c.loop-arc.x c.spread_to_end.new.x c.loop-arc.invariant.on c.in_ok-spread_to_end.ensures.on

pub returns-clause-pays : goal.returns-clause-pays
returns-clause-pays g c = pays_then c.args.source.now c.args.state c.args.tuple.now (g.X.Expander.calls c.args.x.now) (g.X.Expander.calls c.loop-arc.x) (g.X.Expander.calls c.spread_to_end.new.x) c.args.search.now.nodes c.loop-arc.search.nodes c.spread_to_end.new.search.nodes c.loop-arc.invariant.pays c.in_ok-spread_to_end.ensures.pays
