use Rattle.std.proofs.Common.{◌≡◌, ◌<◌, ◌≤◌, [], ℕ, refl, take, get_or, length, ◌∙◌, sym, subst, arith, rules}
use Rattle.std.specs.Prelude.{Contains}
use Rattle.std.specs.List.Sorted.{IsPermutation}
use Rattle.std.proofs.lemmas.List.{take_all}
use Rattle.weighted_relations.specs.declared.Arc.{Arc}
use Rattle.weighted_relations.specs.Machines.{final_of}
use Rattle.state_tuples.specs.Calls.{IsKnown}
use Rattle.state_tuples.specs.Orders.{moves_on}
use Rattle.least_path.specs.declared.reaching.Search.{Search}
use Rattle.least_path.specs.Waiting.{Fits}
use Rattle.least_path.specs.Texts.{text_of, Grows}
use Rattle.least_path.specs.Growths.{Leading, AlongArc, AlongArcs, AtEnd}
use Rattle.least_path.specs.Keeps.{Grown}
use Rattle.least_path.proofs.Letters.{grows_same, grows_text, grows_trans}
use Rattle.least_path.proofs.Waiters.{fits_grow}
use Rattle.least_path.proofs.Joining.{grown_growth, grown_none, at_text}
use Rattle.least_path.proofs.Along.{arc_fits, arc_in, arcs_more, moves_as, no_arc, steps_whole}
use Rattle.least_path.proofs.Stops.{stops_later}
use Rattle.least_path.proofs.Paying.{adds_moves, pays_staying, pays_then, risen_call, risen_less}
use Rattle.least_path.proofs.expanding.expand.Goals as goal

-- a growth, with the text of the beginning
from_start : (a b c : Search) (w o : ℕ) (D : Leading) → Grows a.outputs b.outputs → o < length a.outputs → Grown b c w (text_of b.outputs o) D → Grown b c w (text_of a.outputs o) D
from_start a b c w o D texts l h = at_text b c w (text_of a.outputs o) (text_of b.outputs o) (grows_text a.outputs b.outputs texts o l) h

pub returns-in_err-follow-clause-up : goal.returns-in_err-follow-clause-up
returns-in_err-follow-clause-up g c =
    let h = stops_later g.X.Expander.goes_on g.X.Expander.gives_up g.met.X.Expander.on_again c.args.x.now c.loop-arc.x c.follow.new.x c.loop-arc.invariant.on c.in_err-follow.ensures.up in
    search rules

pub returns-in_err-finish-clause-up : goal.returns-in_err-finish-clause-up
returns-in_err-finish-clause-up g c =
    let h = stops_later g.X.Expander.goes_on g.X.Expander.gives_up g.met.X.Expander.on_again c.args.x.now c.loop-arc.x c.finish.new.x c.loop-arc.invariant.on c.in_err-finish.ensures.up in
    search rules

pub loop-arc-init : goal.loop-arc-init
loop-arc-init g c =
    let a = c.args.search.now in
    let b = c.reach_all.new.self in
    let y = text_of c.args.search.now.outputs c.args.from.now.output in
    let before = g.X.Expander.calls c.args.x.now in
    let after = g.X.Expander.calls c.arcs_on.new.self in
    let same : g.X.Expander.cascades c.arcs_on.new.self ≡ g.X.Expander.cascades c.args.x.now = g.met.X.Expander.on_stays c.args.x.now c.arcs_on.new.self c.in_ok-arcs_on.ensures.on in
    record {
      kept = c.in_ok-reach_all.ensures.kept;
      texts = grows_same c.reach_all.new.self.outputs c.reach_all.new.self.outputs refl;
      grown = λ e k h. grown_none c.reach_all.new.self c.args.from.now.weight (text_of c.reach_all.new.self.outputs c.args.from.now.output) (AlongArcs e c.args.tuple.now []) c.in_ok-reach_all.ensures.kept (λ n u z o. omega (arith, o.1.1));
      ready = c.arcs_on.ensures.ready;
      known = subst (λ cs. IsKnown cs c.args.tuple.now) (sym same) c.requires.known;
      on = c.in_ok-arcs_on.ensures.on;
      pays = pays_staying c.args.source.now c.args.state c.args.tuple.now before after a.nodes b.nodes (risen_less 1 0 before after (omega arith) (risen_call before after c.arcs_on.ensures.counted)) (adds_moves a b c.args.state c.args.tuple.now c.deref.result.now c.args.from.now.weight y c.in_ok-reach_all.ensures);
    }

pub follow-requires-clause-label : goal.follow-requires-clause-label
follow-requires-clause-label g c =
    let l : c.loop-arc.arc-index < length (get_or c.args.source.now.arcs c.args.state []) = subst (λ row. c.loop-arc.arc-index < length row) c.arcs_of-arc-items.ensures.value c.loop-arc-test.true in
    subst (λ row. (get_or row c.loop-arc.arc-index no_arc).input ≤ 257) (sym c.arcs_of-arc-items.ensures.value) (arc_fits c.args.source.now c.args.state c.loop-arc.arc-index c.arcs_of-arc-items.ensures.sound l).input

pub loop-arc-preserved : goal.loop-arc-preserved
loop-arc-preserved g c =
    let a = c.reach_all.new.self in
    let b = c.loop-arc.search in
    let d = c.follow.new.search in
    let from = c.args.from.now in
    let fits : Fits c.reach_all.new.self.outputs c.args.from.now = fits_grow c.args.search.now.outputs c.reach_all.new.self.outputs c.in_ok-reach_all.ensures.texts c.args.from.now c.requires.from in
    let same : g.X.Expander.cascades c.loop-arc.x ≡ g.X.Expander.cascades c.args.x.now = g.met.X.Expander.on_stays c.args.x.now c.loop-arc.x c.loop-arc.invariant.on in
    let after : g.X.Expander.cascades c.follow.new.x ≡ g.X.Expander.cascades c.loop-arc.x = g.met.X.Expander.on_stays c.loop-arc.x c.follow.new.x c.in_ok-follow.ensures.on in
    let row = c.arcs_of-arc-items.result.now in
    let i = c.loop-arc.arc-index in
    let arc : Arc = get_or c.arcs_of-arc-items.result.now c.loop-arc.arc-index no_arc in
    let own = c.loop-arc.invariant.known in
    let one = c.in_ok-follow.ensures.grown own.0 own.1 own.2 in
    record {
      kept = one.kept;
      texts = grows_trans c.reach_all.new.self.outputs c.loop-arc.search.outputs c.follow.new.search.outputs c.loop-arc.invariant.texts one.texts;
      grown = λ e k h. arcs_more (grown_growth from.weight (text_of c.reach_all.new.self.outputs c.args.from.now.output)) a b d e c.args.tuple.now row i no_arc c.loop-arc-test.true (c.loop-arc.invariant.grown e k h)
          (from_start a b d from.weight from.output (AlongArc e c.args.tuple.now arc arc.input) c.loop-arc.invariant.texts fits.output (c.in_ok-follow.ensures.grown e (subst (λ cs. Contains cs e) (sym same) k) h));
      ready = c.follow.ensures.ready;
      known = subst (λ cs. IsKnown cs c.args.tuple.now) (sym after) c.loop-arc.invariant.known;
      on = g.met.X.Expander.on_again c.args.x.now c.loop-arc.x c.follow.new.x c.loop-arc.invariant.on c.in_ok-follow.ensures.on;
      pays = pays_then c.args.source.now c.args.state c.args.tuple.now (g.X.Expander.calls c.args.x.now) (g.X.Expander.calls c.loop-arc.x) (g.X.Expander.calls c.follow.new.x) c.args.search.now.nodes b.nodes d.nodes c.loop-arc.invariant.pays
          (c.in_ok-follow.ensures.pays c.args.source.now c.args.state i (arc_in c.args.source.now c.args.state i row c.arcs_of-arc-items.ensures.value c.loop-arc-test.true));
    }

pub returns-clause-grown : goal.returns-clause-grown
returns-clause-grown g c = λ e k h.
    let a = c.args.search.now in
    let b = c.reach_all.new.self in
    let d = c.loop-arc.search in
    let last = c.finish.new.search in
    let from = c.args.from.now in
    let t = c.args.tuple.now in
    let y = text_of c.args.search.now.outputs c.args.from.now.output in
    let same : g.X.Expander.cascades c.loop-arc.x ≡ g.X.Expander.cascades c.args.x.now = g.met.X.Expander.on_stays c.args.x.now c.loop-arc.x c.loop-arc.invariant.on in
    let moved : IsPermutation (moves_on e c.args.tuple.now 0) c.deref.result.now = subst (IsPermutation (moves_on e c.args.tuple.now 0)) (sym c.deref.ensures.value) (c.in_ok-arcs_on.ensures.arcs e k h).same in
    let whole : take c.loop-arc.arc-index c.arcs_of-arc-items.result.now ≡ get_or c.args.source.now.arcs c.args.state [] = take_all c.loop-arc.arc-index c.arcs_of-arc-items.result.now (omega arith) ∙ c.arcs_of-arc-items.ensures.value in
    let arcs : Grown b d from.weight (text_of c.reach_all.new.self.outputs c.args.from.now.output) (AlongArcs e t (get_or c.args.source.now.arcs c.args.state [])) = subst (λ row. Grown c.reach_all.new.self c.loop-arc.search c.args.from.now.weight (text_of c.reach_all.new.self.outputs c.args.from.now.output) (AlongArcs e c.args.tuple.now row)) whole (c.loop-arc.invariant.grown e k h) in
    let end : Grown d last from.weight (text_of c.loop-arc.search.outputs c.args.from.now.output) (AtEnd e t (final_of c.args.source.now.finals c.args.state)) = subst (λ f. Grown c.loop-arc.search c.finish.new.search c.args.from.now.weight (text_of c.loop-arc.search.outputs c.args.from.now.output) (AtEnd e c.args.tuple.now f)) c.final_of.ensures.value (c.in_ok-finish.ensures.grown e (subst (λ cs. Contains cs e) (sym same) k) h) in
    let texts = grows_trans c.args.search.now.outputs c.reach_all.new.self.outputs c.loop-arc.search.outputs c.in_ok-reach_all.ensures.texts c.loop-arc.invariant.texts in
    steps_whole c.args.source.now e c.args.state t (grown_growth from.weight y) a b d last
    (moves_as (grown_growth from.weight y) a b c.args.state t (moves_on e c.args.tuple.now 0) c.deref.result.now moved c.in_ok-reach_all.ensures)
    (from_start a b d from.weight from.output (AlongArcs e t (get_or c.args.source.now.arcs c.args.state [])) c.in_ok-reach_all.ensures.texts c.requires.from.output arcs)
    (from_start a d last from.weight from.output (AtEnd e t (final_of c.args.source.now.finals c.args.state)) texts c.requires.from.output end)

pub returns-clause-on : goal.returns-clause-on
returns-clause-on g c = g.met.X.Expander.on_again c.args.x.now c.loop-arc.x c.finish.new.x c.loop-arc.invariant.on c.in_ok-finish.ensures.on

pub returns-clause-pays : goal.returns-clause-pays
returns-clause-pays g c = pays_then c.args.source.now c.args.state c.args.tuple.now (g.X.Expander.calls c.args.x.now) (g.X.Expander.calls c.loop-arc.x) (g.X.Expander.calls c.finish.new.x) c.args.search.now.nodes c.loop-arc.search.nodes c.finish.new.search.nodes c.loop-arc.invariant.pays (c.in_ok-finish.ensures.pays c.args.source.now c.args.state c.final_of.ensures.value)
