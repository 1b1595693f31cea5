use Rattle.std.proofs.Common.{◌≡◌, [], get_or, refl, sym, ap, ◌∙◌, subst, arith, inl}
use Rattle.std.proofs.lemmas.List.{take_all}
use Rattle.least_path.specs.declared.node.Node.TheVariants.{At}
use Rattle.state_tuples.specs.declared.tuples.Tuple.{Tuple}
use Rattle.state_tuples.specs.declared.tuples.TupleArc.{TupleArc}
use Rattle.weighted_relations.specs.Graphs.{label}
use Rattle.state_tuples.specs.Cascades.{next_of}
use Rattle.least_path.specs.Texts.{text_of}
use Rattle.least_path.specs.Keeps.{IsEdge}
use Rattle.least_path.specs.Growths.{AlongMoves, Steps}
use Rattle.least_path.specs.Ending.{CanEnd}
use Rattle.least_path.specs.Passing.{Passes}
use Rattle.least_path.specs.Relaxing.{Gained}
use Rattle.least_path.proofs.Letters.{grows_same, grows_text, grows_trans}
use Rattle.least_path.proofs.Waiters.{fits_grow}
use Rattle.least_path.proofs.Meeting.{gained_none, gained_growth, gained_at}
use Rattle.least_path.proofs.Along.{moves_more}
use Rattle.least_path.specs.Paying.{IsAt}
use Rattle.least_path.proofs.Paying.{adds_then}
use Rattle.least_path.proofs.spreading.spread_moves.Goals as goal

abbrev no_move : TupleArc
no_move = record { input = 0; output = 0; weight = 0; filters = 0; states = [] }

pub loop-a-init : goal.loop-a-init
loop-a-init g c = record {
  kept = c.requires.kept;
  texts = grows_same c.args.search.now.outputs c.args.search.now.outputs refl;
  gained = λ d k h. gained_none (Passes (Steps c.args.source.now d)) (CanEnd c.args.source.now d) c.args.search.now c.args.from.now.weight (text_of c.args.search.now.outputs c.args.from.now.output) (AlongMoves c.args.state c.args.tuple.now []) c.requires.kept (λ n u z e l. omega (arith, e.1.1));
  adds = λ k v at. inl at;
}

pub loop-a-preserved-then-is_dead : goal.loop-a-preserved-then-is_dead
loop-a-preserved-then-is_dead g c =
    let a = c.args.search.now in
    let b = c.loop-a.search in
    let y = text_of c.args.search.now.outputs c.args.from.now.output in
    let m : TupleArc = get_or c.args.moves.now c.loop-a.a-index no_move in
    record {
      kept = c.loop-a.invariant.kept;
      texts = c.loop-a.invariant.texts;
      gained = λ d k h. moves_more (gained_growth (Passes (Steps c.args.source.now d)) (CanEnd c.args.source.now d) c.args.from.now.weight y) a b b c.args.state c.args.tuple.now c.args.moves.now c.loop-a.a-index no_move c.loop-a-test.true (c.loop-a.invariant.gained d k h)
          (gained_none (Passes (Steps c.args.source.now d)) (CanEnd c.args.source.now d) b c.args.from.now.weight y (IsEdge (At c.args.state (next_of c.args.tuple.now m)) m.weight (label m.output [])) c.loop-a.invariant.kept (λ n u z e l. c.is_dead.ensures c.if-is_dead.true d k (ap (λ (t : Tuple). t.cascade) c.next_tuple-next.ensures ∙ h.number) (subst (CanEnd c.args.source.now d) (e.0 ∙ ap (At c.args.state) (sym c.next_tuple-next.ensures)) l)));
      adds = c.loop-a.invariant.adds;
    }

-- the move at the loop's place leads to a known tuple
pub meet_along-requires : goal.meet_along-requires
meet_along-requires g c = record {
  ready = c.requires.ready;
  state = c.requires.state;
  next = λ d k h. c.requires.moves d k h c.loop-a.a-index no_move c.loop-a-test.true;
  kept = c.loop-a.invariant.kept;
  from = fits_grow c.args.search.now.outputs c.loop-a.search.outputs c.loop-a.invariant.texts c.args.from.now c.requires.from;
  light = c.requires.light;
  short = c.requires.short;
}

pub loop-a-preserved : goal.loop-a-preserved
loop-a-preserved g c =
    let a = c.args.search.now in
    let b = c.loop-a.search in
    let e = c.meet_along.new.search in
    let w = c.args.from.now.weight in
    let y = text_of c.args.search.now.outputs c.args.from.now.output in
    let same : text_of c.loop-a.search.outputs c.args.from.now.output ≡ text_of c.args.search.now.outputs c.args.from.now.output = grows_text c.args.search.now.outputs c.loop-a.search.outputs c.loop-a.invariant.texts c.args.from.now.output c.requires.from.output in
    record {
      kept = c.in_ok-meet_along.ensures.kept;
      texts = grows_trans c.args.search.now.outputs c.loop-a.search.outputs c.meet_along.new.search.outputs c.loop-a.invariant.texts c.in_ok-meet_along.ensures.texts;
      gained = λ d k h. moves_more (gained_growth (Passes (Steps c.args.source.now d)) (CanEnd c.args.source.now d) w y) a b e c.args.state c.args.tuple.now c.args.moves.now c.loop-a.a-index no_move c.loop-a-test.true (c.loop-a.invariant.gained d k h)
          (gained_at (Passes (Steps c.args.source.now d)) (CanEnd c.args.source.now d) b e w y (text_of c.loop-a.search.outputs c.args.from.now.output) same (c.in_ok-meet_along.ensures.gained d k h));
      adds = adds_then (IsAt c.args.state) a.nodes b.nodes e.nodes c.loop-a.invariant.adds c.in_ok-meet_along.ensures.adds;
    }

pub returns-clause-gained : goal.returns-clause-gained
returns-clause-gained g c = λ d k h.
    subst (λ ms. Gained (Passes (Steps c.args.source.now d)) (CanEnd c.args.source.now d) c.args.search.now c.loop-a.search c.args.from.now.weight (text_of c.args.search.now.outputs c.args.from.now.output) (AlongMoves c.args.state c.args.tuple.now ms)) (take_all c.loop-a.a-index c.args.moves.now (omega arith)) (c.loop-a.invariant.gained d k h)
