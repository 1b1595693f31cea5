use Rattle.std.proofs.Common.{◌≡◌, [], arith}
use Rattle.least_path.specs.Texts.{text_of}
use Rattle.least_path.specs.Growths.{AlongMoves}
use Rattle.least_path.proofs.Letters.{grows_text}
use Rattle.least_path.proofs.Waiters.{fits_grow}
use Rattle.least_path.proofs.Joining.{grown_none, grown_growth, at_text}
use Rattle.least_path.proofs.Along.{moves_more}
use Rattle.least_path.proofs.reaching.Search.reach_all.Goals as goal

pub loop-a-init : goal.loop-a-init
loop-a-init c = grown_none c.args.self.now c.args.from.now.weight (text_of c.args.self.now.outputs c.args.from.now.output) (AlongMoves c.args.state c.args.tuple.now []) c.requires.kept (λ n u z h. omega (arith, h.1.1))

pub reach-requires : goal.reach-requires
reach-requires c = record { kept = c.loop-a.invariant.kept; from = fits_grow c.args.self.now.outputs c.loop-a.self.outputs c.loop-a.invariant.texts c.args.from.now c.requires.from; light = c.requires.light; short = c.requires.short }

pub loop-a-preserved : goal.loop-a-preserved
loop-a-preserved c =
    let same : text_of c.loop-a.self.outputs c.args.from.now.output ≡ text_of c.args.self.now.outputs c.args.from.now.output = grows_text c.args.self.now.outputs c.loop-a.self.outputs c.loop-a.invariant.texts c.args.from.now.output c.requires.from.output in
    moves_more (grown_growth c.args.from.now.weight (text_of c.args.self.now.outputs c.args.from.now.output)) c.args.self.now c.loop-a.self c.reach.new.self c.args.state c.args.tuple.now c.args.moves.now c.loop-a.a-index (record { input = 0; output = 0; weight = 0; filters = 0; states = [] }) c.loop-a-test.true c.loop-a.invariant
    (at_text c.loop-a.self c.reach.new.self c.args.from.now.weight (text_of c.args.self.now.outputs c.args.from.now.output) (text_of c.loop-a.self.outputs c.args.from.now.output) same c.in_ok-reach.ensures)
