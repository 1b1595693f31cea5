use Rattle.std.proofs.Common.{◌∙◌, List, ap, arith, length, map, refl, subst, sym}
use Rattle.speak_core.specs.Logs.{Grows}
use Rattle.speak_core.specs.Parts.{says_of, tally_of}
use Rattle.speak_core.specs.declared.batches.Heard.{Heard}
use Rattle.speak_core.specs.declared.shares.Share.{Share}
use Rattle.speak_core.proofs.Dealing.{heard_front, heard_more, unheard}
use Rattle.normaliser.proofs.Searchings.{seat_same, seat_still}
use Rattle.speak_core.proofs.Logging.{grows_more, grows_none}
use Rattle.speak_core.proofs.shares.answer_share.Goals as goal

pub loop-line-preserved : goal.loop-line-preserved
loop-line-preserved g c =
    let still = c.loop-line.invariant.3 in
    let log = c.in-Ok.ensures.log in
    let counted = c.loop-line.invariant.1 in (
      heard_more (says_of c.args.speaker.now) c.args.share.now c.loop-line.line-index c.loop-line.heard.items c.loop-line.invariant.0 _ c.loop-line.number c.answer_one.new.heard.items c.loop-line-test.true c.requires.first counted (rw still at c.in-Ok.ensures.heard),
      omega (arith, counted),
      c.answer_one.ensures.ready,
      c.answer_one.ensures.still ∙ ap (λ (s : Share). record s { caller = c.answer_one.new.share.caller }) still,
      subst (Grows c.args.speaker.now.normaliser c.args.share.now.caller c.answer_one.new.share.caller) (sym log.1) (grows_more c.args.speaker.now.normaliser c.args.share.now.caller c.loop-line.share.caller c.answer_one.new.share.caller (map tally_of c.loop-line.heard.items) log.0 c.loop-line.invariant.5 c.loop-line.invariant.4 log.2),
      seat_still c.args.share.now.caller c.loop-line.share.caller c.answer_one.new.share.caller c.loop-line.invariant.5 c.answer_one.ensures.seat,
    )

pub loop-line-init : goal.loop-line-init
loop-line-init g c = (rw c.new-heard.ensures.items tt, omega arith, c.requires.ready, refl, rw c.new-heard.ensures.items (grows_none c.args.speaker.now.normaliser c.args.share.now.caller c.args.share.now.caller refl), seat_same c.args.share.now.caller c.args.share.now.caller refl)

pub returns-in_default-clause-log : goal.returns-in_default-clause-log
returns-in_default-clause-log g c = λ all.
    let still = c.loop-line.invariant.3 in
    absurd (let less = unheard (says_of c.args.speaker.now) c.args.share.now c.loop-line.line-index c.loop-line.heard.items c.loop-line.invariant.0 c.loop-line.number c.loop-line-test.true c.requires.first c.loop-line.invariant.1 (rw still at c.in_default.ensures.turn) in
    let same = ap (λ (l : List Heard). length l) c.in_default.ensures.none in omega (arith, less, same, all))

pub returns-clause-log : goal.returns-clause-log
returns-clause-log g c = λ all. c.loop-line.invariant.4

pub returns-in_default-clause-heard : goal.returns-in_default-clause-heard
returns-in_default-clause-heard g c = rw c.in_default.ensures.none (heard_front (says_of c.args.speaker.now) c.args.share.now c.loop-line.line-index c.loop-line.heard.items c.loop-line.invariant.0)

pub returns-clause-heard : goal.returns-clause-heard
returns-clause-heard g c = heard_front (says_of c.args.speaker.now) c.args.share.now c.loop-line.line-index c.loop-line.heard.items c.loop-line.invariant.0

pub returns-in_default-clause-seat : goal.returns-in_default-clause-seat
returns-in_default-clause-seat g c = seat_still c.args.share.now.caller c.loop-line.share.caller c.answer_one.new.share.caller c.loop-line.invariant.5 c.answer_one.ensures.seat
