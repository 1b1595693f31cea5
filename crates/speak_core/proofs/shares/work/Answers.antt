use Rattle.normaliser.proofs.Searchings.{seat_kept, seat_still}
use Rattle.speak_core.proofs.Sweeping.{sweep_found}
use Rattle.speak_core.proofs.Logging.{grows_swept}
use Rattle.speak_core.proofs.shares.work.Goals as goal

pub returns : goal.returns
returns g c =
    let swept = c.sweep-swept.ensures.swept in
    record {
      ready = c.sweep-swept.ensures.ready;
      seat = seat_still c.args.share.caller c.answer_share-heard.new.share.caller c.sweep-swept.new.caller c.answer_share-heard.ensures.seat (seat_kept c.answer_share-heard.new.share.caller c.sweep-swept.new.caller swept.0 swept.2.view);
      heard = c.answer_share-heard.ensures.heard;
      swept = sweep_found c.args.speaker.now.normaliser.shared c.answer_share-heard.new.share.caller c.sweep-swept.new.caller _ _ swept.0 c.sweep-swept.result swept.1 swept.2;
      middle = c.answer_share-heard.new.share.caller;
      grew = c.answer_share-heard.ensures.log;
      by_sweep = grows_swept c.args.speaker.now.normaliser c.answer_share-heard.new.share.caller c.sweep-swept.new.caller c.args.share.rounds swept.0 c.sweep-swept.result swept.1 swept.2;
    }
