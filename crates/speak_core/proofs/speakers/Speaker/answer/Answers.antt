use Rattle.std.proofs.Common.{◌∙◌, ap, sym}
use Rattle.place_words.specs.Seats.{view_of}
use Rattle.speak_core.specs.Parts.{says_of}
use Rattle.speak_core.proofs.Hearing.{heard_looked, heard_part, heard_said, heard_seat, said_seat}
use Rattle.speak_core.proofs.speakers.Speaker.answer.Goals as goal

pub returns-clause-said : goal.returns-clause-said
returns-clause-said c = heard_said (says_of c.args.self.now) c.args.line.now c.say-answer.result (sym c.is_short-was_short.ensures ∙ c.if-was_short.false) c.say-answer.ensures.said

pub returns-clause-part : goal.returns-clause-part
returns-clause-part c =
    heard_part c.args.self.now.normaliser c.args.line.now c.args.caller.now c.take_tally-others.new.self c.say-answer.new.caller c.take_tally-tally.new.self c.say-answer.result c.take_tally-tally.result
    (ap (λ s. (view_of s).log) c.take_tally-others.ensures.seat) c.take_tally-others.ensures.anew (sym c.is_short-was_short.ensures ∙ c.if-was_short.false)
    c.say-answer.ensures.searched c.say-answer.ensures.kept c.take_tally-tally.ensures.tally (ap (λ s. (view_of s).log) c.take_tally-tally.ensures.seat)
    (λ one. c.take_tally-tally.ensures.alone c.args.self.now.normaliser.shared c.say-answer.ensures.ready ((said_seat c.args.self.now.normaliser c.args.caller.now c.take_tally-others.new.self c.say-answer.new.caller c.say-answer.result c.take_tally-others.ensures.seat c.say-answer.ensures.searched).seats ∙ one))

pub returns-clause-looked : goal.returns-clause-looked
returns-clause-looked c =
    heard_looked c.args.self.now.normaliser c.args.self.now.mode c.args.line.now c.take_tally-others.new.self c.say-answer.new.caller c.say-answer.result c.take_tally-tally.result (c.take_tally-others.ensures.ready c.args.self.now.normaliser.shared c.requires.ready) c.take_tally-others.ensures.anew
    (sym c.is_short-was_short.ensures ∙ c.if-was_short.false) c.say-answer.ensures.said c.say-answer.ensures.searched c.say-answer.ensures.looks c.take_tally-tally.ensures.tally

pub returns-clause-seat : goal.returns-clause-seat
returns-clause-seat c = heard_seat c.args.self.now.normaliser c.args.caller.now c.take_tally-others.new.self c.say-answer.new.caller c.take_tally-tally.new.self c.say-answer.result c.take_tally-others.ensures.seat c.say-answer.ensures.searched c.take_tally-tally.ensures.seat

pub returns-then-was_short-clause-seat : goal.returns-then-was_short-clause-seat
returns-then-was_short-clause-seat c = heard_seat c.args.self.now.normaliser c.args.caller.now c.take_tally-others.new.self c.say-answer.new.caller c.take_tally-tally.new.self c.say-answer.result c.take_tally-others.ensures.seat c.say-answer.ensures.searched c.take_tally-tally.ensures.seat
