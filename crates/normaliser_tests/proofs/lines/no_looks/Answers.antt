use Rattle.normaliser_tests.proofs.lines.no_looks.Goals as goal

pub speak_line-answer-requires : goal.speak_line-answer-requires
speak_line-answer-requires g c = record { ready = c.take_tally.ensures.ready c.in_ok-normaliser.field-0.normaliser.shared c.speak_line-long.ensures.ready }
