use Rattle.std.proofs.Common.{inl, inr, refl, true, false}
use Rattle.speak_core.specs.Devices.{Observed, OfInput, SinkSeen, seen, sink_seen}
use Rattle.speak_core.specs.Left.{LeavesCallers}
use Rattle.speak_core.specs.declared.stop.Stop.TheVariants.{Words, Outside, TooLong}
use Rattle.speak_core.proofs.Endings.{left_at, refusal_end, stopped_with, told_words, stopped_at, words_end, at_most_six, finished, all_read_at, some_refused_at, is_refusal, refused_end, long_end, outside_rose, none_rose, at_end, speaks_at, then_err, Known, complete_end, told_refusal, told_stop, told_short}
use Rattle.speak_core.proofs.top.speak.Given as given
use Rattle.speak_core.proofs.top.speak.Goals as goal

-- what the run saw of its devices
abbrev ran : (g : given.Over) → goal.After-finish g → Observed
ran g c = seen g.H.Shelf g.S.Source g.O.Sink g.E.Sink c.args.shelf.now c.args.source.now c.args.out.now c.args.err.now c.run-ended.new.shelf c.run-ended.new.source c.run-ended.new.out c.run-ended.new.err

-- and the errors, after all was told
abbrev last : (g : given.Over) → goal.After-finish g → SinkSeen
last g c = sink_seen g.E.Sink c.finish.new.err

known : (g : given.Over) → (c : goal.After-finish g) → Known c.args.words.now (g.H.Shelf.files c.args.shelf.now) (g.S.Source.left c.args.source.now) (then_err (ran g c) (last g c)) c.run-ended.result
known g c = record {
  wrong = c.run-ended.ensures.words;
  refusals = c.run-ended.ensures.refused;
  rises = outside_rose (ran g c) (last g c) c.run-ended.result c.run-ended.ensures.counts c.finish.ensures.later;
  long = c.run-ended.ensures.too_long;
  kept = c.run-ended.ensures.kept;
}

pub returns-clause-range : goal.returns-clause-range
returns-clause-range g c = at_most_six c.run-ended.result c.finish.result c.finish.ensures.status

pub returns-clause-wrong_words : goal.returns-clause-wrong_words
returns-clause-wrong_words g c = λ h. c.run-ended.ensures.words (stopped_at c.run-ended.result Words c.finish.result c.finish.ensures.status h refl refl)

pub returns-clause-only_wrong_words : goal.returns-clause-only_wrong_words
returns-clause-only_wrong_words g c = λ h. words_end c.run-ended.result c.finish.result c.finish.ensures.status (c.run-ended.ensures.only_words h)

pub returns-clause-refused : goal.returns-clause-refused
returns-clause-refused g c = λ h. refusal_end c.args.words.now (g.H.Shelf.files c.args.shelf.now) c.run-ended.result c.finish.result c.finish.ensures.status h c.run-ended.ensures.refused

pub returns-clause-only_refused : goal.returns-clause-only_refused
returns-clause-only_refused g c = refused_end c.args.words.now (g.H.Shelf.files c.args.shelf.now) _ c.run-ended.result c.finish.result c.finish.ensures.status c.run-ended.ensures.words c.run-ended.ensures.only_refused c.run-ended.ensures.only_shelf

pub returns-clause-outside : goal.returns-clause-outside
returns-clause-outside g c = λ h.
    outside_rose (ran g c) (last g c) c.run-ended.result c.run-ended.ensures.counts c.finish.ensures.later (stopped_at c.run-ended.result Outside c.finish.result c.finish.ensures.status h refl refl)

pub returns-clause-too_long : goal.returns-clause-too_long
returns-clause-too_long g c = λ h. c.run-ended.ensures.too_long (stopped_at c.run-ended.result TooLong c.finish.result c.finish.ensures.status h refl refl)

pub returns-clause-only_too_long : goal.returns-clause-only_too_long
returns-clause-only_too_long g c = long_end (g.S.Source.left c.args.source.now) (g.S.Source.left c.run-ended.new.source) c.run-ended.result c.finish.result c.finish.ensures.status c.run-ended.ensures.only_too_long

pub returns-clause-quiet : goal.returns-clause-quiet
returns-clause-quiet g c = λ h.
    none_rose (ran g c) (last g c) c.run-ended.result c.run-ended.ensures.counts (finished c.run-ended.result c.finish.result c.finish.ensures.status h) c.finish.ensures.kept_count

pub returns-clause-read : goal.returns-clause-read
returns-clause-read g c = λ h.
    speaks_at c.args.words.now (ran g c) (last g c) c.run-ended.result true (all_read_at c.run-ended.result c.finish.result c.finish.ensures.status h) c.run-ended.ensures.done c.finish.ensures.kept

pub returns-clause-some_refused : goal.returns-clause-some_refused
returns-clause-some_refused g c = λ h.
    speaks_at c.args.words.now (ran g c) (last g c) c.run-ended.result false (some_refused_at c.run-ended.result c.finish.result c.finish.ensures.status h) c.run-ended.ensures.done c.finish.ensures.kept

pub returns-clause-end : goal.returns-clause-end
returns-clause-end g c = λ h. at_end _ c.run-ended.result c.run-ended.ensures.end (finished c.run-ended.result c.finish.result c.finish.ensures.status h)

pub returns-clause-front : goal.returns-clause-front
returns-clause-front g c = c.run-ended.ensures.words_front

pub returns-clause-silent : goal.returns-clause-silent
returns-clause-silent g c = λ h. c.run-ended.ensures.silent_out (is_refusal c.run-ended.result c.finish.result c.finish.ensures.status h)

pub returns-clause-complete : goal.returns-clause-complete
returns-clause-complete g c =
    complete_end c.args.words.now (g.H.Shelf.files c.args.shelf.now) (g.S.Source.left c.args.source.now) (then_err (ran g c) (last g c)) c.run-ended.result c.finish.result c.finish.ensures.status
    (known g c)

pub returns-clause-told_words : goal.returns-clause-told_words
returns-clause-told_words g c = λ h.
    told_words c.run-ended.result c.finish.result (ran g c).before.err (ran g c).after.err (last g c)
    c.finish.ensures.status c.finish.ensures.told h c.run-ended.ensures.later (c.run-ended.ensures.silent_err (is_refusal c.run-ended.result c.finish.result c.finish.ensures.status (inl h)))

pub returns-clause-told_refused : goal.returns-clause-told_refused
returns-clause-told_refused g c = λ h.
    told_refusal c.args.words.now (g.H.Shelf.files c.args.shelf.now) c.run-ended.result c.finish.result (ran g c).before.err (ran g c).after.err (last g c)
    c.finish.ensures.status c.finish.ensures.told h c.run-ended.ensures.later (c.run-ended.ensures.silent_err (is_refusal c.run-ended.result c.finish.result c.finish.ensures.status (inr h))) c.run-ended.ensures.refused

pub returns-clause-told_outside : goal.returns-clause-told_outside
returns-clause-told_outside g c = λ h.
    told_stop c.args.words.now (g.H.Shelf.files c.args.shelf.now) (g.S.Source.left c.args.source.now) c.run-ended.result Outside c.finish.result (ran g c).before.err (ran g c).after.err (last g c)
    c.finish.ensures.status c.finish.ensures.told h refl refl c.run-ended.ensures.later c.run-ended.ensures.faults_front

pub returns-clause-told_too_long : goal.returns-clause-told_too_long
returns-clause-told_too_long g c = λ h.
    told_stop c.args.words.now (g.H.Shelf.files c.args.shelf.now) (g.S.Source.left c.args.source.now) c.run-ended.result TooLong c.finish.result (ran g c).before.err (ran g c).after.err (last g c)
    c.finish.ensures.status c.finish.ensures.told h refl refl c.run-ended.ensures.later c.run-ended.ensures.faults_front

pub returns-clause-told_memory : goal.returns-clause-told_memory
returns-clause-told_memory g c = λ h.
    told_short c.args.words.now (g.H.Shelf.files c.args.shelf.now) (g.S.Source.left c.args.source.now) (then_err (ran g c) (last g c)) c.run-ended.result c.finish.result (g.E.Sink.held c.run-ended.new.err) c.finish.ensures.status h
    (known g c)
    (c.finish.ensures.short h) c.run-ended.ensures.faults_front

pub returns-clause-unread : goal.returns-clause-unread
returns-clause-unread g c = λ h. c.run-ended.ensures.unread (is_refusal c.run-ended.result c.finish.result c.finish.ensures.status h)

pub returns-clause-files : goal.returns-clause-files
returns-clause-files g c = c.run-ended.ensures.files

pub returns-clause-kept : goal.returns-clause-kept
returns-clause-kept g c = c.run-ended.ensures.kept

pub returns-clause-given : goal.returns-clause-given
returns-clause-given g c = c.run-ended.ensures.given

pub returns-clause-callers : goal.returns-clause-callers
returns-clause-callers g c = λ h.
    left_at (λ errors. OfInput (g.H.Shelf.files c.args.shelf.now) (g.S.Source.left c.args.source.now) (λ files input. LeavesCallers c.args.words.now files input c.run-ended.new.callers.items (g.E.Sink.held c.args.err.now) errors)) (g.E.Sink.held c.run-ended.new.err) (g.E.Sink.held c.finish.new.err) c.run-ended.result
    c.run-ended.ensures.left c.finish.ensures.kept (finished c.run-ended.result c.finish.result c.finish.ensures.status h)

pub returns-clause-no_callers : goal.returns-clause-no_callers
returns-clause-no_callers g c = λ h. stopped_with _ c.run-ended.result c.finish.result c.finish.ensures.status h c.run-ended.ensures.none
