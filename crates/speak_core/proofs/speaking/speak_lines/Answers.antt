use Rattle.std.proofs.Common.{◌≡◌, ◌<◌, ◌≤◌, ◌+◌, ◌*◌, ◌^◌, ◌∙◌, ◌&&◌, length, refl, subst, sym}
use Rattle.speak_words.specs.Asked.{AreInBounds}
use Rattle.speak_core.specs.Intakes.{AreWhole}
use Rattle.speak_core.specs.Parts.{says_of}
use Rattle.speak_core.specs.Reports.{swept_sum}
use Rattle.text_lines.specs.Lines.{lines}
use Rattle.speak_core.proofs.Said.{says_once}
use Rattle.speak_core.proofs.SoFar.{far_ends, last_count, last_ran, last_swept, ran_more, ran_none, so_far_few, so_far_room, text_ends, text_few, text_parts, text_smaller}
use Rattle.speak_core.proofs.speaking.speak_lines.Goals as goal
use Rattle.speak_core.proofs.speaking.speak_lines.Goals.{then-is_read, else-is_read}

pub loop-intake-init : goal.loop-intake-init
loop-intake-init g c = (
  c.requires.ready,
  refl,
  refl,
  c.new-intake.ensures.is,
  ran_none (says_of c.args.speaker.now) c.args.speaker.now.normaliser c.args.crew.now _ c.args.crew.now.settings c.args.crew.now.swept _ (g.S.Source.left c.args.source.now) c.new-intake.result _ _ _ _ _ c.new-intake.ensures.none c.new-intake.ensures.given c.requires.none c.requires.unswept c.requires.begun,
  refl,
)

pub speak_text-requires-clause-few : goal.speak_text-requires-clause-few
speak_text-requires-clause-few g c κs within = subst (λ t. length (lines t) ≤ 1024) (sym c.deref.ensures.value) (text_few c.in_ok-is_full.is_full c.fill.new.self.bytes.items c.in_ok-text.text.items c.take_text.new.self.bytes.items _ c.in_ok-text.ensures.whole c.in_ok-is_full.ensures.full c.in_ok-is_full.ensures.few c.in_ok-text.ensures.parts)

pub speak_text-requires-clause-numbers : goal.speak_text-requires-clause-numbers
speak_text-requires-clause-numbers g c κs within = so_far_few (says_of c.args.speaker.now) _ _ _ _ _ _ _ _ _ _ _ _ _ _ _ _ _ _ c.loop-intake.invariant.4.far c.loop-intake.invariant.3

pub speak_text-requires-clause-room : goal.speak_text-requires-clause-room
speak_text-requires-clause-room g c κs within =
    subst (λ s. swept_sum c.loop-intake.crew.swept + s.places * s.sweep < 2 ^ 64) (sym c.loop-intake.invariant.2)
    (so_far_room (says_of c.args.speaker.now) _ _ _ _ _ _ _ _ _ _ _ _ _ _ _ _ _ _ c.loop-intake.invariant.4.far c.loop-intake.invariant.3 (subst AreInBounds c.loop-intake.invariant.2 c.loop-intake.invariant.0.bounds))

pub returns-in_err-is_full-clause-out_front : goal.returns-in_err-is_full-clause-out_front
returns-in_err-is_full-clause-out_front g c = (far_ends (says_of c.args.speaker.now) _ _ _ _ _ _ _ _ _ _ _ _ _ _ _ _ _ _ c.loop-intake.invariant.4.far (says_once c.args.speaker.now.mode _ _) (g.S.Source.left c.fill.new.source) (c.fill.ensures.within (g.S.Source.left c.args.source.now) c.loop-intake.invariant.4.far.handled c.loop-intake.invariant.4.far.batches c.loop-intake.invariant.4.far.holds c.loop-intake.invariant.4.far.whole.ends c.loop-intake.invariant.4.far.within)).words

pub returns-in_err-is_full-clause-err_front : goal.returns-in_err-is_full-clause-err_front
returns-in_err-is_full-clause-err_front g c = (far_ends (says_of c.args.speaker.now) _ _ _ _ _ _ _ _ _ _ _ _ _ _ _ _ _ _ c.loop-intake.invariant.4.far (says_once c.args.speaker.now.mode _ _) (g.S.Source.left c.fill.new.source) (c.fill.ensures.within (g.S.Source.left c.args.source.now) c.loop-intake.invariant.4.far.handled c.loop-intake.invariant.4.far.batches c.loop-intake.invariant.4.far.holds c.loop-intake.invariant.4.far.whole.ends c.loop-intake.invariant.4.far.within)).faults

pub returns-in_err-is_full-clause-given : goal.returns-in_err-is_full-clause-given
returns-in_err-is_full-clause-given g c = (far_ends (says_of c.args.speaker.now) _ _ _ _ _ _ _ _ _ _ _ _ _ _ _ _ _ _ c.loop-intake.invariant.4.far (says_once c.args.speaker.now.mode _ _) (g.S.Source.left c.fill.new.source) (c.fill.ensures.within (g.S.Source.left c.args.source.now) c.loop-intake.invariant.4.far.handled c.loop-intake.invariant.4.far.batches c.loop-intake.invariant.4.far.holds c.loop-intake.invariant.4.far.whole.ends c.loop-intake.invariant.4.far.within)).given

pub returns-in_err-text-clause-out_front : goal.returns-in_err-text-clause-out_front
returns-in_err-text-clause-out_front g c = (far_ends (says_of c.args.speaker.now) _ _ _ _ _ _ _ _ _ _ _ _ _ _ _ _ _ _ c.loop-intake.invariant.4.far (says_once c.args.speaker.now.mode _ _) (g.S.Source.left c.fill.new.source) (c.fill.ensures.within (g.S.Source.left c.args.source.now) c.loop-intake.invariant.4.far.handled c.loop-intake.invariant.4.far.batches c.loop-intake.invariant.4.far.holds c.loop-intake.invariant.4.far.whole.ends c.loop-intake.invariant.4.far.within)).words

pub returns-in_err-text-clause-err_front : goal.returns-in_err-text-clause-err_front
returns-in_err-text-clause-err_front g c = (far_ends (says_of c.args.speaker.now) _ _ _ _ _ _ _ _ _ _ _ _ _ _ _ _ _ _ c.loop-intake.invariant.4.far (says_once c.args.speaker.now.mode _ _) (g.S.Source.left c.fill.new.source) (c.fill.ensures.within (g.S.Source.left c.args.source.now) c.loop-intake.invariant.4.far.handled c.loop-intake.invariant.4.far.batches c.loop-intake.invariant.4.far.holds c.loop-intake.invariant.4.far.whole.ends c.loop-intake.invariant.4.far.within)).faults

pub returns-in_err-text-clause-given : goal.returns-in_err-text-clause-given
returns-in_err-text-clause-given g c = (far_ends (says_of c.args.speaker.now) _ _ _ _ _ _ _ _ _ _ _ _ _ _ _ _ _ _ c.loop-intake.invariant.4.far (says_once c.args.speaker.now.mode _ _) (g.S.Source.left c.fill.new.source) (c.fill.ensures.within (g.S.Source.left c.args.source.now) c.loop-intake.invariant.4.far.handled c.loop-intake.invariant.4.far.batches c.loop-intake.invariant.4.far.holds c.loop-intake.invariant.4.far.whole.ends c.loop-intake.invariant.4.far.within)).given

pub returns-in_err-now_read-clause-out_front : goal.returns-in_err-now_read-clause-out_front
returns-in_err-now_read-clause-out_front g c =
    (text_ends (says_of c.args.speaker.now) _ _ _ _ _ _ _ _ _ _ _ _ _ _ _ _ _ _ c.loop-intake.invariant.4.far (g.S.Source.left c.fill.new.source) c.fill.new.self (c.in_ok-is_full.ensures.holds (g.S.Source.left c.args.source.now) c.loop-intake.invariant.4.far.handled c.loop-intake.invariant.4.far.holds) (c.fill.ensures.within (g.S.Source.left c.args.source.now) c.loop-intake.invariant.4.far.handled c.loop-intake.invariant.4.far.batches c.loop-intake.invariant.4.far.holds c.loop-intake.invariant.4.far.whole.ends c.loop-intake.invariant.4.far.within) c.in_ok-text.text.items c.take_text.new.self.bytes.items c.in_ok-text.ensures.parts
    (text_parts c.in_ok-is_full.is_full c.in_ok-text.text.items c.take_text.new.self.bytes.items _ (g.S.Source.left c.fill.new.source) c.in_ok-text.ensures.whole c.in_ok-text.ensures.all c.in_ok-is_full.ensures.end)
    (g.O.Sink.held c.speak_text.new.out) (g.E.Sink.held c.speak_text.new.err) (rw c.deref.ensures.value at c.speak_text.ensures.out_front) (rw (c.deref.ensures.value, c.loop-intake.invariant.1) at c.speak_text.ensures.err_front) (says_once c.args.speaker.now.mode _ _)).words

pub returns-in_err-now_read-clause-err_front : goal.returns-in_err-now_read-clause-err_front
returns-in_err-now_read-clause-err_front g c =
    (text_ends (says_of c.args.speaker.now) _ _ _ _ _ _ _ _ _ _ _ _ _ _ _ _ _ _ c.loop-intake.invariant.4.far (g.S.Source.left c.fill.new.source) c.fill.new.self (c.in_ok-is_full.ensures.holds (g.S.Source.left c.args.source.now) c.loop-intake.invariant.4.far.handled c.loop-intake.invariant.4.far.holds) (c.fill.ensures.within (g.S.Source.left c.args.source.now) c.loop-intake.invariant.4.far.handled c.loop-intake.invariant.4.far.batches c.loop-intake.invariant.4.far.holds c.loop-intake.invariant.4.far.whole.ends c.loop-intake.invariant.4.far.within) c.in_ok-text.text.items c.take_text.new.self.bytes.items c.in_ok-text.ensures.parts
    (text_parts c.in_ok-is_full.is_full c.in_ok-text.text.items c.take_text.new.self.bytes.items _ (g.S.Source.left c.fill.new.source) c.in_ok-text.ensures.whole c.in_ok-text.ensures.all c.in_ok-is_full.ensures.end)
    (g.O.Sink.held c.speak_text.new.out) (g.E.Sink.held c.speak_text.new.err) (rw c.deref.ensures.value at c.speak_text.ensures.out_front) (rw (c.deref.ensures.value, c.loop-intake.invariant.1) at c.speak_text.ensures.err_front) (says_once c.args.speaker.now.mode _ _)).faults

pub returns-in_err-now_read-clause-given : goal.returns-in_err-now_read-clause-given
returns-in_err-now_read-clause-given g c =
    (text_ends (says_of c.args.speaker.now) _ _ _ _ _ _ _ _ _ _ _ _ _ _ _ _ _ _ c.loop-intake.invariant.4.far (g.S.Source.left c.fill.new.source) c.fill.new.self (c.in_ok-is_full.ensures.holds (g.S.Source.left c.args.source.now) c.loop-intake.invariant.4.far.handled c.loop-intake.invariant.4.far.holds) (c.fill.ensures.within (g.S.Source.left c.args.source.now) c.loop-intake.invariant.4.far.handled c.loop-intake.invariant.4.far.batches c.loop-intake.invariant.4.far.holds c.loop-intake.invariant.4.far.whole.ends c.loop-intake.invariant.4.far.within) c.in_ok-text.text.items c.take_text.new.self.bytes.items c.in_ok-text.ensures.parts
    (text_parts c.in_ok-is_full.is_full c.in_ok-text.text.items c.take_text.new.self.bytes.items _ (g.S.Source.left c.fill.new.source) c.in_ok-text.ensures.whole c.in_ok-text.ensures.all c.in_ok-is_full.ensures.end)
    (g.O.Sink.held c.speak_text.new.out) (g.E.Sink.held c.speak_text.new.err) (rw c.deref.ensures.value at c.speak_text.ensures.out_front) (rw (c.deref.ensures.value, c.loop-intake.invariant.1) at c.speak_text.ensures.err_front) (says_once c.args.speaker.now.mode _ _)).given

pub returns-then-not-is_full-clause-out_front : goal.returns-then-not-is_full-clause-out_front
returns-then-not-is_full-clause-out_front g c =
    (text_ends (says_of c.args.speaker.now) _ _ _ _ _ _ _ _ _ _ _ _ _ _ _ _ _ _ c.loop-intake.invariant.4.far (g.S.Source.left c.fill.new.source) c.fill.new.self (c.in_ok-is_full.ensures.holds (g.S.Source.left c.args.source.now) c.loop-intake.invariant.4.far.handled c.loop-intake.invariant.4.far.holds) (c.fill.ensures.within (g.S.Source.left c.args.source.now) c.loop-intake.invariant.4.far.handled c.loop-intake.invariant.4.far.batches c.loop-intake.invariant.4.far.holds c.loop-intake.invariant.4.far.whole.ends c.loop-intake.invariant.4.far.within) c.in_ok-text.text.items c.take_text.new.self.bytes.items c.in_ok-text.ensures.parts
    (text_parts c.in_ok-is_full.is_full c.in_ok-text.text.items c.take_text.new.self.bytes.items _ (g.S.Source.left c.fill.new.source) c.in_ok-text.ensures.whole c.in_ok-text.ensures.all c.in_ok-is_full.ensures.end)
    (g.O.Sink.held c.speak_text.new.out) (g.E.Sink.held c.speak_text.new.err) (rw c.deref.ensures.value at c.speak_text.ensures.out_front) (rw (c.deref.ensures.value, c.loop-intake.invariant.1) at c.speak_text.ensures.err_front) (says_once c.args.speaker.now.mode _ _)).words

pub returns-then-not-is_full-clause-err_front : goal.returns-then-not-is_full-clause-err_front
returns-then-not-is_full-clause-err_front g c =
    (text_ends (says_of c.args.speaker.now) _ _ _ _ _ _ _ _ _ _ _ _ _ _ _ _ _ _ c.loop-intake.invariant.4.far (g.S.Source.left c.fill.new.source) c.fill.new.self (c.in_ok-is_full.ensures.holds (g.S.Source.left c.args.source.now) c.loop-intake.invariant.4.far.handled c.loop-intake.invariant.4.far.holds) (c.fill.ensures.within (g.S.Source.left c.args.source.now) c.loop-intake.invariant.4.far.handled c.loop-intake.invariant.4.far.batches c.loop-intake.invariant.4.far.holds c.loop-intake.invariant.4.far.whole.ends c.loop-intake.invariant.4.far.within) c.in_ok-text.text.items c.take_text.new.self.bytes.items c.in_ok-text.ensures.parts
    (text_parts c.in_ok-is_full.is_full c.in_ok-text.text.items c.take_text.new.self.bytes.items _ (g.S.Source.left c.fill.new.source) c.in_ok-text.ensures.whole c.in_ok-text.ensures.all c.in_ok-is_full.ensures.end)
    (g.O.Sink.held c.speak_text.new.out) (g.E.Sink.held c.speak_text.new.err) (rw c.deref.ensures.value at c.speak_text.ensures.out_front) (rw (c.deref.ensures.value, c.loop-intake.invariant.1) at c.speak_text.ensures.err_front) (says_once c.args.speaker.now.mode _ _)).faults

pub returns-then-not-is_full-clause-given : goal.returns-then-not-is_full-clause-given
returns-then-not-is_full-clause-given g c =
    (text_ends (says_of c.args.speaker.now) _ _ _ _ _ _ _ _ _ _ _ _ _ _ _ _ _ _ c.loop-intake.invariant.4.far (g.S.Source.left c.fill.new.source) c.fill.new.self (c.in_ok-is_full.ensures.holds (g.S.Source.left c.args.source.now) c.loop-intake.invariant.4.far.handled c.loop-intake.invariant.4.far.holds) (c.fill.ensures.within (g.S.Source.left c.args.source.now) c.loop-intake.invariant.4.far.handled c.loop-intake.invariant.4.far.batches c.loop-intake.invariant.4.far.holds c.loop-intake.invariant.4.far.whole.ends c.loop-intake.invariant.4.far.within) c.in_ok-text.text.items c.take_text.new.self.bytes.items c.in_ok-text.ensures.parts
    (text_parts c.in_ok-is_full.is_full c.in_ok-text.text.items c.take_text.new.self.bytes.items _ (g.S.Source.left c.fill.new.source) c.in_ok-text.ensures.whole c.in_ok-text.ensures.all c.in_ok-is_full.ensures.end)
    (g.O.Sink.held c.speak_text.new.out) (g.E.Sink.held c.speak_text.new.err) (rw c.deref.ensures.value at c.speak_text.ensures.out_front) (rw (c.deref.ensures.value, c.loop-intake.invariant.1) at c.speak_text.ensures.err_front) (says_once c.args.speaker.now.mode _ _)).given

pub returns-then-not-is_full-clause-done : goal.returns-then-not-is_full-clause-done
returns-then-not-is_full-clause-done g c =
    let spoken = rw (c.deref.ensures.value, c.loop-intake.invariant.1) at c.in_ok-now_read.ensures.done in
    let both : c.if-is_read.is_read ≡ (c.loop-intake.is_read && c.in_ok-now_read.now_read) =
    elim c.if-is_read.branch [ then-is_read w ↦ rw w.if-is_read.true w.is_read-is | else-is_read w ↦ rw w.if-is_read.false (w.is_read-is ∙ w.if-is_read.false) ] in
    last_ran (says_of c.args.speaker.now) _ _ _ _ _ _ _ _ _ _ _ _ _ _ _ _ _ _ c.loop-intake.invariant.4.far (g.S.Source.left c.fill.new.source) c.fill.new.self (c.in_ok-is_full.ensures.holds (g.S.Source.left c.args.source.now) c.loop-intake.invariant.4.far.handled c.loop-intake.invariant.4.far.holds) (c.fill.ensures.within (g.S.Source.left c.args.source.now) c.loop-intake.invariant.4.far.handled c.loop-intake.invariant.4.far.batches c.loop-intake.invariant.4.far.holds c.loop-intake.invariant.4.far.whole.ends c.loop-intake.invariant.4.far.within) c.in_ok-text.text.items c.take_text.new.self.bytes.items c.in_ok-text.ensures.parts
    _ c.in_ok-now_read.now_read c.if-is_read.is_read _ _ _ _ spoken.0 both c.in_ok-now_read.ensures.counts c.speak_text.new.crew.swept (rw (c.deref.ensures.value, c.loop-intake.invariant.2) at c.in_ok-now_read.ensures.swept) c.speak_text.new.report.lines (rw c.deref.ensures.value at c.in_ok-now_read.ensures.count)
    (c.in_ok-text.ensures.all c.if-not-is_full.true) (c.in_ok-is_full.ensures.end c.if-not-is_full.true) c.args.speaker.now.normaliser c.loop-intake.crew c.speak_text.new.crew c.loop-intake.invariant.4.run spoken.1

pub returns-then-not-is_full-clause-count : goal.returns-then-not-is_full-clause-count
returns-then-not-is_full-clause-count g c =
    let both : c.if-is_read.is_read ≡ (c.loop-intake.is_read && c.in_ok-now_read.now_read) =
    elim c.if-is_read.branch [ then-is_read w ↦ rw w.if-is_read.true w.is_read-is | else-is_read w ↦ rw w.if-is_read.false (w.is_read-is ∙ w.if-is_read.false) ] in
    last_count (says_of c.args.speaker.now) _ _ _ _ _ _ _ _ _ _ _ _ _ _ _ _ _ _ c.loop-intake.invariant.4.far (g.S.Source.left c.fill.new.source) c.fill.new.self (c.in_ok-is_full.ensures.holds (g.S.Source.left c.args.source.now) c.loop-intake.invariant.4.far.handled c.loop-intake.invariant.4.far.holds) (c.fill.ensures.within (g.S.Source.left c.args.source.now) c.loop-intake.invariant.4.far.handled c.loop-intake.invariant.4.far.batches c.loop-intake.invariant.4.far.holds c.loop-intake.invariant.4.far.whole.ends c.loop-intake.invariant.4.far.within) c.in_ok-text.text.items c.take_text.new.self.bytes.items c.in_ok-text.ensures.parts
    _ c.in_ok-now_read.now_read c.if-is_read.is_read _ _ _ _ (rw (c.deref.ensures.value, c.loop-intake.invariant.1) at c.in_ok-now_read.ensures.done.0) both c.in_ok-now_read.ensures.counts c.speak_text.new.crew.swept (rw (c.deref.ensures.value, c.loop-intake.invariant.2) at c.in_ok-now_read.ensures.swept) c.speak_text.new.report.lines (rw c.deref.ensures.value at c.in_ok-now_read.ensures.count)
    (c.in_ok-text.ensures.all c.if-not-is_full.true) (c.in_ok-is_full.ensures.end c.if-not-is_full.true)

pub returns-then-not-is_full-clause-swept : goal.returns-then-not-is_full-clause-swept
returns-then-not-is_full-clause-swept g c =
    let both : c.if-is_read.is_read ≡ (c.loop-intake.is_read && c.in_ok-now_read.now_read) =
    elim c.if-is_read.branch [ then-is_read w ↦ rw w.if-is_read.true w.is_read-is | else-is_read w ↦ rw w.if-is_read.false (w.is_read-is ∙ w.if-is_read.false) ] in
    last_swept (says_of c.args.speaker.now) _ _ _ _ _ _ _ _ _ _ _ _ _ _ _ _ _ _ c.loop-intake.invariant.4.far (g.S.Source.left c.fill.new.source) c.fill.new.self (c.in_ok-is_full.ensures.holds (g.S.Source.left c.args.source.now) c.loop-intake.invariant.4.far.handled c.loop-intake.invariant.4.far.holds) (c.fill.ensures.within (g.S.Source.left c.args.source.now) c.loop-intake.invariant.4.far.handled c.loop-intake.invariant.4.far.batches c.loop-intake.invariant.4.far.holds c.loop-intake.invariant.4.far.whole.ends c.loop-intake.invariant.4.far.within) c.in_ok-text.text.items c.take_text.new.self.bytes.items c.in_ok-text.ensures.parts
    _ c.in_ok-now_read.now_read c.if-is_read.is_read _ _ _ _ (rw (c.deref.ensures.value, c.loop-intake.invariant.1) at c.in_ok-now_read.ensures.done.0) both c.in_ok-now_read.ensures.counts c.speak_text.new.crew.swept (rw (c.deref.ensures.value, c.loop-intake.invariant.2) at c.in_ok-now_read.ensures.swept) c.speak_text.new.report.lines (rw c.deref.ensures.value at c.in_ok-now_read.ensures.count)
    (c.in_ok-text.ensures.all c.if-not-is_full.true) (c.in_ok-is_full.ensures.end c.if-not-is_full.true) (text_few c.in_ok-is_full.is_full c.fill.new.self.bytes.items c.in_ok-text.text.items c.take_text.new.self.bytes.items _ c.in_ok-text.ensures.whole c.in_ok-is_full.ensures.full c.in_ok-is_full.ensures.few c.in_ok-text.ensures.parts)

pub loop-intake-smaller : goal.loop-intake-smaller
loop-intake-smaller g c = text_smaller (says_of c.args.speaker.now) _ _ _ _ _ _ _ _ _ _ _ _ _ _ _ _ _ _ c.loop-intake.invariant.4.far (g.S.Source.left c.fill.new.source) c.fill.new.self (c.in_ok-is_full.ensures.holds (g.S.Source.left c.args.source.now) c.loop-intake.invariant.4.far.handled c.loop-intake.invariant.4.far.holds) (c.fill.ensures.within (g.S.Source.left c.args.source.now) c.loop-intake.invariant.4.far.handled c.loop-intake.invariant.4.far.batches c.loop-intake.invariant.4.far.holds c.loop-intake.invariant.4.far.whole.ends c.loop-intake.invariant.4.far.within) c.in_ok-text.text.items c.take_text.new.self.bytes.items c.in_ok-text.ensures.parts c.loop-intake.invariant.3 c.take_text.new.self c.in_ok-text.ensures.is refl c.in_ok-text.ensures.given (subst (λ n. AreWhole n c.in_ok-text.text.items) (c.in_ok-is_full.ensures.full c.if-not-is_full.false) (c.in_ok-text.ensures.whole c.if-not-is_full.false))

pub loop-intake-preserved : goal.loop-intake-preserved
loop-intake-preserved g c =
    let spoken = rw (c.deref.ensures.value, c.loop-intake.invariant.1) at c.in_ok-now_read.ensures.done in
    let both : c.if-is_read.is_read ≡ (c.loop-intake.is_read && c.in_ok-now_read.now_read) =
    elim c.if-is_read.branch [ then-is_read w ↦ rw w.if-is_read.true w.is_read-is | else-is_read w ↦ rw w.if-is_read.false (w.is_read-is ∙ w.if-is_read.false) ] in (
      c.in_ok-now_read.ensures.ready,
      c.speak_text.ensures.wanted ∙ c.loop-intake.invariant.1,
      c.speak_text.ensures.settings ∙ c.loop-intake.invariant.2,
      c.in_ok-text.ensures.is,
      ran_more (says_of c.args.speaker.now) _ _ _ _ _ _ _ _ _ _ _ _ _ _ _ _ _ _ c.loop-intake.invariant.4.far (g.S.Source.left c.fill.new.source) c.fill.new.self (c.in_ok-is_full.ensures.holds (g.S.Source.left c.args.source.now) c.loop-intake.invariant.4.far.handled c.loop-intake.invariant.4.far.holds) (c.fill.ensures.within (g.S.Source.left c.args.source.now) c.loop-intake.invariant.4.far.handled c.loop-intake.invariant.4.far.batches c.loop-intake.invariant.4.far.holds c.loop-intake.invariant.4.far.whole.ends c.loop-intake.invariant.4.far.within) c.in_ok-text.text.items c.take_text.new.self.bytes.items c.in_ok-text.ensures.parts
          _ c.in_ok-now_read.now_read c.if-is_read.is_read _ _ _ _ spoken.0 both c.in_ok-now_read.ensures.counts c.speak_text.new.crew.swept (rw (c.deref.ensures.value, c.loop-intake.invariant.2) at c.in_ok-now_read.ensures.swept) c.speak_text.new.report.lines (rw c.deref.ensures.value at c.in_ok-now_read.ensures.count) c.args.speaker.now.normaliser c.loop-intake.crew c.speak_text.new.crew c.loop-intake.invariant.4.run spoken.1 c.take_text.new.self refl c.in_ok-text.ensures.given (subst (λ n. AreWhole n c.in_ok-text.text.items) (c.in_ok-is_full.ensures.full c.if-not-is_full.false) (c.in_ok-text.ensures.whole c.if-not-is_full.false)),
      c.in_ok-is_full.ensures.counts ∙ c.loop-intake.invariant.5,
    )
