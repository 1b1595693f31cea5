use Rattle.std.proofs.Common.{◌≡◌, ◌∙◌, ◌-◌, ◌%◌, ◌+◌, ◌∷◌, [], List, true, false, length, map, sym, subst, ap, refl, length-append, arith}
use Rattle.std.proofs.lemmas.List.{length-map}
use Rattle.speak_core.specs.Parts.{AnswersFront, answer_of, lines_of, says_of, tally_of}
use Rattle.speak_core.specs.declared.batches.Heard.{Heard}
use Rattle.speak_core.proofs.Dealing.{gathered_front, more_gathered, more_taken, none_gathered, none_taken}
use Rattle.speak_core.proofs.gathering.gather.Goals as goal

pub loop-line-init : goal.loop-line-init
loop-line-init c = (λ s all. rw c.new.ensures.items (none_gathered c.args.jobs (c.args.first - 1) (lines_of c.args.lines.now) c.args.queues.now (says_of s) all), omega arith, refl, refl, none_taken c.args.jobs (c.args.first - 1) _ c.args.queues.now c.new.ensures.items, ap length c.new.ensures.items)

pub loop-line-preserved : goal.loop-line-preserved
loop-line-preserved c =
    let counted = c.loop-line.invariant.1 in
    let n = length-map c.args.lines.now (λ line. line.now) in
    let within = c.loop-line-test.true in (
      λ s all. more_gathered c.args.jobs (c.args.first - 1) (lines_of c.args.lines.now) c.loop-line._line-index c.loop-line.answers.all.items c.loop-line.queues (says_of s) (c.loop-line.invariant.0 s all) c.in-Some.heard c.push.new.self.items c.next_heard.new.queues c.turn_of.result (omega (arith, n, within)) (c.turn_of.ensures.turn ∙ ap (λ k. k % c.args.jobs) counted) c.in-Some.ensures.takes c.in-Ok.ensures.items,
      omega (arith, counted),
      c.next_heard.ensures.count ∙ c.loop-line.invariant.2,
      c.loop-line.invariant.3,
      more_taken c.args.jobs (c.args.first - 1) c.turn_of.result c.loop-line.answers.all.items c.push.new.self.items c.in-Some.heard c.args.queues.now c.loop-line.queues c.next_heard.new.queues c.loop-line.invariant.4
          (c.turn_of.ensures.turn ∙ ap (λ k. k % c.args.jobs) (counted ∙ ap (λ k. (c.args.first - 1) + k) (sym c.loop-line.invariant.5))) c.in-Some.ensures.takes c.in-Ok.ensures.items,
      ap length c.in-Ok.ensures.items ∙ length-append c.loop-line.answers.all.items (c.in-Some.heard ∷ []) ∙ ap (λ n. n + 1) c.loop-line.invariant.5,
    )

pub returns-in_default-clause-answers : goal.returns-in_default-clause-answers
returns-in_default-clause-answers c = λ s all.
    gathered_front c.args.jobs (c.args.first - 1) (lines_of c.args.lines.now) c.loop-line._line-index c.loop-line.answers.all.items c.loop-line.queues (says_of s) (c.loop-line.invariant.0 s all) c.loop-line.answers.is_whole
    (λ whole. absurd (let both : true ≡ false = sym whole ∙ c.loop-line.invariant.3 in cc))

pub returns-in_default-push-clause-answers : goal.returns-in_default-push-clause-answers
returns-in_default-push-clause-answers c = λ s all.
    subst (λ (l : List Heard). AnswersFront (says_of s) (lines_of c.args.lines.now) (map answer_of l) (map tally_of l) c.loop-line.answers.is_whole) (sym c.in_default-push.ensures.items)
    (gathered_front c.args.jobs (c.args.first - 1) (lines_of c.args.lines.now) c.loop-line._line-index c.loop-line.answers.all.items c.loop-line.queues (says_of s) (c.loop-line.invariant.0 s all) c.loop-line.answers.is_whole
    (λ whole. absurd (let both : true ≡ false = sym whole ∙ c.loop-line.invariant.3 in cc)))

pub returns-clause-answers : goal.returns-clause-answers
returns-clause-answers c = λ s all.
    let n = length-map c.args.lines.now (λ line. line.now) in
    let end = c.loop-line-test.false in
    gathered_front c.args.jobs (c.args.first - 1) (lines_of c.args.lines.now) c.loop-line._line-index c.loop-line.answers.all.items c.loop-line.queues (says_of s) (c.loop-line.invariant.0 s all) true (λ whole. omega (arith, n, end))
