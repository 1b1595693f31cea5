use Rattle.std.proofs.Common.{subst, refl, drop}
use Rattle.std.specs.Prelude.{Contains}
use Rattle.search_tests.specs.Growth.{AlongArc}
use Rattle.search_tests.proofs.Growing.{grown_none, arc_settled, arc_opened}
use Rattle.search_tests.proofs.settling.Search.follow.Goals as goal

pub returns-then-is_settled-clause-grown : goal.returns-then-is_settled-clause-grown
returns-then-is_settled-clause-grown c =
    let line = c.args.line.now in
    let settled = c.args.self.now.settled.items in
    let waiting = c.args.self.now.waiting.items in
    let x = drop c.args.position line in
    let there : Contains settled (record { position = c.in-Some.position; state = c.args.arc.now.next }) = subst (λ l. Contains l (record { position = c.in-Some.position; state = c.args.arc.now.next })) c.deref.ensures.value (c.if-is_settled.ensures.0 refl) in
    grown_none line settled c.args.from.now waiting waiting 1 (AlongArc x c.args.arc.now) refl (arc_settled line settled c.args.from.now x c.args.arc.now c.in-Some.position c.in-Some.ensures.1 there)

pub returns-clause-grown : goal.returns-clause-grown
returns-clause-grown c = arc_opened c.args.line.now c.args.self.now.settled.items c.args.from.now (drop c.args.position c.args.line.now) c.args.arc.now c.in-Some.position c.in-Some.ensures.1 c.in_ok-then.field-0 c.in-Some.ensures.0 c.in_ok-then.ensures.weight c.in_ok-then.ensures.output c.in_ok-then.ensures.place c.args.self.now.waiting.items c.push.new.self.items c.in_ok-push.ensures.items
