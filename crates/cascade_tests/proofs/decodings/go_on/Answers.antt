use Rattle.std.proofs.Common.{All, sym, subst}
use Rattle.std.proofs.lemmas.List.Elements.{All-push}
use Rattle.state_tuples.specs.Cascades.{IsOf, next_of}
use Rattle.cascade_tests.proofs.Moved.{moved}
use Rattle.cascade_tests.proofs.decodings.go_on.Goals as goal
use Rattle.cascade_tests.proofs.decodings.go_on.Goals.{then-not-contains+in_ok-push, else-not-contains}

pub loop-a-preserved : goal.loop-a-preserved
loop-a-preserved c =
    let cascade = c.args.cascade.now in
    let t = c.args.t.now in
    let all = moved cascade c.start-start.ensures.sound t c.requires.known c.in_ok-x.x.arcs.items c.in_ok-x.ensures.expansion.arcs in
    let arcs : All (λ a. IsOf cascade (next_of t a)) c.deref-a-items.result.now = subst (All (λ a. IsOf cascade (next_of t a))) (sym c.deref-a-items.ensures.value) all in
    let next : IsOf cascade c.next_tuple-next.result = subst (IsOf cascade) (sym c.next_tuple-next.ensures) (arcs c.loop-a.a-index _ c.loop-a-test.true) in
    elim c.if-not-contains.branch [
      | then-not-contains+in_ok-push w ↦ subst (λ v. All (IsOf cascade) v.items) (sym w.reached-is)
          (subst (All (IsOf cascade)) (sym w.in_ok-push.ensures.items) (All-push (IsOf cascade) c.loop-a.reached.items c.next_tuple-next.result c.loop-a.invariant next))
      | else-not-contains w ↦ subst (λ v. All (IsOf cascade) v.items) (sym w.reached-is) c.loop-a.invariant
    ]
