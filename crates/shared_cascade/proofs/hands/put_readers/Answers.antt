use Rattle.std.specs.Prelude.{ℕ}
use Rattle.std.proofs.Common.{◌∙◌, ap, arith, length}
use Rattle.std.proofs.lemmas.List.{get_or_default}
use Rattle.state_tuples.specs.Codes.{no_arc}
use Rattle.state_tuples.specs.declared.tuples.TupleArc.{TupleArc}
use Rattle.shared_cascade.proofs.Seen.{fewer_put}
use Rattle.shared_cascade.proofs.hands.put_readers.Goals as goal

pub returns-in-Err-clause-full : goal.returns-in-Err-clause-full
returns-in-Err-clause-full c =
    let h = c.loop-arc.invariant in
    let k : ℕ = c.loop-arc.arc-index in
    let lt = c.loop-arc-test.true in
    let reads = ap (λ (a : TupleArc). a.input) (get_or_default c.args.arcs.now k no_arc _ lt) ∙ c.if-arc-label.true in
    let fewer = fewer_put c.args.arcs.now c.args.label k lt reads in
    let put = ap length h.put in
    let full = c.in-Err.ensures.full in
    let count = c.loop-arc.into.ok.0 in
    let kept = c.clear.ensures.capacity in
    omega (arith, h.room)
