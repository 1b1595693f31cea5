use Rattle.std.proofs.Common.{sym, ◌∙◌, arith}
use Rattle.text_forms.proofs.Runs.{run_here, run_whole}
use Rattle.text_forms.proofs.bytes.span.Goals as goal

pub returns-then-not-has : goal.returns-then-not-has
returns-then-not-has g c =
    run_here (g.C.ByteClass.member c.args.class) c.args.text.now _ _ c.loop-i.i (omega arith) c.loop-i.invariant (sym c.has.ensures ∙ c.if-not-has.true) c.split_at.ensures.front c.split_at.ensures.back

pub returns : goal.returns
returns g c = run_whole (g.C.ByteClass.member c.args.class) c.args.text.now c.loop-i.i (omega arith) c.loop-i.invariant
