use Rattle.std.proofs.Common.{sym, ap, arith, length}
use Rattle.std.proofs.lemmas.Bool.{eqb-true}
use Rattle.text_forms.specs.Bytes.{is_of}
use Rattle.text_forms.proofs.Lists.{is_full}
use Rattle.text_forms.proofs.Runs.{run_all}
use Rattle.thrax_lexer.proofs.strings.numeral.Goals as goal
use Rattle.thrax_lexer.proofs.strings.numeral.Goals.{then-not-is_empty-via-then-not-is_empty, then-not-is_empty-via-else-not-is_empty+then-is_empty, then-not-is_empty-via-else-not-is_empty+else-is_empty+then-run-most}

pub returns-then-not-is_empty-clause-none : goal.returns-then-not-is_empty-clause-none
returns-then-not-is_empty-clause-none c = λ n m.
    let e = run_all (is_of c.args.kind) c.args.digits.now c.span.result.0.now c.span.result.1.now c.span.ensures m.digits in
    let f = ap length e.0 in
    elim c.then-not-is_empty.branch [
      | then-not-is_empty-via-then-not-is_empty w ↦ is_full c.span.result.1.now (sym w.if-not-is_empty.ensures) e.1
      | then-not-is_empty-via-else-not-is_empty+then-is_empty w ↦ let h = eqb-true (length c.span.result.0.now) 0 (sym w.if-is_empty.ensures) in omega (arith, f, h, m.some)
      | then-not-is_empty-via-else-not-is_empty+else-is_empty+then-run-most w ↦ omega (arith, f, m.few, w.if-run-most.true)
    ]
