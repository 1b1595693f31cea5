use Rattle.std.proofs.Common.{sym, arith}
use Rattle.text_forms.proofs.Lists.{is_full}
use Rattle.text_forms.proofs.Digits.{places_none, places_some, places_of}
use Rattle.text_forms.proofs.numbers.places.Goals as goal
use Rattle.text_forms.proofs.numbers.places.Goals.{else-is_empty-2-via-then-is_empty-2+else-digits-le4, else-is_empty-2-via-else-is_empty-2}

pub returns-then-is_empty-clause-found : goal.returns-then-is_empty-clause-found
returns-then-is_empty-clause-found c = places_none c.args.text.now (sym c.if-is_empty.ensures)

pub returns-then-digits-le4-clause-found : goal.returns-then-digits-le4-clause-found
returns-then-digits-le4-clause-found c = places_some c.args.text.now c.in-Some.after.now c.span.result.0.now c.span.result.1.now c.in-Some.ensures.found c.span.ensures (sym c.if-is_empty-2.ensures) c.if-digits-le4.true

pub returns-else-is_empty-2-clause-none : goal.returns-else-is_empty-2-clause-none
returns-else-is_empty-2-clause-none c = λ y p.
    let g = places_of c.in-Some.after.now c.span.result.0.now c.span.result.1.now c.in-Some.ensures.found c.span.ensures p in
    elim c.else-is_empty-2.branch [
      | else-is_empty-2-via-then-is_empty-2+else-digits-le4 w ↦ omega (arith, g.2, w.if-digits-le4.false)
      | else-is_empty-2-via-else-is_empty-2 w ↦ is_full c.span.result.1.now (sym w.if-is_empty-2.ensures) g.1
    ]
