use Rattle.std.proofs.Common.{◌∙◌, sym, ap, subst, arith, ◌<◌, ◌+◌, length}
use Rattle.std.proofs.lemmas.Bool.{eqb-true, eqb-false}
use Rattle.text_forms.proofs.Digits.{decimal_of, places_once, decimal_found, decimal_wide}
use Rattle.text_forms.proofs.numbers.decimal.Goals as goal
use Rattle.text_forms.proofs.numbers.decimal.Goals.{else-is_empty-via-then-is_empty+else-is_empty-2, else-is_empty-via-else-is_empty}

pub returns-in_err-places-clause-none : goal.returns-in_err-places-clause-none
returns-in_err-places-clause-none c = rw c.from_residual.ensures (λ w d. let e = decimal_of c.span.result.0.now c.span.result.1.now c.span.ensures d in absurd (c.in_err-places.ensures.none e.0 e.1))

pub returns-then-is_empty-2-clause-none : goal.returns-then-is_empty-2-clause-none
returns-then-is_empty-2-clause-none c = λ w d.
    let e = decimal_of c.span.result.0.now c.span.result.1.now c.span.ensures d in
    let f = ap length (places_once c.in_ok-places.ensures.found e.1) in
    let g = eqb-true (length c.span.result.0.now) 0 (sym c.if-is_empty.ensures) in
    let h = eqb-true (length c.in_ok-places.places.now) 0 (sym c.if-is_empty-2.ensures) in
    absurd (omega (arith, e.2, f, g, h))

pub returns-clause-found : goal.returns-clause-found
returns-clause-found c =
    decimal_found c.args.text.now c.span.result.0.now c.span.result.1.now c.in_ok-places.places.now c.weight_of.result c.span.ensures c.in_ok-places.ensures.found
    (elim c.else-is_empty.branch [
      | else-is_empty-via-then-is_empty+else-is_empty-2 w ↦ let h = eqb-false (length c.in_ok-places.places.now) 0 (sym w.if-is_empty-2.ensures) in omega (arith, h)
      | else-is_empty-via-else-is_empty w ↦ let h = eqb-false (length c.span.result.0.now) 0 (sym w.if-is_empty.ensures) in omega (arith, h)
    ]) c.weight_of.ensures.found

pub returns-clause-none : goal.returns-clause-none
returns-clause-none c = decimal_wide c.args.text.now c.span.result.0.now c.span.result.1.now c.in_ok-places.places.now c.weight_of.result c.span.ensures c.in_ok-places.ensures.found c.weight_of.ensures.none
