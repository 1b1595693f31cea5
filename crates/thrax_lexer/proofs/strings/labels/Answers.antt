use Rattle.std.proofs.Common.{sym, subst, arith, [], ◌∷◌, ◌++◌}
use Rattle.thrax_lexer.specs.Strings.{Label}
use Rattle.text_forms.proofs.Chains.{Stands, stands_begin, stands_step, stands_end}
use Rattle.text_forms.proofs.Lists.{is_full}
use Rattle.thrax_lexer.proofs.Texts.{label_takes, labels_only}
use Rattle.thrax_lexer.proofs.strings.labels.Goals as goal

pub loop-next-init : goal.loop-next-init
loop-next-init c = (omega (arith, c.new-found.ensures.len), subst (λ v. Stands Label c.args.text.now v c.args.text.now) (sym c.new-found.ensures.items) (stands_begin Label c.args.text.now))

pub loop-next-preserved : goal.loop-next-preserved
loop-next-preserved c =
    let t = label_takes c.loop-next.rest.now c.in-Some.after.now c.in-Some.next c.in-Some.ensures.found in (
      omega (arith, c.loop-next.invariant.0, c.in-Some.ensures.shorter, c.in_ok-push.ensures.len),
      subst (λ v. Stands Label c.args.text.now v c.in-Some.after.now) (sym c.in_ok-push.ensures.items) (stands_step Label c.args.text.now c.loop-next.found.items c.in-Some.next c.loop-next.rest.now c.in-Some.after.now t c.loop-next.invariant.1),
    )

pub returns-then-is_empty-clause-only : goal.returns-then-is_empty-clause-only
returns-then-is_empty-clause-only c = λ ns m. (labels_only c.args.text.now c.loop-next.rest.now c.loop-next.found.items ns (stands_end Label c.args.text.now c.loop-next.found.items c.loop-next.rest.now c.in_default.ensures.none c.loop-next.invariant.1) m).0

pub returns-clause-none : goal.returns-clause-none
returns-clause-none c = λ ns m. is_full c.loop-next.rest.now (sym c.if-is_empty.ensures) (sym (labels_only c.args.text.now c.loop-next.rest.now c.loop-next.found.items ns (stands_end Label c.args.text.now c.loop-next.found.items c.loop-next.rest.now c.in_default.ensures.none c.loop-next.invariant.1) m).1)
