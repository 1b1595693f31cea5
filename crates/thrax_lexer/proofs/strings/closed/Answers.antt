use Rattle.std.proofs.Common.{sym, refl, arith, List, ℕ, [], ◌∷◌, ◌++◌}
use Rattle.thrax_lexer.specs.Strings.{Label, Closed}
use Rattle.text_forms.proofs.Chains.{stands_begin, stands_step, stands_end}
use Rattle.thrax_lexer.proofs.Texts.{label_takes, closed_takes, closed_none}
use Rattle.thrax_lexer.proofs.strings.closed.Goals as goal

pub loop-after-init : goal.loop-after-init
loop-after-init c = (omega arith, ([], stands_begin Label c.args.text.now))

pub loop-after-preserved : goal.loop-after-preserved
loop-after-preserved c =
    let i = c.loop-after.invariant in
    let t = label_takes c.loop-after.rest.now c.in-Some.after.now c.in-Some.field-0-0 c.in-Some.ensures.found in
    (omega (arith, i.0, c.in-Some.ensures.shorter), (i.1.0 ++ c.in-Some.field-0-0 ∷ [], stands_step Label c.args.text.now i.1.0 c.in-Some.field-0-0 c.loop-after.rest.now c.in-Some.after.now t i.1.1))

pub returns : goal.returns
returns c =
    let i = c.loop-after.invariant.1 in
    closed_takes c.args.text.now c.loop-after.rest.now c.in_ok-after.after.now _ i.0 (stands_end Label c.args.text.now i.0 c.loop-after.rest.now c.in_default.ensures.none i.1) c.in_ok-after.ensures.found refl

pub returns-in_err-after : goal.returns-in_err-after
returns-in_err-after c =
    let i = c.loop-after.invariant.1 in
    rw c.from_residual.ensures (closed_none c.args.text.now c.loop-after.rest.now i.0 (stands_end Label c.args.text.now i.0 c.loop-after.rest.now c.in_default.ensures.none i.1) c.in_err-after.ensures.none)
