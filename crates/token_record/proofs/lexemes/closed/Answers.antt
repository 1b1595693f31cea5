use Rattle.std.proofs.Common.{sym, subst, arith}
use Rattle.text_forms.proofs.Chains.{Stands, stands_begin, stands_step}
use Rattle.token_record.specs.Lexemes.{StringByte}
use Rattle.token_record.proofs.Fronts.{byte_takes, closed_takes, closed_misses}
use Rattle.token_record.proofs.lexemes.closed.Goals as goal

pub loop-byte-init : goal.loop-byte-init
loop-byte-init c = (omega arith, subst (λ v. Stands StringByte c.args.text.now v c.args.text.now) (sym c.in_ok-value.ensures.items) (stands_begin StringByte c.args.text.now))

pub loop-byte-preserved : goal.loop-byte-preserved
loop-byte-preserved c =
    let t = byte_takes c.loop-byte.rest.now c.in-Some.byte c.in-Some.after.now c.in-Some.ensures.found in (
      omega (arith, c.loop-byte.invariant.0, c.in-Some.ensures.shorter),
      subst (λ v. Stands StringByte c.args.text.now v c.in-Some.after.now) (sym c.in_ok-push.ensures.items) (stands_step StringByte c.args.text.now c.loop-byte.value.items c.in-Some.byte c.loop-byte.rest.now c.in-Some.after.now t c.loop-byte.invariant.1),
    )

pub returns-in-Some-after_byte-clause-exact : goal.returns-in-Some-after_byte-clause-exact
returns-in-Some-after_byte-clause-exact c =
    closed_takes c.args.text.now c.loop-byte.value.items c.loop-byte.rest.now c.in-Some-after_byte.after.now c.in_default.ensures.none c.loop-byte.invariant.1 c.in-Some-after_byte.ensures.found

pub returns-clause-exact : goal.returns-clause-exact
returns-clause-exact c =
    closed_misses c.args.text.now c.loop-byte.value.items c.loop-byte.rest.now c.in_default.ensures.none c.loop-byte.invariant.1 c.in-None.ensures.none
