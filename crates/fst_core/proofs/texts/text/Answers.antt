use Rattle.std.proofs.Common.{Some, length, arith, ap, subst, ◌∙◌}
use Rattle.fst_core.specs.States.{with_state}
use Rattle.fst_core.proofs.Strings.{Chain, chain_none, chain_sound, chain_reads, chain_under}
use Rattle.fst_core.proofs.Tops.{built_top}
use Rattle.fst_core.proofs.texts.text.Goals as goal

pub loop-i-init : goal.loop-i-init
loop-i-init c = chain_none c.args.labels.now c.new-built.result c.new-built.ensures.value

pub finish-requires : goal.finish-requires
finish-requires c =
    let all : Chain c.args.labels.now (length c.args.labels.now) c.loop-i.built = subst (λ n. Chain c.args.labels.now n c.loop-i.built) (omega arith) c.loop-i.invariant in
    record { sound = chain_sound c.args.labels.now c.loop-i.built c.push-2.new.self c.requires.labels all (c.in_ok-push-2.ensures.value ∙ ap (λ r. with_state c.loop-i.built r (Some 0)) c.new.ensures.items) }

pub returns-clause-readings : goal.returns-clause-readings
returns-clause-readings c =
    let all : Chain c.args.labels.now (length c.args.labels.now) c.loop-i.built = subst (λ n. Chain c.args.labels.now n c.loop-i.built) (omega arith) c.loop-i.invariant in
    chain_reads c.args.labels.now c.loop-i.built c.push-2.new.self c.requires.labels all (c.in_ok-push-2.ensures.value ∙ ap (λ r. with_state c.loop-i.built r (Some 0)) c.new.ensures.items) c.finish.result c.finish.ensures.value

pub returns-clause-top : goal.returns-clause-top
returns-clause-top c =
    let all : Chain c.args.labels.now (length c.args.labels.now) c.loop-i.built = subst (λ n. Chain c.args.labels.now n c.loop-i.built) (omega arith) c.loop-i.invariant in
    built_top 0 0 c.finish.result c.push-2.new.self c.finish.ensures.value (chain_under c.args.labels.now c.loop-i.built c.push-2.new.self c.requires.labels all (c.in_ok-push-2.ensures.value ∙ ap (λ r. with_state c.loop-i.built r (Some 0)) c.new.ensures.items))
