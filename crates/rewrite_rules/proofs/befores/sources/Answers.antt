use Rattle.std.proofs.Common.{◌≡◌, ◌+◌, ◌<◌, length, subst, sym, arith}
use Rattle.rewrite_rules.specs.Befores.{LeadTo}
use Rattle.rewrite_rules.proofs.Grouping.{lead_none, lead_more}
use Rattle.rewrite_rules.proofs.befores.sources.Goals as goal

pub loop-s-init : goal.loop-s-init
loop-s-init c = lead_none c.args.d.now c.args.byte c.len.result c.in_ok-sources.sources c.len.ensures.count c.in_ok-sources.ensures.count c.in_ok-sources.ensures.empty

pub put-requires : goal.put-requires
put-requires c = record { within = subst (λ n. c.step.result < n) (sym c.loop-s.invariant.count) c.step.ensures.within }

pub loop-s-preserved : goal.loop-s-preserved
loop-s-preserved c =
    subst (LeadTo c.args.d.now c.args.byte (c.loop-s.s + 1)) (sym c.in_ok-put.ensures.value)
    (lead_more c.args.d.now c.args.byte c.loop-s.s c.loop-s.sources c.step.result c.step.ensures.value (subst (λ n. c.step.result < n) (sym c.loop-s.invariant.count) c.step.ensures.within) c.loop-s.invariant)

pub returns : goal.returns
returns c =
    let e : c.loop-s.s ≡ length c.args.d.now.next = omega arith in
    record { sources = subst (λ n. LeadTo c.args.d.now c.args.byte n c.loop-s.sources) e c.loop-s.invariant }
