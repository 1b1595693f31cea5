use Rattle.std.proofs.Common.{◌≡◌, ◌+◌, ◌<◌, ◌≤◌, length, subst, sym, arith}
use Rattle.rewrite_rules.specs.Befores.{AreBefore, LeadTo}
use Rattle.rewrite_rules.proofs.Grouping.{befores_none, befores_more, first_byte}
use Rattle.rewrite_rules.proofs.befores.Befores.new.Goals as goal

pub loop-class-init : goal.loop-class-init
loop-class-init c = subst (AreBefore c.args.t.now c.args.classes.now 0) (sym c.new-table.ensures.items) (befores_none c.args.t.now c.args.classes.now)

pub sources-requires-clause-low : goal.sources-requires-clause-low
sources-requires-clause-low c =
    let within : c.loop-class.class < length c.args.classes.now.members = omega arith in
    subst (λ n. 1 ≤ n) (sym c.first.ensures.value) (first_byte c.args.t.now 256 c.loop-class.class c.args.classes.now c.requires.classes within).0

pub sources-requires-clause-high : goal.sources-requires-clause-high
sources-requires-clause-high c =
    let within : c.loop-class.class < length c.args.classes.now.members = omega arith in
    subst (λ n. n ≤ 257) (sym c.first.ensures.value) (omega (arith, (first_byte c.args.t.now 256 c.loop-class.class c.args.classes.now c.requires.classes within).1))

pub loop-class-preserved : goal.loop-class-preserved
loop-class-preserved c =
    subst (AreBefore c.args.t.now c.args.classes.now (c.loop-class.class + 1)) (sym c.in_ok-push.ensures.items)
    (befores_more c.args.t.now c.args.classes.now c.loop-class.class c.loop-class.table.items c.in_ok-sources.field-0 c.loop-class.invariant
    (subst (λ n. LeadTo c.args.t.now.back n (length c.args.t.now.back.next) c.in_ok-sources.field-0) c.first.ensures.value c.in_ok-sources.ensures.sources))

pub returns : goal.returns
returns c =
    let e : c.loop-class.class ≡ length c.args.classes.now.members = omega arith in
    record { table = subst (λ n. AreBefore c.args.t.now c.args.classes.now n c.loop-class.table.items) e c.loop-class.invariant }
