use Rattle.std.proofs.Common.{◌<◌, ◌≤◌, length, subst, sym, arith}
use Rattle.rewrite_rules.proofs.Grouping.{first_byte}
use Rattle.rewrite_rules.proofs.classes.Classes.like.Goals as goal

pub loop-class-init : goal.loop-class-init
loop-class-init c = tt

pub are_alike-requires-clause-low_a : goal.are_alike-requires-clause-low_a
are_alike-requires-clause-low_a c =
    let within : c.loop-class.class < length c.args.self.now.members = omega arith in
    subst (λ n. 1 ≤ n) (sym c.first.ensures.value) (first_byte c.args.t.now c.args.byte c.loop-class.class c.args.self.now c.requires.classes within).0

pub are_alike-requires-clause-high_a : goal.are_alike-requires-clause-high_a
are_alike-requires-clause-high_a c =
    let within : c.loop-class.class < length c.args.self.now.members = omega arith in
    subst (λ n. n ≤ 255) (sym c.first.ensures.value) (first_byte c.args.t.now c.args.byte c.loop-class.class c.args.self.now c.requires.classes within).1

pub loop-class-preserved : goal.loop-class-preserved
loop-class-preserved c = tt
