use Rattle.std.proofs.Common.{◌≡◌, ◌+◌, ◌∷◌, ◌++◌, [], subst, sym, arith}
use Rattle.rewrite_rules.specs.AnyTexts.{Loops, loop}
use Rattle.rewrite_rules.proofs.AnyReadings.{loops_none, loops_push}
use Rattle.rewrite_rules.proofs.any_texts.loops.Goals as goal

pub loop-c-init : goal.loop-c-init
loop-c-init c = subst (Loops 1) (sym c.new-row.ensures.items) loops_none

pub loop-c-preserved : goal.loop-c-preserved
loop-c-preserved c =
    let e : c.push.new.self.items ≡ c.loop-c.row.items ++ loop c.loop-c.c ∷ [] = cc (c.in_ok-push.ensures.items) in
    subst (Loops (c.loop-c.c + 1)) (sym e) (loops_push c.loop-c.c c.loop-c.row.items (omega arith) c.loop-c.invariant)

pub returns : goal.returns
returns c = let e : c.loop-c.c ≡ 258 = omega arith in record { loops = subst (λ n. Loops n c.loop-c.row.items) e c.loop-c.invariant }
