use Rattle.std.proofs.Common.{◌≡◌, length, subst, arith, inl, inr}
use Rattle.std.proofs.lemmas.Bool.{cases_lt}
use Rattle.acceptor_ops.specs.Tables.{step_of}
use Rattle.rewrite_rules.proofs.Grouping.{steps_past}
use Rattle.rewrite_rules.proofs.classes.same_steps.Goals as goal

pub loop-s-init : goal.loop-s-init
loop-s-init c = λ s l. absurd (omega (arith, l))

pub loop-s-preserved : goal.loop-s-preserved
loop-s-preserved c = λ s l. elim (cases_lt s c.loop-s.s) [
  | inl m ↦ c.loop-s.invariant s m
  | inr m ↦
      let e : c.loop-s.s ≡ s = omega arith in
      let here : step_of c.args.d.now c.loop-s.s c.args.a ≡ step_of c.args.d.now c.loop-s.s c.args.b = cc in
      subst (λ k. step_of c.args.d.now k c.args.a ≡ step_of c.args.d.now k c.args.b) e here
]

pub returns : goal.returns
returns c = record {
  same = λ yes s. elim (cases_lt s (length c.args.d.now.next)) [
    | inl m ↦ c.loop-s.invariant s (omega arith)
    | inr m ↦ steps_past c.args.d.now c.args.a c.args.b s m
  ];
}
