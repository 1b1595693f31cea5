use Rattle.std.proofs.Common.{◌≡◌, Some, refl, sym, ap, subst}
use Rattle.rewrite_rules.specs.PartsOf.{parts}
use Rattle.rewrite_rules.specs.Bimachine.{Ends, done}
use Rattle.rewrite_rules.specs.declared.spots.Spot.TheVariants.{Outside}
use Rattle.rewrite_rules.proofs.Fitting.{end_zero}
use Rattle.rewrite_rules.proofs.machines.outside_end.Goals as goal

pub returns-then-may_pass : goal.returns-then-may_pass
returns-then-may_pass c = record {
  value = λ w. (
    λ e. let z : 0 ≡ w = cc in subst (Ends (parts c.args.tau.now c.args.t.now) (Outside c.args.at.sigma c.args.at.left c.args.at.back c.args.gap)) z (done (sym c.if-accepts.ensures.value) c.if-at-t.true (c.if-may_pass.ensures.value.0 refl)),
    λ k. ap Some (sym (end_zero k)),
  );
}
