use Rattle.std.proofs.Common.{◌≡◌, Some, sym, subst, ◌↔◌}
use Rattle.rewrite_rules.specs.PartsOf.{parts}
use Rattle.rewrite_rules.specs.Bimachine.{Ends}
use Rattle.rewrite_rules.proofs.machines.end_of.Goals as goal

pub returns-in-Outside : goal.returns-in-Outside
returns-in-Outside c = record { value = λ w. subst (λ s. (c.outside_end.result ≡ Some w) ↔ Ends (parts c.args.tau.now c.args.t.now) s w) (sym c.in-Outside.is) (c.outside_end.ensures.value w) }
