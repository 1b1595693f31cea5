use Rattle.std.proofs.Common.{◌∙◌, subst}
use Rattle.std.specs.Prelude.{All}
use Rattle.least_path.specs.Ending.{IsRefused}
use Rattle.least_path.proofs.Refused.{refused_dead}
use Rattle.least_path.proofs.ending.is_dead.Goals as goal

pub returns-then-are_refused : goal.returns-then-are_refused
returns-then-are_refused g c = λ e. refused_dead c.args.source.now (g.X.Expander.cascades c.args.x.now) c.args.state c.args.tuple.now
    (subst (All (IsRefused (g.X.Expander.cascades c.args.x.now) c.args.tuple.now)) c.arcs_of.ensures.value (c.are_refused.ensures c.if-are_refused.true))
    (λ w h. c.is_no_end.ensures e w (c.final_of.ensures.value ∙ h))
