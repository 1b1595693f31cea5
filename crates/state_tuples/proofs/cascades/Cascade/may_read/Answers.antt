use Rattle.std.proofs.Common.{get_or, sym, ◌∙◌, subst}
use Rattle.std.specs.Prelude.{IfSome}
use Rattle.look_ahead.specs.Aheads.{IsAhead}
use Rattle.state_tuples.specs.Cascades.{Cascaded, IsSound, no_part}
use Rattle.state_tuples.proofs.FirstPart.{lacks}
use Rattle.state_tuples.proofs.cascades.Cascade.may_read.Goals as goal

pub returns-in-Some : goal.returns-in-Some
returns-in-Some c =
    let at : Cascaded = record { number = c.self.inside.number; parts = c.self.inside.parts.items } in
    let kept : IsAhead (get_or c.self.inside.parts.items 0 no_part) c.in-Some.ahead = subst (λ o. IfSome o (IsAhead (get_or c.self.inside.parts.items 0 no_part))) c.in-Some.is c.self.invariant.ahead in
    record {
      none = λ e. lacks c.args.self.now (subst IsSound c.self.view_is c.self.invariant.sound) c.args.t.now c.args.label c.in-Some.ahead (subst (λ (d : Cascaded). IsAhead (get_or d.parts 0 no_part) c.in-Some.ahead) c.self.view_is kept) (sym c.may.ensures ∙ e);
    }
