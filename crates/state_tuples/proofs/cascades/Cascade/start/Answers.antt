use Rattle.std.proofs.Common.{◌≡◌, ◌∙◌, subst, sym, ap, length}
use Rattle.compose_filter.specs.ComposedPaths.{starts}
use Rattle.state_tuples.specs.Positions.{back, padded}
use Rattle.state_tuples.specs.Cascades.{Cascaded, IsOf, no_part, backwards}
use Rattle.state_tuples.proofs.Padded.{starts_known}
use Rattle.state_tuples.proofs.cascades.Cascade.start.Goals as goal

pub returns-clause-known : goal.returns-clause-known
returns-clause-known c =
    let own : Cascaded = record { number = c.self.inside.number; parts = c.self.inside.parts.items } in
    let first : c.starts_of-states.result ≡ padded (starts (backwards own)) = c.starts_of-states.ensures ∙ ap (λ ms. padded (starts (back no_part ms (length ms)))) c.deref.ensures.value in
    subst (λ v. IsOf v (record { cascade = own.number; states = c.starts_of-states.result; filters = 0 })) c.self.view_is
    (subst (λ t. IsOf own (record { cascade = own.number; states = t; filters = 0 })) (sym first) (starts_known own c.self.invariant.sound))
