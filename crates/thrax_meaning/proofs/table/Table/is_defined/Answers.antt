use Rattle.std.proofs.Common.{◌∙◌, ap, map}
use Rattle.std.specs.Prelude.{is_some}
use Rattle.thrax_meaning.proofs.Index.{found_known}
use Rattle.thrax_meaning.proofs.table.Table.is_defined.Goals as goal

pub returns : goal.returns
returns c = λ f done.
    c.is_some.ensures ∙ ap is_some (c.newest.ensures (map (λ e. e.name) c.self.inside.entries.items) c.self.invariant) ∙ rw (← c.self.view_is) (found_known f done c.self.inside.entries.items c.args.name.now)
