use Rattle.std.proofs.Common.{◌∙◌, ap, sym, take}
use Rattle.thrax_meaning.specs.Tables.{scopes_of}
use Rattle.thrax_link.specs.Exports.{exports_of}
use Rattle.thrax_link.specs.Linking.{exports}
use Rattle.thrax_link.proofs.Fronts.{exports_scope}
use Rattle.thrax_meaning.proofs.Scopes.{scopes_at}
use Rattle.thrax_link.proofs.linking.grammar_at.Goals as goal

pub returns : goal.returns
returns c = λ files.
    ap exports (scopes_at files c.args.tables.items c.args.place c.swap_remove-table.result c.requires c.swap_remove-table.ensures.value)
    ∙ exports_scope files (scopes_of files (take c.args.place c.args.tables.items)) c.swap_remove-table.result ∙ sym c.in_ok-exports.ensures ∙ ap exports_of (sym c.new.ensures)
