use Rattle.std.proofs.Common.{◌∙◌, ap, sym, [], length}
use Rattle.thrax_meaning.specs.Meaning.{meant}
use Rattle.thrax_meaning.specs.Tables.{scope_over}
use Rattle.thrax_meaning.specs.declared.table.Kind.TheVariants as kind
use Rattle.thrax_syntax.specs.Trees.{tree_term}
use Rattle.thrax_link.specs.Linking.{defined}
use Rattle.thrax_link.specs.Progress.{finished_of}
use Rattle.thrax_link.proofs.Soles.{adds, adds_within}
use Rattle.thrax_link.proofs.statements.define.Goals as goal

pub returns-in-Ok-clause-takes : goal.returns-in-Ok-clause-takes
returns-in-Ok-clause-takes g c = λ known told.
    let s = scope_over known c.args.done.now.tables.items c.args.table.now in
    let means = ap (λ ts. meant known (scope_over known ts c.args.table.now) [] (tree_term c.args.value.now)) (sym c.deref.ensures.value) ∙ c.in-Ok.ensures.means known told in
    adds known c.args.done.now c.args.table.now c.add.new.table c.args.name (kind.Value c.args.exported c.in-Ok.value) c.add.result _
    (ap (defined c.args.file.now c.args.statement (finished_of known c.args.done.now) s c.args.exported c.args.name) means) c.add.ensures.ok c.add.ensures.err

pub returns-in-Ok-clause-within : goal.returns-in-Ok-clause-within
returns-in-Ok-clause-within g c = adds_within (length c.args.done.now.tables.items) c.args.table.now c.add.new.table c.args.name (kind.Value c.args.exported c.in-Ok.value) c.add.result c.requires tt c.add.ensures.ok
