use Rattle.std.proofs.Common.{◌∙◌, ◌++◌, ap, sym, [], length, option_map}
use Rattle.thrax_meaning.specs.declared.table.Kind.TheVariants as kind
use Rattle.thrax_link.specs.Linking.{repeated}
use Rattle.thrax_link.proofs.Repeats.{names}
use Rattle.thrax_link.proofs.Soles.{function_adds, adds_within}
use Rattle.thrax_link.proofs.statements.define_function.Goals as goal

pub returns-in-Ok-None-clause-takes : goal.returns-in-Ok-None-clause-takes
returns-in-Ok-None-clause-takes c = λ files.
    let found = c.in-Ok-None.ensures in
    function_adds files c.args.done.now c.args.table.now c.add.new.table c.args.file.now c.args.statement c.args.name c.args.defined _ c.add.result
    (sym (ap (λ ps. repeated [] (ps ++ names c.args.defined.body.items)) c.deref.ensures.value) ∙ sym (ap (λ ds. repeated [] (c.deref.result.now ++ names ds)) c.deref-2.ensures.value)
    ∙ sym found ∙ ap (option_map (λ n. n.now)) c.in-Ok-None.field-0-is)
    c.add.ensures.ok c.add.ensures.err

pub returns-in-Ok-None-clause-within : goal.returns-in-Ok-None-clause-within
returns-in-Ok-None-clause-within c = adds_within (length c.args.done.now.tables.items) c.args.table.now c.add.new.table c.args.name (kind.Function c.args.defined) c.add.result c.requires tt c.add.ensures.ok
