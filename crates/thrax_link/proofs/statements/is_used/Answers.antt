use Rattle.std.proofs.Common.{◌∙◌, ap, sym}
use Rattle.std.specs.Prelude.{is_some, ◌||◌}
use Rattle.thrax_meaning.specs.Meaning.{built_in}
use Rattle.thrax_link.proofs.statements.is_used.Goals as goal

pub returns-then-is_defined : goal.returns-then-is_defined
returns-then-is_defined c = λ files done.
    let e = sym (c.is_defined.ensures files done) ∙ c.if-is_defined.true in
    c.if-is_defined.true ∙ sym (ap (λ b. b || is_some (built_in c.args.name.now)) e)

pub returns-else-is_defined : goal.returns-else-is_defined
returns-else-is_defined c = λ files done.
    let e = sym (c.is_defined.ensures files done) ∙ c.if-is_defined.false in
    c.is_some.ensures ∙ ap is_some c.named.ensures ∙ sym (ap (λ b. b || is_some (built_in c.args.name.now)) e)
