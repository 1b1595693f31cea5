use Rattle.std.proofs.Common.{◌∙◌, ◌∷◌, ◌++◌, [], ap}
use Rattle.std.proofs.lemmas.Result.{IfOk-weaker}
use Rattle.normaliser.proofs.Rules.{read_nothing}
use Rattle.normaliser.proofs.loading.reading_nothing.Goals as goal

pub returns-clause-readings : goal.returns-clause-readings
returns-clause-readings c =
    let nothing = c.in_ok-nothing.nothing in
    IfOk-weaker c.looking_ahead.result _ _
    (read_nothing nothing _ 1 c.in_ok-nothing.ensures.readings (c.in_ok-push.ensures.items ∙ ap (λ l. l ++ nothing ∷ []) c.new-parts.ensures.items))
    c.looking_ahead.ensures.value
