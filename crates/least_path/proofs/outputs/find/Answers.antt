use Rattle.std.proofs.Common.{◌∷◌, ◌++◌, ◌-◌, [], arith, ap, ◌∙◌, get_or}
use Rattle.least_path.specs.Texts.{texts, text_of}
use Rattle.least_path.proofs.Letters.{texts_length, text_at}
use Rattle.least_path.proofs.outputs.find.Goals as goal

pub returns-then-letter-label-clause-number : goal.returns-then-letter-label-clause-number
returns-then-letter-label-clause-number c = let n = texts_length c.args.letters.now in omega arith

pub returns-then-letter-label-clause-text : goal.returns-then-letter-label-clause-text
returns-then-letter-label-clause-text c =
    let all = texts c.args.letters.now in
    let n = texts_length c.args.letters.now in
    let h = text_at c.args.letters.now c.requires c.loop-number.number (record { before = 0; label = 0; longer = 0; beside = 0 }) (omega arith) (omega arith) in
    h ∙ ap (λ t. text_of all t ++ (get_or c.args.letters.now (c.loop-number.number - 1) (record { before = 0; label = 0; longer = 0; beside = 0 })).label ∷ []) c.if-letter-at.true ∙ ap (λ t. text_of all c.args.at ++ t ∷ []) c.if-letter-label.true
