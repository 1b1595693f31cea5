use Rattle.std.proofs.Common.{◌<◌, ◌^◌, rules}
use Rattle.std.specs.Prelude.{IfSome}
use Rattle.string_files.proofs.Weights.{weight_is}
use Rattle.string_files.proofs.fields.weight.Goals as goal

pub returns : goal.returns
returns c =
    let low : IfSome c.decimal.result (λ w. w < 2 ^ 32) = search rules in
    weight_is c.args.field.now c.decimal.result c.decimal.ensures.found low c.decimal.ensures.none
