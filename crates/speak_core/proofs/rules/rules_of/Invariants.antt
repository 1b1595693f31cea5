use Rattle.std.proofs.Common.{◌≡◌, All, Ok, map, take}
use Rattle.core_expressions.specs.Views.{expression_of}
use Rattle.normaliser.specs.Loads.{CanBeBuilt}
use Rattle.thrax_link.specs.Exports.{exports_of}
use Rattle.speak_core.specs.Accepted.{named}
use Rattle.speak_core.proofs.rules.rules_of.Given as goal

abbrev pub invariant-loop-name : goal.invariant-loop-name
invariant-loop-name l =
    (named l.file (exports_of l.grammar) (take l.name-index l.names) ≡ Ok (map expression_of l.rules.items))
    × All CanBeBuilt (map expression_of l.rules.items)
