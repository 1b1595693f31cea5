use Rattle.std.proofs.Common.{◌≡◌}
use Rattle.thrax_link.specs.Exports.{exports_of, exported_entries}
use Rattle.thrax_link.proofs.linking.exported.Given as goal

abbrev pub invariant-loop-entry : goal.invariant-loop-entry
invariant-loop-entry l = exports_of l.exports.items ≡ exported_entries l.yielded
