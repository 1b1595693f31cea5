use Rattle.std.proofs.Common.{◌≡◌, take, drop, ◌++◌, []}
use Rattle.thrax_link.specs.Linking.{repeated}
use Rattle.thrax_link.specs.Progress.{Holds}
use Rattle.thrax_link.proofs.Repeats.{names}
use Rattle.thrax_link.proofs.statements.repeated.Given as goal

abbrev pub invariant-loop-name : goal.invariant-loop-name
invariant-loop-name l =
    Holds l.seen (take l.name-index l.params) × (repeated (take l.name-index l.params) (drop l.name-index l.params ++ names l.body) ≡ repeated [] (l.params ++ names l.body))

abbrev pub invariant-loop-local : goal.invariant-loop-local
invariant-loop-local l =
    Holds l.seen (l.params ++ names (take l.local-index l.body)) × (repeated (l.params ++ names (take l.local-index l.body)) (names (drop l.local-index l.body)) ≡ repeated [] (l.params ++ names l.body))
