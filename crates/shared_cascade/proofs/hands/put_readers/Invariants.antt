use Rattle.std.specs.Prelude.{◌≡◌, ◌≤◌, filter, nat_eq, take}
use Rattle.std.specs.Vec.{vec_capacity}
use Rattle.shared_cascade.proofs.hands.put_readers.Given as goal

abbrev pub invariant-loop-arc : goal.invariant-loop-arc
invariant-loop-arc l = record {
  put : l.into.items ≡ filter (λ a. nat_eq a.input l.label) (take l.arc-index l.arcs);
  room : vec_capacity l.initial.into ≤ vec_capacity l.into;
}
