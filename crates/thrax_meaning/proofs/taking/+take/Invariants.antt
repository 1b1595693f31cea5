use Rattle.std.proofs.Common.{◌≡◌, ◌+◌, ◌*◌, map, drop, Some}
use Rattle.norm_base.specs.Files.{Files}
use Rattle.checked_expressions.specs.Answers.{shared_of}
use Rattle.thrax_meaning.specs.Tables.{scope_at, locals_at, place_weight, body_size}
use Rattle.thrax_meaning.proofs.Fronts.{front, each}
use Rattle.thrax_syntax.specs.declared.tree.Tree.{size-Tree}
use denote.Param.Weighed.{most}
use Rattle.thrax_meaning.proofs.taking.+take.Given as goal

abbrev pub invariant-take_each-loop-part : goal.invariant-take_each-loop-part
invariant-take_each-loop-part g l = record {
  so_far : (known : Files) → g.H.Shelf.files l.initial.shelf ≡ Some known → front (map shared_of l.all.items) (each known (scope_at known l.place) (locals_at l.place) (drop l.part-index l.parts)) ≡ each known (scope_at known l.place) (locals_at l.place) l.parts;
  files : g.H.Shelf.files l.shelf ≡ g.H.Shelf.files l.initial.shelf;
  faults : g.H.Shelf.faults l.shelf ≡ g.H.Shelf.faults l.initial.shelf;
}

abbrev pub decreases-take_at : goal.decreases-take_at
decreases-take_at g l = 5 * (place_weight l.place.now + size-Tree l.tree.now)

abbrev pub decreases-take_each : goal.decreases-take_each
decreases-take_each g l = 5 * (place_weight l.place.now + most size-Tree l.parts.now) + 1

abbrev pub decreases-call : goal.decreases-call
decreases-call g l = 5 * (place_weight l.place.now + most size-Tree l.args.now) + 4

abbrev pub decreases-call_member : goal.decreases-call_member
decreases-call_member g l = 5 * (place_weight l.place.now + most size-Tree l.args.now) + 3

abbrev pub decreases-apply : goal.decreases-apply
decreases-apply g l = 5 * (place_weight l.place.now + most size-Tree l.args.now) + 2

abbrev pub decreases-run : goal.decreases-run
decreases-run g l = 5 * (place_weight l.home.now + (body_size l.body.now + size-Tree l.last.now)) + 1

abbrev pub decreases-call_built_in : goal.decreases-call_built_in
decreases-call_built_in g l = 5 * (place_weight l.place.now + most size-Tree l.args.now) + 3

abbrev pub decreases-call_rewrite : goal.decreases-call_rewrite
decreases-call_rewrite g l = 5 * (place_weight l.place.now + most size-Tree l.args.now) + 2

abbrev pub decreases-take_rewrite : goal.decreases-take_rewrite
decreases-take_rewrite g l = 5 * (place_weight l.place.now + most size-Tree l.args.now) + 1
