use Rattle.std.proofs.Common.{◌<◌, ◌-◌, length}
use Rattle.std.specs.Prelude.{All}
use Rattle.std.specs.List.Sorted.{IsPermutation}
use Rattle.least_path.specs.Waiting.{Fits, IsHeapButDown, at_place}
use Rattle.least_path.proofs.queue.sift_down.Given as goal

abbrev pub invariant-loop-at : goal.invariant-loop-at
invariant-loop-at l = record {
  within : l.at < length l.entries;
  heap : IsHeapButDown l.outputs (at_place l.entries) (length l.entries) l.at;
  fits : All (Fits l.outputs) l.entries;
  moved : IsPermutation l.fn.entries l.entries;
}

abbrev pub decreases-loop-at : goal.decreases-loop-at
decreases-loop-at l = length l.entries - l.at
