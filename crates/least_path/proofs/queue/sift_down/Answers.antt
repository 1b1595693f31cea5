use Rattle.std.proofs.Common.{◌≡◌, ◌<◌, length, arith, refl, sym, subst}
use Rattle.std.proofs.lemmas.Bool.{false≢true}
use Rattle.std.proofs.lemmas.List.Sorted.{All-permutation, IsPermutation-trans}
use Rattle.least_path.specs.Waiting.{Before, Fits, IsHeapButDown, at_place}
use Rattle.least_path.proofs.Heaps.{down_step, down_done, exchanged, before_other}
use Rattle.least_path.proofs.queue.sift_down.Goals as goal

pub returns-then-is_before-clause-heap : goal.returns-then-is_before-clause-heap
returns-then-is_before-clause-heap c = down_done c.args.outputs.now (at_place c.loop-at.entries) (length c.loop-at.entries) c.loop-at.at c.first_below-below.result c.first_below-below.ensures.first (c.if-is_before.ensures.0 refl) c.loop-at.invariant.heap

pub loop-at-preserved : goal.loop-at-preserved
loop-at-preserved c =
    let all = c.args.outputs.now in
    let xs = c.loop-at.entries in
    let ys = c.swap.new.self in
    let at = c.loop-at.at in
    let below = c.first_below-below.result in
    let within : at < length xs = c.loop-at.invariant.within in
    let lower : below < length xs = c.first_below-below.ensures.within in
    let len : length ys ≡ length xs = c.swap.ensures.len in
    let less : Before all (at_place xs below) (at_place xs at) = before_other all (at_place xs at) (at_place xs below) (λ b. false≢true (c.if-is_before.ensures.1 b)) in
    let step : IsHeapButDown all (at_place ys) (length xs) below = down_step all (at_place xs) (at_place ys) (length xs) at below c.first_below-below.ensures.child lower (exchanged xs ys at below within lower c.swap.ensures.after) less c.first_below-below.ensures.first c.loop-at.invariant.heap in
    record {
      within = omega arith;
      heap = subst (λ n. IsHeapButDown all (at_place ys) n below) (sym len) step;
      fits = All-permutation (Fits all) xs ys c.swap.ensures.permutation c.loop-at.invariant.fits;
      moved = IsPermutation-trans c.args.entries.now xs ys c.loop-at.invariant.moved c.swap.ensures.permutation;
    }
