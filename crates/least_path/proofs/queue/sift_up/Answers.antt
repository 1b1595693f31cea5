use Rattle.std.proofs.Common.{◌≡◌, ◌<◌, ◌-◌, ◌/◌, ℕ, length, arith, sym, subst}
use Rattle.std.proofs.lemmas.Bool.{false≢true}
use Rattle.std.proofs.lemmas.List.Sorted.{All-permutation, IsPermutation-trans}
use Rattle.least_path.specs.Waiting.{Before, Fits, IsHeapButUp, at_place}
use Rattle.least_path.proofs.Heaps.{up_step, exchanged, child_of, before_other}
use Rattle.least_path.proofs.queue.sift_up.Goals as goal

pub loop-at-preserved : goal.loop-at-preserved
loop-at-preserved c =
    let all = c.args.outputs.now in
    let xs = c.loop-at.entries in
    let ys = c.swap.new.self in
    let at = c.loop-at.at in
    let above : ℕ = (c.loop-at.at - 1) / 2 in
    let within : at < length xs = c.loop-at.invariant.within in
    let lower : (c.loop-at.at - 1) / 2 < length xs = omega arith in
    let len : length ys ≡ length xs = c.swap.ensures.len in
    let less : Before all (at_place xs at) (at_place xs ((c.loop-at.at - 1) / 2)) = before_other all (at_place xs ((c.loop-at.at - 1) / 2)) (at_place xs at) (λ b. false≢true (c.if-is_before.ensures.1 b)) in
    let step : IsHeapButUp all (at_place ys) (length xs) ((c.loop-at.at - 1) / 2) = up_step all (at_place xs) (at_place ys) (length xs) at ((c.loop-at.at - 1) / 2) (child_of at c.loop-at-test.true) within (exchanged xs ys ((c.loop-at.at - 1) / 2) at lower within c.swap.ensures.after) less c.loop-at.invariant.heap in
    record {
      within = omega arith;
      heap = subst (λ n. IsHeapButUp all (at_place ys) n ((c.loop-at.at - 1) / 2)) (sym len) step;
      fits = All-permutation (Fits all) xs ys c.swap.ensures.permutation c.loop-at.invariant.fits;
      moved = IsPermutation-trans c.args.entries.now xs ys c.loop-at.invariant.moved c.swap.ensures.permutation;
    }
