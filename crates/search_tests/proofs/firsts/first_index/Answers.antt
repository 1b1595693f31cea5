use Rattle.std.proofs.Common.{◌<◌, ◌+◌, length, subst, sym, refl, inl, inr}
use Rattle.std.proofs.lemmas.Bool.{false≢true}
use Rattle.weighted_relations.specs.Order.{below_total}
use Rattle.search_tests.specs.Entries.{Before}
use Rattle.search_tests.proofs.Scans.{FirstOf, first_one, first_kept, first_taken}
use Rattle.search_tests.proofs.firsts.first_index.Goals as goal
use Rattle.search_tests.proofs.firsts.first_index.Goals.{then-not-is_before, else-not-is_before}

pub loop-i-init : goal.loop-i-init
loop-i-init c = record { within = c.requires; first = first_one c.args.waiting.now c.requires }

pub loop-i-preserved : goal.loop-i-preserved
loop-i-preserved c =
    let a = c.index-waiting-first.result in
    let b = c.index-waiting-i.result in
    let xs = c.args.waiting.now in
    elim c.if-not-is_before.branch [
      | then-not-is_before w ↦
          let other : Before b a = elim (below_total a.weight b.weight a.output.items b.output.items) [ inl h ↦ absurd (false≢true (w.if-not-is_before.ensures.1 h)) | inr h ↦ h ] in
          record {
            within = subst (λ n. n < length xs) (sym w.first-is) c.loop-i-test.true;
            first = subst (λ n. FirstOf xs n (c.loop-i.i + 1)) (sym w.first-is) (first_taken xs c.loop-i.first c.loop-i.i a b c.loop-i.invariant.within c.loop-i-test.true c.index-waiting-first.is c.index-waiting-i.is c.loop-i.invariant.first other);
          }
      | else-not-is_before w ↦
          record {
            within = subst (λ n. n < length xs) (sym w.first-is) c.loop-i.invariant.within;
            first = subst (λ n. FirstOf xs n (c.loop-i.i + 1)) (sym w.first-is) (first_kept xs c.loop-i.first c.loop-i.i a b c.loop-i.invariant.within c.loop-i-test.true c.index-waiting-first.is c.index-waiting-i.is c.loop-i.invariant.first (w.if-not-is_before.ensures.0 refl));
          }
    ]
