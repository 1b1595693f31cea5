use Rattle.std.proofs.Common.{◌≡◌, ◌+◌, ◌∙◌, subst, sym, arith}
use Rattle.std.specs.Prelude.{◌↔◌, ℕ, eqb}
use Rattle.std.specs.List.{Contains, dedup}
use Rattle.std.specs.List.Sorted.{IsStrictlyIncreasing}
use Rattle.std.proofs.lemmas.List.Sorted.{Contains-permutation, IsPermutation-sym}
use Rattle.std.proofs.lemmas.Map.Keys.{IsStrictlyIncreasing-dedup}
use Rattle.std.proofs.lemmas.List.Filters.{dedup_is}
use Rattle.std.proofs.lemmas.List.Kept.{Contains-dedup_nat, Contains-from_dedup}
use Rattle.merged_arcs.proofs.Runs.{TargetsTo, targets_more, targets_all}
use Rattle.merged_arcs.proofs.rows.targets.Goals as goal

pub loop-i-preserved : goal.loop-i-preserved
loop-i-preserved c =
    subst (TargetsTo c.args.arcs.now c.args.from (c.loop-i.i + 1)) (sym c.in_ok-push.ensures.items)
    (targets_more c.args.arcs.now c.args.from c.loop-i.i c.loop-i.found.items c.loop-i.auto.i c.loop-i.invariant)

pub returns : goal.returns
returns c =
    let end : c.loop-i.i ≡ c.args.to = (let l = c.loop-i.auto.i-end c.requires.order in omega arith) in
    let had : TargetsTo c.args.arcs.now c.args.from c.args.to c.loop-i.found.items = subst (λ n. TargetsTo c.args.arcs.now c.args.from n c.loop-i.found.items) end c.loop-i.invariant in
    let all = targets_all c.args.arcs.now c.args.from c.args.to c.loop-i.found.items had in
    let sorted = c.sort_unstable.new.self.items in
    let is : c.new.result ≡ dedup eqb sorted = c.new.ensures.value ∙ dedup_is _ sorted c.dedup.new.self.items c.dedup.ensures.filtered in
    let order = c.sort_unstable.ensures.permutation in
    let same : (t : ℕ) → Contains c.loop-i.found.items t ↔ Contains sorted t = λ t. (Contains-permutation c.loop-i.found.items sorted t order, Contains-permutation sorted c.loop-i.found.items t (IsPermutation-sym c.loop-i.found.items sorted order)) in
    record {
      order = subst IsStrictlyIncreasing (sym is) (IsStrictlyIncreasing-dedup sorted c.sort_unstable.ensures.sorted);
      all = λ t. (
        λ h. (all t).0 ((same t).1 (Contains-from_dedup _ sorted t (subst (λ v. Contains v t) is h))),
        λ h. subst (λ v. Contains v t) (sym is) (Contains-dedup_nat sorted t ((same t).0 ((all t).1 h))),
      );
    }
