use Rattle.std.proofs.Common.{◌≡◌, ◌-◌, ◌≤◌, true, false, ltb, leb, rules, sym, subst, ap, ◌∙◌, take, drop, length}
use Rattle.std.specs.List.Sorted.{IsPartitionPoint, IsNonDecreasingBy}
use Rattle.std.proofs.lemmas.List.Sorted.{IsPartitionPoint-from_clause, IsPartitionedBy-leb, IsPartitionedBy-ltb, IsNonDecreasingBy-drop}
use Rattle.weighted_relations.specs.declared.Arc.{Arc}
use Rattle.fst_core.proofs.Readers.{part_is, rest_is}
use Rattle.fst_core.proofs.orders.reading.Goals as goal

pub returns : goal.returns
returns c =
    let row = c.args.row.now in
    let label = c.args.label in
    let i = c.partition_point-start.result in
    let j = c.partition_point-count.result in
    let rest = take (length row - i) (drop i row) in
    let same : rest ≡ drop i row = rest_is row i in
    let up = subst (IsNonDecreasingBy (λ (y : Arc). y.input)) (sym same) (IsNonDecreasingBy-drop (λ (y : Arc). y.input) i row c.requires.sorted) in
    let low = IsPartitionPoint-from_clause (λ (y : Arc). ltb y.input label) row i c.partition_point-start.ensures.partitioned (IsPartitionedBy-ltb (λ (y : Arc). y.input) row label c.requires.sorted) (λ a r q k. search rules) in
    let high = IsPartitionPoint-from_clause (λ (y : Arc). leb y.input label) rest j c.partition_point-count.ensures.partitioned (IsPartitionedBy-leb (λ (y : Arc). y.input) rest label up) (λ a r q k. search rules) in
    record {
      exact = ap (take j) same ∙ part_is label row i j c.partition_point-start.ensures.bound (subst (λ l. j ≤ length l) same c.partition_point-count.ensures.bound) low (subst (λ l. IsPartitionPoint (λ (y : Arc). leb y.input label ≡ true) (λ (y : Arc). leb y.input label ≡ false) l j) same high);
    }
