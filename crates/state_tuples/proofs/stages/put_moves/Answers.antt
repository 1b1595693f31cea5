use Rattle.std.proofs.Common.{◌≡◌, ◌∙◌, suc, length, subst, arith, List}
use Rattle.state_tuples.specs.declared.tuples.TupleArc.{TupleArc}
use Rattle.state_tuples.specs.Orders.{Ordered}
use Rattle.state_tuples.proofs.Arranged.{arranged}
use Rattle.state_tuples.proofs.Staged.{last_stage}
use Rattle.state_tuples.proofs.stages.put_moves.Goals as goal

pub returns : goal.returns
returns c =
    let v = c.args.cascade.now in
    let some = c.part_count-count.ensures.sound.some in
    let all : suc c.loop-k.k ≡ length v.parts = omega (arith, c.part_count-count.ensures.value) in
    let is = c.loop-k.invariant ∙ last_stage v c.args.t.now c.args.asked c.loop-k.k all in
    let new : List TupleArc = c.sort_unstable.new.self.items in
    subst (λ xs. Ordered xs new) is (arranged c.loop-k.into.items new c.sort_unstable.ensures.permutation c.sort_unstable.ensures.sorted)
