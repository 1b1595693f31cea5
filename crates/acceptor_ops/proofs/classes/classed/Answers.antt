use Rattle.std.proofs.Common.{◌≡◌, ◌+◌, [], ℕ, List, get_or, length, subst, sym, ◌∙◌, arith}
use Rattle.state_table.specs.Numbers.{Numbers}
use Rattle.acceptor_ops.specs.Alike.{Classing, AreNumbered}
use Rattle.acceptor_ops.proofs.Labels.{NumberedTo, numbered, numbered_more}
use Rattle.acceptor_ops.proofs.classes.classed.Goals as goal

pub loop-label-preserved : goal.loop-label-preserved
loop-label-preserved c =
    let steps = c.args.steps.now in
    let l = c.loop-label.label in
    let key : c.new.result ≡ get_or steps l [] = c.new.ensures.value ∙ c.in_ok-list.ensures.items ∙ c.get.ensures.value in
    let add : Numbers c.loop-label.lists c.number.new.self (get_or steps l []) c.in_ok-number.field-0 = subst (λ (v : List ℕ). Numbers c.loop-label.lists c.number.new.self v c.in_ok-number.field-0) key c.in_ok-number.ensures.number in
    subst (NumberedTo steps (l + 1) c.number.new.self) (sym {A = List ℕ} c.in_ok-push.ensures.items)
    (numbered_more steps l c.loop-label.lists c.number.new.self c.loop-label.of.items c.in_ok-number.field-0 c.loop-label.invariant add)

pub returns : goal.returns
returns c =
    let steps = c.args.steps.now in
    let e : c.loop-label.label ≡ length steps = (let n = c.len-label-end.ensures.count in omega arith) in
    let had : NumberedTo steps (length steps) c.loop-label.lists c.loop-label.of.items = subst (λ k. NumberedTo steps k c.loop-label.lists c.loop-label.of.items) e c.loop-label.invariant in
    record {
      classes = subst (λ n. let z : Classing = record { classes = c.loop-label.of.items; count = n } in AreNumbered steps (length steps) z) (sym {A = ℕ} c.len.ensures.count)
          (numbered steps (length steps) c.loop-label.lists c.loop-label.of.items had);
    }
