use Rattle.std.proofs.Common.{◌∙◌, ◌++◌, [], append-nil}
use Rattle.std.proofs.lemmas.Result.{on_ok_weaker}
use Rattle.lexicon_trees.proofs.Walks.{led_join, added_here}
use Rattle.lexicon_trees.proofs.trees.Tree.add.Goals as goal

pub returns-then-is_copied : goal.returns-then-is_copied
returns-then-is_copied c =
    on_ok_weaker c.end.result
    (λ e. added_here c.args.self.now c.walk.new.self c.end.new.self c.deref.result.now c.deref.result.now c.in_ok-state.state c.args.entry.now c.in_ok-state.ensures c.deref.ensures.value (c.deref.ensures.value ∙ c.is_copied.ensures.0 c.if-is_copied.true) e)
    c.end.ensures

pub returns : goal.returns
returns c =
    let led = led_join c.args.self.now c.walk-2.new.self c.walk-3.new.self 0 c.deref-2.result.now [] [] c.deref-3.result.now c.in_ok-read.read c.in_ok-state-2.state c.in_ok-read.ensures c.in_ok-state-2.ensures in
    on_ok_weaker c.end-2.result
    (λ e. added_here c.args.self.now c.walk-3.new.self c.end-2.new.self (c.deref-2.result.now ++ []) c.deref-3.result.now c.in_ok-state-2.state c.args.entry.now led (append-nil c.deref-2.result.now ∙ c.deref-2.ensures.value) c.deref-3.ensures.value e)
    c.end-2.ensures
