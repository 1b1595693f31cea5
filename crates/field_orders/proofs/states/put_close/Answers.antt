use Rattle.std.proofs.Common.{rules, ◌≡◌, sym, subst, true}
use Rattle.std.proofs.lemmas.Result.{IfOk-weaker}
use Rattle.field_orders.specs.Remainders.{byte, bytes_then, closing}
use Rattle.field_orders.specs.Sources.{Makes}
use Rattle.field_orders.proofs.Stating.{makes_both}
use Rattle.field_orders.proofs.states.put_close.Goals as goal

pub returns-clause-made : goal.returns-clause-made
returns-clause-made c =
    let is : c.args.braced ≡ true = search rules in
    IfOk-weaker c.put_byte-2.result _ _ (λ k h t. subst (λ b. Makes t c.args.states.now c.put_byte-2.new.states c.args.next k (bytes_then (closing b))) (sym is) (makes_both t c.args.states.now c.put_byte.new.states c.put_byte-2.new.states c.args.next c.in_ok-bar.bar k (byte 124) (byte 125) (c.in_ok-bar.ensures.made t) (h t))) c.put_byte-2.ensures.made
