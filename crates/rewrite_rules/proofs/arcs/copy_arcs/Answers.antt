use Rattle.std.proofs.Common.{◌<◌, ◌≤◌, ◌∷◌, ◌++◌, [], length, get_or, take, map, sym, ap, ◌∙◌, arith, append-nil, append_assoc}
use Rattle.std.proofs.lemmas.List.{map_more, take_all}
use Rattle.rewrite_rules.specs.Steps.{copy_arc}
use Rattle.rewrite_rules.proofs.arcs.copy_arcs.Goals as goal

pub loop-byte-init : goal.loop-byte-init
loop-byte-init c = sym (append-nil c.args.row.now.items)

pub loop-byte-preserved : goal.loop-byte-preserved
loop-byte-preserved c =
    let bytes = c.args.bytes.now in
    let i = c.loop-byte.byte-index in
    let f = copy_arc c.args.next in
    let row = c.args.row.now.items in
    let within : i < length bytes = omega arith in
    c.in_ok-push.ensures.items ∙ ap (λ r. r ++ f (get_or bytes i 0) ∷ []) c.loop-byte.invariant ∙ append_assoc row (map f (take i bytes)) (f (get_or bytes i 0) ∷ []) ∙ ap (λ r. row ++ r) (sym (map_more f bytes i 0 within))

pub returns : goal.returns
returns c =
    let e : length c.args.bytes.now ≤ c.loop-byte.byte-index = omega arith in
    record { arcs = c.loop-byte.invariant ∙ ap (λ b. c.args.row.now.items ++ map (copy_arc c.args.next) b) (take_all c.loop-byte.byte-index c.args.bytes.now e) }
