use Rattle.std.proofs.Common.{◌≡◌, ◌+◌, ◌%◌, ◌∙◌, suc, set, get_or, sym, ap, arith}
use Rattle.state_tuples.specs.Positions.{back, padded}
use Rattle.state_tuples.proofs.Padded.{back_more}
use Rattle.state_tuples.proofs.Counted.{bits_closed}
use Rattle.state_tuples.proofs.joins.entering_at.Goals as goal

pub loop-i-preserved : goal.loop-i-preserved
loop-i-preserved c =
    let more = back_more c.args.t.now.states c.loop-i.i in
    ap (λ t. set t c.loop-i.i (get_or c.args.t.now.states c.loop-i.i 0)) c.loop-i.invariant ∙ sym more

pub returns : goal.returns
returns c =
    let k = c.args.k in
    let t = c.args.t.now in
    let all : c.loop-i.i ≡ suc k = omega arith in
    let states : c.loop-i.states ≡ padded (back 0 t.states (suc k)) = c.loop-i.invariant ∙ ap (λ j. padded (back 0 t.states j)) all in
    let filters = ap (λ n. t.filters % n + n) c.closed_value-value.ensures ∙ bits_closed t.filters k in
    cc
