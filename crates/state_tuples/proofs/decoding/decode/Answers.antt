use Rattle.std.proofs.Common.{◌∙◌, ◌++◌, ◌∷◌, ◌<◌, [], List, length, take, sym, ap, arith}
use Rattle.std.proofs.lemmas.List.{take_all, take_more}
use Rattle.state_tuples.specs.declared.tuples.TupleArc.{TupleArc}
use Rattle.state_tuples.specs.Codes.{no_arc}
use Rattle.state_tuples.proofs.InCodes.{width_in}
use Rattle.state_tuples.proofs.decoding.decode.Goals as goal

pub arc_at-requires-clause-within : goal.arc_at-requires-clause-within
arc_at-requires-clause-within c =
    let h = c.requires.known in
    let n = width_in h.0 h.1 h.2 c.args.code.now h.3 in
    let all = c.arc_count-k-end.ensures h.0 h.1 h.2 h.3 in
    omega arith

pub loop-k-preserved : goal.loop-k-preserved
loop-k-preserved c t end arcs is =
    let all = c.arc_count-k-end.ensures t end arcs is in
    let lt : c.loop-k.k < length arcs = omega arith in
    c.in_ok-push.ensures.items ∙ (ap (λ (l : List TupleArc). l ++ c.arc_at.result ∷ []) (c.loop-k.invariant t end arcs is)
    ∙ (ap (λ (a : TupleArc). take c.loop-k.k arcs ++ a ∷ []) (c.arc_at.ensures t end arcs is) ∙ sym (take_more arcs c.loop-k.k no_arc lt)))

pub returns-clause-arcs : goal.returns-clause-arcs
returns-clause-arcs c t end arcs is =
    let all = c.arc_count-k-end.ensures t end arcs is in
    c.loop-k.invariant t end arcs is ∙ take_all c.loop-k.k arcs (omega arith)
