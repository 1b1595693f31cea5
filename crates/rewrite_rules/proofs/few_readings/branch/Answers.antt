use Rattle.std.proofs.Common.{◌≡◌, ◌+◌, get_or, length, sym, ap, subst, ◌∙◌, arith}
use Rattle.std.specs.Prelude.{slice_get}
use Rattle.std.proofs.lemmas.Option.{slice_get-get_or}
use Rattle.weighted_relations.specs.declared.Arc.{Arc}
use Rattle.weighted_relations.specs.Machines.{IsArc}
use Rattle.rewrite_rules.specs.Begun.{IsEndOn}
use Rattle.rewrite_rules.proofs.Ending.{BranchedTo, branched_none, branched_more, branched, last_low}
use Rattle.rewrite_rules.proofs.few_readings.branch.Goals as goal

pub end-requires-clause-last : goal.end-requires-clause-last
end-requires-clause-last c = last_low c.final_of.result (λ w h. c.arcs_of-row.ensures.sound.weights c.args.state w (sym c.final_of.ensures.value ∙ h))

pub loop-arc-init : goal.loop-arc-init
loop-arc-init c =
    branched_none c.args.a.now c.args.state c.args.so_far.now c.requires.input c.requires.output c.args.begun.now.items c.end.new.begun.items
    (subst (λ o. IsEndOn c.args.so_far.now o c.args.begun.now.items c.end.new.begun.items) c.final_of.ensures.value c.in_ok-end.ensures.ended)

pub extended-requires-clause-arc : goal.extended-requires-clause-arc
extended-requires-clause-arc c =
    let none : Arc = record { input = 0; output = 0; weight = 0; next = 0 } in
    let row = c.arcs_of-row.result.now in
    let k = c.loop-arc.arc-index in
    let there : IsArc c.args.a.now.arcs c.args.state k (get_or row k none) = ap (λ v. slice_get v k) (sym c.arcs_of-row.ensures.value) ∙ slice_get-get_or row k none c.loop-arc-test.true in
    (c.arcs_of-row.ensures.sound.arcs c.args.state k (get_or row k none) there).weight

pub loop-arc-preserved : goal.loop-arc-preserved
loop-arc-preserved c =
    let none : Arc = record { input = 0; output = 0; weight = 0; next = 0 } in
    let row = c.arcs_of-row.result.now in
    let k = c.loop-arc.arc-index in
    let there : IsArc c.args.a.now.arcs c.args.state k (get_or row k none) = ap (λ v. slice_get v k) (sym c.arcs_of-row.ensures.value) ∙ slice_get-get_or row k none c.loop-arc-test.true in
    subst (BranchedTo c.args.a.now c.args.state c.args.so_far.now (k + 1) c.args.begun.now.items) (sym c.in_ok-push.ensures.items)
    (branched_more c.args.a.now c.args.state c.args.so_far.now c.requires.input c.requires.output k (get_or row k none) there c.args.begun.now.items c.loop-arc.begun.items c.in_ok-extended.field-0 c.arcs_of-row.ensures.sound c.loop-arc.invariant c.in_ok-extended.ensures.extended)

pub returns : goal.returns
returns c =
    let e : c.loop-arc.arc-index ≡ length c.arcs_of-row.result.now = omega arith in
    record { branched = branched c.args.a.now c.args.state c.args.so_far.now c.requires.input c.requires.output c.loop-arc.arc-index c.args.begun.now.items c.loop-arc.begun.items (e ∙ ap length c.arcs_of-row.ensures.value) c.loop-arc.invariant }
