use Rattle.std.proofs.Common.{◌≡◌, ◌<◌, length, get_or, arith, subst}
use Rattle.std.proofs.lemmas.Option.{slice_get-get_or}
use Rattle.weighted_relations.specs.declared.Arc.{Arc}
use Rattle.rewrite_rules.specs.PartsOf.{parts}
use Rattle.rewrite_rules.specs.Steps.{Walk, WalkBy}
use Rattle.rewrite_rules.specs.Drawn.{Draws}
use Rattle.rewrite_rules.proofs.Drawing.{listed_none, listed_more}
use Rattle.rewrite_rules.proofs.arcs.walks.Goals as goal

pub loop-arc-init : goal.loop-arc-init
loop-arc-init c = listed_none c.arcs_of-arcs.result.now (λ a. WalkBy (parts c.args.tau.now c.args.t.now.automata) c.args.at c.args.held a) c.args.spots.now c.args.row.now.items

pub loop-arc-preserved : goal.loop-arc-preserved
loop-arc-preserved c =
    let p = parts c.args.tau.now c.args.t.now.automata in
    let arcs = c.arcs_of-arcs.result.now in
    let i = c.loop-arc.arc-index in
    let within : i < length arcs = omega arith in
    let d : Arc = record { input = 0; output = 0; weight = 0; next = 0 } in
    listed_more arcs (λ a. WalkBy p c.args.at c.args.held a) i (get_or arcs i d) c.args.spots.now c.loop-arc.spots c.walks_by.new.spots c.args.row.now.items c.loop-arc.row.items c.walks_by.new.row.items (slice_get-get_or arcs i d within) c.loop-arc.invariant c.in_ok-walks_by.ensures.drawn

pub returns : goal.returns
returns c =
    let p = parts c.args.tau.now c.args.t.now.automata in
    let e : c.loop-arc.arc-index ≡ length c.arcs_of-arcs.result.now = omega arith in
    record {
      drawn =
          subst (λ r. Draws (Walk p c.args.at r c.args.held (length r)) c.args.spots.now c.loop-arc.spots c.args.row.now.items c.loop-arc.row.items) c.arcs_of-arcs.ensures.value
          (subst (λ n. Draws (Walk p c.args.at c.arcs_of-arcs.result.now c.args.held n) c.args.spots.now c.loop-arc.spots c.args.row.now.items c.loop-arc.row.items) e c.loop-arc.invariant);
    }
