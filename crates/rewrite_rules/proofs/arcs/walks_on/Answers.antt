use Rattle.std.proofs.Common.{◌≡◌, ◌<◌, ℕ, length, get_or, arith, subst, ap, ◌∙◌}
use Rattle.std.proofs.lemmas.Option.{slice_get-get_or}
use Rattle.rewrite_rules.specs.Moves.{moved}
use Rattle.rewrite_rules.specs.PartsOf.{parts}
use Rattle.rewrite_rules.specs.Steps.{WalkOn, walk_step}
use Rattle.rewrite_rules.specs.Drawn.{Draws}
use Rattle.rewrite_rules.specs.declared.arcs.Step.{Step}
use Rattle.rewrite_rules.specs.declared.spots.Spot.{Spot}
use Rattle.rewrite_rules.specs.declared.spots.Spot.TheVariants.{Inside}
use Rattle.rewrite_rules.proofs.Drawing.{listed_none, listed_more}
use Rattle.rewrite_rules.proofs.arcs.walks_on.Goals as goal

pub loop-back-init : goal.loop-back-init
loop-back-init c =
    let p = parts c.args.tau.now c.args.t.now.automata in
    listed_none c.args.sources.now (λ d x. x ≡ walk_step p c.args.at c.args.held c.args.arc d) c.args.spots.now c.args.row.now.items

pub loop-back-preserved : goal.loop-back-preserved
loop-back-preserved c =
    let p = parts c.args.tau.now c.args.t.now.automata in
    let at = c.args.at in
    let a = c.args.arc in
    let sources = c.args.sources.now in
    let i = c.loop-back.back-index in
    let within : i < length sources = omega arith in
    let d : ℕ = get_or sources i 0 in
    let step = λ (s : Spot). let x : Step = record { input = a.input; output = a.output; weight = a.weight; to = s } in x in
    let e : step (Inside c.after-sigma.result c.after-left.result d a.next c.held_on-next.result) ≡ walk_step p at c.args.held a d =
    ap (λ n. step (Inside n c.after-left.result d a.next c.held_on-next.result)) c.after-sigma.ensures.value ∙
    ap (λ n. step (Inside (moved p.sigma_step at.sigma a.input) n d a.next c.held_on-next.result)) c.after-left.ensures.value ∙
    ap (λ n. step (Inside (moved p.sigma_step at.sigma a.input) (moved p.left_step at.left a.output) d a.next n)) c.held_on-next.ensures.value in
    listed_more sources (λ d x. x ≡ walk_step p at c.args.held a d) i d c.args.spots.now c.loop-back.spots c.draw.new.spots c.args.row.now.items c.loop-back.row.items c.draw.new.row.items (slice_get-get_or sources i 0 within) c.loop-back.invariant
    (subst (λ s. Draws (λ x. x ≡ s) c.loop-back.spots c.draw.new.spots c.loop-back.row.items c.draw.new.row.items) e c.in_ok-draw.ensures.drawn)

pub returns : goal.returns
returns c =
    let e : c.loop-back.back-index ≡ length c.args.sources.now = omega arith in
    record { drawn = subst (λ n. Draws (WalkOn (parts c.args.tau.now c.args.t.now.automata) c.args.at c.args.held c.args.arc c.args.sources.now n) c.args.spots.now c.loop-back.spots c.args.row.now.items c.loop-back.row.items) e c.loop-back.invariant }
