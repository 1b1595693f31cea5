use Rattle.std.proofs.Common.{◌≡◌, ◌<◌, ◌≤◌, ℕ, [], length, get_or, arith, subst, sym, ap, ◌∙◌}
use Rattle.std.proofs.lemmas.Option.{slice_get-get_or}
use Rattle.acceptor_ops.specs.Tables.{step_of}
use Rattle.rewrite_rules.specs.Classes.{first}
use Rattle.rewrite_rules.specs.Steps.{Listed, CopyTo, copied_to}
use Rattle.rewrite_rules.specs.Drawn.{Draws}
use Rattle.rewrite_rules.specs.declared.arcs.Step.{Step}
use Rattle.rewrite_rules.specs.declared.spots.Gap.TheVariants.{Open}
use Rattle.rewrite_rules.specs.declared.spots.Spot.TheVariants.{Outside}
use Rattle.rewrite_rules.proofs.Drawing.{listed_none, listed_more}
use Rattle.rewrite_rules.proofs.Grouping.{first_byte}
use Rattle.rewrite_rules.proofs.arcs.copies_on.Goals as goal

pub step-sigma-requires-clause-low : goal.step-sigma-requires-clause-low
step-sigma-requires-clause-low c = subst (λ n. 1 ≤ n) (sym c.first-byte.ensures.value) (first_byte c.args.t.now.automata 256 c.args.class c.args.t.now.classes c.requires.ready.classes c.requires.class).0

pub step-sigma-requires-clause-high : goal.step-sigma-requires-clause-high
step-sigma-requires-clause-high c = subst (λ n. n ≤ 257) (sym c.first-byte.ensures.value) (omega (arith, (first_byte c.args.t.now.automata 256 c.args.class c.args.t.now.classes c.requires.ready.classes c.requires.class).1))

pub step-left-requires-clause-low : goal.step-left-requires-clause-low
step-left-requires-clause-low c = subst (λ n. 1 ≤ n) (sym c.first-byte.ensures.value) (first_byte c.args.t.now.automata 256 c.args.class c.args.t.now.classes c.requires.ready.classes c.requires.class).0

pub step-left-requires-clause-high : goal.step-left-requires-clause-high
step-left-requires-clause-high c = subst (λ n. n ≤ 257) (sym c.first-byte.ensures.value) (omega (arith, (first_byte c.args.t.now.automata 256 c.args.class c.args.t.now.classes c.requires.ready.classes c.requires.class).1))

pub loop-back-init : goal.loop-back-init
loop-back-init c = listed_none c.get-sources.result.now (λ d. CopyTo (get_or c.args.t.now.classes.members c.args.class []) (copied_to c.args.t.now c.args.at c.args.class d)) c.args.spots.now c.args.row.now.items

pub loop-back-preserved : goal.loop-back-preserved
loop-back-preserved c =
    let t = c.args.t.now in
    let at = c.args.at in
    let sources = c.get-sources.result.now in
    let i = c.loop-back.back-index in
    let within : i < length sources = omega arith in
    let d : ℕ = get_or sources i 0 in
    let to : Outside c.step-sigma.result c.step-left.result d Open ≡ copied_to t at c.args.class d =
    ap (λ n. Outside n c.step-left.result d Open) (c.step-sigma.ensures.value ∙ ap (step_of t.automata.sigma at.sigma) c.first-byte.ensures.value) ∙
    ap (λ n. Outside (step_of t.automata.sigma at.sigma (first t.classes c.args.class)) n d Open) (c.step-left.ensures.value ∙ ap (step_of t.automata.left at.left) c.first-byte.ensures.value) in
    listed_more sources (λ d. CopyTo (get_or t.classes.members c.args.class []) (copied_to t at c.args.class d)) i d c.args.spots.now c.loop-back.spots c.copies_to.new.spots c.args.row.now.items c.loop-back.row.items c.copies_to.new.row.items (slice_get-get_or sources i 0 within) c.loop-back.invariant
    (subst (λ s. Draws (CopyTo (get_or t.classes.members c.args.class []) s) c.loop-back.spots c.copies_to.new.spots c.loop-back.row.items c.copies_to.new.row.items) to
    (subst (λ b. Draws (CopyTo b (Outside c.step-sigma.result c.step-left.result d Open)) c.loop-back.spots c.copies_to.new.spots c.loop-back.row.items c.copies_to.new.row.items) c.members-bytes.ensures.value c.in_ok-copies_to.ensures.drawn))

pub returns : goal.returns
returns c =
    let t = c.args.t.now in
    let Q : ℕ → Step → Type 0 = λ d. CopyTo (get_or t.classes.members c.args.class []) (copied_to t c.args.at c.args.class d) in
    let e : c.loop-back.back-index ≡ length c.get-sources.result.now = omega arith in
    record {
      drawn =
          subst (λ s. Draws (Listed s Q (length s)) c.args.spots.now c.loop-back.spots c.args.row.now.items c.loop-back.row.items) c.get-sources.ensures.value
          (subst (λ n. Draws (Listed c.get-sources.result.now Q n) c.args.spots.now c.loop-back.spots c.args.row.now.items c.loop-back.row.items) e c.loop-back.invariant);
    }
