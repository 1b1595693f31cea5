use Rattle.std.proofs.Common.{◌≡◌, ◌∷◌, ◌≤◌, [], arith, ap, ◌∙◌}
use Rattle.rewrite_rules.specs.PartsOf.{parts}
use Rattle.rewrite_rules.specs.Befores.{before_at}
use Rattle.rewrite_rules.specs.Steps.{WalkFrom, WalkBy}
use Rattle.rewrite_rules.proofs.Drawing.{draws_same}
use Rattle.rewrite_rules.proofs.Listing.{walks_empty, walks_label}
use Rattle.rewrite_rules.proofs.arcs.walks_by.Goals as goal

pub returns-in_ok-walks_from : goal.returns-in_ok-walks_from
returns-in_ok-walks_from c =
    let p = parts c.args.tau.now c.args.t.now.automata in
    let e : c.args.arc.input ≡ 0 = omega arith in
    record {
      drawn =
          draws_same (WalkFrom p c.args.at c.args.held c.args.arc (c.args.at.back ∷ [])) (WalkBy p c.args.at c.args.held c.args.arc) c.args.spots.now c.walks_from.new.spots c.args.row.now.items c.walks_from.new.row.items
          (walks_empty c.args.tau.now c.args.t.now c.requires.ready c.args.at c.args.held c.args.arc e c.requires.back) c.in_ok-walks_from.ensures.drawn;
    }

pub returns-in_ok-walks_from-2 : goal.returns-in_ok-walks_from-2
returns-in_ok-walks_from-2 c =
    let p = parts c.args.tau.now c.args.t.now.automata in
    let t = c.args.t.now in
    let low : 1 ≤ c.args.arc.input = omega arith in
    let high : c.args.arc.input ≤ 255 = omega arith in
    let sources = c.get-sources.result.now in
    record {
      drawn =
          draws_same (WalkFrom p c.args.at c.args.held c.args.arc sources) (WalkBy p c.args.at c.args.held c.args.arc) c.args.spots.now c.walks_from-then-arc-le255.new.spots c.args.row.now.items c.walks_from-then-arc-le255.new.row.items
          (walks_label c.args.tau.now t c.requires.ready c.args.at c.args.held c.args.arc sources low high (c.get-sources.ensures.value ∙ ap (λ n. before_at t.befores n c.args.at.back) c.of.ensures.value)) c.in_ok-walks_from-2.ensures.drawn;
    }
