use Rattle.std.proofs.Common.{◌≡◌, ◌<◌, drop, get_or, length, subst, sym, ap, inl, inr, refl, arith, length-drop, ◌∙◌}
use Rattle.std.proofs.lemmas.List.{drop_all}
use Rattle.weighted_relations.specs.declared.Arc.{Arc}
use Rattle.weighted_relations.specs.Machines.{final_of}
use Rattle.search_tests.specs.Growth.{AlongArc, Grown}
use Rattle.search_tests.proofs.Growing.{along_more, end_opened, end_none, node_grown}
use Rattle.search_tests.proofs.settling.Search.settle.Goals as goal

pub loop-arc-preserved : goal.loop-arc-preserved
loop-arc-preserved c =
    let line = c.args.line.now in
    let x = drop c.args.pair.position line in
    let row = c.arcs_of-arc-items.result.now in
    let first = c.push.new.self.items in
    let same = c.in_ok-follow.ensures.settled ∙ c.loop-arc.invariant.settled in
    let none : Arc = record { input = 0; output = 0; weight = 0; next = 0 } in
    record {
      settled = same;
      grown = along_more line first c.args.from.now c.args.self.now.waiting.items c.loop-arc.self.waiting.items c.follow.new.self.waiting.items x row c.loop-arc.arc-index none c.loop-arc-test.true c.loop-arc.invariant.grown
          (subst (λ s. Grown line s c.loop-arc.self.waiting.items c.follow.new.self.waiting.items c.args.from.now 1 (AlongArc x (get_or row c.loop-arc.arc-index none))) (ap (λ v. v.items) same) c.in_ok-follow.ensures.grown);
    }

pub returns-then-pair-line-clause-grown : goal.returns-then-pair-line-clause-grown
returns-then-pair-line-clause-grown c =
    let line = c.args.line.now in
    let m = c.args.rule.now in
    let x = drop c.args.pair.position line in
    let was = c.loop-arc.self.waiting.items in
    let first = c.push.new.self.items in
    let left : 0 < length x = (let e : length x ≡ _ = length-drop c.args.pair.position line in omega (arith, e, c.if-pair-line.true)) in
    node_grown m line first c.loop-arc.self.settled.items c.args.from.now c.args.self.now.waiting.items was was x c.args.pair.state c.arcs_of-arc-items.result.now c.loop-arc.arc-index (ap (λ v. v.items) c.loop-arc.invariant.settled) c.arcs_of-arc-items.ensures.value c.loop-arc-test.false c.loop-arc.auto.arc-index-end c.loop-arc.invariant.grown
    (end_none line first c.args.from.now x (final_of m.finals c.args.pair.state) (inl left) was was refl)

pub returns-in_ok-push-2-clause-grown : goal.returns-in_ok-push-2-clause-grown
returns-in_ok-push-2-clause-grown c =
    let line = c.args.line.now in
    let m = c.args.rule.now in
    let x = drop c.args.pair.position line in
    let was = c.loop-arc.self.waiting.items in
    let first = c.push.new.self.items in
    node_grown m line first c.loop-arc.self.settled.items c.args.from.now c.args.self.now.waiting.items was c.push-in-Some.new.self.items x c.args.pair.state c.arcs_of-arc-items.result.now c.loop-arc.arc-index (ap (λ v. v.items) c.loop-arc.invariant.settled) c.arcs_of-arc-items.ensures.value c.loop-arc-test.false c.loop-arc.auto.arc-index-end c.loop-arc.invariant.grown
    (end_opened line first c.args.from.now x (final_of m.finals c.args.pair.state) c.in-Some.last c.in_ok-then.field-0 (drop_all c.args.pair.position line c.if-pair-line.false) (sym c.final_of.ensures.value ∙ c.in-Some.is) c.in_ok-then.ensures.weight c.in_ok-then.ensures.output c.in_ok-then.ensures.place was c.push-in-Some.new.self.items c.in_ok-push-2.ensures.items)

pub returns-in_default-clause-grown : goal.returns-in_default-clause-grown
returns-in_default-clause-grown c =
    let line = c.args.line.now in
    let m = c.args.rule.now in
    let x = drop c.args.pair.position line in
    let was = c.loop-arc.self.waiting.items in
    let first = c.push.new.self.items in
    node_grown m line first c.loop-arc.self.settled.items c.args.from.now c.args.self.now.waiting.items was was x c.args.pair.state c.arcs_of-arc-items.result.now c.loop-arc.arc-index (ap (λ v. v.items) c.loop-arc.invariant.settled) c.arcs_of-arc-items.ensures.value c.loop-arc-test.false c.loop-arc.auto.arc-index-end c.loop-arc.invariant.grown
    (end_none line first c.args.from.now x (final_of m.finals c.args.pair.state) (inr (sym c.final_of.ensures.value ∙ c.in_default.is)) was was refl)
