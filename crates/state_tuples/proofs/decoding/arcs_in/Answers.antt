use Rattle.std.proofs.Common.{◌≡◌, ◌∙◌, ◌<◌, ◌≤◌, ℕ, length, get_or, sym, ap, subst, arith, inl, inr}
use Rattle.std.proofs.lemmas.Bool.{cases_lt}
use Rattle.state_tuples.specs.Codes.{no_arc}
use Rattle.state_tuples.proofs.InCodes.{inputs_rise, none_after, none_before, width_in}
use Rattle.state_tuples.proofs.decoding.arcs_in.Goals as goal

pub loop-k-init : goal.loop-k-init
loop-k-init c t end arcs is order =
    let first = c.first_reader-k.ensures t end arcs is order in
    c.clear.ensures.items ∙ sym (none_before arcs c.args.label c.first_reader-k.result first.within first.below)

pub arc_at-arc-requires-clause-within : goal.arc_at-arc-requires-clause-within
arc_at-arc-requires-clause-within c =
    let h = c.requires.known in
    let n = width_in h.0 h.1 h.2 c.args.code.now h.3 in
    let all : c.arc_count-k-end.result ≡ length h.2 = c.arc_count-k-end.ensures h.0 h.1 h.2 h.3 in
    let test : c.loop-k.k < c.arc_count-k-end.result = c.loop-k-test.true in
    omega arith

-- an arc that reads another label, where all that are left read no lesser one
pub returns-then-arc-label : goal.returns-then-arc-label
returns-then-arc-label c =
    record {
      arcs = λ t end arcs is order.
          let first = c.first_reader-k.ensures t end arcs is order in
          let k : ℕ = c.loop-k.k in
          let all : c.arc_count-k-end.result ≡ length arcs = c.arc_count-k-end.ensures t end arcs is in
          let test : k < c.arc_count-k-end.result = c.loop-k-test.true in
          let from : c.first_reader-k.result ≤ k = c.loop-k.auto.k in
          let arc : (get_or arcs k no_arc).input ≡ c.arc_at-arc.result.input = sym (ap (λ a. a.input) (c.arc_at-arc.ensures t end arcs is)) in
          let other = c.if-arc-label.true in
          let high : c.args.label ≤ (get_or arcs k no_arc).input = first.above k from (omega arith) in
          c.loop-k.invariant t end arcs is order ∙ none_after arcs c.args.label k (omega arith) (λ j l m e. elim (cases_lt k j) [
            | inl after ↦ (let rise = inputs_rise arcs order k j after m in other (omega arith))
            | inr upto ↦ (let same : j ≡ k = omega arith in other (sym arc ∙ subst (λ (i : ℕ). (get_or arcs i no_arc).input ≡ c.args.label) same e))
          ]);
    }
