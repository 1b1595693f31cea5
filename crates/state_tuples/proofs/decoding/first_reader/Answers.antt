use Rattle.std.proofs.Common.{◌≡◌, ◌<◌, ◌≤◌, ◌+◌, ◌-◌, ◌/◌, ℕ, length, get_or, subst, arith, inl, inr}
use Rattle.std.proofs.lemmas.Bool.{cases_lt}
use Rattle.state_tuples.specs.Codes.{no_arc}
use Rattle.state_tuples.proofs.InCodes.{inputs_rise, width_in}
use Rattle.state_tuples.proofs.decoding.first_reader.Goals as goal

pub loop-low-init : goal.loop-low-init
loop-low-init c t end arcs is order =
    let all : c.arc_count-high.result ≡ length arcs = c.arc_count-high.ensures t end arcs is in
    (omega arith, omega arith, λ k l. absurd (omega arith), λ k l m. absurd (omega arith))

pub input_at-requires-clause-within : goal.input_at-requires-clause-within
input_at-requires-clause-within c =
    let h = c.requires.known in
    let n = width_in h.0 h.1 h.2 c.args.code.now h.3 in
    let v = c.loop-low.invariant h.0 h.1 h.2 h.3 h.4 in
    let within : c.loop-low.high ≤ length h.2 = v.1 in
    let test : c.loop-low.low < c.loop-low.high = c.loop-low-test.true in
    omega arith

pub loop-low-preserved-then-input_at-label : goal.loop-low-preserved-then-input_at-label
loop-low-preserved-then-input_at-label c t end arcs is order =
    let v = c.loop-low.invariant t end arcs is order in
    let m : ℕ = c.loop-low.low + (c.loop-low.high - c.loop-low.low) / 2 in
    let test : c.loop-low.low < c.loop-low.high = c.loop-low-test.true in
    let within : c.loop-low.high ≤ length arcs = v.1 in
    let at : c.input_at.result ≡ (get_or arcs m no_arc).input = c.input_at.ensures t end arcs is in
    let less : c.input_at.result < c.args.label = c.if-input_at-label.true in (
      omega arith,
      within,
      λ k l. elim (cases_lt k m) [
        | inl before ↦ (let e = inputs_rise arcs order k m before (omega arith) in omega arith)
        | inr from ↦ (let e : m ≡ k = omega arith in subst (λ (j : ℕ). (get_or arcs j no_arc).input < c.args.label) e (omega arith))
      ],
      v.3,
    )

pub loop-low-preserved : goal.loop-low-preserved
loop-low-preserved c t end arcs is order =
    let v = c.loop-low.invariant t end arcs is order in
    let m : ℕ = c.loop-low.low + (c.loop-low.high - c.loop-low.low) / 2 in
    let test : c.loop-low.low < c.loop-low.high = c.loop-low-test.true in
    let within : c.loop-low.high ≤ length arcs = v.1 in
    let at : c.input_at.result ≡ (get_or arcs m no_arc).input = c.input_at.ensures t end arcs is in
    let more = c.if-input_at-label.false in (
      omega arith,
      omega arith,
      v.2,
      λ k l lt. elim (cases_lt m k) [
        | inl after ↦ (let e = inputs_rise arcs order m k after lt in omega arith)
        | inr upto ↦ (let e : m ≡ k = omega arith in subst (λ (j : ℕ). c.args.label ≤ (get_or arcs j no_arc).input) e (omega arith))
      ],
    )

pub returns : goal.returns
returns c t end arcs is order =
    let v = c.loop-low.invariant t end arcs is order in
    let test = c.loop-low-test.false in
    record { within = omega (arith, v.0, v.1); below = v.2; above = λ k l lt. v.3 k (omega (arith, v.0)) lt }
