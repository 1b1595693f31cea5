use Rattle.std.specs.Prelude.{◌≡◌, ◌<◌, ◌+◌, ◌-◌, ◌/◌, ◌^◌, ℕ, [], ◌++◌, get_or, length}
use Rattle.std.proofs.Common.{refl, arith, length-append}
use Rattle.place_words.specs.Seats.{fact_of, view_of}
use Rattle.state_tuples.specs.Codes.{no_arc}
use Rattle.shared_cascade.proofs.Seen.{all_between, found_first, halving, lower_half, read_none, seen_before, then_read, upper_half}
use Rattle.shared_cascade.proofs.holding.first_reader.Goals as goal

pub loop-low-init : goal.loop-low-init
loop-low-init c = record {
  held = c.requires.held;
  range = (omega arith, omega arith);
  read = (9, [], omega arith, (let e : 2 ^ 9 ≡ 512 = refl in omega (arith, c.requires.few)), read_none (view_of c.args.seat.now) c.requires.held.reading);
  decided = λ t end arcs is. all_between arcs c.args.label c.args.count (c.requires.count t end arcs is);
  found = λ t end arcs is lt. absurd (let e = c.requires.count t end arcs is in omega arith);
}

pub labels_at-labels-requires-clause-within : goal.labels_at-labels-requires-clause-within
labels_at-labels-requires-clause-within c t end arcs is =
    let h = c.loop-low.invariant in
    let start = seen_before (fact_of c.args.words.now) (view_of c.args.seat.now) (view_of c.loop-low.seat) h.read.1 h.read.4 t end arcs is in
    let all = c.requires.count t end arcs start in
    let test = c.loop-low-test.true in
    omega (arith, h.range.0, h.range.1)

pub loop-low-preserved-then-input_in-label : goal.loop-low-preserved-then-input_in-label
loop-low-preserved-then-input_in-label c =
    let h = c.loop-low.invariant in
    let g = fact_of c.args.words.now in
    let low : ℕ = c.loop-low.low in
    let high : ℕ = c.loop-low.high in
    let m : ℕ = low + (high - low) / 2 in
    let test : low < high = c.loop-low-test.true in
    let first = view_of c.args.seat.now in
    let old = view_of c.loop-low.seat in
    let new = view_of c.labels_at-labels.new.seat in
    let r = c.labels_at-labels.ensures.read in
    let x = halving h.read.0 (high - low) (high - (m + 1)) (omega arith) h.read.3 (omega arith) in
    record {
      held = c.labels_at-labels.ensures.held;
      range = (omega arith, h.range.1);
      read = (x.0, h.read.1 ++ r.0, (let e = length-append h.read.1 r.0 in omega (arith, h.read.2, r.1, x.1)), x.2, then_read first old new h.read.1 r.0 h.read.4 r.2);
      decided = λ t end arcs is.
          let before = seen_before g old new r.0 r.2 t end arcs is in
          let all = c.requires.count t end arcs (seen_before g first old h.read.1 h.read.4 t end arcs before) in
          let lt : m < length arcs = omega (arith, h.range.1) in
          let input = c.input_in.ensures (get_or arcs m no_arc) (is.is_code.are_arcs m no_arc lt) (c.labels_at-labels.ensures.word t end arcs is) in
          let less : c.input_in.result < c.args.label = c.if-input_in-label.true in
          upper_half arcs is.order c.args.label low high m (h.decided t end arcs before) lt (omega arith);
      found = λ t end arcs is lt. h.found t end arcs (seen_before g old new r.0 r.2 t end arcs is) lt;
    }

pub loop-low-preserved : goal.loop-low-preserved
loop-low-preserved c =
    let h = c.loop-low.invariant in
    let g = fact_of c.args.words.now in
    let low : ℕ = c.loop-low.low in
    let high : ℕ = c.loop-low.high in
    let m : ℕ = low + (high - low) / 2 in
    let test : low < high = c.loop-low-test.true in
    let first = view_of c.args.seat.now in
    let old = view_of c.loop-low.seat in
    let new = view_of c.labels_at-labels.new.seat in
    let r = c.labels_at-labels.ensures.read in
    let x = halving h.read.0 (high - low) (m - low) (omega arith) h.read.3 (omega arith) in
    record {
      held = c.labels_at-labels.ensures.held;
      range = (omega arith, omega (arith, h.range.1));
      read = (x.0, h.read.1 ++ r.0, (let e = length-append h.read.1 r.0 in omega (arith, h.read.2, r.1, x.1)), x.2, then_read first old new h.read.1 r.0 h.read.4 r.2);
      decided = λ t end arcs is.
          let before = seen_before g old new r.0 r.2 t end arcs is in
          let all = c.requires.count t end arcs (seen_before g first old h.read.1 h.read.4 t end arcs before) in
          let lt : m < length arcs = omega (arith, h.range.1) in
          let input = c.input_in.ensures (get_or arcs m no_arc) (is.is_code.are_arcs m no_arc lt) (c.labels_at-labels.ensures.word t end arcs is) in
          let more = c.if-input_in-label.false in
          lower_half arcs is.order c.args.label low high m (h.decided t end arcs before) (omega arith);
      found = λ t end arcs is lt. c.labels_at-labels.ensures.word t end arcs is;
    }

pub returns-clause-first : goal.returns-clause-first
returns-clause-first c t end arcs is =
    let h = c.loop-low.invariant in
    let all = c.requires.count t end arcs (seen_before (fact_of c.args.words.now) (view_of c.args.seat.now) (view_of c.loop-low.seat) h.read.1 h.read.4 t end arcs is) in
    let test = c.loop-low-test.false in
    found_first arcs c.args.label c.loop-low.low c.loop-low.high (h.decided t end arcs is) (omega arith) (omega (arith, h.range.0, h.range.1))
