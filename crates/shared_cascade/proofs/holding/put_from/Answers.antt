use Rattle.std.specs.Prelude.{◌≡◌, ◌<◌, ℕ, [], ◌∷◌, ◌++◌, filter, get_or, length, nat_eq}
use Rattle.std.specs.Vec.{vec_capacity}
use Rattle.std.proofs.Common.{rules, sym, ◌∙◌, ap, arith, length-append}
use Rattle.std.proofs.lemmas.List.{take_all}
use Rattle.place_words.specs.Modes.{seen_of}
use Rattle.place_words.specs.Seats.{fact_of, mode_of, view_of}
use Rattle.state_tuples.specs.Codes.{no_arc}
use Rattle.state_tuples.proofs.InCodes.{none_before, one_more}
use Rattle.shared_cascade.specs.Held.{OfSeen}
use Rattle.shared_cascade.proofs.Going.{on_any_error}
use Rattle.shared_cascade.proofs.Seen.{earlier, fewer_put, none_from, read_none, seen_before, then_on, then_read}
use Rattle.shared_cascade.proofs.holding.put_from.Goals as goal

pub loop-k-init : goal.loop-k-init
loop-k-init c = record {
  held = c.requires.held;
  read = ([], omega arith, read_none (view_of c.args.seat.now) c.requires.held.reading);
  all = c.requires.count;
  first = c.requires.first;
  put = λ t end arcs is. (let f = c.requires.first t end arcs is in c.requires.empty ∙ sym (none_before arcs c.args.label c.args.first.0 f.within f.below));
  next = c.requires.word;
  room = omega arith;
}

pub input_in-requires : goal.input_in-requires
input_in-requires c =
    let h = c.loop-k.invariant in
    let s = h.held.some in
    let k : ℕ = c.loop-k.k in
    let all = h.all s.0 s.1 s.2 s.3 in
    let test = c.loop-k-test.true in
    let lt : k < length s.2 = omega arith in
    record { known = (get_or s.2 k no_arc, s.3.is_code.are_arcs k no_arc lt, h.next s.0 s.1 s.2 s.3 lt) }

pub returns-then-input_in-label-clause-held : goal.returns-then-input_in-label-clause-held
returns-then-input_in-label-clause-held c = c.loop-k.invariant.held

pub returns-then-input_in-label-clause-read : goal.returns-then-input_in-label-clause-read
returns-then-input_in-label-clause-read c = c.loop-k.invariant.read

pub returns-then-input_in-label-clause-arcs : goal.returns-then-input_in-label-clause-arcs
returns-then-input_in-label-clause-arcs c t end arcs is =
    let h = c.loop-k.invariant in
    let k : ℕ = c.loop-k.k in
    let all = h.all t end arcs is in
    let test = c.loop-k-test.true in
    let lt : k < length arcs = omega arith in
    let input = c.input_in.ensures (get_or arcs k no_arc) (is.is_code.are_arcs k no_arc lt) (h.next t end arcs is lt) in
    let high = (h.first t end arcs is).above k (omega (arith, c.loop-k.auto.k)) lt in
    h.put t end arcs is ∙ none_from arcs is.order c.args.label k lt high (λ e. c.if-input_in-label.true (input ∙ e))

pub arc_at-arc-requires-clause-held : goal.arc_at-arc-requires-clause-held
arc_at-arc-requires-clause-held c = c.loop-k.invariant.held

pub arc_at-arc-requires-clause-within : goal.arc_at-arc-requires-clause-within
arc_at-arc-requires-clause-within c t end arcs is =
    let h = c.loop-k.invariant in
    let all = h.all t end arcs is in
    let test = c.loop-k-test.true in
    let lt : c.loop-k.k < length arcs = omega arith in
    (lt, h.next t end arcs is lt)

pub labels_from-labels-requires-clause-count : goal.labels_from-labels-requires-clause-count
labels_from-labels-requires-clause-count c =
    let a = c.arc_at-arc.ensures.read in
    earlier (fact_of c.args.words.now) (view_of c.loop-k.seat) (view_of c.arc_at-arc.new.seat) a.0 a.2 (λ arcs. c.args.count ≡ length arcs) c.loop-k.invariant.all

pub returns-in_err-push-clause-read : goal.returns-in_err-push-clause-read
returns-in_err-push-clause-read c =
    let h = c.loop-k.invariant in
    let a = c.arc_at-arc.ensures.read in
    (h.read.0 ++ a.0, search rules, then_read (view_of c.args.seat.now) (view_of c.loop-k.seat) (view_of c.arc_at-arc.new.seat) h.read.0 a.0 h.read.2 a.2)

pub returns-in_err-push-clause-full : goal.returns-in_err-push-clause-full
returns-in_err-push-clause-full c =
    let h = c.loop-k.invariant in
    let a = c.arc_at-arc.ensures.read in
    let k : ℕ = c.loop-k.k in
    on_any_error {P = OfSeen (fact_of c.args.words.now) (seen_of (mode_of c.arc_at-arc.new.seat)) (λ arcs. vec_capacity c.args.into.now < length (filter (λ a. nat_eq a.input c.args.label) arcs))} _ (λ t end arcs is.
    let before = seen_before (fact_of c.args.words.now) (view_of c.loop-k.seat) (view_of c.arc_at-arc.new.seat) a.0 a.2 t end arcs is in
    let all = h.all t end arcs before in
    let test = c.loop-k-test.true in
    let lt : k < length arcs = omega arith in
    let input = c.input_in.ensures (get_or arcs k no_arc) (before.is_code.are_arcs k no_arc lt) (h.next t end arcs before lt) in
    let same = c.if-input_in-label.false in
    let fewer = fewer_put arcs c.args.label k lt (omega arith) in
    let put = ap length (h.put t end arcs before) in
    let full = c.in_err-push.ensures.full in
    let count = c.loop-k.into.ok.0 in
    omega (arith, h.room))

pub loop-k-preserved : goal.loop-k-preserved
loop-k-preserved c =
    let h = c.loop-k.invariant in
    let g = fact_of c.args.words.now in
    let k : ℕ = c.loop-k.k in
    let first = view_of c.args.seat.now in
    let old = view_of c.loop-k.seat in
    let mid = view_of c.arc_at-arc.new.seat in
    let new = view_of c.labels_from-labels.new.seat in
    let n = c.labels_from-labels.ensures.read in
    let both = then_on old mid new 5 1 6 (omega arith) c.arc_at-arc.ensures.read n in
    let items = c.in_ok-push.ensures.items in
    record {
      held = c.labels_from-labels.ensures.held;
      read = (
        h.read.0 ++ both.0,
        (let e = length-append h.read.0 both.0 in let l = ap length items in let m = length-append c.loop-k.into.items (c.arc_at-arc.result ∷ []) in omega (arith, h.read.1, both.1)),
        then_read first old new h.read.0 both.0 h.read.2 both.2,
      );
      all = earlier g old new both.0 both.2 (λ arcs. c.args.count ≡ length arcs) h.all;
      first = λ t end arcs is. h.first t end arcs (seen_before g old new both.0 both.2 t end arcs is);
      put = λ t end arcs is.
          let before = seen_before g old new both.0 both.2 t end arcs is in
          let all = h.all t end arcs before in
          let test = c.loop-k-test.true in
          let lt : k < length arcs = omega arith in
          let input = c.input_in.ensures (get_or arcs k no_arc) (is.is_code.are_arcs k no_arc lt) (h.next t end arcs before lt) in
          let same = c.if-input_in-label.false in
          let arc = c.arc_at-arc.ensures.arc t end arcs (seen_before g mid new n.0 n.2 t end arcs is) in
          items ∙ ((λ j. h.put t end arcs before j ++ arc j ∷ []) ∙ sym (one_more arcs c.args.label k lt (omega arith)));
      next = c.labels_from-labels.ensures.word;
      room = (let more = c.in_ok-push.ensures.capacity in omega (arith, h.room));
    }

pub returns-clause-held : goal.returns-clause-held
returns-clause-held c = c.loop-k.invariant.held

pub returns-clause-read : goal.returns-clause-read
returns-clause-read c = c.loop-k.invariant.read

pub returns-clause-arcs : goal.returns-clause-arcs
returns-clause-arcs c t end arcs is =
    let h = c.loop-k.invariant in
    let all = h.all t end arcs is in
    let test = c.loop-k-test.false in
    h.put t end arcs is ∙ ap (filter (λ a. nat_eq a.input c.args.label)) (take_all c.loop-k.k arcs (omega arith))
