use Rattle.std.specs.Prelude.{◌≡◌, ◌<◌, ◌+◌, ℕ, List, [], ◌∷◌, ◌++◌, get_or, length}
use Rattle.std.proofs.Common.{sym, ◌∙◌, arith, length-append, length-set}
use Rattle.std.proofs.lemmas.List.{take_more, take_more_set}
use Rattle.place_words.specs.declared.view.Read.{Read}
use Rattle.place_words.specs.Seats.{fact_of, view_of}
use Rattle.place_table.specs.Entries.{seen_from}
use Rattle.state_tuples.specs.Codes.{arc_words, code_of, code_width, no_arc}
use Rattle.state_tuples.proofs.InCodes.{arc_length}
use Rattle.shared_cascade.proofs.Seen.{all_words, seen_before, then_read, word_there}
use Rattle.shared_cascade.proofs.holding.arc_at.Goals as goal

pub loop-i-preserved : goal.loop-i-preserved
loop-i-preserved c =
    let h = c.loop-i.invariant in
    let g = fact_of c.args.words.now in
    let k : ℕ = c.args.k in
    let i : ℕ = c.loop-i.i in
    let w : ℕ = c.word_at.result in
    let first = view_of c.args.seat.now in
    let old = view_of c.loop-i.seat in
    let new = view_of c.word_at.new.seat in
    let rs : List Read = seen_from (code_width k + i) (w ∷ []) in
    let test : i < 6 = c.loop-i-test.true in
    record {
      held = c.word_at.ensures.held;
      wide = length-set c.loop-i.all i w ∙ h.wide;
      read = (h.read.0 ++ rs, (let e = length-append h.read.0 rs in omega (arith, h.read.1)), then_read first old new h.read.0 rs h.read.2 c.word_at.ensures.read);
      same = λ t end arcs is.
          let before = seen_before g old new rs c.word_at.ensures.read t end arcs is in
          let start = seen_before g first old h.read.0 h.read.2 t end arcs before in
          let lt : k < length arcs = (c.requires.within t end arcs start).0 in
          let a = get_or arcs k no_arc in
          let wide = arc_length a in
          let room : i < length (arc_words a) = omega arith in
          let word : w ≡ get_or (arc_words a) i 0 = c.word_at.ensures.word t end arcs is (omega arith) ∙ word_there t end arcs (code_of t end arcs) is.is_code k i lt (omega arith) in
          take_more_set c.loop-i.all i w (omega (arith, h.wide))
          ∙ ((λ j. h.same t end arcs before j ++ word j ∷ []) ∙ sym (take_more (arc_words a) i 0 room));
    }

pub arc_in-requires : goal.arc_in-requires
arc_in-requires c =
    let h = c.loop-i.invariant in
    let g = fact_of c.args.words.now in
    let k : ℕ = c.args.k in
    let s = h.held.some in
    let start = seen_before g (view_of c.args.seat.now) (view_of c.loop-i.seat) h.read.0 h.read.2 s.0 s.1 s.2 s.3 in
    let lt : k < length s.2 = (c.requires.within s.0 s.1 s.2 start).0 in
    let end : c.loop-i.i ≡ 6 = omega (arith, c.loop-i-test.false, c.loop-i.auto.i-end) in
    record { known = (get_or s.2 k no_arc, s.3.is_code.are_arcs k no_arc lt, all_words c.loop-i.all c.loop-i.i (get_or s.2 k no_arc) h.wide end (h.same s.0 s.1 s.2 s.3)) }

pub returns-clause-arc : goal.returns-clause-arc
returns-clause-arc c t end arcs is =
    let h = c.loop-i.invariant in
    let g = fact_of c.args.words.now in
    let k : ℕ = c.args.k in
    let start = seen_before g (view_of c.args.seat.now) (view_of c.loop-i.seat) h.read.0 h.read.2 t end arcs is in
    let lt : k < length arcs = (c.requires.within t end arcs start).0 in
    let last : c.loop-i.i ≡ 6 = omega (arith, c.loop-i-test.false, c.loop-i.auto.i-end) in
    c.arc_in.ensures (get_or arcs k no_arc) (is.is_code.are_arcs k no_arc lt) (all_words c.loop-i.all c.loop-i.i (get_or arcs k no_arc) h.wide last (h.same t end arcs is))
