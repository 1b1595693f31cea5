use Rattle.std.specs.Prelude.{◌≡◌, ◌<◌, ℕ, ◌++◌, filter, length, nat_eq}
use Rattle.std.specs.Vec.{vec_capacity}
use Rattle.std.proofs.Common.{subst, arith, length-append}
use Rattle.std.proofs.lemmas.Result.{on_err_weaker, on_ok_weaker}
use Rattle.place_words.specs.Seats.{fact_of, view_of}
use Rattle.shared_cascade.proofs.Seen.{of_one, seen_before, then_on, then_read}
use Rattle.shared_cascade.proofs.holding.read_readers.Goals as goal

pub put_from-requires-clause-count : goal.put_from-requires-clause-count
put_from-requires-clause-count c t end arcs is =
    let r = c.first_reader-first.ensures.read in
    c.count_at-count.ensures.count t end arcs (seen_before (fact_of c.args.words.now) (view_of c.count_at-count.new.seat) (view_of c.first_reader-first.new.seat) r.0 r.2 t end arcs is)

pub returns-clause-read : goal.returns-clause-read
returns-clause-read c =
    let first = view_of c.args.seat.now in
    let mid = view_of c.first_reader-first.new.seat in
    let last = view_of c.put_from.new.seat in
    let both = then_on first (view_of c.count_at-count.new.seat) mid 1 9 10 (omega arith) c.count_at-count.ensures.read c.first_reader-first.ensures.read in
    let p = c.put_from.ensures.read in
    (both.0 ++ p.0, on_ok_weaker c.put_from.result (λ few. (let e = length-append both.0 p.0 in omega (arith, both.1, few))) p.1, then_read first mid last both.0 p.0 both.2 p.2)

pub returns-clause-arcs : goal.returns-clause-arcs
returns-clause-arcs c =
    let all = returns-clause-read c in
    let s = c.put_from.ensures.held.some in
    on_ok_weaker c.put_from.result
    (λ h. of_one (fact_of c.args.words.now) (view_of c.args.seat.now) (view_of c.put_from.new.seat) all.0 all.2 s.0 s.1 s.2 s.3 (λ end arcs. c.put_from.new.into.items ≡ filter (λ a. nat_eq a.input c.args.label) arcs) (λ t end arcs is. h t end arcs is))
    c.put_from.ensures.arcs

pub returns-clause-full : goal.returns-clause-full
returns-clause-full c =
    let all = returns-clause-read c in
    let s = c.put_from.ensures.held.some in
    on_err_weaker c.put_from.result
    (λ h. of_one (fact_of c.args.words.now) (view_of c.args.seat.now) (view_of c.put_from.new.seat) all.0 all.2 s.0 s.1 s.2 s.3 (λ end arcs. vec_capacity c.args.into.now < length (filter (λ a. nat_eq a.input c.args.label) arcs))
    (λ t end arcs is. subst (λ (room : ℕ). room < length (filter (λ a. nat_eq a.input c.args.label) arcs)) c.clear.ensures.capacity (h t end arcs is)))
    c.put_from.ensures.full
