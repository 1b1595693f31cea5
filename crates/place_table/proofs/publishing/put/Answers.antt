use Rattle.std.proofs.Common.{rules, ◌≡◌, ◌∙◌, ◌+◌, ◌++◌, ◌∷◌, [], ◌<◌, ◌%◌, ℕ, List, length, take, sym, ap, arith, subst, inl, length-set}
use Rattle.std.specs.Prelude.{All}
use Rattle.place_words.specs.Modes.{place_or}
use Rattle.place_words.specs.Steps.{took_empty}
use Rattle.place_words.specs.Alone.{left_by}
use Rattle.place_words.specs.Seats.{places_of, view_of}
use Rattle.place_words.specs.declared.view.Entry.{Entry}
use Rattle.place_words.specs.declared.view.Entry.TheVariants.{TakeEmpty}
use Rattle.place_table.specs.Entries.{fills, logged}
use Rattle.place_table.specs.Looks.{key_in}
use Rattle.place_table.specs.Parts.{IsAtRest}
use Rattle.place_table.specs.Publishings.{NoneEmpty}
use Rattle.place_table.specs.Ways.{first_ways, way_at, way_count, ways}
use Rattle.place_table.proofs.Alone.{added_in_turn}
use Rattle.place_table.proofs.Choosing.{empty_chosen, shown_chosen}
use Rattle.place_table.proofs.Looking.{more_log}
use Rattle.place_table.proofs.Order.{some_way, way_here, way_told, ways_take}
use Rattle.place_table.proofs.Rounds.{empty_taken, filled_empty, none_empty_next, tried_more}
use Rattle.place_table.proofs.Runs.{All_next}
use Rattle.place_table.proofs.publishing.put.Goals as goal

pub returns-in-Ok-clause-result : goal.returns-in-Ok-clause-result
returns-in-Ok-clause-result g c = let h = c.loop-i.invariant in let v = view_of c.args.seat.now in
    let code : List ℕ = c.args.code.now in let key : List ℕ = key_in code in let n : ℕ = places_of c.args.words.now in let i : ℕ = c.loop-i.i in let es : List Entry = h.tried.0 in
    let p : ℕ = (c.first_way-first.result + i) % c.places-places.result in
    let nth : p ≡ way_at key n i = way_told key c.key_of.result n c.places-places.result c.first_way-first.result i c.first_way-first.ensures c.key_of.ensures c.places-places.ensures.value in
    let below : i < way_count n = omega (arith, c.count_of-count.ensures.value ∙ ap way_count c.places-places.ensures.value) in
    let w : ℕ = c.fill.ensures.view.0 in (
      es ++ TakeEmpty p 0 ∷ fills p code w,
      inl (empty_taken code key n i p c.loop-i.found w es below nth h.tried.1),
      c.fill.ensures.view.1 ∙ ap (λ u. logged u (fills (place_or 0 u.mode) code w)) (c.in-Ok.ensures.view ∙ ap (λ u. took_empty u p 0) h.tried.2) ∙ filled_empty v p es (fills p code w),
    )

pub returns-in-Ok-clause-alone : goal.returns-in-Ok-clause-alone
unfolding returns-in-Ok-clause-result
returns-in-Ok-clause-alone g c alone = let h = c.loop-i.invariant in let r = returns-in-Ok-clause-result g c in let v = view_of c.args.seat.now in
    let code : List ℕ = c.args.code.now in let key : List ℕ = key_in code in let n : ℕ = places_of c.args.words.now in let i : ℕ = c.loop-i.i in let es : List Entry = h.tried.0 in
    let p : ℕ = (c.first_way-first.result + i) % c.places-places.result in let found : List ℕ = c.loop-i.found in
    let nth : p ≡ way_at key n i = way_told key c.key_of.result n c.places-places.result c.first_way-first.result i c.first_way-first.ensures c.key_of.ensures c.places-places.ensures.value in
    let below : i < way_count n = omega (arith, c.count_of-count.ensures.value ∙ ap way_count c.places-places.ensures.value) in
    let here = way_here key n i p below nth in
    empty_chosen (left_by v.log) (ways key n) i p (take i found) es (fills p code c.fill.ensures.view.0) here.0 here.1
    (subst (λ (l : List ℕ). NoneEmpty l (take i found) es) (sym (ways_take key n (way_count n) i (omega arith))) h.tried.1) (h.resting alone)
    (added_in_turn v (view_of c.fill.new.seat) r.0 r.2 c.fill.new.seat.in_turn alone)

pub loop-i-preserved : goal.loop-i-preserved
loop-i-preserved g c = let h = c.loop-i.invariant in let e = c.in-Err.ensures in let v = view_of c.args.seat.now in
    let key : List ℕ = key_in c.args.code.now in let n : ℕ = places_of c.args.words.now in let i : ℕ = c.loop-i.i in let es : List Entry = h.tried.0 in
    let found : List ℕ = c.loop-i.found in let w : ℕ = c.in-Err.word in
    let p : ℕ = (c.first_way-first.result + i) % c.places-places.result in
    let nth : p ≡ way_at key n i = way_told key c.key_of.result n c.places-places.result c.first_way-first.result i c.first_way-first.ensures c.key_of.ensures c.places-places.ensures.value in
    let few : i < length found = omega (arith, h.wide, c.count_of-count.ensures.few) in record {
      own = search rules;
      wide = length-set found i w ∙ h.wide;
      tried = (es ++ TakeEmpty p w ∷ [], none_empty_next key n i p found w es few nth e.view.0 h.tried.1, e.view.1 ∙ ap (λ u. took_empty u p w) h.tried.2 ∙ tried_more v p w es e.view.0);
      resting = λ alone. All_next IsAtRest found i w few (h.resting alone) (e.lone.1 (ap (λ u. u.seats) h.tried.2 ∙ alone));
    }

pub returns-clause-alone : goal.returns-clause-alone
returns-clause-alone g c alone = let h = c.loop-i.invariant in let r = c.put_shown.ensures.result in let v = view_of c.args.seat.now in
    let code : List ℕ = c.args.code.now in let key : List ℕ = key_in code in let n : ℕ = places_of c.args.words.now in let i : ℕ = c.loop-i.i in let es : List Entry = h.tried.0 in
    let found : List ℕ = c.loop-i.found in
    let all : i ≡ way_count n = omega (arith, c.count_of-count.ensures.value ∙ ap way_count c.places-places.ensures.value) in
    shown_chosen (left_by v.log) code (ways key n) (take (way_count n) found) c.put_shown.result es r.0 (some_way key n (omega (arith, c.places-places.ensures.value, c.places-places.ensures.range)))
    (subst (λ (z : ℕ). NoneEmpty (first_ways key n z) (take z found) es) all h.tried.1) (subst (λ (z : ℕ). All IsAtRest (take z found)) all (h.resting alone)) r.1
    (added_in_turn v (view_of c.put_shown.new.seat) (es ++ r.0) (r.2 ∙ ap (λ u. logged u r.0) h.tried.2 ∙ more_log v es r.0) c.put_shown.new.seat.in_turn alone)
