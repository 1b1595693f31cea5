use Rattle.std.proofs.Common.{rules, ◌≡◌, ◌∙◌, ◌+◌, ◌++◌, ◌∷◌, ◌<◌, ◌%◌, ℕ, List, length, ap, arith, get_or-set_other, length-set}
use Rattle.std.proofs.lemmas.List.{get_or-take, length-take-le}
use Rattle.place_words.specs.declared.layout.TheConstants.{STATE}
use Rattle.place_words.specs.Modes.{place_or}
use Rattle.place_words.specs.Steps.{took_shown}
use Rattle.place_words.specs.Seats.{places_of, view_of}
use Rattle.place_words.specs.declared.view.Entry.{Entry}
use Rattle.place_words.specs.declared.view.Entry.TheVariants.{TakeShown}
use Rattle.place_table.specs.declared.answers.Refusal.{Refusal}
use Rattle.place_table.specs.declared.answers.Refusal.TheVariants.{Held}
use Rattle.place_table.specs.Entries.{fills, logged}
use Rattle.place_table.specs.Looks.{key_in}
use Rattle.place_table.specs.Ways.{way_at, way_count}
use Rattle.place_table.proofs.Looking.{more_log}
use Rattle.place_table.proofs.Rounds.{filled_shown, none_taken, refused_next, shown_taken}
use Rattle.place_table.proofs.publishing.put_shown.Goals as goal

pub again-requires-clause-full : goal.again-requires-clause-full
again-requires-clause-full g c is = let found : List ℕ = c.args.found.now in let n : ℕ = places_of c.args.words.now in let i : ℕ = c.loop-i.i in
    let below : i < way_count n = omega (arith, c.count_of-count.ensures.value ∙ ap way_count c.places-places.ensures.value) in
    let long = length-take-le (way_count n) found (omega (arith, c.told-found, c.count_of-count.ensures.value ∙ ap way_count c.places-places.ensures.value)) in
    c.requires.full i 0 (omega arith) (get_or-take (way_count n) found i 0 below ∙ is)

pub returns-in-None-clause-result : goal.returns-in-None-clause-result
returns-in-None-clause-result g c = let h = c.loop-i.invariant in let a = c.in-None.ensures.result in let v = view_of c.args.seat.now in
    let code : List ℕ = c.args.code.now in let n : ℕ = places_of c.args.words.now in let i : ℕ = c.loop-i.i in let es : List Entry = h.refused.0 in
    let p : ℕ = (c.args.first + i) % c.places-places.result in
    let nth : p ≡ way_at (key_in code) n i = (λ j. (c.requires.first j + i) % c.places-places.ensures.value j) in
    let below : i < way_count n = omega (arith, c.count_of-count.ensures.value ∙ ap way_count c.places-places.ensures.value) in
    let w : ℕ = c.fill.ensures.view.0 in (
      es ++ TakeShown p STATE ∷ fills p code w,
      shown_taken code (key_in code) n i p c.args.found.now c.loop-i.refusals w es below nth a.0 h.refused.1,
      c.fill.ensures.view.1 ∙ ap (λ u. logged u (fills (place_or 0 u.mode) code w)) (a.1 ∙ ap (λ u. took_shown u p STATE) h.refused.2) ∙ filled_shown v p es (fills p code w),
    )

pub loop-i-preserved : goal.loop-i-preserved
loop-i-preserved g c = let h = c.loop-i.invariant in let a = c.in-Some.ensures.result in let v = view_of c.args.seat.now in
    let code : List ℕ = c.args.code.now in let n : ℕ = places_of c.args.words.now in let i : ℕ = c.loop-i.i in let es : List Entry = h.refused.0 in
    let found : List ℕ = c.args.found.now in let refusals : List Refusal = c.loop-i.refusals in let r : Refusal = c.in-Some.refusal in
    let p : ℕ = (c.args.first + i) % c.places-places.result in
    let nth : p ≡ way_at (key_in code) n i = (λ j. (c.requires.first j + i) % c.places-places.ensures.value j) in
    let few : i < length refusals = omega (arith, h.wide, c.count_of-count.ensures.few) in record {
      own = search rules;
      wide = length-set refusals i r ∙ h.wide;
      refused = (es ++ a.0, refused_next (key_in code) n i p found refusals r es a.0 (omega (arith, c.told-found, h.wide)) few nth h.refused.1 a.1, a.2 ∙ ap (λ u. logged u a.0) h.refused.2 ∙ more_log v es a.0);
      past = λ k low high. get_or-set_other refusals i k r (Held 0) (λ e. omega arith) ∙ h.past k (omega arith) high;
    }

pub returns-clause-result : goal.returns-clause-result
returns-clause-result g c = let h = c.loop-i.invariant in let n : ℕ = places_of c.args.words.now in
    let all : c.count_of-count.result ≡ way_count n = c.count_of-count.ensures.value ∙ ap way_count c.places-places.ensures.value in
    (h.refused.0, none_taken (key_in c.args.code.now) n c.loop-i.i c.count_of-count.result c.args.found.now c.loop-i.refusals h.refused.0 all (omega arith) h.refused.1 h.past, h.refused.2)
