use Rattle.std.proofs.Common.{rules, ◌≡◌, ◌∙◌, ◌+◌, ◌++◌, ◌∷◌, ◌<◌, ◌%◌, ℕ, List, length, take, refl, sym, ap, arith, subst, get_or-set_other, length-set}
use Rattle.std.specs.Prelude.{All}
use Rattle.place_words.specs.Seats.{view_of}
use Rattle.place_words.specs.declared.view.Entry.{Entry}
use Rattle.place_words.specs.declared.view.Entry.TheVariants.{Knock}
use Rattle.place_words.specs.declared.view.Read.{Read}
use Rattle.place_table.specs.declared.answers.Found.{Found}
use Rattle.place_table.specs.declared.answers.Found.TheVariants.{Empty}
use Rattle.place_table.specs.Entries.{logged, reads_of, seen_from}
use Rattle.place_table.specs.Ways.{way_at, way_count}
use Rattle.place_words.specs.Seats.{places_of}
use Rattle.place_table.specs.Entries.{holds}
use Rattle.place_table.specs.Parts.{IsFree}
use Rattle.place_table.proofs.Runs.{All_next}
use Rattle.place_table.proofs.Order.{way_told}
use Rattle.place_table.proofs.Counted.{few_begun, few_both}
use Rattle.std.proofs.lemmas.List.{length-take-le}
use Rattle.place_table.proofs.Looking.{absent, begun, passed_next, hold_more, more_log, seen_length}
use Rattle.place_table.proofs.looks.find_into.Goals as goal

pub returns-in-None-clause-result : goal.returns-in-None-clause-result
returns-in-None-clause-result g c = let h = c.loop-i.invariant in let r = c.in-None.ensures.result in let v = view_of c.args.seat.now in
    let key : List ℕ = c.args.key.now in let n : ℕ = places_of c.args.words.now in let i : ℕ = c.loop-i.i in
    let p : ℕ = (c.first_way-first.result + i) % c.places-places.result in
    let rs : List Read = seen_from 0 (take 7 c.call_at.new.into) in
    let nth : p ≡ way_at key n i = way_told key key n c.places-places.result c.first_way-first.result i c.first_way-first.ensures refl c.places-places.ensures.value in
    let below : i < way_count n = omega (arith, c.count_of-count.ensures.value ∙ ap way_count c.places-places.ensures.value) in
    let es : List Entry = h.passed.0 in (
      es ++ Knock p r.0 ∷ reads_of p rs,
      begun key n i p c.loop-i.found es r.0 rs below nth h.passed.1.0 r.1 r.2.told,
      record {
        view = r.2.view ∙ ap (λ u. holds u p (Knock p r.0 ∷ reads_of p rs) rs) h.passed.2 ∙ hold_more v p es (Knock p r.0 ∷ reads_of p rs) rs;
        code = (r.2.code.0, subst (λ z. g.F.Fact.right z r.2.code.0) (ap (λ u. u.tag) h.passed.2) r.2.code.1, r.2.code.2);
        told = r.2.told;
        own = λ code right agrees. r.2.own code (subst (λ z. g.F.Fact.right z code) (sym (ap (λ u. u.tag) h.passed.2)) right) agrees;
      },
      few_begun es p r.0 rs h.passed.1.1 (let e = seen_length 0 (take 7 c.call_at.new.into) in let l = length-take-le 7 c.call_at.new.into (omega (arith, h.room, c.call_at.auto)) in omega arith),
    )

pub loop-i-preserved : goal.loop-i-preserved
loop-i-preserved g c = let h = c.loop-i.invariant in let r = c.in-Some.ensures.result in let v = view_of c.args.seat.now in
    let key : List ℕ = c.args.key.now in let n : ℕ = places_of c.args.words.now in let i : ℕ = c.loop-i.i in let found : List Found = c.loop-i.found in let f : Found = c.in-Some.f in
    let p : ℕ = (c.first_way-first.result + i) % c.places-places.result in
    let nth : p ≡ way_at key n i = way_told key key n c.places-places.result c.first_way-first.result i c.first_way-first.ensures refl c.places-places.ensures.value in
    let few : i < length found = omega (arith, h.wide, c.count_of-count.ensures.few) in record {
      wide = length-set found i f ∙ h.wide;
      own = search rules;
      room = search rules;
      passed = (h.passed.0 ++ r.0, (passed_next key n i p found f h.passed.0 r.0 few nth h.passed.1.0 r.1.0, few_both h.passed.0 r.0 h.passed.1.1 r.1.1), r.2 ∙ ap (λ u. logged u r.0) h.passed.2 ∙ more_log v h.passed.0 r.0);
      free = λ alone. All_next IsFree found i f few (h.free alone) (c.in-Some.ensures.free (ap (λ u. u.seats) h.passed.2 ∙ alone));
      past = λ k low high. get_or-set_other found i k f Empty (λ e. omega arith) ∙ h.past k (omega arith) high;
    }

pub returns-clause-free : goal.returns-clause-free
returns-clause-free g c = λ alone. subst (λ (z : ℕ). All IsFree (take z c.loop-i.found)) (let e : c.loop-i.i ≡ c.count_of-count.result = omega arith in e) (c.loop-i.invariant.free alone)

pub returns-clause-result : goal.returns-clause-result
returns-clause-result g c = let h = c.loop-i.invariant in let n : ℕ = places_of c.args.words.now in
    let full : c.count_of-count.result ≡ way_count n = c.count_of-count.ensures.value ∙ ap way_count c.places-places.ensures.value in
    (h.passed.0, (absent c.args.key.now n c.loop-i.i c.count_of-count.result c.loop-i.found h.passed.0 full (omega arith) h.passed.1.0 h.past, h.passed.1.1 0), h.passed.2)
