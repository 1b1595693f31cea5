use Rattle.std.proofs.Common.{rules, ◌≡◌, ◌∙◌, ◌++◌, ◌∷◌, [], ℕ, List, length, take, drop, sym, ap, arith, subst, refl}
use Rattle.std.specs.Prelude.{true}
use Rattle.std.proofs.lemmas.List.{length-take-le}
use Rattle.place_words.specs.Modes.{place_or}
use Rattle.place_words.specs.Seats.{view_of, mode_of}
use Rattle.place_words.specs.declared.view.Read.{Read}
use Rattle.place_words.specs.declared.view.Entry.TheVariants.{Leave}
use Rattle.place_table.specs.Entries.{logged, reads_of, seen_from}
use Rattle.place_table.specs.Looks.{Begun}
use Rattle.place_table.specs.Ways.{ways}
use Rattle.place_words.specs.Seats.{places_of}
use Rattle.place_table.specs.Tables.{words_left}
use Rattle.place_table.proofs.Alone.{absent_alone, added_in_turn, shown_alone}
use Rattle.place_table.proofs.Agreeing.{seen_joined}
use Rattle.place_table.proofs.Looking.{begun_more, key_told, left_there}
use Rattle.place_table.proofs.table.Table.look.Goals as goal

pub returns-in-Holding-clause-look : goal.returns-in-Holding-clause-look
returns-in-Holding-clause-look g c = let f = c.in-Holding.ensures.result in let r = c.copy_rest.ensures in let v = view_of c.args.seat.now in
    let key : List ℕ = c.args.key.now in let all : List ℕ = ways key (places_of c.args.self.now.words) in
    let p : ℕ = c.in-Holding.field-0 in let n : ℕ = c.copy_rest.result in let new : List ℕ = c.copy_rest.new.into in
    let wide : length new ≡ 2048 = search rules in
    let here : place_or 0 (mode_of c.find_into.new.seat) ≡ p = ap (λ u. place_or 0 u.mode) f.2.view in
    let ss : List Read = seen_from 7 (drop 7 (take n new)) in
    let seen : seen_from 0 (take 7 c.find_into.new.into) ++ ss ≡ seen_from 0 (take n new) = ap (λ (l : List ℕ). seen_from 0 l ++ ss) (sym r.kept) ∙ seen_joined n new (omega (arith, r.few.0)) (omega (arith, r.few.1)) in
    let more : Begun key all p (seen_from 0 (take n new)) (f.0 ++ reads_of p ss) = subst (λ (rs : List Read). Begun key all p rs (f.0 ++ reads_of p ss)) seen (begun_more key all p (seen_from 0 (take 7 c.find_into.new.into)) ss f.0 f.1) in
    let w : ℕ = r.view.0 in (
      (f.0 ++ reads_of p ss) ++ Leave p w true ∷ [],
      (
        p,
        record { begun = f.0 ++ reads_of p ss; w = w; begins = more; entries = refl },
        r.few.1,
        subst (λ t. g.F.Fact.right t (take n new)) (ap (λ u. u.tag) f.2.view) r.right,
        key_told (take n new) key more.told (let e = length-take-le n new (omega (arith, r.few.1)) in omega (arith, r.few.0)),
      ),
      r.view.1 ∙ ap (λ (q : ℕ). logged (view_of c.find_into.new.seat) (reads_of q ss ++ Leave q w true ∷ [])) here
          ∙ ap (λ u. logged u (reads_of p ss ++ Leave p w true ∷ [])) f.2.view ∙ left_there v p f.0 (reads_of p ss) (Leave p w true ∷ []) (seen_from 0 (take 7 c.find_into.new.into)),
    )

pub returns-in-Absent-clause-alone : goal.returns-in-Absent-clause-alone
returns-in-Absent-clause-alone g c alone = let f = c.in-Absent.ensures.result in let v = view_of c.args.seat.now in let key : List ℕ = c.args.key.now in
    absent_alone (words_left v) key (ways key (places_of c.args.self.now.words)) c.find_into.new.into c.in-Absent.found c.in-Absent.count f.0 (search rules) f.1.0
    (added_in_turn v (view_of c.find_into.new.seat) f.0 f.2 c.find_into.new.seat.in_turn alone) (c.in-Absent.ensures.free alone)

pub returns-in-Holding-clause-alone : goal.returns-in-Holding-clause-alone
returns-in-Holding-clause-alone g c alone = let l = returns-in-Holding-clause-look g c in let v = view_of c.args.seat.now in let key : List ℕ = c.args.key.now in
    shown_alone (words_left v) key (ways key (places_of c.args.self.now.words)) c.copy_rest.new.into l.1.0 c.copy_rest.result l.0 (search rules) l.1.1
    (added_in_turn v (view_of c.copy_rest.new.seat) l.0 l.2 c.copy_rest.new.seat.in_turn alone)

pub returns-in-Absent-clause-look : goal.returns-in-Absent-clause-look
returns-in-Absent-clause-look g c = let f = c.in-Absent.ensures.result in (f.0, f.1.0, f.2)
