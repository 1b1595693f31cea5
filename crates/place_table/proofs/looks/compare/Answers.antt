use Rattle.std.proofs.Common.{◌≡◌, ◌∙◌, ◌++◌, ◌≤◌, ◌∷◌, [], ℕ, List, length, take, refl, ap, arith, subst}
use Rattle.std.proofs.lemmas.List.{length-take-le}
use Rattle.place_words.specs.Places.{Agrees}
use Rattle.place_words.specs.Modes.{place_or, seen_of}
use Rattle.place_words.specs.Steps.{left}
use Rattle.place_words.specs.Seats.{view_of, mode_of}
use Rattle.place_table.specs.Entries.{reads_of, seen_from}
use Rattle.std.specs.Prelude.{false}
use Rattle.place_words.specs.declared.view.Entry.TheVariants.{Leave}
use Rattle.place_table.specs.Looks.{Tells}
use Rattle.place_table.proofs.Agreeing.{key_seen}
use Rattle.place_table.proofs.Counted.{few_on_way}
use Rattle.place_table.proofs.Looking.{tells, left_reading, read_first, seen_length, six, six_same, passed_other}
use Rattle.place_table.proofs.looks.compare.Goals as goal

pub returns-then-is_same-clause-result : goal.returns-then-is_same-clause-result
returns-then-is_same-clause-result g c = let e = c.read_between.ensures in let v = view_of c.args.seat.now in let p : ℕ = place_or 0 (mode_of c.args.seat.now) in let into : List ℕ = c.read_between.new.into in
    let seven : List ℕ = take 7 into in
    let wide : 7 ≤ length into = omega (arith, c.requires.room) in
    let len : length seven ≡ 7 = length-take-le 7 into wide in
    let told = subst (λ (l : List ℕ). Tells (seen_from 0 seven) l) (c.if-is_same.ensures.yes refl) (tells seven (six into) len refl (six_same into)) in
    let is = e.view ∙ read_first v p (seen_from 0 seven) c.requires.reading in record {
      view = is;
      code = (e.right.0, e.right.1, subst (λ u. Agrees (seen_of u.mode) e.right.0) is e.right.2);
      told = told;
      own = λ code right agrees. key_seen (seen_from 0 seven) c.args.key.now code told agrees (let law = g.F.Fact.sized v.tag code right in omega (arith, law.0));
    }

pub returns-clause-result : goal.returns-clause-result
returns-clause-result g c = let e = c.read_between.ensures in let v = view_of c.args.seat.now in let p : ℕ = place_or 0 (mode_of c.args.seat.now) in let into : List ℕ = c.read_between.new.into in
    let seven : List ℕ = take 7 into in let w : ℕ = c.leave.result in
    let wide : 7 ≤ length into = omega (arith, c.requires.room) in
    let len : length seven ≡ 7 = length-take-le 7 into wide in (
      tt,
      (
        reads_of p (seen_from 0 seven) ++ Leave p w false ∷ [],
        λ x shown. (
          passed_other c.args.key.now seven (six into) p w len refl (six_same into) (c.if-is_same.ensures.no refl) x shown,
          few_on_way p x w (seen_from 0 seven) (let e = seen_length 0 seven in omega arith),
        ),
        c.leave.ensures.view ∙ ap (λ u. left u (place_or 0 u.mode) w false) e.view ∙ left_reading v p w (seen_from 0 seven),
      ),
    )
