use Rattle.std.proofs.Common.{rules, ◌≡◌, ◌∙◌, ◌++◌, ◌≤◌, ℕ, List, length, take, drop, get_or, sym, ap, arith, subst}
use Rattle.std.proofs.lemmas.List.{get_or-take, length-take-le}
use Rattle.place_words.specs.Places.{Agrees}
use Rattle.place_words.specs.Modes.{seen_of}
use Rattle.place_words.specs.Seats.{view_of}
use Rattle.place_table.specs.Entries.{seen_from}
use Rattle.place_table.proofs.Agreeing.{first_told, all_told, seen_joined}
use Rattle.place_table.proofs.looks.copy_rest.Goals as goal

pub overflow_cast-count : goal.overflow_cast-count
overflow_cast-count g c = let r = c.requires.code in let into : List ℕ = c.args.into.now in
    let wide : length into ≡ 2048 = search rules in
    let len = length-take-le 7 into (omega arith) in
    let t = first_told g.F.Fact.right g.F.Fact.sized (view_of c.args.seat.now).tag (take 7 into) (omega arith) r.0 r.1 r.2 in
    let e = get_or-take 7 into 0 0 (omega arith) in let small : get_or into 0 0 ≤ 2048 = omega (arith, t.1, e) in search rules

pub read_between-requires-clause-some : goal.read_between-requires-clause-some
read_between-requires-clause-some g c = let r = c.requires.code in let into : List ℕ = c.args.into.now in
    let wide : length into ≡ 2048 = search rules in
    let len = length-take-le 7 into (omega arith) in
    let t = first_told g.F.Fact.right g.F.Fact.sized (view_of c.args.seat.now).tag (take 7 into) (omega arith) r.0 r.1 r.2 in
    let e = get_or-take 7 into 0 0 (omega arith) in omega (arith, t.0, e)

pub read_between-requires-clause-few : goal.read_between-requires-clause-few
read_between-requires-clause-few g c = let r = c.requires.code in let into : List ℕ = c.args.into.now in
    let wide : length into ≡ 2048 = search rules in
    let len = length-take-le 7 into (omega arith) in
    let t = first_told g.F.Fact.right g.F.Fact.sized (view_of c.args.seat.now).tag (take 7 into) (omega arith) r.0 r.1 r.2 in
    let e = get_or-take 7 into 0 0 (omega arith) in omega (arith, t.1, e)

pub read_between-requires-clause-room : goal.read_between-requires-clause-room
read_between-requires-clause-room g c = let r = c.requires.code in let into : List ℕ = c.args.into.now in
    let wide : length into ≡ 2048 = search rules in
    let len = length-take-le 7 into (omega arith) in
    let t = first_told g.F.Fact.right g.F.Fact.sized (view_of c.args.seat.now).tag (take 7 into) (omega arith) r.0 r.1 r.2 in
    let e = get_or-take 7 into 0 0 (omega arith) in omega (arith, t.1, e)

pub returns-clause-few : goal.returns-clause-few
returns-clause-few g c = let r = c.requires.code in let into : List ℕ = c.args.into.now in
    let wide : length into ≡ 2048 = search rules in
    let len = length-take-le 7 into (omega arith) in
    let t = first_told g.F.Fact.right g.F.Fact.sized (view_of c.args.seat.now).tag (take 7 into) (omega arith) r.0 r.1 r.2 in
    let e = get_or-take 7 into 0 0 (omega arith) in (omega (arith, t.0, e), omega (arith, t.1, e))

pub returns-clause-right : goal.returns-clause-right
returns-clause-right g c = let r = c.requires.code in let into : List ℕ = c.args.into.now in
    let wide : length into ≡ 2048 = search rules in
    let len = length-take-le 7 into (omega arith) in
    let t = first_told g.F.Fact.right g.F.Fact.sized (view_of c.args.seat.now).tag (take 7 into) (omega arith) r.0 r.1 r.2 in
    let e = get_or-take 7 into 0 0 (omega arith) in
    let x = c.read_between.ensures in let new : List ℕ = c.read_between.new.into in let n : ℕ = get_or into 0 0 in
    let wide2 : length new ≡ 2048 = search rules in
    let same : get_or new 0 0 ≡ n = sym (get_or-take 7 new 0 0 (omega arith)) ∙ ap (λ (l : List ℕ). get_or l 0 0) x.kept ∙ e in
    let seen : seen_of (view_of c.read_between.new.seat).mode ≡ seen_from 0 (take n new) = ap (λ v. seen_of v.mode) x.view
    ∙ ap (λ l. l ++ seen_from 7 (drop 7 (take n new))) (ap seen_of c.requires.reading ∙ ap (seen_from 0) (sym x.kept)) ∙ seen_joined n new (omega (arith, t.0)) (omega (arith, t.1)) in
    all_told g.F.Fact.right g.F.Fact.sized (view_of c.args.seat.now).tag n new (omega (arith, t.0)) (omega (arith, t.1)) same x.right.0 x.right.1 (subst (λ l. Agrees l x.right.0) seen x.right.2)
