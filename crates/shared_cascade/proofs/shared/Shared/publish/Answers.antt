use Rattle.std.specs.Prelude.{◌≡◌, ℕ, List, [], length, take}
use Rattle.std.proofs.Common.{refl, sym, ◌∙◌, ap, subst, arith}
use Rattle.place_words.specs.Seats.{view_of}
use Rattle.place_table.specs.Publishings.{IsPublish}
use Rattle.place_table.specs.Ways.{way_count, ways}
use Rattle.place_table.specs.declared.answers.Publish.TheVariants.{NoPlace, Published}
use Rattle.state_tuples.specs.declared.tuples.TupleArc.{TupleArc}
use Rattle.state_tuples.specs.Cascades.{moves_of}
use Rattle.state_tuples.specs.Codes.{code_of, key}
use Rattle.state_tuples.specs.Orders.{Ordered}
use Rattle.shared_cascade.specs.RightCodes.{IsWide}
use Rattle.shared_cascade.specs.Callers.{cascades_in, places_in}
use Rattle.shared_cascade.proofs.Counting.{quiet_publish}
use Rattle.shared_cascade.proofs.Readies.{again, same_view}
use Rattle.shared_cascade.proofs.RightKeys.{written}
use Rattle.shared_cascade.proofs.shared.Shared.publish.Goals as goal

pub returns-in-Wide-clause-published : goal.returns-in-Wide-clause-published
returns-in-Wide-clause-published c =
    let made = c.requires.made in
    let t = c.args.t.now in
    let arcs : List TupleArc = c.deref.result.now in
    let ordered : Ordered (moves_of made.0 t) arcs = subst (Ordered (moves_of made.0 t)) (sym c.deref.ensures.value) made.3 in
    let told = c.in-Wide.ensures.code in
    let wide : IsWide (cascades_in c.args.self.now) (key t) = record {
      c = made.0;
      t = t;
      code = code_of t c.args.finality arcs;
      among = made.1;
      known = made.2;
      named = refl;
      expansion = (arcs, ordered, ap (λ e. code_of t e arcs) made.4);
      no_room = omega (arith, told.0, told.1);
    } in
    ([], (wide, refl), same_view (view_of c.args.caller.now.seat) c.requires.rest.idle)

pub returns-in-Published-clause-rest : goal.returns-in-Published-clause-rest
returns-in-Published-clause-rest c =
    let p = c.in-Published.ensures.publish in
    (again c.args.self.now c.args.caller.now _ p.0 0 c.requires.rest c.in-Published.ensures.own p.2 (quiet_publish (way_count (places_in c.args.self.now)) 0 _ _ (Published c.in-Published.field-0) p.0 p.1)).rest

pub returns-in-Published-clause-looks : goal.returns-in-Published-clause-looks
returns-in-Published-clause-looks c =
    let p = c.in-Published.ensures.publish in
    let x = again c.args.self.now c.args.caller.now (record c.args.caller.now { seat = c.publish.new.seat }) p.0 0 c.requires.rest c.in-Published.ensures.own p.2 (quiet_publish (way_count (places_in c.args.self.now)) 0 _ _ (Published c.in-Published.field-0) p.0 p.1) in
    let e = x.looks in omega arith

pub returns-in-Published-clause-published : goal.returns-in-Published-clause-published
returns-in-Published-clause-published c =
    let p = c.in-Published.ensures.publish in
    let t = c.args.t.now in
    let made = c.requires.made in
    let told = c.in-Fits.ensures.code in
    let code : List ℕ = take c.in-Fits.length c.deref-in-Fits.result.now in
    let arcs : List TupleArc = c.deref.result.now in
    let is : code ≡ code_of t c.args.finality arcs = ap (take c.in-Fits.length) c.deref-in-Fits.ensures ∙ told.2 in
    let ordered : Ordered (moves_of made.0 t) arcs = subst (Ordered (moves_of made.0 t)) (sym c.deref.ensures.value) made.3 in
    let w = written (cascades_in c.args.self.now) made.0 t c.args.finality arcs code made.1 made.2 ordered made.4 is (let e : length code ≡ c.in-Fits.length = ap length is ∙ sym told.0 in omega (arith, told.1)) in
    let again = subst (λ k. IsPublish code (ways k (places_in c.args.self.now)) (Published c.in-Published.field-0) p.0) w.own p.1 in
    (p.0, (code, w.right, w.own, (c.in-Published.field-0, again)), p.2)

pub returns-in-NoPlace-clause-rest : goal.returns-in-NoPlace-clause-rest
returns-in-NoPlace-clause-rest c =
    let p = c.in-NoPlace.ensures.publish in
    (again c.args.self.now c.args.caller.now _ p.0 0 c.requires.rest c.in-NoPlace.ensures.own p.2 (quiet_publish (way_count (places_in c.args.self.now)) 0 _ _ (NoPlace c.in-NoPlace.field-0 c.in-NoPlace.field-1) p.0 p.1)).rest

pub returns-in-NoPlace-clause-looks : goal.returns-in-NoPlace-clause-looks
returns-in-NoPlace-clause-looks c =
    let p = c.in-NoPlace.ensures.publish in
    let x = again c.args.self.now c.args.caller.now (record c.args.caller.now { seat = c.publish.new.seat }) p.0 0 c.requires.rest c.in-NoPlace.ensures.own p.2 (quiet_publish (way_count (places_in c.args.self.now)) 0 _ _ (NoPlace c.in-NoPlace.field-0 c.in-NoPlace.field-1) p.0 p.1) in
    let e = x.looks in omega arith

pub returns-in-NoPlace-clause-published : goal.returns-in-NoPlace-clause-published
returns-in-NoPlace-clause-published c =
    let p = c.in-NoPlace.ensures.publish in
    let t = c.args.t.now in
    let made = c.requires.made in
    let told = c.in-Fits.ensures.code in
    let code : List ℕ = take c.in-Fits.length c.deref-in-Fits.result.now in
    let arcs : List TupleArc = c.deref.result.now in
    let is : code ≡ code_of t c.args.finality arcs = ap (take c.in-Fits.length) c.deref-in-Fits.ensures ∙ told.2 in
    let ordered : Ordered (moves_of made.0 t) arcs = subst (Ordered (moves_of made.0 t)) (sym c.deref.ensures.value) made.3 in
    let w = written (cascades_in c.args.self.now) made.0 t c.args.finality arcs code made.1 made.2 ordered made.4 is (let e : length code ≡ c.in-Fits.length = ap length is ∙ sym told.0 in omega (arith, told.1)) in
    let answer = NoPlace c.in-NoPlace.field-0 c.in-NoPlace.field-1 in
    let again = subst (λ k. IsPublish code (ways k (places_in c.args.self.now)) answer p.0) w.own p.1 in
    (p.0, (code, w.right, w.own, (c.in-NoPlace.field-0, c.in-NoPlace.field-1, again)), p.2)
