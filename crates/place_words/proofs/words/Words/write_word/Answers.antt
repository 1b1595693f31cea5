use Rattle.std.proofs.Common.{ℕ, ◌<◌, subst, refl, length, ◌+◌, sym, ap, ◌∙◌, arith, ◌∷◌, [], length-append}
use Rattle.place_words.proofs.Allowed.{write_allowed}
use Rattle.place_words.proofs.Histories.{in_turn}
use Rattle.place_words.proofs.Modes.{is_writing, stored_is}
use Rattle.place_words.specs.Modes.{stored_of, place_or, stored_or}
use Rattle.place_words.specs.declared.view.Entry.TheVariants.{Write}
use Rattle.place_words.proofs.words.Words.write_word.Goals as goal

pub store-requires : goal.store-requires
store-requires g c = let s = c.args.seat.now.single in let own = ap (λ z. z.words) c.requires.own in let under = c.args.seat.now.inside in let mode = c.args.seat.now.base.me.0.mode in
    let len = stored_is c.args.seat.now.stored mode c.requires.writing c.args.seat.now.stands.1 in let room = c.requires.room in (
      c.requires.own,
      omega (arith, len, room),
      write_allowed g.F.Fact.right _ _ _ (λ code h. (g.F.Fact.sized _ code h).1) _ _ _ _ _ _ (subst (λ z. c.args.seat.now.place < z.places) (sym c.args.self.now.keyed) (omega arith)) (sym len) (omega (arith, len, room)) (ap (λ (z : ℕ). z + 1) s.0 ∙ sym s.1) (is_writing _ _ c.requires.writing c.args.seat.now.stands.0),
    )

pub invariant_of-seat : goal.invariant_of-seat
invariant_of-seat g c = let s = c.args.seat.now.single in let went = c.store.ensures.2 in let v = c.args.seat.now.base.me.0 in let v' = c.store.new.seat.me.0 in let len = stored_is c.args.seat.now.stored v.mode c.requires.writing c.args.seat.now.stands.1 in let is = went.1 c.args.seat.now.place (omega arith) c.requires.room in record {
  single = (ap (λ v. v.from) is ∙ s.0, ap (λ v. v.to) is ∙ s.1, s.2);
  stands = (ap (λ v. place_or c.args.seat.now.place v.mode) is, ap (λ v. stored_or (c.args.seat.now.stored + 1) v.mode) is ∙ (let more = length-append (stored_of v.mode) (c.args.value ∷ []) in omega arith));
  inside = let same = ap (λ z. z.words) c.store.ensures.0 in let under = c.args.seat.now.inside in omega arith;
  bare = went.0 ∙ c.args.seat.now.bare;
  in_turn = in_turn v v' _ (Write c.args.seat.now.place (length (stored_of v.mode)) c.args.value) is c.args.seat.now.in_turn (λ _. refl);
}
