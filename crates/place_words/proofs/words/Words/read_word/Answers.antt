use Rattle.std.proofs.Common.{ℕ, ◌<◌, subst, ◌+◌, sym, ap, ◌∙◌, arith, refl}
use Rattle.place_words.proofs.Allowed.{read_allowed}
use Rattle.place_words.proofs.Histories.{in_turn}
use Rattle.place_words.proofs.Modes.{is_reading}
use Rattle.place_words.specs.Modes.{place_or, stored_or}
use Rattle.place_words.specs.declared.view.Entry.TheVariants.{Read as ReadWord}
use Rattle.place_words.proofs.words.Words.read_word.Goals as goal

pub load-requires : goal.load-requires
load-requires g c = let s = c.args.seat.now.single in let own = ap (λ z. z.words) c.requires.own in let under = c.args.seat.now.inside in let sized = c.args.self.now.sized.0 in (
  c.requires.own,
  let lt = c.requires.index in omega arith,
  read_allowed g.F.Fact.right _ _ _ (λ code h. (g.F.Fact.sized _ code h).1) _ _ _ _ _ (subst (λ z. c.args.seat.now.place < z.places) (sym c.args.self.now.keyed) (omega arith)) c.requires.index (ap (λ (z : ℕ). z + 1) s.0 ∙ sym s.1) (is_reading _ _ c.requires.reading c.args.seat.now.stands.0),
)

pub invariant_of-seat : goal.invariant_of-seat
invariant_of-seat g c = let s = c.args.seat.now.single in let went = c.load.ensures.2 in let v = c.args.seat.now.base.me.0 in let v' = c.load.new.seat.me.0 in let is = went.1 c.args.seat.now.place c.args.index c.requires.index refl in record {
  single = (ap (λ v. v.from) is ∙ s.0, ap (λ v. v.to) is ∙ s.1, s.2);
  stands = (ap (λ v. place_or c.args.seat.now.place v.mode) is, ap (λ v. stored_or c.args.seat.now.stored v.mode) is);
  inside = let same = ap (λ z. z.words) c.load.ensures.0 in let under = c.args.seat.now.inside in omega arith;
  bare = went.0 ∙ c.args.seat.now.bare;
  in_turn = in_turn v v' _ (ReadWord c.args.seat.now.place c.args.index c.load.result) is c.args.seat.now.in_turn went.2;
}
