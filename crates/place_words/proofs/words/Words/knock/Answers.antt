use Rattle.std.proofs.Common.{◌<◌, ℕ, ◌+◌, sym, ap, ◌∙◌, subst, arith, refl}
use Rattle.place_words.proofs.Allowed.{knock_allowed}
use Rattle.place_words.proofs.Histories.{in_turn}
use Rattle.place_words.proofs.Modes.{knocked_place}
use Rattle.place_words.specs.declared.view.Entry.TheVariants.{Knock}
use Rattle.place_words.proofs.words.Words.knock.Goals as goal

pub fetch_add-found-requires : goal.fetch_add-found-requires
fetch_add-found-requires g c = let s = c.args.seat.now.single in let own = ap (λ z. z.words) c.requires.own in let under = c.args.seat.now.inside in let sized = c.args.self.now.sized.0 in (
  c.requires.own,
  let lt = c.requires.place in omega arith,
  knock_allowed g.F.Fact.right _ _ _ (λ code h. (g.F.Fact.sized _ code h).1) _ _ _ _ (subst (λ z. c.args.place < z.places) (sym c.args.self.now.keyed) c.requires.place) (ap (λ (z : ℕ). z + 1) s.0 ∙ sym s.1) c.requires.idle,
)

pub invariant_of-seat : goal.invariant_of-seat
invariant_of-seat g c = let s = c.args.seat.now.single in let went = c.fetch_add-found.ensures.2 in let v = c.args.seat.now.base.me.0 in let v' = c.fetch_add-found.new.seat.me.0 in let is = went.1 c.args.place refl in record {
  single = (ap (λ v. v.from) is ∙ s.0, ap (λ v. v.to) is ∙ s.1, s.2);
  stands = knocked_place v v' c.args.place c.args.seat.now.stored c.fetch_add-found.result is;
  inside = let same = ap (λ z. z.words) c.fetch_add-found.ensures.0 in let own = ap (λ z. z.words) c.requires.own in let sized = c.args.self.now.sized.0 in let lt = c.requires.place in omega arith;
  bare = went.0 ∙ c.args.seat.now.bare;
  in_turn = in_turn v v' _ (Knock c.args.place c.fetch_add-found.result) is c.args.seat.now.in_turn went.2;
}
