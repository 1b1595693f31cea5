use Rattle.std.proofs.Common.{◌≡◌, ℕ, ◌+◌, [], ap, ◌∙◌, arith, refl, length-append}
use Rattle.place_words.specs.Modes.{idle, lower, upper}
use Rattle.place_words.proofs.Dealing.{each_snoc, cut_allowed}
use Rattle.place_words.proofs.words.opening.deal.Goals as goal

pub split_seat-rest-requires : goal.split_seat-rest-requires
split_seat-rest-requires g c = let h = c.loop-number.invariant in (
  h.1,
  omega (arith, c.args.words.now.sized),
  cut_allowed g.F.Fact.right _ (g.F.Fact.tag c.args.words.now.about.fact) _ _ _ c.loop-number.number c.args.seats c.args.seats c.loop-number.base.me h.2 (omega arith),
)

pub loop-number-preserved : goal.loop-number-preserved
loop-number-preserved g c = let h = c.loop-number.invariant in let e = c.split_seat-rest.ensures in (
  rw (c.in_ok-push.ensures.items, length-append, h.0) refl,
  e.3 ∙ h.1,
  e.4 ∙ ap (λ m. (upper m.0, [])) h.2,
  rw c.in_ok-push.ensures.items (each_snoc _ _ _ _ h.0 (e.0 ∙ h.1, refl, ap (λ m. m.0) e.2 ∙ ap (λ m. lower m.0) h.2) h.3),
)

pub returns-clause-own : goal.returns-clause-own
returns-clause-own g c = let h = c.loop-number.invariant in
    rw c.in_ok-push-2.ensures.items (each_snoc _ _ _ _ h.0 h.1 (λ k s is. (h.3 k s is).0))

pub returns-clause-numbers : goal.returns-clause-numbers
returns-clause-numbers g c = let h = c.loop-number.invariant in
    rw c.in_ok-push-2.ensures.items (each_snoc _ _ _ _ h.0 (omega arith) (λ k s is. (h.3 k s is).1))

pub returns-clause-views : goal.returns-clause-views
returns-clause-views g c = let h = c.loop-number.invariant in let last : c.args.seats ≡ c.loop-number.number + 1 = omega arith in
    rw c.in_ok-push-2.ensures.items (each_snoc _ _ _ _ h.0 (ap (λ m. m.0) h.2 ∙ ap (λ (z : ℕ). idle (g.F.Fact.tag c.args.words.now.about.fact) c.args.seats c.loop-number.number z) last) (λ k s is. (h.3 k s is).2))
