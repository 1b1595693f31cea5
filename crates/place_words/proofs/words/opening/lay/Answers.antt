use Rattle.std.proofs.Common.{rules, ◌≡◌, ℕ, ◌*◌, List, replicate, sym, subst, arith, ◌∷◌, []}
use Rattle.std.proofs.lemmas.Grind.{common_steps}
use Rattle.place_words.specs.Modes.{start}
use Rattle.place_words.specs.Rule.{Lawful}
use Rattle.place_words.proofs.Dealing.{opens}
use Rattle.place_words.proofs.words.opening.lay.Goals as goal

pub of_words-requires : goal.of_words-requires
of_words-requires g c = let zeros : c.as_slice.result.now ≡ replicate (2049 * c.args.about.places) 0 = first_of (search rules, grind (arith, common_steps)) in
    subst (λ (ws : List ℕ). Lawful g.F.Fact.right (g.F.Fact.tag c.args.about.fact) c.args.about.places c.args.about.seats ws (start (g.F.Fact.tag c.args.about.fact) c.args.about.seats ∷ [])) (sym zeros)
    (opens g.F.Fact.right _ _ _ c.requires.seats.0 c.requires.seats.1)
