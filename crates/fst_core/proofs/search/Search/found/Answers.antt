use Rattle.std.proofs.Common.{◌<◌, ℕ, List, ap, subst, sym}
use Rattle.std.specs.Prelude.{All}
use Rattle.fst_core.specs.Reach.{Found}
use Rattle.fst_core.proofs.Searches.{all_within}
use Rattle.fst_core.proofs.search.Search.found.Goals as goal

pub returns-clause-within : goal.returns-clause-within
returns-clause-within c =
    subst (λ (v : List ℕ). All (λ s. s < c.args.self.now.size) v) (sym c.as_slice.ensures.value)
    (subst (λ n. All (λ s. s < n) c.self.inside.found.items) (ap (λ (v : Found). v.size) c.self.view_is) (all_within c.self.inside.marks.items c.self.inside.found.items c.self.invariant))
