use Rattle.std.proofs.Common.{◌≡◌, ◌<◌, ◌≤◌, Some, length, ap, subst, sym, ◌∙◌, arith}
use Rattle.std.specs.Prelude.{slice_get}
use Rattle.std.proofs.lemmas.Option.{slice_get-get_or, slice_get_past}
use Rattle.fst_core.specs.Reach.{Found}
use Rattle.fst_core.proofs.Searches.{marked_at}
use Rattle.fst_core.proofs.search.Search.at.Goals as goal

pub returns-then-place-len-clause-within : goal.returns-then-place-len-clause-within
returns-then-place-len-clause-within c =
    let within : c.args.place < length c.self.inside.found.items = omega arith in
    let at : slice_get c.self.inside.found.items c.args.place ≡ Some c.index.result.now = slice_get-get_or c.self.inside.found.items c.args.place c.index.result.now within ∙ ap Some (sym c.index.ensures) in
    subst (λ n. c.index.result.now < n) (ap (λ (v : Found). v.size) c.self.view_is)
    (marked_at c.self.inside.marks.items c.self.inside.found.items c.args.place c.index.result.now c.self.invariant at)

pub returns-else-place-len-clause-value : goal.returns-else-place-len-clause-value
returns-else-place-len-clause-value c =
    let past : length c.self.inside.found.items ≤ c.args.place = omega arith in
    sym (ap (λ (v : Found). slice_get v.states c.args.place) (sym c.self.view_is) ∙ slice_get_past c.self.inside.found.items c.args.place past)
