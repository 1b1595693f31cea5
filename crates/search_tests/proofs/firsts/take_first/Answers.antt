use Rattle.std.proofs.Common.{◌<◌, ◌∷◌, length, get_or, subst, sym}
use Rattle.std.specs.Prelude.{All}
use Rattle.std.specs.List.{swap_remove}
use Rattle.std.specs.List.Sorted.{IsPermutation}
use Rattle.std.proofs.lemmas.List.Sorted.{IsPermutation-swap_remove}
use Rattle.search_tests.specs.Entries.{Before}
use Rattle.search_tests.proofs.firsts.take_first.Goals as goal

pub returns : goal.returns
returns c =
    let xs = c.args.waiting.now.items in
    let e = c.swap_remove.result in
    let i = c.first_index-first.result in
    let l : i < length xs = subst (λ ys. i < length ys) c.deref.ensures.value c.first_index-first.ensures.within in
    let moved : IsPermutation xs (e ∷ swap_remove xs i e) = IsPermutation-swap_remove xs i e l c.swap_remove.ensures.value in
    let first : All (Before (get_or xs i e)) xs = subst (λ ys. All (Before (get_or ys i e)) ys) c.deref.ensures.value (c.first_index-first.ensures.first e) in (
      subst (λ ys. IsPermutation xs (e ∷ ys)) (sym c.swap_remove.ensures.items) moved,
      subst (λ t. All (Before t) xs) (sym c.swap_remove.ensures.value) first,
    )
