use Rattle.std.proofs.Common.{◌≡◌, ◌<◌, ◌∷◌, length, sym, subst, ◌∙◌, ap, arith}
use Rattle.std.specs.List.Sorted.{IsPermutation}
use Rattle.std.proofs.lemmas.List.Sorted.{IsPermutation-trans, IsPermutation-cons, IsPermutation-swap_remove}
use Rattle.least_path.proofs.Heaps.{put_back, all_first}
use Rattle.least_path.proofs.queue.pop.Goals as goal

pub returns-else-not-is_empty-clause-first : goal.returns-else-not-is_empty-clause-first
returns-else-not-is_empty-clause-first c =
    let xs = c.args.entries.now.items in
    let e = c.swap_remove-first.result in
    let t = c.if-is_empty.false in
    let pos : 0 < length xs = omega (arith, c.args.entries.now.ok.0) in
    (subst (λ ys. IsPermutation xs (e ∷ ys)) (sym c.swap_remove-first.ensures.items) (IsPermutation-swap_remove xs 0 e pos c.swap_remove-first.ensures.value), all_first c.args.outputs.now xs e c.requires.heap pos c.swap_remove-first.ensures.value)

pub returns-then-not-is_empty-clause-first : goal.returns-then-not-is_empty-clause-first
returns-then-not-is_empty-clause-first c =
    let xs = c.args.entries.now.items in
    let e = c.swap_remove-first.result in
    let t = c.if-is_empty.false in
    let pos : 0 < length xs = omega (arith, c.args.entries.now.ok.0) in
    let items = c.swap_remove-first.new.self.items in
    let ys = c.sift_down.new.entries in
    let same : length ys ≡ length items = c.sift_down.auto.entries ∙ ap length c.deref_mut.ensures.value in
    let moved : IsPermutation items ys = subst (λ zs. IsPermutation zs ys) c.deref_mut.ensures.value c.sift_down.ensures.moved in
    let out : IsPermutation xs (e ∷ items) = subst (λ zs. IsPermutation xs (e ∷ zs)) (sym c.swap_remove-first.ensures.items) (IsPermutation-swap_remove xs 0 e pos c.swap_remove-first.ensures.value) in
    let back = put_back ys items c.swap_remove-first.new.self.len same c.swap_remove-first.new.self.ok.0 in
    (subst (λ zs. IsPermutation xs (e ∷ zs)) (sym back) (IsPermutation-trans xs (e ∷ items) (e ∷ ys) out (IsPermutation-cons e items ys moved)), all_first c.args.outputs.now xs e c.requires.heap pos c.swap_remove-first.ensures.value)
