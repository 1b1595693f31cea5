use Rattle.std.proofs.Common.{◌≡◌, ◌++◌, ◌∷◌, [], length, sym, subst, ◌∙◌, ap}
use Rattle.std.specs.List.Sorted.{IsPermutation}
use Rattle.std.proofs.lemmas.List.Sorted.{IsPermutation-trans, IsPermutation-sym, IsPermutation-to_front}
use Rattle.least_path.proofs.Heaps.{put_back}
use Rattle.least_path.proofs.queue.push.Goals as goal

pub returns-clause-added : goal.returns-clause-added
returns-clause-added c =
    let items = c.push.new.self.items in
    let old = c.args.entries.now.items in
    let ys = c.sift_up.new.entries in
    let same : length ys ≡ length items = c.sift_up.auto.entries ∙ ap length c.deref_mut.ensures.value in
    let moved : IsPermutation items ys = subst (λ xs. IsPermutation xs ys) c.deref_mut.ensures.value c.sift_up.ensures.moved in
    let front : IsPermutation (c.args.entry ∷ old) items = subst (IsPermutation (c.args.entry ∷ old)) (sym c.in_ok-push.ensures.items) (IsPermutation-sym (old ++ c.args.entry ∷ []) (c.args.entry ∷ old) (IsPermutation-to_front old c.args.entry)) in
    subst (IsPermutation (c.args.entry ∷ old)) (sym (put_back ys items c.push.new.self.len same c.push.new.self.ok.0)) (IsPermutation-trans (c.args.entry ∷ old) items ys front moved)
