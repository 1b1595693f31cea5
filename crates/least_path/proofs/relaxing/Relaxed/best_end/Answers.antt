use Rattle.std.proofs.Common.{◌≡◌, ◌<◌, ℕ, List, Option, Some, None, slice_get, length, refl, sym, ap, ◌∙◌, arith}
use Rattle.std.specs.Prelude.{MatchOption}
use Rattle.std.proofs.lemmas.List.{get_or_default}
use Rattle.std.proofs.lemmas.Option.{slice_get_within}
use Rattle.least_path.specs.declared.node.Node.TheVariants.{End}
use Rattle.least_path.specs.declared.queue.Entry.{Entry}
use Rattle.least_path.specs.declared.marks.Mark.TheVariants.{Unmet}
use Rattle.least_path.specs.declared.relaxing.Relaxed.{Relaxed}
use Rattle.least_path.specs.Marks.{mark_of, best_of}
use Rattle.least_path.specs.Relaxing.{IsMet, IsBest, Kept}
use Rattle.least_path.proofs.relaxing.Relaxed.best_end.Goals as goal

best_at : (s : Relaxed) → Kept s → (k : ℕ) → slice_get s.nodes k ≡ Some End → (o : Option Entry) → best_of (mark_of s.marks.items k) ≡ o → MatchOption o ((w : ℕ) (y : List ℕ) → IsMet s End w y → ⊥) (IsBest s End)
best_at s kept k at None e = λ w y h.
    let same : h.number ≡ k = kept.one_end h.number k h.node at in
    let clash : None ≡ Some h.way = sym e ∙ ap (λ j. best_of (mark_of s.marks.items j)) (sym same) ∙ h.mark in
    cc
best_at s kept k at (Some b) e = record { met = record { number = k; way = b; node = at; mark = e; weight = refl; output = refl }; fits = kept.fits k b e }

pub returns-in-Some : goal.returns-in-Some
returns-in-Some c =
    let s = c.args.self.now in
    let k = c.in-Some.number in
    let within : k < length s.nodes = slice_get_within s.nodes k End c.in-Some.ensures in
    let even = c.requires.even in
    let at : mark_of s.marks.items k ≡ c.index.result.now = get_or_default s.marks.items k Unmet c.index.result.now (omega arith) ∙ sym c.index.ensures in
    best_at s c.requires k c.in-Some.ensures c.best.result (ap best_of at ∙ sym c.best.ensures)
