use Rattle.std.proofs.Common.{◌≡◌, ◌↔◌, ◌⊎◌, ◌+◌, ◌∷◌, ℕ, [], length, length-append, true, ap, sym, subst, ◌∙◌}
use Rattle.std.specs.List.{Contains}
use Rattle.fst_core.specs.Useful.{IsKept}
use Rattle.fst_core.proofs.Searches.{marks_more}
use Rattle.fst_core.proofs.trims.marks.Goals as goal

pub loop-s-preserved : goal.loop-s-preserved
loop-s-preserved c =
    let P = λ (u : ℕ). (u ≡ c.args.a.now.start) ⊎ (Contains c.args.ahead.now.states u × Contains c.args.live.now.states u) in
    let here = subst (λ n. (c.is_kept.result ≡ true) ↔ ((c.loop-s.s ≡ n) ⊎ (Contains c.args.ahead.now.states c.loop-s.s × Contains c.args.live.now.states c.loop-s.s))) c.start-start.ensures.value c.is_kept.ensures.kept in
    record {
      count = ap length c.in_ok-push.ensures.items ∙ length-append c.loop-s.marks.items (c.is_kept.result ∷ []) ∙ ap (λ n. n + 1) c.loop-s.invariant.count;
      marks = λ t l. subst (λ m. IsKept m t ↔ P t) (sym c.in_ok-push.ensures.items) (marks_more P c.loop-s.marks.items c.loop-s.s c.is_kept.result c.loop-s.invariant.count c.loop-s.invariant.marks here t l);
    }
