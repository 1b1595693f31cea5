use Rattle.std.proofs.Common.{◌≡◌, ◌+◌, ◌<◌, [], ℕ, length, get_or, ap, sym, subst, ◌∙◌, arith}
use Rattle.std.specs.List.{filter_map}
use Rattle.weighted_relations.specs.declared.Arc.{Arc}
use Rattle.weighted_relations.specs.Machines.{final_of, IsArc, ArcFits}
use Rattle.fst_core.specs.States.{with_state}
use Rattle.fst_core.specs.Useful.{rank, to_kept, KeptTo, KeptStates}
use Rattle.fst_core.specs.Top.{top_of, Under}
use Rattle.fst_core.proofs.Tops.{kept_under, built_top}
use Rattle.fst_core.proofs.Fits.{Fit}
use Rattle.fst_core.proofs.Uses.{states_more, states_other, kept_fits}
use Rattle.fst_core.proofs.Ranks.{rank_below}
use Rattle.fst_core.proofs.Searches.{get_or_any}
use Rattle.fst_core.proofs.trims.kept_states.Goals as goal
use Rattle.fst_core.proofs.trims.kept_states.Goals.{then-keep-s+in_ok-row+in_ok-push, else-keep-s}

pub loop-s-preserved : goal.loop-s-preserved
loop-s-preserved c = elim c.if-keep-s.branch [
  | then-keep-s+in_ok-row+in_ok-push w ↦
      let row : w.in_ok-row.row.items ≡ filter_map (to_kept c.args.keep.now) (get_or c.args.a.now.arcs c.loop-s.s []) = w.in_ok-row.ensures ∙ ap (filter_map (to_kept c.args.keep.now)) w.arcs_of.ensures.value in
      let pushed : c.if-keep-s.built ≡ with_state c.loop-s.built w.in_ok-row.row.items (final_of c.args.a.now.finals c.loop-s.s) = w.built-is ∙ w.in_ok-push.ensures.value ∙ ap (with_state c.loop-s.built w.in_ok-row.row.items) w.final_of.ensures.value in
      record {
        kept = states_more c.args.a.now c.args.keep.now c.loop-s.s c.loop-s.built c.if-keep-s.built w.in_ok-row.row.items c.loop-s.invariant.kept w.if-keep-s.true row pushed;
        fits = kept_fits c.args.a.now c.args.keep.now c.loop-s.s c.loop-s.built c.if-keep-s.built w.in_ok-row.row.items c.start-start.ensures.sound c.loop-s.invariant.fits (c.loop-s.invariant.kept.ends_count ∙ sym c.loop-s.invariant.kept.count) row pushed;
        under = kept_under c.args.a.now c.args.keep.now c.loop-s.s c.loop-s.built c.if-keep-s.built w.in_ok-row.row.items c.loop-s.invariant.under (c.loop-s.invariant.kept.ends_count ∙ sym c.loop-s.invariant.kept.count) row pushed;
      }
  | else-keep-s w ↦ record {
    kept = subst (KeptTo c.args.a.now c.args.keep.now (c.loop-s.s + 1)) (sym w.built-is) (states_other c.args.a.now c.args.keep.now c.loop-s.s c.loop-s.built c.loop-s.invariant.kept w.if-keep-s.false);
    fits = subst (Fit (rank c.args.keep.now (length c.args.a.now.arcs))) (sym w.built-is) c.loop-s.invariant.fits;
    under = subst (Under (top_of c.args.a.now)) (sym w.built-is) c.loop-s.invariant.under;
  }
]

pub finish-requires : goal.finish-requires
finish-requires c = record {
  sound =
      let e : c.loop-s.s ≡ length c.args.a.now.arcs = omega arith in
      let kept = subst (λ s. KeptTo c.args.a.now c.args.keep.now s c.loop-s.built) e c.loop-s.invariant.kept in
      let l : c.args.a.now.start < length c.args.a.now.arcs = c.start-start.ensures.sound.start in
      let v : c.start-start.result ≡ c.args.a.now.start = c.start-start.ensures.value in
      let k : length c.args.keep.now ≡ length c.args.a.now.arcs = c.requires.count in
      let n : length c.in_ok-ranks.ranks.items ≡ length c.args.keep.now = c.in_ok-ranks.ensures.count in
      let at : c.index.result.now ≡ rank c.args.keep.now c.args.a.now.start =
      c.index.ensures ∙ get_or_any c.in_ok-ranks.ranks.items c.start-start.result c.index.result.now 0 (omega arith) ∙ c.in_ok-ranks.ensures.ranks c.start-start.result (omega arith) ∙ ap (rank c.args.keep.now) v in
      record {
        finals = kept.ends_count ∙ sym kept.count;
        start = subst (λ m. m < length c.loop-s.built.arcs) (sym at) (subst (λ m. rank c.args.keep.now c.args.a.now.start < m) (sym kept.count) (rank_below c.args.keep.now c.args.a.now.start (length c.args.a.now.arcs) c.requires.start l));
        arcs = subst (λ m. (s i : ℕ) (a : Arc) → IsArc c.loop-s.built.arcs s i a → ArcFits m a) (sym kept.count) c.loop-s.invariant.fits.arcs;
        weights = c.loop-s.invariant.fits.weights;
      };
}

pub returns-clause-states : goal.returns-clause-states
returns-clause-states c =
    let e : c.loop-s.s ≡ length c.args.a.now.arcs = omega arith in
    let kept = subst (λ s. KeptTo c.args.a.now c.args.keep.now s c.loop-s.built) e c.loop-s.invariant.kept in
    let l : c.args.a.now.start < length c.args.a.now.arcs = c.start-start.ensures.sound.start in
    let v : c.start-start.result ≡ c.args.a.now.start = c.start-start.ensures.value in
    let k : length c.args.keep.now ≡ length c.args.a.now.arcs = c.requires.count in
    let n : length c.in_ok-ranks.ranks.items ≡ length c.args.keep.now = c.in_ok-ranks.ensures.count in
    let at : c.index.result.now ≡ rank c.args.keep.now c.args.a.now.start =
    c.index.ensures ∙ get_or_any c.in_ok-ranks.ranks.items c.start-start.result c.index.result.now 0 (omega arith) ∙ c.in_ok-ranks.ensures.ranks c.start-start.result (omega arith) ∙ ap (rank c.args.keep.now) v in
    subst (KeptStates c.args.a.now c.args.keep.now) (sym c.finish.ensures.value) (record { start = at; states = kept })

pub returns-clause-top : goal.returns-clause-top
returns-clause-top c = built_top (top_of c.args.a.now) c.index.result.now c.finish.result c.loop-s.built c.finish.ensures.value c.loop-s.invariant.under
