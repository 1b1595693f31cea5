-- The arcs of a row that lead to kept states.
use Rattle.std.proofs.Common.{◌≡◌, ℕ, Bool, true, false, cond, List, [], ◌∷◌, get_or, Some, None, refl, sym, ◌∙◌, ap, subst, true≢false}
use Rattle.std.specs.Prelude.{slice_get}
use Rattle.std.specs.List.{filter_map, cons_option}
use Rattle.std.proofs.lemmas.Bool.{cond-true}
use Rattle.weighted_relations.specs.declared.Arc.{Arc}
use Rattle.fst_core.specs.Turned.{InRow}
use Rattle.fst_core.specs.Useful.{IsKept, renumbered, to_kept, KeptRow, nothing, kept, dropped}
use Rattle.fst_core.proofs.Among.{cond_some, from_filter_map, to_filter_map}
use Rattle.fst_core.proofs.Searches.{contains_at}
use Rattle.fst_core.proofs.Ranks.{places, kept_at_place, place_of_kept}

pub row_all : (keep : List Bool) (row made : List Arc) (i : ℕ) (a : Arc) → made ≡ filter_map (to_kept keep) row → slice_get row i ≡ Some a → IsKept keep a.next → InRow made (renumbered keep a)
row_all keep row made i a e h is = subst (λ r. InRow r (renumbered keep a)) (sym e) (to_filter_map (to_kept keep) row i a (renumbered keep a) h (cond-true (get_or keep a.next false) (Some (renumbered keep a)) None is))

pub row_only : (keep : List Bool) (row made : List Arc) (j : ℕ) (b : Arc) → made ≡ filter_map (to_kept keep) row → slice_get made j ≡ Some b → (i : ℕ) × (a : Arc) × (slice_get row i ≡ Some a) × IsKept keep a.next × (b ≡ renumbered keep a)
row_only keep row made j b e h =
    let r = from_filter_map (to_kept keep) row b (j, ap (λ r. slice_get r j) (sym e) ∙ h) in
    let s = cond_some (get_or keep r.0.next false) (renumbered keep r.0) b r.2 in
    (r.1.0, r.0, r.1.1, s.0, sym s.1)

pub kept_row_of : (keep : List Bool) (row : List Arc) → KeptRow (places 0 keep) row (filter_map (to_kept keep) row)
kept_row_of keep [] = nothing
kept_row_of keep (a ∷ row) = by (get_or keep a.next false) refl (kept_row_of keep row)
  where
    by : (b : Bool) → get_or keep a.next false ≡ b → KeptRow (places 0 keep) row (filter_map (to_kept keep) row) → KeptRow (places 0 keep) (a ∷ row) (cons_option (cond b (Some (renumbered keep a)) None) (filter_map (to_kept keep) row))
    by true e more = kept (place_of_kept keep a.next e) more
    by false e more = dropped (λ c. (let at = contains_at (places 0 keep) a.next c in true≢false (sym (kept_at_place keep at.0 a.next at.1).0 ∙ e))) more
