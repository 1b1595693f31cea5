-- What a check of the parts says of the machine.
use Rattle.std.proofs.Common.{◌≡◌, ◌<◌, ◌^◌, ℕ, zero, suc, List, [], ◌∷◌, map, length, Option, Some, None, Vec, Global, sym, ◌∙◌, ap, subst, inl, inr, refl}
use Rattle.std.specs.Prelude.{All, IfSome, slice_get}
use Rattle.std.proofs.lemmas.Bool.{cases_lt}
use Rattle.std.proofs.lemmas.List.Elements.{All-head, All-tail, All-nil, All-cons}
use Rattle.std.proofs.lemmas.Option.{slice_get_within, get_or_from_slice_get}
use Rattle.weighted_relations.specs.declared.Arc.{Arc}
use Rattle.weighted_relations.specs.Machines.{IsArc, final_of, ArcFits, WellFormed}
use Rattle.fst_core.specs.Made.{machine, PartsFit}
use Rattle.fst_core.proofs.Fits.{no_end}

all_at : {A : Type 0} (P : A → Type 0) (xs : List A) (k : ℕ) (a : A) → All P xs → slice_get xs k ≡ Some a → P a
all_at P xs k a h e = subst P (get_or_from_slice_get xs k a a e) (h k a (slice_get_within xs k a e))

all_from : {A : Type 0} (P : A → Type 0) (xs : List A) → ((k : ℕ) (a : A) → slice_get xs k ≡ Some a → P a) → All P xs
all_from P [] h = All-nil P
all_from P (x ∷ xs) h = All-cons P x xs (h 0 x refl) (all_from P xs (λ k a e. h (suc k) a e))

same_count : (rows : List (Vec Arc Global)) → length (map (λ row. row.items) rows) ≡ length rows
same_count [] = refl
same_count (r ∷ rows) = ap suc (same_count rows)

row_at : (n : ℕ) (rows : List (Vec Arc Global)) (s k : ℕ) (a : Arc) → All (λ row. All (ArcFits n) row.items) rows → IsArc (map (λ row. row.items) rows) s k a → ArcFits n a
row_at n [] s k a h e = absurd (cc)
row_at n (r ∷ rows) zero k a h e = all_at (ArcFits n) r.items k a (All-head (λ row. All (ArcFits n) row.items) r rows h) e
row_at n (r ∷ rows) (suc s) k a h e = row_at n rows s k a (All-tail (λ row. All (ArcFits n) row.items) r rows h) e

rows_from : (n : ℕ) (rows : List (Vec Arc Global)) → ((s k : ℕ) (a : Arc) → IsArc (map (λ row. row.items) rows) s k a → ArcFits n a) → All (λ row. All (ArcFits n) row.items) rows
rows_from n [] h = All-nil (λ row. All (ArcFits n) row.items)
rows_from n (r ∷ rows) h = All-cons (λ row. All (ArcFits n) row.items) r rows (all_from (ArcFits n) r.items (λ k a e. h 0 k a e)) (rows_from n rows (λ s k a e. h (suc s) k a e))

ends_from : (ends : List (Option ℕ)) → ((s w : ℕ) → final_of ends s ≡ Some w → w < 2 ^ 54) → All (λ last. IfSome last (λ w. w < 2 ^ 54)) ends
ends_from [] h = All-nil (λ last. IfSome last (λ w. w < 2 ^ 54))
ends_from (None ∷ ends) h = All-cons (λ last. IfSome last (λ w. w < 2 ^ 54)) None ends tt (ends_from ends (λ s w e. h (suc s) w e))
ends_from (Some v ∷ ends) h = All-cons (λ last. IfSome last (λ w. w < 2 ^ 54)) (Some v) ends (h 0 v refl) (ends_from ends (λ s w e. h (suc s) w e))

module _ (start : ℕ) (arcs : Vec (Vec Arc Global) Global) (finals : Vec (Option ℕ) Global) where
  pub fit_sound : PartsFit start arcs.items finals.items → WellFormed (machine start arcs finals)
  fit_sound h = record {
    finals = h.even ∙ sym (same_count arcs.items);
    start = subst (λ n. start < n) (sym (same_count arcs.items)) h.start;
    arcs = λ s k a e. subst (λ n. ArcFits n a) (sym (same_count arcs.items)) (row_at (length arcs.items) arcs.items s k a h.rows e);
    weights = λ s w e. elim (cases_lt s (length finals.items)) [
      | inl l ↦ let f : IfSome (final_of finals.items s) (λ v. v < 2 ^ 54) = h.ends s None l in subst (λ o. IfSome o (λ v. v < 2 ^ 54)) e f
      | inr l ↦ absurd (no_end finals.items s w l e)
    ];
  }

  pub sound_fit : WellFormed (machine start arcs finals) → PartsFit start arcs.items finals.items
  sound_fit h = record {
    even = h.finals ∙ same_count arcs.items;
    start = subst (λ n. start < n) (same_count arcs.items) h.start;
    rows = rows_from (length arcs.items) arcs.items (λ s k a e. subst (λ n. ArcFits n a) (same_count arcs.items) (h.arcs s k a e));
    ends = ends_from finals.items h.weights;
  }

  pub fit_there : (rows : List (Vec Arc Global)) (ends : List (Option ℕ)) → rows ≡ arcs.items → ends ≡ finals.items → PartsFit start rows ends → WellFormed (machine start arcs finals)
  fit_there rows ends e f h = fit_sound (subst (λ v. PartsFit start v finals.items) e (subst (PartsFit start rows) f h))

  pub sound_there : (rows : List (Vec Arc Global)) (ends : List (Option ℕ)) → rows ≡ arcs.items → ends ≡ finals.items → WellFormed (machine start arcs finals) → PartsFit start rows ends
  sound_there rows ends e f h = subst (PartsFit start rows) (sym f) (subst (λ v. PartsFit start v finals.items) (sym e) (sound_fit h))
