-- States that are added one at a time.
use Rattle.std.proofs.Common.{◌≡◌, ℕ, ◌+◌, ◌<◌, ◌⊎◌, List, [], ◌∷◌, ◌++◌, length, get_or, Option, None, refl, sym, ◌∙◌, ap, subst, inl, inr, arith, length-append}
use Rattle.std.proofs.lemmas.List.{get_or_append_left, get_or_push}
use Rattle.std.proofs.lemmas.Bool.{cases_lt}
use Rattle.fst_core.specs.declared.builder.Kept.{Kept}
use Rattle.weighted_relations.specs.declared.Arc.{Arc}
use Rattle.weighted_relations.specs.Machines.{Machine, final_of}
use Rattle.fst_core.specs.Placed.{placed_row, placed_final}
use Rattle.fst_core.specs.States.{States, with_state, Adds}

pub adds_none : (b : States) (p : Machine) (i o : Kept) (exit : Option ℕ) → length b.finals ≡ length b.arcs → Adds b b p 0 i o exit
adds_none b p i o exit h = record {
  arc_count = omega arith;
  final_count = omega arith;
  old_arcs = λ s l. refl;
  old_finals = λ s l. refl;
  region = record { rows = λ s l. absurd (omega arith); ends = λ s l. absurd (omega arith) };
}

-- what stands at a place after one more element
pub last_or_before : {A : Type 0} (xs : List A) (x d : A) (k : ℕ) → k < length xs + 1 → ((k < length xs) × (get_or (xs ++ x ∷ []) k d ≡ get_or xs k d)) ⊎ ((k ≡ length xs) × (get_or (xs ++ x ∷ []) k d ≡ x))
last_or_before xs x d k h = elim (cases_lt k (length xs)) [
  | inl l ↦ inl (l, get_or_append_left xs (x ∷ []) d k l)
  | inr l ↦ let e : k ≡ length xs = omega arith in inr (e, get_or_push xs x d k (sym e))
]

module _ (b c : States) (p : Machine) (n : ℕ) (i o : Kept) (exit : Option ℕ) (had : Adds b c p n i o exit) where
  new_row : List Arc
  new_row = placed_row (length b.arcs) i o exit (get_or p.arcs n []) (final_of p.finals n)

  new_end : Option ℕ
  new_end = placed_final exit (final_of p.finals n)

  row_at : (s : ℕ) → s < n + 1 → get_or (c.arcs ++ new_row ∷ []) (length b.arcs + s) [] ≡ placed_row (length b.arcs) i o exit (get_or p.arcs s []) (final_of p.finals s)
  unfolding new_row
  row_at s l =
      let count : length c.arcs ≡ length b.arcs + n = had.arc_count in
      let h : length b.arcs + s < length c.arcs + 1 = omega arith in
      elim (last_or_before c.arcs new_row [] (length b.arcs + s) h) [
        | inl q ↦ let k : s < n = omega (arith, q.0) in q.1 ∙ had.region.rows s k
        | inr q ↦ let k : n ≡ s = omega (arith, q.0) in q.1 ∙ ap (λ m. placed_row (length b.arcs) i o exit (get_or p.arcs m []) (final_of p.finals m)) k
      ]

  end_at : (s : ℕ) → s < n + 1 → final_of (c.finals ++ new_end ∷ []) (length b.arcs + s) ≡ placed_final exit (final_of p.finals s)
  unfolding new_end
  end_at s l =
      let count : length c.finals ≡ length b.arcs + n = had.final_count in
      let h : length b.arcs + s < length c.finals + 1 = omega arith in
      elim (last_or_before c.finals new_end None (length b.arcs + s) h) [
        | inl q ↦ let k : s < n = omega (arith, q.0) in q.1 ∙ had.region.ends s k
        | inr q ↦ let k : n ≡ s = omega (arith, q.0) in q.1 ∙ ap (λ m. placed_final exit (final_of p.finals m)) k
      ]

pub adds_more : (b c d : States) (p : Machine) (n : ℕ) (i o : Kept) (exit : Option ℕ) → Adds b c p n i o exit → d ≡ with_state c (placed_row (length b.arcs) i o exit (get_or p.arcs n []) (final_of p.finals n)) (placed_final exit (final_of p.finals n)) → Adds b d p (n + 1) i o exit
unfolding new_row new_end
adds_more b c d p n i o exit had e = subst (λ v. Adds b v p (n + 1) i o exit) (sym e) (record {
  arc_count = length-append c.arcs (new_row b c p n i o exit had ∷ []) ∙ (let count : length c.arcs ≡ length b.arcs + n = had.arc_count in omega arith);
  final_count = length-append c.finals (new_end b c p n i o exit had ∷ []) ∙ (let count : length c.finals ≡ length b.arcs + n = had.final_count in omega arith);
  old_arcs = λ s l. get_or_append_left c.arcs (new_row b c p n i o exit had ∷ []) [] s (let count : length c.arcs ≡ length b.arcs + n = had.arc_count in omega arith) ∙ had.old_arcs s l;
  old_finals = λ s l. get_or_append_left c.finals (new_end b c p n i o exit had ∷ []) None s (let count : length c.finals ≡ length b.arcs + n = had.final_count in omega arith) ∙ had.old_finals s l;
  region = record { rows = row_at b c p n i o exit had; ends = end_at b c p n i o exit had };
})
