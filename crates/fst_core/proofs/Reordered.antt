-- The arcs of each state in another order.
use Rattle.std.specs.Prelude.{◌≡◌, ℕ, ◌+◌, ◌<◌, ◌≤◌, List, [], ◌∷◌, length, get_or, Option, None, IsPermutation}
use Rattle.std.specs.List.Sorted.{IsNonDecreasingBy}
use Rattle.std.proofs.Common.{refl, sym, ◌∙◌, ap, subst, inl, inr, arith}
use Rattle.std.proofs.lemmas.Bool.{cases_lt}
use Rattle.std.proofs.lemmas.List.{length_push, get_or_push, get_or_append_left, get_or_past}
use Rattle.std.proofs.lemmas.List.Sorted.{IsPermutation-refl, IsPermutation-sym, IsNonDecreasingBy-short}
use Rattle.weighted_relations.specs.declared.Arc.{Arc}
use Rattle.weighted_relations.specs.Machines.{Machine, final_of, ArcFits, WellFormed}
use Rattle.fst_core.specs.States.{States, as_machine, with_state, no_states}
use Rattle.fst_core.proofs.Fits.{no_arc, no_end}
use Rattle.fst_core.specs.Sorted.{RowsReordered, IsReordered, HasSortedRows}
use Rattle.fst_core.proofs.Among.{permuted}

pub reordered_none : (a : Machine) (b : States) → b ≡ no_states → RowsReordered 0 a b
reordered_none a b e = subst (RowsReordered 0 a) (sym e) (record {
  count = refl;
  final_count = refl;
  rows = λ s l. absurd (omega (arith, l));
  sorted = λ s l. absurd (omega (arith, l));
  ends = λ s l. absurd (omega (arith, l));
})

pub reordered_more : (a : Machine) (b c : States) (n : ℕ) (row : List Arc) (last : Option ℕ) → RowsReordered n a b → IsPermutation (get_or a.arcs n []) row → IsNonDecreasingBy (λ (y : Arc). y.input) row → last ≡ final_of a.finals n → c ≡ with_state b row last → RowsReordered (n + 1) a c
reordered_more a b c n row last had order up end e =
    let m : length b.arcs ≡ n = had.count in
    let k : length b.finals ≡ n = had.final_count in
    subst (RowsReordered (n + 1) a) (sym e) (record {
      count = length_push b.arcs row ∙ ap (λ i. i + 1) m;
      final_count = length_push b.finals last ∙ ap (λ i. i + 1) k;
      rows = λ s l. elim (cases_lt s n) [
        | inl low ↦ subst (IsPermutation (get_or a.arcs s [])) (sym (get_or_append_left b.arcs (row ∷ []) [] s (omega arith))) (had.rows s low)
        | inr high ↦
            let is : length b.arcs ≡ s = omega arith in
            let at : n ≡ s = omega arith in
            subst (IsPermutation (get_or a.arcs s [])) (sym (get_or_push b.arcs row [] s is)) (subst (λ i. IsPermutation (get_or a.arcs i []) row) at order)
      ];
      sorted = λ s l. elim (cases_lt s n) [
        | inl low ↦ subst (IsNonDecreasingBy (λ (y : Arc). y.input)) (sym (get_or_append_left b.arcs (row ∷ []) [] s (omega arith))) (had.sorted s low)
        | inr high ↦
            let is : length b.arcs ≡ s = omega arith in
            subst (IsNonDecreasingBy (λ (y : Arc). y.input)) (sym (get_or_push b.arcs row [] s is)) up
      ];
      ends = λ s l. elim (cases_lt s n) [
        | inl low ↦ get_or_append_left b.finals (last ∷ []) None s (omega arith) ∙ had.ends s low
        | inr high ↦
            let is : length b.finals ≡ s = omega arith in
            let at : n ≡ s = omega arith in
            get_or_push b.finals last None s is ∙ (end ∙ ap (final_of a.finals) at)
      ];
    })

module _ (a : Machine) (b : States) (n start : ℕ) (sound : WellFormed a) (had : RowsReordered n a b) (all : n ≡ length a.arcs) (from : start ≡ a.start) where
  pub reordered_sound : WellFormed (as_machine start b)
  reordered_sound =
      let m : length b.arcs ≡ n = had.count in
      let k : length b.finals ≡ n = had.final_count in
      record {
        finals = omega arith;
        start = (let l : a.start < length a.arcs = sound.start in omega arith);
        arcs = λ s i x h.
            let l : s < n = elim (cases_lt s n) [ inl low ↦ low | inr high ↦ absurd (no_arc b.arcs s i x (omega arith) h) ] in
            let r = permuted (get_or b.arcs s []) (get_or a.arcs s []) x (IsPermutation-sym (get_or a.arcs s []) (get_or b.arcs s []) (had.rows s l)) (i, h) in
            let e : length a.arcs ≡ length b.arcs = omega arith in
            subst (λ c. ArcFits c x) e (sound.arcs s r.0 x r.1);
        weights = λ s w h.
            let l : s < n = elim (cases_lt s n) [ inl low ↦ low | inr high ↦ absurd (no_end b.finals s w (omega arith) h) ] in
            sound.weights s w (sym (had.ends s l) ∙ h);
      }

  pub reordered_all : IsReordered a (as_machine start b)
  reordered_all =
      let m : length b.arcs ≡ n = had.count in
      let k : length b.finals ≡ n = had.final_count in
      let f : length a.finals ≡ length a.arcs = sound.finals in
      record {
        start = from;
        count = omega arith;
        rows = λ s. elim (cases_lt s n) [
          | inl low ↦ had.rows s low
          | inr high ↦ subst (IsPermutation (get_or a.arcs s [])) (get_or_past a.arcs s [] (omega arith) ∙ sym (get_or_past b.arcs s [] (omega arith))) (IsPermutation-refl (get_or a.arcs s []))
        ];
        ends = λ s. elim (cases_lt s n) [
          | inl low ↦ had.ends s low
          | inr high ↦ get_or_past b.finals s None (omega arith) ∙ sym (get_or_past a.finals s None (omega arith))
        ];
      }

  pub reordered_sorted : HasSortedRows (as_machine start b)
  reordered_sorted s = elim (cases_lt s n) [
    | inl low ↦ had.sorted s low
    | inr high ↦ subst (IsNonDecreasingBy (λ (y : Arc). y.input)) (sym (get_or_past b.arcs s [] (let m : length b.arcs ≡ n = had.count in omega arith))) (IsNonDecreasingBy-short (λ (y : Arc). y.input) [] (omega arith))
  ]

-- there are no further rows
pub all_rows : (m : Machine) (n : ℕ) → length m.arcs ≤ n → ((k : ℕ) → k < n → IsNonDecreasingBy (λ y. y.input) (get_or m.arcs k [])) → HasSortedRows m
all_rows m n l h s = elim (cases_lt s n) [
  | inl low ↦ h s low
  | inr high ↦ subst (IsNonDecreasingBy (λ (y : Arc). y.input)) (sym (get_or_past m.arcs s [] (omega arith))) (IsNonDecreasingBy-short (λ (y : Arc). y.input) [] (omega arith))
]
