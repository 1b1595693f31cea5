-- What is built is a transducer.
use Rattle.std.proofs.Common.{◌≡◌, ℕ, ◌+◌, ◌-◌, ◌<◌, ◌≤◌, ◌^◌, List, [], ◌∷◌, ◌++◌, length, get_or, Option, Some, None, sym, ◌∙◌, ap, subst, inl, inr, arith, length-append, lit≤}
use Rattle.std.specs.Prelude.{slice_get}
use Rattle.std.proofs.lemmas.Bool.{cases_lt}
use Rattle.std.proofs.lemmas.List.{get_or_past, get_or_append_left, get_or_push}
use Rattle.fst_core.specs.declared.builder.Kept.{Kept}
use Rattle.fst_core.specs.declared.builder.Kept.TheVariants.{Input, Output, Neither}
use Rattle.weighted_relations.specs.declared.Arc.{Arc}
use Rattle.weighted_relations.specs.Machines.{Machine, IsArc, final_of, ArcFits, WellFormed}
use Rattle.fst_core.specs.Placed.{placed_row, placed_final, taken}
use Rattle.fst_core.specs.States.{States, with_state, Adds, no_states}
use Rattle.fst_core.proofs.Regions.{RowCase, row_cases, Closed}

pub record Fit (n : ℕ) (b : States) : Type 0 where
  pub arcs : (s k : ℕ) (a : Arc) → IsArc b.arcs s k a → ArcFits n a
  pub weights : (s w : ℕ) → final_of b.finals s ≡ Some w → w < 2 ^ 54

pub record RowFits (n : ℕ) (row : List Arc) : Type 0 where
  pub arcs : (k : ℕ) (a : Arc) → slice_get row k ≡ Some a → ArcFits n a

pub no_fit : (n : ℕ) → Fit n no_states
no_fit n = record { arcs = λ s k a e. absurd (cc); weights = λ s w e. absurd (cc) }

pub fit_more : (n m : ℕ) (b : States) → n ≤ m → Fit n b → Fit m b
fit_more n m b l h = record {
  arcs = λ s k a e. let f = h.arcs s k a e in record { input = f.input; output = f.output; weight = f.weight; next = let q : a.next < n = f.next in omega arith };
  weights = h.weights;
}

pub fit_of : (p : Machine) → WellFormed p → Fit (length p.arcs) (record { arcs = p.arcs; finals = p.finals })
fit_of p h = record { arcs = h.arcs; weights = h.weights }

pub closed_of : (p : Machine) → WellFormed p → Closed p
unfolding Closed
closed_of p h s k a e = (h.arcs s k a e).next

taken-le : (b : Kept) (n m : ℕ) → n ≤ 257 → m ≤ 257 → taken b n m ≤ 257
taken-le Input n m h k = h
taken-le Output n m h k = k
taken-le Neither n m h k = lit≤ tt

pub no_arc : (arcs : List (List Arc)) (s k : ℕ) (a : Arc) → length arcs ≤ s → IsArc arcs s k a → ⊥
no_arc arcs s k a l e = let q : None ≡ Some a = ap (λ z. slice_get z k) (sym (get_or_past arcs s [] l)) ∙ e in cc

pub no_end : (finals : List (Option ℕ)) (s w : ℕ) → length finals ≤ s → final_of finals s ≡ Some w → ⊥
no_end finals s w l e = let q : None ≡ Some w = sym (get_or_past finals s None l) ∙ e in cc

-- in a region
module _ (n off : ℕ) (i o : Kept) (p : Machine) (sound : WellFormed p) (room : off + length p.arcs ≤ n) where
  arc_placed : (exit : Option ℕ) → ((t : ℕ) → exit ≡ Some t → t < n) → (s k : ℕ) (a : Arc) → slice_get (placed_row off i o exit (get_or p.arcs s []) (final_of p.finals s)) k ≡ Some a → ArcFits n a
  unfolding RowCase
  arc_placed exit out s k a e = elim (row_cases off i o exit (get_or p.arcs s []) (final_of p.finals s) a k e) [
    | inl q ↦
        let f : ArcFits (length p.arcs) q.0 = sound.arcs s q.1 q.0 q.2 in
        subst (ArcFits n) (sym q.3) (record { input = taken-le i q.0.input q.0.output f.input f.output; output = taken-le o q.0.input q.0.output f.input f.output; weight = f.weight; next = let l : q.0.next < length p.arcs = f.next in omega arith })
    | inr q ↦
        subst (ArcFits n) (sym q.4) (record { input = lit≤ tt; output = lit≤ tt; weight = sound.weights s q.1 q.3; next = out q.0 q.2 })
  ]

  end_placed : (exit : Option ℕ) → (s w : ℕ) → placed_final exit (final_of p.finals s) ≡ Some w → w < 2 ^ 54
  end_placed None s w e = sound.weights s w e
  end_placed (Some t) s w e = absurd (cc)

pub adds_fit : (n : ℕ) (b c : States) (p : Machine) (i o : Kept) (exit : Option ℕ) → WellFormed p → length b.arcs + length p.arcs ≤ n → ((t : ℕ) → exit ≡ Some t → t < n) → Fit n b → Adds b c p (length p.arcs) i o exit → Fit n c
adds_fit n b c p i o exit sound room out fit adds = record {
  arcs = λ s k a e.
      elim (cases_lt s (length b.arcs)) [
        | inl l ↦ fit.arcs s k a (ap (λ z. slice_get z k) (sym (adds.old_arcs s l)) ∙ e)
        | inr l ↦ elim (cases_lt s (length c.arcs)) [
          | inl m ↦
              let count : length c.arcs ≡ length b.arcs + length p.arcs = adds.arc_count in
              let at : s ≡ length b.arcs + (s - length b.arcs) = omega arith in
              let within : s - length b.arcs < length p.arcs = omega arith in
              arc_placed n (length b.arcs) i o p sound room exit out (s - length b.arcs) k a
              (ap (λ z. slice_get z k) (sym (ap (λ z. get_or c.arcs z []) at ∙ adds.region.rows (s - length b.arcs) within)) ∙ e)
          | inr m ↦ absurd (no_arc c.arcs s k a m e)
        ]
      ];
  weights = λ s w e.
      elim (cases_lt s (length b.arcs)) [
        | inl l ↦ fit.weights s w (sym (adds.old_finals s l) ∙ e)
        | inr l ↦ elim (cases_lt s (length c.finals)) [
          | inl m ↦
              let count : length c.finals ≡ length b.arcs + length p.arcs = adds.final_count in
              let at : s ≡ length b.arcs + (s - length b.arcs) = omega arith in
              let within : s - length b.arcs < length p.arcs = omega arith in
              end_placed n (length b.arcs) i o p sound room exit (s - length b.arcs) w
              (sym (ap (final_of c.finals) at ∙ adds.region.ends (s - length b.arcs) within) ∙ e)
          | inr m ↦ absurd (no_end c.finals s w m e)
        ]
      ];
}

-- one more state
pub state_fits : (n : ℕ) (b : States) (row : List Arc) (last : Option ℕ) → length b.finals ≡ length b.arcs → Fit n b → RowFits n row → ((w : ℕ) → last ≡ Some w → w < 2 ^ 54) → Fit n (with_state b row last)
state_fits n b row last even fit rows ends = record {
  arcs = λ s k a e.
      elim (cases_lt s (length b.arcs)) [
        | inl l ↦ fit.arcs s k a (ap (λ z. slice_get z k) (sym (get_or_append_left b.arcs (row ∷ []) [] s l)) ∙ e)
        | inr l ↦ elim (cases_lt (length b.arcs) s) [
          | inl m ↦ absurd (no_arc (b.arcs ++ row ∷ []) s k a (let q : length (b.arcs ++ row ∷ []) ≡ length b.arcs + 1 = length-append b.arcs (row ∷ []) in omega arith) e)
          | inr m ↦
              let at : length b.arcs ≡ s = omega arith in
              rows.arcs k a (ap (λ z. slice_get z k) (sym (get_or_push b.arcs row [] s at)) ∙ e)
        ]
      ];
  weights = λ s w e.
      elim (cases_lt s (length b.finals)) [
        | inl l ↦ fit.weights s w (sym (get_or_append_left b.finals (last ∷ []) None s l) ∙ e)
        | inr l ↦ elim (cases_lt (length b.finals) s) [
          | inl m ↦ absurd (no_end (b.finals ++ last ∷ []) s w (let q : length (b.finals ++ last ∷ []) ≡ length b.finals + 1 = length-append b.finals (last ∷ []) in omega arith) e)
          | inr m ↦
              let at : length b.finals ≡ s = omega arith in
              ends w (sym (get_or_push b.finals last None s at) ∙ e)
        ]
      ];
}
