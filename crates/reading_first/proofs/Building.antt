-- Parts, and the rows of the first of them, while the transducer of their numbers is built.
use Rattle.std.specs.Prelude.{◌≡◌, ℕ, ◌+◌, ◌<◌, ◌≤◌, ◌^◌, List, [], ◌∷◌, ◌++◌, Option, Some, None, length, get_or, slice_get}
use Rattle.std.specs.List.{Contains}
use Rattle.std.proofs.Common.{refl, sym, ◌∙◌, ap, subst, inl, inr, arith}
use Rattle.std.proofs.lemmas.Bool.{cases_lt}
use Rattle.std.proofs.lemmas.List.{length_push, get_or_push, get_or_append_left}
use Rattle.std.proofs.lemmas.Option.{slice_get-get_or, slice_get_within}
use Rattle.weighted_relations.specs.declared.Arc.{Arc}
use Rattle.weighted_relations.specs.Relations.{Same}
use Rattle.weighted_relations.specs.Machines.{Machine, WellFormed, Reads, final_of}
use Rattle.fst_core.specs.States.{States, as_machine, with_state, no_states}
use Rattle.fst_core.proofs.Fits.{no_arc, no_end}
use Rattle.state_table.specs.Numbers.{Distinct, Numbers}
use Rattle.reading_first.specs.declared.parts.Part.{Part}
use Rattle.reading_first.specs.declared.parts.Part.TheVariants.{At}
use Rattle.reading_first.specs.Shapes.{Fit, RowOf, RowMade, IsSmall, IsShaped}
use Rattle.reading_first.proofs.Readings.{contains_at, same_readings}
use Rattle.reading_first.specs.ReadsFirst.{ReadsFirst}
use Rattle.reading_first.proofs.Chains.{fit_added}
use Rattle.reading_first.proofs.First.{reads_first}
use Rattle.reading_first.proofs.Rows.{row_kept, row_within}

-- the first parts have their states
pub record SoFar (m : Machine) (start : ℕ) (parts : List Part) (b : States) : Type 0 where
  pub even : length b.finals ≡ length b.arcs
  pub count : length b.arcs ≤ length parts
  pub first : slice_get parts start ≡ Some (At m.start)
  pub rows : (n : ℕ) (p : Part) → n < length b.arcs → slice_get parts n ≡ Some p → RowOf m parts p (get_or b.arcs n []) (final_of b.finals n)
  pub small : (n : ℕ) (x : Arc) → n < length b.arcs → Contains (get_or b.arcs n []) x → IsSmall x
  pub light : (n w : ℕ) → n < length b.arcs → final_of b.finals n ≡ Some w → w < 2 ^ 54
  pub fit : Fit m parts

pub none_so_far : (m : Machine) (start : ℕ) (none parts : List Part) (b : States) (s : ℕ) → none ≡ [] → WellFormed m → s ≡ m.start → Distinct parts → Numbers none parts (At s) start → b ≡ no_states → SoFar m start parts b
none_so_far m start none parts b s empty wf same distinct add is =
    let first : Numbers [] parts (At m.start) start = subst (λ n. Numbers [] parts (At n) start) same (subst (λ o. Numbers o parts (At s) start) empty add) in
    subst (SoFar m start parts) (sym is) (record {
      even = refl;
      count = omega arith;
      first = first.stored;
      rows = λ n p l h. absurd (omega (arith, l));
      small = λ n x l h. absurd (omega (arith, l));
      light = λ n w l h. absurd (omega (arith, l));
      fit = fit_added m [] parts (At m.start) start (λ i p h. absurd (let f : None ≡ Some p = h in cc)) distinct first wf.start;
    })

module _ (m : Machine) (start : ℕ) (old new : List Part) (b : States) (n : ℕ) (p : Part) (row : List Arc) (last : Option ℕ) (had : SoFar m start old b) (at : n ≡ length b.arcs) (there : slice_get old n ≡ Some p) (made : RowMade m old new p row last) where
  -- what stood in front was there before
  was : (k : ℕ) (q : Part) → k ≤ n → slice_get new k ≡ Some q → slice_get old k ≡ Some q
  was k q l h =
      let i : n < length old = slice_get_within old n p there in
      let o = slice_get-get_or old k p (let k : k < length old = omega arith in k) in
      o ∙ (sym (made.keeps.kept k (get_or old k p) o) ∙ h)

  pub more_so_far : SoFar m start new (with_state b row last)
  more_so_far =
      let even : length b.finals ≡ length b.arcs = had.even in
      let i : n < length new = slice_get_within new n p (made.keeps.kept n p there) in
      let arcs : length (b.arcs ++ row ∷ []) ≡ length b.arcs + 1 = length_push b.arcs row in
      let finals : length (b.finals ++ last ∷ []) ≡ length b.finals + 1 = length_push b.finals last in
      record {
        even = omega arith;
        count = omega arith;
        first = made.keeps.kept start (At m.start) had.first;
        rows = λ k q l h. elim (cases_lt k (length b.arcs)) [
          | inl low ↦
              let o = was k q (let u : k ≤ n = omega arith in u) h in
              subst (λ r. RowOf m new q r (final_of (b.finals ++ last ∷ []) k)) (sym (get_or_append_left b.arcs (row ∷ []) [] k low))
              (subst (RowOf m new q (get_or b.arcs k [])) (sym (get_or_append_left b.finals (last ∷ []) None k (let u : k < length b.finals = omega arith in u)))
              (row_kept m old new q (get_or b.arcs k []) (final_of b.finals k) made.keeps (had.rows k q low o)))
          | inr high ↦
              let same : length b.arcs ≡ k = omega arith in
              let here : n ≡ k = omega arith in
              let o = was k q (let u : k ≤ n = omega arith in u) h in
              let part : p ≡ q = (let f : Some p ≡ Some q = sym there ∙ ap (slice_get old) here ∙ o in cc) in
              subst (λ r. RowOf m new q r (final_of (b.finals ++ last ∷ []) k)) (sym (get_or_push b.arcs row [] k same))
              (subst (RowOf m new q row) (sym (get_or_push b.finals last None k (even ∙ same)))
              (subst (λ p. RowOf m new p row last) part made.is))
        ];
        small = λ k x l h. elim (cases_lt k (length b.arcs)) [
          | inl low ↦ had.small k x low (subst (λ r. Contains r x) (get_or_append_left b.arcs (row ∷ []) [] k low) h)
          | inr high ↦
              let same : length b.arcs ≡ k = omega arith in
              made.small x (subst (λ r. Contains r x) (get_or_push b.arcs row [] k same) h)
        ];
        light = λ k w l h. elim (cases_lt k (length b.arcs)) [
          | inl low ↦ had.light k w low (sym (get_or_append_left b.finals (last ∷ []) None k (let u : k < length b.finals = omega arith in u)) ∙ h)
          | inr high ↦
              let same : length b.finals ≡ k = omega arith in
              made.light w (sym (get_or_push b.finals last None k same) ∙ h)
        ];
        fit = made.fit;
      }

module _ (m : Machine) (start : ℕ) (parts : List Part) (b : States) (had : SoFar m start parts b) (done : length parts ≤ length b.arcs) where
  pub shaped_sound : WellFormed (as_machine start b)
  shaped_sound =
      let even : length b.finals ≡ length b.arcs = had.even in
      let count : length b.arcs ≤ length parts = had.count in
      let from : start < length parts = slice_get_within parts start (At m.start) had.first in
      record {
        finals = even;
        start = omega arith;
        arcs = λ s k x h. elim (cases_lt s (length b.arcs)) [
          | inl low ↦
              let c = contains_at (get_or b.arcs s []) k x h in
              let small = had.small s x low c in
              let p : Part = get_or parts s (At 0) in
              let there : slice_get parts s ≡ Some p = slice_get-get_or parts s (At 0) (let l : s < length parts = omega arith in l) in
              let l : x.next < length parts = row_within m parts p (get_or b.arcs s []) (final_of b.finals s) (had.fit s p there) (had.rows s p low there) x c in
              record { input = small.input; output = small.output; weight = small.weight; next = omega arith }
          | inr high ↦ absurd (no_arc b.arcs s k x high h)
        ];
        weights = λ s w h. elim (cases_lt s (length b.arcs)) [
          | inl low ↦ had.light s w low h
          | inr high ↦ absurd (no_end b.finals s w (omega arith) h)
        ];
      }

  pub shaped : IsShaped m (as_machine start b)
  shaped = record {
    parts = parts;
    start = had.first;
    rows = λ n p h. had.rows n p (let l : n < length parts = slice_get_within parts n p h in omega arith) h;
    fit = had.fit;
  }

  pub shaped_reads : Same (Reads (as_machine start b)) (Reads m)
  shaped_reads = same_readings m (as_machine start b) shaped

  pub shaped_first : ReadsFirst (as_machine start b)
  unfolding shaped
  shaped_first = reads_first m (as_machine start b) shaped had.count
