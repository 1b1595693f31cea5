-- A shaped transducer reads before it writes.
use Rattle.std.specs.Prelude.{◌≡◌, ◌⊎◌, ◌<◌, ◌≤◌, ℕ, List, [], ◌∷◌, Some, None, length, get_or, slice_get}
use Rattle.std.proofs.Common.{refl, sym, ◌∙◌, ap, subst, inl, inr, arith}
use Rattle.std.proofs.lemmas.Bool.{cases_lt}
use Rattle.std.proofs.lemmas.Option.{slice_get-get_or}
use Rattle.weighted_relations.specs.declared.Arc.{Arc}
use Rattle.weighted_relations.specs.Machines.{Machine, IsArc, final_of}
use Rattle.fst_core.specs.declared.search.Follow.TheVariants.{Every}
use Rattle.fst_core.specs.Reach.{Leads, here, on}
use Rattle.fst_core.proofs.Fits.{no_arc}
use Rattle.reading_first.specs.declared.parts.Part.{Part}
use Rattle.reading_first.specs.declared.parts.Part.TheVariants.{At, Writes, Ended}
use Rattle.reading_first.specs.Ways.{Move, reads, ends}
use Rattle.reading_first.specs.Shapes.{Before, RowOf, IsShaped, writing}
use Rattle.reading_first.specs.ReadsFirst.{IsAlone, IsMute, ReadsFirst}
use Rattle.reading_first.proofs.Readings.{only_one, contains_at}

-- what reads, leads to a state
move_to : (m : Machine) (q : ℕ) {i : ℕ} {t : List ℕ} {v : ℕ} {p : Part} → Move m q i t v p → i ≡ 0 → p ≡ Ended
move_to m q (reads k ks way h some) z = absurd (some z)
move_to m q (ends k ks way h) z = refl

module _ (m r : Machine) (is : IsShaped m r) where
  -- behind a text before an end there is what is left of it
  left : {n s : ℕ} → Leads r Every n s → (t : List ℕ) → Before is.parts n t Ended → (u : List ℕ) × Before is.parts s u Ended
  left here t b = (t, b)
  left (on {t = n} k a way h f) t b = step (left way t b).0 (left way t b).1
    where
      step : (u : List ℕ) → Before is.parts n u Ended → (u : List ℕ) × Before is.parts a.next u Ended
      step [] b = absurd (let e : None ≡ Some a = sym (ap (λ row. slice_get row k) (is.rows n Ended b).0) ∙ h in cc)
      step (l ∷ u) b =
          let e : a ≡ writing l b.0 = only_one (get_or r.arcs n []) (writing l b.0) a k (is.rows n (Writes l b.0) b.1).0 h in
          (u, subst (λ (c : Arc). Before is.parts c.next u Ended) (sym e) b.2)

  mute : (n : ℕ) (t : List ℕ) → Before is.parts n t Ended → IsMute r n
  mute n t b s k a way h = by (left way t b).0 (left way t b).1
    where
      by : (u : List ℕ) → Before is.parts s u Ended → a.input ≡ 0
      by [] b = absurd (let e : None ≡ Some a = sym (ap (λ row. slice_get row k) (is.rows s Ended b).0) ∙ h in cc)
      by (l ∷ u) b = ap (λ (c : Arc). c.input) (only_one (get_or r.arcs s []) (writing l b.0) a k (is.rows s (Writes l b.0) b.1).0 h)

  of_part : (s k : ℕ) (a : Arc) (p : Part) → slice_get is.parts s ≡ Some p → RowOf m is.parts p (get_or r.arcs s []) (final_of r.finals s) → IsArc r.arcs s k a → a.input ≡ 0 → IsAlone r s a ⊎ IsMute r a.next
  of_part s k a (At q) at row h z = elim row [
    | inl st ↦ inl (st.alone ∙ ap (λ c. c ∷ []) (sym (only_one (get_or r.arcs s []) st.arc a k st.alone h)), st.end)
    | inr mv ↦
        let g = mv.sound a (contains_at (get_or r.arcs s []) k a h) in
        let e = move_to m q g.move (sym g.says.reads ∙ z) in
        inr (mute a.next g.says.rest (subst (Before is.parts a.next g.says.rest) e g.says.leads))
  ]
  of_part s k a (Writes l n) at row h z = inl (row.0 ∙ ap (λ c. c ∷ []) (sym (only_one (get_or r.arcs s []) (writing l n) a k row.0 h)), row.1)
  of_part s k a Ended at row h z = absurd (let e : None ≡ Some a = sym (ap (λ rs. slice_get rs k) row.0) ∙ h in cc)

  pub reads_first : length r.arcs ≤ length is.parts → ReadsFirst r
  reads_first count s k a h z = elim (cases_lt s (length r.arcs)) [
    | inl low ↦
        let p : Part = get_or is.parts s Ended in
        let there : slice_get is.parts s ≡ Some p = slice_get-get_or is.parts s Ended (let l : s < length is.parts = omega arith in l) in
        of_part s k a p there (is.rows s p there) h z
    | inr high ↦ absurd (no_arc r.arcs s k a high h)
  ]
