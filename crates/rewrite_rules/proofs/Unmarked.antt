-- Where no arc has a mark, no reading has one.
use Rattle.std.proofs.Common.{◌≡◌, ◌≤◌, ◌<◌, ◌+◌, ℕ, zero, suc, List, length, Some, [], get_or, arith, sym, inl, inr, ap, ◌∙◌}
use Rattle.std.specs.Prelude.{All, slice_get}
use Rattle.std.proofs.lemmas.Bool.{cases_lt}
use Rattle.std.proofs.lemmas.List.Elements.{All-nil, All-cons, All-contains}
use Rattle.weighted_relations.specs.declared.Arc.{Arc}
use Rattle.weighted_relations.specs.Relations.{IsByte, IsUnmarked}
use Rattle.weighted_relations.specs.Graphs.{stop, step, label}
use Rattle.weighted_relations.specs.Machines.{Machine, Path, IsArc, Reads}
use Rattle.fst_core.proofs.Fits.{no_arc}
use Rattle.rewrite_rules.proofs.Drawing.{got_contains}

-- no mark on the arcs of the first n states
abbrev pub NoMarks : Machine → ℕ → Type 0
NoMarks m n = (s k : ℕ) (a : Arc) → s < n → IsArc m.arcs s k a → (a.input ≤ 255) × (a.output ≤ 255)

labelled : (n : ℕ) (x : List ℕ) → n ≤ 255 → All IsByte x → All IsByte (label n x)
labelled zero x l h = h
labelled (suc n) x l h = All-cons IsByte (suc n) x (omega arith, l) h

along : (m : Machine) → ((s k : ℕ) (a : Arc) → IsArc m.arcs s k a → (a.input ≤ 255) × (a.output ≤ 255)) → {s : ℕ} {ks x y : List ℕ} {w : ℕ} → Path m s ks x y w → All IsByte x × All IsByte y
along m h (stop e) = (All-nil IsByte, All-nil IsByte)
along m h (step {s} {k} {ks} {a} {x} {y} arc path) =
    let r = along m h path in
    let b = h s k a arc in
    (labelled a.input x b.0 r.0, labelled a.output y b.1 r.1)

pub no_marks_none : (m : Machine) → NoMarks m 0
no_marks_none m s k a l e = absurd (omega (arith, l))

pub no_marks_more : (m : Machine) (n : ℕ) (row : List Arc) → row ≡ get_or m.arcs n [] → NoMarks m n → All (λ (a : Arc). (a.input ≤ 255) × (a.output ≤ 255)) row → NoMarks m (n + 1)
no_marks_more m n row is h all s k a l e = elim (cases_lt s n) [
  | inl f ↦ h s k a f e
  | inr f ↦
      let same : s ≡ n = omega arith in
      let at : slice_get row k ≡ Some a = ap (λ r. slice_get r k) is ∙ ap (λ j. slice_get (get_or m.arcs j []) k) (sym same) ∙ e in
      All-contains (λ (a : Arc). (a.input ≤ 255) × (a.output ≤ 255)) row a all (got_contains row k a at)
]

pub unmarked : (m : Machine) (n : ℕ) → length m.arcs ≤ n → NoMarks m n → IsUnmarked (Reads m)
unmarked m n l h x y w (ks, path) = along m (λ s k a e. elim (cases_lt s n) [
  | inl f ↦ h s k a f e
  | inr f ↦ absurd (no_arc m.arcs s k a (omega arith) e)
]) path
