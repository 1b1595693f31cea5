-- Chains of parts that write a text, and the texts of ways.
use Rattle.std.specs.Prelude.{◌≡◌, ◌<◌, ◌≤◌, ℕ, List, [], ◌∷◌, ◌++◌, Some, length, slice_get}
use Rattle.std.proofs.Common.{refl, sym, ◌∙◌, ap, subst, inl, inr, arith, append-nil}
use Rattle.std.proofs.lemmas.Option.{slice_get_within}
use Rattle.weighted_relations.specs.Graphs.{label}
use Rattle.weighted_relations.specs.Machines.{Machine}
use Rattle.state_table.specs.Numbers.{Distinct, Keeps, Numbers}
use Rattle.state_table.proofs.Numbering.{keeps_more, numbers_keeps, numbers_only}
use Rattle.reading_first.specs.declared.parts.Part.{Part}
use Rattle.reading_first.specs.declared.parts.Part.TheVariants.{At, Writes, Ended}
use Rattle.reading_first.specs.declared.expands.Way.{Way}
use Rattle.reading_first.specs.Shapes.{Before, PartFits, Fit}
use Rattle.reading_first.specs.Expanding.{TextOf, nothing, more, Written}
use Rattle.reading_first.proofs.Readings.{regroup, label_some}

pub before_kept : (old new : List Part) → Keeps old new → (n : ℕ) (t : List ℕ) (p : Part) → Before old n t p → Before new n t p
before_kept old new keeps n [] p b = keeps.kept n p b
before_kept old new keeps n (l ∷ t) p b = (b.0, keeps.kept n (Writes l b.0) b.1, before_kept old new keeps b.0 t p b.2)

pub before_within : (parts : List Part) (n : ℕ) (t : List ℕ) (p : Part) → Before parts n t p → n < length parts
before_within parts n [] p b = slice_get_within parts n p b
before_within parts n (l ∷ t) p b = slice_get_within parts n (Writes l b.0) b.1

part_fits_more : (m : Machine) (n n' : ℕ) (p : Part) → n ≤ n' → PartFits m n p → PartFits m n' p
part_fits_more m n n' (At q) l h = h
part_fits_more m n n' (Writes c k) l h = (h.0, h.1, let i : k < n = h.2 in omega arith)
part_fits_more m n n' Ended l h = tt

pub fit_added : (m : Machine) (old new : List Part) (part : Part) (n : ℕ) → Fit m old → Distinct new → Numbers old new part n → PartFits m (length new) part → Fit m new
fit_added m old new part n fit distinct add f i p h = elim (numbers_only add distinct i p h) [
  | inl k ↦ part_fits_more m (length old) (length new) p (keeps_more (numbers_keeps add)) (fit i p k)
  | inr k ↦ subst (PartFits m (length new)) (sym k.0) f
]

-- a label before a text
pub put_before : (old new : List Part) (first next k : ℕ) → 0 < first → Numbers old new (Writes first next) k → (t : List ℕ) (p : Part) → Before old next t p → Before new k (label first t) p
put_before old new first next k some add t p b =
    subst (λ u. Before new k u p) (sym (label_some first t some)) (next, add.stored, before_kept old new (numbers_keeps add) next t p b)

-- the text of the way before one
pub record ShorterText (ways : List Way) (w : Way) (u : List ℕ) : Type 0 where
  pub text : List ℕ
  pub told : TextOf ways w.before text
  pub is : u ≡ text ++ label w.written []

pub shorter : (ways : List Way) {k : ℕ} {u : List ℕ} → TextOf ways k u → (w : Way) → 0 < k → slice_get ways k ≡ Some w → ShorterText ways w u
shorter ways nothing w l h = absurd (omega (arith, l))
shorter ways (more {k} {u} {w = v} l e told) w some h =
    let same : v ≡ w = (let f : Some v ≡ Some w = sym e ∙ h in cc) in
    record { text = u; told = subst (λ (x : Way). TextOf ways x.before u) same told; is = ap (λ (x : Way). u ++ label x.written []) same }

pub first_text : (ways : List Way) {k : ℕ} {u : List ℕ} → TextOf ways k u → k ≡ 0 → u ≡ []
first_text ways nothing e = refl
first_text ways (more {k} l h told) e = absurd (omega (arith, l, e))

-- what is left of a text: that of a way, a label, and then what is written from a part on
pub record Left (ways : List Way) (parts : List Part) (at first next : ℕ) (text : List ℕ) (p : Part) : Type 0 where
  pub front : List ℕ
  pub told : TextOf ways at front
  pub rest : List ℕ
  pub is : front ++ label first rest ≡ text
  pub leads : Before parts next rest p

pub left_first : (ways : List Way) (parts : List Part) (from last next : ℕ) (p : Part) (u : List ℕ) → slice_get parts next ≡ Some p → TextOf ways from u → Left ways parts from last next (u ++ label last []) p
left_first ways parts from last next p u h told = record { front = u; told = told; rest = []; is = refl; leads = h }

pub left_same : (ways : List Way) (parts : List Part) (at first next : ℕ) (text : List ℕ) (p : Part) (w : Way) → 0 < at → slice_get ways at ≡ Some w → w.written ≡ 0 → Left ways parts at first next text p → Left ways parts w.before first next text p
left_same ways parts at first next text p w some h none left =
    let s = shorter ways left.told w some h in
    let e : left.front ≡ s.text = s.is ∙ ap (λ o. s.text ++ label o []) none ∙ append-nil s.text in
    record { front = s.text; told = s.told; rest = left.rest; is = ap (λ f. f ++ label first left.rest) (sym e) ∙ left.is; leads = left.leads }

pub left_more : (ways : List Way) (old new : List Part) (at first next k : ℕ) (text : List ℕ) (p : Part) (w : Way) → 0 < at → slice_get ways at ≡ Some w → ((t : List ℕ) (p : Part) → Before old next t p → Before new k (label first t) p) → Left ways old at first next text p → Left ways new w.before w.written k text p
left_more ways old new at first next k text p w some h put left =
    let s = shorter ways left.told w some h in
    record {
      front = s.text;
      told = s.told;
      rest = label first left.rest;
      is = sym (regroup s.text (label first left.rest) w.written) ∙ ap (λ f. f ++ label first left.rest) (sym s.is) ∙ left.is;
      leads = put left.rest p left.leads;
    }

pub left_last : (ways : List Way) (parts : List Part) (at first next : ℕ) (text : List ℕ) (p : Part) → at ≡ 0 → Left ways parts at first next text p → Written parts first next text p
left_last ways parts at first next text p none left = record {
  rest = left.rest;
  is = ap (λ f. f ++ label first left.rest) (sym (first_text ways left.told none)) ∙ left.is;
  leads = left.leads;
}
