-- The arcs among which are all that read a label.
use Rattle.std.specs.Prelude.{◌≡◌, ◌==◌, ◌&&◌, not, ℕ, ◌+◌, Bool, true, false, cond, List, [], ◌∷◌, Option, Some, None, All, Contains}
use Rattle.std.specs.List.{filter, filter_map, cons_option}
use Rattle.std.proofs.Common.{refl, sym, ◌∙◌, ap}
use Rattle.std.proofs.lemmas.Bool.{eqb-false, eq-eqb, ne_eqb}
use Rattle.std.proofs.lemmas.List.Elements.{All-filter, All-contains, All-contains_itself, All-weaker}
use Rattle.weighted_relations.specs.declared.Arc.{Arc}
use Rattle.compose_filter.specs.declared.filters.Filter.{Filter}
use Rattle.compose_filter.specs.declared.filters.Filter.TheVariants.{Open, Closed}
use Rattle.compose_filter.specs.declared.filters.Taken.{Taken}
use Rattle.compose_filter.specs.declared.filters.Taken.TheVariants.{Both, Second}
use Rattle.compose_filter.specs.declared.steps.Step.{Step}
use Rattle.compose_filter.specs.Steps.{both_step, second_step}
use Rattle.compose_filter.specs.Readers.{AreReaders}

abbrev reads : ℕ → Arc → Bool
reads label y = y.input == label

twice : (p : Arc → Bool) (row : List Arc) → filter p (filter p row) ≡ filter p row
twice p [] = refl
twice p (y ∷ row) = by (p y) refl (twice p row)
  where
    by : (b : Bool) → p y ≡ b → filter p (filter p row) ≡ filter p row → filter p (cond b (y ∷ filter p row) (filter p row)) ≡ cond b (y ∷ filter p row) (filter p row)
    by true e more = ap (λ t. cond t (y ∷ filter p (filter p row)) (filter p (filter p row))) e ∙ ap (λ t. y ∷ t) more
    by false e more = more

pub filtered_reads : (label : ℕ) (row part : List Arc) → part ≡ filter (reads label) row → AreReaders label row part
filtered_reads label row part e = rw e (record { same = twice (reads label) row; within = All-filter (reads label) (Contains row) row (All-contains_itself row) })

pub whole_reads : (label : ℕ) (row : List Arc) → AreReaders label row row
whole_reads label row = record { same = refl; within = All-contains_itself row }

pub all_within : (P : Arc → Type 0) (row part : List Arc) → All P row → All (Contains row) part → All P part
all_within P row part h within = All-weaker (Contains row) P (λ y c. All-contains P row y h c) part within

-- what gives nothing off the label
module _ {Y : Type 0} (label : ℕ) (h : Arc → Option Y) (off : (y : Arc) → (y.input ≡ label → ⊥) → h y ≡ None) where
  all_read : (row : List Arc) → filter_map h (filter (reads label) row) ≡ filter_map h row
  all_read [] = refl
  all_read (y ∷ row) = by (reads label y) refl (all_read row)
    where
      by : (b : Bool) → reads label y ≡ b → filter_map h (filter (reads label) row) ≡ filter_map h row → filter_map h (cond b (y ∷ filter (reads label) row) (filter (reads label) row)) ≡ cons_option (h y) (filter_map h row)
      by true e more = ap (cons_option (h y)) more
      by false e more = more ∙ sym (ap (λ o. cons_option o (filter_map h row)) (off y (eqb-false y.input label e)))

pub readers_give : {Y : Type 0} (label : ℕ) (row part : List Arc) → AreReaders label row part → (h : Arc → Option Y) → ((y : Arc) → (y.input ≡ label → ⊥) → h y ≡ None) → filter_map h part ≡ filter_map h row
readers_give label row part r h off = sym (all_read label h off part) ∙ (ap (filter_map h) r.same ∙ all_read label h off row)

and-false : (b : Bool) → (b && false) ≡ false
and-false true = refl
and-false false = refl

-- which arcs of the part give nothing
module _ {X A B Y : Type 0} (step : X → Step A) (pair : A → ℕ → Filter → Taken → B) (made : Step B → Y) where
  abbrev joint_move : X → Arc → Y
  joint_move x y = made (record { input = (step x).input; output = y.output; weight = (step x).weight + y.weight; next = pair (step x).next y.next Open Both })

  -- an arc that doesn't read what is written
  pub both_off : (x : X) (y : Arc) → (y.input ≡ (step x).output → ⊥) → both_step step pair made x y ≡ None
  both_off x y off =
      let e : ((step x).output == y.input) ≡ false = ne_eqb (step x).output y.input (λ h. off (sym h)) in
      ap (λ b. cond (not ((step x).output == 0) && b) (Some (joint_move x y)) None) e ∙ ap (λ b. cond b (Some (joint_move x y)) None) (and-false (not ((step x).output == 0)))

  -- nothing is written
  pub both_none : (x : X) (row : List Arc) → (step x).output ≡ 0 → filter_map (both_step step pair made x) row ≡ []
  both_none x [] e = refl
  both_none x (y ∷ row) e =
      let none : both_step step pair made x y ≡ None = ap (λ b. cond (not b && ((step x).output == y.input)) (Some (joint_move x y)) None) (eq-eqb (step x).output 0 e) in
      ap (λ o. cons_option o (filter_map (both_step step pair made x) row)) none ∙ both_none x row e

  pub second_off : (at : A) (y : Arc) → (y.input ≡ 0 → ⊥) → second_step step pair made at y ≡ None
  second_off at y off = ap (λ b. cond b (Some (made (record { input = 0; output = y.output; weight = y.weight; next = pair at y.next Closed Second }))) None) (ne_eqb y.input 0 off)
