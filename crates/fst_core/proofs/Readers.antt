-- The arcs that read a label stand together where the arcs are in the order of their inputs.
use Rattle.std.specs.Prelude.{◌≡◌, ◌↔◌, IsTrue, ◌==◌, ℕ, suc, ◌+◌, ◌-◌, ◌<◌, ◌≤◌, Bool, true, false, List, [], ◌∷◌, ◌++◌, length, get_or, take, drop}
use Rattle.std.specs.List.{filter, IsAllAdjacentAnswer}
use Rattle.std.specs.List.Sorted.{IsPartitionPoint, IsNonDecreasingBy}
use Rattle.std.proofs.Common.{refl, sym, ◌∙◌, ap, arith, ltb, leb}
use Rattle.std.proofs.lemmas.Bool.{eq-eqb, ne_eqb, ltb-true, ltb-false, leb-true, leb-false}
use Rattle.std.proofs.lemmas.List.{take-append-drop, get_or-take, get_or-drop, append-nil, length-take-le, length-drop}
use Rattle.std.proofs.Math.Seq.{take-length}
use Rattle.std.proofs.lemmas.List.Elements.{filter-append}
use Rattle.std.proofs.lemmas.List.Sorted.{IsNonDecreasingBy-from_all_adjacent, all_adjacent_from_non_decreasing}
use Rattle.weighted_relations.specs.declared.Arc.{Arc}

module _ {X : Type 0} (p : X → Bool) where
  pub all_pass : (xs : List X) → ((k : ℕ) (d : X) → k < length xs → p (get_or xs k d) ≡ true) → filter p xs ≡ xs
  all_pass [] h = refl
  all_pass (x ∷ xs) h =
      let here : p x ≡ true = h 0 x (omega arith) in
      rw (here, all_pass xs (λ k d l. h (suc k) d (omega arith))) refl

  pub none_pass : (xs : List X) → ((k : ℕ) (d : X) → k < length xs → p (get_or xs k d) ≡ false) → filter p xs ≡ []
  none_pass [] h = refl
  none_pass (x ∷ xs) h =
      let here : p x ≡ false = h 0 x (omega arith) in
      rw (here, none_pass xs (λ k d l. h (suc k) d (omega arith))) refl

-- each arc's input is no greater than the next one's
pub sorted_is : (row : List Arc) (r : Bool) → IsAllAdjacentAnswer (λ a b t. t ≡ leb a.input b.input) row r → IsTrue r ↔ IsNonDecreasingBy (λ y. y.input) row
sorted_is row true h = (λ e. IsNonDecreasingBy-from_all_adjacent (λ y. y.input) row (λ k d l. leb-true (get_or row k d).input (get_or row (k + 1) d).input (sym (h k d l))), λ s. refl)
sorted_is row false h = (
  λ e. absurd (cc),
  λ s.
      let d : Arc = record { input = 0; output = 0; weight = 0; next = 0 } in
      let low : (get_or row h.0 d).input ≤ (get_or row (h.0 + 1) d).input = all_adjacent_from_non_decreasing (λ (y : Arc). y.input) row s h.0 d h.1 in
      let high : (get_or row (h.0 + 1) d).input < (get_or row h.0 d).input = leb-false (get_or row h.0 d).input (get_or row (h.0 + 1) d).input (sym (h.2 d)) in
      absurd (omega arith),
)

-- the part between the arcs that read less and those that read more
pub part_is : (label : ℕ) (row : List Arc) (i j : ℕ) → i ≤ length row → j ≤ length (drop i row) → IsPartitionPoint (λ y. ltb y.input label ≡ true) (λ y. ltb y.input label ≡ false) row i → IsPartitionPoint (λ y. leb y.input label ≡ true) (λ y. leb y.input label ≡ false) (drop i row) j → take j (drop i row) ≡ filter (λ y. y.input == label) row
part_is label row i j li lj low high =
    let p : Arc → Bool = λ y. y.input == label in
    let first = take i row in
    let rest = drop i row in
    let part = take j rest in
    let last = drop j rest in
    let before : filter p first ≡ [] = none_pass p first (λ k d l.
    let m : k < i = (let n : length first ≡ i = length-take-le i row li in omega arith) in
    let at : get_or first k d ≡ get_or row k d = get_or-take i row k d m in
    let t : (get_or row k d).input < label = ltb-true (get_or row k d).input label (low.0 k d (omega arith) m) in
    ap p at ∙ ne_eqb (get_or row k d).input label (λ e. omega (arith, t, e))) in
    let within : filter p part ≡ part = all_pass p part (λ k d l.
    let m : k < j = (let n : length part ≡ j = length-take-le j rest lj in omega arith) in
    let at : get_or part k d ≡ get_or rest k d = get_or-take j rest k d m in
    let up : (get_or rest k d).input ≤ label = leb-true (get_or rest k d).input label (high.0 k d (omega arith) m) in
    let in_row : get_or rest k d ≡ get_or row (i + k) d = get_or-drop i row k d in
    let n : i + k < length row = (let q : length rest ≡ length row - i = length-drop i row in omega arith) in
    let down : label ≤ (get_or row (i + k) d).input = ltb-false (get_or row (i + k) d).input label (low.1 (i + k) d (omega arith) n) in
    let is : (get_or rest k d).input ≡ label = (let z : (get_or rest k d).input ≡ (get_or row (i + k) d).input = ap (λ (y : Arc). y.input) in_row in omega arith) in
    ap p at ∙ eq-eqb (get_or rest k d).input label is) in
    let after : filter p last ≡ [] = none_pass p last (λ k d l.
    let at : get_or last k d ≡ get_or rest (j + k) d = get_or-drop j rest k d in
    let n : j + k < length rest = (let q : length last ≡ length rest - j = length-drop j rest in omega arith) in
    let down : label < (get_or rest (j + k) d).input = leb-false (get_or rest (j + k) d).input label (high.1 (j + k) d (omega arith) n) in
    ap p at ∙ ne_eqb (get_or rest (j + k) d).input label (λ e. omega (arith, down, e))) in
    let whole : filter p (first ++ (part ++ last)) ≡ part =
    filter-append p first (part ++ last)
    ∙ (ap (λ t. t ++ filter p (part ++ last)) before
    ∙ (filter-append p part last
    ∙ (ap (λ t. t ++ filter p last) within
    ∙ (ap (λ t. part ++ t) after
    ∙ append-nil part)))) in
    let split : first ++ (part ++ last) ≡ row = ap (λ t. first ++ t) (take-append-drop j rest) ∙ take-append-drop i row in
    sym whole ∙ ap (filter p) split

pub rest_is : (row : List Arc) (i : ℕ) → take (length row - i) (drop i row) ≡ drop i row
rest_is row i = ap (λ n. take n (drop i row)) (sym (length-drop i row)) ∙ take-length (drop i row)
