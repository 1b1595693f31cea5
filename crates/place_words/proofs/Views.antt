-- The counts and the ranges of many views.
use Rattle.std.proofs.Common.{◌≡◌, ℕ, zero, suc, ◌+◌, ◌-◌, ◌<◌, ◌≤◌, List, [], ◌∷◌, ◌++◌, length, set, sym, refl, ap, arith}
use mathlib.Core.Option.{some, some-injective, some-ne-none}
use lib.ListN.{get_elem?}
use Rattle.place_words.specs.declared.view.View.{View}
use Rattle.place_words.specs.Modes.{counted_at, readers, widths}
use Rattle.place_words.proofs.Modes.{counted_once}

module _ {T : Type 0} where
  pub there : (vs : List (View T)) (id : ℕ) (v : View T) → get_elem? vs id ≡ some v → id < length vs
  there [] id v at = absurd (some-ne-none v (sym at))
  there (x ∷ xs) zero v at = omega arith
  there (x ∷ xs) (suc id) v at = let r = there xs id v at in omega arith

  pub readers_set : (p : ℕ) (l : List (View T)) (i : ℕ) (v w : View T) → get_elem? l i ≡ some v → readers p (set l i w) + counted_at p v.mode ≡ readers p l + counted_at p w.mode
  readers_set p [] i v w e = absurd (some-ne-none v (sym e))
  readers_set p (x ∷ xs) zero v w e = let is : counted_at p x.mode ≡ counted_at p v.mode = ap (λ (u : View T). counted_at p u.mode) (some-injective x v e) in omega arith
  readers_set p (x ∷ xs) (suc i) v w e = let r = readers_set p xs i v w e in omega arith

  pub readers_at : (p : ℕ) (l : List (View T)) (i : ℕ) (v : View T) → get_elem? l i ≡ some v → counted_at p v.mode ≤ readers p l
  readers_at p [] i v e = absurd (some-ne-none v (sym e))
  readers_at p (x ∷ xs) zero v e = let is : counted_at p x.mode ≡ counted_at p v.mode = ap (λ (u : View T). counted_at p u.mode) (some-injective x v e) in omega arith
  readers_at p (x ∷ xs) (suc i) v e = let r = readers_at p xs i v e in omega arith

  pub widths_set : (l : List (View T)) (i : ℕ) (v w : View T) → get_elem? l i ≡ some v → v.from ≡ w.from → v.to ≡ w.to → widths (set l i w) ≡ widths l
  widths_set [] i v w e a b = absurd (some-ne-none v (sym e))
  widths_set (x ∷ xs) zero v w e a b = let f : x.from ≡ v.from = ap (λ (u : View T). u.from) (some-injective x v e) in let t : x.to ≡ v.to = ap (λ (u : View T). u.to) (some-injective x v e) in
      let same : x.to - x.from ≡ w.to - w.from = omega arith in omega arith
  widths_set (x ∷ xs) (suc i) v w e a b = let r = widths_set xs i v w e a b in omega arith

  pub readers_few : (p : ℕ) (l : List (View T)) → ((j : ℕ) (v : View T) → get_elem? l j ≡ some v → v.from < v.to) → readers p l ≤ widths l
  readers_few p [] h = omega arith
  readers_few p (x ∷ xs) h = let r = readers_few p xs (λ j v e. h (suc j) v e) in let one = counted_once p x.mode in let some_width = h 0 x refl in omega arith

  pub no_readers : (p : ℕ) (vs : List (View T)) → ((j : ℕ) (u : View T) → get_elem? vs j ≡ some u → counted_at p u.mode ≡ 0) → readers p vs ≡ 0
  no_readers p [] h = refl
  no_readers p (x ∷ xs) h = let a = h 0 x refl in let b = no_readers p xs (λ j u e. h (suc j) u e) in omega arith

  pub readers_snoc : (p : ℕ) (l : List (View T)) (w : View T) → readers p (l ++ w ∷ []) ≡ readers p l + counted_at p w.mode
  readers_snoc p [] w = omega arith
  readers_snoc p (x ∷ xs) w = let r = readers_snoc p xs w in omega arith

  pub widths_snoc : (l : List (View T)) (w : View T) → widths (l ++ w ∷ []) ≡ widths l + (w.to - w.from)
  widths_snoc [] w = omega arith
  widths_snoc (x ∷ xs) w = let r = widths_snoc xs w in let a : ℕ = w.to - w.from in let b : ℕ = x.to - x.from in let r' : widths (xs ++ w ∷ []) ≡ widths xs + a = r in omega arith

  pub widths_put : (l : List (View T)) (i : ℕ) (v w : View T) → get_elem? l i ≡ some v → widths (set l i w) + (v.to - v.from) ≡ widths l + (w.to - w.from)
  widths_put [] i v w e = absurd (some-ne-none v (sym e))
  widths_put (x ∷ xs) zero v w e = let is : x.to - x.from ≡ v.to - v.from = ap (λ (u : View T). u.to - u.from) (some-injective x v e) in
      let a : ℕ = x.to - x.from in let b : ℕ = v.to - v.from in let c : ℕ = w.to - w.from in let is' : a ≡ b = is in omega (arith, is')
  widths_put (x ∷ xs) (suc i) v w e = let r = widths_put xs i v w e in let a : ℕ = x.to - x.from in let b : ℕ = v.to - v.from in let c : ℕ = w.to - w.from in
      let r' : widths (set xs i w) + b ≡ widths xs + c = r in omega (arith, r')
