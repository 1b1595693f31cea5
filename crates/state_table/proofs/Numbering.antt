-- What follows where keys were numbered.
use Rattle.std.specs.Prelude.{◌≡◌, ◌⊎◌, ◌<◌, ◌≤◌, ◌+◌, ℕ, zero, suc, List, [], ◌∷◌, ◌++◌, Some, length, get_or, slice_get}
use Rattle.std.proofs.Common.{refl, sym, ◌∙◌, ap, subst, inl, inr, arith}
use Rattle.std.proofs.lemmas.Bool.{cases_lt}
use Rattle.std.proofs.lemmas.List.{length_push, get_or_push, get_or_append_left}
use Rattle.std.proofs.lemmas.Option.{slice_get-get_or, slice_get_within, get_or_from_slice_get}
use Rattle.state_table.specs.Numbers.{Distinct, Keeps, Numbers}

-- one more at the end
module _ {K : Type 0} (keys : List K) (key : K) where
  pushed_kept : (i : ℕ) (k : K) → slice_get keys i ≡ Some k → slice_get (keys ++ key ∷ []) i ≡ Some k
  pushed_kept i k h =
      let l = slice_get_within keys i k h in
      slice_get-get_or (keys ++ key ∷ []) i k (let p : length (keys ++ key ∷ []) ≡ length keys + 1 = length_push keys key in omega arith)
      ∙ ap Some (get_or_append_left keys (key ∷ []) k i l ∙ get_or_from_slice_get keys i k k h)

  pub keeps_push : Keeps keys (keys ++ key ∷ [])
  keeps_push = record { kept = pushed_kept }

  pushed_last : slice_get (keys ++ key ∷ []) (length keys) ≡ Some key
  pushed_last = slice_get-get_or (keys ++ key ∷ []) (length keys) key (let p : length (keys ++ key ∷ []) ≡ length keys + 1 = length_push keys key in omega arith) ∙ ap Some (get_or_push keys key key (length keys) refl)

  pub pushed_cases : (i : ℕ) (k : K) → slice_get (keys ++ key ∷ []) i ≡ Some k → (slice_get keys i ≡ Some k) ⊎ ((k ≡ key) × (i ≡ length keys))
  pushed_cases i k e =
      elim (cases_lt i (length keys)) [
        | inl l ↦ inl (slice_get-get_or keys i k l ∙ ap Some (sym (get_or_append_left keys (key ∷ []) k i l) ∙ get_or_from_slice_get (keys ++ key ∷ []) i k k e))
        | inr l ↦
            let w = slice_get_within (keys ++ key ∷ []) i k e in
            let n : i ≡ length keys = (let p : length (keys ++ key ∷ []) ≡ length keys + 1 = length_push keys key in omega arith) in
            inr (sym (get_or_from_slice_get (keys ++ key ∷ []) i k k e) ∙ get_or_push keys key k i (sym n), n)
      ]

module _ {K : Type 0} where
  pub keeps_refl : (keys : List K) → Keeps keys keys
  keeps_refl keys = record { kept = λ i k h. h }

  pub keeps_trans : {a b c : List K} → Keeps a b → Keeps b c → Keeps a c
  keeps_trans f g = record { kept = λ i k h. g.kept i k (f.kept i k h) }

  -- by the keys at places that are in range
  pub kept_within : {old new : List K} → Keeps old new → (i : ℕ) → i < length old → i < length new
  kept_within {old = []} f i l = absurd (omega (arith, l))
  kept_within {old = x ∷ old} {new} f i l = slice_get_within new i (get_or (x ∷ old) i x) (f.kept i (get_or (x ∷ old) i x) (slice_get-get_or (x ∷ old) i x l))

  pub kept_at : {old new : List K} (none : K) → Keeps old new → (i : ℕ) → i < length old → get_or new i none ≡ get_or old i none
  kept_at {old} {new} none f i l = get_or_from_slice_get new i (get_or old i none) none (f.kept i (get_or old i none) (slice_get-get_or old i none l))

  pub keeps_more : {old new : List K} → Keeps old new → length old ≤ length new
  keeps_more {old = []} f = omega arith
  keeps_more {old = x ∷ old} {new} f = let l : length old < length new = kept_within f (length old) (omega arith) in omega arith

  module _ {old new : List K} {key : K} {number : ℕ} (is : Numbers old new key number) where
    pub numbers_keeps : Keeps old new
    numbers_keeps = elim is.added [ inl e ↦ subst (Keeps old) (sym e) (keeps_refl old) | inr e ↦ subst (Keeps old) (sym e) (keeps_push old key) ]

    pub numbers_within : number < length new
    numbers_within = slice_get_within new number key is.stored

    pub stored_at : (none : K) → get_or new number none ≡ key
    stored_at none = get_or_from_slice_get new number key none is.stored

    -- what lies past the old keys is the key
    pub fresh_at : (none : K) → (i : ℕ) → length old ≤ i → i < length new → get_or new i none ≡ key
    fresh_at none i low high = elim is.added [
      | inl e ↦ absurd (let s : length new ≡ length old = ap length e in omega arith)
      | inr e ↦
          let s : length new ≡ length old + 1 = ap length e ∙ length_push old key in
          ap (λ v. get_or v i none) e ∙ get_or_push old key none i (omega arith)
    ]

    -- a key with the next number is new
    pub numbers_next : number ≡ length old → new ≡ old ++ key ∷ []
    numbers_next at = elim is.added [
      | inl e ↦ absurd (let l : number < length new = numbers_within in let s : length new ≡ length old = ap length e in omega arith)
      | inr e ↦ e
    ]

    module _ (distinct : Distinct new) where
      -- each other key had its number
      pub numbers_only : (i : ℕ) (k : K) → slice_get new i ≡ Some k → (slice_get old i ≡ Some k) ⊎ ((k ≡ key) × (i ≡ number))
      numbers_only i k h = elim is.added [
        | inl e ↦ inl (ap (λ v. slice_get v i) (sym e) ∙ h)
        | inr e ↦ elim (pushed_cases old key i k (ap (λ v. slice_get v i) (sym e) ∙ h)) [
          | inl g ↦ inl g
          | inr g ↦ inr (g.0, distinct i number key (h ∙ ap Some g.0) is.stored)
        ]
      ]

      -- where the key had its number, none is new
      pub numbers_known : number < length old → new ≡ old
      numbers_known l = elim is.added [
        | inl e ↦ e
        | inr e ↦ absurd (let n : number ≡ length old = distinct number (length old) key is.stored (ap (λ v. slice_get v (length old)) e ∙ pushed_last old key) in omega arith)
      ]
