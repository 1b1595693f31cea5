-- A field says a weight where it is a decimal.
use Rattle.std.proofs.Common.{◌≡◌, ◌∙◌, refl, sym, ap, subst, arith, ℕ, ◌+◌, ◌<◌, ◌≤◌, ◌^◌, List, [], ◌∷◌, ◌++◌, Bool, true, false, length, Option, Some, None}
use Rattle.std.specs.Prelude.{◌==◌, ◌&&◌, nat_lt, nat_le, IfSome, IfNone}
use Rattle.std.specs.List.{AllByRecursion}
use Rattle.std.proofs.lemmas.Bool.{and_parts, eqb-true, leb-true}
use Rattle.text_forms.specs.Bytes.{Run, is_digit}
use Rattle.text_forms.specs.Numbers.{weight_of, Places, no_point, point, Decimal, decimal}
use Rattle.text_forms.proofs.Chains.{nothing_after}
use Rattle.text_forms.proofs.Runs.{run_once}
use Rattle.string_files.specs.Fields.{digits_of, after_digits, are_digits, weight_said, weight_with, weight_field, limited}

-- The digits at the front are a run

digits_by : (b : ℕ) (a : List ℕ) (t : Bool) → is_digit b ≡ t → Run is_digit a (digits_of a) (after_digits a) → Run is_digit (b ∷ a) (digits_of (b ∷ a)) (after_digits (b ∷ a))
digits_by b a true e r = rw e (record { split = ap (λ v. b ∷ v) r.split; all = (e, r.all); ends = r.ends })
digits_by b a false e r = rw e (record { split = refl; all = tt; ends = e })

digits_run : (a : List ℕ) → Run is_digit a (digits_of a) (after_digits a)
digits_run [] = record { split = refl; all = tt; ends = tt }
digits_run (b ∷ a) = digits_by b a (is_digit b) refl (digits_run a)

all_digits : (x : List ℕ) → AllByRecursion (λ b. is_digit b ≡ true) x → are_digits x ≡ true
all_digits [] h = refl
all_digits (b ∷ x) h = rw (h.0, all_digits x h.1) refl

digits_all : (x : List ℕ) → are_digits x ≡ true → AllByRecursion (λ b. is_digit b ≡ true) x
digits_all [] h = tt
digits_all (b ∷ x) h = let p = and_parts (is_digit b) (are_digits x) h in (p.0, digits_all x p.1)

-- A decimal says its weight

said_some : (digits places : List ℕ) → 0 < length digits + length places → weight_said digits places ≡ Some (weight_of digits places)
said_some [] [] h = absurd (omega (arith, h))
said_some [] (p ∷ places) h = refl
said_some (d ∷ digits) places h = refl

pointed : (digits places : List ℕ) (b : ℕ) → b ≡ 46 → length places ≤ 4 → are_digits places ≡ true → weight_with digits (b ∷ places) ≡ weight_said digits places
pointed digits places b e l h = let few : nat_le (length places) 4 ≡ true = grind (arith, l) in rw (e, few, h) refl

placed : (digits : List ℕ) {rest places : List ℕ} → Places rest places → 0 < length digits + length places → weight_with digits rest ≡ Some (weight_of digits places)
placed digits no_point h = said_some digits [] h
placed digits (point {b} {a} {places} e r l) h =
    let same : a ≡ places = r.split ∙ nothing_after places in
    ap (λ v. weight_with digits (b ∷ v)) same ∙ pointed digits places b e l (all_digits places r.all) ∙ said_some digits places h

says : {a : List ℕ} {w : ℕ} → Decimal a w → weight_with (digits_of a) (after_digits a) ≡ Some w
says {a} (decimal {rest} {digits} {places} r p l) =
    let o = run_once is_digit a digits rest (digits_of a) (after_digits a) r (digits_run a) in
    ap (λ v. weight_with v (after_digits a)) o.0 ∙ ap (weight_with digits) o.1 ∙ placed digits p l

-- What says a weight is a decimal

pair_is : (a digits rest places : List ℕ) (w : ℕ) → Run is_digit a digits rest → Places rest places → weight_said digits places ≡ Some w → Decimal a w
pair_is a [] rest [] w r p h = absurd (let no : None ≡ Some w = h in cc)
pair_is a [] rest (q ∷ places) w r p h = let same : weight_of [] (q ∷ places) ≡ w = cc in subst (Decimal a) same (decimal r p (omega arith))
pair_is a (d ∷ digits) rest places w r p h = let same : weight_of (d ∷ digits) places ≡ w = cc in subst (Decimal a) same (decimal r p (omega arith))

point_is : (a digits places : List ℕ) (b w : ℕ) (t : Bool) → (b == 46 && nat_le (length places) 4 && are_digits places) ≡ t → Run is_digit a digits (b ∷ places) → weight_with digits (b ∷ places) ≡ Some w → Decimal a w
point_is a digits places b w true e r h =
    let p = and_parts (b == 46 && nat_le (length places) 4) (are_digits places) e in
    let q = and_parts (b == 46) (nat_le (length places) 4) p.0 in
    let run : Run is_digit places places [] = record { split = sym (nothing_after places); all = digits_all places p.1; ends = tt } in
    pair_is a digits (b ∷ places) places w r (point (eqb-true b 46 q.0) run (leb-true (length places) 4 q.1)) (sym (rw e refl) ∙ h)
point_is a digits places b w false e r h = absurd (let no : None ≡ Some w = sym (rw e refl) ∙ h in cc)

is_said : (a digits rest : List ℕ) (w : ℕ) → Run is_digit a digits rest → weight_with digits rest ≡ Some w → Decimal a w
is_said a digits [] w r h = pair_is a digits [] [] w r no_point h
is_said a digits (b ∷ places) w r h = point_is a digits places b w (b == 46 && nat_le (length places) 4 && are_digits places) refl r h

limit_low : (w : ℕ) → w < 2 ^ 32 → limited (Some w) ≡ Some w
limit_low w h = let low : nat_lt w 4294967296 ≡ true = grind (arith, h) in rw low refl

limit_high : (w : ℕ) → 2 ^ 32 ≤ w → limited (Some w) ≡ None
limit_high w h = let high : nat_lt w 4294967296 ≡ false = grind (arith, h) in rw high refl

none_said : (a : List ℕ) (o : Option ℕ) → ((w : ℕ) → Decimal a w → 2 ^ 32 ≤ w) → weight_with (digits_of a) (after_digits a) ≡ o → limited o ≡ None
none_said a None n h = refl
none_said a (Some w) n h = limit_high w (n w (is_said a (digits_of a) (after_digits a) w (digits_run a) h))

pub weight_is : (a : List ℕ) (o : Option ℕ) → IfSome o (λ w. Decimal a w) → IfSome o (λ w. w < 2 ^ 32) → IfNone o ((w : ℕ) → Decimal a w → 2 ^ 32 ≤ w) → o ≡ weight_field a
weight_is a (Some w) d l n = sym (ap limited (says d) ∙ limit_low w l)
weight_is a None d l n = sym (none_said a (weight_with (digits_of a) (after_digits a)) n refl)
