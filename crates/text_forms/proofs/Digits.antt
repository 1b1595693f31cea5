-- Values of digits.
use Rattle.std.proofs.Common.{◌≡◌, ◌∙◌, sym, ap, subst, refl, arith, ℕ, zero, suc, Bool, true, false, nat_eq, ◌+◌, ◌-◌, ◌*◌, ◌^◌, ◌<◌, ◌≤◌, List, [], ◌∷◌, length, drop, get_or, Option, Some, None}
use Rattle.std.specs.Prelude.{IfSome, IfNone}
use Rattle.std.proofs.Math.Nat.{le-mul_of_pos_right, pow-suc}
use Rattle.std.proofs.Math.Seq.{drop-cons}
use Rattle.std.proofs.lemmas.List.{drop_all}
use Rattle.text_forms.specs.Bytes.{Run, is_of}
use Rattle.text_forms.specs.declared.bytes.ByteKind.TheVariants.{Digit}
use Rattle.text_forms.specs.Numbers.{digit_value, value_from, value, weight_of, Places, no_point, point, Decimal, decimal}
use Rattle.text_forms.proofs.Lists.{is_empty}
use Rattle.text_forms.proofs.Runs.{run_once}

pub value_grows : (base n : ℕ) (bs : List ℕ) → 1 ≤ base → n ≤ value_from base n bs
value_grows base n [] h = omega arith
value_grows base n (b ∷ bs) h =
    let g = value_grows base (n * base + digit_value b) bs h in
    let k : n ≤ n * base = le-mul_of_pos_right n h in omega (arith, g, k)

-- past the limit in the midst of the digits
pub value_past : (base v i m total : ℕ) (ds : List ℕ) (limit : ℕ) → 1 ≤ base → i < length ds → limit ≤ v * base + m → m ≡ digit_value (get_or ds i 0) → value_from base v (drop i ds) ≡ total → limit ≤ total
value_past base v i m total ds limit h l k e s =
    let g = value_grows base (v * base + digit_value (get_or ds i 0)) (drop (suc i) ds) h in
    let t : value_from base (v * base + digit_value (get_or ds i 0)) (drop (suc i) ds) ≡ total = sym (ap (value_from base v) (drop-cons ds i 0 l)) ∙ s in
    omega (arith, g, t, k, e)

pow_some : (k : ℕ) → 1 ≤ 10 ^ k
pow_some zero = omega arith
pow_some (suc k) = let h = pow_some k in omega (arith, h, pow-suc 10 k)

weight_high : (read k : ℕ) → read ≤ read * 10 ^ k
weight_high read k = le-mul_of_pos_right read (pow_some k)

-- what is too much before the places are counted is too much
pub weight_wide : (digits places : List ℕ) → 2 ^ 32 ≤ value_from 10 (value 10 digits) places → 2 ^ 32 ≤ weight_of digits places
weight_wide digits places h = let g = weight_high (value_from 10 (value 10 digits) places) (4 - length places) in omega (arith, g, h)

pub whole_wide : (digits places : List ℕ) → 2 ^ 32 ≤ value 10 digits → 2 ^ 32 ≤ weight_of digits places
whole_wide digits places h = let g = value_grows 10 (value 10 digits) places (omega arith) in weight_wide digits places (omega (arith, g, h))

pub read_wide : (digits places : List ℕ) (whole : ℕ) → whole ≡ value 10 digits → 2 ^ 32 ≤ value_from 10 whole places → 2 ^ 32 ≤ weight_of digits places
read_wide digits places whole e h = weight_wide digits places (subst (λ v. 2 ^ 32 ≤ value_from 10 v places) e h)

pub places_none : (a : List ℕ) → nat_eq (length a) 0 ≡ true → Places a a
places_none a h = subst (λ v. Places v v) (sym (is_empty a h)) no_point

pub places_some : (a after digits rest : List ℕ) → a ≡ 46 ∷ after → Run (is_of Digit) after digits rest → nat_eq (length rest) 0 ≡ true → length digits ≤ 4 → Places a digits
places_some a after digits rest e r h l = subst (λ v. Places v digits) (sym e) (point refl (subst (λ v. Run (is_of Digit) after digits v) (is_empty rest h) r) l)

-- what the places behind a point are
pub places_of : {a y : List ℕ} (after digits rest : List ℕ) → a ≡ 46 ∷ after → Run (is_of Digit) after digits rest → Places a y → (y ≡ digits) × (rest ≡ []) × (length digits ≤ 4)
places_of after digits rest e r no_point = absurd (let f : [] ≡ 46 ∷ after = e in cc)
places_of after digits rest e r (point {b} {a} {places} q s l) =
    let f : a ≡ after = cc in
    let g = run_once (is_of Digit) after digits rest places [] r (subst (λ v. Run (is_of Digit) v places []) f s) in
    (g.0, sym g.1, omega (arith, l, ap length g.0))

places_some_once : {b : ℕ} {a places y : List ℕ} → b ≡ 46 → Run (is_of Digit) a places [] → Places (b ∷ a) y → y ≡ places
places_some_once {b} {a} {places} q s p = (places_of a places [] (ap (λ v. v ∷ a) q) s p).0

places_none_once : {y : List ℕ} → Places [] y → y ≡ []
places_none_once no_point = refl

pub places_once : {a x y : List ℕ} → Places a x → Places a y → y ≡ x
places_once no_point p = places_none_once p
places_once (point q s l) p = places_some_once q s p

-- what the digits of a decimal are
pub decimal_of : {a : List ℕ} {w : ℕ} (digits rest : List ℕ) → Run (is_of Digit) a digits rest → Decimal a w → (places : List ℕ) × Places rest places × (0 < length digits + length places) × (w ≡ weight_of digits places)
decimal_of {a} digits rest r (decimal {rest = rest'} {digits = digits'} {places} s p l) =
    let e = run_once (is_of Digit) a digits rest digits' rest' r s in
    (places, subst (λ v. Places v places) e.1 p, subst (λ v. 0 < length v + length places) e.0 l, ap (λ v. weight_of v places) e.0)

-- a text has one weight
pub decimal_once : {a : List ℕ} {v w : ℕ} → Decimal a v → Decimal a w → w ≡ v
decimal_once (decimal {rest} {digits} {places} s p l) q =
    let d = decimal_of digits rest s q in d.3 ∙ ap (weight_of digits) (places_once p d.1)

pub decimal_found : (a digits rest places : List ℕ) (o : Option ℕ) → Run (is_of Digit) a digits rest → Places rest places → 0 < length digits + length places → IfSome o (λ w. w ≡ weight_of digits places) → IfSome o (λ w. Decimal a w)
decimal_found a digits rest places None r p h e = tt
decimal_found a digits rest places (Some w) r p h e = subst (λ v. Decimal a v) (sym e) (decimal r p h)

pub decimal_wide : (a digits rest places : List ℕ) (o : Option ℕ) → Run (is_of Digit) a digits rest → Places rest places → IfNone o (2 ^ 32 ≤ weight_of digits places) → IfNone o ((w : ℕ) → Decimal a w → 2 ^ 32 ≤ w)
decimal_wide a digits rest places (Some w) r p h = tt
decimal_wide a digits rest places None r p h = λ w d.
    let e = decimal_of digits rest r d in
    subst (λ v. 2 ^ 32 ≤ v) (sym (e.3 ∙ ap (weight_of digits) (places_once p e.1))) h
