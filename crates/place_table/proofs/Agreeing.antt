-- A right code that agrees with all words read.
use Rattle.std.proofs.Common.{◌≡◌, ℕ, zero, suc, ◌+◌, ◌<◌, ◌≤◌, List, [], ◌∷◌, ◌++◌, length, get_or, take, drop, sym, refl, ap, ◌∙◌, subst, arith}
use Rattle.std.proofs.lemmas.List.{ext_get_or, take-take, length-drop, length-take-le, take-append-drop, get_or-drop, get_or-take}
use mathlib.Core.Option.{some}
use lib.ListN.{get_elem?}
use Rattle.place_words.specs.Places.{Agrees}
use Rattle.place_words.specs.declared.view.Read.{Read}
use Rattle.place_table.specs.Entries.{seen_from}
use Rattle.place_table.specs.Looks.{Tells, key_in}
use Rattle.place_table.proofs.Runs.{one, seen_append}

seen_at : (i : ℕ) (xs : List ℕ) (k : ℕ) → k < length xs → get_elem? (seen_from i xs) k ≡ some (one (i + k) (get_or xs k 0))
seen_at i [] k lt = absurd (omega arith)
seen_at i (x ∷ xs) zero lt = ap (λ (z : ℕ). some (one z x)) (let e : i ≡ i + 0 = omega arith in e)
seen_at i (x ∷ xs) (suc k) lt = seen_at (i + 1) xs k (omega arith) ∙ ap (λ (z : ℕ). some (one z (get_or xs k 0))) (let e : i + 1 + k ≡ i + suc k = omega arith in e)

pub agreed_at : (xs code : List ℕ) (k : ℕ) → Agrees (seen_from 0 xs) code → k < length xs → k < length code → get_or code k 0 ≡ get_or xs k 0
agreed_at xs code k h lt lc = h k (one k (get_or xs k 0)) (seen_at 0 xs k lt ∙ ap (λ (z : ℕ). some (one z (get_or xs k 0))) (let e : 0 + k ≡ k = omega arith in e)) lc

pub agreed : (xs code : List ℕ) → Agrees (seen_from 0 xs) code → length code ≡ length xs → code ≡ xs
agreed xs code h len = ext_get_or 0 code xs len (λ k lt. agreed_at xs code k h (omega arith) lt)

pub seen_joined : (n : ℕ) (xs : List ℕ) → 7 ≤ n → n ≤ length xs → seen_from 0 (take 7 xs) ++ seen_from 7 (drop 7 (take n xs)) ≡ seen_from 0 (take n xs)
seen_joined n xs low high =
    let seven : take 7 (take n xs) ≡ take 7 xs = take-take 7 n xs low in
    let long : 0 + length (take 7 (take n xs)) ≡ 7 = omega (arith, length-take-le 7 (take n xs) (let e = length-take-le n xs high in omega arith)) in
    (λ i. seen_from 0 (sym seven i) ++ seen_from (sym long i) (drop 7 (take n xs)))
    ∙ sym (seen_append 0 (take 7 (take n xs)) (drop 7 (take n xs))) ∙ ap (seen_from 0) (take-append-drop 7 (take n xs))

at_longer : (rs ss : List Read) (k : ℕ) (r : Read) → get_elem? rs k ≡ some r → get_elem? (rs ++ ss) k ≡ some r
at_longer [] ss k r e = absurd (cc)
at_longer (x ∷ rs) ss zero r e = e
at_longer (x ∷ rs) ss (suc k) r e = at_longer rs ss k r e

at_last : (rs : List Read) (r : Read) → get_elem? (rs ++ r ∷ []) (length rs) ≡ some r
at_last [] r = refl
at_last (x ∷ rs) r = at_last rs r

at_place : (rs : List Read) (k : ℕ) (d : Read) → k < length rs → get_elem? rs k ≡ some (get_or rs k d)
at_place [] k d lt = absurd (omega arith)
at_place (x ∷ rs) zero d lt = refl
at_place (x ∷ rs) (suc k) d lt = at_place rs k d (omega arith)

-- a code that has all words that were read has those that were read first, and the last one
pub agrees_before : (rs ss : List Read) (code : List ℕ) → Agrees (rs ++ ss) code → Agrees rs code
agrees_before rs ss code h k r at = h k r (at_longer rs ss k r at)

pub agreed_last : (rs : List Read) (i w : ℕ) (code : List ℕ) → Agrees (rs ++ one i w ∷ []) code → i < length code → get_or code i 0 ≡ w
agreed_last rs i w code h lt = h (length rs) (one i w) (at_last rs (one i w)) lt

-- where the words that were read tell a key, each code that has them has the key
pub key_seen : (rs : List Read) (key code : List ℕ) → Tells rs key → Agrees rs code → 7 ≤ length code → key_in code ≡ key
key_seen rs key code told h long = ext_get_or 0 (key_in code) key (let a = length-drop 1 code in let b = length-take-le 6 (drop 1 code) (omega arith) in b ∙ sym told.0)
    (λ k lt. let six : k < 6 = (let a = length-drop 1 code in let b = length-take-le 6 (drop 1 code) (omega arith) in omega arith) in
    let t = told.1 k six in
    let d : Read = one (k + 1) (get_or key k 0) in
    let there = at_place rs t.0 d t.1 ∙ ap some t.2 in
    get_or-take 6 (drop 1 code) k 0 six ∙ get_or-drop 1 code k 0 ∙ ap (λ (z : ℕ). get_or code z 0) (let e : 1 + k ≡ k + 1 = omega arith in e) ∙ h t.0 d there (omega arith))

module _ {T : Type 0} (right : T → List ℕ → Type 0) (sized : (t : T) (code : List ℕ) → right t code → (9 ≤ length code) × (length code ≤ 2048) × (get_or code 0 0 ≡ length code)) where
  -- the first word that was read is the length of the code
  pub first_told : (tag : T) (xs : List ℕ) → 0 < length xs → (code : List ℕ) → right tag code → Agrees (seen_from 0 xs) code → (9 ≤ get_or xs 0 0) × (get_or xs 0 0 ≤ 2048) × (length code ≡ get_or xs 0 0)
  first_told tag xs some_word code is agrees = let law = sized tag code is in let at = agreed_at xs code 0 agrees some_word (omega (arith, law.0)) in
      (omega (arith, law.0, law.2), omega (arith, law.1, law.2), sym law.2 ∙ at)

  -- where as many words were read, they are the code
  pub all_told : (tag : T) (n : ℕ) (xs : List ℕ) → 0 < n → n ≤ length xs → get_or xs 0 0 ≡ n → (code : List ℕ) → right tag code → Agrees (seen_from 0 (take n xs)) code → right tag (take n xs)
  all_told tag n xs low high first code is agrees =
      let len : length (take n xs) ≡ n = length-take-le n xs high in
      let t = first_told tag (take n xs) (omega arith) code is agrees in
      subst (right tag) (agreed (take n xs) code agrees (t.2 ∙ get_or-take n xs 0 0 low ∙ first ∙ sym len)) is
