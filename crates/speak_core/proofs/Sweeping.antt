-- How many places a sweep comes by.
use Rattle.std.proofs.Common.{◌≡◌, ◌≤◌, ◌<◌, ℕ, zero, suc, ◌+◌, ◌*◌, ◌/◌, ◌^◌, List, [], ◌∷◌, ◌++◌, cond, Bool, true, false, length, nat_eq, refl, sym, ap, ◌∙◌, arith}
use Rattle.std.proofs.Math.Nat.{mul-le-mul}
use Rattle.place_words.specs.declared.layout.TheConstants.{STATE}
use Rattle.place_words.specs.declared.view.Entry.{Entry}
use Rattle.place_words.specs.declared.view.Entry.TheVariants.{Knock, Leave, Read, TakeEmpty, TakeShown, Write, Show, Empty}
use Rattle.shared_cascade.specs.Sweeps.{AreRounds, SweptBy, done_in, empties, nothing_swept, was_in}
use Rattle.shared_cascade.specs.declared.callers.Caller.{Caller}
use Rattle.shared_cascade.specs.declared.shared.Shared.{Shared}
use Rattle.shared_cascade.specs.declared.sweeping.Swept.{Swept}
use Rattle.speak_words.specs.Asked.{AreInBounds}
use Rattle.speak_words.specs.declared.asked.Settings.{Settings}
use Rattle.speak_core.specs.Crews.{HasSwept, SweptOn}
use Rattle.speak_core.specs.Reports.{batches_of, swept_sum}

abbrev found_in : List Entry → ℕ
found_in es = done_in es + was_in es

found_append : (a b : List Entry) → found_in (a ++ b) ≡ found_in a + found_in b
found_append [] b = omega arith
found_append (Empty p w ∷ a) b = let e = found_append a b in omega arith
found_append (Knock p w ∷ a) b = found_append a b
found_append (Leave p w hit ∷ a) b = found_append a b
found_append (Read p i w ∷ a) b = found_append a b
found_append (TakeEmpty p w ∷ a) b = found_append a b
found_append (TakeShown p w ∷ a) b = found_append a b
found_append (Write p i w ∷ a) b = found_append a b
found_append (Show p w ∷ a) b = found_append a b

one_found : (w : ℕ) → cond (nat_eq w STATE) 1 0 + cond (nat_eq w STATE) 0 1 ≡ 1
one_found w = go (nat_eq w STATE)
  where
    go : (b : Bool) → cond b 1 0 + cond b 0 1 ≡ 1
    go true = refl
    go false = refl

round_found : (p : ℕ) (ws : List ℕ) → found_in (empties p ws) ≡ length ws
round_found p [] = refl
round_found p (w ∷ ws) = let one = one_found w in let rest = round_found (p + 1) ws in omega (arith, one, rest)

rounds_found : (n k : ℕ) (es : List Entry) → AreRounds n k es → found_in es ≡ n * k
rounds_found n zero es is = ap found_in is ∙ (let e : 0 ≡ n * 0 = omega arith in e)
rounds_found n (suc k) es (a, b, first, last, is) =
    let front = rounds_found n k a first in
    let back = ap found_in last.2 ∙ round_found 0 last.0 ∙ last.1 in
    let both = ap found_in is ∙ found_append a b in
    let more : n * suc k ≡ n * k + n = omega arith in
    omega (arith, front, back, both, more)

-- a sweep of so many rounds
pub sweep_found : (s : Shared) (c d : Caller) (n k : ℕ) (es : List Entry) (w : Swept) → AreRounds n k es → SweptBy s c d es nothing_swept w → swept_sum w ≡ n * k
sweep_found s c d n k es w rounds by = let all = rounds_found n k es rounds in let done = by.done in let was = by.was in omega (arith, all, done, was)

-- What was swept beside so many lines, of which so many bytes or lines are left: a batch that isn't the last has 1,024.
pub record SweptSoFar (s : Settings) (count left : ℕ) (w : Swept) : Type 0 where
  pub batches : ℕ
  pub found : swept_sum w ≡ s.places * s.sweep * batches
  pub whole : 0 < left → count ≡ 1024 * batches
  pub last : left ≡ 0 → batches ≡ batches_of count
  pub few : batches ≤ count

pub swept_none : (s : Settings) (left : ℕ) (w : Swept) → swept_sum w ≡ 0 → SweptSoFar s 0 left w
swept_none s left w none = record {
  batches = 0;
  found = none ∙ (let e : 0 ≡ s.places * s.sweep * 0 = omega arith in e);
  whole = λ more. omega arith;
  last = λ end. refl;
  few = omega arith;
}

module _ (s : Settings) (count left : ℕ) (w : Swept) (so_far : SweptSoFar s count left w) (more : 0 < left) where
  -- one batch more
  pub swept_more : (size left' : ℕ) (w' : Swept) → 0 < size → size ≤ 1024 → (0 < left' → size ≡ 1024) → SweptOn s w w' → SweptSoFar s (count + size) left' w'
  swept_more size left' w' some few full on =
      let b = so_far.batches in
      let now = so_far.whole more in
      let beside = s.places * s.sweep in
      let next : beside * (b + 1) ≡ beside * b + beside = omega arith in
      record {
        batches = b + 1;
        found = on ∙ ap (λ n. n + beside) so_far.found ∙ sym next;
        whole = λ rest. let k = full rest in omega (arith, now, k);
        last = λ end. let e : b + 1 ≡ (count + size + 1023) / 1024 = omega (arith, now, some, few) in e;
        few = let f = so_far.few in omega (arith, f, some);
      }

  -- there is room to count the next
  pub swept_room : AreInBounds s → count ≤ 2 ^ 28 → swept_sum w + s.places * s.sweep < 2 ^ 64
  swept_room bounds small =
      let b = so_far.batches in
      let beside : s.places * s.sweep ≤ 4096 * 10000 = mul-le-mul bounds.places.1 bounds.sweep in
      let few : b ≤ 2 ^ 28 = let f = so_far.few in omega (arith, f, small) in
      let all : s.places * s.sweep * b ≤ 4096 * 10000 * 2 ^ 28 = mul-le-mul beside few in
      let found = so_far.found in
      omega (arith, beside, all, found)

-- at the end all is counted
pub swept_all : (s : Settings) (count left : ℕ) (w : Swept) → SweptSoFar s count left w → left ≡ 0 → HasSwept s count w
swept_all s count left w so_far end = so_far.found ∙ ap (λ n. s.places * s.sweep * n) (so_far.last end)
