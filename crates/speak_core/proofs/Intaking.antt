-- What was read of an input, as more of it is read and looked at.
use Rattle.std.proofs.Common.{inl, inr, nat_lt, ◌≡◌, ◌<◌, ◌≤◌, ◌^◌, ℕ, ◌+◌, ◌*◌, List, [], ◌∷◌, ◌++◌, None, Some, false, Option, Vec, Global, length, take, drop, get_or, refl, sym, ap, ◌∙◌, subst, append_assoc, append-nil, length-append, add-one, drop-cons, take-append-drop, length-take-le, arith}
use Rattle.std.proofs.KnownBytes.{Consumes-trans}
use Rattle.std.proofs.Math.Seq.{drop-append_seam, take-append_seam, take-length}
use Rattle.std.proofs.lemmas.Bool.{cases_lt, eqb-true, ltb-false}
use Rattle.std.specs.Io.KnownBytes.{Consumes, Keeps}
use Rattle.memchr.specs.Find.{IsFirstByte, is_byte}
use Rattle.text_lines.proofs.Cut.{no-feed-before}
use Rattle.speak_core.specs.Given.{first_lines}
use Rattle.speak_core.specs.Inputs.{GaveTooMuch, IfGaveTooMuch}
use Rattle.speak_core.specs.Intakes.{AreWhole, GaveOnly, GaveWithin, Holds, IsIntake, line_feeds}
use Rattle.speak_core.specs.declared.intakes.Intake.{Intake}
use Rattle.speak_core.proofs.Whole.{feeds_append, feeds_none, feeds_within, lines_grow, whole_append, whole_line, whole_none}

-- nothing was looked at
pub intake_anew : (i : Intake) → i.lines ≡ 0 → i.end ≡ 0 → i.seen ≡ 0 → i.given ≤ 2 ^ 28 → length i.bytes.items ≤ i.given → IsIntake i
intake_anew i none end seen within kept = record {
  front = [];
  line = [];
  rest = i.bytes.items;
  parts = refl;
  whole = subst (λ n. AreWhole n []) (sym none) whole_none;
  end = end;
  seen = seen;
  none = refl;
  few = omega (arith, none);
  within = within;
  kept = kept;
}

-- where a text has a line feed
feed_parts : (text : List ℕ) (at : ℕ) → at < length text → get_or text at 0 ≡ 10 → take at text ++ 10 ∷ drop (at + 1) text ≡ text
feed_parts text at inside here =
    subst (λ (b : ℕ). take at text ++ b ∷ drop (at + 1) text ≡ text) here (rw (add-one, ← drop-cons text at 0 inside) (take-append-drop at text))

module _ (i : Intake) (is : IsIntake i) where
  -- what wasn't looked at
  pub unseen : drop i.seen i.bytes.items ≡ is.rest
  unseen =
      let both = length-append is.front is.line in
      let at : i.seen ≡ length (is.front ++ is.line) = let s = is.seen in omega (arith, s, both) in
      ap (λ n. drop n i.bytes.items) at ∙ (ap (drop (length (is.front ++ is.line))) (is.parts ∙ sym (append_assoc is.front is.line is.rest)) ∙ drop-append_seam (is.front ++ is.line) is.rest)

  pub seen_inside : i.seen ≤ length i.bytes.items
  seen_inside = let e = ap length is.parts ∙ length-append is.front (is.line ++ is.rest) in let f = length-append is.line is.rest in let s = is.seen in omega (arith, e, f, s)

  -- one line more was found
  pub found_line : (j : Intake) (at : ℕ) (found : Option ℕ) (hay : List ℕ) → hay ≡ drop i.seen i.bytes.items → IsFirstByte (is_byte 10) hay found → found ≡ Some at → i.lines < 1024
      → j.bytes ≡ i.bytes → j.given ≡ i.given → j.end ≡ i.seen + at + 1 → j.seen ≡ i.seen + at + 1 → j.lines ≡ i.lines + 1 → IsIntake j
  found_line j at found hay there first some few bytes given end seen lines =
      let here = subst (λ f. IsFirstByte (is_byte 10) is.rest f) some (subst (λ h. IsFirstByte (is_byte 10) h found) (there ∙ unseen) first) in
      let cut = take at is.rest in
      let after = drop (at + 1) is.rest in
      let parts = feed_parts is.rest at here.0.high (eqb-true _ _ here.1) in
      let none : line_feeds (is.line ++ cut) ≡ 0 = let a = feeds_append is.line cut in let b = is.none in let c = feeds_none cut (no-feed-before is.rest at (λ k below. here.0.before k (omega arith) below)) in omega (arith, a, b, c) in
      let line = (is.line ++ cut) ++ 10 ∷ [] in
      let front = length-append is.front line in
      let sizes = length-append (is.line ++ cut) (10 ∷ []) in
      let sizes' = length-append is.line cut in
      let size = length-take-le at is.rest (let h : at < length is.rest = here.0.high in omega (arith, h)) in
      let s = is.seen in
      record {
        front = is.front ++ line;
        line = [];
        rest = after;
        parts = ap (λ (v : Vec ℕ Global). v.items) bytes ∙ (is.parts ∙ (ap (λ t. is.front ++ t) (ap (λ t. is.line ++ t) (sym parts) ∙ (sym (append_assoc is.line cut (10 ∷ after)) ∙ sym (append_assoc (is.line ++ cut) (10 ∷ []) after))) ∙ sym (append_assoc is.front line after)));
        whole = subst (λ n. AreWhole n (is.front ++ line)) (sym lines) (whole_append i.lines 1 is.front line is.whole (whole_line (is.line ++ cut) none));
        end = omega (arith, end, front, sizes, sizes', size, s);
        seen = omega (arith, seen, front, sizes, sizes', size, s);
        none = refl;
        few = omega (arith, lines, few);
        within = (let w = is.within in omega (arith, w, given));
        kept = subst (λ (v : Vec ℕ Global). length v.items ≤ j.given) (sym bytes) (let k = is.kept in omega (arith, k, given));
      }

  -- there is no line more
  pub no_line : (j : Intake) (found : Option ℕ) (hay : List ℕ) → hay ≡ drop i.seen i.bytes.items → IsFirstByte (is_byte 10) hay found → found ≡ None
      → j.bytes ≡ i.bytes → j.given ≡ i.given → j.end ≡ i.end → j.seen ≡ length i.bytes.items → j.lines ≡ i.lines → IsIntake j × (line_feeds j.bytes.items ≡ j.lines)
  no_line j found hay there first none bytes given end seen lines =
      let here = subst (λ f. IsFirstByte (is_byte 10) is.rest f) none (subst (λ h. IsFirstByte (is_byte 10) h found) (there ∙ unseen) first) in
      let no_more : line_feeds is.rest ≡ 0 = subst (λ t. line_feeds t ≡ 0) (take-length is.rest) (feeds_none (take (length is.rest) is.rest) (no-feed-before is.rest (length is.rest) (λ k below. here k (omega arith) below))) in
      let tail : line_feeds (is.line ++ is.rest) ≡ 0 = let a = feeds_append is.line is.rest in let b = is.none in omega (arith, a, b, no_more) in
      let same : j.bytes.items ≡ is.front ++ (is.line ++ is.rest) = ap (λ (v : Vec ℕ Global). v.items) bytes ∙ is.parts in
      let s = ap length is.parts ∙ length-append is.front (is.line ++ is.rest) in
      let ends = is.whole.ends in
      let all = ap line_feeds same ∙ feeds_append is.front (is.line ++ is.rest) in (
        record {
          front = is.front;
          line = is.line ++ is.rest;
          rest = [];
          parts = same ∙ ap (λ t. is.front ++ t) (sym (append-nil (is.line ++ is.rest)));
          whole = subst (λ n. AreWhole n is.front) (sym lines) is.whole;
          end = end ∙ is.end;
          seen = seen ∙ s;
          none = tail;
          few = (let f = is.few in omega (arith, f, lines));
          within = (let w = is.within in omega (arith, w, given));
          kept = subst (λ (v : Vec ℕ Global). length v.items ≤ j.given) (sym bytes) (let k = is.kept in omega (arith, k, given));
        },
        omega (arith, all, ends, tail, lines),
      )

  -- more bytes came
  pub intake_more : (j : Intake) (more : List ℕ) → j.bytes.items ≡ i.bytes.items ++ more → j.given ≡ i.given + length more → j.given ≤ 2 ^ 28 → j.lines ≡ i.lines → j.end ≡ i.end → j.seen ≡ i.seen → IsIntake j
  intake_more j more bytes given within lines end seen = record {
    front = is.front;
    line = is.line;
    rest = is.rest ++ more;
    parts = bytes ∙ (ap (λ t. t ++ more) is.parts ∙ (append_assoc is.front (is.line ++ is.rest) more ∙ ap (λ t. is.front ++ t) (append_assoc is.line is.rest more)));
    whole = subst (λ n. AreWhole n is.front) (sym lines) is.whole;
    end = end ∙ is.end;
    seen = seen ∙ is.seen;
    none = is.none;
    few = (let f = is.few in omega (arith, f, lines));
    within = within;
    kept = (let k = is.kept in let e = ap length bytes ∙ length-append i.bytes.items more in omega (arith, k, e, given));
  }

  -- the text of its lines
  pub lines_first : (text : List ℕ) → text ≡ take i.end i.bytes.items → AreWhole i.lines text
  lines_first text taken = subst (AreWhole i.lines) (sym (taken ∙ (ap (λ n. take n i.bytes.items) is.end ∙ (ap (take (length is.front)) is.parts ∙ take-append_seam is.front (is.line ++ is.rest))))) is.whole

-- a read that gave nothing
pub none_more : (n : ℕ) → nat_lt 0 n ≡ false → n ≡ 0
none_more n h = let few = ltb-false 0 n h in omega (arith, few)

-- what the source gave

-- a source that gave no more than it may
pub within_limit : (start left : Option (List ℕ)) (bytes : List ℕ) (P : Type 0) → Consumes start left bytes → length bytes ≤ 2 ^ 28 → IfGaveTooMuch start left P
within_limit None left bytes P given few = tt
within_limit (Some had) None bytes P given few = tt
within_limit (Some had) (Some now) bytes P given few = λ more. absurd (let e = ap length given ∙ length-append bytes now in omega (arith, more, e, few))

pub past_limit : (start left left' : Option (List ℕ)) (bytes more : List ℕ) → Consumes start left bytes → Consumes left left' more → 2 ^ 28 < length bytes + length more → GaveTooMuch start left'
past_limit None left left' bytes more given read long = tt
past_limit (Some had) None left' bytes more given read long = absurd given
past_limit (Some had) (Some rest) None bytes more given read long = absurd read
past_limit (Some had) (Some rest) (Some now) bytes more given read long =
    let a = ap length given ∙ length-append bytes rest in
    let b = ap length read ∙ length-append more now in
    omega (arith, a, b, long)

-- a read gave no more than so many bytes
pub gave_read : (left left' : Option (List ℕ)) (more : List ℕ) (n : ℕ) → Consumes left left' more → length more ≤ n → GaveOnly n left left'
gave_read None left' more n read few = tt
gave_read (Some had) None more n read few = absurd read
gave_read (Some had) (Some now) more n read few = let e = ap length read ∙ length-append more now in omega (arith, e, few)

pub gave_none : (left left' : Option (List ℕ)) (n : ℕ) → Keeps left left' → GaveOnly n left left'
gave_none None left' n kept = tt
gave_none (Some had) None n kept = absurd kept
gave_none (Some had) (Some now) n kept = let e = ap length kept in omega (arith, e)

-- fewer lines than so many were there before a read
pub read_within : (start left left' : Option (List ℕ)) (bytes : List ℕ) (n : ℕ) → Consumes start left bytes → line_feeds bytes < n → GaveOnly 65536 left left' → GaveWithin n start left'
read_within None left left' bytes n given few once = tt
read_within (Some input) None left' bytes n given few once = absurd given
read_within (Some input) (Some rest) None bytes n given few once = absurd once
read_within (Some input) (Some rest) (Some now) bytes n given few once =
    let a = ap length given ∙ length-append bytes rest in
    let b = subst (λ t. length bytes ≤ length (first_lines n t)) (sym given) (feeds_within n bytes rest few) in
    omega (arith, a, b, once)

pub within_grow : (start left : Option (List ℕ)) (n m : ℕ) → n ≤ m → GaveWithin n start left → GaveWithin m start left
within_grow None left n m more w = tt
within_grow (Some input) None n m more w = absurd w
within_grow (Some input) (Some now) n m more w = let g = lines_grow n m input more in omega (arith, w, g)

module _ (start left : Option (List ℕ)) (handled : List ℕ) (i : Intake) (h : Holds start left handled i) where
  pub holds_more : (left' : Option (List ℕ)) (j : Intake) (more : List ℕ) → Consumes left left' more → j.bytes.items ≡ i.bytes.items ++ more → j.given ≡ i.given + length more → Holds start left' handled j
  holds_more left' j more read bytes given = record {
    given = subst (Consumes start left') (append_assoc handled i.bytes.items more ∙ ap (λ t. handled ++ t) (sym bytes)) (Consumes-trans start left left' (handled ++ i.bytes.items) more h.given read);
    all = (let a = h.all in let e = ap length bytes ∙ length-append i.bytes.items more in omega (arith, a, e, given));
  }

  -- where lines were found
  pub holds_same : (j : Intake) → j.bytes ≡ i.bytes → j.given ≡ i.given → Holds start left handled j
  holds_same j bytes given = record {
    given = subst (λ (v : Vec ℕ Global). Consumes start left (handled ++ v.items)) (sym bytes) h.given;
    all = subst (λ (v : Vec ℕ Global). length handled + length v.items ≡ j.given) (sym bytes) (h.all ∙ sym given);
  }

  pub holds_limit : IsIntake i → (P : Type 0) → IfGaveTooMuch start left P
  holds_limit is P = within_limit start left (handled ++ i.bytes.items) P h.given (let a = h.all in let b = length-append handled i.bytes.items in let w = is.within in omega (arith, a, b, w))

  -- fewer lines than a batch has were there before a read
  pub holds_within : (left' : Option (List ℕ)) (batches n : ℕ) → line_feeds handled ≡ 1024 * batches → (n < 1024 → line_feeds i.bytes.items ≡ n) → n ≤ 1024 → (n ≡ 1024 → ⊥) → GaveOnly 65536 left left' → GaveWithin (1024 * (batches + 1)) start left'
  holds_within left' batches n whole all most other once =
      let few : n < 1024 = elim (cases_lt n 1024) [ inl l ↦ l | inr l ↦ absurd (other (omega (arith, l, most))) ] in
      let feeds = all few in
      read_within start left left' (handled ++ i.bytes.items) (1024 * (batches + 1)) h.given (let a = feeds_append handled i.bytes.items in omega (arith, a, whole, feeds, few)) once

-- nor by a read more
pub within_more : (start left left' : Option (List ℕ)) (handled : List ℕ) (i : Intake) → Holds start left handled i → (more : List ℕ) → Consumes left left' more → i.given + length more ≤ 2 ^ 28 → (P : Type 0) → IfGaveTooMuch start left' P
within_more start left left' handled i h more read few P =
    within_limit start left' ((handled ++ i.bytes.items) ++ more) P (Consumes-trans start left left' (handled ++ i.bytes.items) more h.given read)
    (let a = h.all in let b = length-append (handled ++ i.bytes.items) more in let c = length-append handled i.bytes.items in omega (arith, a, b, c, few))
