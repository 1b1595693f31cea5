-- Texts of whole lines, and how many lines and line feeds a text has.
use Rattle.std.proofs.Common.{◌≡◌, ◌==◌, ◌<◌, ◌≤◌, ℕ, zero, suc, ◌+◌, List, [], ◌∷◌, ◌++◌, Bool, true, false, ◌&&◌, length, refl, sym, ap, ◌∙◌, append_assoc, append-nil, inl, inr, length-append, arith, if◌then◌else◌}
use Rattle.std.proofs.lemmas.Bool.{cases_lt}
use Rattle.text_lines.proofs.Cut.{HasNoLineFeed, lines-first}
use Rattle.text_lines.specs.Lines.{begins_with_line_feed, lines, onto, without_return}
use Rattle.speak_core.specs.Given.{first_lines}
use Rattle.speak_core.specs.Intakes.{AreWhole, line_feeds}
use Rattle.speak_core.specs.Parts.{Cuts}

pub feeds_append : (a b : List ℕ) → line_feeds (a ++ b) ≡ line_feeds a + line_feeds b
feeds_append [] b = omega arith
feeds_append (c ∷ a) b = go (c == 10) (feeds_append a b)
  where
    go : (t : Bool) → line_feeds (a ++ b) ≡ line_feeds a + line_feeds b → (if t then 1 + line_feeds (a ++ b) else line_feeds (a ++ b)) ≡ (if t then 1 + line_feeds a else line_feeds a) + line_feeds b
    go true e = omega (arith, e)
    go false e = e

pub feeds_few : (text : List ℕ) → line_feeds text ≤ length text
feeds_few [] = omega arith
feeds_few (c ∷ text) = go (c == 10) (feeds_few text)
  where
    go : (t : Bool) → line_feeds text ≤ length text → (if t then 1 + line_feeds text else line_feeds text) ≤ suc (length text)
    go true e = omega (arith, e)
    go false e = omega (arith, e)

no_feeds : (line : List ℕ) → line_feeds line ≡ 0 → HasNoLineFeed line
no_feeds [] none = tt
no_feeds (b ∷ line) none = go (b == 10) (no_feeds line) none
  where
    go : (t : Bool) → (line_feeds line ≡ 0 → HasNoLineFeed line) → (if t then 1 + line_feeds line else line_feeds line) ≡ 0 → (t ≡ false) × HasNoLineFeed line
    go true f h = absurd (omega (arith, h))
    go false f h = (refl, f h)

pub feeds_none : (line : List ℕ) → HasNoLineFeed line → line_feeds line ≡ 0
feeds_none [] h = refl
feeds_none (b ∷ line) h = ap (λ (t : Bool). if t then 1 + line_feeds line else line_feeds line) h.0 ∙ feeds_none line h.1

onto_few : (b n : ℕ) (ls : List (List ℕ)) → length ls ≤ n + 1 → length (onto b ls) ≤ n + 1
onto_few b n [] h = omega arith
onto_few b n (l ∷ ls) h = h

-- at most one line has no end
pub lines_few : (text : List ℕ) → length (lines text) ≤ line_feeds text + 1
lines_few [] = omega arith
lines_few (b ∷ text) = go (b == 10) (begins_with_line_feed text && b == 13) (lines_few text)
  where
    go : (t r : Bool) → length (lines text) ≤ line_feeds text + 1 → length (if t then [] ∷ lines text else (if r then lines text else onto b (lines text))) ≤ (if t then 1 + line_feeds text else line_feeds text) + 1
    go true r e = omega (arith, e)
    go false true e = e
    go false false e = onto_few b (line_feeds text) (lines text) e

-- a text of fewer line feeds lies within so many lines, whatever follows it
pub feeds_within : (n : ℕ) (text more : List ℕ) → line_feeds text < n → length text ≤ length (first_lines n (text ++ more))
feeds_within zero text more few = absurd (omega (arith, few))
feeds_within (suc n) [] more few = omega arith
feeds_within (suc n) (b ∷ text) more few = go (b == 10) (feeds_within n text more) (feeds_within (suc n) text more) few
  where
    go : (t : Bool) → (line_feeds text < n → length text ≤ length (first_lines n (text ++ more))) → (line_feeds text < suc n → length text ≤ length (first_lines (suc n) (text ++ more)))
        → (if t then 1 + line_feeds text else line_feeds text) < suc n → suc (length text) ≤ suc (length (if t then first_lines n (text ++ more) else first_lines (suc n) (text ++ more)))
    go true less same h = let e = less (omega (arith, h)) in omega (arith, e)
    go false less same h = let e = same h in omega (arith, e)

-- more lines have no fewer bytes
pub lines_grow : (n m : ℕ) (text : List ℕ) → n ≤ m → length (first_lines n text) ≤ length (first_lines m text)
lines_grow n m [] l = omega arith
lines_grow zero m (b ∷ text) l = omega arith
lines_grow (suc n) zero (b ∷ text) l = absurd (omega (arith, l))
lines_grow (suc n) (suc m) (b ∷ text) l = go (b == 10) (lines_grow n m text (omega (arith, l))) (lines_grow (suc n) (suc m) text l)
  where
    go : (t : Bool) → length (first_lines n text) ≤ length (first_lines m text) → length (first_lines (suc n) text) ≤ length (first_lines (suc m) text) → suc (length (if t then first_lines n text else first_lines (suc n) text)) ≤ suc (length (if t then first_lines m text else first_lines (suc m) text))
    go true less same = omega (arith, less)
    go false less same = omega (arith, same)

pub whole_none : AreWhole 0 []
whole_none = record { parts = λ more. refl; number = refl; ends = refl }

pub whole_append : (n m : ℕ) (a b : List ℕ) → AreWhole n a → AreWhole m b → AreWhole (n + m) (a ++ b)
whole_append n m a b p q = record {
  parts = λ more. ap lines (append_assoc a b more) ∙ (p.parts (b ++ more) ∙ (ap (λ l. lines a ++ l) (q.parts more) ∙ (sym (append_assoc (lines a) (lines b) (lines more)) ∙ ap (λ l. l ++ lines more) (sym (p.parts b)))));
  number = (let e = ap length (p.parts b) ∙ length-append (lines a) (lines b) in let c = p.number in let d = q.number in omega (arith, e, c, d));
  ends = (let e = feeds_append a b in let c = p.ends in let d = q.ends in omega (arith, e, c, d));
}

-- a line and its end
pub whole_line : (line : List ℕ) → line_feeds line ≡ 0 → AreWhole 1 (line ++ 10 ∷ [])
whole_line line none =
    let one : lines (line ++ 10 ∷ []) ≡ without_return line ∷ [] = lines-first line [] (no_feeds line none) in
    record {
      parts = λ more. ap lines (append_assoc line (10 ∷ []) more) ∙ (lines-first line more (no_feeds line none) ∙ ap (λ l. l ++ lines more) (sym one));
      number = ap length one;
      ends = feeds_append line (10 ∷ []) ∙ (omega (arith, none));
    }

none_in : {X : Type 0} (l : List X) → length l ≤ 0 → l ≡ []
none_in [] h = refl
none_in (x ∷ l) h = absurd (omega (arith, h))

-- a batch that is cut off a text of no more lines takes all of them
pub cut_all : (text rest : List ℕ) (cut : List (List ℕ)) → Cuts 1024 text cut rest → length (lines text) ≤ 1024 → lines text ≡ cut
cut_all text rest cut c few = elim (cases_lt (length cut) 1024) [
  | inl less ↦ c.parts ∙ (ap (λ r. cut ++ lines r) (c.full less) ∙ append-nil cut)
  | inr all ↦ c.parts ∙ (ap (λ l. cut ++ l) (none_in (lines rest) (let e = ap length c.parts ∙ length-append cut (lines rest) in omega (arith, e, few, all))) ∙ append-nil cut)
]

pub cut_none : (text rest : List ℕ) (cut : List (List ℕ)) → Cuts 1024 text cut rest → length cut ≡ 0 → lines text ≡ []
cut_none text rest cut c none =
    let empty : cut ≡ [] = none_in cut (omega (arith, none)) in
    c.parts ∙ (ap (λ l. l ++ lines rest) empty ∙ ap lines (c.full (omega (arith, none))))
