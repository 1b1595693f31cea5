-- Where a text has its first line feed, its first line ends.
use Rattle.std.proofs.Common.{◌≡◌, ◌≢◌, ℕ, zero, suc, Bool, true, None, Some, Option, ◌+◌, ◌-◌, ◌<◌, ◌≤◌, List, [], ◌∷◌, ◌++◌, false, ◌==◌, length, take, drop, get_or, refl, sym, ap, subst, ◌∙◌, add-one, drop-cons, take-append-drop, arith, rules}
use Rattle.std.proofs.lemmas.List.{take_more, take_rest}
use Rattle.std.proofs.Math.Seq.{take-length}
use Rattle.std.proofs.lemmas.Bool.{eqb-true}
use Rattle.memchr.specs.Find.{IsFirstByte, is_byte}
use Rattle.text_lines.specs.Lines.{lines, onto, without_return}

-- no byte is a line feed
abbrev pub HasNoLineFeed : List ℕ → Type 0
HasNoLineFeed [] = Unit {0}
HasNoLineFeed (b ∷ bytes) = ((b == 10) ≡ false) × HasNoLineFeed bytes

pub HasNoLineFeed-push : (bytes : List ℕ) (b : ℕ) → HasNoLineFeed bytes → (b == 10) ≡ false → HasNoLineFeed (bytes ++ b ∷ [])
HasNoLineFeed-push [] b none last = (last, tt)
HasNoLineFeed-push (c ∷ bytes) b none last = (none.0, HasNoLineFeed-push bytes b none.1 last)

lines-onto : (b c : ℕ) (bytes : List ℕ) → (b == 10) ≡ false → (c == 10) ≡ false → lines (b ∷ c ∷ bytes) ≡ onto b (lines (c ∷ bytes))
lines-onto b c bytes p q = grind (arith, p, q)

not_true : (b : Bool) → (b ≡ true → ⊥) → b ≡ false
not_true true other = absurd (other refl)
not_true false other = refl

-- the first line ends at the first line feed
pub lines-first : (line rest : List ℕ) → HasNoLineFeed line → lines (line ++ 10 ∷ rest) ≡ without_return line ∷ lines rest
lines-first [] rest none = refl
lines-first (b ∷ []) rest none = grind (arith, none.0)
lines-first (b ∷ c ∷ bytes) rest none =
    lines-onto b c (bytes ++ 10 ∷ rest) none.0 none.1.0 ∙ ap (onto b) (lines-first (c ∷ bytes) rest none.1)

-- with no line feed there is one line
pub lines-last : (b : ℕ) (bytes : List ℕ) → HasNoLineFeed (b ∷ bytes) → lines (b ∷ bytes) ≡ (b ∷ bytes) ∷ []
lines-last b [] none = grind (arith, none.0)
lines-last b (c ∷ bytes) none = lines-onto b c bytes none.0 none.1.0 ∙ ap (onto b) (lines-last c bytes none.1)

pub without_return-return : (line : List ℕ) → without_return (line ++ 13 ∷ []) ≡ line
without_return-return [] = refl
without_return-return (b ∷ []) = refl
without_return-return (b ∷ c ∷ line) = ap (λ l. b ∷ l) (without_return-return (c ∷ line))

pub without_return-other : (line : List ℕ) (last : ℕ) → (last == 13) ≡ false → without_return (line ++ last ∷ []) ≡ line ++ last ∷ []
without_return-other [] last p = rw p refl
without_return-other (b ∷ []) last p = rw p refl
without_return-other (b ∷ c ∷ line) last p = ap (λ l. b ∷ l) (without_return-other (c ∷ line) last p)

split-last : (xs : List ℕ) → 1 ≤ length xs → take (length xs - 1) xs ++ get_or xs (length xs - 1) 0 ∷ [] ≡ xs
split-last xs some =
    let inside : length xs - 1 < length xs = omega arith in
    let whole : length xs - 1 + 1 ≡ length xs = omega arith in
    sym (take_more xs (length xs - 1) 0 inside) ∙ ap (λ n. take n xs) whole ∙ take-length xs

pub cut-return : (line : List ℕ) → 1 ≤ length line → get_or line (length line - 1) 0 ≡ 13 → take (length line - 1) line ≡ without_return line
cut-return line some last =
    let e : take (length line - 1) line ++ 13 ∷ [] ≡ line = subst (λ (b : ℕ). take (length line - 1) line ++ b ∷ [] ≡ line) last (split-last line some) in
    sym (without_return-return (take (length line - 1) line)) ∙ ap without_return e

pub cut-other : (line : List ℕ) → 1 ≤ length line → (get_or line (length line - 1) 0 ≢ 13) → line ≡ without_return line
cut-other line some last =
    let e = split-last line some in
    let no : (get_or line (length line - 1) 0 == 13) ≡ false = search (rules, last) in
    sym (ap without_return (sym e) ∙ without_return-other (take (length line - 1) line) _ no ∙ e)

-- the bytes before a place are no line feed where none of them is
pub no-feed-before : (text : List ℕ) (n : ℕ) → ((k : ℕ) → k < n → ((get_or text k 0 == 10) ≡ true → ⊥)) → HasNoLineFeed (take n text)
no-feed-before [] zero none = tt
no-feed-before [] (suc n) none = tt
no-feed-before (b ∷ bytes) zero none = tt
no-feed-before (b ∷ bytes) (suc n) none = (not_true (b == 10) (none 0 (omega arith)), no-feed-before bytes n (λ k below. none (suc k) (omega (arith, below))))

pub first-cut : (text line : List ℕ) (at : ℕ) → at < length text → HasNoLineFeed (take at text) → get_or text at 0 ≡ 10 → line ≡ without_return (take at text)
    → lines text ≡ line ∷ lines (take (length text - (at + 1)) (drop (at + 1) text))
first-cut text line at inside none here is =
    let parts : take at text ++ 10 ∷ drop (at + 1) text ≡ text =
    subst (λ (b : ℕ). take at text ++ b ∷ drop (at + 1) text ≡ text) here (rw (add-one, ← drop-cons text at 0 inside) (take-append-drop at text)) in
    rw (take_rest, is) (ap lines (sym parts) ∙ lines-first (take at text) (drop (at + 1) text) none)

pub last-cut : (text : List ℕ) → 0 < length text → HasNoLineFeed (take (length text) text) → lines text ≡ text ∷ []
last-cut [] some none = absurd (omega arith)
last-cut (b ∷ bytes) some none = lines-last b bytes (subst HasNoLineFeed (take-length (b ∷ bytes)) none)

-- where the first line feed was looked for
pub first-found : (text line : List ℕ) (found : Option ℕ) (at : ℕ) → IsFirstByte (is_byte 10) text found → found ≡ Some at → line ≡ without_return (take at text)
    → lines text ≡ line ∷ lines (take (length text - (at + 1)) (drop (at + 1) text))
first-found text line found at first is cut =
    let here = subst (λ f. IsFirstByte (is_byte 10) text f) is first in
    first-cut text line at here.0.high (no-feed-before text at (λ k below. here.0.before k (omega arith) below)) (eqb-true _ _ here.1) cut

pub none-found : (text : List ℕ) (found : Option ℕ) → IsFirstByte (is_byte 10) text found → found ≡ None → 0 < length text → lines text ≡ text ∷ []
none-found text found first is some =
    let here = subst (λ f. IsFirstByte (is_byte 10) text f) is first in
    last-cut text some (no-feed-before text (length text) (λ k below. here k (omega arith) below))
