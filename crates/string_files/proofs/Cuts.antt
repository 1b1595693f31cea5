-- Where a line has its first tab, its first field ends.
use Rattle.std.proofs.Common.{◌≡◌, ◌≢◌, ℕ, Bool, ◌+◌, ◌-◌, ◌<◌, ◌≤◌, List, [], ◌∷◌, ◌++◌, true, false, length, take, drop, get_or, refl, sym, ap, subst, ◌∙◌, add-one, drop-cons, take-append-drop, append_assoc, rules}
use Rattle.std.specs.Prelude.{◌==◌}
use Rattle.std.proofs.lemmas.List.{take_more, take_rest, take_all}
use Rattle.string_files.specs.Fields.{fields, onto_first}

-- none of the bytes is this one
abbrev pub HasNo : ℕ → List ℕ → Type 0
HasNo x [] = Unit {0}
HasNo x (b ∷ bytes) = ((b == x) ≡ false) × HasNo x bytes

pub HasNo-push : (x : ℕ) (bytes : List ℕ) (b : ℕ) → HasNo x bytes → (b == x) ≡ false → HasNo x (bytes ++ b ∷ [])
HasNo-push x [] b none last = (last, tt)
HasNo-push x (c ∷ bytes) b none last = (none.0, HasNo-push x bytes b none.1 last)

pub no-more : (x : ℕ) (text : List ℕ) (at : ℕ) → at < length text → HasNo x (take at text) → (get_or text at 0 ≢ x) → HasNo x (take (at + 1) text)
no-more x text at inside none here =
    let no : (get_or text at 0 == x) ≡ false = search (rules, here) in
    rw (take_more text at 0 inside) (HasNo-push x (take at text) (get_or text at 0) none no)

-- the parts round a byte
parts : (text : List ℕ) (at x : ℕ) → at < length text → get_or text at 0 ≡ x → take at text ++ x ∷ drop (at + 1) text ≡ text
parts text at x inside here =
    subst (λ (b : ℕ). take at text ++ b ∷ drop (at + 1) text ≡ text) here (rw (add-one, ← drop-cons text at 0 inside) (take-append-drop at text))

-- Fields

fields-first : (x rest : List ℕ) → HasNo 9 x → fields (x ++ 9 ∷ rest) ≡ x ∷ fields rest
fields-first [] rest none = refl
fields-first (b ∷ x) rest none = rw none.0 (ap (onto_first b) (fields-first x rest none.1))

fields-last : (x : List ℕ) → HasNo 9 x → fields x ≡ x ∷ []
fields-last [] none = refl
fields-last (b ∷ x) none = rw none.0 (ap (onto_first b) (fields-last x none.1))

pub first-tab : (text : List ℕ) (at : ℕ) → at < length text → HasNo 9 (take at text) → get_or text at 0 ≡ 9
    → fields text ≡ take at text ∷ fields (take (length text - (at + 1)) (drop (at + 1) text))
first-tab text at inside none here =
    rw (take_rest) (ap fields (sym (parts text at 9 inside here)) ∙ fields-first (take at text) (drop (at + 1) text) none)

pub no-tab : (text : List ℕ) (at : ℕ) → length text ≤ at → HasNo 9 (take at text) → fields text ≡ text ∷ []
no-tab text at past none = fields-last text (subst (HasNo 9) (take_all at text past) none)

-- a line has a field at least
onto-some : (b : ℕ) (ls : List (List ℕ)) → (x : List ℕ) × (xs : List (List ℕ)) × (onto_first b ls ≡ x ∷ xs)
onto-some b [] = (b ∷ [], [], refl)
onto-some b (l ∷ ls) = (b ∷ l, ls, refl)

some-field-by : (b : ℕ) (line : List ℕ) (t : Bool) → (b == 9) ≡ t → (x : List ℕ) × (xs : List (List ℕ)) × (fields (b ∷ line) ≡ x ∷ xs)
some-field-by b line true e = ([], fields line, rw e refl)
some-field-by b line false e = let some = onto-some b (fields line) in (some.0, some.1, rw e some.2)

pub some-field : (line : List ℕ) → (x : List ℕ) × (xs : List (List ℕ)) × (fields line ≡ x ∷ xs)
some-field [] = ([], [], refl)
some-field (b ∷ line) = some-field-by b line (b == 9) refl
