-- The words of a code, written one after another.
use Rattle.std.proofs.Common.{◌≡◌, ℕ, ◌+◌, List, [], ◌∷◌, ◌++◌, length, sym, ap, ◌∙◌, arith, append_assoc}
use Rattle.place_words.specs.Steps.{wrote}
use Rattle.place_words.specs.declared.view.View.{View}
use Rattle.place_words.specs.declared.view.Mode.TheVariants.{Writing}
use Rattle.place_words.specs.declared.view.Entry.{Entry}
use Rattle.place_words.specs.declared.view.Entry.TheVariants.{Write}
use Rattle.place_table.specs.Entries.{writes_from, writing}

writes_append : (p i : ℕ) (xs ys : List ℕ) → writes_from p i (xs ++ ys) ≡ writes_from p i xs ++ writes_from p (i + length xs) ys
writes_append p i [] ys = ap (λ (z : ℕ). writes_from p z ys) (let e : i ≡ i + 0 = omega arith in e)
writes_append p i (x ∷ xs) ys = ap (λ (l : List Entry). Write p i x ∷ l)
    (writes_append p (i + 1) xs ys ∙ ap (λ (z : ℕ). writes_from p (i + 1) xs ++ writes_from p z ys) (let e : i + 1 + length xs ≡ i + length (x ∷ xs) = omega arith in e))

pub writing_more : {T : Type 0} (v : View T) (p x : ℕ) (xs : List ℕ) → wrote (writing v p xs) p x ≡ writing v p (xs ++ x ∷ [])
writing_more {T} v p x xs = let none : 0 + length xs ≡ length xs = omega arith in
    let split : writes_from p 0 (xs ++ x ∷ []) ≡ writes_from p 0 xs ++ Write p (length xs) x ∷ [] = writes_append p 0 xs (x ∷ []) ∙ ap (λ (z : ℕ). writes_from p 0 xs ++ Write p z x ∷ []) none in
    ap (λ (l : List Entry). record v { mode = Writing p (xs ++ x ∷ []); log = l }) (append_assoc v.log (writes_from p 0 xs) (Write p (length xs) x ∷ []) ∙ ap (λ (l : List Entry). v.log ++ l) (sym split))
