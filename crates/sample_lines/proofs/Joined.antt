-- Pieces joined by spaces, one after another.
use Rattle.std.proofs.Common.{◌≡◌, ℕ, suc, ◌+◌, List, [], ◌∷◌, ◌++◌, refl, ap, sym, ◌∙◌, append_assoc, add-one}
use Rattle.std.specs.List.{join_with_byte}
use Rattle.sample_lines.specs.Lines.{piece, pieces}

-- a text behind one or more others
pub join_with_byte-last : (c : ℕ) (first : List ℕ) (others : List (List ℕ)) (last : List ℕ)
    → join_with_byte c ((first ∷ others) ++ (last ∷ [])) ≡ join_with_byte c (first ∷ others) ++ (c ∷ last)
join_with_byte-last c first [] last = refl
join_with_byte-last c first (second ∷ others) last =
    ap (λ (rest : List ℕ). first ++ (c ∷ rest)) (join_with_byte-last c second others last)
    ∙ sym (append_assoc first (c ∷ join_with_byte c (second ∷ others)) (c ∷ last))

after_some : (texts : List (List ℕ)) (next last : List ℕ)
    → join_with_byte 32 ((texts ++ (next ∷ [])) ++ (last ∷ [])) ≡ join_with_byte 32 (texts ++ (next ∷ [])) ++ (32 ∷ last)
after_some [] next last = join_with_byte-last 32 next [] last
after_some (first ∷ texts) next last = join_with_byte-last 32 first (texts ++ (next ∷ [])) last

-- the first piece
pub first_text : (x : ℕ) → join_with_byte 32 (pieces (0 + 1) x).value ≡ (piece x).value
unfolding pieces
first_text x = refl

pub first-state : (x : ℕ) → (pieces (0 + 1) x).state ≡ (piece x).state
unfolding pieces
first-state x = refl

-- one more piece, behind a space
pub next_text : (n x : ℕ)
    → join_with_byte 32 (pieces (n + 1 + 1) x).value
    ≡ (join_with_byte 32 (pieces (n + 1) x).value ++ (32 ∷ [])) ++ (piece (pieces (n + 1) x).state).value
unfolding pieces
next_text n x =
    rw (add-one, add-one)
    (after_some (pieces n x).value (piece (pieces n x).state).value (piece (pieces (suc n) x).state).value
    ∙ sym (append_assoc (join_with_byte 32 (pieces (suc n) x).value) (32 ∷ []) (piece (pieces (suc n) x).state).value))

pub next-state : (n x : ℕ) → (pieces (n + 1 + 1) x).state ≡ (piece (pieces (n + 1) x).state).state
unfolding pieces
next-state n x = rw (add-one, add-one) refl
