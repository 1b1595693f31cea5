-- The rows of an automaton.
use Rattle.std.proofs.Common.{◌≡◌, ℕ, ◌<◌, List, [], Vec, Global, map, length, get_or, sym, ap, subst, ◌∙◌}
use Rattle.std.proofs.lemmas.List.{length-map, get_or-map}

pub row_at : (rows : List (Vec ℕ Global)) (s : ℕ) (v : Vec ℕ Global) → v ≡ get_or rows s v → s < length (map (λ (v : Vec ℕ Global). v.items) rows) → get_or (map (λ (v : Vec ℕ Global). v.items) rows) s [] ≡ v.items
row_at rows s v e l = get_or-map (λ (v : Vec ℕ Global). v.items) rows s v [] (subst (λ n. s < n) (length-map rows (λ (v : Vec ℕ Global). v.items)) l) ∙ ap (λ (v : Vec ℕ Global). v.items) (sym e)
