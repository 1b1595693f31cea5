-- The index of the names of a table.
use Rattle.std.specs.Prelude.{◌≡◌, ℕ, suc, List, [], ◌∷◌, Vec, None, Some, if◌then◌else◌}
use Rattle.std.specs.declared.alloc.Global.{Global}
use Rattle.std.specs.declared.option.Option.{Option}
use Rattle.std.specs.HashMap.{HashMap, get_by}
use Rattle.std.specs.Option.{option_map, option_or}
use Rattle.std.specs.Str.{bytes_eq}

-- the last place of a name
abbrev pub newest : List (List ℕ) → List ℕ → Option ℕ
newest [] n = None
newest (m ∷ names) n = option_or (option_map suc (newest names n)) (if bytes_eq m n then Some 0 else None)

-- each name has its last place, and nothing else has a place
abbrev pub IsIndex : {S : Type 0} → HashMap (Vec ℕ Global) ℕ S → List (List ℕ) → Type 0
IsIndex places names = (n : List ℕ) → get_by (λ k. bytes_eq n k.items) places ≡ newest names n
