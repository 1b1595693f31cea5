-- The summary of what lines said: for each line its words, or nothing where it was refused.
use Rattle.std.specs.Prelude.{ℕ, ◌-◌, List, [], ◌∷◌, ◌++◌, Option, codes, length, map, sum, count_by, is_some, is_none, unwrap_or}
use Rattle.std.specs.Fmt.{decimal}
use Rattle.std.specs.List.{flat_map}
use Rattle.std.proofs.Common.{get_or}

abbrev pub Said : Type 0
Said = Option (List ℕ)

-- the words of a line, of which a refused one has none
abbrev pub words_of : Said → List ℕ
words_of said = unwrap_or said []

-- the words of each line and a line feed
abbrev pub written : List Said → List ℕ
written said = flat_map (λ line. words_of line ++ (10 ∷ [])) said

-- what is counted and kept
pub record Totals : Type 0 where
  pub lines : ℕ
  pub spoken : ℕ
  pub refused : ℕ
  pub bytes : ℕ
  pub total : ℕ
  pub first : List ℕ
  pub last : List ℕ

abbrev pub totals_of : List Said → Totals
totals_of said = record {
  lines = length said;
  spoken = count_by is_some said;
  refused = count_by is_none said;
  bytes = length (written said);
  total = sum (written said);
  first = get_or (map words_of said) 0 [];
  last = get_or (map words_of said) (length said - 1) [];
}

-- a name, a space and what it has
abbrev pub entry : List ℕ → List ℕ → List ℕ
entry name value = name ++ (32 ∷ (value ++ (10 ∷ [])))

-- the summary's seven lines
abbrev pub summary_text : Totals → List ℕ
summary_text t =
    entry (codes "lines") (decimal t.lines)
    ++ entry (codes "spoken") (decimal t.spoken)
    ++ entry (codes "refused") (decimal t.refused)
    ++ entry (codes "bytes") (decimal t.bytes)
    ++ entry (codes "sum") (decimal t.total)
    ++ entry (codes "first") t.first
    ++ entry (codes "last") t.last
