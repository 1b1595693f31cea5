-- The one written form of tokens.
use Rattle.std.specs.Prelude.{Bool, true, false, ℕ, ◌||◌, nat_eq, List, [], ◌∷◌, ◌++◌, codes, if◌then◌else◌}
use Rattle.std.specs.List.{flat_map, join_by}
use Rattle.token_record.specs.Fields.{Fields, no_fields, valued, braced}
use Rattle.token_record.specs.Meaning.{TokenTree, spoken, silent, class_of}

-- a byte of a string, with a '\' before '"' and '\'
abbrev pub escape : ℕ → List ℕ
escape b = if nat_eq b 34 || nat_eq b 92 then 92 ∷ b ∷ [] else b ∷ []

-- a value in quotes
abbrev pub quoted : List ℕ → List ℕ
quoted v = codes "\"" ++ flat_map escape v ++ codes "\""

-- fields, each with a space before it
abbrev pub written_fields : Fields → List ℕ
written_fields no_fields = []
written_fields (valued n v fs) = codes " " ++ n ++ codes ": " ++ quoted v ++ written_fields fs
written_fields (braced n inner fs) = codes " " ++ n ++ codes " {" ++ written_fields inner ++ codes " }" ++ written_fields fs

-- what says that the fields before it keep their order
abbrev pub written_keep : Bool → List ℕ
written_keep true = codes " preserve_order: true"
written_keep false = []

abbrev pub written_token : TokenTree → List ℕ
written_token (spoken v) = codes "tokens { name: " ++ quoted v ++ codes " }"
written_token silent = codes "tokens { type: PUNCT }"
written_token (class_of n keep fs) = codes "tokens { " ++ n ++ codes " {" ++ written_fields fs ++ written_keep keep ++ codes " } }"

-- the tokens with a space between each two
abbrev pub written : List TokenTree → List ℕ
written = join_by written_token (codes " ")
