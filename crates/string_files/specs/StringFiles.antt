-- The expression of a string file, or its first line that isn't an entry.
use Rattle.std.specs.Prelude.{ℕ, List, [], ◌∷◌, ◌+◌, if◌then◌else◌, Some, None}
use Rattle.std.specs.declared.option.Option.{Option}
use Rattle.std.specs.Option.{option_map}
use Rattle.weighted_relations.specs.Expressions.{Expression, text, cross, weighted}
use Rattle.text_lines.specs.Lines.{lines}
use Rattle.string_files.specs.Fields.{fields, are_bytes, weight_field}

-- one field is read and written, of two the first is read and the second written, a third is the weight
abbrev pub entry_of : List (List ℕ) → Option Expression
entry_of [] = None
entry_of (both ∷ []) = Some (text both)
entry_of (input ∷ output ∷ []) = Some (cross (text input) (text output))
entry_of (input ∷ output ∷ weight ∷ []) = option_map (weighted (cross (text input) (text output))) (weight_field weight)
entry_of (input ∷ output ∷ weight ∷ more ∷ rest) = None

-- what a line that isn't empty says; a byte 0 stands in none
abbrev pub line_entry : List ℕ → Option Expression
line_entry line = if are_bytes line then entry_of (fields line) else None

-- the entries of a string file, or the number of its first bad line
pub data Entries : Type 0 where
  bad_line : ℕ → Entries
  entries : List Expression → Entries

abbrev pub with_entry : ℕ → Option Expression → Entries → Entries
with_entry number None rest = bad_line number
with_entry number (Some e) (bad_line n) = bad_line n
with_entry number (Some e) (entries es) = entries (e ∷ es)

-- the entries of lines that are numbered on from this number; an empty line is none
abbrev pub entries_from : ℕ → List (List ℕ) → Entries
entries_from number [] = entries []
entries_from number ([] ∷ lines) = entries_from (number + 1) lines
entries_from number ((b ∷ bytes) ∷ lines) = with_entry number (line_entry (b ∷ bytes)) (entries_from (number + 1) lines)

abbrev pub file_entries : List ℕ → Entries
file_entries bytes = entries_from 1 (lines bytes)
