-- Fields, as contracts see them.
use Rattle.std.specs.Prelude.{ℕ, ◌+◌, List, [], ◌∷◌, map}
use Rattle.token_record.specs.declared.tokens.Field.{Field}
use Rattle.token_record.specs.declared.tokens.Value.{Value}
use Rattle.token_record.specs.declared.tokens.Value.TheOpen.{Field-F, Value-F, Text, Nested}
use Rattle.token_record.specs.declared.tokens.Value.TheFolds.{fold-Field, fold-Value}

-- none, one with a value before others, or one with fields in braces before others
pub data Fields : Type 0 where
  no_fields : Fields
  valued : List ℕ → List ℕ → Fields → Fields
  braced : List ℕ → Fields → Fields → Fields

-- what each of a list puts before the fields behind it
abbrev pub chain : List (Fields → Fields) → Fields → Fields
chain [] behind = behind
chain (f ∷ fs) behind = f (chain fs behind)

abbrev pub value_step : Value-F (List ℕ → Fields → Fields) (Fields → Fields) → List ℕ → Fields → Fields
value_step (Text bytes) name behind = valued name bytes.items behind
value_step (Nested fields) name behind = braced name (chain fields.items no_fields) behind

abbrev pub field_step : Field-F (List ℕ → Fields → Fields) (Fields → Fields) → Fields → Fields
field_step f = f.value f.name

-- the field that a value stands for, before others
abbrev pub field_of : Field → Fields → Fields
field_of = fold-Field (List ℕ → Fields → Fields) (Fields → Fields) value_step field_step

abbrev pub value_of : Value → List ℕ → Fields → Fields
value_of = fold-Value (List ℕ → Fields → Fields) (Fields → Fields) value_step field_step

-- the fields that a list of values stands for
abbrev pub fields_of : List Field → Fields
fields_of fs = chain (map field_of fs) no_fields

-- how many fields there are at all levels
abbrev pub field_count : Fields → ℕ
field_count no_fields = 0
field_count (valued n v fs) = 1 + field_count fs
field_count (braced n inner fs) = field_count inner + 1 + field_count fs
