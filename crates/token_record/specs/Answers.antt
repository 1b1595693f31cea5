-- What the parts of the reader answer.
use Rattle.std.specs.Prelude.{ℕ, ◌≡◌, ◌≤◌, ◌+◌, ◌-◌, List, Option, Some, None}
use Rattle.token_record.specs.Fields.{Fields, no_fields, valued, braced, field_of}
use Rattle.token_record.specs.Lexemes.{Sign, Value}
use Rattle.std.specs.Borrow.{Bor}
use Rattle.text_forms.specs.Answers.{Takes}
use Rattle.token_record.specs.Grammar.{Block}
use Rattle.token_record.specs.declared.tokens.Field.{Field}
use Rattle.token_record.specs.declared.meanings.Telling.{Telling}
use Rattle.token_record.specs.declared.meanings.Telling.TheVariants.{Nothing, One, Several}

-- Something stands at the front of a, before b. What is read of a are the fields that f makes of what is read of b.
pub record Leads (room : ℕ) (a : List ℕ) (f : Fields → Fields) (b : List ℕ) : Type 0 where
  pub on : (fs : Fields) (c : List ℕ) → Block room b fs c → Block room a (f fs) c
  pub back : (hs : Fields) (c : List ℕ) → Block room a hs c → (fs : Fields) × (hs ≡ f fs) × Block room b fs c

-- no field stands at the front of a
abbrev pub NoField : ℕ → List ℕ → Type 0
NoField room a = (hs : Fields) (c : List ℕ) → Block room a hs c → (hs ≡ no_fields) × Sign 125 a c

-- the field that stands at the front, or none does
abbrev pub FieldAnswers : {X : Type 0} → (X → Field) → (X → List ℕ) → ℕ → List ℕ → Option X → Type 0
FieldAnswers field rest room a (Some x) = Leads room a (field_of (field x)) (rest x)
FieldAnswers field rest room a None = NoField room a

-- how many fields there are at this level
abbrev pub count : Fields → ℕ
count no_fields = 0
count (valued n v fs) = count fs + 1
count (braced n inner fs) = count fs + 1

-- the fields that tell are none, this one, or several
abbrev pub Tells : Telling → Fields → Type 0
Tells Nothing fs = fs ≡ no_fields
Tells (One f) fs = fs ≡ field_of f no_fields
Tells Several fs = 2 ≤ count fs

-- the value behind a name, and the field that they make; or there is none
abbrev pub Valued : List ℕ → List ℕ → Option (Field × Bor (List ℕ)) → Type 0
Valued n a (Some x) = (v : List ℕ) × (field_of x.0 ≡ valued n v) × Takes (Value a) v x.1.now
Valued n a None = (v c : List ℕ) → Value a v c → ⊥

-- the fields and the brace behind a name, and the field that they make; or there are none
abbrev pub Braced : List ℕ → ℕ → List ℕ → Option (Field × Bor (List ℕ)) → Type 0
Braced n room a (Some x) = (inner : Fields) × (field_of x.0 ≡ braced n inner) × Takes (Block (room - 1) a) inner x.1.now
Braced n room a None = (inner : Fields) (c : List ℕ) → Block (room - 1) a inner c → ⊥
