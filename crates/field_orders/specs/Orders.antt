-- The texts of a record.
use Rattle.std.specs.Prelude.{◌≡◌, ◌||◌, ◌≤◌, Bool, true, false, ℕ, List, [], ◌∷◌, ◌++◌, nat_eq, if◌then◌else◌, Some, slice_get}
use Rattle.std.specs.List.{remove, flat_map}
use Rattle.token_record.specs.Fields.{Fields, no_fields, valued, braced, fields_of, field_count}
use Rattle.token_record.specs.Writable.{AreBytes, HasNoZero}
use Rattle.token_record.specs.declared.tokens.Record.{Record}

-- The second list has the elements of the first in some order: one of them first, and then the others in some order.
pub data Rearranged {A : Type 0} : List A → List A → Type 0 where
  none : Rearranged [] []
  first : {x : A} {xs ys : List A} (i : ℕ) → slice_get xs i ≡ Some x → Rearranged (remove xs i) ys → Rearranged xs (x ∷ ys)

-- the order as written where it is kept, or any
abbrev pub Ordered : Bool → List (List ℕ) → List (List ℕ) → Type 0
Ordered true texts order = order ≡ texts
Ordered false texts order = Rearranged texts order

-- '\', '|', '{' and '}'
abbrev pub is_marked : ℕ → Bool
is_marked b = nat_eq b 92 || nat_eq b 124 || nat_eq b 123 || nat_eq b 125

-- a byte of a value, with a '\' before each of these
abbrev pub escape : ℕ → List ℕ
escape b = if is_marked b then 92 ∷ b ∷ [] else b ∷ []

abbrev pub escaped : List ℕ → List ℕ
escaped v = flat_map escape v

-- texts one after another
abbrev pub joined : List (List ℕ) → List ℕ
joined [] = []
joined (t ∷ ts) = t ++ joined ts

-- A text of each field: name, ':', value and '|', or name, '{', texts of the inner fields joined in an order, '}' and '|'.
abbrev pub Texts : Bool → Fields → List (List ℕ) → Type 0
Texts keep no_fields [] = Unit {0}
Texts keep no_fields (t ∷ ts) = ⊥
Texts keep (valued n v fs) [] = ⊥
Texts keep (valued n v fs) (t ∷ ts) = (t ≡ n ++ 58 ∷ (escaped v ++ 124 ∷ [])) × Texts keep fs ts
Texts keep (braced n inner fs) [] = ⊥
Texts keep (braced n inner fs) (t ∷ ts) = ((us order : List (List ℕ)) × Texts keep inner us × Ordered keep us order × (t ≡ n ++ 123 ∷ (joined order ++ 125 ∷ 124 ∷ []))) × Texts keep fs ts

-- texts of the fields joined in an order
pub record Joining (keep : Bool) (fs : Fields) (x : List ℕ) : Type 0 where
  pub texts : List (List ℕ)
  pub order : List (List ℕ)
  pub of_each : Texts keep fs texts
  pub ordered : Ordered keep texts order
  pub text : x ≡ joined order

-- a text of a record: its class, '|', and texts of its fields joined in an order
pub record Orders (class : List ℕ) (keep : Bool) (fs : Fields) (x : List ℕ) : Type 0 where
  pub rest : List ℕ
  pub text : x ≡ class ++ 124 ∷ rest
  pub joins : Joining keep fs rest

-- a text of a record, accepted without weight
pub record OrdersOf (r : Record) (x y : List ℕ) (w : ℕ) : Type 0 where
  pub same : y ≡ x
  pub weight : w ≡ 0
  pub orders : Orders r.class r.keep (fields_of r.fields.items) x

-- a record whose texts can be told: no byte 0, and at most 10 fields where any order is allowed
pub record IsOrderable (r : Record) : Type 0 where
  pub class_bytes : HasNoZero r.class
  pub field_bytes : AreBytes (fields_of r.fields.items)
  pub few : (r.keep ≡ false) → field_count (fields_of r.fields.items) ≤ 10
