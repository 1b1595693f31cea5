-- Fields in a table.
use Rattle.std.specs.Prelude.{◌≡◌, ◌<◌, ◌≤◌, true, false, ℕ, List, [], ◌∷◌, ◌++◌, All, Some, slice_get, length}
use Rattle.state_table.specs.Numbers.{Keeps}
use Rattle.token_record.specs.Fields.{Fields, no_fields, valued, braced}
use Rattle.field_orders.specs.Orders.{escaped}
use Rattle.field_orders.specs.Remainders.{Written, AreWritten}

-- the text of a field with a value
abbrev pub value_text : List ℕ → List ℕ → List ℕ
value_text n v = n ++ 58 ∷ (escaped v ++ 124 ∷ [])

-- what stands before the texts of inner fields
abbrev pub brace_text : List ℕ → List ℕ
brace_text n = n ++ 123 ∷ []

-- the fields of these numbers are those of a tree, in order
pub data Stands (t : List Written) : List ℕ → Fields → Type 0 where
  none : Stands t [] no_fields
  value : {k : ℕ} {n v ks : List ℕ} {fs : Fields} → slice_get t k ≡ Some (record { text = value_text n v; inner = []; braced = false }) → Stands t ks fs → Stands t (k ∷ ks) (valued n v fs)
  braces : {k : ℕ} {n is ks : List ℕ} {inner fs : Fields} → slice_get t k ≡ Some (record { text = brace_text n; inner = is; braced = true }) → Stands t is inner → Stands t ks fs → Stands t (k ∷ ks) (braced n inner fs)

-- The field of this number is what f puts before others, here and in each table that grows of this one.
abbrev pub StandsFor : List Written → ℕ → (Fields → Fields) → Type 0
StandsFor t k f = (u : List Written) → Keeps t u → (ks : List ℕ) (fs : Fields) → Stands u ks fs → Stands u (k ∷ ks) (f fs)

-- the same of several
abbrev pub StandFor : List Written → List ℕ → (Fields → Fields) → Type 0
StandFor t js f = (u : List Written) → Keeps t u → (ks : List ℕ) (fs : Fields) → Stands u ks fs → Stands u (js ++ ks) (f fs)

-- A table that grew has what it had, and is sound where it was.
pub record Grown (old new : List Written) : Type 0 where
  pub keeps : Keeps old new
  pub more : length old ≤ length new
  pub sound : AreWritten old → AreWritten new

-- a number in the table, and the field that it is
pub record NumberOf (t : List Written) (k : ℕ) (f : Fields → Fields) : Type 0 where
  pub within : k < length t
  pub stands : StandsFor t k f

pub record NumbersOf (t : List Written) (ks : List ℕ) (f : Fields → Fields) : Type 0 where
  pub within : All (λ k. k < length t) ks
  pub stand : StandFor t ks f

-- one more field, and its number
pub record Added (old new : List Written) (p : Written) (k : ℕ) : Type 0 where
  pub is : new ≡ old ++ p ∷ []
  pub number : k ≡ length old
