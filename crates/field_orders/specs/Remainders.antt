-- What is left to write of a text.
use Rattle.std.specs.Prelude.{◌≡◌, ◌<◌, ◌≤◌, Bool, true, false, ℕ, List, [], ◌∷◌, All, Option, Some, None, slice_get, get_or, map, length, drop}
use Rattle.std.specs.List.{remove, range_with_len}
use Rattle.weighted_relations.specs.Graphs.{Graph}

-- A field as it is written: the bytes before its inner fields, the numbers of these, and whether '}' and '|' stand behind them.
pub record Written : Type 0 where
  pub text : List ℕ
  pub inner : List ℕ
  pub braced : Bool

abbrev pub unwritten : Written
unwritten = record { text = []; inner = []; braced = false }

-- the field of a number
abbrev pub field_at : List Written → ℕ → Written
field_at t k = get_or t k unwritten

-- Nothing is left, or a byte and what follows it, or fields in some order and what follows them.
pub data Rest : Type 0 where
  nothing : Rest
  byte : ℕ → Rest → Rest
  fields : List ℕ → Rest → Rest

abbrev pub bytes_then : List ℕ → Rest → Rest
bytes_then [] r = r
bytes_then (b ∷ x) r = byte b (bytes_then x r)

abbrev pub fields_then : List ℕ → Rest → Rest
fields_then [] r = r
fields_then (k ∷ ks) r = fields (k ∷ ks) r

abbrev pub closing : Bool → List ℕ
closing true = 125 ∷ 124 ∷ []
closing false = []

-- what follows a field's text, where other fields are left at its level
abbrev pub behind : Written → List ℕ → Rest → Rest
behind p others r = fields_then p.inner (bytes_then (closing p.braced) (fields_then others r))

-- of how many fields one may come first
abbrev pub choices : Bool → List ℕ → ℕ
choices keep [] = 0
choices true (k ∷ ks) = 1
choices false (k ∷ ks) = length (k ∷ ks)

abbrev pub arc_count : Bool → Rest → ℕ
arc_count keep nothing = 0
arc_count keep (byte b r) = 1
arc_count keep (fields ks r) = choices keep ks

-- the first byte of a field that comes next, and what is left after it
abbrev pub taken : List Written → ℕ → List ℕ → Rest → ℕ × Rest
taken t k others r = (get_or (field_at t k).text 0 0, bytes_then (drop 1 (field_at t k).text) (behind (field_at t k) others r))

-- the same of the field at a place
abbrev pub chosen : List Written → List ℕ → Rest → ℕ → ℕ × Rest
chosen t ks r i = taken t (get_or ks i 0) (remove ks i) r

-- the byte of an arc, and what is left after it
abbrev pub arc_at : List Written → Rest → ℕ → ℕ × Rest
arc_at t nothing i = (0, nothing)
arc_at t (byte b r) i = (b, r)
arc_at t (fields ks r) i = chosen t ks r i

abbrev pub final_at : Rest → Option ℕ
final_at nothing = Some 0
final_at (byte b r) = None
final_at (fields ks r) = None

-- The nodes are what is left to write. Each arc writes one byte.
abbrev pub writing : List Written → Bool → Rest → Graph Rest (ℕ × Rest)
writing t keep whole = record {
  start = whole;
  arcs = λ r. map (arc_at t r) (range_with_len 0 (arc_count keep r));
  final = final_at;
  input = λ a. a.0;
  output = λ a. a.0;
  weight = λ a. 0;
  next = λ r a. a.1;
}

-- a field's text, and those of its inner fields, as a table may hold them
pub record IsWritten (t : List Written) (p : Written) : Type 0 where
  pub some : 0 < length p.text
  pub bytes : All (λ b. 1 ≤ b) p.text
  pub inner : All (λ k. k < length t) p.inner

-- each field of a table
abbrev pub AreWritten : List Written → Type 0
AreWritten t = (k : ℕ) (p : Written) → slice_get t k ≡ Some p → IsWritten t p
