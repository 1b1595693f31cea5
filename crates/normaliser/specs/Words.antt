-- What a line says, by the classifier's relation and the verbaliser's.
use Rattle.std.specs.Prelude.{◌≡◌, ◌<◌, ◌+◌, ℕ, Bool, true, false, List, [], ◌∷◌, ◌++◌, filter, slice_get, None, Some, Ok, Err}
use Rattle.weighted_relations.specs.Least.{Least}
use Rattle.weighted_relations.specs.Relations.{Relation}
use Rattle.token_record.specs.Fields.{Fields, field_count}
use Rattle.token_record.specs.Meaning.{TokenTree, spoken, silent, class_of}
use Rattle.token_record.specs.Texts.{TokenText, Whole}
use Rattle.field_orders.specs.Orders.{Orders}
use Rattle.normaliser.specs.Lines.{Answer, Classified, IsClassifiedAs}
use Rattle.normaliser.specs.declared.faults.LineFault.{LineFault}
use Rattle.normaliser.specs.declared.faults.LineFault.TheVariants.{NotTokens, TooManyFields, NoWords}

-- a record with more than 10 fields at all levels, which may stand in any order
abbrev pub HasTooMany : TokenTree → Type 0
HasTooMany (class_of class keep fields) = (keep ≡ false) × (10 < field_count fields)
HasTooMany token = ⊥

-- The words of a token: its own, none of a silent one, and of a class the output of the least reading of the verbaliser over all texts of its record.
pub data Says (V : Relation) : TokenTree → List ℕ → Type 0 where
  its_own : (words : List ℕ) → Says V (spoken words) words
  none : Says V silent []
  least : {class : List ℕ} {keep : Bool} {fields : Fields} (weight : ℕ) (words : List ℕ) → Least V (Orders class keep fields) (Some (weight, words)) → Says V (class_of class keep fields) words

-- the verbaliser reads none of the token's texts
abbrev pub HasNoWords : Relation → TokenTree → Type 0
HasNoWords V (class_of class keep fields) = Least V (Orders class keep fields) None
HasNoWords V token = ⊥

-- what each token says, in order
abbrev pub AllSay : Relation → List TokenTree → List (List ℕ) → Type 0
AllSay V [] [] = Unit {0}
AllSay V [] (words ∷ all) = ⊥
AllSay V (token ∷ tokens) [] = ⊥
AllSay V (token ∷ tokens) (words ∷ all) = Says V token words × AllSay V tokens all

-- the number, from 1, of the first token of a kind
pub record IsFirst (P : TokenTree → Type 0) (tokens : List TokenTree) (number : ℕ) : Type 0 where
  pub place : ℕ
  pub token : TokenTree
  pub counted : number ≡ place + 1
  pub there : slice_get tokens place ≡ Some token
  pub is : P token
  pub first : (k : ℕ) (other : TokenTree) → k < place → slice_get tokens k ≡ Some other → P other → ⊥

-- no token is of a kind
abbrev pub NoneIs : (TokenTree → Type 0) → List TokenTree → Type 0
NoneIs P tokens = (k : ℕ) (token : TokenTree) → slice_get tokens k ≡ Some token → P token → ⊥

-- texts with single spaces between
abbrev pub spaced : List (List ℕ) → List ℕ
spaced [] = []
spaced (words ∷ []) = words
spaced (words ∷ next ∷ more) = words ++ 32 ∷ spaced (next ∷ more)

-- there is at least one byte
abbrev pub is_some : List ℕ → Bool
is_some [] = false
is_some (b ∷ words) = true

-- What the tokens of a line say, or the first fault in this order: a record with too many fields, or a token without words.
pub data TokensSay (V : Relation) (tokens : List TokenTree) : Answer → Type 0 where
  too_many_fields : (n : ℕ) → IsFirst HasTooMany tokens n → TokensSay V tokens (Err (TooManyFields n))
  no_words : (n : ℕ) → NoneIs HasTooMany tokens → IsFirst (HasNoWords V) tokens n → TokensSay V tokens (Err (NoWords n))
  words : (all : List (List ℕ)) → NoneIs HasTooMany tokens → AllSay V tokens all → TokensSay V tokens (Ok (spaced (filter is_some all)))

-- What one line says: an empty line no bytes; any other what it is refused for, by the classifier or since this says no token text, or what its tokens say.
pub data Words (C V : Relation) (line : List ℕ) : Answer → Type 0 where
  empty : line ≡ [] → Words C V line (Ok [])
  unclassified : (fault : LineFault) → Classified C line (Err fault) → Words C V line (Err fault)
  not_tokens : (y : List ℕ) (n : ℕ) → IsClassifiedAs C line y → Whole y n → ((tokens : List TokenTree) → TokenText tokens y → ⊥) → Words C V line (Err (NotTokens n))
  said : (y : List ℕ) (tokens : List TokenTree) (answer : Answer) → IsClassifiedAs C line y → TokenText tokens y → TokensSay V tokens answer → Words C V line answer
