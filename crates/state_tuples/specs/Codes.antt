-- The code of an expansion: a list of words that tells its tuple, its final weight and its arcs.
use Rattle.std.specs.Prelude.{◌≡◌, ◌<◌, ◌≤◌, ℕ, ◌+◌, ◌*◌, List, [], ◌∷◌, ◌++◌, get_or, length, take, Option, Some, None, All}
use Rattle.std.specs.List.{flat_map}
use Rattle.state_tuples.specs.declared.tuples.Tuple.{Tuple}
use Rattle.state_tuples.specs.declared.tuples.TupleArc.{TupleArc}
use Rattle.state_tuples.specs.declared.codes.Encoded.{Encoded}
use Rattle.state_tuples.specs.declared.codes.Encoded.TheVariants.{Fits, Wide}
use Rattle.state_tuples.specs.Cascades.{Cascaded, end_of, moves_of}
use Rattle.state_tuples.specs.Orders.{InOrder, Ordered}
use Rattle.state_tuples.specs.Positions.{back, most_parts, padded}

-- what a caller has room for
abbrev pub most_words : ℕ
most_words = 2048

-- the words that name the tuple: its cascade, its states and its filters
abbrev pub key : Tuple → List ℕ
key t = t.cascade ∷ t.states ++ t.filters ∷ []

-- whether there is a final weight, and it
abbrev pub end_words : Option ℕ → List ℕ
end_words None = 0 ∷ 0 ∷ []
end_words (Some w) = 1 ∷ w ∷ []

-- both labels of an arc and its filters
abbrev pub labels_word : TupleArc → ℕ
labels_word a = a.input * 4294967296 + a.output * 65536 + a.filters

-- the words of an arc: its labels, its weight and the states that it leads to
abbrev pub arc_words : TupleArc → List ℕ
arc_words a = labels_word a ∷ a.weight ∷ padded (back 0 a.states most_parts)

-- how many words an arc has, and how many stand before the first arc
abbrev pub arc_width : ℕ
arc_width = most_parts + 2

abbrev pub head_width : ℕ
head_width = most_parts + 5

-- how many words the code of so many arcs has
abbrev pub code_width : ℕ → ℕ
code_width n = head_width + arc_width * n

-- what stands before the arcs: the length of the code, the tuple and the final weight
abbrev pub head_words : ℕ → Tuple → Option ℕ → List ℕ
head_words n t end = code_width n ∷ (key t ++ end_words end)

abbrev pub code_of : Tuple → Option ℕ → List TupleArc → List ℕ
code_of t end arcs = head_words (length arcs) t end ++ flat_map arc_words arcs

-- a code that there is room for stands at the front, and a longer one is not written
abbrev pub IsEncoded : List ℕ → List ℕ → List ℕ → Encoded → Type 0
IsEncoded code before after (Fits n) = (n ≡ length code) × (n ≤ most_words) × (take n after ≡ code)
IsEncoded code before after (Wide n) = (n ≡ length code) × (most_words < n) × (after ≡ before)

-- what each tuple of a program is
pub record IsTuple (t : Tuple) : Type 0 where
  pub cascade : t.cascade < 4294967296
  pub states : length t.states ≡ most_parts
  pub filters : t.filters < 4294967296

-- an arc whose labels and filters a word has room for
pub record IsArc (a : TupleArc) : Type 0 where
  pub input : a.input < 65536
  pub output : a.output < 65536
  pub filters : a.filters < 65536
  pub states : length a.states ≡ most_parts

-- these words are the code of this tuple with this final weight and these arcs
pub record IsCodeOf (t : Tuple) (end : Option ℕ) (arcs : List TupleArc) (words : List ℕ) : Type 0 where
  pub is_tuple : IsTuple t
  pub are_arcs : All IsArc arcs
  pub is_code : words ≡ code_of t end arcs

abbrev pub IsCode : List ℕ → Type 0
IsCode words = (t : Tuple) × (end : Option ℕ) × (arcs : List TupleArc) × IsCodeOf t end arcs words

-- a code whose arcs stand in order, as those of an expansion do
abbrev pub IsOrderedCode : List ℕ → Type 0
IsOrderedCode words = (t : Tuple) × (end : Option ℕ) × (arcs : List TupleArc) × IsCodeOf t end arcs words × InOrder arcs

abbrev pub no_arc : TupleArc
no_arc = record { input = 0; output = 0; weight = 0; filters = 0; states = 0 ∷ 0 ∷ 0 ∷ 0 ∷ [] }

-- the arcs before the place read lesser labels, and those from it on don't
pub record IsFirstReader (arcs : List TupleArc) (label place : ℕ) : Type 0 where
  pub within : place ≤ length arcs
  pub below : (k : ℕ) → k < place → (get_or arcs k no_arc).input < label
  pub above : (k : ℕ) → place ≤ k → k < length arcs → label ≤ (get_or arcs k no_arc).input

-- the code of the expansion of a tuple of the cascade
abbrev pub IsExpansionCode : Cascaded → Tuple → List ℕ → Type 0
IsExpansionCode c t code = (arcs : List TupleArc) × Ordered (moves_of c t) arcs × (code ≡ code_of t (end_of c t) arcs)
