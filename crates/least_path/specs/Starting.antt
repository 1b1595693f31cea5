-- What the search over a source and the cascades of an expander is owed and answers.
use Rattle.std.specs.Prelude.{◌≡◌, ◌⊎◌, ℕ, List, Option, All, Contains}
use Rattle.weighted_relations.specs.Relations.{Cascade, IsByte, IsInput}
use Rattle.weighted_relations.specs.Machines.{Machine, Reads}
use Rattle.weighted_relations.specs.Least.{Least}
use Rattle.state_tuples.specs.declared.tuples.Tuple.{Tuple}
use Rattle.state_tuples.specs.Cascades.{Cascaded, first_tuple}

-- a cascade that starts at the tuple
pub record StartsAt (cascades : List Cascaded) (start : Tuple) (c : Cascaded) : Type 0 where
  pub one : Contains cascades c
  pub first : start ≡ first_tuple c

-- one of the cascades starts at the tuple
abbrev pub IsStart : List Cascaded → Tuple → Type 0
IsStart cascades start = (c : Cascaded) × StartsAt cascades start c

-- what it reads writes bytes, and no marks
abbrev pub WritesBytes : List Cascaded → Tuple → Type 0
WritesBytes cascades start = (c : Cascaded) → StartsAt cascades start c → (x y : List ℕ) (w : ℕ) → Cascade Reads c.parts x y w → All IsByte y

-- the least reading of the cascade that starts at the tuple, at the inputs of the source
abbrev pub IsLeastFrom : Machine → List Cascaded → Tuple → Option (ℕ × List ℕ) → Type 0
IsLeastFrom source cascades start answer = (c : Cascaded) → StartsAt cascades start c → Least (Cascade Reads c.parts) (IsInput (Reads source)) answer

-- An earlier and a later value of an expander: calls went on from it, and then perhaps one gave up.
abbrev pub StopsAfter : {A : Type 0} → (A → A → Type 0) → (A → A → Type 0) → A → A → Type 0
StopsAfter {A} goes_on gives_up old new = goes_on old new ⊎ ((middle : A) × goes_on old middle × gives_up middle new)
