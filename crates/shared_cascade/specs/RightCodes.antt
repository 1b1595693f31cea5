-- Which codes are right for some cascades.
use Rattle.std.specs.Prelude.{◌≡◌, ◌<◌, ◌≤◌, List, ℕ, Contains, length}
use Rattle.state_tuples.specs.declared.tuples.Tuple.{Tuple}
use Rattle.state_tuples.specs.Cascades.{Cascaded, IsOf}
use Rattle.state_tuples.specs.Codes.{IsExpansionCode, key, most_words}

-- it names a tuple of one of the cascades, is the code of that tuple's expansion, and has room in a place
pub record IsRight (cs : List Cascaded) (code : List ℕ) : Type 0 where
  pub c : Cascaded
  pub t : Tuple
  pub among : Contains cs c
  pub known : IsOf c t
  pub expansion : IsExpansionCode c t code
  pub room : length code ≤ most_words

-- the code of the expansion of the tuple with this key has no room in a place
pub record IsWide (cs : List Cascaded) (k : List ℕ) : Type 0 where
  pub c : Cascaded
  pub t : Tuple
  pub code : List ℕ
  pub among : Contains cs c
  pub known : IsOf c t
  pub named : key t ≡ k
  pub expansion : IsExpansionCode c t code
  pub no_room : most_words < length code
