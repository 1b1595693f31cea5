-- Classes of bytes that no state of a rewrite's automata tells apart.
use Rattle.std.specs.Prelude.{◌≡◌, ◌≤◌, ◌<◌, ℕ, List, [], ◌∷◌, ◌++◌, length, get_or}
use Rattle.std.specs.List.{Contains}
use Rattle.weighted_relations.specs.Relations.{IsByte}
use Rattle.acceptor_ops.specs.Tables.{step_of}
use Rattle.acceptor_ops.specs.StateSets.{with_element}
use Rattle.rewrite_rules.specs.declared.automata.Automata.{Automata}

-- the class of each byte, and the bytes of each class
pub record Classing : Type 0 where
  pub of : List ℕ
  pub members : List (List ℕ)

abbrev pub class_at : Classing → ℕ → ℕ
class_at k c = get_or k.of c 0

-- the byte that stands for a class
abbrev pub first : Classing → ℕ → ℕ
first k n = get_or (get_or k.members n []) 0 0

-- no state tells the two apart
pub record AreAlike (t : Automata) (a b : ℕ) : Type 0 where
  pub sigma : (s : ℕ) → step_of t.sigma s a ≡ step_of t.sigma s b
  pub left : (s : ℕ) → step_of t.left s a ≡ step_of t.left s b
  pub back : (s : ℕ) → step_of t.back s a ≡ step_of t.back s b

-- a byte of a class
pub record IsMember (t : Automata) (k : Classing) (n c : ℕ) : Type 0 where
  pub byte : IsByte c
  pub alike : AreAlike t (first k n) c

-- the bytes below so many have their classes
pub record AreClassesTo (t : Automata) (count : ℕ) (k : Classing) : Type 0 where
  pub length_of : length k.of ≡ count
  pub sound : (n c : ℕ) → Contains (get_or k.members n []) c → IsMember t k n c
  pub within : (c : ℕ) → 1 ≤ c → c < count → class_at k c < length k.members
  pub all : (c : ℕ) → 1 ≤ c → c < count → Contains (get_or k.members (class_at k c) []) c
  pub some : (n : ℕ) → n < length k.members → 0 < length (get_or k.members n [])

abbrev pub AreClasses : Automata → Classing → Type 0
AreClasses t k = AreClassesTo t 256 k

-- one more byte of a class
abbrev pub joined : Classing → ℕ → ℕ → Classing
joined k n c = record { of = k.of ++ n ∷ []; members = with_element k.members n c }

-- one more byte, in a class of its own
abbrev pub opened : Classing → ℕ → Classing
opened k c = record { of = k.of ++ length k.members ∷ []; members = k.members ++ (c ∷ []) ∷ [] }
