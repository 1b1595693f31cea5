-- Relations on readings, and what is made of them.
use Rattle.std.specs.Prelude.{◌≡◌, ◌↔◌, ◌⊎◌, ◌≤◌, ℕ, zero, suc, ◌+◌, List, [], ◌∷◌, ◌++◌, All, reverse}

-- A predicate on readings: a list of input labels, a list of output labels, and a weight.
abbrev pub Relation : Type 1
Relation = List ℕ → List ℕ → ℕ → Type 0

-- The labels: 1 to 255 are bytes, 256 is the mark of the beginning and 257 that of the end.
abbrev pub IsLabel : ℕ → Type 0
IsLabel n = (1 ≤ n) × (n ≤ 257)

-- a label that is no mark
abbrev pub IsByte : ℕ → Type 0
IsByte n = (1 ≤ n) × (n ≤ 255)

-- the same readings
abbrev pub Same : Relation → Relation → Type 0
Same R S = (x y : List ℕ) (w : ℕ) → R x y w ↔ S x y w

-- a string that is accepted
abbrev pub Accepts : Relation → List ℕ → Type 0
Accepts R x = (w : ℕ) × R x x w

-- a string that is read
abbrev pub IsInput : Relation → List ℕ → Type 0
IsInput R x = (y : List ℕ) × (w : ℕ) × R x y w

-- no reading
abbrev pub Nothing : Relation
Nothing x y w = ⊥

-- the one reading of a string that is accepted at no weight
pub record Is (labels : List ℕ) (x y : List ℕ) (w : ℕ) : Type 0 where
  pub input : x ≡ labels
  pub output : y ≡ labels
  pub weight : w ≡ 0

-- a weight added to each reading
pub record Weighted (v : ℕ) (R : Relation) (x y : List ℕ) (w : ℕ) : Type 0 where
  pub before : ℕ
  pub weight : w ≡ before + v
  pub reads : R x y before

-- a reading of either
abbrev pub Either : Relation → Relation → Relation
Either R S x y w = R x y w ⊎ S x y w

-- a reading of one of the members
abbrev pub AnyOf : {A : Type 0} → (A → Relation) → List A → Relation
AnyOf R [] = Nothing
AnyOf R (a ∷ rest) = Either (R a) (AnyOf R rest)

-- a reading of R and then one of S
pub record Joined (R S : Relation) (x y : List ℕ) (w : ℕ) : Type 0 where
  pub x1 : List ℕ
  pub x2 : List ℕ
  pub y1 : List ℕ
  pub y2 : List ℕ
  pub w1 : ℕ
  pub w2 : ℕ
  pub input : x ≡ x1 ++ x2
  pub output : y ≡ y1 ++ y2
  pub weight : w ≡ w1 + w2
  pub first : R x1 y1 w1
  pub second : S x2 y2 w2

-- readings of the members, joined in order
abbrev pub AllOf : {A : Type 0} → (A → Relation) → List A → Relation
AllOf R [] = Is []
AllOf R (a ∷ rest) = Joined (R a) (AllOf R rest)

-- n copies joined
abbrev pub Copies : Relation → ℕ → Relation
Copies R zero = Is []
Copies R (suc n) = Joined R (Copies R n)

-- any number of copies joined
abbrev pub Starred : Relation → Relation
Starred R x y w = (n : ℕ) × Copies R n x y w

-- the string of one acceptor as input, and that of another as output
pub record Crossed (R S : Relation) (x y : List ℕ) (w : ℕ) : Type 0 where
  pub w1 : ℕ
  pub w2 : ℕ
  pub weight : w ≡ w1 + w2
  pub first : R x x w1
  pub second : S y y w2

-- a reading of R, and one of S whose input is its output
pub record Composed (R S : Relation) (x y : List ℕ) (w : ℕ) : Type 0 where
  pub middle : List ℕ
  pub w1 : ℕ
  pub w2 : ℕ
  pub weight : w ≡ w1 + w2
  pub first : R x middle w1
  pub second : S middle y w2

-- Relations one after another, each one's input the output of the one before it. Of none there is no reading.
abbrev pub Cascade : {A : Type 0} → (A → Relation) → List A → Relation
Cascade R [] = Nothing
Cascade R (a ∷ []) = R a
Cascade R (a ∷ b ∷ rest) = Composed (R a) (Cascade R (b ∷ rest))

-- the readings of R whose string S doesn't accept
pub record Without (R S : Relation) (x y : List ℕ) (w : ℕ) : Type 0 where
  pub reads : R x y w
  pub other : Accepts S x → ⊥

-- the two lists exchanged
abbrev pub Inverted : Relation → Relation
Inverted R x y w = R y x w

-- the inputs as both lists
pub record Inputs (R : Relation) (x y : List ℕ) (w : ℕ) : Type 0 where
  pub other : List ℕ
  pub same : x ≡ y
  pub reads : R x other w

-- the outputs as both lists
pub record Outputs (R : Relation) (x y : List ℕ) (w : ℕ) : Type 0 where
  pub other : List ℕ
  pub same : x ≡ y
  pub reads : R other y w

-- both lists backwards
abbrev pub Reversed : Relation → Relation
Reversed R x y w = R (reverse x) (reverse y) w

-- each reading has two equal lists
abbrev pub IsAcceptor : Relation → Type 0
IsAcceptor R = (x y : List ℕ) (w : ℕ) → R x y w → x ≡ y

-- each reading has the weight 0
abbrev pub IsUnweighted : Relation → Type 0
IsUnweighted R = (x y : List ℕ) (w : ℕ) → R x y w → w ≡ 0

-- the labels of each reading are bytes, and no marks
abbrev pub IsUnmarked : Relation → Type 0
IsUnmarked R = (x y : List ℕ) (w : ℕ) → R x y w → All IsByte x × All IsByte y
