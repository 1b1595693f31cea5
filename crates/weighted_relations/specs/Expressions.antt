-- Expressions as contracts see them: their relations, kinds and sizes.
use Rattle.std.specs.Prelude.{◌≡◌, ◌+◌, ◌<◌, ℕ, List, [], ◌∷◌, length, All, Bool, true, false, ◌&&◌, ◌||◌, nat_lt}
use Rattle.weighted_relations.specs.Relations.{Relation, IsLabel, Nothing, Is, Weighted, Either, Joined, Starred, Crossed, Composed, Without, Inverted, Inputs, Outputs}
use Rattle.weighted_relations.specs.Rewriting.{Manner, Rewritten}

-- one of the two lists of a reading
pub data Side : Type 0 where
  input_side : Side
  output_side : Side

-- an expression, and a list of expressions
mutual
  pub data Expression : Type 0 where
    text : List ℕ → Expression
    weighted : Expression → ℕ → Expression
    union : Expressions → Expression
    concat : Expressions → Expression
    star : Expression → Expression
    cross : Expression → Expression → Expression
    compose : Expression → Expression → Expression
    minus : Expression → Expression → Expression
    invert : Expression → Expression
    project : Expression → Side → Expression
    -- tau, the left context, the right context and sigma
    rewrite : Expression → Expression → Expression → Expression → Manner → Expression

  pub data Expressions : Type 0 where
    no_members : Expressions
    member : Expression → Expressions → Expressions

-- the list of these expressions
abbrev pub members : List Expression → Expressions
members [] = no_members
members (e ∷ es) = member e (members es)

abbrev pub Projected : Side → Relation → Relation
Projected input_side R = Inputs R
Projected output_side R = Outputs R

-- the relation of an expression
abbrev mutual
  pub Rel : Expression → Relation
  Rel (text labels) = Is labels
  Rel (weighted e v) = Weighted v (Rel e)
  Rel (union es) = RelAny es
  Rel (concat es) = RelAll es
  Rel (star e) = Starred (Rel e)
  Rel (cross a b) = Crossed (Rel a) (Rel b)
  Rel (compose a b) = Composed (Rel a) (Rel b)
  Rel (minus a b) = Without (Rel a) (Rel b)
  Rel (invert e) = Inverted (Rel e)
  Rel (project e side) = Projected side (Rel e)
  Rel (rewrite tau left right sigma manner) = Rewritten (Rel tau) (Rel left) (Rel right) (Rel sigma) manner

  -- a reading of one of the members
  pub RelAny : Expressions → Relation
  RelAny no_members = Nothing
  RelAny (member e es) = Either (Rel e) (RelAny es)

  -- readings of the members, joined in order
  pub RelAll : Expressions → Relation
  RelAll no_members = Is []
  RelAll (member e es) = Joined (Rel e) (RelAll es)

-- whether the two lists of a reading are always equal, as far as the kinds tell
abbrev mutual
  pub is_acceptor : Expression → Bool
  is_acceptor (text labels) = true
  is_acceptor (weighted e v) = is_acceptor e
  is_acceptor (union es) = are_acceptors es
  is_acceptor (concat es) = are_acceptors es
  is_acceptor (star e) = is_acceptor e
  is_acceptor (cross a b) = false
  is_acceptor (compose a b) = is_acceptor a && is_acceptor b
  is_acceptor (minus a b) = true
  is_acceptor (invert e) = is_acceptor e
  is_acceptor (project e side) = true
  is_acceptor (rewrite tau left right sigma manner) = false

  pub are_acceptors : Expressions → Bool
  are_acceptors no_members = true
  are_acceptors (member e es) = is_acceptor e && are_acceptors es

-- whether a reading may have a weight above 0
abbrev mutual
  pub is_weighted : Expression → Bool
  is_weighted (text labels) = false
  is_weighted (weighted e v) = is_weighted e || nat_lt 0 v
  is_weighted (union es) = some_weighted es
  is_weighted (concat es) = some_weighted es
  is_weighted (star e) = is_weighted e
  is_weighted (cross a b) = is_weighted a || is_weighted b
  is_weighted (compose a b) = is_weighted a || is_weighted b
  is_weighted (minus a b) = is_weighted a
  is_weighted (invert e) = is_weighted e
  is_weighted (project e side) = is_weighted e
  is_weighted (rewrite tau left right sigma manner) = is_weighted tau

  pub some_weighted : Expressions → Bool
  some_weighted no_members = false
  some_weighted (member e es) = is_weighted e || some_weighted es

-- whether a mark stands among the labels
abbrev pub holds_mark : List ℕ → Bool
holds_mark [] = false
holds_mark (n ∷ labels) = nat_lt 255 n || holds_mark labels

-- whether a reading may hold a mark
abbrev mutual
  pub is_marked : Expression → Bool
  is_marked (text labels) = holds_mark labels
  is_marked (weighted e v) = is_marked e
  is_marked (union es) = some_marked es
  is_marked (concat es) = some_marked es
  is_marked (star e) = is_marked e
  is_marked (cross a b) = is_marked a || is_marked b
  is_marked (compose a b) = is_marked a || is_marked b
  is_marked (minus a b) = is_marked a || is_marked b
  is_marked (invert e) = is_marked e
  is_marked (project e side) = is_marked e
  is_marked (rewrite tau left right sigma manner) = false

  pub some_marked : Expressions → Bool
  some_marked no_members = false
  some_marked (member e es) = is_marked e || some_marked es

-- the number of nodes and of labels in texts; a rewrite is one node beside its four parts
abbrev mutual
  pub size : Expression → ℕ
  size (text labels) = 1 + length labels
  size (weighted e v) = 1 + size e
  size (union es) = 1 + sizes es
  size (concat es) = 1 + sizes es
  size (star e) = 1 + size e
  size (cross a b) = 1 + size a + size b
  size (compose a b) = 1 + size a + size b
  size (minus a b) = 1 + size a + size b
  size (invert e) = 1 + size e
  size (project e side) = 1 + size e
  size (rewrite tau left right sigma manner) = 1 + size tau + size left + size right + size sigma

  pub sizes : Expressions → ℕ
  sizes no_members = 0
  sizes (member e es) = size e + sizes es

-- the sum of the weights that are written in it
abbrev mutual
  pub literals : Expression → ℕ
  literals (text labels) = 0
  literals (weighted e v) = literals e + v
  literals (union es) = all_literals es
  literals (concat es) = all_literals es
  literals (star e) = literals e
  literals (cross a b) = literals a + literals b
  literals (compose a b) = literals a + literals b
  literals (minus a b) = literals a + literals b
  literals (invert e) = literals e
  literals (project e side) = literals e
  literals (rewrite tau left right sigma manner) = literals tau + literals left + literals right + literals sigma

  pub all_literals : Expressions → ℕ
  all_literals no_members = 0
  all_literals (member e es) = literals e + all_literals es

-- an acceptor without weights
pub record IsPlainAcceptor (e : Expression) : Type 0 where
  pub acceptor : is_acceptor e ≡ true
  pub unweighted : is_weighted e ≡ false

-- each node meets the rules on kinds, texts hold labels alone, and a weight is below 2^32
abbrev mutual
  pub MeetsKinds : Expression → Type 0
  MeetsKinds (text labels) = All IsLabel labels
  MeetsKinds (weighted e v) = MeetsKinds e × (v < 4294967296)
  MeetsKinds (union es) = MeetKinds es
  MeetsKinds (concat es) = MeetKinds es
  MeetsKinds (star e) = MeetsKinds e
  MeetsKinds (cross a b) = MeetsKinds a × MeetsKinds b × (is_acceptor a ≡ true) × (is_acceptor b ≡ true)
  MeetsKinds (compose a b) = MeetsKinds a × MeetsKinds b
  MeetsKinds (minus a b) = MeetsKinds a × MeetsKinds b × (is_acceptor a ≡ true) × IsPlainAcceptor b
  MeetsKinds (invert e) = MeetsKinds e
  MeetsKinds (project e side) = MeetsKinds e
  MeetsKinds (rewrite tau left right sigma manner) = MeetsKinds tau × MeetsKinds left × MeetsKinds right × MeetsKinds sigma × IsPlainAcceptor left × IsPlainAcceptor right × IsPlainAcceptor sigma × (is_marked tau ≡ false) × (is_marked sigma ≡ false)

  pub MeetKinds : Expressions → Type 0
  MeetKinds no_members = Unit {0}
  MeetKinds (member e es) = MeetsKinds e × MeetKinds es

-- meets the rules on kinds, and its size is below 2^22
pub record IsSound (e : Expression) : Type 0 where
  pub kinds : MeetsKinds e
  pub size : size e < 4194304
