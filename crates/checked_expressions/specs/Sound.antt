-- The rules on kinds as a test.
use Rattle.std.specs.Prelude.{ℕ, List, [], ◌∷◌, Bool, true, ◌&&◌, not, nat_lt, nat_le}
use Rattle.weighted_relations.specs.Expressions.{Expression, Expressions, text, weighted, union, concat, star, cross, compose, minus, invert, project, rewrite, no_members, member, is_acceptor, is_weighted, is_marked}

-- each of the labels is one, from 1 to 257
abbrev pub are_labels : List ℕ → Bool
are_labels [] = true
are_labels (n ∷ labels) = nat_le 1 n && nat_le n 257 && are_labels labels

abbrev pub is_plain_acceptor : Expression → Bool
is_plain_acceptor e = is_acceptor e && not (is_weighted e)

-- each node meets the rules on kinds, texts hold labels alone, and a weight is below 2^32
abbrev mutual
  pub meets_kinds : Expression → Bool
  meets_kinds (text labels) = are_labels labels
  meets_kinds (weighted e v) = meets_kinds e && nat_lt v 4294967296
  meets_kinds (union es) = meet_kinds es
  meets_kinds (concat es) = meet_kinds es
  meets_kinds (star e) = meets_kinds e
  meets_kinds (cross a b) = meets_kinds a && meets_kinds b && is_acceptor a && is_acceptor b
  meets_kinds (compose a b) = meets_kinds a && meets_kinds b
  meets_kinds (minus a b) = meets_kinds a && meets_kinds b && is_acceptor a && is_plain_acceptor b
  meets_kinds (invert e) = meets_kinds e
  meets_kinds (project e side) = meets_kinds e
  meets_kinds (rewrite tau left right sigma manner) = meets_kinds tau && meets_kinds left && meets_kinds right && meets_kinds sigma && is_plain_acceptor left && is_plain_acceptor right && is_plain_acceptor sigma && not (is_marked tau) && not (is_marked sigma)

  pub meet_kinds : Expressions → Bool
  meet_kinds no_members = true
  meet_kinds (member e es) = meets_kinds e && meet_kinds es
