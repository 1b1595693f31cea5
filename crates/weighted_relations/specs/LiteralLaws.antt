-- The weights of a sound expression stay far below what a transducer can hold.
use Rattle.std.specs.Prelude.{◌*◌, ◌<◌, ◌≤◌, ◌^◌}
use Rattle.std.proofs.Common.{arith}
use Rattle.weighted_relations.specs.Expressions.{Expression, Expressions, text, weighted, union, concat, star, cross, compose, minus, invert, project, rewrite, no_members, member, MeetsKinds, MeetKinds, IsSound, size, sizes, literals, all_literals}

mutual
  -- each node holds a weight of 2^32 - 1 at most
  literals_by_size : (e : Expression) → MeetsKinds e → literals e ≤ 4294967295 * size e
  literals_by_size (text labels) h = omega arith
  literals_by_size (weighted e v) h = omega (arith, literals_by_size e h.0, h.1)
  literals_by_size (union es) h = omega (arith, literals_by_sizes es h)
  literals_by_size (concat es) h = omega (arith, literals_by_sizes es h)
  literals_by_size (star e) h = omega (arith, literals_by_size e h)
  literals_by_size (cross a b) h = omega (arith, literals_by_size a h.0, literals_by_size b h.1)
  literals_by_size (compose a b) h = omega (arith, literals_by_size a h.0, literals_by_size b h.1)
  literals_by_size (minus a b) h = omega (arith, literals_by_size a h.0, literals_by_size b h.1)
  literals_by_size (invert e) h = omega (arith, literals_by_size e h)
  literals_by_size (project e side) h = omega (arith, literals_by_size e h)
  literals_by_size (rewrite tau left right sigma manner) h = omega (arith, literals_by_size tau h.0, literals_by_size left h.1, literals_by_size right h.2, literals_by_size sigma h.3)

  literals_by_sizes : (es : Expressions) → MeetKinds es → all_literals es ≤ 4294967295 * sizes es
  literals_by_sizes no_members h = omega arith
  literals_by_sizes (member e es) h = omega (arith, literals_by_size e h.0, literals_by_sizes es h.1)

pub sound_literals : (e : Expression) → IsSound e → literals e < 2 ^ 54
sound_literals e h = omega (arith, literals_by_size e h.kinds, h.size)
