-- A value is sound.
use Rattle.std.proofs.Common.{◌≡◌, subst, arith, ℕ, List, [], ◌∷◌, true, false, ◌<◌}
use Rattle.std.specs.Prelude.{All, not, nat_lt, nat_le, ◌&&◌}
use Rattle.std.proofs.lemmas.Bool.{and_parts}
use Rattle.std.proofs.lemmas.List.Elements.{All-cons, All-nil}
use Rattle.weighted_relations.specs.Relations.{IsLabel}
use Rattle.weighted_relations.specs.Expressions.{Expression, Expressions, text, weighted, union, concat, star, cross, compose, minus, invert, project, rewrite, no_members, member, IsPlainAcceptor, MeetsKinds, MeetKinds, IsSound, is_acceptor, is_weighted, is_marked, size}
use Rattle.checked_expressions.specs.Sound.{are_labels, is_plain_acceptor, meets_kinds, meet_kinds}
use Rattle.checked_expressions.proofs.KindRules.{not_true}

labels_are : (labels : List ℕ) → are_labels labels ≡ true → All IsLabel labels
labels_are [] h = All-nil IsLabel
labels_are (n ∷ labels) h =
    let a = and_parts (nat_le 1 n && nat_le n 257) (are_labels labels) h in
    let b = and_parts (nat_le 1 n) (nat_le n 257) a.0 in
    let low : nat_le 1 n ≡ true = b.0 in
    let high : nat_le n 257 ≡ true = b.1 in
    All-cons IsLabel n labels (grind (arith, low), grind (arith, high)) (labels_are labels a.1)

below : (v n : ℕ) → nat_lt v n ≡ true → v < n
below v n h = grind (arith, h)

plain : (e : Expression) → is_plain_acceptor e ≡ true → IsPlainAcceptor e
plain e h = let a = and_parts (is_acceptor e) (not (is_weighted e)) h in record { acceptor = a.0; unweighted = not_true (is_weighted e) a.1 }

mutual
  pub meets : (e : Expression) → meets_kinds e ≡ true → MeetsKinds e
  meets (text labels) h = labels_are labels h
  meets (weighted e v) h = let a = and_parts (meets_kinds e) (nat_lt v 4294967296) h in (meets e a.0, below v 4294967296 a.1)
  meets (union es) h = meet es h
  meets (concat es) h = meet es h
  meets (star e) h = meets e h
  meets (cross a b) h =
      let p = and_parts (meets_kinds a && meets_kinds b && is_acceptor a) (is_acceptor b) h in
      let q = and_parts (meets_kinds a && meets_kinds b) (is_acceptor a) p.0 in
      let r = and_parts (meets_kinds a) (meets_kinds b) q.0 in
      (meets a r.0, meets b r.1, q.1, p.1)
  meets (compose a b) h = let c = and_parts (meets_kinds a) (meets_kinds b) h in (meets a c.0, meets b c.1)
  meets (minus a b) h =
      let p = and_parts (meets_kinds a && meets_kinds b && is_acceptor a) (is_plain_acceptor b) h in
      let q = and_parts (meets_kinds a && meets_kinds b) (is_acceptor a) p.0 in
      let r = and_parts (meets_kinds a) (meets_kinds b) q.0 in
      (meets a r.0, meets b r.1, q.1, plain b p.1)
  meets (invert e) h = meets e h
  meets (project e side) h = meets e h
  meets (rewrite tau left right sigma manner) h =
      let w = and_parts _ (not (is_marked sigma)) h in
      let v = and_parts _ (not (is_marked tau)) w.0 in
      let u = and_parts _ (is_plain_acceptor sigma) v.0 in
      let t = and_parts _ (is_plain_acceptor right) u.0 in
      let s = and_parts _ (is_plain_acceptor left) t.0 in
      let r = and_parts _ (meets_kinds sigma) s.0 in
      let q = and_parts _ (meets_kinds right) r.0 in
      let p = and_parts (meets_kinds tau) (meets_kinds left) q.0 in
      (meets tau p.0, meets left p.1, meets right q.1, meets sigma r.1, plain left s.1, plain right t.1, plain sigma u.1, not_true (is_marked tau) v.1, not_true (is_marked sigma) w.1)

  pub meet : (es : Expressions) → meet_kinds es ≡ true → MeetKinds es
  meet no_members h = tt
  meet (member e es) h = let a = and_parts (meets_kinds e) (meet_kinds es) h in (meets e a.0, meet es a.1)

pub is_sound : (e : Expression) (n : ℕ) → meets_kinds e ≡ true → n ≡ size e → n < 4194304 → IsSound e
is_sound e n kinds counted bounded = record { kinds = meets e kinds; size = subst (λ k. k < 4194304) counted bounded }
