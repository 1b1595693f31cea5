-- Rules on kinds that are met.
use Rattle.std.proofs.Common.{◌≡◌, ◌∙◌, refl, sym, true, false, Bool}
use Rattle.std.proofs.lemmas.Bool.{and_parts}
use Rattle.weighted_relations.specs.Rewriting.{Manner}
use Rattle.weighted_relations.specs.Expressions.{Expression, rewrite, is_acceptor, is_weighted, is_marked}
use Rattle.std.specs.Prelude.{not}
use Rattle.checked_expressions.specs.Sound.{is_plain_acceptor}
use Rattle.checked_expressions.specs.Nodes.{Checked, accepting, unweighted, sized, rewrite_of}

pub not_true : (b : Bool) → not b ≡ true → b ≡ false
not_true true h = sym h
not_true false h = refl

pub plain_passes : (e : Expression) (rest : Checked) → is_plain_acceptor e ≡ true → accepting e (unweighted e rest) ≡ rest
plain_passes e rest h =
    let both = and_parts (is_acceptor e) (not (is_weighted e)) h in
    let light = not_true (is_weighted e) both.1 in
    rw (both.0, light) refl

pub rewrite_passes : (m : Manner) (tau left right sigma : Expression) → is_plain_acceptor left ≡ true → is_plain_acceptor right ≡ true → is_plain_acceptor sigma ≡ true → is_marked tau ≡ false → is_marked sigma ≡ false
    → rewrite_of m tau left right sigma ≡ sized (rewrite tau left right sigma m)
rewrite_passes m tau left right sigma a b c d e =
    plain_passes left _ a ∙ plain_passes right _ b ∙ plain_passes sigma _ c ∙ rw (d, e) refl
