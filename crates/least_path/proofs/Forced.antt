-- The one edge from a node that it alone leads on from.
use Rattle.std.proofs.Common.{◌≡◌, ◌↔◌, ℕ, zero, suc, List, [], ◌∷◌, Some, None, slice_get, get_or, refl, sym, ap, ◌∙◌, subst, inl, inr}
use Rattle.std.specs.Prelude.{All}
use Rattle.std.proofs.lemmas.List.Elements.{All-contains}
use Rattle.weighted_relations.specs.Graphs.{label}
use Rattle.weighted_relations.specs.Machines.{Machine}
use Rattle.state_tuples.specs.declared.tuples.Tuple.{Tuple}
use Rattle.state_tuples.specs.declared.tuples.TupleArc.{TupleArc}
use Rattle.state_tuples.specs.Cascades.{Cascaded, moves_of, next_of}
use Rattle.state_tuples.specs.Calls.{IsOnlyMove}
use Rattle.least_path.specs.declared.node.Node.{Node}
use Rattle.least_path.specs.declared.node.Node.TheVariants.{At, End}
use Rattle.least_path.specs.Products.{Follows}
use Rattle.least_path.specs.Growths.{Steps}
use Rattle.least_path.specs.Keeps.{IsEdge}
use Rattle.least_path.specs.Forcing.{Reads}
use Rattle.least_path.proofs.Along.{at_place}

module _ (m : Machine) (c : Cascaded) (q : ℕ) (t : Tuple) (a : TupleArc) (source : All Reads (get_or m.arcs q [])) (only : IsOnlyMove c t a) where
  only_move : (k : ℕ) (b : TupleArc) → slice_get (moves_of c t) k ≡ Some b → b ≡ a
  only_move k b h = go k (subst (λ ms. slice_get ms k ≡ Some b) only.moves h) where
    go : (k : ℕ) → slice_get (a ∷ []) k ≡ Some b → b ≡ a
    go zero e = cc
    go (suc k) e = absurd (cc)

  to_edge : (n : Node) (u : ℕ) (z : List ℕ) → Steps m c (At q t) n u z → IsEdge (At q (next_of t a)) a.weight (label a.output []) n u z
  to_edge End u z e = absurd (let none : None ≡ Some u = sym only.no_end ∙ e.node in cc)
  to_edge (At r v) u z (inl e) = absurd (All-contains Reads (get_or m.arcs q []) e.arc source (at_place (get_or m.arcs q []) e.place e.arc e.is) e.input)
  to_edge (At r v) u z (inr e) =
      let is = only_move e.place e.arc e.is in
      let there : r ≡ q = subst (λ i. Follows m q i r) (ap (λ (b : TupleArc). b.input) is ∙ only.silent) e.source in (
        ap (λ s. At s v) there ∙ ap (At q) (e.node ∙ ap (next_of t) is),
        e.weight ∙ ap (λ (b : TupleArc). b.weight) is,
        e.output ∙ ap (λ (b : TupleArc). label b.output []) is,
      )

  from_edge : (n : Node) (u : ℕ) (z : List ℕ) → IsEdge (At q (next_of t a)) a.weight (label a.output []) n u z → Steps m c (At q t) n u z
  from_edge n u z h =
      let edge : Steps m c (At q t) (At q (next_of t a)) u z = inr (record {
        place = 0;
        arc = a;
        is = ap (λ ms. slice_get ms 0) only.moves;
        source = subst (λ i. Follows m q i q) (sym only.silent) refl;
        node = refl;
        weight = h.1;
        output = h.2;
      }) in
      subst (λ o. Steps m c (At q t) o u z) (sym h.0) edge

  pub forced_edge : (n : Node) (u : ℕ) (z : List ℕ) → Steps m c (At q t) n u z ↔ IsEdge (At q (next_of t a)) a.weight (label a.output []) n u z
  forced_edge n u z = (to_edge n u z, from_edge n u z)
