-- A way that goes on along edges each of which alone leads on.
use Rattle.std.proofs.Common.{◌≡◌, ℕ, suc, ◌+◌, List, [], ◌∷◌, ◌++◌, Some, slice_get, get_or, arith, refl, sym, ap, ◌∙◌, append_assoc}
use Rattle.std.specs.Prelude.{All, Contains, nat_eq}
use Rattle.std.proofs.lemmas.List.{append-nil}
use Rattle.std.proofs.lemmas.List.Elements.{All-filter}
use Rattle.std.proofs.lemmas.List.Sorted.{All-permutation}
use Rattle.std.proofs.lemmas.Option.{slice_get-get_or}
use Rattle.weighted_relations.specs.Graphs.{label}
use Rattle.weighted_relations.specs.Machines.{Machine}
use Rattle.state_tuples.specs.declared.tuples.Tuple.{Tuple}
use Rattle.state_tuples.specs.declared.tuples.TupleArc.{TupleArc}
use Rattle.state_tuples.specs.Cascades.{Cascaded, IsOf, moves_of, next_of}
use Rattle.state_tuples.specs.Calls.{IsOnlyMove}
use Rattle.state_tuples.specs.Bounds.{IsClosed}
use Rattle.state_tuples.specs.Orders.{Ordered, moves_on}
use Rattle.least_path.specs.declared.node.Node.TheVariants.{At}
use Rattle.least_path.specs.Growths.{Steps}
use Rattle.least_path.specs.Forcing.{IsForced}
use Rattle.least_path.specs.Passing.{IsOnly, Passed, none}
use Rattle.least_path.proofs.Forced.{forced_edge}
use Rattle.least_path.proofs.Passing.{passed_more}

-- where an only move leads is known
pub only_known : (c : Cascaded) → IsClosed c → (t : Tuple) (a : TupleArc) → IsOf c t → IsOnlyMove c t a → IsOf c (next_of t a)
only_known c closed t a is only = (closed.moves t 0 a is (ap (λ ms. slice_get ms 0) only.moves)).next

-- and where the moves that read a label lead
pub moves_known : (c : Cascaded) → IsClosed c → (t : Tuple) (label : ℕ) (arcs : List TupleArc) → IsOf c t → Ordered (moves_on c t label) arcs → All (λ a. IsOf c (next_of t a)) arcs
moves_known c closed t label arcs is ordered =
    All-permutation (λ a. IsOf c (next_of t a)) (moves_on c t label) arcs ordered.same (All-filter (λ (a : TupleArc). nat_eq a.input label) (λ a. IsOf c (next_of t a)) (moves_of c t)
    (λ k d l. (closed.moves t k (get_or (moves_of c t) k d) is (slice_get-get_or (moves_of c t) k d l)).next))

-- From a node at the weight w and the output y so many nodes were passed over, up to one at v and x.
pub record Came (m : Machine) (c : Cascaded) (q : ℕ) (first : Tuple) (w : ℕ) (y : List ℕ) (k : ℕ) (next : Tuple) (v : ℕ) (x : List ℕ) : Type 0 where
  pub known : IsOf c next
  pub more : ℕ
  pub text : List ℕ
  pub passed : Passed (Steps m c) k (At q first) (At q next) more text
  pub weight : v ≡ w + more
  pub output : x ≡ y ++ text

module _ (m : Machine) (c : Cascaded) (q : ℕ) (first : Tuple) (w : ℕ) (y : List ℕ) where
  pub came_first : IsOf c first → Came m c q first w y 0 first w y
  came_first is = record { known = is; more = 0; text = []; passed = none; weight = omega arith; output = sym (append-nil y) }

  pub came_more : (closed : IsClosed c) (cs : List Cascaded) → Contains cs c → (k : ℕ) (next : Tuple) (v : ℕ) (x : List ℕ) → Came m c q first w y k next v x → (a : TupleArc) → IsForced m cs q next a → Came m c q first w y (suc k) (next_of next a) (v + a.weight) (x ++ label a.output [])
  came_more closed cs among k next v x came a forced =
      let only = forced.tuple c among came.known in
      let edge = forced_edge m c q next a forced.source only in
      let is : IsOnly (Steps m c) (At q next) (At q (next_of next a)) a.weight (label a.output []) = record { edge = (edge (At q (next_of next a)) a.weight (label a.output [])).1 (refl, refl, refl); alone = λ p u z e. (edge p u z).0 e } in
      record {
        known = only_known c closed next a came.known only;
        more = came.more + a.weight;
        text = came.text ++ label a.output [];
        passed = passed_more (Steps m c) came.passed (At q (next_of next a)) a.weight (label a.output []) is;
        weight = (let e = came.weight in omega arith);
        output = ap (λ t. t ++ label a.output []) came.output ∙ append_assoc y came.text (label a.output []);
      }
