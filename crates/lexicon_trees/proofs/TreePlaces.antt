-- What is read in a tree is what stands at the places of its final states.
use Rattle.std.proofs.Common.{◌≡◌, ◌<◌, ◌+◌, ℕ, zero, suc, List, [], ◌++◌, length, Option, Some, refl, sym, ap, subst, ◌∙◌, inl, inr, arith, append-nil, append_assoc}
use Rattle.std.proofs.lemmas.Bool.{cases_lt}
use Rattle.weighted_relations.specs.declared.Arc.{Arc}
use Rattle.weighted_relations.specs.Graphs.{label, stop, step}
use Rattle.weighted_relations.specs.Machines.{IsArc, Path, final_of}
use Rattle.fst_core.specs.States.{States, as_machine}
use Rattle.fst_core.proofs.Fits.{no_end}
use Rattle.lexicon_trees.specs.Growing.{TreeReads, Comes, here, on, Place, place_of, IsTree}

pub label_append : (n : ℕ) (x : List ℕ) → label n [] ++ x ≡ label n x
label_append zero x = refl
label_append (suc n) x = refl

pub end_within : (finals : List (Option ℕ)) (s w : ℕ) → final_of finals s ≡ Some w → s < length finals
end_within finals s w e = elim (cases_lt s (length finals)) [ inl l ↦ l | inr l ↦ absurd (no_end finals s w l e) ]

-- a final state at a place
pub record EndsAt (b : States) (places : List Place) (x y : List ℕ) (w : ℕ) : Type 0 where
  pub state : ℕ
  pub final : final_of b.finals state ≡ Some w
  pub input : x ≡ (place_of places state).0
  pub output : y ≡ (place_of places state).1

-- a path on from a place
record EndsOn (b : States) (places : List Place) (s : ℕ) (x y : List ℕ) (w : ℕ) : Type 0 where
  state : ℕ
  final : final_of b.finals state ≡ Some w
  input : (place_of places state).0 ≡ (place_of places s).0 ++ x
  output : (place_of places state).1 ≡ (place_of places s).1 ++ y

-- one label and then others
pub labels_on : (p q x : List ℕ) (n : ℕ) → q ≡ p ++ label n [] → q ++ x ≡ p ++ label n x
labels_on p q x n e = ap (λ z. z ++ x) e ∙ append_assoc p (label n []) x ∙ ap (λ z. p ++ z) (label_append n x)

module _ (b : States) (tree : IsTree b) where
  -- each path to a state reads and writes what its place says
  pub comes_place : {s : ℕ} {x y : List ℕ} → Comes b.arcs s x y → (x ≡ (place_of tree.places s).0) × (y ≡ (place_of tree.places s).1)
  comes_place here = (ap (λ (p : Place). p.0) (sym tree.root), ap (λ (p : Place). p.1) (sym tree.root))
  comes_place (on {s} {x} {y} k a before h) =
      let p = comes_place before in
      let q = (tree.arcs s k a h).place in
      (ap (λ z. z ++ label a.input []) p.0 ∙ ap (λ (r : Place). r.0) (sym q), ap (λ z. z ++ label a.output []) p.1 ∙ ap (λ (r : Place). r.1) (sym q))

  path_ends : {s : ℕ} {ks x y : List ℕ} {w : ℕ} → Path (as_machine 0 b) s ks x y w → EndsOn b tree.places s x y w
  path_ends (stop {s} h) = record {
    state = s;
    final = h;
    input = sym (append-nil (place_of tree.places s).0);
    output = sym (append-nil (place_of tree.places s).1);
  }
  path_ends (step {s} {k} {ks} {a} {x} {y} {w} h path) =
      let r = path_ends path in
      let q = tree.arcs s k a h in
      let e : w ≡ a.weight + w = omega (arith, q.weight) in
      record {
        state = r.state;
        final = r.final ∙ ap Some e;
        input = r.input ∙ labels_on (place_of tree.places s).0 (place_of tree.places a.next).0 x a.input (ap (λ (p : Place). p.0) q.place);
        output = r.output ∙ labels_on (place_of tree.places s).1 (place_of tree.places a.next).1 y a.output (ap (λ (p : Place). p.1) q.place);
      }

  read_as : (x y x' y' : List ℕ) (w w' : ℕ) → x ≡ x' → y ≡ y' → w ≡ w' → TreeReads b x y w → TreeReads b x' y' w'
  read_as x y x' y' w w' e f g h = subst (λ z. TreeReads b z y' w') e (subst (λ z. TreeReads b x z w') f (subst (λ z. TreeReads b x y z) g h))

  path_from : {s : ℕ} {x y ks u v : List ℕ} {w : ℕ} → Comes b.arcs s x y → Path (as_machine 0 b) s ks u v w → TreeReads b (x ++ u) (y ++ v) w
  path_from {ks = ks} here path = (ks, path)
  path_from {ks = ks} {u = u} {v = v} {w = w} (on {s} {x} {y} k a before h) path =
      let q = tree.arcs s k a h in
      let e : a.weight + w ≡ w = omega (arith, q.weight) in
      let r = path_from before (step h path) in
      read_as (x ++ label a.input u) (y ++ label a.output v) ((x ++ label a.input []) ++ u) ((y ++ label a.output []) ++ v) (a.weight + w) w
      (sym (labels_on x (x ++ label a.input []) u a.input refl)) (sym (labels_on y (y ++ label a.output []) v a.output refl)) e r

  pub ends_at : (x y : List ℕ) (w : ℕ) → TreeReads b x y w → EndsAt b tree.places x y w
  ends_at x y w h =
      let r = path_ends h.1 in
      record {
        state = r.state;
        final = r.final;
        input = sym (r.input ∙ ap (λ (p : Place). p.0 ++ x) tree.root);
        output = sym (r.output ∙ ap (λ (p : Place). p.1 ++ y) tree.root);
      }

  pub read_at : (x y : List ℕ) (w : ℕ) → EndsAt b tree.places x y w → TreeReads b x y w
  read_at x y w h =
      let l : h.state < length b.arcs = subst (λ n. h.state < n) tree.ends (end_within b.finals h.state w h.final) in
      let r = path_from (tree.comes h.state l) (stop h.final) in
      read_as ((place_of tree.places h.state).0 ++ []) ((place_of tree.places h.state).1 ++ []) x y w w
      (append-nil (place_of tree.places h.state).0 ∙ sym h.input) (append-nil (place_of tree.places h.state).1 ∙ sym h.output) refl r

-- arcs that are kept, or led round, keep what comes to a state
pub comes_map : (arcs more : List (List Arc)) → ((s k : ℕ) (a : Arc) (x y : List ℕ) → IsArc arcs s k a → Comes more s x y → Comes more a.next (x ++ label a.input []) (y ++ label a.output [])) → {s : ℕ} {x y : List ℕ} → Comes arcs s x y → Comes more s x y
comes_map arcs more f here = here
comes_map arcs more f (on {s} {x} {y} k a before h) = f s k a x y h (comes_map arcs more f before)
