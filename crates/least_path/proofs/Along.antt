-- Edges that are followed one after another.
use Rattle.std.proofs.Common.{◌≡◌, ◌<◌, ◌⊎◌, ◌↔◌, ℕ, zero, suc, ◌+◌, Bool, true, false, cond, List, [], ◌∷◌, ◌++◌, Option, Some, None, slice_get, get_or, take, length, arith, refl, sym, ap, ◌∙◌, subst, inl, inr}
use Rattle.std.specs.Prelude.{Contains, filter, nat_eq}
use Rattle.std.specs.List.Sorted.{IsPermutation}
use Rattle.std.proofs.lemmas.Bool.{eqb-true, eq-eqb}
use Rattle.std.proofs.lemmas.List.{take_more}
use Rattle.std.proofs.lemmas.List.Elements.{Contains-push, Contains-push_cases, Contains-append_left}
use Rattle.std.proofs.lemmas.List.Sorted.{Contains-permutation, IsPermutation-sym}
use Rattle.std.proofs.lemmas.Option.{slice_get_within, slice_get-get_or, get_or_from_slice_get}
use Rattle.weighted_relations.specs.declared.Arc.{Arc}
use Rattle.weighted_relations.specs.Graphs.{label}
use Rattle.weighted_relations.specs.Machines.{Machine, ArcFits, IsArc, WellFormed, final_of}
use Rattle.weighted_relations.specs.SearchRunLaws.{contains_first, contains_later, contains_cases}
use Rattle.state_tuples.specs.declared.tuples.Tuple.{Tuple}
use Rattle.state_tuples.specs.declared.tuples.TupleArc.{TupleArc}
use Rattle.state_tuples.specs.Cascades.{Cascaded, moves_of, end_of, next_of}
use Rattle.state_tuples.specs.Orders.{moves_on}
use Rattle.least_path.specs.declared.node.Node.{Node}
use Rattle.least_path.specs.declared.node.Node.TheVariants.{At, End}
use Rattle.least_path.specs.Products.{Follows}
use Rattle.least_path.specs.Growths.{Leading, Steps, AlongMoves, AlongArc, AlongArcs, AtEnd}
use Rattle.least_path.specs.Keeps.{IsEdge}
use Rattle.least_path.proofs.Growing.{IsGrowth}

abbrev pub no_arc : Arc
no_arc = record { input = 0; output = 0; weight = 0; next = 0 }

-- an arc at its place in the row of a state
pub arc_in : (m : Machine) (q i : ℕ) (row : List Arc) → row ≡ get_or m.arcs q [] → i < length row → IsArc m.arcs q i (get_or row i no_arc)
arc_in m q i row is l = subst (λ r. slice_get r i ≡ Some (get_or row i no_arc)) is (slice_get-get_or row i no_arc l)

-- it fits the source
pub arc_fits : (m : Machine) (q i : ℕ) → WellFormed m → i < length (get_or m.arcs q []) → ArcFits (length m.arcs) (get_or (get_or m.arcs q []) i no_arc)
arc_fits m q i wf l = wf.arcs q i (get_or (get_or m.arcs q []) i no_arc) (slice_get-get_or (get_or m.arcs q []) i no_arc l)

module _ {S : Type 0} {G : S → S → Leading → Type 0} (growth : IsGrowth G) where
  pub moves_more : (a b c : S) (r : ℕ) (t : Tuple) (ms : List TupleArc) (i : ℕ) (d : TupleArc) → i < length ms
      → G a b (AlongMoves r t (take i ms)) → G b c (IsEdge (At r (next_of t (get_or ms i d))) (get_or ms i d).weight (label (get_or ms i d).output [])) → G a c (AlongMoves r t (take (i + 1) ms))
  moves_more a b c r t ms i d l f g =
      let more : take (i + 1) ms ≡ take i ms ++ get_or ms i d ∷ [] = take_more ms i d l in
      let whole : G a c (AlongMoves r t (take i ms ++ get_or ms i d ∷ [])) = growth.joins a b c (AlongMoves r t (take i ms)) (IsEdge (At r (next_of t (get_or ms i d))) (get_or ms i d).weight (label (get_or ms i d).output [])) (AlongMoves r t (take i ms ++ get_or ms i d ∷ [])) f g
      (λ n u z h. elim (Contains-push_cases (take i ms) (get_or ms i d) h.0 h.1) [
        | inl k ↦ inl (h.0, k, h.2, h.3, h.4)
        | inr k ↦ inr (h.2 ∙ ap (λ (b : TupleArc). At r (next_of t b)) (sym k), h.3 ∙ ap (λ (b : TupleArc). b.weight) (sym k), h.4 ∙ ap (λ (b : TupleArc). label b.output []) (sym k))
      ])
      (λ n u z h. (h.0, Contains-append_left (take i ms) (get_or ms i d ∷ []) h.0 h.1, h.2, h.3, h.4))
      (λ n u z h. (get_or ms i d, Contains-push (take i ms) (get_or ms i d), h.0, h.1, h.2)) in
      subst (λ xs. G a c (AlongMoves r t xs)) (sym more) whole

  pub arcs_more : (a b c : S) (g : Cascaded) (t : Tuple) (row : List Arc) (i : ℕ) (d : Arc) → i < length row
      → G a b (AlongArcs g t (take i row)) → G b c (AlongArc g t (get_or row i d) (get_or row i d).input) → G a c (AlongArcs g t (take (i + 1) row))
  arcs_more a b c g t row i d l f h =
      let more : take (i + 1) row ≡ take i row ++ get_or row i d ∷ [] = take_more row i d l in
      let whole : G a c (AlongArcs g t (take i row ++ get_or row i d ∷ [])) = growth.joins a b c (AlongArcs g t (take i row)) (AlongArc g t (get_or row i d) (get_or row i d).input) (AlongArcs g t (take i row ++ get_or row i d ∷ [])) f h
      (λ n u z k. elim (Contains-push_cases (take i row) (get_or row i d) k.0 k.1) [
        | inl j ↦ inl (k.0, j, k.2)
        | inr j ↦ inr (subst (λ (a : Arc). AlongArc g t a a.input n u z) (sym j) k.2)
      ])
      (λ n u z k. (k.0, Contains-append_left (take i row) (get_or row i d ∷ []) k.0 k.1, k.2))
      (λ n u z k. (get_or row i d, Contains-push (take i row) (get_or row i d), k)) in
      subst (λ xs. G a c (AlongArcs g t xs)) (sym more) whole

  -- the same moves in another order
  pub moves_as : (a b : S) (r : ℕ) (t : Tuple) (all ms : List TupleArc) → IsPermutation all ms → G a b (AlongMoves r t ms) → G a b (AlongMoves r t all)
  moves_as a b r t all ms moved g = growth.says a b (AlongMoves r t ms) (AlongMoves r t all) g (λ n u z. (
    λ h. (h.0, Contains-permutation all ms h.0 moved h.1, h.2, h.3, h.4),
    λ h. (h.0, Contains-permutation ms all h.0 (IsPermutation-sym all ms moved) h.1, h.2, h.3, h.4),
  ))

-- a filter's elements
kept_from : {A : Type 0} (p : A → Bool) (xs : List A) (a : A) → Contains (filter p xs) a → Contains xs a × (p a ≡ true)
kept_from {A} p [] a h = absurd (omega (arith, h.1))
kept_from {A} p (x ∷ xs) a h = go (λ h. kept_from p xs a h) (p x) refl h where
  go : (Contains (filter p xs) a → Contains xs a × (p a ≡ true)) → (t : Bool) → p x ≡ t → Contains (cond t (x ∷ filter p xs) (filter p xs)) a → Contains (x ∷ xs) a × (p a ≡ true)
  go rest true e h = elim (contains_cases x (filter p xs) a h) [
    | inl k ↦ (let r = rest k in (contains_later x xs a r.0, r.1))
    | inr k ↦ (subst (Contains (x ∷ xs)) (sym k) (contains_first x xs), ap p k ∙ e)
  ]
  go rest false e h = let r = rest h in (contains_later x xs a r.0, r.1)

kept_to : {A : Type 0} (p : A → Bool) (xs : List A) (a : A) → Contains xs a → p a ≡ true → Contains (filter p xs) a
kept_to {A} p [] a h e = absurd (omega (arith, h.1))
kept_to {A} p (x ∷ xs) a h e = elim (contains_cases x xs a h) [
  | inl k ↦ go (p x) (kept_to p xs a k e)
  | inr k ↦ subst (λ t. Contains (cond t (x ∷ filter p xs) (filter p xs)) a) (sym (ap p (sym k) ∙ e)) (subst (Contains (x ∷ filter p xs)) (sym k) (contains_first x (filter p xs)))
] where
  go : (t : Bool) → Contains (filter p xs) a → Contains (cond t (x ∷ filter p xs) (filter p xs)) a
  go true r = contains_later x (filter p xs) a r
  go false r = r

pub at_place : {A : Type 0} (xs : List A) (k : ℕ) (a : A) → slice_get xs k ≡ Some a → Contains xs a
at_place xs k a h = (k, slice_get_within xs k a h, get_or_from_slice_get xs k a a h)

place_of : {A : Type 0} (xs : List A) (a : A) → Contains xs a → (k : ℕ) × (slice_get xs k ≡ Some a)
place_of xs a h = (h.0, slice_get-get_or xs h.0 a h.1 ∙ ap Some h.2)

-- the edges of a node are those of the tuple alone, those along each arc of the source, and the end
module _ (m : Machine) (c : Cascaded) (q : ℕ) (t : Tuple) where
  abbrev pub Own : Leading
  Own = AlongMoves q t (moves_on c t 0)

  abbrev pub Parts : Leading
  Parts n u z = Own n u z ⊎ (AlongArcs c t (get_or m.arcs q []) n u z ⊎ AtEnd c t (final_of m.finals q) n u z)

  -- a move that reads this label
  on_label : (k : ℕ) (b : TupleArc) → slice_get (moves_of c t) k ≡ Some b → (i : ℕ) → b.input ≡ i → Contains (moves_on c t i) b
  on_label k b is i f = kept_to (λ (b : TupleArc). nat_eq b.input i) (moves_of c t) b (at_place (moves_of c t) k b is) (eq-eqb b.input i f)

  to_parts : (n : Node) (u : ℕ) (z : List ℕ) → Steps m c (At q t) n u z → Parts n u z
  to_parts End u z e = inr (inr (record { node = refl; final = e.last; source = e.source; tuple = e.node; output = e.output }))
  to_parts (At r v) u z (inl e) = inr (inl (e.arc, at_place (get_or m.arcs q []) e.place e.arc e.is, subst (λ i. AlongArc c t e.arc i (At r v) u z) (sym e.input) (ap (λ s. At s v) e.state ∙ ap (At e.arc.next) e.node, e.weight, e.output)))
  to_parts (At r v) u z (inr e) = go e.arc.input refl e.source where
    go : (i : ℕ) → e.arc.input ≡ i → Follows m q e.arc.input r → Parts (At r v) u z
    go zero f s =
        let there : r ≡ q = subst (λ i. Follows m q i r) f s in
        inl (e.arc, on_label e.place e.arc e.is 0 f, ap (λ s. At s v) there ∙ ap (At q) e.node, e.weight, e.output)
    go (suc i) f s =
        let there = subst (λ i. Follows m q i r) f s in
        let along : AlongMoves there.1.next t (moves_on c t (suc i)) (At r v) u z = (e.arc, on_label e.place e.arc e.is (suc i) f, ap (λ s. At s v) there.4 ∙ ap (At there.1.next) e.node, e.weight, e.output) in
        inr (inl (there.1, at_place (get_or m.arcs q []) there.0 there.1 there.2, subst (λ j. AlongArc c t there.1 j (At r v) u z) (sym there.3) along))

  from_move : (r : ℕ) (i : ℕ) (n : Node) (u : ℕ) (z : List ℕ) → Follows m q i r → AlongMoves r t (moves_on c t i) n u z → Steps m c (At q t) n u z
  from_move r i n u z f h =
      let k = kept_from (λ (b : TupleArc). nat_eq b.input i) (moves_of c t) h.0 h.1 in
      let same : h.0.input ≡ i = eqb-true h.0.input i k.1 in
      let p = place_of (moves_of c t) h.0 k.0 in
      let edge : Steps m c (At q t) (At r (next_of t h.0)) u z = inr (record { place = p.0; arc = h.0; is = p.1; source = subst (λ j. Follows m q j r) (sym same) f; node = refl; weight = h.3; output = h.4 }) in
      subst (λ o. Steps m c (At q t) o u z) (sym h.2) edge

  from_arc : (k : ℕ) (a : Arc) (n : Node) (u : ℕ) (z : List ℕ) → IsArc m.arcs q k a → (i : ℕ) → a.input ≡ i → AlongArc c t a i n u z → Steps m c (At q t) n u z
  from_arc k a n u z is zero e h =
      let edge : Steps m c (At q t) (At a.next t) u z = inl (record { place = k; arc = a; is = is; input = e; state = refl; node = refl; weight = h.1; output = h.2 }) in
      subst (λ o. Steps m c (At q t) o u z) (sym h.0) edge
  from_arc k a n u z is (suc i) e h = from_move a.next (suc i) n u z (k, a, is, e, refl) h

  from_parts : (n : Node) (u : ℕ) (z : List ℕ) → Parts n u z → Steps m c (At q t) n u z
  from_parts n u z (inl h) = from_move q 0 n u z refl h
  from_parts n u z (inr (inl h)) = let p = place_of (get_or m.arcs q []) h.0 h.1 in from_arc p.0 h.0 n u z p.1 h.0.input refl h.2
  from_parts n u z (inr (inr h)) = subst (λ o. Steps m c (At q t) o u z) (sym h.node) (record { last = h.final; source = h.source; node = h.tuple; output = h.output })

  -- one after another they are all
  pub steps_whole : {S : Type 0} {G : S → S → Leading → Type 0} (growth : IsGrowth G) (a b d e : S) → G a b Own → G b d (AlongArcs c t (get_or m.arcs q [])) → G d e (AtEnd c t (final_of m.finals q)) → G a e (Steps m c (At q t))
  steps_whole {S} {G} growth a b d e f h k =
      let later : G b e (λ n u z. AlongArcs c t (get_or m.arcs q []) n u z ⊎ AtEnd c t (final_of m.finals q) n u z) = growth.joins b d e (AlongArcs c t (get_or m.arcs q [])) (AtEnd c t (final_of m.finals q)) (λ n u z. AlongArcs c t (get_or m.arcs q []) n u z ⊎ AtEnd c t (final_of m.finals q) n u z) h k (λ n u z e. e) (λ n u z e. inl e) (λ n u z e. inr e) in
      let all : G a e Parts = growth.joins a b e Own (λ n u z. AlongArcs c t (get_or m.arcs q []) n u z ⊎ AtEnd c t (final_of m.finals q) n u z) Parts f later (λ n u z e. e) (λ n u z e. inl e) (λ n u z e. inr e) in
      growth.says a e Parts (Steps m c (At q t)) all (λ n u z. (to_parts n u z, from_parts n u z))

pub along_zero : (c : Cascaded) (t : Tuple) (a : Arc) (i : ℕ) → i ≡ 0 → (n : Node) (u : ℕ) (z : List ℕ) → AlongArc c t a i n u z ↔ IsEdge (At a.next t) 0 [] n u z
along_zero c t a i e n u z = (λ h. subst (λ j. AlongArc c t a j n u z) e h, λ h. subst (λ j. AlongArc c t a j n u z) (sym e) h)

pub along_some : (c : Cascaded) (t : Tuple) (a : Arc) (i : ℕ) → (i ≡ 0 → ⊥) → (n : Node) (u : ℕ) (z : List ℕ) → AlongArc c t a i n u z ↔ AlongMoves a.next t (moves_on c t i) n u z
along_some c t a zero ne n u z = absurd (ne refl)
along_some c t a (suc i) ne n u z = (λ h. h, λ h. h)

pub at_end_edge : (c : Cascaded) (t : Tuple) (last : Option ℕ) (v w : ℕ) → last ≡ Some v → end_of c t ≡ Some w → (n : Node) (u : ℕ) (z : List ℕ) → AtEnd c t last n u z ↔ IsEdge End w [] n u z
at_end_edge c t last v w e f n u z = (
  λ h. (h.node, (let k : Some u ≡ Some w = sym h.tuple ∙ f in let s : u ≡ w = cc in s), h.output),
  λ h. record { node = h.0; final = v; source = e; tuple = f ∙ ap Some (sym h.1); output = h.2 },
)

pub not_at_end : (c : Cascaded) (t : Tuple) (last : Option ℕ) → (last ≡ None) ⊎ (end_of c t ≡ None) → (n : Node) (u : ℕ) (z : List ℕ) → AtEnd c t last n u z → ⊥
not_at_end c t last (inl e) n u z h = (let k : None ≡ Some h.final = sym e ∙ h.source in cc)
not_at_end c t last (inr e) n u z h = (let k : None ≡ Some u = sym e ∙ h.tuple in cc)
