-- A combination moves in one way.
use Rattle.std.specs.Prelude.{◌≡◌, ℕ, ◌+◌, List, [], ◌∷◌, Some}
use Rattle.std.proofs.Common.{refl, sym, ◌∙◌, ap}
use Rattle.weighted_relations.specs.declared.Arc.{Arc}
use Rattle.weighted_relations.specs.Machines.{Machine, IsArc}
use Rattle.compose_filter.specs.declared.filters.Filter.{Filter}
use Rattle.compose_filter.specs.declared.filters.Filter.TheVariants.{Open}
use Rattle.compose_filter.specs.ComposedPaths.{Combination, IsMove, only_moves, both_move, first_moves, second_moves}

pub record SameMove (i o w : ℕ) (rs : List ℕ) (gs : List Filter) (i' o' w' : ℕ) (rs' : List ℕ) (gs' : List Filter) : Type 0 where
  pub input : i ≡ i'
  pub output : o ≡ o'
  pub weight : w ≡ w'
  pub states : rs ≡ rs'
  pub filters : gs ≡ gs'

pub one_arc : (m : Machine) (q k : ℕ) {a b : Arc} → IsArc m.arcs q k a → IsArc m.arcs q k b → a ≡ b
one_arc m q n {a} {b} h k = let e : Some a ≡ Some b = sym h ∙ k in cc

pub one_move : {ms : List Machine} {qs : List ℕ} {fs : List Filter} {c : Combination} {i o w i' o' w' : ℕ} {rs rs' : List ℕ} {gs gs' : List Filter} → IsMove ms qs fs c i o w rs gs → IsMove ms qs fs c i' o' w' rs' gs' → SameMove i o w rs gs i' o' w' rs' gs'
one_move (only_moves {m} {q} {k = n} {a} h) (only_moves {a = b} k) =
    let e : a ≡ b = one_arc m q n h k in
    record { input = ap (λ (t : Arc). t.input) e; output = ap (λ (t : Arc). t.output) e; weight = ap (λ (t : Arc). t.weight) e; states = ap (λ (t : Arc). t.next ∷ []) e; filters = refl }
one_move (both_move {m} {q} {k = n} {w} {a} mv h d) (both_move {w = v} {rs = ss} {a = b} nv k g) =
    let e : a ≡ b = one_arc m q n h k in
    let s = one_move mv nv in
    record { input = s.input; output = ap (λ (t : Arc). t.output) e; weight = ap (λ n. n + a.weight) s.weight ∙ ap (λ (t : Arc). v + t.weight) e; states = ap (λ t. a.next ∷ t) s.states ∙ ap (λ (t : Arc). t.next ∷ ss) e; filters = ap (λ t. Open ∷ t) s.filters }
one_move (first_moves {q} mv) (first_moves nv) =
    let s = one_move mv nv in
    record { input = s.input; output = refl; weight = s.weight; states = ap (λ t. q ∷ t) s.states; filters = ap (λ t. Open ∷ t) s.filters }
one_move (second_moves {m} {q} {k = n} {qs} {a} h d) (second_moves {a = b} k g) =
    let e : a ≡ b = one_arc m q n h k in
    record { input = refl; output = ap (λ (t : Arc). t.output) e; weight = ap (λ (t : Arc). t.weight) e; states = ap (λ (t : Arc). t.next ∷ qs) e; filters = refl }
