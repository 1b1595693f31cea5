-- What a path over tuples reads, the first part reads.
use Rattle.std.specs.Prelude.{◌≡◌, ℕ, zero, suc, ◌+◌, List, [], ◌∷◌, get_or, length, false, true}
use Rattle.std.proofs.Common.{refl, sym, ◌∙◌, subst, arith}
use Rattle.weighted_relations.specs.Graphs.{label, GraphFrom, stop, step}
use Rattle.weighted_relations.specs.Machines.{Machine, From}
use Rattle.look_ahead.specs.Aheads.{Sets, IsAhead, may}
use Rattle.compose_filter.specs.declared.filters.Filter.{Filter}
use Rattle.compose_filter.specs.ComposedPaths.{Combination, IsMove, only_moves, both_move, first_moves, second_moves, Ends, only_ends, both_end, ComposedPath, end, go}
use Rattle.state_tuples.specs.declared.tuples.Tuple.{Tuple}
use Rattle.state_tuples.specs.Positions.{back}
use Rattle.state_tuples.specs.Cascades.{Cascaded, IsSound, tuple_graph, no_part}
use Rattle.state_tuples.specs.Calls.{ReadsNot}
use Rattle.state_tuples.proofs.TuplePaths.{composed_of}

-- the first part, which stands last, reads this from its state on
abbrev FirstReads : List Machine → List ℕ → List ℕ → Type 0
FirstReads (m ∷ []) (q ∷ qs) x = (y : List ℕ) × (w : ℕ) × From m q x y w
FirstReads (m ∷ n ∷ ms) (q ∷ qs) x = FirstReads (n ∷ ms) qs x
FirstReads _ _ x = ⊥

before_move : {ms : List Machine} {qs rs : List ℕ} {fs gs : List Filter} {c : Combination} {i o w : ℕ} → IsMove ms qs fs c i o w rs gs → (x : List ℕ) → FirstReads ms rs x → FirstReads ms qs (label i x)
before_move (only_moves {k} {a} h) x r = (label a.output r.0, a.weight + r.1, (k ∷ r.2.0, step h r.2.1))
before_move (both_move {ms = []} mv h e) x r = elim mv [ ]
before_move (both_move {ms = n ∷ ms} mv h e) x r = before_move mv x r
before_move (first_moves {ms = []} mv) x r = elim mv [ ]
before_move (first_moves {ms = n ∷ ms} mv) x r = before_move mv x r
before_move (second_moves {m} {ms = []} {q} {k} {a} h e) x r =
    let reads : From m q (label a.input x) (label a.output r.0) (a.weight + r.1) = (k ∷ r.2.0, step h r.2.1) in
    (label a.output r.0, a.weight + r.1, subst (λ i. From m q (label i x) (label a.output r.0) (a.weight + r.1)) e reads)
before_move (second_moves {ms = n ∷ ms} h e) x r = r

at_ends : {ms : List Machine} {qs : List ℕ} {fs : List Filter} {w : ℕ} → Ends ms qs fs w → FirstReads ms qs []
at_ends (only_ends {w} h) = ([], w, ([], stop h))
at_ends (both_end {ms = []} h e) = elim h [ ]
at_ends (both_end {ms = n ∷ ms} h e) = at_ends h

on_path : {ms : List Machine} {qs : List ℕ} {fs : List Filter} {cs : List Combination} {x y : List ℕ} {w : ℕ} → ComposedPath ms qs fs cs x y w → FirstReads ms qs x
on_path (end h) = at_ends h
on_path (go {x} mv rest) = before_move mv x (on_path rest)

-- the first part of a tuple
of_tuple : (parts : List Machine) (states : List ℕ) (k : ℕ) (x : List ℕ) → FirstReads (back no_part parts (suc k)) (back 0 states (suc k)) x → (y : List ℕ) × (w : ℕ) × From (get_or parts 0 no_part) (get_or states 0 0) x y w
of_tuple parts states zero x h = h
of_tuple parts states (suc k) x h = of_tuple parts states k x h

first_reads : (c : Cascaded) → IsSound c → (t : Tuple) (x y : List ℕ) (w : ℕ) → GraphFrom (tuple_graph c) t x y w → (y' : List ℕ) × (w' : ℕ) × From (get_or c.parts 0 no_part) (get_or t.states 0 0) x y' w'
first_reads c sound t x y w h = go (length c.parts) refl where
  go : (n : ℕ) → length c.parts ≡ n → (y' : List ℕ) × (w' : ℕ) × From (get_or c.parts 0 no_part) (get_or t.states 0 0) x y' w'
  go zero e = (let some = sound.some in absurd (omega arith))
  go (suc k) e =
      let path = composed_of c sound h.1 in
      of_tuple c.parts t.states k x (subst (λ n. FirstReads (back no_part c.parts n) (back 0 t.states n) x) e (on_path path.1))

-- what a set of the first part lacks, no path from the tuple reads next
pub lacks : (c : Cascaded) → IsSound c → (t : Tuple) (label : ℕ) (sets : Sets) → IsAhead (get_or c.parts 0 no_part) sets → may sets (get_or t.states 0 0) label ≡ false → ReadsNot c t label
lacks c sound t label sets ahead lack x y w h first =
    let r = first_reads c sound t x y w h in
    let has : may sets (get_or t.states 0 0) label ≡ true = ahead (get_or t.states 0 0) label (record { input = x; output = r.0; weight = r.1; reads = r.2; first = first }) in
    let clash : true ≡ false = sym has ∙ lack in
    absurd (cc)
