-- The paths over the tuples of a cascade are its composed paths.
use Rattle.std.specs.Prelude.{◌≡◌, ℕ, ◌+◌, ◌-◌, List, [], ◌∷◌, Some, slice_get, length}
use Rattle.std.proofs.Common.{sym, ◌∙◌, ap, subst, arith}
use Rattle.weighted_relations.specs.Relations.{Same}
use Rattle.weighted_relations.specs.RelationLaws.{same_trans}
use Rattle.weighted_relations.specs.Graphs.{label, GraphPath, stop, step, GraphFrom, GraphReads}
use Rattle.weighted_relations.specs.Machines.{Machine, final_of}
use Rattle.compose_filter.specs.declared.filters.Filter.{Filter}
use Rattle.compose_filter.specs.ComposedPaths.{Combination, Ends, only_ends, both_end, ComposedPath, end, go, starts, all_open}
use Rattle.compose_filter.specs.Compositions.{both_final}
use Rattle.compose_filter.proofs.Numbering.{finals_of}
use Rattle.state_tuples.specs.declared.tuples.Tuple.{Tuple}
use Rattle.state_tuples.specs.declared.tuples.TupleArc.{TupleArc}
use Rattle.state_tuples.specs.Positions.{back, bits, filters_of, padded}
use Rattle.compose_filter.specs.declared.steps.Step.{Step}
use Rattle.compose_filter.specs.Expansions.{Position, expansion, finality}
use Rattle.state_tuples.specs.Cascades.{Cascaded, IsSound, backwards, position_of, first_tuple, next_of, tuple_arc, tuple_graph, ReadsItsParts, no_part}
use Rattle.compose_filter.proofs.Named.{step_moves, moves_step, from_map, to_map}
use Rattle.state_tuples.proofs.Lengths.{Lengths, shorter, move_lengths}
use Rattle.state_tuples.proofs.Places.{states_again, filters_again, length_back}
use Rattle.state_tuples.proofs.ClosedTuples.{position_lengths, starts_lengths, open_bits}
use Rattle.state_tuples.proofs.PartReadings.{ComposedReads, composed_is_cascade}

ends_of : (ms : List Machine) (qs : List ℕ) (fs : List Filter) (w : ℕ) → Lengths ms qs fs → finality ms qs ≡ Some w → Ends ms qs fs w
ends_of [] qs fs w l e = absurd (cc)
ends_of (m ∷ []) [] fs w l e = absurd (cc)
ends_of (m ∷ []) (q ∷ []) [] w l e = only_ends e
ends_of (m ∷ []) (q ∷ []) (f ∷ fs) w l e = (let h = l.filters in absurd (cc))
ends_of (m ∷ []) (q ∷ p ∷ qs) fs w l e = absurd (cc)
ends_of (m ∷ n ∷ ms) [] fs w l e = absurd (cc)
ends_of (m ∷ n ∷ ms) (q ∷ qs) [] w l e = (let h = l.filters in absurd (cc))
ends_of (m ∷ n ∷ ms) (q ∷ qs) (f ∷ fs) w l e =
    let r = finals_of (finality (n ∷ ms) qs) (final_of m.finals q) w e in
    subst (Ends (m ∷ n ∷ ms) (q ∷ qs) (f ∷ fs)) r.weight (both_end (ends_of (n ∷ ms) qs fs r.u (shorter (n ∷ ms) qs fs l) r.first) r.second)

finality_of : {ms : List Machine} {qs : List ℕ} {fs : List Filter} {w : ℕ} → Ends ms qs fs w → finality ms qs ≡ Some w
finality_of (only_ends h) = h
finality_of (both_end {ms = []} h e) = elim h [ ]
finality_of (both_end {m} {ms = n ∷ ms} {q} {w} h e) = ap (λ o. both_final o (final_of m.finals q)) (finality_of h) ∙ ap (both_final (Some w)) e

module _ (c : Cascaded) (sound : IsSound c) where
  -- a tuple that is written from a position is there
  place_again : (number : ℕ) (qs : List ℕ) (fs : List Filter) → Lengths (backwards c) qs fs
      → position_of c (record { cascade = number; states = padded qs; filters = bits fs }) ≡ record { states = qs; filters = fs }
  place_again number qs fs l =
      let n = length_back no_part c.parts (length c.parts) in
      let few = sound.few in
      let f = l.filters in
      let a : length qs ≡ length c.parts = l.states ∙ n in
      let b : length fs ≡ length c.parts - 1 = omega arith in
      let states : back 0 (padded qs) (length c.parts) ≡ qs = subst (λ k. back 0 (padded qs) k ≡ qs) a (states_again qs (omega arith)) in
      let filters : filters_of (bits fs) (length c.parts - 1) ≡ fs = subst (λ k. filters_of (bits fs) k ≡ fs) b (filters_again fs) in
      rw (states, filters)

  -- the composed paths from a position
  abbrev pub PathsFrom : List ℕ → List ℕ → ℕ → Position → Type 0
  PathsFrom x y w p = (cs : List Combination) × ComposedPath (backwards c) p.states p.filters cs x y w

  pub composed_of : {t : Tuple} {ks x y : List ℕ} {w : ℕ} → GraphPath (tuple_graph c) t ks x y w → PathsFrom x y w (position_of c t)
  composed_of (stop {s = t} {w} e) =
      let p = position_of c t in
      ([], end (ends_of (backwards c) p.states p.filters w (position_lengths c sound t) e))
  composed_of (step {s = t} {k} {ks} {a} {x} {y} {w} e path) =
      let ms = backwards c in
      let p = position_of c t in
      let s = from_map tuple_arc (expansion ms p.states p.filters) k a e in
      let mv = step_moves ms p.states p.filters s.0 (k, s.1) in
      let to = move_lengths (position_lengths c sound t) mv.1 in
      let after = subst (λ (b : TupleArc). PathsFrom x y w (position_of c (next_of t b))) (sym s.2) (composed_of path) in
      let rest : PathsFrom x y w s.0.next = subst (PathsFrom x y w) (place_again t.cascade s.0.next.states s.0.next.filters to) after in
      subst (λ (b : TupleArc). PathsFrom (label b.input x) (label b.output y) (b.weight + w) p) s.2 (mv.0 ∷ rest.0, go mv.1 rest.1)

  path_of : {qs : List ℕ} {fs : List Filter} {cs : List Combination} {x y : List ℕ} {w : ℕ}
      → ComposedPath (backwards c) qs fs cs x y w → (t : Tuple) → position_of c t ≡ record { states = qs; filters = fs } → GraphFrom (tuple_graph c) t x y w
  path_of (end h) t at = ([], stop (ap (λ (p : Position). finality (backwards c) p.states) at ∙ finality_of h))
  path_of (go {qs} {rs} {fs} {gs} {i} {o} {w} mv rest) t at =
      let ms = backwards c in
      let s : Step Position = record { input = i; output = o; weight = w; next = record { states = rs; filters = gs } } in
      let here : Lengths ms qs fs = subst (λ (p : Position). Lengths ms p.states p.filters) at (position_lengths c sound t) in
      let k = moves_step (sym here.filters) mv in
      let listed = ap (λ (p : Position). slice_get (expansion ms p.states p.filters) k.0) at ∙ k.1 in
      let arc = to_map tuple_arc (expansion ms (position_of c t).states (position_of c t).filters) k.0 s listed in
      let r = path_of rest (next_of t (tuple_arc s)) (place_again t.cascade rs gs (move_lengths here mv)) in
      (k.0 ∷ r.0, step arc r.1)

  first_place : position_of c (first_tuple c) ≡ record { states = starts (backwards c); filters = all_open (backwards c) }
  first_place =
      let ms = backwards c in
      let first : Position = record { states = starts ms; filters = all_open ms } in
      let some = sound.some in
      let n = length_back no_part c.parts (length c.parts) in
      let again = place_again c.number (starts ms) (all_open ms) (starts_lengths ms (omega arith)) in
      subst (λ f. position_of c (record { cascade = c.number; states = padded (starts ms); filters = f }) ≡ first) (open_bits ms) again

  graph_is_composed : Same (GraphReads (tuple_graph c)) (ComposedReads (backwards c))
  graph_is_composed x y w = (λ h. subst (PathsFrom x y w) first_place (composed_of h.1), λ h. path_of h.1 (first_tuple c) first_place)

  pub reads_its_parts : ReadsItsParts c
  reads_its_parts = same_trans _ _ _ graph_is_composed (composed_is_cascade c.parts sound.some)
