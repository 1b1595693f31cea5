-- The moves of a cascade lead from its tuples to its tuples, and its weights are small.
use Rattle.std.specs.Prelude.{◌≡◌, ◌<◌, ◌≤◌, ℕ, zero, suc, ◌-◌, ◌*◌, ◌^◌, List, [], ◌∷◌, Some, slice_get, get_or, length}
use Rattle.std.proofs.Common.{refl, sym, ◌∙◌, subst, arith}
use Rattle.std.proofs.lemmas.List.Elements.{All-get_or}
use Rattle.weighted_relations.specs.Machines.{Machine, WellFormed, final_of}
use Rattle.compose_filter.specs.declared.filters.Filter.{Filter}
use Rattle.compose_filter.specs.declared.filters.Filter.TheVariants.{Open}
use Rattle.compose_filter.specs.ComposedPaths.{Combination, IsMove, only_moves, both_move, first_moves, second_moves, starts, all_open}
use Rattle.compose_filter.proofs.Numbering.{finals_of}
use Rattle.state_tuples.specs.declared.tuples.Tuple.{Tuple}
use Rattle.state_tuples.specs.declared.tuples.TupleArc.{TupleArc}
use Rattle.state_tuples.specs.Positions.{back, bits, padded}
use Rattle.compose_filter.specs.Expansions.{expansion, finality}
use Rattle.state_tuples.specs.Cascades.{Cascaded, IsSound, IsOf, no_part, backwards, position_of, first_tuple, moves_of, end_of, tuple_arc}
use Rattle.state_tuples.specs.Bounds.{MoveFits, IsClosed}
use Rattle.compose_filter.proofs.Named.{step_moves, from_map}
use Rattle.state_tuples.proofs.Lengths.{Lengths, longer, move_lengths}
use Rattle.state_tuples.proofs.Places.{Placed, placed, placed_states, length_back, length_filters, length_padded, padded_past, bits_small}

-- a move of some parts
record Fits (ms : List Machine) (i o w : ℕ) (rs : List ℕ) : Type 0 where
  input : i ≤ 257
  output : o ≤ 257
  weight : w < length ms * 2 ^ 54
  states : Placed ms rs

move_fits : {ms : List Machine} {qs rs : List ℕ} {fs gs : List Filter} {c : Combination} {i o w : ℕ}
    → Placed ms qs → IsMove ms qs fs c i o w rs gs → Fits ms i o w rs
move_fits p (only_moves {q} {k} {a} h) =
    let x = p.0.arcs q k a h in
    record { input = x.input; output = x.output; weight = x.weight; states = (p.0, x.next, tt) }
move_fits p (both_move {q} {k} {a} mv h e) =
    let r = move_fits p.2 mv in
    let x = p.0.arcs q k a h in
    record { input = r.input; output = x.output; weight = omega arith; states = (p.0, x.next, r.states) }
move_fits p (first_moves mv) =
    let r = move_fits p.2 mv in
    record { input = r.input; output = omega arith; weight = omega arith; states = (p.0, p.1, r.states) }
move_fits p (second_moves {q} {k} {a} h e) =
    let x = p.0.arcs q k a h in
    record { input = omega arith; output = x.output; weight = omega arith; states = (p.0, x.next, p.2) }

ends_small : (ms : List Machine) (qs : List ℕ) (w : ℕ) → Placed ms qs → finality ms qs ≡ Some w → w < length ms * 2 ^ 54
ends_small [] qs w p e = absurd (cc)
ends_small (m ∷ ms) [] w p e = absurd p
ends_small (m ∷ []) (q ∷ []) w p e = p.0.weights q w e
ends_small (m ∷ []) (q ∷ r ∷ qs) w p e = absurd p.2
ends_small (m ∷ n ∷ ms) (q ∷ qs) w p e =
    let s = finals_of (finality (n ∷ ms) qs) (final_of m.finals q) w e in
    let u = ends_small (n ∷ ms) qs s.u p.2 s.first in
    let v = p.0.weights q s.v s.second in
    let sum = s.weight in
    omega arith

start_lengths : (m : Machine) (ms : List Machine) → Lengths (m ∷ ms) (starts (m ∷ ms)) (all_open (m ∷ ms))
start_lengths m [] = record { states = refl; filters = refl }
start_lengths m (n ∷ ms) = longer m m.start Open (start_lengths n ms)

-- the start of any parts but none
pub starts_lengths : (ms : List Machine) → 0 < length ms → Lengths ms (starts ms) (all_open ms)
starts_lengths [] l = absurd (omega arith)
starts_lengths (m ∷ ms) l = start_lengths m ms

pub open_bits : (ms : List Machine) → bits (all_open ms) ≡ 0
open_bits [] = refl
open_bits (m ∷ []) = refl
open_bits (m ∷ n ∷ ms) = (let h = open_bits (n ∷ ms) in omega arith)

start_placed : (parts : List Machine) (n : ℕ)
    → ((k : ℕ) → k < n → WellFormed (get_or parts k no_part)) → Placed (back no_part parts n) (starts (back no_part parts n))
start_placed parts zero sound = tt
start_placed parts (suc n) sound = (let m = sound n (omega arith) in (m, m.start, start_placed parts n (λ k l. sound k (omega arith))))

module _ (c : Cascaded) (sound : IsSound c) where
  count : length (backwards c) ≡ length c.parts
  count = length_back no_part c.parts (length c.parts)

  part_sound : (k : ℕ) → k < length c.parts → WellFormed (get_or c.parts k no_part)
  part_sound k l = All-get_or WellFormed c.parts k no_part l sound.parts

  -- the position of a tuple
  pub position_lengths : (t : Tuple) → Lengths (backwards c) (position_of c t).states (position_of c t).filters
  position_lengths t =
      let some = sound.some in
      let f = length_filters t.filters (length c.parts - 1) in
      let n = count in
      record { states = length_back 0 t.states (length c.parts) ∙ sym n; filters = omega arith }

  position_placed : (t : Tuple) → IsOf c t → Placed (backwards c) (position_of c t).states
  position_placed t h = placed c.parts t.states (length c.parts) part_sound h.states

  -- the tuple of a position
  tuple_of : (number : ℕ) (qs : List ℕ) (fs : List Filter)
      → number ≡ c.number → Lengths (backwards c) qs fs → Placed (backwards c) qs
      → IsOf c (record { cascade = number; states = padded qs; filters = bits fs })
  tuple_of number qs fs same l p =
      let n = count in
      let s = l.states in
      let f = l.filters in
      let few : length fs ≡ length c.parts - 1 = omega arith in
      record {
        number = same;
        width = length_padded qs;
        states = placed_states c.parts (length c.parts) qs sound.few p;
        past = λ k m. padded_past qs k (omega arith);
        filters = subst (λ i. bits fs < 2 ^ i) few (bits_small fs);
      }

  start_is_of : IsOf c (first_tuple c)
  start_is_of =
      let ms = backwards c in
      let some = sound.some in
      let n = count in
      let h = tuple_of c.number (starts ms) (all_open ms) refl (starts_lengths ms (omega arith)) (start_placed c.parts (length c.parts) part_sound) in
      subst (λ f. IsOf c (record { cascade = c.number; states = padded (starts ms); filters = f })) (open_bits ms) h

  move_closed : (t : Tuple) (k : ℕ) (a : TupleArc) → IsOf c t → slice_get (moves_of c t) k ≡ Some a → MoveFits c t a
  move_closed t k a h e =
      let ms = backwards c in
      let p = position_of c t in
      let s = from_map tuple_arc (expansion ms p.states p.filters) k a e in
      let mv = step_moves ms p.states p.filters s.0 (k, s.1) in
      let f = move_fits (position_placed t h) mv.1 in
      let few = sound.few in
      let n = count in
      let weight : s.0.weight < length ms * 2 ^ 54 = f.weight in
      subst (MoveFits c t) s.2 (record {
        input = f.input;
        output = f.output;
        weight = omega arith;
        next = tuple_of t.cascade s.0.next.states s.0.next.filters h.number (move_lengths (position_lengths t) mv.1) f.states;
      })

  end_small : (t : Tuple) (w : ℕ) → IsOf c t → end_of c t ≡ Some w → w < 2 ^ 56
  end_small t w h e =
      let small = ends_small (backwards c) (position_of c t).states w (position_placed t h) e in
      let few = sound.few in
      let n = count in
      omega arith

  pub tuples_are_closed : IsClosed c
  tuples_are_closed = record { start = start_is_of; moves = move_closed; ends = end_small }
