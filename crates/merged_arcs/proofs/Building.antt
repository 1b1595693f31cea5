-- Sets and the states of their numbers, while they are made.
use Rattle.std.specs.Prelude.{◌≡◌, ℕ, ◌+◌, ◌<◌, ◌≤◌, ◌^◌, List, [], ◌∷◌, ◌++◌, Option, Some, length, get_or}
use Rattle.std.specs.List.{Contains}
use Rattle.std.proofs.Common.{refl, sym, ◌∙◌, ap, subst, inl, inr, arith}
use Rattle.std.proofs.lemmas.Bool.{cases_lt}
use Rattle.std.proofs.lemmas.List.{length_push, get_or_push, get_or_append_left, get_or_past}
use Rattle.std.proofs.lemmas.Option.{slice_get-get_or}
use Rattle.weighted_relations.specs.declared.Arc.{Arc}
use Rattle.weighted_relations.specs.Relations.{Same}
use Rattle.weighted_relations.specs.Machines.{Machine, ArcFits, WellFormed, Reads, final_of}
use Rattle.fst_core.specs.States.{States, as_machine, with_state, no_states}
use Rattle.fst_core.proofs.Fits.{no_arc, no_end}
use Rattle.state_table.specs.Numbers.{Numbers}
use Rattle.state_table.proofs.Numbering.{keeps_more, kept_at, numbers_within, stored_at, fresh_at}
use Rattle.merged_arcs.specs.Merged.{Alike, AllApart, IsMerged, Reached, IsArcOf, RowOf, RowMade, EndOf}
use Rattle.merged_arcs.proofs.Parting.{apart_none}
use Rattle.merged_arcs.proofs.Reaching.{reached_start, reached_more}
use Rattle.merged_arcs.proofs.Readings.{contains_at, one_in, same_readings}
use Rattle.merged_arcs.proofs.Runs.{row_kept}

-- the sets are of states of a, and the first ones have their states
pub record Building (a : Machine) (start : ℕ) (sets : List (List ℕ)) (b : States) : Type 0 where
  pub even : length b.finals ≡ length b.arcs
  pub more : length b.arcs ≤ length sets
  pub within : start < length sets
  pub first : get_or sets start [] ≡ a.start ∷ []
  pub states : (i : ℕ) → i < length sets → (t : ℕ) → Contains (get_or sets i []) t → t < length a.arcs
  pub reached : (i : ℕ) → i < length sets → Reached a (get_or sets i [])
  pub apart : (i : ℕ) → i < length b.arcs → AllApart (get_or b.arcs i [])
  pub rows : (i : ℕ) → i < length b.arcs → RowOf (IsArcOf a (get_or sets i [])) sets (get_or b.arcs i [])
  pub ends : (i : ℕ) → i < length b.arcs → EndOf a (get_or sets i []) (final_of b.finals i)

pub building_none : (a : Machine) (start : ℕ) (none sets : List (List ℕ)) (b : States) → WellFormed a → none ≡ [] → Numbers none sets (a.start ∷ []) start → b ≡ no_states → Building a start sets b
building_none a start none sets b sound empty add e = subst (Building a start sets) (sym e) (record {
  even = refl;
  more = omega arith;
  within = numbers_within add;
  first = stored_at add [];
  states = λ i l t h.
      let low : length none ≤ i = (let z : length none ≡ 0 = ap length empty in omega arith) in
      let q : t ≡ a.start = one_in a.start t (subst (λ v. Contains v t) (fresh_at add [] i low l) h) in
      subst (λ s. s < length a.arcs) (sym q) sound.start;
  reached = λ i l.
      let low : length none ≤ i = (let z : length none ≡ 0 = ap length empty in omega arith) in
      subst (Reached a) (sym (fresh_at add [] i low l)) (reached_start a);
  apart = λ i l. absurd (omega (arith, l));
  rows = λ i l. absurd (omega (arith, l));
  ends = λ i l. absurd (omega (arith, l));
})

fits : (a : Machine) (set : List ℕ) (y : Arc) → WellFormed a → IsArcOf a set y → ArcFits (length a.arcs) y
fits a set y sound h = sound.arcs h.0 h.2.0 y (slice_get-get_or (get_or a.arcs h.0 []) h.2.0 y h.2.1 ∙ ap Some h.2.2)

module _ (a : Machine) (start : ℕ) (sets new : List (List ℕ)) (b : States) (n : ℕ) (row : List Arc) (last : Option ℕ)
    (sound : WellFormed a) (had : Building a start sets b) (count : n ≡ length b.arcs) (there : n < length sets)
    (end : EndOf a (get_or sets n []) last) (made : RowMade (IsArcOf a (get_or sets n [])) sets new row) (once : AllApart row) where
  moved : (i : ℕ) (r : List Arc) → i < length sets → RowOf (IsArcOf a (get_or sets i [])) new r → RowOf (IsArcOf a (get_or new i [])) new r
  moved i r l h = subst (λ v. RowOf (IsArcOf a v) new r) (sym (kept_at [] made.keeps i l)) h

  ended : (i : ℕ) (o : Option ℕ) → i < length sets → EndOf a (get_or sets i []) o → EndOf a (get_or new i []) o
  ended i o l h = subst (λ v. EndOf a v o) (sym (kept_at [] made.keeps i l)) h

  pub building_more : Building a start new (with_state b row last)
  building_more =
      let even : length b.finals ≡ length b.arcs = had.even in
      let more : length b.arcs ≤ length sets = had.more in
      let grows : length sets ≤ length new = keeps_more made.keeps in
      let from : start < length sets = had.within in
      let arcs : length (b.arcs ++ row ∷ []) ≡ length b.arcs + 1 = length_push b.arcs row in
      let finals : length (b.finals ++ last ∷ []) ≡ length b.finals + 1 = length_push b.finals last in
      record {
        even = omega arith;
        more = omega arith;
        within = omega arith;
        first = kept_at [] made.keeps start from ∙ had.first;
        states = λ i l t h. elim (cases_lt i (length sets)) [
          | inl low ↦ had.states i low t (subst (λ v. Contains v t) (kept_at [] made.keeps i low) h)
          | inr high ↦
              let q = ((made.only i high l).1.all t).0 h in
              subst (λ s. s < length a.arcs) q.next (fits a (get_or sets n []) q.arc sound q.is).next
        ];
        reached = λ i l. elim (cases_lt i (length sets)) [
          | inl low ↦ subst (Reached a) (sym (kept_at [] made.keeps i low)) (had.reached i low)
          | inr high ↦ let g = made.only i high l in reached_more a (get_or sets n []) (get_or new i []) g.0 (had.reached n there) g.1
        ];
        apart = λ i l. elim (cases_lt i (length b.arcs)) [
          | inl low ↦ subst AllApart (sym (get_or_append_left b.arcs (row ∷ []) [] i low)) (had.apart i low)
          | inr high ↦
              let is : length b.arcs ≡ i = omega arith in
              subst AllApart (sym (get_or_push b.arcs row [] i is)) once
        ];
        rows = λ i l. elim (cases_lt i (length b.arcs)) [
          | inl low ↦
              subst (RowOf (IsArcOf a (get_or new i [])) new) (sym (get_or_append_left b.arcs (row ∷ []) [] i low))
              (moved i (get_or b.arcs i []) (omega arith) (row_kept (IsArcOf a (get_or sets i [])) sets new (get_or b.arcs i []) made.keeps (had.rows i low)))
          | inr high ↦
              let is : length b.arcs ≡ i = omega arith in
              let at : n ≡ i = omega arith in
              subst (RowOf (IsArcOf a (get_or new i [])) new) (sym (get_or_push b.arcs row [] i is))
              (moved i row (omega arith) (subst (λ j. RowOf (IsArcOf a (get_or sets j [])) new row) at made.stands))
        ];
        ends = λ i l. elim (cases_lt i (length b.arcs)) [
          | inl low ↦
              subst (EndOf a (get_or new i [])) (sym (get_or_append_left b.finals (last ∷ []) _ i (omega arith)))
              (ended i (final_of b.finals i) (omega arith) (had.ends i low))
          | inr high ↦
              let is : length b.finals ≡ i = omega arith in
              let at : n ≡ i = omega arith in
              subst (EndOf a (get_or new i [])) (sym (get_or_push b.finals last _ i is))
              (ended i last (omega arith) (subst (λ j. EndOf a (get_or sets j []) last) at end))
        ];
      }

module _ (a : Machine) (start : ℕ) (sets : List (List ℕ)) (b : States) (sound : WellFormed a) (had : Building a start sets b) (done : length sets ≤ length b.arcs) where
  arc_fits : (n : ℕ) (x y : Arc) → ArcFits n y → Alike x y → x.next < length b.arcs → ArcFits (length b.arcs) x
  arc_fits n x y f e l = record {
    input = subst (λ i. i ≤ 257) (sym e.input) f.input;
    output = subst (λ i. i ≤ 257) (sym e.output) f.output;
    weight = subst (λ i. i < 2 ^ 54) (sym e.weight) f.weight;
    next = l;
  }

  pub built_sound : WellFormed (as_machine start b)
  built_sound =
      let even : length b.finals ≡ length b.arcs = had.even in
      let from : start < length sets = had.within in
      record {
        finals = even;
        start = omega arith;
        arcs = λ s k x h. elim (cases_lt s (length b.arcs)) [
          | inl low ↦
              let r = (had.rows s low).sound x (contains_at (get_or b.arcs s []) k x h) in
              let l : x.next < length sets = r.within in
              arc_fits (length a.arcs) x r.some.0 (fits a (get_or sets s []) r.some.0 sound r.some.1) r.some.2 (omega arith)
          | inr high ↦ absurd (no_arc b.arcs s k x high h)
        ];
        weights = λ s w h. elim (cases_lt s (length b.arcs)) [
          | inl low ↦ let r = (had.ends s low).sound w h in sound.weights r.0 w r.2
          | inr high ↦ absurd (no_end b.finals s w (omega arith) h)
        ];
      }

  pub built_merged : IsMerged (as_machine start b)
  built_merged s = elim (cases_lt s (length b.arcs)) [
    | inl low ↦ had.apart s low
    | inr high ↦ subst AllApart (sym (get_or_past b.arcs s [] high)) apart_none
  ]

  pub built_reads : Same (Reads (as_machine start b)) (Reads a)
  built_reads = same_readings a (as_machine start b) (record {
    sets = sets;
    within = had.within;
    start = had.first;
    rows = λ i l. had.rows i (omega arith);
    ends = λ i l. had.ends i (omega arith);
  })
