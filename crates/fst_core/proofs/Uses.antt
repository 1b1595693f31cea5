-- The states that are kept read the same.
use Rattle.std.proofs.Common.{◌≡◌, ◌↔◌, ◌⊎◌, ℕ, ◌+◌, ◌<◌, Bool, false, List, [], ◌∷◌, ◌++◌, length, get_or, None, refl, sym, ◌∙◌, ap, subst, inl, inr, arith, length-append, true≢false}
use Rattle.std.specs.Prelude.{slice_get}
use Rattle.std.specs.List.{Contains, filter_map}
use Rattle.std.proofs.lemmas.Bool.{cases_lt}
use Rattle.std.proofs.lemmas.List.{get_or_append_left, get_or_push, get_or_past}
use Rattle.weighted_relations.specs.declared.Arc.{Arc}
use Rattle.weighted_relations.specs.Relations.{Same}
use Rattle.weighted_relations.specs.Graphs.{stop, step, label}
use Rattle.weighted_relations.specs.Machines.{Machine, Path, IsArc, From, Reads, final_of, ArcFits, WellFormed}
use Rattle.fst_core.specs.declared.search.Follow.TheVariants.{Every}
use Rattle.fst_core.specs.States.{States, with_state}
use Rattle.fst_core.specs.Turned.{InRow}
use Rattle.fst_core.specs.Reach.{Leads, here, on, Found, Reached}
use Rattle.fst_core.specs.Useful.{IsAlive, IsUseful, IsTrimmed, IsTrimOf, IsKept, rank, renumbered, to_kept, KeptTo, KeptStates, KeptRow}
use Rattle.fst_core.proofs.Searches.{contains_from, contains_at}
use Rattle.fst_core.proofs.Ranks.{rank_zero, rank_kept, rank_other, rank_below, rank_onto, places, places_count, kept_at_place, place_of_kept, places_in_order}
use Rattle.fst_core.proofs.KeptRows.{row_all, row_only, kept_row_of}
use Rattle.fst_core.proofs.Regions.{go}
use Rattle.fst_core.proofs.Fits.{Fit, state_fits, no_arc, no_end}

-- states, one at a time
pub states_none : (p : Machine) (keep : List Bool) (b : States) → b ≡ record { arcs = []; finals = [] } → KeptTo p keep 0 b
states_none p keep b e = subst (KeptTo p keep 0) (sym e) (record {
  count = sym (rank_zero keep);
  ends_count = sym (rank_zero keep);
  rows = λ t l h. absurd (omega (arith, l));
  ends = λ t l h. absurd (omega (arith, l));
})

pub states_more : (p : Machine) (keep : List Bool) (s : ℕ) (b c : States) (made : List Arc) → KeptTo p keep s b → IsKept keep s → made ≡ filter_map (to_kept keep) (get_or p.arcs s []) → c ≡ with_state b made (final_of p.finals s) → KeptTo p keep (s + 1) c
states_more p keep s b c made had is row e =
    let r : rank keep (s + 1) ≡ rank keep s + 1 = rank_kept keep s is in
    let n : length (b.arcs ++ made ∷ []) ≡ length b.arcs + 1 = length-append b.arcs (made ∷ []) in
    let m : length (b.finals ++ final_of p.finals s ∷ []) ≡ length b.finals + 1 = length-append b.finals (final_of p.finals s ∷ []) in
    let count : length b.arcs ≡ rank keep s = had.count in
    let ends_count : length b.finals ≡ rank keep s = had.ends_count in
    subst (KeptTo p keep (s + 1)) (sym e) (record {
      count = omega arith;
      ends_count = omega arith;
      rows = λ t l h. elim (cases_lt t s) [
        | inl low ↦
            let q : rank keep t < rank keep s = rank_below keep t s h low in
            get_or_append_left b.arcs (made ∷ []) [] (rank keep t) (omega arith) ∙ had.rows t low h
        | inr high ↦
            let q : t ≡ s = omega arith in
            let k : length b.arcs ≡ rank keep t = count ∙ ap (rank keep) (sym q) in
            get_or_push b.arcs made [] (rank keep t) k ∙ row ∙ ap (λ v. filter_map (to_kept keep) (get_or p.arcs v [])) (sym q)
      ];
      ends = λ t l h. elim (cases_lt t s) [
        | inl low ↦
            let q : rank keep t < rank keep s = rank_below keep t s h low in
            get_or_append_left b.finals (final_of p.finals s ∷ []) None (rank keep t) (omega arith) ∙ had.ends t low h
        | inr high ↦
            let q : t ≡ s = omega arith in
            let k : length b.finals ≡ rank keep t = ends_count ∙ ap (rank keep) (sym q) in
            get_or_push b.finals (final_of p.finals s) None (rank keep t) k ∙ ap (final_of p.finals) (sym q)
      ];
    })

pub states_other : (p : Machine) (keep : List Bool) (s : ℕ) (b : States) → KeptTo p keep s b → get_or keep s false ≡ false → KeptTo p keep (s + 1) b
states_other p keep s b had off = record {
  count = had.count ∙ sym (rank_other keep s off);
  ends_count = had.ends_count ∙ sym (rank_other keep s off);
  rows = λ t l h. elim (cases_lt t s) [
    | inl low ↦ had.rows t low h
    | inr high ↦ let q : t ≡ s = omega arith in absurd (true≢false (sym h ∙ ap (λ n. get_or keep n false) q ∙ off))
  ];
  ends = λ t l h. elim (cases_lt t s) [
    | inl low ↦ had.ends t low h
    | inr high ↦ let q : t ≡ s = omega arith in absurd (true≢false (sym h ∙ ap (λ n. get_or keep n false) q ∙ off))
  ];
}

pub kept_fits : (p : Machine) (keep : List Bool) (s : ℕ) (b c : States) (made : List Arc) → WellFormed p → Fit (rank keep (length p.arcs)) b → length b.finals ≡ length b.arcs → made ≡ filter_map (to_kept keep) (get_or p.arcs s []) → c ≡ with_state b made (final_of p.finals s) → Fit (rank keep (length p.arcs)) c
kept_fits p keep s b c made sound fit even row e =
    subst (Fit (rank keep (length p.arcs))) (sym e) (state_fits (rank keep (length p.arcs)) b made (final_of p.finals s) even fit (record {
      arcs = λ j a h.
          let q = row_only keep (get_or p.arcs s []) made j a row h in
          let f = sound.arcs s q.0 q.1 q.2 in
          subst (ArcFits (rank keep (length p.arcs))) (sym q.4) (record { input = f.input; output = f.output; weight = f.weight; next = rank_below keep q.1.next (length p.arcs) q.3 f.next });
    }) (λ w h. sound.weights s w h))

-- what leads on to a live state is live
alive_before : (p : Machine) (s k : ℕ) (a : Arc) → IsArc p.arcs s k a → IsAlive p a.next → IsAlive p s
alive_before p s k a h (x, y, w, r) = (label a.input x, label a.output y, a.weight + w, go p s k a h r)

alive_within : (p : Machine) → WellFormed p → (s : ℕ) → IsAlive p s → s < length p.arcs
alive_within p sound s (x, y, w, (ks, stop {w = f} h)) = elim (cases_lt s (length p.finals)) [ inl l ↦ subst (λ n. s < n) sound.finals l | inr l ↦ absurd (no_end p.finals s f l h) ]
alive_within p sound s (x, y, w, (ks, step {k} {a} h path)) = elim (cases_lt s (length p.arcs)) [ inl l ↦ l | inr l ↦ absurd (no_arc p.arcs s k a l h) ]

-- exactly the start and the useful states are kept
abbrev pub KeepsUseful : Machine → List Bool → Type 0
KeepsUseful p keep = (s : ℕ) → IsKept keep s ↔ ((s ≡ p.start) ⊎ IsUseful p s)

module _ (p m : Machine) (keep : List Bool) (sound : WellFormed p) (states : KeptStates p keep m) (useful : KeepsUseful p keep) where
  starts : IsKept keep p.start
  starts = (useful p.start).1 (inl refl)

  row_of : (s : ℕ) → IsUseful p s → get_or m.arcs (rank keep s) [] ≡ filter_map (to_kept keep) (get_or p.arcs s [])
  row_of s u = states.states.rows s (alive_within p sound s u.1) ((useful s).1 (inr u))

  -- the arc of m for one of p between useful states
  kept_at : (s k : ℕ) (a : Arc) → IsUseful p s → IsArc p.arcs s k a → IsAlive p a.next → InRow (get_or m.arcs (rank keep s) []) (renumbered keep a)
  kept_at s k a u h next = row_all keep (get_or p.arcs s []) (get_or m.arcs (rank keep s) []) k a (row_of s u) h ((useful a.next).1 (inr (on k a u.0 h tt, next)))

  into_kept : {s : ℕ} {ks x y : List ℕ} {w : ℕ} → Path p s ks x y w → Leads p Every p.start s → From m (rank keep s) x y w
  into_kept (stop {s} {w} h) lead = let u : IsUseful p s = (lead, ([], [], w, ([], stop h))) in ([], stop (states.states.ends s (alive_within p sound s u.1) ((useful s).1 (inr u)) ∙ h))
  into_kept (step {s} {k} {ks} {a = b} {x} {y} {w} h path) lead =
      let next : IsAlive p b.next = (x, y, w, (ks, path)) in
      let later : From m (rank keep b.next) x y w = into_kept path (on k b lead h tt) in
      let there = kept_at s k b (lead, alive_before p s k b h next) h next in
      (there.0 ∷ later.0, step there.1 later.1)

  out_kept : {g : ℕ} {ks x y : List ℕ} {w : ℕ} → Path m g ks x y w → (s : ℕ) → g ≡ rank keep s → IsKept keep s → s < length p.arcs → From p s x y w
  out_kept (stop {s = g} {w} h) s e is l = ([], stop (sym (states.states.ends s l is) ∙ ap (final_of m.finals) (sym e) ∙ h))
  out_kept (step {s = g} {k} {ks} {a} {x} {y} {w} h path) s e is l =
      let row = states.states.rows s l is in
      let q = row_only keep (get_or p.arcs s []) (get_or m.arcs (rank keep s) []) k a row (ap (λ n. slice_get (get_or m.arcs n []) k) (sym e) ∙ h) in
      let later : From p q.1.next x y w = out_kept path q.1.next (ap (λ (z : Arc). z.next) q.4) q.3 ((sound.arcs s q.0 q.1 q.2).next) in
      subst (λ (z : Arc). From p s (label z.input x) (label z.output y) (z.weight + w)) (sym q.4) (q.0 ∷ later.0, step {ks = later.0} q.2 later.1)

  pub trimmed_reads : Same (Reads m) (Reads p)
  trimmed_reads x y w = (
    λ h. out_kept h.1 p.start states.start starts sound.start,
    λ h. subst (λ n. From m n x y w) (sym states.start) (into_kept h.1 here),
  )

  leads_kept : {s : ℕ} → Leads p Every p.start s → IsAlive p s → Leads m Every m.start (rank keep s)
  leads_kept here alive = subst (Leads m Every m.start) states.start here
  leads_kept (on {t = s} k a lead h tt) alive =
      let before : IsAlive p s = alive_before p s k a h alive in
      let there = kept_at s k a (lead, before) h alive in
      on there.0 (renumbered keep a) (leads_kept lead before) there.1 tt

  pub trimmed_states : IsTrimmed m
  trimmed_states t l =
      let q = rank_onto keep (length p.arcs) t (subst (λ n. t < n) states.states.count l) in
      elim ((useful q.0).0 q.2) [
        | inl e ↦ inl (sym q.3 ∙ ap (rank keep) e ∙ sym states.start)
        | inr u ↦
            let r = into_kept u.1.3.1 u.0 in
            inr (subst (IsUseful m) q.3 (leads_kept u.0 u.1, (u.1.0, u.1.1, u.1.2, r)))
      ]

  kept_within : length keep ≡ length p.arcs → (s : ℕ) → IsKept keep s → s < length p.arcs
  kept_within count s h = elim (cases_lt s (length p.arcs)) [ inl l ↦ l | inr l ↦ absurd (true≢false (sym h ∙ get_or_past keep s false (omega arith))) ]

  pub trim_of : length keep ≡ length p.arcs → IsTrimOf p m
  trim_of count = record {
    states = places 0 keep;
    which = λ s. (
      λ h. (let at = contains_at (places 0 keep) s h in (useful s).0 (kept_at_place keep at.0 s at.1).0),
      λ h. contains_from (places 0 keep) (rank keep s) s (place_of_kept keep s ((useful s).1 h)),
    );
    order = places_in_order keep;
    count = states.states.count ∙ (ap (rank keep) (sym count) ∙ sym (places_count 0 keep));
    start = ap (slice_get (places 0 keep)) states.start ∙ place_of_kept keep p.start starts;
    rows = λ i s h.
        let at = kept_at_place keep i s h in
        let row = states.states.rows s (kept_within count s at.0) at.0 in
        subst (λ r. KeptRow (places 0 keep) (get_or p.arcs s []) r) (sym row ∙ ap (λ n. get_or m.arcs n []) at.1) (kept_row_of keep (get_or p.arcs s []));
    ends = λ i s h.
        let at = kept_at_place keep i s h in
        ap (final_of m.finals) (sym at.1) ∙ states.states.ends s (kept_within count s at.0) at.0;
  }

-- the start and the states that both searches found
pub keeps_useful : (p : Machine) (ahead : Found) (live : List ℕ) (keep : List Bool) → WellFormed p → Reached p Every ahead → ((s : ℕ) → Contains live s ↔ IsAlive p s) → length keep ≡ length p.arcs → ((s : ℕ) → s < length p.arcs → IsKept keep s ↔ ((s ≡ p.start) ⊎ (Contains ahead.states s × Contains live s))) → KeepsUseful p keep
keeps_useful p ahead live keep sound reached alive count both s = (
  λ h.
      let l : s < length p.arcs = elim (cases_lt s (length p.arcs)) [ inl l ↦ l | inr l ↦ absurd (true≢false (sym h ∙ get_or_past keep s false (omega arith))) ] in
      elim ((both s l).0 h) [ inl e ↦ inl e | inr q ↦ inr ((reached.states s).0 q.0, (alive s).0 q.1) ],
  λ h. elim h [
    | inl e ↦ (both s (subst (λ n. n < length p.arcs) (sym e) sound.start)).1 (inl e)
    | inr u ↦ (both s (alive_within p sound s u.1)).1 (inr ((reached.states s).1 u.0, (alive s).1 u.1))
  ],
)
