-- Arcs that are turned round one at a time.
use Rattle.std.proofs.Common.{◌≡◌, ◌⊎◌, ℕ, zero, suc, ◌+◌, ◌<◌, ◌≤◌, List, [], ◌∷◌, ◌++◌, length, get_or, Option, Some, None, refl, sym, ◌∙◌, ap, subst, inl, inr, arith, length-append}
use Rattle.std.specs.Prelude.{slice_get}
use Rattle.std.proofs.Math.ListN.{set}
use Rattle.std.proofs.lemmas.Bool.{cases_lt, cases_eq}
use Rattle.std.proofs.lemmas.List.{length-set, get_or-set_same, get_or-set_other, get_or_past, get_or_append_left, get_or_push}
use Rattle.std.proofs.lemmas.Option.{slice_get_within}
use Rattle.weighted_relations.specs.declared.Arc.{Arc}
use Rattle.weighted_relations.specs.Machines.{Machine, IsArc, final_of, WellFormed}
use Rattle.fst_core.specs.Placed.{empty_arc}
use Rattle.fst_core.specs.States.{States, with_state}
use Rattle.fst_core.specs.Turned.{turned, InRow, Source, TurnedArcs, Below, BelowAt, HubRow, OneFinal}

pub row_front : (xs ys : List Arc) (i : ℕ) (z : Arc) → slice_get xs i ≡ Some z → slice_get (xs ++ ys) i ≡ Some z
row_front [] ys i z h = absurd (cc)
row_front (x ∷ xs) ys zero z h = h
row_front (x ∷ xs) ys (suc i) z h = row_front xs ys i z h

pub row_last : (xs : List Arc) (z : Arc) → slice_get (xs ++ z ∷ []) (length xs) ≡ Some z
row_last [] z = refl
row_last (x ∷ xs) z = row_last xs z

-- what stands in a row after one more arc
pub row_cases : (xs : List Arc) (z b : Arc) (j : ℕ) → slice_get (xs ++ z ∷ []) j ≡ Some b → (slice_get xs j ≡ Some b) ⊎ (b ≡ z)
row_cases [] z b zero h = inr (cc)
row_cases [] z b (suc j) h = absurd (cc)
row_cases (x ∷ xs) z b zero h = inl h
row_cases (x ∷ xs) z b (suc j) h = row_cases xs z b j h

pub in_front : (xs : List Arc) (z b : Arc) → InRow xs b → InRow (xs ++ z ∷ []) b
in_front xs z b h = (h.0, row_front xs (z ∷ []) h.0 b h.1)

-- one more arc
pub turned_more : (p : Machine) (done more : ℕ → ℕ → Type 0) (rows : List (List Arc)) (s i : ℕ) (a : Arc) → WellFormed p → TurnedArcs p done rows → IsArc p.arcs s i a → ((u k : ℕ) → more u k → done u k ⊎ ((u ≡ s) × (k ≡ i))) → TurnedArcs p more (set rows a.next (get_or rows a.next [] ++ turned s a ∷ []))
turned_more p done more rows s i a sound had there split =
    let within : a.next < length rows = subst (λ n. a.next < n) (sym had.count) (sound.arcs s i a there).next in
    let row = get_or rows a.next [] ++ turned s a ∷ [] in
    let new = set rows a.next row in
    let at : get_or new a.next [] ≡ row = get_or-set_same rows a.next row [] within in
    record {
      count = length-set rows a.next row ∙ had.count;
      all = λ u k c d h. elim (split u k d) [
        | inl old ↦
            let before : InRow (get_or rows c.next []) (turned u c) = had.all u k c old h in
            elim (cases_eq c.next a.next) [
              | inl e ↦ subst (λ r. InRow r (turned u c)) (sym (ap (λ n. get_or new n []) e ∙ at))
                  (in_front (get_or rows a.next []) (turned s a) (turned u c) (subst (λ n. InRow (get_or rows n []) (turned u c)) e before))
              | inr ne ↦ subst (λ r. InRow r (turned u c)) (sym (get_or-set_other rows a.next c.next row [] ne)) before
            ]
        | inr q ↦
            let e : Some c ≡ Some a = sym h ∙ ap (λ n. slice_get (get_or p.arcs n []) k) q.0 ∙ ap (slice_get (get_or p.arcs s [])) q.1 ∙ there in
            let same : c ≡ a = cc in
            subst (λ (z : Arc). InRow (get_or new z.next []) (turned u z)) (sym same)
            (subst (λ r. InRow r (turned u a)) (sym at) (subst (λ n. InRow row (turned n a)) (sym q.0) (length (get_or rows a.next []), row_last (get_or rows a.next []) (turned s a))))
      ];
      only = λ t j b h. elim (cases_eq t a.next) [
        | inl e ↦ elim (row_cases (get_or rows a.next []) (turned s a) b j (sym (ap (λ r. slice_get r j) (ap (λ n. get_or new n []) e ∙ at)) ∙ h)) [
          | inl old ↦ had.only t j b (ap (λ n. slice_get (get_or rows n []) j) e ∙ old)
          | inr is ↦ subst (Source p t) (sym is) (record { place = i; arc = a; there = there; next = sym e; is = refl })
        ]
        | inr ne ↦ had.only t j b (sym (ap (λ r. slice_get r j) (get_or-set_other rows a.next t row [] ne)) ∙ h)
      ];
    }

pub turned_of : (p : Machine) (done more : ℕ → ℕ → Type 0) (rows : List (List Arc)) → ((u k : ℕ) (a : Arc) → IsArc p.arcs u k a → more u k → done u k) → TurnedArcs p done rows → TurnedArcs p more rows
turned_of p done more rows f had = record { count = had.count; all = λ u k a d h. had.all u k a (f u k a h d) h; only = had.only }

pub turned_none : (p : Machine) (start : ℕ) (b : States) → OneFinal start (length p.arcs) b → TurnedArcs p (Below 0) b.arcs
turned_none p start b had = record { count = had.rows; all = λ s i a d h. absurd (omega (arith, d)); only = λ t j a h. absurd (had.none t j a h) }

-- the first state's arcs, one at a time
pub below_at : (k j u i : ℕ) → BelowAt k (j + 1) u i → BelowAt k j u i ⊎ ((u ≡ k) × (i ≡ j))
below_at k j u i (inl l) = inl (inl l)
below_at k j u i (inr q) = elim (cases_lt i j) [ inl l ↦ inl (inr (q.0, l)) | inr l ↦ inr (q.0, (let m : i < j + 1 = q.1 in omega arith)) ]

pub at_none : (k u i : ℕ) → BelowAt k 0 u i → Below k u i
at_none k u i (inl l) = l
at_none k u i (inr q) = absurd (let m : i < 0 = q.1 in omega arith)

pub at_all : (p : Machine) (k j u i : ℕ) (a : Arc) → length (get_or p.arcs k []) ≤ j → IsArc p.arcs u i a → Below (k + 1) u i → BelowAt k j u i
at_all p k j u i a n h l = elim (cases_lt u k) [
  | inl low ↦ inl low
  | inr high ↦
      let e : u ≡ k = omega arith in
      let w : i < length (get_or p.arcs k []) = subst (λ v. i < length (get_or p.arcs v [])) e (slice_get_within (get_or p.arcs u []) i a h) in
      inr (e, (let m : i < j = omega arith in m))
]

-- the hub's arcs
pub hub_none : (p : Machine) → HubRow p 0 []
hub_none p = record { all = λ s w l h. absurd (omega (arith, l)); only = λ j b h. absurd (cc) }

pub hub_some : (p : Machine) (k w : ℕ) (row : List Arc) → HubRow p k row → final_of p.finals k ≡ Some w → HubRow p (k + 1) (row ++ empty_arc w k ∷ [])
hub_some p k w row had is = record {
  all = λ s v l h. elim (cases_lt s k) [
    | inl low ↦ in_front row (empty_arc w k) (empty_arc v s) (had.all s v low h)
    | inr high ↦
        let e : k ≡ s = omega arith in
        let q : Some w ≡ Some v = sym is ∙ ap (final_of p.finals) e ∙ h in
        let same : w ≡ v = cc in
        subst (λ n. InRow (row ++ empty_arc w k ∷ []) (empty_arc n s)) same (subst (λ n. InRow (row ++ empty_arc w k ∷ []) (empty_arc w n)) e (length row, row_last row (empty_arc w k)))
  ];
  only = λ j b h. elim (row_cases row (empty_arc w k) b j h) [ inl old ↦ had.only j b old | inr is2 ↦ (k, w, is, is2) ];
}

pub hub_other : (p : Machine) (k : ℕ) (row : List Arc) → HubRow p k row → final_of p.finals k ≡ None → HubRow p (k + 1) row
hub_other p k row had is = record {
  all = λ s v l h. elim (cases_lt s k) [
    | inl low ↦ had.all s v low h
    | inr high ↦ let e : k ≡ s = omega arith in let q : None ≡ Some v = sym is ∙ ap (final_of p.finals) e ∙ h in absurd (cc)
  ];
  only = had.only;
}

-- states without arcs
pub one_none : (at : ℕ) (b : States) → b ≡ record { arcs = []; finals = [] } → OneFinal at 0 b
one_none at b e = subst (OneFinal at 0) (sym e) (record {
  count = refl;
  rows = refl;
  none = λ s j a h. absurd (cc);
  is = λ l. absurd (omega (arith, l));
  only = λ s w h. absurd (cc);
})

pub one_more : (at k : ℕ) (b c : States) (last : Option ℕ) → OneFinal at k b → c ≡ with_state b [] last → ((k ≡ at) × (last ≡ Some 0)) ⊎ ((k ≡ at → ⊥) × (last ≡ None)) → OneFinal at (k + 1) c
one_more at k b c last had e cases =
    let n : length b.finals ≡ k = had.count in
    let m : length b.arcs ≡ k = had.rows in
    let p : length (b.finals ++ last ∷ []) ≡ length b.finals + 1 = length-append b.finals (last ∷ []) in
    let q : length (b.arcs ++ [] ∷ []) ≡ length b.arcs + 1 = length-append b.arcs ([] ∷ []) in
    subst (OneFinal at (k + 1)) (sym e) (record {
      count = omega arith;
      rows = omega arith;
      none = λ s j a h. elim (cases_lt s (length b.arcs)) [
        | inl low ↦ had.none s j a (ap (λ r. slice_get r j) (sym (get_or_append_left b.arcs ([] ∷ []) [] s low)) ∙ h)
        | inr high ↦ elim (cases_lt (length b.arcs) s) [
          | inl l ↦ let z : None ≡ Some a = ap (λ r. slice_get r j) (sym (get_or_past (b.arcs ++ [] ∷ []) s [] (omega arith))) ∙ h in absurd (cc)
          | inr l ↦ let f : length b.arcs ≡ s = omega arith in let z : None ≡ Some a = ap (λ r. slice_get r j) (sym (get_or_push b.arcs [] [] s f)) ∙ h in absurd (cc)
        ]
      ];
      is = λ l. elim (cases_lt at k) [
        | inl low ↦ get_or_append_left b.finals (last ∷ []) None at (omega arith) ∙ had.is low
        | inr high ↦
            let f : length b.finals ≡ at = omega arith in
            let g : k ≡ at = omega arith in
            get_or_push b.finals last None at f ∙ elim cases [ inl c ↦ c.1 | inr c ↦ absurd (c.0 g) ]
      ];
      only = λ s w h. elim (cases_lt s k) [
        | inl low ↦ had.only s w (sym (get_or_append_left b.finals (last ∷ []) None s (omega arith)) ∙ h)
        | inr high ↦ elim (cases_lt k s) [
          | inl l ↦ let z : None ≡ Some w = sym (get_or_past (b.finals ++ last ∷ []) s None (omega arith)) ∙ h in absurd (cc)
          | inr l ↦
              let f : length b.finals ≡ s = omega arith in
              let here : last ≡ Some w = sym (get_or_push b.finals last None s f) ∙ h in
              elim cases [
                | inl c ↦ let z : Some 0 ≡ Some w = sym c.1 ∙ here in ((let g : k ≡ at = c.0 in omega arith), cc)
                | inr c ↦ let z : None ≡ Some w = sym c.1 ∙ here in absurd (cc)
              ]
        ]
      ];
    })
