-- The arcs that are merged of the first ones, run after run.
use Rattle.std.specs.Prelude.{◌≡◌, ◌↔◌, ℕ, ◌+◌, ◌<◌, ◌≤◌, List, [], ◌∷◌, ◌++◌, length, get_or}
use Rattle.std.specs.List.{Contains}
use Rattle.std.proofs.Common.{refl, sym, ◌∙◌, ap, subst, inl, inr, arith}
use Rattle.std.proofs.lemmas.Bool.{cases_lt}
use Rattle.std.proofs.lemmas.List.{get_or_default}
use Rattle.std.proofs.lemmas.List.Elements.{Contains-append_left, Contains-push, Contains-push_cases, Contains-get_or}
use Rattle.weighted_relations.specs.declared.Arc.{Arc}
use Rattle.state_table.specs.Numbers.{Keeps, Numbers}
use Rattle.std.specs.List.Sorted.{IsStrictlyIncreasing}
use Rattle.merged_arcs.specs.Merged.{Alike, AllApart, LeadsTo, Gathers, Stands, RowOf, RowMade, Run, TargetIn, none}
use Rattle.merged_arcs.proofs.Parting.{Parted, apart_more, alike_sym, alike_trans}
use Rattle.state_table.proofs.Numbering.{keeps_refl, keeps_trans, keeps_more, kept_at, numbers_keeps, numbers_within, stored_at, fresh_at}

-- more sets
pub row_kept : (arcs : Arc → Type 0) (old new : List (List ℕ)) (row : List Arc) → Keeps old new → RowOf arcs old row → RowOf arcs new row
row_kept arcs old new row keeps had =
    let more : length old ≤ length new = keeps_more keeps in
    record {
      sound = λ x h.
          let r = had.sound x h in
          let l : x.next < length old = r.within in
          record {
            within = omega arith;
            some = r.some;
            only = λ t c. r.only t (subst (λ v. Contains v t) (kept_at [] keeps x.next l) c);
          };
      found = λ y h.
          let q = had.found y h in
          let l : q.arc.next < length old = (had.sound q.arc q.is).within in
          record { arc = q.arc; is = q.is; alike = q.alike; leads = subst (λ v. Contains v y.next) (sym (kept_at [] keeps q.arc.next l)) q.leads };
    }

-- the same arcs
pub row_same : (arcs brcs : Arc → Type 0) (sets : List (List ℕ)) (row : List Arc) → ((y : Arc) → arcs y ↔ brcs y) → RowOf arcs sets row → RowOf brcs sets row
row_same arcs brcs sets row same had = record {
  sound = λ x h.
      let r = had.sound x h in
      record {
        within = r.within;
        some = (r.some.0, (same r.some.0).0 r.some.1, r.some.2);
        only = λ t c. let q = r.only t c in record { arc = q.arc; is = (same q.arc).0 q.is; alike = q.alike; next = q.next };
      };
  found = λ y h. had.found y ((same y).1 h);
}

pub made_same : (arcs brcs : Arc → Type 0) (old new : List (List ℕ)) (row : List Arc) → ((y : Arc) → arcs y ↔ brcs y) → RowMade arcs old new row → RowMade brcs old new row
made_same arcs brcs old new row same had = record {
  keeps = had.keeps;
  stands = row_same arcs brcs new row same had.stands;
  only = λ i low high.
      let g = had.only i low high in (
        g.0,
        record {
          some = (g.1.some.0, (same g.1.some.0).0 g.1.some.1, g.1.some.2);
          all = λ t. (
            λ c. let q = (g.1.all t).0 c in record { arc = q.arc; is = (same q.arc).0 q.is; alike = q.alike; next = q.next },
            λ q. (g.1.all t).1 (record { arc = q.arc; is = (same q.arc).1 q.is; alike = q.alike; next = q.next }),
          );
          order = g.1.order;
        },
      );
}

-- one of the first n arcs
abbrev pub Among : List Arc → ℕ → Arc → Type 0
Among arcs n y = (j : ℕ) × (j < n) × (get_or arcs j none ≡ y)

pub made_none : (arcs : List Arc) (sets : List (List ℕ)) → RowMade (Among arcs 0) sets sets []
made_none arcs sets = record {
  keeps = keeps_refl sets;
  stands = record { sound = λ x h. absurd (omega (arith, h.1)); found = λ y h. absurd (omega (arith, h.1)) };
  only = λ i low high. absurd (omega (arith, low, high));
}

module _ (arcs : List Arc) (old mid new : List (List ℕ)) (row : List Arc) (set : List ℕ) (x : Arc) (n e : ℕ)
    (had : RowMade (Among arcs n) old mid row) (add : Numbers mid new set x.next) (run : Run arcs n e)
    (all : (t : ℕ) → Contains set t ↔ TargetIn arcs n e t) (order : IsStrictlyIncreasing set) (same : Alike x (get_or arcs n none)) (parted : Parted arcs n) where
  up : (y : Arc) → Among arcs n y → Among arcs e y
  up y h = (h.0, (let l : h.0 < n = h.1 in let k : n < e = run.some in omega arith), h.2)

  leads : (t : ℕ) → Contains set t → LeadsTo (Among arcs e) x t
  leads t c =
      let q = (all t).0 c in
      record {
        arc = get_or arcs q.place none;
        is = (q.place, q.before, refl);
        alike = alike_trans x (get_or arcs n none) (get_or arcs q.place none) same (run.alike q.place q.after q.before);
        next = q.next;
      }

  last : Stands (Among arcs e) new x
  last = record {
    within = numbers_within add;
    some = (get_or arcs n none, (n, run.some, refl), same);
    only = λ t c. leads t (subst (λ v. Contains v t) (stored_at add []) c);
  }

  inside : n < length arcs
  inside = let l : n < e = run.some in let m : e ≤ length arcs = run.within in omega arith

  -- an arc like x stands in the run
  back : (t : ℕ) → LeadsTo (Among arcs e) x t → Contains set t
  back t q = elim (cases_lt q.is.0 n) [
    | inl low ↦
        let y = get_or arcs q.is.0 none in
        let like : Alike y x = alike_sym x y (subst (Alike x) (sym q.is.2) q.alike) in
        absurd (parted q.is.0 n low (omega arith) inside (alike_trans y x (get_or arcs n none) like same))
    | inr high ↦ (all t).1 (record { place = q.is.0; after = high; before = q.is.1; next = ap (λ (z : Arc). z.next) q.is.2 ∙ q.next })
  ]

  gathers : Gathers (Among arcs e) x set
  gathers = record { some = (get_or arcs n none, (n, run.some, refl), same); all = λ t. (leads t, back t); order = order }

  -- no arc of the run is like one before it
  grown : (z : Arc) (v : List ℕ) → Gathers (Among arcs n) z v → Gathers (Among arcs e) z v
  grown z v g = record {
    some = (g.some.0, up g.some.0 g.some.1, g.some.2);
    all = λ t. (
      λ c. let q = (g.all t).0 c in record { arc = q.arc; is = up q.arc q.is; alike = q.alike; next = q.next },
      λ q. (g.all t).1 (record { arc = q.arc; is = down q.arc q.is q.alike; alike = q.alike; next = q.next }),
    );
    order = g.order;
  } where
    down : (y : Arc) → Among arcs e y → Alike z y → Among arcs n y
    down y is like = elim (cases_lt is.0 n) [
      | inl low ↦ (is.0, low, is.2)
      | inr high ↦
          let s = g.some in
          let first : Alike (get_or arcs s.1.0 none) z = subst (λ a. Alike a z) (sym s.1.2) (alike_sym z s.0 s.2) in
          let second : Alike z (get_or arcs is.0 none) = subst (Alike z) (sym is.2) like in
          let l : is.0 < e = is.1 in
          let m : e ≤ length arcs = run.within in
          absurd (parted s.1.0 is.0 s.1.1 high (omega arith) (alike_trans (get_or arcs s.1.0 none) z (get_or arcs is.0 none) first second))
    ]

  -- the row still has each only once
  pub apart_run : AllApart row → AllApart (row ++ x ∷ [])
  apart_run apart = apart_more row x apart (λ y c like.
      let s = (had.stands.sound y c).some in
      let first : Alike (get_or arcs s.1.0 none) y = subst (λ a. Alike a y) (sym s.1.2) (alike_sym y s.0 s.2) in
      parted s.1.0 n s.1.1 (omega arith) inside (alike_trans (get_or arcs s.1.0 none) y (get_or arcs n none) first (alike_trans y x (get_or arcs n none) like same)))

  before : RowOf (Among arcs n) new row
  before = row_kept (Among arcs n) mid new row (numbers_keeps add) had.stands

  pub made_more : RowMade (Among arcs e) old new (row ++ x ∷ [])
  made_more = record {
    keeps = keeps_trans had.keeps (numbers_keeps add);
    stands = record {
      sound = λ y h. elim (Contains-push_cases row x y h) [
        | inl k ↦
            let r = before.sound y k in
            record {
              within = r.within;
              some = (r.some.0, up r.some.0 r.some.1, r.some.2);
              only = λ t c. let q = r.only t c in record { arc = q.arc; is = up q.arc q.is; alike = q.alike; next = q.next };
            }
        | inr k ↦ subst (Stands (Among arcs e) new) k last
      ];
      found = λ y h. elim (cases_lt h.0 n) [
        | inl low ↦
            let q = before.found y (h.0, low, h.2) in
            record { arc = q.arc; is = Contains-append_left row (x ∷ []) q.arc q.is; alike = q.alike; leads = q.leads }
        | inr high ↦
            let a : Alike x (get_or arcs h.0 none) = alike_trans x (get_or arcs n none) (get_or arcs h.0 none) same (run.alike h.0 high h.1) in
            record {
              arc = x;
              is = Contains-push row x;
              alike = subst (Alike x) h.2 a;
              leads = subst (λ v. Contains v y.next) (sym (stored_at add [])) ((all y.next).1 (record { place = h.0; after = high; before = h.1; next = ap (λ (z : Arc). z.next) h.2 }));
            }
      ];
    };
    only = λ i low high. elim (cases_lt i (length mid)) [
      | inl l ↦
          let g = had.only i low l in
          (g.0, subst (Gathers (Among arcs e) g.0) (sym (kept_at [] (numbers_keeps add) i l)) (grown g.0 (get_or mid i []) g.1))
      | inr l ↦ (x, subst (Gathers (Among arcs e) x) (sym (fresh_at add [] i l high)) gathers)
    ];
  }

pub made_all : (arcs : List Arc) (old new : List (List ℕ)) (row : List Arc) (n : ℕ) → n ≤ length arcs → length arcs ≤ n → RowMade (Among arcs n) old new row → RowMade (Contains arcs) old new row
made_all arcs old new row n l k had = made_same (Among arcs n) (Contains arcs) old new row (λ y. (
  λ h. subst (Contains arcs) h.2 (Contains-get_or arcs h.0 none (let q : h.0 < n = h.1 in omega arith)),
  λ h. (h.0, (let q : h.0 < length arcs = h.1 in omega arith), get_or_default arcs h.0 none y h.1 ∙ h.2),
)) had

-- the states to which the arcs lead from one place to another
pub record TargetsTo (arcs : List Arc) (from to : ℕ) (found : List ℕ) : Type 0 where
  pub sound : (t : ℕ) → Contains found t → TargetIn arcs from to t
  pub all : (j : ℕ) → from ≤ j → j < to → Contains found (get_or arcs j none).next

pub targets_none : (arcs : List Arc) (from : ℕ) → TargetsTo arcs from from []
targets_none arcs from = record { sound = λ t h. absurd (omega (arith, h.1)); all = λ j l k. absurd (omega (arith, l, k)) }

pub targets_more : (arcs : List Arc) (from to : ℕ) (found : List ℕ) → from ≤ to → TargetsTo arcs from to found → TargetsTo arcs from (to + 1) (found ++ (get_or arcs to none).next ∷ [])
targets_more arcs from to found order had = record {
  sound = λ t h. elim (Contains-push_cases found (get_or arcs to none).next t h) [
    | inl k ↦ let q = had.sound t k in record { place = q.place; after = q.after; before = (let l : q.place < to = q.before in omega arith); next = q.next }
    | inr k ↦ record { place = to; after = order; before = omega arith; next = k }
  ];
  all = λ j l k. elim (cases_lt j to) [
    | inl low ↦ Contains-append_left found ((get_or arcs to none).next ∷ []) (get_or arcs j none).next (had.all j l low)
    | inr high ↦
        let q : to ≡ j = omega arith in
        subst (λ i. Contains (found ++ (get_or arcs to none).next ∷ []) (get_or arcs i none).next) q (Contains-push found (get_or arcs to none).next)
  ];
}

pub targets_all : (arcs : List Arc) (from to : ℕ) (found : List ℕ) → TargetsTo arcs from to found → (t : ℕ) → Contains found t ↔ TargetIn arcs from to t
targets_all arcs from to found had t = (had.sound t, λ q. subst (Contains found) q.next (had.all q.place q.after q.before))
