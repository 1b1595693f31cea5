-- Triples while they are numbered, and the transducer of their numbers while it is built.
use Rattle.std.specs.Prelude.{◌≡◌, ◌⊎◌, ℕ, zero, suc, ◌+◌, ◌<◌, ◌≤◌, ◌^◌, List, [], ◌∷◌, ◌++◌, Option, Some, None, length, slice_get, get_or, take, IsPermutation}
use Rattle.std.proofs.Common.{refl, sym, ◌∙◌, ap, subst, inl, inr, arith}
use Rattle.std.proofs.lemmas.Bool.{cases_lt}
use Rattle.std.proofs.lemmas.List.{length_push, get_or_push, get_or_append_left, take_more}
use Rattle.std.proofs.Math.Seq.{take-length}
use Rattle.std.proofs.lemmas.Option.{slice_get-get_or, slice_get_within}
use Rattle.std.proofs.lemmas.List.Sorted.{IsPermutation-sym}
use Rattle.weighted_relations.specs.declared.Arc.{Arc}
use Rattle.weighted_relations.specs.Machines.{Machine, IsArc, final_of, WellFormed}
use Rattle.fst_core.specs.declared.search.Follow.TheVariants.{Every}
use Rattle.fst_core.specs.Reach.{Leads, here, on}
use Rattle.fst_core.specs.States.{States, as_machine, with_state, no_states}
use Rattle.fst_core.specs.Top.{top_of}
use Rattle.fst_core.proofs.Tops.{arc_below, end_below, built_top, top_under}
use Rattle.fst_core.proofs.Fits.{no_arc, no_end}
use Rattle.compose_filter.specs.declared.filters.Filter.{Filter}
use Rattle.compose_filter.specs.declared.filters.Filter.TheVariants.{Open}
use Rattle.compose_filter.specs.declared.filters.Move.{Move}
use Rattle.compose_filter.specs.declared.triples.Triple.{Triple}
use Rattle.compose_filter.specs.ComposedPaths.{Combination, IsMove, both_move, first_moves, second_moves}
use Rattle.compose_filter.specs.Combinations.{combinations}
use Rattle.compose_filter.specs.Compositions.{after, moves_from, Stands, RowOf, RowAt, end_of, first_triple, IsComposition}
use Rattle.fst_core.specs.Sorted.{IsReordered}
use Rattle.compose_filter.specs.Readers.{Fit}
use Rattle.compose_filter.specs.Numbered.{Arrived, RowMade, InRange}
use Rattle.state_table.specs.Numbers.{Distinct, Keeps, Numbers}
use Rattle.state_table.proofs.Numbering.{keeps_push, keeps_refl, keeps_trans, numbers_keeps, numbers_only, pushed_cases}
use Rattle.fst_core.proofs.Among.{Among, permuted}
use Rattle.compose_filter.proofs.Listed.{leads, one_arc_of}
use Rattle.compose_filter.proofs.Numbering.{move_in, finals_of}
use Rattle.compose_filter.proofs.Permutations.{reordered}

-- an element of a list after a push
pushed : {X : Type 0} (xs : List X) (x y : X) (k : ℕ) → slice_get (xs ++ x ∷ []) k ≡ Some y → ((k < length xs) × (slice_get xs k ≡ Some y)) ⊎ ((k ≡ length xs) × (x ≡ y))
pushed xs x y k e = elim (pushed_cases xs x k y e) [ inl h ↦ inl (slice_get_within xs k y h, h) | inr h ↦ inr (h.1, sym h.0) ]

stands_kept : (old new : List Triple) (m : Move) (x : Arc) → Keeps old new → Stands old m x → Stands new m x
stands_kept old new m x k s = record { input = s.input; output = s.output; weight = s.weight; next = k.kept x.next (after m) s.next }

row_kept : (old new : List Triple) (ms : List Move) (row : List Arc) → Keeps old new → RowOf old ms row → RowOf new ms row
row_kept old new ms row k r = record { count = r.count; each = λ i m x e f. stands_kept old new m x k (r.each i m x e f) }

at_kept : (a b : Machine) (old new : List Triple) (t : Triple) (row : List Arc) → Keeps old new → RowAt a b old t row → RowAt a b new t row
at_kept a b old new t row k r = record { moves = r.moves; all = r.all; arcs = row_kept old new r.moves row k r.arcs }

-- the moves of one row, one at a time
pub made_none : (old : List Triple) (found : List Move) → RowMade old old found 0 []
made_none old found = record {
  arcs = record { count = refl; each = λ k m x e f. absurd (let n : None ≡ Some x = f in cc) };
  keeps = keeps_refl old;
  only = λ j u e. inl e;
}

row_more : (old new : List Triple) (ms : List Move) (row : List Arc) (m : Move) (x : Arc) → RowOf old ms row → Keeps old new → Stands new m x → RowOf new (ms ++ m ∷ []) (row ++ x ∷ [])
row_more old new ms row m x r keep s = record {
  count = length_push row x ∙ ap (λ c. c + 1) r.count ∙ sym (length_push ms m);
  each = λ k o y e f. elim (pushed ms m o k e) [
    | inl h ↦ elim (pushed row x y k f) [
      | inl g ↦ stands_kept old new o y keep (r.each k o y h.1 g.1)
      | inr g ↦ absurd (let c : length row ≡ length ms = r.count in omega (arith, h.0, g.0))
    ]
    | inr h ↦ elim (pushed row x y k f) [
      | inl g ↦ absurd (let c : length row ≡ length ms = r.count in omega (arith, h.0, g.0))
      | inr g ↦ subst (λ t. Stands new t y) h.1 (subst (Stands new m) g.1 s)
    ]
  ];
}

arrived_kept : (found : List Move) (row : List Arc) (x : Arc) (j : ℕ) (u : Triple) → Arrived found row j u → Arrived found (row ++ x ∷ []) j u
arrived_kept found row x j u r = record {
  from = r.from;
  move = r.move;
  is = r.is;
  leads = r.leads;
  place = r.place;
  arc = r.arc;
  there = (keeps_push row x).kept r.place r.arc r.there;
  next = r.next;
}

pub made_more : (old mid new : List Triple) (found : List Move) (n : ℕ) (d : Move) (row : List Arc) (x : Arc) → RowMade old mid found n row → n < length found → Distinct new → Numbers mid new (after (get_or found n d)) x.next → x.input ≡ (get_or found n d).input → x.output ≡ (get_or found n d).output → x.weight ≡ (get_or found n d).weight → RowMade old new found (n + 1) (row ++ x ∷ [])
made_more old mid new found n d row x r l distinct add e f g =
    let m = get_or found n d in
    record {
      arcs = subst (λ ms. RowOf new ms (row ++ x ∷ [])) (sym (take_more found n d l)) (row_more mid new (take n found) row m x r.arcs (numbers_keeps add) (record { input = e; output = f; weight = g; next = add.stored }));
      keeps = keeps_trans r.keeps (numbers_keeps add);
      only = λ j u h. elim (numbers_only add distinct j u h) [
        | inl k ↦ elim (r.only j u k) [ inl q ↦ inl q | inr q ↦ inr (arrived_kept found row x j u q) ]
        | inr k ↦ inr (record {
          from = n;
          move = m;
          is = slice_get-get_or found n d l;
          leads = k.0;
          place = length row;
          arc = x;
          there = last_there row x;
          next = sym k.1;
        })
      ];
    }
  where
    last_there : (xs : List Arc) (y : Arc) → slice_get (xs ++ y ∷ []) (length xs) ≡ Some y
    last_there [] y = refl
    last_there (z ∷ xs) y = last_there xs y

-- what a move of two parts is like
pub record MoveFits (a b : Machine) (i o w : ℕ) (rs : List ℕ) : Type 0 where
  pub input : i ≤ 257
  pub output : o ≤ 257
  pub weight : w ≤ top_of a + top_of b
  pub states : (ra rb : ℕ) → rs ≡ rb ∷ ra ∷ [] → (ra < length a.arcs) × (rb < length b.arcs)

pub move_fits : (a b : Machine) {qa qb i o w : ℕ} {f : Filter} {c : Combination} {rs : List ℕ} {gs : List Filter} → WellFormed a → WellFormed b → (qa < length a.arcs) × (qb < length b.arcs) → IsMove (b ∷ a ∷ []) (qb ∷ qa ∷ []) (f ∷ []) c i o w rs gs → MoveFits a b i o w rs
move_fits a b {qa} {qb} wa wb l (both_move {k} {w} {a = y} mv g e) =
    let x = one_arc_of mv in
    let fx = wa.arcs qa x.place x.arc x.is in
    let fy = wb.arcs qb k y g in
    record {
      input = subst (λ n. n ≤ 257) (sym x.input) fx.input;
      output = fy.output;
      weight = (let p = arc_below a qa x.place x.arc x.is in let q = arc_below b qb k y g in let s : w ≡ x.arc.weight = x.weight in omega arith);
      states = λ ra rb h. (let s = x.states in let p : x.arc.next ≡ ra = cc in let q : y.next ≡ rb = cc in (subst (λ n. n < length a.arcs) p fx.next, subst (λ n. n < length b.arcs) q fy.next));
    }
move_fits a b {qa} {qb} {w} wa wb l (first_moves mv) =
    let x = one_arc_of mv in
    let fx = wa.arcs qa x.place x.arc x.is in
    record {
      input = subst (λ n. n ≤ 257) (sym x.input) fx.input;
      output = omega arith;
      weight = (let p = arc_below a qa x.place x.arc x.is in let s : w ≡ x.arc.weight = x.weight in omega arith);
      states = λ ra rb h. (let s = x.states in let p : x.arc.next ≡ ra = cc in let q : qb ≡ rb = cc in (subst (λ n. n < length a.arcs) p fx.next, subst (λ n. n < length b.arcs) q l.1));
    }
move_fits a b {qa} {qb} wa wb l (second_moves {k} {a = y} g e) =
    let fy = wb.arcs qb k y g in
    record {
      input = omega arith;
      output = fy.output;
      weight = (let q = arc_below b qb k y g in omega arith);
      states = λ ra rb h. (let p : qa ≡ ra = cc in let q : y.next ≡ rb = cc in (subst (λ n. n < length a.arcs) p l.0, subst (λ n. n < length b.arcs) q fy.next));
    }

-- an arc that leads to a state
pub record Parent (arcs : List (List Arc)) (s : ℕ) : Type 0 where
  pub state : ℕ
  pub place : ℕ
  pub arc : Arc
  pub there : IsArc arcs state place arc
  pub next : arc.next ≡ s
  pub before : state < s
  pub within : state < length arcs

-- the states so far: of the first triples
pub record SoFar (a b : Machine) (keys : List Triple) (m : States) : Type 0 where
  pub final_count : length m.finals ≡ length m.arcs
  pub first : slice_get keys 0 ≡ Some (first_triple a b)
  pub rows : (s : ℕ) (t : Triple) → s < length m.arcs → slice_get keys s ≡ Some t → RowAt a b keys t (get_or m.arcs s [])
  pub ends : (s : ℕ) (t : Triple) → s < length m.arcs → slice_get keys s ≡ Some t → final_of m.finals s ≡ end_of a b t
  pub within : (s : ℕ) (t : Triple) → slice_get keys s ≡ Some t → InRange a b t
  pub parents : (s : ℕ) → s < length keys → (s ≡ 0) ⊎ Parent m.arcs s
  pub reached : length m.arcs ≤ length keys

was : (old new : List Triple) (n s : ℕ) (t u : Triple) → Keeps old new → slice_get old n ≡ Some t → s < n → slice_get new s ≡ Some u → slice_get old s ≡ Some u
was old new n s t u keep at l e =
    let within : n < length old = slice_get_within old n t at in
    let old_s = slice_get-get_or old s t (omega arith) in
    let there : slice_get new s ≡ Some (get_or old s t) = keep.kept s (get_or old s t) old_s in
    old_s ∙ (sym there ∙ e)

-- at the start
pub first_number : (keys : List Triple) (t : Triple) (i : ℕ) → Distinct keys → Numbers [] keys t i → i ≡ 0
first_number keys t i distinct add =
    let l : i < length keys = slice_get_within keys i t add.stored in
    let at : slice_get keys 0 ≡ Some (get_or keys 0 t) = slice_get-get_or keys 0 t (omega arith) in
    elim (numbers_only add distinct 0 (get_or keys 0 t) at) [
      | inl h ↦ absurd (let n : None ≡ Some (get_or keys 0 t) = h in cc)
      | inr h ↦ sym h.1
    ]

pub none_so_far : (a b : Machine) (keys : List Triple) (i : ℕ) → WellFormed a → WellFormed b → Distinct keys → Numbers [] keys (first_triple a b) i → SoFar a b keys no_states
none_so_far a b keys i wa wb distinct add =
    let z : i ≡ 0 = first_number keys (first_triple a b) i distinct add in
    let is_first : (s : ℕ) (t : Triple) → slice_get keys s ≡ Some t → (t ≡ first_triple a b) × (s ≡ 0) = λ s t e. elim (numbers_only add distinct s t e) [
      | inl h ↦ absurd (let n : None ≡ Some t = h in cc)
      | inr h ↦ (h.0, h.1 ∙ z)
    ] in
    record {
      final_count = refl;
      first = subst (λ n. slice_get keys n ≡ Some (first_triple a b)) z add.stored;
      rows = λ s t l h. absurd (omega (arith, l));
      ends = λ s t l h. absurd (omega (arith, l));
      within = λ s t e. subst (InRange a b) (sym (is_first s t e).0) (record { first = wa.start; second = wb.start });
      parents = λ s l. inl (is_first s (get_or keys s (first_triple a b)) (slice_get-get_or keys s (first_triple a b) l)).1;
      reached = omega arith;
    }

-- the moves that were found are those of the triple
pub row_at : (a b c : Machine) (old new : List Triple) (t : Triple) (found : List Move) (row : List Arc) → IsReordered b c → found ≡ combinations (get_or a.arcs t.qa []) t.qa (get_or c.arcs t.qb []) t.qb t.filter → RowMade old new found (length found) row → RowAt a b new t row
row_at a b c old new t found row order e r =
    let moved : IsPermutation (moves_from a b t) found = subst (IsPermutation (moves_from a b t)) (sym e) (reordered (get_or a.arcs t.qa []) t.qa (get_or b.arcs t.qb []) (get_or c.arcs t.qb []) t.qb t.filter (order.rows t.qb)) in
    record { moves = found; all = moved; arcs = subst (λ ms. RowOf new ms row) (take-length found) r.arcs }

pub more_so_far : (a b c : Machine) (old new : List Triple) (m : States) (n : ℕ) (t : Triple) (found : List Move) (row : List Arc) (last : Option ℕ) → WellFormed a → WellFormed b → IsReordered b c → SoFar a b old m → n ≡ length m.arcs → slice_get old n ≡ Some t → found ≡ combinations (get_or a.arcs t.qa []) t.qa (get_or c.arcs t.qb []) t.qb t.filter → RowMade old new found (length found) row → last ≡ end_of a b t → SoFar a b new (with_state m row last)
more_so_far a b c old new m n t found row last wa wb order so count at moves made final =
    let at_row : RowAt a b new t row = row_at a b c old new t found row order moves made in
    let range : InRange a b t = so.within n t at in
    let arc_count : length (m.arcs ++ row ∷ []) ≡ length m.arcs + 1 = length_push m.arcs row in
    let there : slice_get new n ≡ Some t = made.keeps.kept n t at in
    let in_old : n < length old = slice_get_within old n t at in
    let in_new : n < length new = slice_get_within new n t there in
    record {
      final_count = length_push m.finals last ∙ (ap (λ k. k + 1) so.final_count ∙ sym arc_count);
      first = made.keeps.kept 0 (first_triple a b) so.first;
      rows = λ s u l e. elim (cases_lt s (length m.arcs)) [
        | inl h ↦
            let stay : get_or (m.arcs ++ row ∷ []) s [] ≡ get_or m.arcs s [] = get_or_append_left m.arcs (row ∷ []) [] s h in
            subst (RowAt a b new u) (sym stay) (at_kept a b old new u (get_or m.arcs s []) made.keeps (so.rows s u h (was old new n s t u made.keeps at (omega arith) e)))
        | inr h ↦
            let is : s ≡ length m.arcs = omega arith in
            let last_row : get_or (m.arcs ++ row ∷ []) s [] ≡ row = get_or_push m.arcs row [] s (sym is) in
            let same : Some t ≡ Some u = sym there ∙ (ap (slice_get new) (count ∙ sym is) ∙ e) in
            let one : t ≡ u = cc in
            subst (RowAt a b new u) (sym last_row) (subst (λ w. RowAt a b new w row) one at_row)
      ];
      ends = λ s u l e. elim (cases_lt s (length m.arcs)) [
        | inl h ↦ get_or_append_left m.finals (last ∷ []) None s (let k : length m.finals ≡ length m.arcs = so.final_count in omega arith) ∙ so.ends s u h (was old new n s t u made.keeps at (omega arith) e)
        | inr h ↦
            let is : s ≡ length m.arcs = omega arith in
            let same : Some t ≡ Some u = sym there ∙ (ap (slice_get new) (count ∙ sym is) ∙ e) in
            let one : t ≡ u = cc in
            get_or_push m.finals last None s (so.final_count ∙ sym is) ∙ (final ∙ ap (end_of a b) one)
      ];
      within = λ s u e. elim (made.only s u e) [
        | inl h ↦ so.within s u h
        | inr r ↦
            let back : Among (moves_from a b t) r.move = permuted found (moves_from a b t) r.move (IsPermutation-sym (moves_from a b t) found (subst (IsPermutation (moves_from a b t)) (sym moves) (reordered (get_or a.arcs t.qa []) t.qa (get_or b.arcs t.qb []) (get_or c.arcs t.qb []) t.qb t.filter (order.rows t.qb)))) (r.from, r.is) in
            let l = leads a b t r.move back in
            let f = move_fits a b wa wb (range.first, range.second) l.1 in
            let q = f.states r.move.qa r.move.qb refl in
            subst (InRange a b) (sym r.leads) (record { first = q.0; second = q.1 })
      ];
      parents = λ s l. elim (cases_lt s (length old)) [
        | inl h ↦ elim (so.parents s h) [
          | inl z ↦ inl z
          | inr p ↦ inr (record { state = p.state; place = p.place; arc = p.arc; there = ap (λ r. slice_get r p.place) (get_or_append_left m.arcs (row ∷ []) [] p.state p.within) ∙ p.there; next = p.next; before = p.before; within = (let k : p.state < length m.arcs = p.within in omega arith) })
        ]
        | inr h ↦
            let u : Triple = get_or new s t in
            elim (made.only s u (slice_get-get_or new s t l)) [
              | inl e ↦ absurd (let k : s < length old = slice_get_within old s u e in omega arith)
              | inr r ↦ inr (record { state = length m.arcs; place = r.place; arc = r.arc; there = ap (λ w. slice_get w r.place) (get_or_push m.arcs row [] (length m.arcs) refl) ∙ r.there; next = r.next; before = omega arith; within = omega arith })
            ]
      ];
      reached = omega arith;
    }

-- arcs lead to each state
led_to : (start : ℕ) (m : States) (n : ℕ) (s : ℕ) → s < n → start ≡ 0 → ((t : ℕ) → t ≤ s → (t ≡ 0) ⊎ Parent m.arcs t) → Leads (as_machine start m) Every start s
led_to start m zero s l z parents = absurd (omega (arith, l))
led_to start m (suc n) s l z parents = elim (parents s (omega arith)) [
  | inl e ↦ subst (Leads (as_machine start m) Every start) (z ∙ sym e) here
  | inr p ↦
      let before : p.state < s = p.before in
      subst (Leads (as_machine start m) Every start) p.next (on p.place p.arc (led_to start m n p.state (omega arith) z (λ t k. parents t (omega arith))) p.there tt)
]

within_arcs : (arcs : List (List Arc)) (s k : ℕ) (x : Arc) → IsArc arcs s k x → s < length arcs
within_arcs arcs s k x e = elim (cases_lt s (length arcs)) [ inl l ↦ l | inr l ↦ absurd (no_arc arcs s k x l e) ]

within_ends : (finals : List (Option ℕ)) (s w : ℕ) → final_of finals s ≡ Some w → s < length finals
within_ends finals s w e = elim (cases_lt s (length finals)) [ inl l ↦ l | inr l ↦ absurd (no_end finals s w l e) ]

module _ (a b : Machine) (keys : List Triple) (m : States) (wa : WellFormed a) (wb : WellFormed b) (so : SoFar a b keys m) (done : length keys ≤ length m.arcs) where
  key_at : (s : ℕ) → s < length m.arcs → slice_get keys s ≡ Some (get_or keys s (first_triple a b))
  key_at s l = slice_get-get_or keys s (first_triple a b) (let r : length m.arcs ≤ length keys = so.reached in omega arith)

  arc_fits : (s k : ℕ) (x : Arc) → IsArc m.arcs s k x → (x.input ≤ 257) × (x.output ≤ 257) × (x.weight ≤ top_of a + top_of b) × (x.next < length keys)
  arc_fits s k x e =
      let l : s < length m.arcs = within_arcs m.arcs s k x e in
      let t : Triple = get_or keys s (first_triple a b) in
      let at : slice_get keys s ≡ Some t = key_at s l in
      let r = so.within s t at in
      let q = move_in a b keys t (get_or m.arcs s []) k x (so.rows s t l at) e in
      let f = move_fits a b wa wb (r.first, r.second) q.is in
      (f.input, f.output, f.weight, slice_get_within keys x.next q.to q.next)

  end_fits : (s w : ℕ) → final_of m.finals s ≡ Some w → w ≤ top_of a + top_of b
  end_fits s w e =
      let k : length m.finals ≡ length m.arcs = so.final_count in
      let l : s < length m.arcs = (let h : s < length m.finals = within_ends m.finals s w e in omega arith) in
      let t : Triple = get_or keys s (first_triple a b) in
      let f = finals_of (final_of a.finals t.qa) (final_of b.finals t.qb) w (sym (so.ends s t l (key_at s l)) ∙ e) in
      let p : f.u ≤ top_of a = end_below a t.qa f.u f.first in
      let q : f.v ≤ top_of b = end_below b t.qb f.v f.second in
      let z : f.u + f.v ≡ w = f.weight in
      omega arith

  pub sound_of : (start : ℕ) → start ≡ 0 → top_of a + top_of b < 2 ^ 54 → WellFormed (as_machine start m)
  sound_of start z fits =
      let some : 0 < length keys = slice_get_within keys 0 (first_triple a b) so.first in
      record {
        finals = so.final_count;
        start = omega arith;
        arcs = λ s k x e. (let f = arc_fits s k x e in let next : x.next < length keys = f.3 in let w : x.weight ≤ top_of a + top_of b = f.2 in record { input = f.0; output = f.1; weight = omega arith; next = omega arith });
        weights = λ s w e. (let f : w ≤ top_of a + top_of b = end_fits s w e in omega arith);
      }

  pub top_fits : (start : ℕ) (r : Machine) → r ≡ as_machine start m → top_of r ≤ top_of a + top_of b
  top_fits start r e = built_top (top_of a + top_of b) start r m e (record { arcs = λ s k x h. (arc_fits s k x h).2; ends = end_fits })

  pub composition_of : (start : ℕ) → start ≡ 0 → Distinct keys → IsComposition a b (as_machine start m)
  composition_of start z distinct =
      let reach : length m.arcs ≤ length keys = so.reached in
      record {
        keys = keys;
        distinct = distinct;
        count = omega arith;
        start = ap (slice_get keys) z ∙ so.first;
        rows = λ s t e. so.rows s t (let h : s < length keys = slice_get_within keys s t e in omega arith) e;
        ends = λ s t e. so.ends s t (let h : s < length keys = slice_get_within keys s t e in omega arith) e;
        reached = λ s l. led_to start m (suc s) s (omega arith) z (λ t k. so.parents t (omega arith));
      }

pub end_sum : (a b : Machine) (s t u v : ℕ) → final_of a.finals s ≡ Some u → final_of b.finals t ≡ Some v → top_of a + top_of b < 2 ^ 54 → u + v < 2 ^ 64
end_sum a b s t u v e f l =
    let p : u ≤ top_of a = end_below a s u e in
    let q : v ≤ top_of b = end_below b t v f in
    omega arith

pub reordered_top : (b c : Machine) → IsReordered b c → top_of c ≤ top_of b
reordered_top b c order = top_under c (top_of b) (record {
  arcs = λ s k x h. (let r = permuted (get_or c.arcs s []) (get_or b.arcs s []) x (IsPermutation-sym (get_or b.arcs s []) (get_or c.arcs s []) (order.rows s)) (k, h) in arc_below b s r.0 x r.1);
  ends = λ s w h. end_below b s w (sym (order.ends s) ∙ h);
})

pub row_fits : (a b c : Machine) (s t : ℕ) (left row : List Arc) → IsReordered b c → top_of a + top_of b < 2 ^ 54 → left ≡ get_or a.arcs s [] → row ≡ get_or c.arcs t [] → Fit left row
row_fits a b c s t left row order fits e f k d l j g m =
    let under : top_of c ≤ top_of b = reordered_top b c order in
    let x : Arc = get_or left k d in
    let y : Arc = get_or row j g in
    let p : x.weight ≤ top_of a = arc_below a s k x (ap (λ r. slice_get r k) (sym e) ∙ slice_get-get_or left k d l) in
    let q : y.weight ≤ top_of c = arc_below c t j y (ap (λ r. slice_get r j) (sym f) ∙ slice_get-get_or row j g m) in
    omega arith

pub first_added : (a b : Machine) (none keys : List Triple) (i p q : ℕ) → none ≡ [] → p ≡ a.start → q ≡ b.start → Numbers none keys (record { qa = p; qb = q; filter = Open }) i → Numbers [] keys (first_triple a b) i
first_added a b none keys i p q e f g add =
    subst (λ n. Numbers [] keys (record { qa = n; qb = b.start; filter = Open }) i) f
    (subst (λ n. Numbers [] keys (record { qa = p; qb = n; filter = Open }) i) g
    (subst (λ l. Numbers l keys (record { qa = p; qb = q; filter = Open }) i) e add))
