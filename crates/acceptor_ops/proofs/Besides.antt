-- Pairs of states read what the first reads and the second does not accept.
use Rattle.std.proofs.Common.{◌≡◌, ℕ, zero, suc, ◌+◌, ◌<◌, ◌≤◌, ◌^◌, Bool, true, false, List, [], ◌∷◌, ◌++◌, length, get_or, Option, Some, None, refl, sym, ap, subst, ◌∙◌, inl, inr, arith, length-append, true≢false}
use Rattle.std.specs.Prelude.{slice_get}
use Rattle.std.proofs.lemmas.Bool.{cases_lt}
use Rattle.std.proofs.lemmas.List.{get_or_append_left, get_or_push, get_or_past}
use Rattle.std.proofs.lemmas.Option.{get_or_from_slice_get, slice_get_within, slice_get-get_or}
use Rattle.weighted_relations.specs.declared.Arc.{Arc}
use Rattle.weighted_relations.specs.Relations.{Same}
use Rattle.weighted_relations.specs.Graphs.{stop, step, label}
use Rattle.weighted_relations.specs.Machines.{Machine, Path, IsArc, From, Reads, final_of, WellFormed}
use Rattle.fst_core.specs.Top.{top_of}
use Rattle.fst_core.proofs.Tops.{arc_below, end_below, top_under}
use Rattle.acceptor_ops.specs.Tables.{Table, run_from, Accepts, Except, IsTotal}
use Rattle.state_table.specs.Numbers.{Keeps, Numbers}
use Rattle.acceptor_ops.specs.Beside.{Pair, no_pair, moved, IsPair, ArePairs, Beside, RowBeside, Paired, final_beside}
use Rattle.state_table.proofs.Numbering.{keeps_refl, keeps_trans, keeps_more, kept_at, numbers_keeps, numbers_within, stored_at, fresh_at}
use Rattle.acceptor_ops.proofs.Flipped.{step_within}
use Rattle.acceptor_ops.proofs.Determined.{path_labels}

-- the state after a label or none is a state
pub moved_within : (t : Table) → IsTotal t → (q n : ℕ) → q < length t.next → n ≤ 257 → moved t q n < length t.next
moved_within t total q zero l h = l
moved_within t total q (suc n) l h = step_within t total q (suc n) l (omega arith, h)

pub paired_none : (m : Machine) (t : Table) (pairs : List Pair) (q : ℕ) (row : List Arc) → ArePairs m t pairs → Paired m t pairs pairs q 0 row []
paired_none m t pairs q row are = record {
  keeps = keeps_refl pairs;
  pairs = are;
  beside = record { count = refl; arcs = λ i a l h. absurd (omega (arith, l)) };
}

pub more_pairs : (m : Machine) (t : Table) (old new : List Pair) (p : Pair) (number : ℕ) → ArePairs m t old → IsPair m t p → Numbers old new p number → ArePairs m t new
more_pairs m t old new p number had is add k l = elim (cases_lt k (length old)) [
  | inl low ↦ subst (IsPair m t) (sym (kept_at no_pair (numbers_keeps add) k low)) (had k low)
  | inr high ↦ subst (IsPair m t) (sym (fresh_at add no_pair k high l)) is
]

-- the pair of a number is one of both
pub pair_at : (m : Machine) (t : Table) (pairs : List Pair) (k : ℕ) (p : Pair) → ArePairs m t pairs → slice_get pairs k ≡ Some p → IsPair m t p
pair_at m t pairs k p are h = subst (IsPair m t) (get_or_from_slice_get pairs k p no_pair h) (are k (slice_get_within pairs k p h))

beside_kept : (t : Table) (old new : List Pair) (q : ℕ) (a b : Arc) → Keeps old new → Beside t old q a b → Beside t new q a b
beside_kept t old new q a b keeps had =
    let more : length old ≤ length new = keeps_more keeps in
    record {
      input = had.input;
      output = had.output;
      weight = had.weight;
      within = let l : b.next < length old = had.within in omega arith;
      next = kept_at no_pair keeps b.next had.within ∙ had.next;
    }

pub row_kept : (t : Table) (old new : List Pair) (q n : ℕ) (row made : List Arc) → Keeps old new → RowBeside t old q n row made → RowBeside t new q n row made
row_kept t old new q n row made keeps had = record {
  count = had.count;
  arcs = λ i a l h. let r = had.arcs i a l h in (r.0, r.1, beside_kept t old new q a r.0 keeps r.2);
}

pub paired_more : (m : Machine) (t : Table) (old mid new : List Pair) (q n : ℕ) (row made : List Arc) (a b : Arc) (number : ℕ) → Paired m t old mid q n row made → slice_get row n ≡ Some a → IsPair m t (a.next, moved t q a.input) → Numbers mid new (a.next, moved t q a.input) number → b ≡ record { input = a.input; output = a.output; weight = a.weight; next = number } → Paired m t old new q (n + 1) row (made ++ b ∷ [])
paired_more m t old mid new q n row made a b number had there is add e =
    let kept : RowBeside t new q n row made = row_kept t mid new q n row made (numbers_keeps add) had.beside in
    let count : length made ≡ n = had.beside.count in
    record {
      keeps = keeps_trans had.keeps (numbers_keeps add);
      pairs = more_pairs m t mid new (a.next, moved t q a.input) number had.pairs is add;
      beside = record {
        count = length-append made (b ∷ []) ∙ ap (λ v. v + 1) count;
        arcs = λ i c l h. elim (cases_lt i n) [
          | inl low ↦
              let r = kept.arcs i c low h in
              let w : i < length made = omega arith in
              (r.0, front made (b ∷ []) i r.0 r.1, r.2)
          | inr high ↦
              let f : i ≡ n = omega arith in
              let g : i ≡ length made = omega arith in
              let same : c ≡ a = one (slice_get row n) c a (ap (slice_get row) (sym f) ∙ h) there in (
                b,
                ap (slice_get (made ++ b ∷ [])) g ∙ last made b,
                subst (λ z. Beside t new q z b) (sym same) (subst (Beside t new q a) (sym e) (record { input = refl; output = refl; weight = refl; within = numbers_within add; next = stored_at add no_pair })),
              )
        ];
      };
    }
  where
    front : (xs ys : List Arc) (i : ℕ) (z : Arc) → slice_get xs i ≡ Some z → slice_get (xs ++ ys) i ≡ Some z
    front [] ys i z h = absurd (cc)
    front (x ∷ xs) ys zero z h = h
    front (x ∷ xs) ys (suc i) z h = front xs ys i z h

    last : (xs : List Arc) (z : Arc) → slice_get (xs ++ z ∷ []) (length xs) ≡ Some z
    last [] z = refl
    last (x ∷ xs) z = last xs z

    one : (o : Option Arc) (c d : Arc) → o ≡ Some c → o ≡ Some d → c ≡ d
    one o c d h j = let k : Some c ≡ Some d = sym h ∙ j in cc

-- pairs and rows while a product is built
pub record Producing (m : Machine) (t : Table) (from : ℕ) (pairs : List Pair) (arcs : List (List Arc)) (finals : List (Option ℕ)) : Type 0 where
  pub are : ArePairs m t pairs
  pub count : length finals ≡ length arcs
  pub more : length arcs ≤ length pairs
  pub start : from < length pairs
  pub begins : get_or pairs from no_pair ≡ (m.start, t.start)
  pub rows : (k : ℕ) → k < length arcs → RowBeside t pairs (get_or pairs k no_pair).1 (length (get_or m.arcs (get_or pairs k no_pair).0 [])) (get_or m.arcs (get_or pairs k no_pair).0 []) (get_or arcs k [])
  pub ends : (k : ℕ) → k < length arcs → get_or finals k None ≡ final_beside (get_or t.accepting (get_or pairs k no_pair).1 false) (final_of m.finals (get_or pairs k no_pair).0)

pub producing_none : (m : Machine) (t : Table) (from : ℕ) (pairs : List Pair) → WellFormed m → IsTotal t → Numbers [] pairs (m.start, t.start) from → Producing m t from pairs [] []
producing_none m t from pairs sound total add = record {
  are = more_pairs m t [] pairs (m.start, t.start) from (λ k l. absurd (omega (arith, l))) (record { first = sound.start; second = total.start }) add;
  count = refl;
  more = omega arith;
  start = numbers_within add;
  begins = stored_at add no_pair;
  rows = λ k l. absurd (omega (arith, l));
  ends = λ k l. absurd (omega (arith, l));
}

RowAt : (m : Machine) (t : Table) (pairs : List Pair) (p : Pair) (row : List Arc) → Type 0
RowAt m t pairs p row = RowBeside t pairs p.1 (length (get_or m.arcs p.0 [])) (get_or m.arcs p.0 []) row

EndAt : (m : Machine) (t : Table) (p : Pair) (last : Option ℕ) → Type 0
EndAt m t p last = last ≡ final_beside (get_or t.accepting p.1 false) (final_of m.finals p.0)

pub producing_more : (m : Machine) (t : Table) (from k : ℕ) (pairs new : List Pair) (arcs : List (List Arc)) (finals : List (Option ℕ)) (p : Pair) (row : List Arc) (last : Option ℕ)
    → Producing m t from pairs arcs finals → k ≡ length arcs → k < length pairs → p ≡ get_or pairs k no_pair
    → Paired m t pairs new p.1 (length (get_or m.arcs p.0 [])) (get_or m.arcs p.0 []) row → last ≡ final_beside (get_or t.accepting p.1 false) (final_of m.finals p.0)
    → Producing m t from new (arcs ++ row ∷ []) (finals ++ last ∷ [])
unfolding RowAt EndAt
producing_more m t from k pairs new arcs finals p row last had e l at add end =
    let more : length pairs ≤ length new = keeps_more add.keeps in
    let start : from < length pairs = had.start in
    let even : length finals ≡ length arcs = had.count in
    let n : length (arcs ++ row ∷ []) ≡ length arcs + 1 = length-append arcs (row ∷ []) in
    let o : length (finals ++ last ∷ []) ≡ length finals + 1 = length-append finals (last ∷ []) in
    record {
      are = add.pairs;
      count = omega arith;
      more = omega arith;
      start = omega arith;
      begins = kept_at no_pair add.keeps from start ∙ had.begins;
      rows = λ j i. elim (cases_lt j (length arcs)) [
        | inl low ↦
            let w : j < length pairs = omega arith in
            subst (λ v. RowAt m t new v (get_or (arcs ++ row ∷ []) j [])) (sym (kept_at no_pair add.keeps j w))
            (subst (RowAt m t new (get_or pairs j no_pair)) (sym (get_or_append_left arcs (row ∷ []) [] j low))
            (row_kept t pairs new _ _ _ _ add.keeps (had.rows j low)))
        | inr high ↦
            let q : length arcs ≡ j = omega arith in
            let r : k ≡ j = omega arith in
            subst (λ v. RowAt m t new v (get_or (arcs ++ row ∷ []) j [])) (at ∙ ap (λ v. get_or pairs v no_pair) r ∙ sym (kept_at no_pair add.keeps j (omega arith)))
            (subst (RowAt m t new p) (sym (get_or_push arcs row [] j q)) add.beside)
      ];
      ends = λ j i. elim (cases_lt j (length arcs)) [
        | inl low ↦
            let w : j < length pairs = omega arith in
            let u : j < length finals = omega arith in
            subst (λ v. EndAt m t v (get_or (finals ++ last ∷ []) j None)) (sym (kept_at no_pair add.keeps j w))
            (subst (EndAt m t (get_or pairs j no_pair)) (sym (get_or_append_left finals (last ∷ []) None j u)) (had.ends j low))
        | inr high ↦
            let q : length finals ≡ j = omega arith in
            let r : k ≡ j = omega arith in
            subst (λ v. EndAt m t v (get_or (finals ++ last ∷ []) j None)) (at ∙ ap (λ v. get_or pairs v no_pair) r ∙ sym (kept_at no_pair add.keeps j (omega arith)))
            (subst (EndAt m t p) (sym (get_or_push finals last None j q)) end)
      ];
    }

-- what a run says after a label or none
run_moved : (t : Table) (q n : ℕ) (x : List ℕ) → run_from t (moved t q n) x ≡ run_from t q (label n x)
run_moved t q zero x = refl
run_moved t q (suc n) x = refl

module _ (m : Machine) (t : Table) (from : ℕ) (pairs : List Pair) (arcs : List (List Arc)) (finals : List (Option ℕ)) (sound : WellFormed m) (total : IsTotal t) (had : Producing m t from pairs arcs finals) (done : length pairs ≤ length arcs) where
  made : Machine
  made = record { start = from; arcs = arcs; finals = finals }

  all : length arcs ≡ length pairs
  all = let more : length arcs ≤ length pairs = had.more in omega arith

  -- the arc of the transducer that an arc of a pair stands for
  pub back : (k i : ℕ) (b : Arc) → k < length pairs → slice_get (get_or arcs k []) i ≡ Some b → (a : Arc) × IsArc m.arcs (get_or pairs k no_pair).0 i a × Beside t pairs (get_or pairs k no_pair).1 a b
  back k i b l h =
      let w : k < length arcs = subst (λ n. k < n) (sym all) l in
      let row = had.rows k w in
      let within : i < length (get_or m.arcs (get_or pairs k no_pair).0 []) = subst (λ n. i < n) row.count (slice_get_within (get_or arcs k []) i b h) in
      let a = get_or (get_or m.arcs (get_or pairs k no_pair).0 []) i b in
      let at : IsArc m.arcs (get_or pairs k no_pair).0 i a = slice_get-get_or (get_or m.arcs (get_or pairs k no_pair).0 []) i b within in
      let r = row.arcs i a within at in
      let e : Some r.0 ≡ Some b = sym r.1 ∙ h in
      let same : r.0 ≡ b = cc in
      (a, at, subst (Beside t pairs (get_or pairs k no_pair).1 a) same r.2)

  pub produced : WellFormed (record { start = from; arcs = arcs; finals = finals })
  produced = record {
    finals = had.count;
    start = subst (λ n. from < n) (sym all) had.start;
    arcs = λ k i b h. elim (cases_lt k (length pairs)) [
      | inl l ↦
          let r = back k i b l h in
          let f = sound.arcs (get_or pairs k no_pair).0 i r.0 r.1 in
          record {
            input = subst (λ n. n ≤ 257) (sym r.2.input) f.input;
            output = subst (λ n. n ≤ 257) (sym r.2.output) f.output;
            weight = subst (λ n. n < 2 ^ 54) (sym r.2.weight) f.weight;
            next = subst (λ n. b.next < n) (sym all) r.2.within;
          }
      | inr l ↦
          let past : length arcs ≤ k = omega (arith, all) in
          let e : None ≡ Some b = ap (λ r. slice_get r i) (sym (get_or_past arcs k [] past)) ∙ h in absurd (cc)
    ];
    weights = λ k w h. elim (cases_lt k (length arcs)) [
      | inl l ↦ end_fits (get_or t.accepting (get_or pairs k no_pair).1 false) (get_or pairs k no_pair).0 w (sym (had.ends k l) ∙ h)
      | inr l ↦
          let past : length finals ≤ k = (let n : length finals ≡ length arcs = had.count in omega arith) in
          let e : None ≡ Some w = sym (get_or_past finals k None past) ∙ h in absurd (cc)
    ];
  }
    where
      end_fits : (b : Bool) (s w : ℕ) → final_beside b (final_of m.finals s) ≡ Some w → w < 2 ^ 54
      end_fits true s w h = absurd (cc)
      end_fits false s w h = sound.weights s w h

  pub product_top : top_of (record { start = from; arcs = arcs; finals = finals }) ≤ top_of m
  product_top = top_under (record { start = from; arcs = arcs; finals = finals }) (top_of m) (record {
    arcs = λ k i b h. elim (cases_lt k (length pairs)) [
      | inl l ↦
          let r = back k i b l h in
          let w : r.0.weight ≤ top_of m = arc_below m (get_or pairs k no_pair).0 i r.0 r.1 in
          let e : b.weight ≡ r.0.weight = r.2.weight in
          omega arith
      | inr l ↦
          let past : length arcs ≤ k = omega (arith, all) in
          let e : None ≡ Some b = ap (λ r. slice_get r i) (sym (get_or_past arcs k [] past)) ∙ h in absurd (cc)
    ];
    ends = λ k w h. elim (cases_lt k (length arcs)) [
      | inl l ↦ end_under (get_or t.accepting (get_or pairs k no_pair).1 false) (get_or pairs k no_pair).0 w (sym (had.ends k l) ∙ h)
      | inr l ↦
          let past : length finals ≤ k = (let n : length finals ≡ length arcs = had.count in omega arith) in
          let e : None ≡ Some w = sym (get_or_past finals k None past) ∙ h in absurd (cc)
    ];
  })
    where
      end_under : (b : Bool) (s w : ℕ) → final_beside b (final_of m.finals s) ≡ Some w → w ≤ top_of m
      end_under true s w h = absurd (cc)
      end_under false s w h = end_below m s w h

  not_both : (b : Bool) (o : Option ℕ) (w : ℕ) → final_beside b o ≡ Some w → (b ≡ false) × (o ≡ Some w)
  not_both true o w h = absurd (cc)
  not_both false o w h = (refl, h)

  -- a path of pairs
  out : {k : ℕ} {is x y : List ℕ} {w : ℕ} → Path (record { start = from; arcs = arcs; finals = finals }) k is x y w → k < length pairs → (From m (get_or pairs k no_pair).0 x y w) × (get_or t.accepting (run_from t (get_or pairs k no_pair).1 x) false ≡ false)
  out (stop {s = k} {w} h) l =
      let q = not_both (get_or t.accepting (get_or pairs k no_pair).1 false) (final_of m.finals (get_or pairs k no_pair).0) w (sym (had.ends k (subst (λ n. k < n) (sym all) l)) ∙ h) in
      (([], stop q.1), q.0)
  out (step {s = k} {k = i} {ks = is} {a = b} {x} {y} {w} h path) l =
      let r = back k i b l h in
      let later = out path r.2.within in
      let first : From m r.0.next x y w = subst (λ (p : Pair). From m p.0 x y w) r.2.next later.0 in
      let rest : get_or t.accepting (run_from t (moved t (get_or pairs k no_pair).1 r.0.input) x) false ≡ false = subst (λ (p : Pair). get_or t.accepting (run_from t p.1 x) false ≡ false) r.2.next later.1 in
      let whole : From m (get_or pairs k no_pair).0 (label r.0.input x) (label r.0.output y) (r.0.weight + w) = (i ∷ first.0, step r.1 first.1) in
      let end : get_or t.accepting (run_from t (get_or pairs k no_pair).1 (label r.0.input x)) false ≡ false = ap (λ v. get_or t.accepting v false) (sym (run_moved t (get_or pairs k no_pair).1 r.0.input x)) ∙ rest in (
        subst (λ v. From m (get_or pairs k no_pair).0 (label b.input x) (label b.output y) (v + w)) (sym r.2.weight)
            (subst (λ v. From m (get_or pairs k no_pair).0 (label b.input x) (label v y) (r.0.weight + w)) (sym r.2.output)
            (subst (λ v. From m (get_or pairs k no_pair).0 (label v x) (label r.0.output y) (r.0.weight + w)) (sym r.2.input) whole)),
        subst (λ v. get_or t.accepting (run_from t (get_or pairs k no_pair).1 (label v x)) false ≡ false) (sym r.2.input) end,
      )

  -- a path of the transducer beside a run
  into : {s : ℕ} {is x y : List ℕ} {w : ℕ} → Path m s is x y w → (k q : ℕ) → k < length pairs → get_or pairs k no_pair ≡ (s, q) → get_or t.accepting (run_from t q x) false ≡ false → From (record { start = from; arcs = arcs; finals = finals }) k x y w
  into (stop {s} {w} h) k q l at off =
      let e = had.ends k (subst (λ n. k < n) (sym all) l) in
      ([], stop (e ∙ ap (λ (p : Pair). final_beside (get_or t.accepting p.1 false) (final_of m.finals p.0)) at ∙ ap (λ b. final_beside b (final_of m.finals s)) off ∙ h))
  into (step {s} {k = i} {ks = is} {a} {x} {y} {w} h path) k q l at off =
      let row = had.rows k (subst (λ n. k < n) (sym all) l) in
      let there : IsArc m.arcs (get_or pairs k no_pair).0 i a = subst (λ (p : Pair). IsArc m.arcs p.0 i a) (sym at) h in
      let r = row.arcs i a (slice_get_within (get_or m.arcs (get_or pairs k no_pair).0 []) i a there) there in
      let next : get_or pairs r.0.next no_pair ≡ (a.next, moved t q a.input) = r.2.next ∙ ap (λ (p : Pair). (a.next, moved t p.1 a.input)) at in
      let later = into path r.0.next (moved t q a.input) r.2.within next (ap (λ v. get_or t.accepting v false) (run_moved t q a.input x) ∙ off) in
      subst (λ v. From (record { start = from; arcs = arcs; finals = finals }) k (label a.input x) (label a.output y) (v + w)) r.2.weight
      (subst (λ v. From (record { start = from; arcs = arcs; finals = finals }) k (label a.input x) (label v y) (r.0.weight + w)) r.2.output
      (subst (λ v. From (record { start = from; arcs = arcs; finals = finals }) k (label v x) (label r.0.output y) (r.0.weight + w)) r.2.input
      (i ∷ later.0, step r.1 later.1)))

  pub product_reads : Same (Reads (record { start = from; arcs = arcs; finals = finals })) (Except (Reads m) (Accepts t))
  product_reads x y w = (
    λ h.
        let r = out h.1 had.start in
        let off : get_or t.accepting (run_from t t.start x) false ≡ false = subst (λ (p : Pair). get_or t.accepting (run_from t p.1 x) false ≡ false) had.begins r.1 in
        record { reads = subst (λ (p : Pair). From m p.0 x y w) had.begins r.0; other = λ k. true≢false (sym k.accepted ∙ off) },
    λ h. by h (get_or t.accepting (run_from t t.start x) false) refl,
  )
    where
      by : (h : Except (Reads m) (Accepts t) x y w) (b : Bool) → get_or t.accepting (run_from t t.start x) false ≡ b → Reads (record { start = from; arcs = arcs; finals = finals }) x y w
      by h true e = absurd (h.other (record { labels = path_labels m sound h.reads.1; accepted = e }))
      by h false e = into h.reads.1 from t.start had.start had.begins e
