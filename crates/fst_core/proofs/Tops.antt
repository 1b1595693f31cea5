-- Bounds on the weights of what is built.
use Rattle.std.proofs.Common.{Bool, subst, take, drop, ◌≡◌, ℕ, zero, suc, ◌+◌, ◌-◌, ◌<◌, ◌≤◌, List, [], ◌∷◌, ◌++◌, length, get_or, Option, Some, None, max, refl, sym, ◌∙◌, ap, inl, inr, arith, length-append}
use Rattle.std.specs.Prelude.{slice_get, fold, unwrap_or, sum_by}
use Rattle.std.proofs.lemmas.List.Sums.{sum_by-take-drop, sum_by-drop_more}
use Rattle.std.proofs.lemmas.Bool.{cases_lt}
use Rattle.std.proofs.lemmas.List.{get_or_append_left, get_or_push}
use Rattle.std.proofs.lemmas.Option.{slice_get-get_or, get_or_from_slice_get}
use Rattle.fst_core.specs.declared.builder.Kept.{Kept}
use Rattle.fst_core.specs.declared.builder.Kept.TheVariants.{Input, Output}
use Rattle.weighted_relations.specs.declared.Arc.{Arc}
use Rattle.weighted_relations.specs.Machines.{Machine, IsArc, final_of}
use Rattle.fst_core.specs.Placed.{placed_final, empty_arc}
use Rattle.fst_core.specs.States.{States, with_state, Adds, as_states, as_machine, no_states}
use Rattle.fst_core.specs.Turned.{TurnedArcs, Below, HubRow}
use Rattle.std.specs.List.{filter_map}
use Rattle.fst_core.specs.Useful.{to_kept}
use Rattle.fst_core.specs.Top.{greatest, row_top, top_of, Under}
use Rattle.fst_core.proofs.Regions.{RowCase, row_cases}
use Rattle.fst_core.proofs.Fits.{no_arc, no_end}
use Rattle.fst_core.proofs.KeptRows.{row_only}
use Rattle.fst_core.proofs.Branches.{Branches, empty_weight}

module _ {A : Type 0} (f : A → ℕ) where
  fold_above : (xs : List A) (s : ℕ) → s ≤ fold (λ t x. max t (f x)) s xs
  fold_above [] s = omega arith
  fold_above (x ∷ xs) s = let q : max s (f x) ≤ fold (λ t x. max t (f x)) (max s (f x)) xs = fold_above xs (max s (f x)) in omega arith

  fold_each : (xs : List A) (s k : ℕ) (x : A) → slice_get xs k ≡ Some x → f x ≤ fold (λ t x. max t (f x)) s xs
  fold_each [] s k x h = absurd (cc)
  fold_each (y ∷ xs) s zero x h =
      let e : f y ≡ f x = (let same : y ≡ x = cc in ap f same) in
      let q : max s (f y) ≤ fold (λ t x. max t (f x)) (max s (f y)) xs = fold_above xs (max s (f y)) in
      omega arith
  fold_each (y ∷ xs) s (suc k) x h = fold_each xs (max s (f y)) k x h

  fold_under : (xs : List A) (s t : ℕ) → s ≤ t → ((k : ℕ) (x : A) → slice_get xs k ≡ Some x → f x ≤ t) → fold (λ t x. max t (f x)) s xs ≤ t
  fold_under [] s t l h = l
  fold_under (x ∷ xs) s t l h = fold_under xs (max s (f x)) t (let q : f x ≤ t = h 0 x refl in omega arith) (λ k y e. h (suc k) y e)

pub arc_below : (m : Machine) (s k : ℕ) (a : Arc) → IsArc m.arcs s k a → a.weight ≤ top_of m
arc_below m s k a h = elim (cases_lt s (length m.arcs)) [
  | inl l ↦
      let p : a.weight ≤ row_top (get_or m.arcs s []) = fold_each (λ (a : Arc). a.weight) (get_or m.arcs s []) 0 k a h in
      let q : row_top (get_or m.arcs s []) ≤ greatest row_top m.arcs = fold_each row_top m.arcs 0 s (get_or m.arcs s []) (slice_get-get_or m.arcs s [] l) in
      omega arith
  | inr l ↦ absurd (no_arc m.arcs s k a l h)
]

pub end_below : (m : Machine) (s w : ℕ) → final_of m.finals s ≡ Some w → w ≤ top_of m
end_below m s w h = elim (cases_lt s (length m.finals)) [
  | inl l ↦
      let p : unwrap_or (final_of m.finals s) 0 ≤ greatest (λ o. unwrap_or o 0) m.finals = fold_each (λ o. unwrap_or o 0) m.finals 0 s (final_of m.finals s) (slice_get-get_or m.finals s None l) in
      let e : unwrap_or (final_of m.finals s) 0 ≡ w = ap (λ o. unwrap_or o 0) h in
      omega arith
  | inr l ↦ absurd (no_end m.finals s w l h)
]

pub under_of : (m : Machine) (t : ℕ) → top_of m ≤ t → Under t (as_states m)
under_of m t l = record {
  arcs = λ s k a h. let q : a.weight ≤ top_of m = arc_below m s k a h in omega arith;
  ends = λ s w h. let q : w ≤ top_of m = end_below m s w h in omega arith;
}

end_under : (o : Option ℕ) (t : ℕ) → ((w : ℕ) → o ≡ Some w → w ≤ t) → unwrap_or o 0 ≤ t
end_under None t h = omega arith
end_under (Some w) t h = h w refl

pub top_under : (m : Machine) (t : ℕ) → Under t (as_states m) → top_of m ≤ t
top_under m t h =
    let p : greatest row_top m.arcs ≤ t = fold_under row_top m.arcs 0 t (omega arith) (λ s row e. fold_under (λ (a : Arc). a.weight) row 0 t (omega arith) (λ k a i. h.arcs s k a (ap (λ r. slice_get r k) (get_or_from_slice_get m.arcs s row [] e) ∙ i))) in
    let q : greatest (λ o. unwrap_or o 0) m.finals ≤ t = fold_under (λ o. unwrap_or o 0) m.finals 0 t (omega arith) (λ s o e. end_under o t (λ w i. h.ends s w (get_or_from_slice_get m.finals s o None e ∙ i))) in
    omega arith

pub under_more : (t u : ℕ) (b : States) → t ≤ u → Under t b → Under u b
under_more t u b l h = record {
  arcs = λ s k a e. let q : a.weight ≤ t = h.arcs s k a e in omega arith;
  ends = λ s w e. let q : w ≤ t = h.ends s w e in omega arith;
}

-- a transducer placed among others
pub adds_under : (t : ℕ) (b c : States) (p : Machine) (i o : Kept) (exit : Option ℕ) → Under t b → top_of p ≤ t → Adds b c p (length p.arcs) i o exit → Under t c
unfolding RowCase
adds_under t b c p i o exit had l adds = record {
  arcs = λ s k a e. elim (cases_lt s (length b.arcs)) [
    | inl low ↦ had.arcs s k a (ap (λ z. slice_get z k) (sym (adds.old_arcs s low)) ∙ e)
    | inr high ↦ elim (cases_lt s (length c.arcs)) [
      | inl m ↦
          let count : length c.arcs ≡ length b.arcs + length p.arcs = adds.arc_count in
          let at : s ≡ length b.arcs + (s - length b.arcs) = omega arith in
          let within : s - length b.arcs < length p.arcs = omega arith in
          let n = s - length b.arcs in
          elim (row_cases (length b.arcs) i o exit (get_or p.arcs n []) (final_of p.finals n) a k (ap (λ z. slice_get z k) (sym (ap (λ z. get_or c.arcs z []) at ∙ adds.region.rows n within)) ∙ e)) [
            | inl q ↦
                let w : q.0.weight ≤ top_of p = arc_below p n q.1 q.0 q.2 in
                let f : a.weight ≡ q.0.weight = ap (λ (z : Arc). z.weight) q.3 in
                omega arith
            | inr q ↦
                let w : q.1 ≤ top_of p = end_below p n q.1 q.3 in
                let f : a.weight ≡ q.1 = ap (λ (z : Arc). z.weight) q.4 in
                omega arith
          ]
      | inr m ↦ absurd (no_arc c.arcs s k a m e)
    ]
  ];
  ends = λ s w e. elim (cases_lt s (length b.arcs)) [
    | inl low ↦ had.ends s w (sym (adds.old_finals s low) ∙ e)
    | inr high ↦ elim (cases_lt s (length c.finals)) [
      | inl m ↦
          let count : length c.finals ≡ length b.arcs + length p.arcs = adds.final_count in
          let at : s ≡ length b.arcs + (s - length b.arcs) = omega arith in
          let within : s - length b.arcs < length p.arcs = omega arith in
          placed_under exit (s - length b.arcs) w (sym (ap (final_of c.finals) at ∙ adds.region.ends (s - length b.arcs) within) ∙ e)
      | inr m ↦ absurd (no_end c.finals s w m e)
    ]
  ];
}
  where
    placed_under : (exit : Option ℕ) (s w : ℕ) → placed_final exit (final_of p.finals s) ≡ Some w → w ≤ t
    placed_under None s w e = let q : w ≤ top_of p = end_below p s w e in omega arith
    placed_under (Some u) s w e = absurd (cc)

-- one more state
pub state_under : (t : ℕ) (b : States) (row : List Arc) (last : Option ℕ) → length b.finals ≡ length b.arcs → Under t b → ((k : ℕ) (a : Arc) → slice_get row k ≡ Some a → a.weight ≤ t) → ((w : ℕ) → last ≡ Some w → w ≤ t) → Under t (with_state b row last)
state_under t b row last even had rows ends = record {
  arcs = λ s k a e. elim (cases_lt s (length b.arcs)) [
    | inl l ↦ had.arcs s k a (ap (λ z. slice_get z k) (sym (get_or_append_left b.arcs (row ∷ []) [] s l)) ∙ e)
    | inr l ↦ elim (cases_lt (length b.arcs) s) [
      | inl m ↦ absurd (no_arc (b.arcs ++ row ∷ []) s k a (let q : length (b.arcs ++ row ∷ []) ≡ length b.arcs + 1 = length-append b.arcs (row ∷ []) in omega arith) e)
      | inr m ↦
          let at : length b.arcs ≡ s = omega arith in
          rows k a (ap (λ z. slice_get z k) (sym (get_or_push b.arcs row [] s at)) ∙ e)
    ]
  ];
  ends = λ s w e. elim (cases_lt s (length b.finals)) [
    | inl l ↦ had.ends s w (sym (get_or_append_left b.finals (last ∷ []) None s l) ∙ e)
    | inr l ↦ elim (cases_lt (length b.finals) s) [
      | inl m ↦ absurd (no_end (b.finals ++ last ∷ []) s w (let q : length (b.finals ++ last ∷ []) ≡ length b.finals + 1 = length-append b.finals (last ∷ []) in omega arith) e)
      | inr m ↦
          let at : length b.finals ≡ s = omega arith in
          ends w (sym (get_or_push b.finals last None s at) ∙ e)
    ]
  ];
}

-- what is built of these states
pub built_top : (t start : ℕ) (m : Machine) (c : States) → m ≡ as_machine start c → Under t c → top_of m ≤ t
built_top t start m c e h = subst (λ v. top_of v ≤ t) (sym e) (top_under (as_machine start c) t h)

pub none_under : (t : ℕ) (b : States) → b ≡ no_states → Under t b
none_under t b e = subst (Under t) (sym e) (record { arcs = λ s k a h. absurd (cc); ends = λ s w h. absurd (cc) })

pub alone_top : (a m : Machine) (v c : States) (i o : Kept) (start : ℕ) → v ≡ no_states → Adds v c a (length a.arcs) i o None → m ≡ as_machine start c → top_of m ≤ top_of a
alone_top a m v c i o start e adds built = built_top (top_of a) start m c built (adds_under (top_of a) v c a i o None (none_under (top_of a) v e) (let l : top_of a ≤ top_of a = omega arith in l) adds)

pub weighted_top : (a m : Machine) (u b c : States) (row : List Arc) (v start : ℕ) (i o : Kept) (exit : Option ℕ) → u ≡ no_states → row ≡ [] → b ≡ with_state u row (Some v) → Adds b c a (length a.arcs) i o exit → m ≡ as_machine start c → top_of m ≤ top_of a + v
weighted_top a m u b c row v start i o exit e none pushed adds built =
    let t = top_of a + v in
    let even : length u.finals ≡ length u.arcs = subst (λ (z : States). length z.finals ≡ length z.arcs) (sym e) refl in
    let end : Under t b = subst (Under t) (sym pushed) (state_under t u row (Some v) even (none_under t u e) (λ k a h. absurd (let q : slice_get [] k ≡ Some a = ap (λ r. slice_get r k) (sym none) ∙ h in cc)) (λ w h. let q : v ≡ w = cc in omega arith)) in
    built_top t start m c built (adds_under t b c a i o exit end (omega arith) adds)

one_weight : (s k : ℕ) (a : Arc) → slice_get (empty_arc 0 s ∷ []) k ≡ Some a → a.weight ≡ 0
one_weight s zero a h = let q : empty_arc 0 s ≡ a = cc in ap (λ (z : Arc). z.weight) (sym q)
one_weight s (suc k) a h = absurd (cc)

pub starred_top : (a m : Machine) (u b c : States) (row : List Arc) (s start : ℕ) (i o : Kept) (exit : Option ℕ) → u ≡ no_states → b ≡ with_state u row (Some 0) → row ≡ empty_arc 0 s ∷ [] → Adds b c a (length a.arcs) i o exit → m ≡ as_machine start c → top_of m ≤ top_of a
starred_top a m u b c row s start i o exit e pushed one adds built =
    let t = top_of a in
    let even : length u.finals ≡ length u.arcs = subst (λ (z : States). length z.finals ≡ length z.arcs) (sym e) refl in
    let end : Under t b = subst (Under t) (sym pushed) (state_under t u row (Some 0) even (none_under t u e) (λ k a h. let q : a.weight ≡ 0 = one_weight s k a (ap (λ r. slice_get r k) (sym one) ∙ h) in omega arith) (λ w h. let q : 0 ≡ w = cc in omega arith)) in
    built_top t start m c built (adds_under t b c a i o exit end (let l : top_of a ≤ top_of a = omega arith in l) adds)

pub crossed_top : (a b m : Machine) (v c d : States) (i o i' o' : Kept) (exit exit' : Option ℕ) (start : ℕ) → v ≡ no_states → Adds v c b (length b.arcs) i o exit → Adds c d a (length a.arcs) i' o' exit' → m ≡ as_machine start d → top_of m ≤ top_of a + top_of b
crossed_top a b m v c d i o i' o' exit exit' start e first second built =
    let t = top_of a + top_of b in
    built_top t start m d built (adds_under t c d a i' o' exit' (adds_under t v c b i o exit (none_under t v e) (omega arith) first) (omega arith) second)

pub before_top : (p rest m : Machine) (b c : States) (i o : Kept) (exit : Option ℕ) (start : ℕ) → b ≡ as_states rest → Adds b c p (length p.arcs) i o exit → m ≡ as_machine start c → top_of m ≤ top_of p + top_of rest
before_top p rest m b c i o exit start e adds built =
    let t = top_of p + top_of rest in
    built_top t start m c built (adds_under t b c p i o exit (subst (Under t) (sym e) (under_of rest t (omega arith))) (omega arith) adds)

-- one state alone
pub end_top : (m : Machine) (b d : States) (row : List Arc) (last : Option ℕ) (start : ℕ) → ((w : ℕ) → last ≡ Some w → w ≤ 0) → b ≡ no_states → row ≡ [] → d ≡ with_state b row last → m ≡ as_machine start d → top_of m ≤ 0
end_top m b d row last start small e none pushed built =
    let even : length b.finals ≡ length b.arcs = subst (λ (z : States). length z.finals ≡ length z.arcs) (sym e) refl in
    built_top 0 start m d built (subst (Under 0) (sym pushed) (state_under 0 b row last even (none_under 0 b e) (λ k a h. absurd (let q : slice_get [] k ≡ Some a = ap (λ r. slice_get r k) (sym none) ∙ h in cc)) small))

module _ {A : Type 0} (f : A → ℕ) (xs : List A) (i : ℕ) (x : A) (within : i < length xs) (at : x ≡ get_or xs i x) (n k : ℕ) where
  pub sum_take : n ≤ sum_by f (take i xs) → k ≤ n + f x → k ≤ sum_by f (take (i + 1) xs)
  sum_take l m =
      let a : sum_by f (take i xs) + sum_by f (drop i xs) ≡ sum_by f xs = sum_by-take-drop f xs i in
      let b : sum_by f (take (i + 1) xs) + sum_by f (drop (i + 1) xs) ≡ sum_by f xs = sum_by-take-drop f xs (i + 1) in
      let c : sum_by f (drop i xs) ≡ f (get_or xs i x) + sum_by f (drop (i + 1) xs) = sum_by-drop_more f xs i x within in
      let d : f x ≡ f (get_or xs i x) = ap f at in
      omega arith

  pub sum_drop : n ≤ sum_by f (drop (i + 1) xs) → k ≤ f x + n → k ≤ sum_by f (drop i xs)
  sum_drop l m =
      let c : sum_by f (drop i xs) ≡ f (get_or xs i x) + sum_by f (drop (i + 1) xs) = sum_by-drop_more f xs i x within in
      let d : f x ≡ f (get_or xs i x) = ap f at in
      omega arith

-- one more part of a union
pub branch_under : (parts : List Machine) (i : ℕ) (p : Machine) (b c : States) → i < length parts → p ≡ get_or parts i p → Under (sum_by top_of (take i parts)) b → Adds b c p (length p.arcs) Input Output None → Under (sum_by top_of (take (i + 1) parts)) c
branch_under parts i p b c l e had adds =
    let t = sum_by top_of (take i parts) in
    let u = sum_by top_of (take (i + 1) parts) in
    let sum : t + top_of p ≤ u = sum_take top_of parts i p l e t (t + top_of p) (omega arith) (omega arith) in
    adds_under u b c p Input Output None (under_more t u b (omega arith) had) (omega arith) adds

pub branches_top : (parts : List Machine) (t hub : ℕ) (m : Machine) (b d : States) (row : List Arc) → Branches parts b row → Under t b → d ≡ with_state b row None → m ≡ as_machine hub d → top_of m ≤ t
branches_top parts t hub m b d row branches had pushed built =
    built_top t hub m d built (subst (Under t) (sym pushed) (state_under t b row None branches.even had (λ k a h. let q : a.weight ≡ 0 = empty_weight branches.targets k a (ap (λ r. slice_get r k) (sym branches.arcs_to) ∙ h) in omega arith) (λ w h. absurd (cc))))

-- arcs that are turned round
pub turned_top : (p m : Machine) (b : States) (hub : List Arc) (start : ℕ) → TurnedArcs p (Below (length p.arcs)) b.arcs → HubRow p (length p.arcs) hub → length b.finals ≡ length p.arcs → ((s w : ℕ) → final_of b.finals s ≡ Some w → (s ≡ p.start) × (w ≡ 0)) → m ≡ as_machine start (with_state b hub None) → top_of m ≤ top_of p
turned_top p m b hub start turns row count only built =
    let t = top_of p in
    let inside : Under t b = record {
      arcs = λ s k a h.
          let q = turns.only s k a h in
          let w : q.arc.weight ≤ top_of p = arc_below p a.next q.place q.arc q.there in
          let e : a.weight ≡ q.arc.weight = ap (λ (z : Arc). z.weight) q.is in
          omega arith;
      ends = λ s w h. let q : w ≡ 0 = (only s w h).1 in omega arith;
    } in
    built_top t start m (with_state b hub None) built (state_under t b hub None (count ∙ sym turns.count) inside (λ k a h.
    let q = row.only k a h in
    let w : q.1 ≤ top_of p = end_below p q.0 q.1 q.2 in
    let e : a.weight ≡ q.1 = ap (λ (z : Arc). z.weight) q.3 in
    omega arith) (λ w h. absurd (cc)))

-- states that are kept
pub kept_under : (p : Machine) (keep : List Bool) (s : ℕ) (b c : States) (made : List Arc) → Under (top_of p) b → length b.finals ≡ length b.arcs → made ≡ filter_map (to_kept keep) (get_or p.arcs s []) → c ≡ with_state b made (final_of p.finals s) → Under (top_of p) c
kept_under p keep s b c made had even row e =
    subst (Under (top_of p)) (sym e) (state_under (top_of p) b made (final_of p.finals s) even had (λ k a h.
    let q = row_only keep (get_or p.arcs s []) made k a row h in
    let w : q.1.weight ≤ top_of p = arc_below p s q.0 q.1 q.2 in
    let f : a.weight ≡ q.1.weight = ap (λ (z : Arc). z.weight) q.4 in
    omega arith) (λ w h. end_below p s w h))
