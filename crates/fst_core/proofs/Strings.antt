-- States that lead on by one label each.
use Rattle.std.proofs.Common.{◌≡◌, ℕ, zero, suc, ◌+◌, ◌<◌, ◌≤◌, ◌^◌, List, [], ◌∷◌, ◌++◌, length, get_or, drop, Some, None, refl, sym, ◌∙◌, ap, subst, inl, inr, arith, length-append, lit<}
use Rattle.std.specs.Prelude.{slice_get, All}
use Rattle.std.proofs.lemmas.Bool.{cases_lt}
use Rattle.std.proofs.lemmas.List.{get_or_push, get_or_append_left, drop_more, drop_all}
use Rattle.weighted_relations.specs.declared.Arc.{Arc}
use Rattle.weighted_relations.specs.Relations.{Relation, IsLabel, Same, Is, Joined}
use Rattle.weighted_relations.specs.RelationLaws.{same_trans, same_joined, same_refl}
use Rattle.weighted_relations.specs.Graphs.{stop, step, label}
use Rattle.weighted_relations.specs.Machines.{Machine, Path, IsArc, From, final_of, WellFormed, ArcFits, Reads}
use Rattle.fst_core.specs.Placed.{label_arc}
use Rattle.fst_core.specs.States.{States, with_state, as_machine, no_states}
use Rattle.fst_core.specs.Top.{Under}
use Rattle.fst_core.proofs.Regions.{only_one, retag, go}
use Rattle.fst_core.proofs.Fits.{Fit, state_fits, no_arc, no_end}
use Rattle.fst_core.proofs.Building.{last_or_before}
use Rattle.fst_core.proofs.Chained.{end_reads}
use Rattle.fst_core.proofs.Tops.{state_under}

-- a label and what is read after it
abbrev Led : ℕ → Relation → Relation
Led n R = Joined (Is (n ∷ [])) R

led : (n : ℕ) (R : Relation) (x y : List ℕ) (w : ℕ) → 1 ≤ n → R x y w → Led n R (label n x) (label n y) (0 + w)
led zero R x y w l r = absurd (omega (arith, l))
led (suc n) R x y w l r = record { x1 = suc n ∷ []; x2 = x; y1 = suc n ∷ []; y2 = y; w1 = 0; w2 = w; input = refl; output = refl; weight = refl; first = record { input = refl; output = refl; weight = refl }; second = r }

label_front : (n : ℕ) (x : List ℕ) → 1 ≤ n → label n x ≡ n ∷ x
label_front zero x l = absurd (omega (arith, l))
label_front (suc n) x l = refl

led_out : (m : Machine) (n t : ℕ) → 1 ≤ n → {g : ℕ} {ks x y : List ℕ} {w : ℕ} → Path m g ks x y w → get_or m.arcs g [] ≡ label_arc n t ∷ [] → final_of m.finals g ≡ None → Led n (From m t) x y w
led_out m n t l (stop {w} h) row last = let e : None ≡ Some w = sym last ∙ h in absurd (cc)
led_out m n t l (step {k} {ks} {a} {x} {y} {w} h path) row last =
    let e : a ≡ label_arc n t = only_one (label_arc n t) a k (ap (λ z. slice_get z k) (sym row) ∙ h) in
    subst (λ (z : Arc). Led n (From m t) (label z.input x) (label z.output y) (z.weight + w)) (sym e)
    (led n (From m t) x y w l (ks, subst (λ v. Path m v ks x y w) (ap (λ (z : Arc). z.next) e) path))

led_reads : (m : Machine) (g n t : ℕ) → 1 ≤ n → get_or m.arcs g [] ≡ label_arc n t ∷ [] → final_of m.finals g ≡ None → Same (From m g) (Led n (From m t))
led_reads m g n t l row last x y w = (
  λ h. led_out m n t l h.1 row last,
  λ j.
      let ex : label n j.x2 ≡ x = label_front n j.x2 l ∙ sym (j.input ∙ ap (λ v. v ++ j.x2) j.first.input) in
      let ey : label n j.y2 ≡ y = label_front n j.y2 l ∙ sym (j.output ∙ ap (λ v. v ++ j.y2) j.first.output) in
      let ew : 0 + j.w2 ≡ w = (let a : w ≡ j.w1 + j.w2 = j.weight in let b : j.w1 ≡ 0 = j.first.weight in omega arith) in
      retag m g ex ey ew (go m g 0 (label_arc n t) (ap (λ r. slice_get r 0) row) j.second),
)

-- one label more in front
joined_string : (n : ℕ) (ls : List ℕ) → Same (Joined (Is (n ∷ [])) (Is ls)) (Is (n ∷ ls))
joined_string n ls x y w = (
  λ j. record {
    input = j.input ∙ ap (λ v. v ++ j.x2) j.first.input ∙ ap (λ v. n ∷ v) j.second.input;
    output = j.output ∙ ap (λ v. v ++ j.y2) j.first.output ∙ ap (λ v. n ∷ v) j.second.output;
    weight = let a : w ≡ j.w1 + j.w2 = j.weight in let b : j.w1 ≡ 0 = j.first.weight in let c : j.w2 ≡ 0 = j.second.weight in omega arith;
  },
  λ e. record { x1 = n ∷ []; x2 = ls; y1 = n ∷ []; y2 = ls; w1 = 0; w2 = 0; input = e.input; output = e.output; weight = e.weight; first = record { input = refl; output = refl; weight = refl }; second = record { input = refl; output = refl; weight = refl } },
)

pub string_more : (ls : List ℕ) (i n : ℕ) (S T : Relation) → i < length ls → n ≡ get_or ls i 0 → Same S (Is (drop (i + 1) ls)) → Same T (Joined (Is (n ∷ [])) S) → Same T (Is (drop i ls))
string_more ls i n S T l e f g =
    rw (drop_more ls i 0 l, ← e) (same_trans T (Joined (Is (n ∷ [])) S) (Is (n ∷ drop (i + 1) ls)) g
    (same_trans (Joined (Is (n ∷ [])) S) (Joined (Is (n ∷ [])) (Is (drop (i + 1) ls))) (Is (n ∷ drop (i + 1) ls))
    (same_joined (Is (n ∷ [])) S (Is (n ∷ [])) (Is (drop (i + 1) ls)) (same_refl (Is (n ∷ []))) f) (joined_string n (drop (i + 1) ls))))

-- the first k labels, each in the arc of a state of its own
pub record Chain (labels : List ℕ) (k : ℕ) (b : States) : Type 0 where
  pub arc_count : length b.arcs ≡ k
  pub final_count : length b.finals ≡ k
  pub rows : (s : ℕ) → s < k → get_or b.arcs s [] ≡ label_arc (get_or labels s 0) (s + 1) ∷ []
  pub ends : (s : ℕ) → s < k → final_of b.finals s ≡ None

pub chain_none : (labels : List ℕ) (b : States) → b ≡ no_states → Chain labels 0 b
chain_none labels b e = subst (Chain labels 0) (sym e) (record { arc_count = refl; final_count = refl; rows = λ s l. absurd (omega (arith, l)); ends = λ s l. absurd (omega (arith, l)) })

pub chain_more : (labels : List ℕ) (k : ℕ) (b c : States) → Chain labels k b → c ≡ with_state b (label_arc (get_or labels k 0) (k + 1) ∷ []) None → Chain labels (k + 1) c
chain_more labels k b c had e =
    let row : List Arc = label_arc (get_or labels k 0) (k + 1) ∷ [] in
    let n : length b.arcs ≡ k = had.arc_count in
    let m : length b.finals ≡ k = had.final_count in
    subst (Chain labels (k + 1)) (sym e) (record {
      arc_count = length-append b.arcs (row ∷ []) ∙ ap (λ v. v + 1) n;
      final_count = length-append b.finals (None ∷ []) ∙ ap (λ v. v + 1) m;
      rows = λ s l. elim (last_or_before b.arcs row [] s (omega arith)) [
        | inl q ↦ q.1 ∙ had.rows s (subst (λ v. s < v) n q.0)
        | inr q ↦ q.1 ∙ ap (λ (v : ℕ). label_arc (get_or labels v 0) (v + 1) ∷ []) (sym (q.0 ∙ n))
      ];
      ends = λ s l. elim (last_or_before b.finals None None s (omega arith)) [
        | inl q ↦ q.1 ∙ had.ends s (subst (λ v. s < v) m q.0)
        | inr q ↦ q.1
      ];
    })

module _ (labels : List ℕ) (b d : States) (are : All IsLabel labels) (had : Chain labels (length labels) b) (pushed : d ≡ with_state b [] (Some 0)) where
  even : length b.finals ≡ length b.arcs
  even = had.final_count ∙ sym had.arc_count

  chain_arc : (s k : ℕ) (a : Arc) → IsArc b.arcs s k a → (s < length labels) × (a ≡ label_arc (get_or labels s 0) (s + 1))
  chain_arc s k a h = elim (cases_lt s (length b.arcs)) [
    | inl l ↦
        let m : s < length labels = subst (λ v. s < v) had.arc_count l in
        (m, only_one (label_arc (get_or labels s 0) (s + 1)) a k (ap (λ r. slice_get r k) (sym (had.rows s m)) ∙ h))
    | inr l ↦ absurd (no_arc b.arcs s k a l h)
  ]

  chain_end : (s w : ℕ) → final_of b.finals s ≡ Some w → ⊥
  chain_end s w h = elim (cases_lt s (length b.finals)) [
    | inl l ↦ let e : None ≡ Some w = sym (had.ends s (subst (λ v. s < v) had.final_count l)) ∙ h in cc
    | inr l ↦ no_end b.finals s w l h
  ]

  no_row : (k : ℕ) (a : Arc) → slice_get [] k ≡ Some a → ⊥
  no_row k a h = cc

  last_zero : (w : ℕ) → Some 0 ≡ Some w → 0 ≡ w
  last_zero w h = cc

  pub chain_sound : WellFormed (as_machine 0 d)
  chain_sound =
      let n : length d.arcs ≡ length b.arcs + 1 = ap (λ (v : States). length v.arcs) pushed ∙ length-append b.arcs _ in
      let m : length d.finals ≡ length b.finals + 1 = ap (λ (v : States). length v.finals) pushed ∙ length-append b.finals _ in
      let count : length b.arcs ≡ length labels = had.arc_count in
      let same : length b.finals ≡ length b.arcs = even in
      let inside : Fit (length d.arcs) b = record {
        arcs = λ s k a h.
            let q = chain_arc s k a h in
            let l : s < length labels = q.0 in
            let is : IsLabel (get_or labels s 0) = are s 0 l in
            subst (ArcFits (length d.arcs)) (sym q.1) (record { input = is.1; output = is.1; weight = lit< tt; next = omega arith });
        weights = λ s w h. absurd (chain_end s w h);
      } in
      let all : Fit (length d.arcs) d = subst (Fit (length d.arcs)) (sym pushed) (state_fits (length d.arcs) b [] (Some 0) even inside (record { arcs = λ k a h. absurd (no_row k a h) }) (λ w h. subst (λ v. v < 2 ^ 54) (last_zero w h) (lit< tt))) in
      record { finals = omega arith; start = omega arith; arcs = all.arcs; weights = all.weights }

  pub chain_under : Under 0 d
  chain_under = subst (Under 0) (sym pushed) (state_under 0 b [] (Some 0) even (record {
    arcs = λ s k a h. let e : a.weight ≡ 0 = ap (λ (z : Arc). z.weight) (chain_arc s k a h).1 in omega arith;
    ends = λ s w h. absurd (chain_end s w h);
  }) (λ k a h. absurd (no_row k a h)) (λ w h. let e : 0 ≡ w = last_zero w h in omega arith))

  -- what is read after s labels, of which k are left
  chain_from : (k s : ℕ) → s + k ≡ length labels → Same (From (as_machine 0 (with_state b [] (Some 0))) s) (Is (drop s labels))
  chain_from zero s e =
      let m = as_machine 0 (with_state b [] (Some 0)) in
      let n : length b.arcs ≡ length labels = had.arc_count in
      let f : length b.finals ≡ length labels = had.final_count in
      let none : drop s labels ≡ [] = drop_all s labels (omega arith) in
      subst (λ v. Same (From m s) (Is v)) (sym none) (end_reads m s (get_or_push b.arcs [] [] s (omega arith)) (get_or_push b.finals (Some 0) None s (omega arith)))
  chain_from (suc k) s e =
      let m = as_machine 0 (with_state b [] (Some 0)) in
      let l : s < length labels = omega arith in
      let low : 1 ≤ get_or labels s 0 = (are s 0 l).0 in
      let row : get_or m.arcs s [] ≡ label_arc (get_or labels s 0) (s + 1) ∷ [] = get_or_append_left b.arcs ([] ∷ []) [] s (subst (λ v. s < v) (sym had.arc_count) l) ∙ had.rows s l in
      let last : final_of m.finals s ≡ None = get_or_append_left b.finals (Some 0 ∷ []) None s (subst (λ v. s < v) (sym had.final_count) l) ∙ had.ends s l in
      string_more labels s (get_or labels s 0) (From m (s + 1)) (From m s) l refl (chain_from k (s + 1) (omega arith)) (led_reads m s (get_or labels s 0) (s + 1) low row last)

  pub chain_reads : (m : Machine) → m ≡ as_machine 0 d → Same (Reads m) (Is labels)
  chain_reads m built =
      let is : m ≡ as_machine 0 (with_state b [] (Some 0)) = built ∙ ap (as_machine 0) pushed in
      subst (λ v. Same (Reads v) (Is labels)) (sym is) (chain_from (length labels) 0 (omega arith))
