-- Arcs that are turned round read both lists backwards.
use Rattle.std.proofs.Common.{◌≡◌, ℕ, zero, suc, ◌+◌, ◌<◌, ◌≤◌, ◌^◌, List, [], ◌∷◌, ◌++◌, length, get_or, Some, None, refl, sym, ◌∙◌, ap, subst, inl, inr, arith, length-append, append_assoc, append-nil, lit≤, lit<}
use Rattle.std.specs.Prelude.{slice_get, reverse}
use Rattle.std.proofs.lemmas.Bool.{cases_lt}
use Rattle.std.proofs.lemmas.List.{get_or_append_left, get_or_push, get_or_past, reverse-append, reverse-reverse}
use Rattle.weighted_relations.specs.declared.Arc.{Arc}
use Rattle.weighted_relations.specs.Relations.{Relation, Same, Reversed}
use Rattle.weighted_relations.specs.Graphs.{stop, step, label}
use Rattle.weighted_relations.specs.Machines.{Machine, Path, IsArc, From, Reads, final_of, ArcFits, WellFormed}
use Rattle.fst_core.specs.Placed.{empty_arc}
use Rattle.fst_core.specs.States.{States, with_state, as_machine}
use Rattle.fst_core.specs.Turned.{turned, InRow, TurnedArcs, Below, HubRow}
use Rattle.fst_core.proofs.Regions.{go}
use Rattle.fst_core.proofs.Fits.{Fit, RowFits, state_fits}

label_back : (n : ℕ) (x u : List ℕ) → reverse (label n x) ++ u ≡ reverse x ++ label n u
label_back zero x u = refl
label_back (suc n) x u = ap (λ v. v ++ u) (reverse-append (suc n ∷ []) x) ∙ append_assoc (reverse x) (suc n ∷ []) u

-- K at other names of the same reading
renamed : (K : Relation) {x x' y y' : List ℕ} {w w' : ℕ} → x ≡ x' → y ≡ y' → w ≡ w' → K x y w → K x' y' w'
renamed K {x} {x'} {y} {y'} {w} {w'} ex ey ew h = subst (λ v. K x' y' v) ew (subst (λ b. K x' b w) ey (subst (λ a. K a y w) ex h))

-- a path of r, walked back in m
module _ (m r : Machine) (P : ℕ → Type 0) (K : Relation)
    (arcs : (s k : ℕ) (a : Arc) → P s → IsArc r.arcs s k a → P a.next × ((j : ℕ) × IsArc m.arcs a.next j (turned s a)))
    (stops : (s w : ℕ) → P s → final_of r.finals s ≡ Some w → (u v : List ℕ) (z : ℕ) → From m s u v z → K u v (w + z)) where
  pub walked : {s : ℕ} {ks x y : List ℕ} {w : ℕ} → Path r s ks x y w → P s → (u v : List ℕ) (z : ℕ) → From m s u v z → K (reverse x ++ u) (reverse y ++ v) (w + z)
  walked (stop {s} {w} h) p u v z from = stops s w p h u v z from
  walked (step {s} {k} {ks} {a} {x} {y} {w} h path) p u v z from =
      let q = arcs s k a p h in
      let next : From m a.next (label a.input u) (label a.output v) (a.weight + z) = go m a.next q.1.0 (turned s a) q.1.1 from in
      renamed K (sym (label_back a.input x u)) (sym (label_back a.output y v)) (let e : w + (a.weight + z) ≡ (a.weight + w) + z = omega arith in e)
      (walked path q.0 (label a.input u) (label a.output v) (a.weight + z) next)

module _ (p : Machine) (b : States) (hub : List Arc) (sound : WellFormed p) (turns : TurnedArcs p (Below (length p.arcs)) b.arcs) (row : HubRow p (length p.arcs) hub) (count : length b.finals ≡ length p.arcs) (is : final_of b.finals p.start ≡ Some 0) (only : (s w : ℕ) → final_of b.finals s ≡ Some w → (s ≡ p.start) × (w ≡ 0)) where
  same_row : (s : ℕ) → s < length p.arcs → get_or (b.arcs ++ hub ∷ []) s [] ≡ get_or b.arcs s []
  same_row s l = get_or_append_left b.arcs (hub ∷ []) [] s (subst (λ n. s < n) (sym turns.count) l)

  hub_at : get_or (b.arcs ++ hub ∷ []) (length p.arcs) [] ≡ hub
  hub_at = get_or_push b.arcs hub [] (length p.arcs) turns.count

  same_end : (s : ℕ) → s < length p.arcs → final_of (b.finals ++ None ∷ []) s ≡ final_of b.finals s
  same_end s l = get_or_append_left b.finals (None ∷ []) None s (subst (λ n. s < n) (sym count) l)

  hub_end : final_of (b.finals ++ None ∷ []) (length p.arcs) ≡ None
  hub_end = get_or_push b.finals None None (length p.arcs) count

  -- a final state of p
  final_within : (s w : ℕ) → final_of p.finals s ≡ Some w → s < length p.arcs
  final_within s w h = elim (cases_lt s (length p.arcs)) [
    | inl l ↦ l
    | inr l ↦ let n : length p.finals ≡ length p.arcs = sound.finals in let e : None ≡ Some w = sym (get_or_past p.finals s None (omega arith)) ∙ h in absurd (cc)
  ]

  pub turned_sound : WellFormed (as_machine (length p.arcs) (with_state b hub None))
  turned_sound =
      let n = length p.arcs + 1 in
      let rows : length (b.arcs ++ hub ∷ []) ≡ length b.arcs + 1 = length-append b.arcs (hub ∷ []) in
      let ends : length (b.finals ++ None ∷ []) ≡ length b.finals + 1 = length-append b.finals (None ∷ []) in
      let k : length b.arcs ≡ length p.arcs = turns.count in
      let inside : Fit n b = record {
        arcs = λ t j a h.
            let q = turns.only t j a h in
            let f = sound.arcs a.next q.place q.arc q.there in
            let l : a.next < length p.arcs = elim (cases_lt a.next (length p.arcs)) [
              | inl l ↦ l
              | inr l ↦ let e : None ≡ Some q.arc = ap (λ r. slice_get r q.place) (sym (get_or_past p.arcs a.next [] l)) ∙ q.there in absurd (cc)
            ] in
            record {
              input = subst (λ v. v ≤ 257) (sym (ap (λ (z : Arc). z.input) q.is)) f.input;
              output = subst (λ v. v ≤ 257) (sym (ap (λ (z : Arc). z.output) q.is)) f.output;
              weight = subst (λ v. v < 2 ^ 54) (sym (ap (λ (z : Arc). z.weight) q.is)) f.weight;
              next = omega arith;
            };
        weights = λ s w h. subst (λ v. v < 2 ^ 54) (sym (only s w h).1) (lit< tt);
      } in
      let hub_fits : RowFits n hub = record {
        arcs = λ j a h.
            let q = row.only j a h in
            let l : q.0 < length p.arcs = final_within q.0 q.1 q.2 in
            subst (ArcFits n) (sym q.3) (record { input = lit≤ tt; output = lit≤ tt; weight = sound.weights q.0 q.1 q.2; next = omega arith });
      } in
      let all : Fit n (with_state b hub None) = state_fits n b hub None (count ∙ sym turns.count) inside hub_fits (λ w e. absurd (cc)) in
      let size : n ≡ length (b.arcs ++ hub ∷ []) = omega arith in
      record { finals = omega arith; start = omega arith; arcs = subst (λ v. (s k : ℕ) (a : Arc) → IsArc (b.arcs ++ hub ∷ []) s k a → ArcFits v a) size all.arcs; weights = all.weights }

  -- from p to the turned arcs
  to_turned : (x y : List ℕ) (w : ℕ) → Reads p x y w → From (as_machine (length p.arcs) (with_state b hub None)) (length p.arcs) (reverse x) (reverse y) w
  to_turned x y w h =
      let r = as_machine (length p.arcs) (with_state b hub None) in
      let done : From r p.start [] [] 0 = ([], stop (same_end p.start sound.start ∙ is)) in
      let whole : From r (length p.arcs) (reverse x ++ []) (reverse y ++ []) (w + 0) =
      walked r p (λ s. s < length p.arcs) (From r (length p.arcs))
      (λ s k a l e.
      let next = (sound.arcs s k a e).next in
      let in_row : InRow (get_or b.arcs a.next []) (turned s a) = turns.all s k a l e in
      (next, (in_row.0, ap (λ v. slice_get v in_row.0) (same_row a.next next) ∙ in_row.1)))
      (λ s f l e u v z from.
      let k : InRow hub (empty_arc f s) = row.all s f l e in
      go r (length p.arcs) k.0 (empty_arc f s) (ap (λ q. slice_get q k.0) hub_at ∙ k.1) from)
      h.1 sound.start [] [] 0 done in
      renamed (From r (length p.arcs)) (append-nil (reverse x)) (append-nil (reverse y)) (let e : w + 0 ≡ w = omega arith in e) whole

  -- from the turned arcs to p
  from_turned : {s : ℕ} {ks x y : List ℕ} {w : ℕ} → Path (as_machine (length p.arcs) (with_state b hub None)) s ks x y w → s < length p.arcs → (f : ℕ) → final_of p.finals s ≡ Some f → Reads p (reverse x) (reverse y) (f + w)
  from_turned {s} {ks} {x} {y} {w} path l f e =
      let r = as_machine (length p.arcs) (with_state b hub None) in
      let whole : From p p.start (reverse x ++ []) (reverse y ++ []) (w + f) =
      walked p r (λ s. s < length p.arcs) (From p p.start)
      (λ s k a l h.
      let q = turns.only s k a (ap (λ v. slice_get v k) (sym (same_row s l)) ∙ h) in
      let within : a.next < length p.arcs = elim (cases_lt a.next (length p.arcs)) [
        | inl l ↦ l
        | inr l ↦ let z : None ≡ Some q.arc = ap (λ v. slice_get v q.place) (sym (get_or_past p.arcs a.next [] l)) ∙ q.there in absurd (cc)
      ] in
      let back : q.arc ≡ turned s a = ap (λ n. turned n q.arc) q.next ∙ ap (turned s) (sym q.is) in
      (within, (q.place, subst (IsArc p.arcs a.next q.place) back q.there)))
      (λ s v l h u t z from.
      let q = only s v (sym (same_end s l) ∙ h) in
      let k : z ≡ v + z = (let i : v ≡ 0 = q.1 in omega arith) in
      renamed (From p p.start) refl refl k (subst (λ n. From p n u t z) q.0 from))
      path l [] [] f ([], stop e) in
      renamed (From p p.start) (append-nil (reverse x)) (append-nil (reverse y)) (let e : w + f ≡ f + w = omega arith in e) whole

  from_hub : {s : ℕ} {ks x y : List ℕ} {w : ℕ} → Path (as_machine (length p.arcs) (with_state b hub None)) s ks x y w → s ≡ length p.arcs → Reads p (reverse x) (reverse y) w
  from_hub (stop {s} {w} h) e = let q : None ≡ Some w = sym (ap (final_of (b.finals ++ None ∷ [])) e ∙ hub_end) ∙ h in absurd (cc)
  from_hub (step {s} {k} {ks} {a} {x} {y} {w} h path) e =
      let q = row.only k a (sym (ap (λ v. slice_get v k) (ap (λ n. get_or (b.arcs ++ hub ∷ []) n []) e ∙ hub_at)) ∙ h) in
      let next : a.next ≡ q.0 = ap (λ (z : Arc). z.next) q.3 in
      let rest : Reads p (reverse x) (reverse y) (q.1 + w) = from_turned path (subst (λ n. n < length p.arcs) (sym next) (final_within q.0 q.1 q.2)) q.1 (ap (final_of p.finals) next ∙ q.2) in
      subst (λ (z : Arc). Reads p (reverse (label z.input x)) (reverse (label z.output y)) (z.weight + w)) (sym q.3) rest

  pub turned_reads : Same (Reads (as_machine (length p.arcs) (with_state b hub None))) (Reversed (Reads p))
  turned_reads x y w = (
    λ h. from_hub h.1 refl,
    λ h. renamed (From (as_machine (length p.arcs) (with_state b hub None)) (length p.arcs)) (reverse-reverse x) (reverse-reverse y) refl (to_turned (reverse x) (reverse y) w h),
  )
