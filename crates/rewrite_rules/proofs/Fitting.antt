-- What is built is a transducer, and its paths are the machine's runs.
use Rattle.std.proofs.Common.{◌≡◌, ℕ, zero, suc, ◌+◌, ◌<◌, ◌≤◌, ◌^◌, ◌↔◌, List, [], ◌∷◌, ◌++◌, length, get_or, Option, Some, None, refl, sym, ◌∙◌, ap, subst, arith, inl, inr, length-append, lit≤}
use Rattle.std.specs.Prelude.{IsTrue}
use Rattle.std.proofs.lemmas.Bool.{cases_lt}
use Rattle.std.proofs.lemmas.List.{get_or_append_left, get_or_push}
use Rattle.weighted_relations.specs.declared.Arc.{Arc}
use Rattle.weighted_relations.specs.Relations.{Same}
use Rattle.weighted_relations.specs.Graphs.{stop, step, label}
use Rattle.weighted_relations.specs.Machines.{Machine, Path, From, Reads, WellFormed, ArcFits}
use Rattle.acceptor_ops.specs.Tables.{Table, step_of, IsTotal}
use Rattle.fst_core.specs.States.{States, with_state, no_states}
use Rattle.fst_core.specs.Top.{top_of}
use Rattle.fst_core.proofs.Tops.{arc_below, end_below, top_under}
use Rattle.fst_core.proofs.Fits.{no_arc, no_end}
use Rattle.rewrite_rules.specs.declared.automata.Automata.{Automata}
use Rattle.rewrite_rules.specs.declared.spots.Gap.{Gap}
use Rattle.rewrite_rules.specs.declared.spots.Held.{Held}
use Rattle.rewrite_rules.specs.declared.spots.Spot.{Spot}
use Rattle.rewrite_rules.specs.declared.spots.Spot.TheVariants.{Hub, Outside, Inside}
use Rattle.rewrite_rules.specs.Moves.{Run, halt, move, moved}
use Rattle.rewrite_rules.specs.Bimachine.{Parts, Moves, guess, copied, enter, walk, leave, Ends, done, MayPass, bimachine}
use Rattle.state_table.specs.Numbers.{Keeps, Numbers}
use Rattle.state_table.proofs.Numbering.{keeps_more, kept_at, fresh_at}
use Rattle.rewrite_rules.specs.PartsOf.{parts, InRange, AreSound}
use Rattle.rewrite_rules.specs.Steps.{IsMove}
use Rattle.rewrite_rules.specs.Drawn.{Draws, RowOf, Built}
use Rattle.rewrite_rules.proofs.Drawing.{arc_kept}

pub end_zero : {p : Parts} {s : Spot} {w : ℕ} → Ends p s w → w ≡ 0
end_zero (done acc e pass) = refl

pub outside_end : {p : Parts} {s l b : ℕ} {g : Gap} {w : ℕ} → Ends p (Outside s l b g) w → IsTrue (p.sigma_accepts s) × (b ≡ p.back_start) × MayPass p.manner (p.left_accepts l) (p.may_begin g b)
outside_end (done acc e pass) = (acc, e, pass)

pub hub_end : {p : Parts} {w : ℕ} → Ends p Hub w → ⊥
hub_end h = elim h [ ]

pub inside_end : {p : Parts} {s l b q w : ℕ} {h : Held} → Ends p (Inside s l b q h) w → ⊥
inside_end e = elim e [ ]

weight_below : (m : Machine) (t : Automata) {s : Spot} {i o n : ℕ} {to : Spot} → Moves (parts m t) s i o n to → n ≤ top_of m
weight_below m t (guess l) = omega arith
weight_below m t (copied byte dl e on pass) = omega arith
weight_below m t (enter a h) = omega arith
weight_below m t (walk {q} {a} k arc low dl e on) = arc_below m q k a arc
weight_below m t (leave {q} {w} fin acc gl) = end_below m q w fin

step_in : (d : Table) (s n : ℕ) → IsTotal d → s < length d.next → 1 ≤ n → n ≤ 257 → step_of d s n < length d.next
step_in d s n t l low high = t.steps s n l (low, high)

moved_in : (d : Table) (s n : ℕ) → IsTotal d → s < length d.next → n ≤ 257 → moved (step_of d) s n < length d.next
moved_in d s zero t l high = l
moved_in d s (suc n) t l high = step_in d s (suc n) t l (omega arith) high

record Fits (m : Machine) (t : Automata) (i o v : ℕ) (s : Spot) : Type 0 where
  input : i ≤ 257
  output : o ≤ 257
  weight : v < 2 ^ 54
  ranged : InRange m t s

module _ (m : Machine) (t : Automata) (tau : WellFormed m) (ready : AreSound t) where
  moves_fit : {s : Spot} {i o v : ℕ} {to : Spot} → Moves (parts m t) s i o v to → InRange m t s → Fits m t i o v to
  moves_fit (guess {b} l) r = record { input = lit≤ tt; output = lit≤ tt; weight = lit≤ tt; ranged = (ready.sigma.start, ready.left_start, l) }
  moves_fit (copied {s} {l} {b} {d} {c} byte dl e on pass) r = record {
    input = omega (arith, byte.1);
    output = omega (arith, byte.1);
    weight = lit≤ tt;
    ranged = (step_in t.sigma s c ready.sigma r.0 byte.0 (omega (arith, byte.1)), step_in t.left l c ready.left r.1 byte.0 (omega (arith, byte.1)), dl);
  }
  moves_fit (enter a h) r = record { input = lit≤ tt; output = lit≤ tt; weight = lit≤ tt; ranged = (r.0, r.1, r.2, tau.start) }
  moves_fit (walk {s} {l} {b} {d} {q} {h} {a} k arc low dl e on) r =
      let f : ArcFits (length m.arcs) a = tau.arcs q k a arc in
      record {
        input = f.input;
        output = f.output;
        weight = f.weight;
        ranged = (moved_in t.sigma s a.input ready.sigma r.0 f.input, moved_in t.left l a.output ready.left r.1 f.output, dl, f.next);
      }
  moves_fit (leave {q} {w} fin acc gl) r = record { input = lit≤ tt; output = lit≤ tt; weight = tau.weights q w fin; ranged = (r.0, r.1, r.2) }

  row_kept : (old new : List Spot) (s : Spot) (row : List Arc) → Keeps old new → RowOf (parts m t) old s row → RowOf (parts m t) new s row
  row_kept old new s row keeps h = record {
    sound = λ k a e.
        let f = h.sound k a e in
        let l : a.next < length old = f.0 in
        let more : length old ≤ length new = keeps_more keeps in
        (omega (arith, l), subst (Moves (parts m t) s a.input a.output a.weight) (sym (kept_at Hub keeps a.next l)) f.1);
    full = λ x k. let f = h.full x k in (f.0, f.1, f.2, arc_kept old new x f.1 keeps f.3);
  }

  row_drawn : (old new : List Spot) (s : Spot) (row : List Arc) → Draws (IsMove (parts m t) s) old new [] row → RowOf (parts m t) new s row
  row_drawn old new s row d = record {
    sound = λ k a e. elim (d.sound k a e) [
      | inl f ↦ absurd (let q : None ≡ Some a = f in cc)
      | inr (x, mv, h) ↦ (
        h.within,
        subst (λ n. Moves (parts m t) s n a.output a.weight (get_or new a.next Hub)) (sym h.input)
            (subst (λ n. Moves (parts m t) s x.input n a.weight (get_or new a.next Hub)) (sym h.output)
            (subst (λ n. Moves (parts m t) s x.input x.output n (get_or new a.next Hub)) (sym h.weight)
            (subst (Moves (parts m t) s x.input x.output x.weight) (sym h.next) mv))),
      )
    ];
    full = d.full;
  }

  pub built_push : (spots new : List Spot) (b : States) (row : List Arc) (last : Option ℕ) → Built m t spots b → length b.arcs < length spots → Draws (IsMove (parts m t) (get_or spots (length b.arcs) Hub)) spots new [] row → ((w : ℕ) → (last ≡ Some w) ↔ Ends (parts m t) (get_or spots (length b.arcs) Hub) w) → Built m t new (with_state b row last)
  built_push spots new b row last h l d ends =
      let more : length spots ≤ length new = keeps_more d.keeps in
      let count : length (b.arcs ++ row ∷ []) ≡ length b.arcs + 1 = length-append b.arcs (row ∷ []) in
      let ends_count : length (b.finals ++ last ∷ []) ≡ length b.finals + 1 = length-append b.finals (last ∷ []) in
      let even : length b.finals ≡ length b.arcs = h.even in
      record {
        even = omega arith;
        some = omega arith;
        ranged = λ k lt. elim (cases_lt k (length spots)) [
          | inl f ↦ subst (InRange m t) (sym (kept_at Hub d.keeps k f)) (h.ranged k f)
          | inr f ↦
              let s = d.only k f lt in
              subst (InRange m t) (sym s.2) (moves_fit s.1 (h.ranged (length b.arcs) l)).ranged
        ];
        rows = λ k lt. elim (cases_lt k (length b.arcs)) [
          | inl f ↦
              let within : k < length spots = omega arith in
              subst (RowOf (parts m t) new (get_or new k Hub)) (sym (get_or_append_left b.arcs (row ∷ []) [] k f))
              (subst (λ s. RowOf (parts m t) new s (get_or b.arcs k [])) (sym (kept_at Hub d.keeps k within)) (row_kept spots new (get_or spots k Hub) (get_or b.arcs k []) d.keeps (h.rows k f)))
          | inr f ↦
              let at : length b.arcs ≡ k = omega arith in
              let within : k < length spots = omega arith in
              subst (RowOf (parts m t) new (get_or new k Hub)) (sym (get_or_push b.arcs row [] k at))
              (subst (λ s. RowOf (parts m t) new s row) (sym (kept_at Hub d.keeps k within ∙ ap (λ n. get_or spots n Hub) (sym at))) (row_drawn spots new (get_or spots (length b.arcs) Hub) row d))
        ];
        ends = λ k w lt. elim (cases_lt k (length b.arcs)) [
          | inl f ↦
              let within : k < length spots = omega arith in
              let at : k < length b.finals = omega arith in
              subst (λ s. (get_or (b.finals ++ last ∷ []) k None ≡ Some w) ↔ Ends (parts m t) s w) (sym (kept_at Hub d.keeps k within))
              (subst (λ o. (o ≡ Some w) ↔ Ends (parts m t) (get_or spots k Hub) w) (sym (get_or_append_left b.finals (last ∷ []) None k at)) (h.ends k w f))
          | inr f ↦
              let at : length b.arcs ≡ k = omega arith in
              let at2 : length b.finals ≡ k = omega arith in
              let within : k < length spots = omega arith in
              subst (λ s. (get_or (b.finals ++ last ∷ []) k None ≡ Some w) ↔ Ends (parts m t) s w) (sym (kept_at Hub d.keeps k within ∙ ap (λ n. get_or spots n Hub) (sym at)))
              (subst (λ o. (o ≡ Some w) ↔ Ends (parts m t) (get_or spots (length b.arcs) Hub) w) (sym (get_or_push b.finals last None k at2)) (ends w))
        ];
      }

  -- all places have their states
  module _ (spots : List Spot) (b : States) (start : ℕ) (h : Built m t spots b) (all : length spots ≤ length b.arcs) (first : start < length spots) (hub : get_or spots start Hub ≡ Hub) where
    pub whole : WellFormed (record { start = start; arcs = b.arcs; finals = b.finals })
    whole =
        let count : length b.arcs ≤ length spots = h.some in
        record {
          finals = h.even;
          start = omega arith;
          arcs = λ s k a e. elim (cases_lt s (length b.arcs)) [
            | inl l ↦
                let f = (h.rows s l).sound k a e in
                let within : s < length spots = omega arith in
                let next : a.next < length spots = f.0 in
                let fit = moves_fit f.1 (h.ranged s within) in
                record { input = fit.input; output = fit.output; weight = fit.weight; next = omega (arith, next) }
            | inr l ↦ absurd (no_arc b.arcs s k a l e)
          ];
          weights = λ s w e. elim (cases_lt s (length b.arcs)) [
            | inl l ↦ subst (λ n. n < 2 ^ 54) (sym (end_zero ((h.ends s w l).0 e))) (lit≤ tt)
            | inr l ↦
                let even : length b.finals ≡ length b.arcs = h.even in
                let past : length b.finals ≤ s = omega arith in
                absurd (no_end b.finals s w past e)
          ];
        }

    pub whole_below : top_of (record { start = start; arcs = b.arcs; finals = b.finals }) ≤ top_of m
    whole_below = top_under (record { start = start; arcs = b.arcs; finals = b.finals }) (top_of m) (record {
      arcs = λ s k a e. elim (cases_lt s (length b.arcs)) [
        | inl l ↦ weight_below m t ((h.rows s l).sound k a e).1
        | inr l ↦ absurd (no_arc b.arcs s k a l e)
      ];
      ends = λ s w e. elim (cases_lt s (length b.arcs)) [
        | inl l ↦ subst (λ n. n ≤ top_of m) (sym (end_zero ((h.ends s w l).0 e))) (omega arith)
        | inr l ↦
            let even : length b.finals ≡ length b.arcs = h.even in
            let past : length b.finals ≤ s = omega arith in
            absurd (no_end b.finals s w past e)
      ];
    })

    run_of : {i : ℕ} {ks x y : List ℕ} {w : ℕ} → Path (record { start = start; arcs = b.arcs; finals = b.finals }) i ks x y w → i < length spots → Run (bimachine (parts m t)) (get_or spots i Hub) x y w
    run_of {i} (stop {w} e) l = halt ((h.ends i w (omega arith)).0 e)
    run_of {i} (step {k} {ks} {a} {x} {y} {w} arc path) l = let f = (h.rows i (omega arith)).sound k a arc in move f.1 (run_of path f.0)

    renamed : (s : ℕ) {x x' y y' : List ℕ} {w w' : ℕ} → x ≡ x' → y ≡ y' → w ≡ w' → From (record { start = start; arcs = b.arcs; finals = b.finals }) s x y w → From (record { start = start; arcs = b.arcs; finals = b.finals }) s x' y' w'
    renamed s {x} {x'} {y} {y'} {w} {w'} ex ey ew k = let M : Machine = record { start = start; arcs = b.arcs; finals = b.finals } in subst (λ v. From M s x' y' v) ew (subst (λ z. From M s x' z w) ey (subst (λ z. From M s z y w) ex k))

    path_of : {s : Spot} {x y : List ℕ} {w : ℕ} → Run (bimachine (parts m t)) s x y w → (k : ℕ) → k < length spots → get_or spots k Hub ≡ s → From (record { start = start; arcs = b.arcs; finals = b.finals }) k x y w
    path_of (halt {s} {w} e) k l at = ([], stop ((h.ends k w (omega arith)).1 (subst (λ z. Ends (parts m t) z w) (sym at) e)))
    path_of (move {s} {t = to} {i} {o} {v} {x} {y} {w} mv r) k l at =
        let f = (h.rows k (omega arith)).full (record { input = i; output = o; weight = v; to = to }) (subst (λ z. Moves (parts m t) z i o v to) (sym at) mv) in
        let a = f.1 in
        let rest = path_of r a.next f.3.within f.3.next in
        renamed k (ap (λ n. label n x) f.3.input) (ap (λ n. label n y) f.3.output) (ap (λ n. n + w) f.3.weight) (f.0 ∷ rest.0, step f.2 rest.1)

    pub whole_reads : Same (Reads (record { start = start; arcs = b.arcs; finals = b.finals })) (Run (bimachine (parts m t)) Hub)
    whole_reads x y w = (
      λ k. subst (λ s. Run (bimachine (parts m t)) s x y w) hub (run_of k.1 first),
      λ k. path_of k start first hub,
    )

pub built_none : (m : Machine) (t : Automata) (spots : List Spot) (start : ℕ) → Numbers [] spots Hub start → Built m t spots no_states
built_none m t spots start n = record {
  even = refl;
  some = omega arith;
  ranged = λ k l. subst (InRange m t) (sym (fresh_at n Hub k (omega arith) l)) tt;
  rows = λ k l. absurd (omega (arith, l));
  ends = λ k w l. absurd (omega (arith, l));
}
