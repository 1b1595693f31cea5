-- A hub that leads into a transducer, and the way back.
use Rattle.std.proofs.Common.{◌≡◌, ℕ, zero, suc, ◌+◌, ◌<◌, ◌^◌, List, [], ◌∷◌, ◌++◌, length, get_or, Some, None, refl, sym, ◌∙◌, ap, subst, inl, inr, arith, lit≤, lit<}
use Rattle.std.specs.Prelude.{slice_get}
use Rattle.fst_core.specs.declared.builder.Kept.TheVariants.{Input, Output}
use Rattle.weighted_relations.specs.declared.Arc.{Arc}
use Rattle.weighted_relations.specs.Relations.{Same, Copies, Starred}
use Rattle.weighted_relations.specs.Graphs.{stop, step, label}
use Rattle.weighted_relations.specs.Machines.{Machine, Path, From, final_of, WellFormed, Reads, ArcFits}
use Rattle.fst_core.specs.Placed.{placed_row, empty_arc}
use Rattle.fst_core.specs.States.{States, Adds, with_state, as_machine, no_states}
use Rattle.fst_core.proofs.Regions.{Stands, Closed, Within, RowCase, row_cases, extend, ended, into, only_one, retag, go}
use Rattle.fst_core.proofs.Fits.{Fit, RowFits, adds_fit, state_fits, closed_of}

-- one copy, and then any number
one_more : (a : Machine) (x y : List ℕ) (w : ℕ) → Within a Input Output (Starred (Reads a)) a.start x y w → Starred (Reads a) x y w
unfolding Within
one_more a x y w j = (
  suc j.second.0,
  record {
    x1 = j.x1;
    x2 = j.x2;
    y1 = j.y1;
    y2 = j.y2;
    w1 = j.w1;
    w2 = j.w2;
    input = j.input;
    output = j.output;
    weight = j.weight;
    first = subst (λ v. Reads a j.x1 v j.w1) (sym j.first.output) (subst (λ v. Reads a v j.first.from_y j.w1) (sym j.first.input) j.first.reads);
    second = j.second.1;
  },
)

-- what a path reads from the hub, and from a state of a
record Round (a : Machine) (g : ℕ) (x y : List ℕ) (w : ℕ) : Type 0 where
  hub : g ≡ 0 → Starred (Reads a) x y w
  inside : (s : ℕ) → g ≡ 1 + s → s < length a.arcs → Within a Input Output (Starred (Reads a)) s x y w

module _ (m a : Machine) (sound : WellFormed a) (region : Stands m a 1 Input Output (Some 0)) (row : get_or m.arcs 0 [] ≡ empty_arc 0 (1 + a.start) ∷ []) (last : final_of m.finals 0 ≡ Some 0) where
  round : {g : ℕ} {ks x y : List ℕ} {w : ℕ} → Path m g ks x y w → Round a g x y w
  unfolding Stands RowCase Closed
  round (stop {s = g} {w} h) = record {
    hub = λ e. let q : Some 0 ≡ Some w = sym last ∙ ap (final_of m.finals) (sym e) ∙ h in (0, record { input = refl; output = refl; weight = cc });
    inside = λ s e l. let q : None ≡ Some w = sym (region.ends s l) ∙ ap (final_of m.finals) (sym e) ∙ h in absurd (cc);
  }
  round (step {s = g} {k} {ks} {a = b} {x} {y} {w} h path) =
      let later : Round a b.next x y w = round path in
      record {
        hub = λ e.
            let q : b ≡ empty_arc 0 (1 + a.start) = only_one (empty_arc 0 (1 + a.start)) b k (sym (ap (λ z. slice_get z k) (ap (λ n. get_or m.arcs n []) e ∙ row)) ∙ h) in
            let r : Starred (Reads a) x y w = one_more a x y w (later.inside a.start (ap (λ (z : Arc). z.next) q) sound.start) in
            let z : w ≡ 0 + w = omega arith in
            subst (λ (v : Arc). Starred (Reads a) (label v.input x) (label v.output y) (v.weight + w)) (sym q) (subst (λ n. Starred (Reads a) x y n) z r);
        inside = λ s e l.
            let here : slice_get (placed_row 1 Input Output (Some 0) (get_or a.arcs s []) (final_of a.finals s)) k ≡ Some b =
            sym (ap (λ z. slice_get z k) (ap (λ n. get_or m.arcs n []) e ∙ region.rows s l)) ∙ h in
            elim (row_cases 1 Input Output (Some 0) (get_or a.arcs s []) (final_of a.finals s) b k here) [
              | inl q ↦
                  subst (λ (z : Arc). Within a Input Output (Starred (Reads a)) s (label z.input x) (label z.output y) (z.weight + w)) (sym q.3)
                  (extend a Input Output (Starred (Reads a)) s q.1 q.0 x y w q.2
                  (later.inside q.0.next (ap (λ (z : Arc). z.next) q.3) ((closed_of a sound) s q.1 q.0 q.2)))
              | inr q ↦
                  let back : q.0 ≡ 0 = (let f : Some 0 ≡ Some q.0 = q.2 in cc) in
                  subst (λ (z : Arc). Within a Input Output (Starred (Reads a)) s (label z.input x) (label z.output y) (z.weight + w)) (sym q.4)
                  (ended a Input Output (Starred (Reads a)) s q.1 x y w q.3 (later.hub (ap (λ (z : Arc). z.next) q.4 ∙ back)))
            ];
      }

  turns : (n : ℕ) (x y : List ℕ) (w : ℕ) → Copies (Reads a) n x y w → From m 0 x y w
  turns zero x y w e = retag m 0 (sym e.input) (sym e.output) (sym e.weight) ([], stop last)
  turns (suc n) x y w j =
      let later : From m 0 j.x2 j.y2 j.w2 = turns n j.x2 j.y2 j.w2 j.second in
      let inside : From m (1 + a.start) (j.x1 ++ j.x2) (j.y1 ++ j.y2) (j.w1 + j.w2) = into m a 1 Input Output (Some 0) region (closed_of a sound) j.first.1 sound.start j.x2 j.y2 j.w2 later in
      let z : 0 + (j.w1 + j.w2) ≡ w = (let q : w ≡ j.w1 + j.w2 = j.weight in omega arith) in
      retag m 0 (sym j.input) (sym j.output) z (go m 0 0 (empty_arc 0 (1 + a.start)) (ap (λ r. slice_get r 0) row) inside)

  round_reads : Same (From m 0) (Starred (Reads a))
  round_reads x y w = (λ h. (round h.1).hub refl, λ h. turns h.0 x y w h.1)

one_fit : (n t : ℕ) → t < n → RowFits n (empty_arc 0 t ∷ [])
one_fit n t l = record { arcs = λ k a e. subst (ArcFits n) (sym (only_one (empty_arc 0 t) a k e)) (record { input = lit≤ tt; output = lit≤ tt; weight = lit< tt; next = l }) }

abbrev pub hub_first : ℕ → States
hub_first t = record { arcs = (empty_arc 0 t ∷ []) ∷ []; finals = Some 0 ∷ [] }

module _ (a : Machine) (c : States) (sound : WellFormed a) (adds : Adds (hub_first (1 + a.start)) c a (length a.arcs) Input Output (Some 0)) where
  hub_sound : WellFormed (as_machine 0 c)
  hub_sound =
      let n_arcs : length c.arcs ≡ 1 + length a.arcs = adds.arc_count in
      let n_ends : length c.finals ≡ 1 + length a.arcs = adds.final_count in
      let at_a : a.start < length a.arcs = sound.start in
      let n = length c.arcs in
      let none : Fit n no_states = record { arcs = λ s k e h. absurd (cc); weights = λ s w h. absurd (cc) } in
      let hub : Fit n (hub_first (1 + a.start)) = state_fits n no_states (empty_arc 0 (1 + a.start) ∷ []) (Some 0) refl none (one_fit n (1 + a.start) (omega arith)) (λ w e. let z : 0 ≡ w = cc in subst (λ v. v < 2 ^ 54) z (lit< tt)) in
      let all : Fit n c = adds_fit n (hub_first (1 + a.start)) c a Input Output (Some 0) sound (omega arith) (λ t e. let z : 0 ≡ t = cc in omega arith) hub adds in
      record { finals = omega arith; start = omega arith; arcs = all.arcs; weights = all.weights }

  star_reads : Same (Reads (as_machine 0 c)) (Starred (Reads a))
  unfolding Stands
  star_reads = round_reads (as_machine 0 c) a sound adds.region (adds.old_arcs 0 (lit< tt)) (adds.old_finals 0 (lit< tt))

-- as a caller has them
pub starred_sound : (a : Machine) (v b c : States) (row : List Arc) → WellFormed a → v ≡ no_states → b ≡ with_state v row (Some 0) → row ≡ empty_arc 0 (1 + a.start) ∷ [] → Adds b c a (length a.arcs) Input Output (Some 0) → WellFormed (as_machine 0 c)
starred_sound a v b c row sound e f g adds =
    hub_sound a c sound (subst (λ u. Adds u c a (length a.arcs) Input Output (Some 0)) (f ∙ ap (λ u. with_state u row (Some 0)) e ∙ ap (λ r. with_state no_states r (Some 0)) g) adds)

pub starred_reads : (a m : Machine) (v b c : States) (row : List Arc) → WellFormed a → v ≡ no_states → b ≡ with_state v row (Some 0) → row ≡ empty_arc 0 (1 + a.start) ∷ [] → Adds b c a (length a.arcs) Input Output (Some 0) → m ≡ as_machine 0 c → Same (Reads m) (Starred (Reads a))
starred_reads a m v b c row sound e f g adds built =
    subst (λ u. Same (Reads u) (Starred (Reads a))) (sym built)
    (star_reads a c sound (subst (λ u. Adds u c a (length a.arcs) Input Output (Some 0)) (f ∙ ap (λ u. with_state u row (Some 0)) e ∙ ap (λ r. with_state no_states r (Some 0)) g) adds))
