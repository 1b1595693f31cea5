-- What the transducer of all texts reads.
use Rattle.std.proofs.Common.{◌≡◌, ℕ, zero, suc, ◌+◌, ◌<◌, ◌≤◌, ◌^◌, List, [], ◌∷◌, ◌++◌, get_or, Some, refl, sym, ◌∙◌, ap, subst, arith, inl, inr, lit≤}
use Rattle.std.specs.Prelude.{slice_get, All}
use Rattle.std.proofs.lemmas.Bool.{cases_lt}
use Rattle.std.proofs.lemmas.List.Elements.{All-head, All-tail, All-nil, All-cons}
use Rattle.weighted_relations.specs.declared.Arc.{Arc}
use Rattle.weighted_relations.specs.Relations.{Same, IsLabel}
use Rattle.weighted_relations.specs.Graphs.{stop, step, label}
use Rattle.weighted_relations.specs.Machines.{Machine, Path, IsArc, From, Reads, final_of, WellFormed, ArcFits}
use Rattle.rewrite_rules.specs.AnyTexts.{AnyText, loop, Loops}
use Rattle.rewrite_rules.proofs.Drawing.{got_append, got_left, got_right}
use Rattle.rewrite_rules.proofs.Sound.{label_front}

pub loops_none : Loops 1 []
loops_none = record { sound = λ k a e. absurd (cc); full = λ c l m. absurd (omega arith) }

only : (c k : ℕ) (a : Arc) → slice_get (loop c ∷ []) k ≡ Some a → a ≡ loop c
only c zero a e = cc
only c (suc k) a e = absurd (cc)

pub loops_push : (n : ℕ) (row : List Arc) → 1 ≤ n → Loops n row → Loops (n + 1) (row ++ loop n ∷ [])
loops_push n row low h = record {
  sound = λ k a e. elim (got_append row (loop n ∷ []) k a e) [
    | inl f ↦ let s = h.sound k a f in let l : s.0 < n = s.2 in (s.0, s.1, omega arith, s.3)
    | inr (j, f) ↦ (n, low, omega arith, only n j a f)
  ];
  full = λ c l m. elim (cases_lt c n) [
    | inl f ↦ let s = h.full c l f in (s.0, got_left row (loop n ∷ []) s.0 (loop c) s.1)
    | inr f ↦ let e : n ≡ c = omega arith in subst (λ j. (k : ℕ) × (slice_get (row ++ loop n ∷ []) k ≡ Some (loop j))) e (got_right row (loop n ∷ []) 0 (loop n) refl)
  ];
}

abbrev pub one_state : List Arc → Machine
one_state row = record { start = 0; arcs = row ∷ []; finals = Some 0 ∷ [] }

module _ (row : List Arc) (loops : Loops 258 row) where
  fits : (s k : ℕ) (a : Arc) → IsArc (row ∷ []) s k a → ArcFits 1 a
  fits zero k a e =
      let f = loops.sound k a e in
      let l : f.0 < 258 = f.2 in
      subst (ArcFits 1) (sym f.3) (record { input = omega arith; output = omega arith; weight = lit≤ tt; next = lit≤ tt })
  fits (suc s) k a e = absurd (cc)

  ends : (s w : ℕ) → final_of (Some 0 ∷ []) s ≡ Some w → w < 2 ^ 54
  ends zero w e = let q : 0 ≡ w = cc in subst (λ n. n < 2 ^ 54) q (lit≤ tt)
  ends (suc s) w e = absurd (cc)

  pub any_whole : WellFormed (one_state row)
  any_whole = record {
    finals = refl;
    start = lit≤ tt;
    arcs = fits;
    weights = ends;
  }

  any_to : {s : ℕ} {ks x y : List ℕ} {w : ℕ} → Path (one_state row) s ks x y w → s ≡ 0 → AnyText x y w
  any_to (stop {s} {w} e) z =
      let here : Some 0 ≡ Some w = ap (final_of (Some 0 ∷ [])) (sym z) ∙ e in
      record { labels = All-nil IsLabel; output = refl; weight = (cc) }
  any_to (step {s} {k} {ks} {a} {x} {y} {w} arc path) z =
      let f = loops.sound k a (ap (λ n. slice_get (get_or (row ∷ []) n []) k) (sym z) ∙ arc) in
      let l : f.0 < 258 = f.2 in
      let rest = any_to path (ap (λ (b : Arc). b.next) f.3) in
      subst (λ (b : Arc). AnyText (label b.input x) (label b.output y) (b.weight + w)) (sym f.3)
      (record {
        labels = subst (All IsLabel) (sym (label_front f.0 x f.1)) (All-cons IsLabel f.0 x (f.1, omega arith) rest.labels);
        output = ap (label f.0) rest.output;
        weight = let e : w ≡ 0 = rest.weight in omega arith;
      })

  any_from : (x : List ℕ) → All IsLabel x → From (one_state row) 0 x x 0
  any_from [] h = ([], stop refl)
  any_from (c ∷ x) h =
      let k = All-head IsLabel c x h in
      let rest = any_from x (All-tail IsLabel c x h) in
      let at = loops.full c k.0 (omega (arith, k.1)) in
      let path : From (one_state row) 0 (label c x) (label c x) (0 + 0) = (at.0 ∷ rest.0, step at.1 rest.1) in
      subst (λ z. From (one_state row) 0 z z 0) (label_front c x k.0) path

  pub any_reads : Same (Reads (one_state row)) AnyText
  any_reads x y w = (
    λ h. any_to h.1 refl,
    λ h. subst (λ n. From (one_state row) 0 x y n) (sym h.weight) (subst (λ v. From (one_state row) 0 x v 0) (sym h.output) (any_from x h.labels)),
  )
