-- Sets that are closed along arcs have what is read next.
use Rattle.std.proofs.Common.{◌≡◌, ◌<◌, ◌≤◌, ℕ, zero, suc, true, List, [], Some, get_or, length, subst, inl, inr, arith}
use Rattle.std.proofs.lemmas.Bool.{cases_lt}
use Rattle.std.proofs.lemmas.Option.{slice_get_within, get_or_from_slice_get}
use Rattle.weighted_relations.specs.declared.Arc.{Arc}
use Rattle.weighted_relations.specs.Graphs.{stop, step, label}
use Rattle.weighted_relations.specs.Machines.{Machine, WellFormed, Path, IsArc, final_of}
use Rattle.fst_core.proofs.Fits.{no_arc, no_end}
use Rattle.look_ahead.specs.Aheads.{Sets, may, first_label, IsAhead, HasAlong, HasEnd, IsClosedAt}

module _ (m : Machine) (sets : Sets) (wf : WellFormed m) (closed : (s : ℕ) → s < length m.arcs → IsClosedAt m sets s) where
  -- a state with an arc or an end is one of the transducer
  with_arc : (s k : ℕ) (a : Arc) → IsArc m.arcs s k a → s < length m.arcs
  with_arc s k a h = elim (cases_lt s (length m.arcs)) [
    | inl l ↦ l
    | inr l ↦ absurd (no_arc m.arcs s k a l h)
  ]

  with_end : (s w : ℕ) → final_of m.finals s ≡ Some w → s < length m.arcs
  with_end s w h = elim (cases_lt s (length m.arcs)) [
    | inl l ↦ l
    | inr l ↦ absurd (no_end m.finals s w (let even = wf.finals in omega (arith, l, even)) h)
  ]

  along : (s k : ℕ) (a : Arc) → IsArc m.arcs s k a → HasAlong sets s a.input a.next
  along s k a h =
      let row = get_or m.arcs s [] in
      let at : get_or row k a ≡ a = get_or_from_slice_get row k a a h in
      subst (λ (b : Arc). HasAlong sets s b.input b.next) at ((closed s (with_arc s k a h)).arcs k a (slice_get_within row k a h))

  first_small : {s : ℕ} {ks x y : List ℕ} {w : ℕ} → Path m s ks x y w → first_label x ≤ 257
  first_small (stop h) = omega arith
  first_small (step {s} {k} {a} {x} h rest) = go a.input (wf.arcs s k a h).input (first_small rest) where
    go : (i : ℕ) → i ≤ 257 → first_label x ≤ 257 → first_label (label i x) ≤ 257
    go zero l r = r
    go (suc i) l r = l

  reads_ahead : {s : ℕ} {ks x y : List ℕ} {w : ℕ} → Path m s ks x y w → may sets s (first_label x) ≡ true
  reads_ahead (stop {s} {w} h) = subst (HasEnd sets s) h (closed s (with_end s w h)).end
  reads_ahead (step {s} {k} {a} {x} h rest) = go a.input (along s k a h) (first_small rest) (reads_ahead rest) where
    go : (i : ℕ) → HasAlong sets s i a.next → first_label x ≤ 257 → may sets a.next (first_label x) ≡ true → may sets s (first_label (label i x)) ≡ true
    go zero c l r = c (first_label x) l r
    go (suc i) c l r = c

  pub closed_ahead : IsAhead m sets
  closed_ahead s l n = subst (λ l. may sets s l ≡ true) n.first (reads_ahead n.reads.1)
