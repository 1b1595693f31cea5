-- Where no arc has a mark, no reading has one.
use Rattle.std.proofs.Common.{◌≡◌, ◌<◌, ◌≤◌, ℕ, zero, suc, List, [], length, get_or, slice_get, Some, inl, inr, subst, arith}
use Rattle.std.specs.Prelude.{All}
use Rattle.std.proofs.lemmas.Bool.{cases_lt}
use Rattle.std.proofs.lemmas.List.{get_or_past}
use Rattle.std.proofs.lemmas.List.Elements.{All-nil, All-cons}
use Rattle.std.proofs.lemmas.Option.{slice_get_within, get_or_from_slice_get}
use Rattle.weighted_relations.specs.declared.Arc.{Arc}
use Rattle.weighted_relations.specs.Relations.{IsByte, IsUnmarked}
use Rattle.weighted_relations.specs.Graphs.{GraphPath, stop, step, label}
use Rattle.weighted_relations.specs.Machines.{Machine, Reads, graph}

pub record IsPlain (a : Arc) : Type 0 where
  pub input : a.input ≤ 255
  pub output : a.output ≤ 255

-- the arcs of the first n states
abbrev pub ArePlain : Machine → ℕ → Type 0
ArePlain m n = (s k : ℕ) (d : Arc) → s < n → k < length (get_or m.arcs s []) → IsPlain (get_or (get_or m.arcs s []) k d)

label_bytes : (n : ℕ) (x : List ℕ) → n ≤ 255 → All IsByte x → All IsByte (label n x)
label_bytes zero x h all = all
label_bytes (suc n) x h all = All-cons IsByte (suc n) x (omega arith, h) all

module _ (m : Machine) (plain : ArePlain m (length m.arcs)) where
  arc_plain : (s k : ℕ) (a : Arc) → slice_get (get_or m.arcs s []) k ≡ Some a → IsPlain a
  arc_plain s k a e =
      elim (cases_lt s (length m.arcs)) [
        | inl l ↦ subst IsPlain (get_or_from_slice_get (get_or m.arcs s []) k a a e) (plain s k a l (slice_get_within (get_or m.arcs s []) k a e))
        | inr l ↦
            let none : slice_get [] k ≡ Some a = subst (λ r. slice_get r k ≡ Some a) (get_or_past m.arcs s [] l) e in
            absurd (omega (arith, slice_get_within [] k a none))
      ]

  path_bytes : {s : ℕ} {ks x y : List ℕ} {w : ℕ} → GraphPath (graph m) s ks x y w → All IsByte x × All IsByte y
  path_bytes (stop h) = (All-nil IsByte, All-nil IsByte)
  path_bytes (step {s} {k} {ks} {a} {x} {y} h path) =
      let arc : IsPlain a = arc_plain s k a h in
      let rest = path_bytes path in
      (label_bytes a.input x arc.input rest.0, label_bytes a.output y arc.output rest.1)

  pub plain_unmarked : IsUnmarked (Reads m)
  plain_unmarked x y w r = path_bytes r.1
