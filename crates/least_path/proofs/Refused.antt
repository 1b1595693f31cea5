-- Where a tuple can read none of the next labels of a source, nothing is read to the end.
use Rattle.std.proofs.Common.{◌≡◌, Bool, true, false, ℕ, zero, suc, List, [], ◌∷◌, Some, get_or, refl, subst}
use Rattle.std.specs.Prelude.{All, Contains, not}
use Rattle.std.proofs.lemmas.Bool.{false≢true}
use Rattle.std.proofs.lemmas.Option.{slice_get_within, get_or_from_slice_get}
use Rattle.weighted_relations.specs.declared.Arc.{Arc}
use Rattle.weighted_relations.specs.Graphs.{GraphFrom, stop, step, label}
use Rattle.weighted_relations.specs.Machines.{Machine, Path, final_of}
use Rattle.look_ahead.specs.Aheads.{first_label}
use Rattle.state_tuples.specs.declared.tuples.Tuple.{Tuple}
use Rattle.state_tuples.specs.Cascades.{Cascaded, tuple_graph}
use Rattle.state_tuples.specs.Calls.{CannotRead}
use Rattle.least_path.specs.Ending.{IsDead, IsRefused}

pub not_true : (b : Bool) → not b ≡ true → b ≡ false
not_true true e = absurd (false≢true e)
not_true false e = refl

no_arc : Arc
no_arc = record { input = 0; output = 0; weight = 0; next = 0 }

module _ (m : Machine) (cs : List Cascaded) (t : Tuple) (c : Cascaded) (one : Contains cs c) (number : t.cascade ≡ c.number) where
  no_reading : {q : ℕ} {ks x y' : List ℕ} {w' : ℕ} → Path m q ks x y' w' → All (IsRefused cs t) (get_or m.arcs q []) → ((w : ℕ) → final_of m.finals q ≡ Some w → CannotRead cs t 0)
      → (y : List ℕ) (w : ℕ) → GraphFrom (tuple_graph c) t x y w → ⊥
  no_reading (stop {w = last} h) arcs end y w r = end last h c one number [] y w r refl
  no_reading (step {s} {k} {a} {x} h rest) arcs end y w r =
      let at : get_or (get_or m.arcs s []) k no_arc ≡ a = get_or_from_slice_get (get_or m.arcs s []) k a no_arc h in
      let refused : IsRefused cs t a = subst (IsRefused cs t) at (arcs k no_arc (slice_get_within (get_or m.arcs s []) k a h)) in
      go a.input refused.0 (refused.1 c one number) r where
        go : (i : ℕ) → (i ≡ 0 → ⊥) → ((x y : List ℕ) (w : ℕ) → GraphFrom (tuple_graph c) t x y w → first_label x ≡ i → ⊥) → GraphFrom (tuple_graph c) t (label i x) y w → ⊥
        go zero some cannot r' = some refl
        go (suc i) some cannot r' = cannot (suc i ∷ x) y w r' refl

pub refused_dead : (m : Machine) (cs : List Cascaded) (q : ℕ) (t : Tuple) → All (IsRefused cs t) (get_or m.arcs q []) → ((w : ℕ) → final_of m.finals q ≡ Some w → CannotRead cs t 0) → IsDead m cs q t
refused_dead m cs q t arcs end c one number can = no_reading m cs t c one number can.2.accepts.2.1 arcs end can.0 can.1 can.2.reads
