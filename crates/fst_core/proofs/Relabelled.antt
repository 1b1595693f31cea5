-- One region alone, and a region that leads to one end.
use Rattle.std.proofs.Common.{◌≡◌, ℕ, ◌+◌, ◌<◌, ◌^◌, List, [], ◌∷◌, ◌++◌, length, get_or, Some, None, refl, sym, ◌∙◌, ap, subst, arith, zero-add, append-nil, lit<}
use Rattle.std.specs.Prelude.{slice_get}
use Rattle.fst_core.specs.declared.builder.Kept.{Kept}
use Rattle.fst_core.specs.declared.builder.Kept.TheVariants.{Input, Output}
use Rattle.weighted_relations.specs.declared.Arc.{Arc}
use Rattle.weighted_relations.specs.Relations.{Relation, Same, Is, Joined, Inverted, Inputs, Outputs, Weighted}
use Rattle.weighted_relations.specs.RelationLaws.{same_trans, same_joined}
use Rattle.weighted_relations.specs.Graphs.{stop, step}
use Rattle.weighted_relations.specs.Machines.{Machine, Path, From, final_of, WellFormed, Reads}
use Rattle.fst_core.specs.Placed.{Picked}
use Rattle.fst_core.specs.States.{States, Adds, with_state, as_machine, no_states}
use Rattle.fst_core.proofs.Regions.{Stands, region_reads, retag}
use Rattle.fst_core.proofs.Fits.{Fit, no_fit, adds_fit, state_fits, closed_of}
use Rattle.fst_core.proofs.Chained.{unemptied}

-- nothing after
ended_at : (R : Relation) → Same (Joined R (Is [])) R
ended_at R x y w = (
  λ j.
      let ex : x ≡ j.x1 = j.input ∙ ap (λ v. j.x1 ++ v) j.second.input ∙ append-nil j.x1 in
      let ey : y ≡ j.y1 = j.output ∙ ap (λ v. j.y1 ++ v) j.second.output ∙ append-nil j.y1 in
      let ew : w ≡ j.w1 = (let a : w ≡ j.w1 + j.w2 = j.weight in let b : j.w2 ≡ 0 = j.second.weight in omega arith) in
      subst (λ v. R x y v) (sym ew) (subst (λ v. R x v j.w1) (sym ey) (subst (λ v. R v j.y1 j.w1) (sym ex) j.first)),
  λ r. record {
    x1 = x;
    x2 = [];
    y1 = y;
    y2 = [];
    w1 = w;
    w2 = 0;
    input = sym (append-nil x);
    output = sym (append-nil y);
    weight = omega arith;
    first = r;
    second = record { input = refl; output = refl; weight = refl };
  },
)

module _ (a : Machine) (v c : States) (i o : Kept) (sound : WellFormed a) (empty : v ≡ no_states) (added : Adds v c a (length a.arcs) i o None) where
  adds : Adds no_states c a (length a.arcs) i o None
  adds = subst (λ u. Adds u c a (length a.arcs) i o None) empty added

  pub alone_sound : (start : ℕ) → start ≡ a.start → WellFormed (as_machine start c)
  alone_sound start e =
      let n_arcs : length c.arcs ≡ 0 + length a.arcs = adds.arc_count in
      let n_ends : length c.finals ≡ 0 + length a.arcs = adds.final_count in
      let at_a : a.start < length a.arcs = sound.start in
      let all : Fit (length c.arcs) c = adds_fit (length c.arcs) no_states c a i o None sound (omega arith) (λ t e. absurd (cc)) (no_fit (length c.arcs)) adds in
      record { finals = omega arith; start = omega arith; arcs = all.arcs; weights = all.weights }

  pub alone_reads : (start : ℕ) (m : Machine) → start ≡ a.start → m ≡ as_machine start c → Same (Reads m) (Picked i o (Reads a))
  unfolding Stands
  alone_reads start m e built =
      let at : m ≡ as_machine a.start c = built ∙ ap (λ n. as_machine n c) e in
      let whole : Same (From (as_machine a.start c) a.start) (Joined (Picked i o (Reads a)) (Is [])) =
      subst (λ k. Same (From (as_machine a.start c) k) (Joined (Picked i o (Reads a)) (Is []))) (zero-add a.start) (region_reads (as_machine a.start c) a 0 i o None adds.region (closed_of a sound) a.start sound.start) in
      subst (λ u. Same (Reads u) (Picked i o (Reads a))) (sym at)
      (same_trans (From (as_machine a.start c) a.start) (Joined (Picked i o (Reads a)) (Is [])) (Picked i o (Reads a)) whole (ended_at (Picked i o (Reads a))))

pub picked_inverted : (R : Relation) → Same (Picked Output Input R) (Inverted R)
picked_inverted R x y w = (
  λ e. subst (λ v. R y v w) (sym e.input) (subst (λ v. R v e.from_y w) (sym e.output) e.reads),
  λ r. record { from_x = y; from_y = x; input = refl; output = refl; reads = r },
)

pub picked_inputs : (R : Relation) → Same (Picked Input Input R) (Inputs R)
picked_inputs R x y w = (
  λ e. record { other = e.from_y; same = e.input ∙ sym e.output; reads = subst (λ v. R v e.from_y w) (sym e.input) e.reads },
  λ r. record { from_x = x; from_y = r.other; input = refl; output = sym r.same; reads = r.reads },
)

pub picked_outputs : (R : Relation) → Same (Picked Output Output R) (Outputs R)
picked_outputs R x y w = (
  λ e. record { other = e.from_x; same = e.input ∙ sym e.output; reads = subst (λ v. R e.from_x v w) (sym e.output) e.reads },
  λ r. record { from_x = r.other; from_y = y; input = r.same; output = refl; reads = r.reads },
)

-- a state that ends at once with a weight
pub record EndsAt (v : ℕ) (x y : List ℕ) (w : ℕ) : Type 0 where
  pub input : x ≡ []
  pub output : y ≡ []
  pub weight : w ≡ v

end_out : (m : Machine) (v : ℕ) {g : ℕ} {ks x y : List ℕ} {w : ℕ} → Path m g ks x y w → get_or m.arcs g [] ≡ [] → final_of m.finals g ≡ Some v → EndsAt v x y w
end_out m v (stop {w} h) row last = let e : Some v ≡ Some w = sym last ∙ h in record { input = refl; output = refl; weight = cc }
end_out m v (step {k} {a} h path) row last = let e : None ≡ Some a = ap (λ z. slice_get z k) (sym row) ∙ h in absurd (cc)

end_at : (m : Machine) (g v : ℕ) → get_or m.arcs g [] ≡ [] → final_of m.finals g ≡ Some v → Same (From m g) (EndsAt v)
end_at m g v row last x y w = (
  λ h. end_out m v h.1 row last,
  λ e. retag m g (sym e.input) (sym e.output) (sym e.weight) ([], stop last),
)

weighing : (R : Relation) (v : ℕ) → Same (Joined R (EndsAt v)) (Weighted v R)
weighing R v x y w = (
  λ j.
      let ex : x ≡ j.x1 = j.input ∙ ap (λ u. j.x1 ++ u) j.second.input ∙ append-nil j.x1 in
      let ey : y ≡ j.y1 = j.output ∙ ap (λ u. j.y1 ++ u) j.second.output ∙ append-nil j.y1 in
      record {
        before = j.w1;
        weight = j.weight ∙ ap (λ u. j.w1 + u) j.second.weight;
        reads = subst (λ u. R x u j.w1) (sym ey) (subst (λ u. R u j.y1 j.w1) (sym ex) j.first);
      },
  λ r. record {
    x1 = x;
    x2 = [];
    y1 = y;
    y2 = [];
    w1 = r.before;
    w2 = v;
    input = sym (append-nil x);
    output = sym (append-nil y);
    weight = r.weight;
    first = r.reads;
    second = record { input = refl; output = refl; weight = refl };
  },
)

abbrev pub one_end : ℕ → States
one_end v = record { arcs = [] ∷ []; finals = Some v ∷ [] }

module _ (a : Machine) (u b c : States) (row : List Arc) (v : ℕ) (sound : WellFormed a) (small : v < 2 ^ 54) (empty : u ≡ no_states) (none : row ≡ []) (pushed : b ≡ with_state u row (Some v)) (added : Adds b c a (length a.arcs) Input Output (Some 0)) where
  end_first : b ≡ one_end v
  end_first = pushed ∙ ap (λ z. with_state z row (Some v)) empty ∙ ap (λ r. with_state no_states r (Some v)) none

  weighs : Adds (one_end v) c a (length a.arcs) Input Output (Some 0)
  weighs = subst (λ z. Adds z c a (length a.arcs) Input Output (Some 0)) end_first added

  pub weighted_sound : (start : ℕ) → start ≡ 1 + a.start → WellFormed (as_machine start c)
  weighted_sound start e =
      let n_arcs : length c.arcs ≡ 1 + length a.arcs = weighs.arc_count in
      let n_ends : length c.finals ≡ 1 + length a.arcs = weighs.final_count in
      let at_a : a.start < length a.arcs = sound.start in
      let n = length c.arcs in
      let end : Fit n (one_end v) = state_fits n no_states [] (Some v) refl (no_fit n) (record { arcs = λ k b h. absurd (cc) }) (λ w h. let z : v ≡ w = cc in subst (λ y. y < 2 ^ 54) z small) in
      let all : Fit n c = adds_fit n (one_end v) c a Input Output (Some 0) sound (omega arith) (λ t e. let z : 0 ≡ t = cc in omega arith) end weighs in
      record { finals = omega arith; start = omega arith; arcs = all.arcs; weights = all.weights }

  pub weighted_reads : (start : ℕ) (m : Machine) → start ≡ 1 + a.start → m ≡ as_machine start c → Same (Reads m) (Weighted v (Reads a))
  unfolding Stands
  weighted_reads start m e built =
      let k = as_machine (1 + a.start) c in
      let at : m ≡ k = built ∙ ap (λ n. as_machine n c) e in
      let end : Same (From k 0) (EndsAt v) = end_at k 0 v (weighs.old_arcs 0 (lit< tt)) (weighs.old_finals 0 (lit< tt)) in
      subst (λ z. Same (Reads z) (Weighted v (Reads a))) (sym at)
      (same_trans (Reads k) (Joined (Picked Input Output (Reads a)) (From k 0)) (Weighted v (Reads a))
      (region_reads k a 1 Input Output (Some 0) weighs.region (closed_of a sound) a.start sound.start)
      (same_trans (Joined (Picked Input Output (Reads a)) (From k 0)) (Joined (Reads a) (EndsAt v)) (Weighted v (Reads a))
      (same_joined (Picked Input Output (Reads a)) (From k 0) (Reads a) (EndsAt v) (unemptied (Reads a)) end)
      (weighing (Reads a) v)))
