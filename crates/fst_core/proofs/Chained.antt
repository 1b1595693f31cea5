-- Transducers that follow one another.
use Rattle.std.proofs.Common.{◌≡◌, ℕ, ◌+◌, ◌<◌, ◌≤◌, List, [], ◌∷◌, ◌++◌, length, get_or, Option, Some, None, refl, sym, ◌∙◌, ap, subst, arith, zero-add, append-nil}
use Rattle.std.specs.Prelude.{slice_get}
use Rattle.fst_core.specs.declared.builder.Kept.{Kept}
use Rattle.fst_core.specs.declared.builder.Kept.TheVariants.{Input, Output, Neither}
use Rattle.weighted_relations.specs.declared.Arc.{Arc}
use Rattle.weighted_relations.specs.Relations.{Relation, Same, Is, Joined, Crossed, IsAcceptor}
use Rattle.weighted_relations.specs.RelationLaws.{same_trans, same_joined, same_refl}
use Rattle.weighted_relations.specs.Graphs.{stop, step}
use Rattle.weighted_relations.specs.Machines.{Machine, Path, From, final_of, WellFormed, Reads}
use Rattle.fst_core.specs.Placed.{Region, Picked}
use Rattle.fst_core.specs.States.{States, Adds, with_state, as_states, as_machine, no_states}
use Rattle.fst_core.proofs.Regions.{Stands, region_reads, retag}
use Rattle.fst_core.proofs.Fits.{Fit, no_fit, fit_of, fit_more, adds_fit, closed_of}
use Rattle.fst_core.proofs.Extends.{adds_extends, extended_reads}

-- nothing is emptied
pub unemptied : (R : Relation) → Same (Picked Input Output R) R
unemptied R x y w = (
  λ e. subst (λ v. R x v w) (sym e.output) (subst (λ v. R v e.from_y w) (sym e.input) e.reads),
  λ r. record { from_x = x; from_y = y; input = refl; output = refl; reads = r },
)

module _ (p rest : Machine) (c : States) (sound_p : WellFormed p) (sound_rest : WellFormed rest) (adds : Adds (as_states rest) c p (length p.arcs) Input Output (Some rest.start)) where
  joined_sound : WellFormed (as_machine (length rest.arcs + p.start) c)
  joined_sound =
      let n_arcs : length c.arcs ≡ length rest.arcs + length p.arcs = adds.arc_count in
      let n_ends : length c.finals ≡ length rest.arcs + length p.arcs = adds.final_count in
      let at_rest : rest.start < length rest.arcs = sound_rest.start in
      let at_p : p.start < length p.arcs = sound_p.start in
      let n = length c.arcs in
      let before : Fit n (as_states rest) = fit_more (length rest.arcs) n (as_states rest) (omega arith) (fit_of rest sound_rest) in
      let all : Fit n c = adds_fit n (as_states rest) c p Input Output (Some rest.start) sound_p (omega arith) (λ t e. let q : rest.start ≡ t = cc in omega arith) before adds in
      record { finals = omega arith; start = omega arith; arcs = all.arcs; weights = all.weights }

  joined_reads : Same (Reads (as_machine (length rest.arcs + p.start) c)) (Joined (Reads p) (Reads rest))
  unfolding Stands
  joined_reads =
      let m = as_machine (length rest.arcs + p.start) c in
      let after : Same (From m rest.start) (Reads rest) = extended_reads (as_states rest) c rest.start (length rest.arcs + p.start) (fit_of rest sound_rest) (adds_extends (as_states rest) c p (length p.arcs) Input Output (Some rest.start) adds) rest.start sound_rest.start in
      same_trans (Reads m) (Joined (Picked Input Output (Reads p)) (From m rest.start)) (Joined (Reads p) (Reads rest))
      (region_reads m p (length rest.arcs) Input Output (Some rest.start) adds.region (closed_of p sound_p) p.start sound_p.start)
      (same_joined (Picked Input Output (Reads p)) (From m rest.start) (Reads p) (Reads rest) (unemptied (Reads p)) after)

-- as a caller has them
pub before_sound : (p rest : Machine) (b c : States) (next start : ℕ) → WellFormed p → WellFormed rest → b ≡ as_states rest → next ≡ rest.start → Adds b c p (length p.arcs) Input Output (Some next) → start ≡ length b.arcs + p.start → WellFormed (as_machine start c)
before_sound p rest b c next start sp sr e f adds g =
    subst (λ n. WellFormed (as_machine n c)) (sym (g ∙ ap (λ (v : States). length v.arcs + p.start) e))
    (joined_sound p rest c sp sr (subst (λ v. Adds (as_states rest) c p (length p.arcs) Input Output (Some v)) f (subst (λ v. Adds v c p (length p.arcs) Input Output (Some next)) e adds)))

pub before_reads : (p rest m : Machine) (b c : States) (next start : ℕ) → WellFormed p → WellFormed rest → b ≡ as_states rest → next ≡ rest.start → Adds b c p (length p.arcs) Input Output (Some next) → start ≡ length b.arcs + p.start → m ≡ as_machine start c → Same (Reads m) (Joined (Reads p) (Reads rest))
before_reads p rest m b c next start sp sr e f adds g built =
    subst (λ v. Same (Reads v) (Joined (Reads p) (Reads rest))) (sym (built ∙ ap (λ n. as_machine n c) (g ∙ ap (λ (v : States). length v.arcs + p.start) e)))
    (joined_reads p rest c sp sr (subst (λ v. Adds (as_states rest) c p (length p.arcs) Input Output (Some v)) f (subst (λ v. Adds v c p (length p.arcs) Input Output (Some next)) e adds)))

-- a state that ends at once
end_out : (m : Machine) {g : ℕ} {ks x y : List ℕ} {w : ℕ} → Path m g ks x y w → get_or m.arcs g [] ≡ [] → final_of m.finals g ≡ Some 0 → Is [] x y w
end_out m (stop {w} h) row last = let e : Some 0 ≡ Some w = sym last ∙ h in record { input = refl; output = refl; weight = cc }
end_out m (step {k} {a} h path) row last = let e : None ≡ Some a = ap (λ z. slice_get z k) (sym row) ∙ h in absurd (cc)

pub end_reads : (m : Machine) (g : ℕ) → get_or m.arcs g [] ≡ [] → final_of m.finals g ≡ Some 0 → Same (From m g) (Is [])
end_reads m g row last x y w = (
  λ h. end_out m h.1 row last,
  λ e. retag m g (sym e.input) (sym e.output) (sym e.weight) ([], stop last),
)

pub empty_reads : (m : Machine) (b d : States) (row : List Arc) → b ≡ record { arcs = []; finals = [] } → d ≡ with_state b row (Some 0) → row ≡ [] → m ≡ as_machine 0 d → Same (Reads m) (Is [])
empty_reads m b d row e f g h =
    let all : m ≡ record { start = 0; arcs = [] ∷ []; finals = Some 0 ∷ [] } =
    h ∙ ap (as_machine 0) (f ∙ ap (λ v. with_state v row (Some 0)) e ∙ ap (λ r. with_state (record { arcs = []; finals = [] }) r (Some 0)) g) in
    subst (λ v. Same (Reads v) (Is [])) (sym all) (end_reads (record { start = 0; arcs = [] ∷ []; finals = Some 0 ∷ [] }) 0 refl refl)

-- crossing two acceptors
crossing : (R S : Relation) → IsAcceptor R → IsAcceptor S → Same (Joined (Picked Input Neither R) (Joined (Picked Neither Output S) (Is []))) (Crossed R S)
crossing R S f g x y w = (
  λ j.
      let e = j.first in
      let k = j.second in
      let h = k.first in
      let same_x : e.from_x ≡ e.from_y = f e.from_x e.from_y j.w1 e.reads in
      let same_y : h.from_x ≡ h.from_y = g h.from_x h.from_y k.w1 h.reads in
      let in_x : x ≡ e.from_x =
      j.input ∙ ap (λ v. j.x1 ++ v) (k.input ∙ ap (λ v. k.x1 ++ v) k.second.input ∙ append-nil k.x1 ∙ h.input) ∙ append-nil j.x1 ∙ e.input in
      let out_y : y ≡ h.from_y =
      j.output ∙ ap (λ v. v ++ j.y2) e.output ∙ k.output ∙ ap (λ v. k.y1 ++ v) k.second.output ∙ append-nil k.y1 ∙ h.output in
      let sum : w ≡ j.w1 + k.w1 = (let a : w ≡ j.w1 + j.w2 = j.weight in let b : j.w2 ≡ k.w1 + k.w2 = k.weight in let d : k.w2 ≡ 0 = k.second.weight in omega arith) in
      record {
        w1 = j.w1;
        w2 = k.w1;
        weight = sum;
        first = subst (λ v. R v v j.w1) (sym in_x) (subst (λ v. R e.from_x v j.w1) (sym same_x) e.reads);
        second = subst (λ v. S v v k.w1) (sym out_y) (subst (λ v. S v h.from_y k.w1) same_y h.reads);
      },
  λ c. record {
    x1 = x;
    x2 = [];
    y1 = [];
    y2 = y;
    w1 = c.w1;
    w2 = c.w2;
    input = sym (append-nil x);
    output = refl;
    weight = c.weight;
    first = record { from_x = x; from_y = x; input = refl; output = refl; reads = c.first };
    second = record {
      x1 = [];
      x2 = [];
      y1 = y;
      y2 = [];
      w1 = c.w2;
      w2 = 0;
      input = refl;
      output = sym (append-nil y);
      weight = omega arith;
      first = record { from_x = y; from_y = y; input = refl; output = refl; reads = c.second };
      second = record { input = refl; output = refl; weight = refl };
    };
  },
)

-- a region stays where more is added
pub later_region : (b c : States) (p q : Machine) (n k off : ℕ) (i o i' o' : Kept) (exit exit' : Option ℕ) → off + n ≤ length b.arcs → Region b.arcs b.finals p n off i o exit → Adds b c q k i' o' exit' → Region c.arcs c.finals p n off i o exit
later_region b c p q n k off i o i' o' exit exit' l region adds = record {
  rows = λ s m. adds.old_arcs (off + s) (omega arith) ∙ region.rows s m;
  ends = λ s m. adds.old_finals (off + s) (omega arith) ∙ region.ends s m;
}

module _ (a b : Machine) (c d : States) (sound_a : WellFormed a) (sound_b : WellFormed b) (adds_b : Adds no_states c b (length b.arcs) Neither Output None) (adds_a : Adds c d a (length a.arcs) Input Neither (Some b.start)) where
  cross_sound : WellFormed (as_machine (length c.arcs + a.start) d)
  cross_sound =
      let n_c : length c.arcs ≡ 0 + length b.arcs = adds_b.arc_count in
      let n_arcs : length d.arcs ≡ length c.arcs + length a.arcs = adds_a.arc_count in
      let n_ends : length d.finals ≡ length c.arcs + length a.arcs = adds_a.final_count in
      let at_a : a.start < length a.arcs = sound_a.start in
      let at_b : b.start < length b.arcs = sound_b.start in
      let n = length d.arcs in
      let before : Fit n c = adds_fit n no_states c b Neither Output None sound_b (omega arith) (λ t e. absurd (cc)) (no_fit n) adds_b in
      let all : Fit n d = adds_fit n c d a Input Neither (Some b.start) sound_a (omega arith) (λ t e. let q : b.start ≡ t = cc in omega arith) before adds_a in
      record { finals = omega arith; start = omega arith; arcs = all.arcs; weights = all.weights }

  cross_reads : IsAcceptor (Reads a) → IsAcceptor (Reads b) → Same (Reads (as_machine (length c.arcs + a.start) d)) (Crossed (Reads a) (Reads b))
  unfolding Stands
  cross_reads f g =
      let n_c : length c.arcs ≡ 0 + length b.arcs = adds_b.arc_count in
      let m = as_machine (length c.arcs + a.start) d in
      let one : Stands m b 0 Neither Output None = later_region c d b a (length b.arcs) (length a.arcs) 0 Neither Output Input Neither None (Some b.start) (omega arith) adds_b.region adds_a in
      let after : Same (From m b.start) (Joined (Picked Neither Output (Reads b)) (Is [])) =
      subst (λ k. Same (From m k) (Joined (Picked Neither Output (Reads b)) (Is []))) (zero-add b.start) (region_reads m b 0 Neither Output None one (closed_of b sound_b) b.start sound_b.start) in
      let whole : Same (Reads m) (Joined (Picked Input Neither (Reads a)) (From m b.start)) =
      region_reads m a (length c.arcs) Input Neither (Some b.start) adds_a.region (closed_of a sound_a) a.start sound_a.start in
      same_trans (Reads m) (Joined (Picked Input Neither (Reads a)) (From m b.start)) (Crossed (Reads a) (Reads b)) whole
      (same_trans _ _ (Crossed (Reads a) (Reads b))
      (same_joined (Picked Input Neither (Reads a)) (From m b.start) (Picked Input Neither (Reads a)) (Joined (Picked Neither Output (Reads b)) (Is [])) (same_refl (Picked Input Neither (Reads a))) after)
      (crossing (Reads a) (Reads b) f g))

pub crossed_sound : (a b : Machine) (v c d : States) (next off start : ℕ) → WellFormed a → WellFormed b → v ≡ no_states → next ≡ b.start → off ≡ length c.arcs → start ≡ off + a.start → Adds v c b (length b.arcs) Neither Output None → Adds c d a (length a.arcs) Input Neither (Some next) → WellFormed (as_machine start d)
crossed_sound a b v c d next off start sa sb e f g h first second =
    subst (λ n. WellFormed (as_machine n d)) (sym (h ∙ ap (λ n. n + a.start) g))
    (cross_sound a b c d sa sb (subst (λ u. Adds u c b (length b.arcs) Neither Output None) e first) (subst (λ u. Adds c d a (length a.arcs) Input Neither (Some u)) f second))

pub crossed_reads : (a b m : Machine) (v c d : States) (next off start : ℕ) → WellFormed a → WellFormed b → v ≡ no_states → next ≡ b.start → off ≡ length c.arcs → start ≡ off + a.start → Adds v c b (length b.arcs) Neither Output None → Adds c d a (length a.arcs) Input Neither (Some next) → m ≡ as_machine start d → IsAcceptor (Reads a) → IsAcceptor (Reads b) → Same (Reads m) (Crossed (Reads a) (Reads b))
crossed_reads a b m v c d next off start sa sb e f g h first second built acc_a acc_b =
    subst (λ u. Same (Reads u) (Crossed (Reads a) (Reads b))) (sym (built ∙ ap (λ n. as_machine n d) (h ∙ ap (λ n. n + a.start) g)))
    (cross_reads a b c d sa sb (subst (λ u. Adds u c b (length b.arcs) Neither Output None) e first) (subst (λ u. Adds c d a (length a.arcs) Input Neither (Some u)) f second) acc_a acc_b)
