-- The reading of a path.
use Rattle.std.specs.Prelude.{◌≡◌, ℕ, ◌+◌, List, Some}
use Rattle.std.proofs.Common.{sym, ◌∙◌, ap, subst, refl}
use Rattle.weighted_relations.specs.Graphs.{Graph, GraphPath, stop, step, label}

pub record SameReading (x y : List ℕ) (w : ℕ) (x' y' : List ℕ) (w' : ℕ) : Type 0 where
  pub input : x ≡ x'
  pub output : y ≡ y'
  pub weight : w ≡ w'

-- a path has one reading
pub one_reading : {A B : Type 0} {g : Graph A B} {s : A} {ks x y x' y' : List ℕ} {w w' : ℕ} → GraphPath g s ks x y w → GraphPath g s ks x' y' w' → SameReading x y w x' y' w'
one_reading (stop {w} h) (stop {w = v} k) = record { input = refl; output = refl; weight = let e : Some w ≡ Some v = sym h ∙ k in cc }
one_reading {A} {B} {g} (step {s} {ks} {a} {x} {y} {w} h p) (step {a = b} {x = x'} {y = y'} {w = w'} k q) =
    let e : Some a ≡ Some b = sym h ∙ k in
    let same : a ≡ b = cc in
    let r = one_reading p (subst (λ c. GraphPath g (g.next s c) ks x' y' w') (sym same) q) in
    record {
      input = ap (label (g.input a)) r.input ∙ ap (λ c. label (g.input c) x') same;
      output = ap (label (g.output a)) r.output ∙ ap (λ c. label (g.output c) y') same;
      weight = ap (λ n. g.weight a + n) r.weight ∙ ap (λ c. g.weight c + w') same;
    }
