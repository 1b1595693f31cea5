-- Nodes that compare as equal are one, and so are hashed alike.
use Rattle.std.specs.Prelude.{◌≡◌, ℕ, List, [], ◌∷◌, Bool, true, false, ◌&&◌, IsTrue}
use Rattle.std.specs.Hash as fed
use Rattle.std.proofs.Common.{refl, ap, ◌∙◌, eqb}
use Rattle.std.proofs.lemmas.Bool.{eqb-true, false≢true}
use lib.Pointwise.{pointwise}
use Rattle.least_path.specs.declared.node.Node.{Node}
use Rattle.least_path.specs.declared.node.Node.TheVariants.{At, End}
use Rattle.least_path.specs.contracts.node.NodePartialEq.TheImpl as node
use Rattle.least_path.specs.Mixing.{mix_of}

both_parts : (s t : Bool) → (s && t) ≡ true → (s ≡ true) × (t ≡ true)
both_parts true t h = (refl, h)
both_parts false t h = absurd (false≢true h)

list_same : (xs ys : List ℕ) → pointwise eqb xs ys ≡ true → xs ≡ ys
list_same [] [] h = refl
list_same [] (y ∷ ys) h = absurd (false≢true h)
list_same (x ∷ xs) [] h = absurd (false≢true h)
list_same (x ∷ xs) (y ∷ ys) h =
    let p = both_parts (eqb x y) (pointwise eqb xs ys) h in
    ap (λ t. t ∷ xs) (eqb-true x y p.0) ∙ ap (λ t. y ∷ t) (list_same xs ys p.1)

pub node_same : (a b : Node) → (node.eq-value).it a b ≡ true → a ≡ b
node_same End End h = refl
node_same End (At q t) h = absurd (false≢true h)
node_same (At q t) End h = absurd (false≢true h)
node_same (At q t) (At r u) h =
    let p = both_parts (eqb q r) (eqb t.cascade u.cascade && (pointwise eqb t.states u.states && eqb t.filters u.filters)) h in
    let c = both_parts (eqb t.cascade u.cascade) (pointwise eqb t.states u.states && eqb t.filters u.filters) p.1 in
    let s = both_parts (pointwise eqb t.states u.states) (eqb t.filters u.filters) c.1 in
    ap (λ n. At n t) (eqb-true q r p.0)
    ∙ ap (λ n. At r (record { cascade = n; states = t.states; filters = t.filters })) (eqb-true t.cascade u.cascade c.0)
    ∙ ap (λ n. At r (record { cascade = u.cascade; states = n; filters = t.filters })) (list_same t.states u.states s.0)
    ∙ ap (λ n. At r (record { cascade = u.cascade; states = u.states; filters = n })) (eqb-true t.filters u.filters s.1)

pub mixed_alike : (a b : Node) → IsTrue ((node.eq-value).it a b) → fed.u64 (mix_of a) ≡ fed.u64 (mix_of b)
mixed_alike a b h = ap (λ n. fed.u64 (mix_of n)) (node_same a b h)
