-- The ways of a search over one input are the paths of a graph.
use Rattle.std.specs.Prelude.{◌≡◌, ◌↔◌, ℕ, ◌+◌, zero, suc, List, [], ◌∷◌, ◌++◌, Option, Some, None, slice_get}
use Rattle.std.proofs.Common.{subst, refl, sym, ap, ◌∙◌, add_assoc, append_assoc, arith}
use Rattle.weighted_relations.specs.Graphs.{Graph, GraphPath, stop, step, GraphFrom, GraphReads, label}
use Rattle.weighted_relations.specs.Searches.{Edges, Reach, here, on}

-- what is left of the input, and a node of the graph; or the end
abbrev pub Spot : Type 0 → Type 0
Spot A = Option (List ℕ × A)

-- an arc is followed where its input comes next, and the end is reached where nothing is left
abbrev pub Along : {A B : Type 0} → Graph A B → Edges (Spot A)
Along g None n u z = ⊥
Along g (Some p) (Some q) u z = (k : ℕ) × (a : _) × (slice_get (g.arcs p.1) k ≡ Some a) × (p.0 ≡ label (g.input a) q.0) × (q.1 ≡ g.next p.1 a) × (u ≡ g.weight a) × (z ≡ label (g.output a) [])
Along g (Some p) None u z = (p.0 ≡ []) × (g.final p.1 ≡ Some u) × (z ≡ [])

label_then : (n : ℕ) (x : List ℕ) → label n [] ++ x ≡ label n x
label_then zero x = refl
label_then (suc n) x = refl

module _ {A B : Type 0} (g : Graph A B) where
  retag : (n o : Spot A) {w v : ℕ} {y z : List ℕ} → w ≡ v → y ≡ z → Reach (Along g) n o w y → Reach (Along g) n o v z
  retag n o {w} {v} {y} {z} e f r = subst (λ u. Reach (Along g) n o u z) e (subst (λ u. Reach (Along g) n o w u) f r)

  -- a path is a way to the end
  way_of : (n : Spot A) {s : A} {ks x y : List ℕ} {w : ℕ} → GraphPath g s ks x y w → (v : ℕ) (z : List ℕ) → Reach (Along g) n (Some (x, s)) v z → Reach (Along g) n None (v + w) (z ++ y)
  way_of n (stop {s} {w} h) v z r = on {n = Some ([], s)} {m = None} r (refl, h, refl)
  way_of n (step {s} {k} {ks} {a} {x} {y} {w} h path) v z r =
      let next : Reach (Along g) n (Some (x, g.next s a)) (v + g.weight a) (z ++ label (g.output a) []) = on {n = Some (label (g.input a) x, s)} {m = Some (x, g.next s a)} r (k, a, h, refl, refl, refl, refl) in
      retag n None (add_assoc v (g.weight a) w) (append_assoc z (label (g.output a) []) y ∙ ap (λ t. z ++ t) (label_then (g.output a) y)) (way_of n path (v + g.weight a) (z ++ label (g.output a) []) next)

  -- what a way from the start says
  abbrev Says : A → List ℕ → Spot A → ℕ → List ℕ → Type 0
  Says s x None w y = GraphFrom g s x y w
  Says s x (Some p) w y = (y2 : List ℕ) (w2 : ℕ) → GraphFrom g p.1 p.0 y2 w2 → GraphFrom g s x (y ++ y2) (w + w2)

  from_as : (s : A) (x : List ℕ) {y z : List ℕ} {w v : ℕ} → y ≡ z → w ≡ v → GraphFrom g s x y w → GraphFrom g s x z v
  from_as s x {y} {z} {w} {v} e f h = subst (λ u. GraphFrom g s x z u) f (subst (λ u. GraphFrom g s x u w) e h)

  says_more : (s : A) (x : List ℕ) (n o : Spot A) (w u : ℕ) (y z : List ℕ) → Says s x n w y → Along g n o u z → Says s x o (w + u) (y ++ z)
  says_more s x None o w u y z h e = absurd e
  says_more s x (Some p) None w u y z h e =
      let done : GraphFrom g p.1 p.0 [] u = subst (λ t. GraphFrom g p.1 t [] u) (sym e.0) ([], stop e.1) in
      subst (λ t. GraphFrom g s x (y ++ t) (w + u)) (sym e.2) (h [] u done)
  says_more s x (Some p) (Some q) w u y z h e = λ y2 w2 r.
      let a = e.1 in
      let after : GraphFrom g (g.next p.1 a) q.0 y2 w2 = subst (λ t. GraphFrom g t q.0 y2 w2) e.4 r in
      let first : GraphFrom g p.1 (label (g.input a) q.0) (label (g.output a) y2) (g.weight a + w2) = (e.0 ∷ after.0, step e.2 after.1) in
      let whole : GraphFrom g s x (y ++ label (g.output a) y2) (w + (g.weight a + w2)) = h (label (g.output a) y2) (g.weight a + w2) (subst (λ t. GraphFrom g p.1 t (label (g.output a) y2) (g.weight a + w2)) (sym e.3) first) in
      let sum : w + (g.weight a + w2) ≡ (w + u) + w2 = (let q' : u ≡ g.weight a = e.5 in omega arith) in
      let text : y ++ label (g.output a) y2 ≡ (y ++ z) ++ y2 = ap (λ t. y ++ t) (sym (label_then (g.output a) y2) ∙ ap (λ t. t ++ y2) (sym e.6)) ∙ sym (append_assoc y z y2) in
      from_as s x text sum whole

  says : (s : A) (x : List ℕ) {n : Spot A} {w : ℕ} {y : List ℕ} → Reach (Along g) (Some (x, s)) n w y → Says s x n w y
  says s x here = λ y2 w2 r. from_as s x refl (let e : w2 ≡ 0 + w2 = omega arith in e) r
  says s x (on {n} {m = o} {w} {u} {y} {z} way edge) = says_more s x n o w u y z (says s x way) edge

  -- the readings at an input are the ways to the end
  pub reads_are_ways : (x y : List ℕ) (w : ℕ) → GraphReads g x y w ↔ Reach (Along g) (Some (x, g.start)) None w y
  reads_are_ways x y w = (
    λ h. retag (Some (x, g.start)) None (let e : 0 + w ≡ w = omega arith in e) refl (way_of (Some (x, g.start)) h.1 0 [] here),
    λ r. says g.start x r,
  )
