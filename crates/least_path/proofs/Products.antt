-- The ways of the search are the readings at the inputs of the source.
use Rattle.std.proofs.Common.{◌≡◌, ◌↔◌, ℕ, zero, suc, ◌+◌, List, [], ◌∷◌, ◌++◌, Some, None, slice_get, refl, sym, ap, ◌∙◌, subst, inl, inr, arith, add_assoc, append_assoc}
use Rattle.std.proofs.lemmas.List.{append-nil}
use Rattle.weighted_relations.specs.declared.Arc.{Arc}
use Rattle.weighted_relations.specs.Graphs.{Graph, GraphPath, GraphFrom, stop, step, label}
use Rattle.weighted_relations.specs.Machines.{Machine, Path, From, IsArc, final_of}
use Rattle.weighted_relations.specs.Relations.{IsInput}
use Rattle.weighted_relations.specs.Searches.{Reach, here, on}
use Rattle.least_path.specs.Products.{Joint, Follows, Together, ReadsAlong}

cons_none : {n : ℕ} {x : List ℕ} → suc n ∷ x ≡ [] → ⊥
cons_none f = cc

label_then : (n : ℕ) (x : List ℕ) → label n [] ++ x ≡ label n x
label_then zero x = refl
label_then (suc n) x = refl

module _ {A B : Type 0} (m : Machine) (g : Graph A B) (from : Joint A) where
  retag : (o : Joint A) {w v : ℕ} {y z : List ℕ} → w ≡ v → y ≡ z → Reach (Together m g) from o w y → Reach (Together m g) from o v z
  retag o {w} {v} {y} {z} e f r = subst (λ u. Reach (Together m g) from o u z) e (subst (λ u. Reach (Together m g) from o w u) f r)

  -- what is to be shown of the source's path and the graph's
  abbrev pub Leads : ℕ → A → List ℕ → ℕ → Type 0
  Leads q t y w = (v : ℕ) (z : List ℕ) → Reach (Together m g) from (Some (q, t)) v z → Reach (Together m g) from None (v + w) (z ++ y)

  -- an arc of the graph, and then what is shown
  after_move : (q r : ℕ) (t : A) (k : ℕ) (b : B) (y : List ℕ) (w : ℕ) → slice_get (g.arcs t) k ≡ Some b → Follows m q (g.input b) r → Leads r (g.next t b) y w → Leads q t (label (g.output b) y) (g.weight b + w)
  after_move q r t k b y w is follows rest v z way =
      let edge : Together m g (Some (q, t)) (Some (r, g.next t b)) (g.weight b) (label (g.output b) []) = inr (record { place = k; arc = b; is = is; source = follows; node = refl; weight = refl; output = refl }) in
      let then' = rest (v + g.weight b) (z ++ label (g.output b) []) (on {n = Some (q, t)} {m = Some (r, g.next t b)} way edge) in
      retag None (add_assoc v (g.weight b) w) (append_assoc z (label (g.output b) []) y ∙ ap (λ s. z ++ s) (label_then (g.output b) y)) then'

  -- the graph alone, where nothing is left of the input
  at_end : (q last : ℕ) → final_of m.finals q ≡ Some last → {t : A} {ks x y : List ℕ} {w : ℕ} → GraphPath g t ks x y w → x ≡ [] → Leads q t y w
  at_end q last f (stop {s = t} {w} h) e = λ v z way.
      on {n = Some (q, t)} {m = None} way (record { last = last; source = f; node = h; output = refl })
  at_end q last f (step {s = t} {k} {ks} {a} {x} {y} {w} h rest) e = go (at_end q last f rest) (g.input a) refl e where
    go : (x ≡ [] → Leads q (g.next t a) y w) → (n : ℕ) → g.input a ≡ n → label (g.input a) x ≡ [] → Leads q t (label (g.output a) y) (g.weight a + w)
    go more zero i e' = after_move q q t k a y w h (subst (λ n. Follows m q n q) (sym i) refl) (more (subst (λ n. label n x ≡ []) i e'))
    go more (suc n) i e' = absurd (cons_none (subst (λ n. label n x ≡ []) i e'))

  -- the graph reads a label, after moves of its own
  at_label : (q r n k' : ℕ) (b' : Arc) (x' : List ℕ) → IsArc m.arcs q k' b' → b'.input ≡ suc n → r ≡ b'.next
      → ((t : A) (y : List ℕ) (w : ℕ) → GraphFrom g t x' y w → Leads r t y w)
      → {t : A} {ks x y : List ℕ} {w : ℕ} → GraphPath g t ks x y w → x ≡ suc n ∷ x' → Leads q t y w
  at_label q r n k' b' x' i j s later (stop h) e = absurd (cc)
  at_label q r n k' b' x' i j s later (step {s = t} {k} {ks} {a} {x} {y} {w} h rest) e = go (at_label q r n k' b' x' i j s later rest) (g.input a) refl e where
    go : (x ≡ suc n ∷ x' → Leads q (g.next t a) y w) → (l : ℕ) → g.input a ≡ l → label (g.input a) x ≡ suc n ∷ x' → Leads q t (label (g.output a) y) (g.weight a + w)
    go more zero f e' = after_move q q t k a y w h (subst (λ l. Follows m q l q) (sym f) refl) (more (subst (λ l. label l x ≡ suc n ∷ x') f e'))
    go more (suc l) f e' =
        let both : suc l ∷ x ≡ suc n ∷ x' = subst (λ l. label l x ≡ suc n ∷ x') f e' in
        let same : l ≡ n = cc in
        let tail : x ≡ x' = cc in
        let there : Follows m q (suc l) r = (k', b', i, j ∙ sym (ap suc same), s) in
        after_move q r t k a y w h (subst (λ l. Follows m q l r) (sym f) there) (later (g.next t a) y w (subst (λ u. GraphFrom g (g.next t a) u y w) tail (ks, rest)))

  -- a path of the source and one of the graph over the same input are a way to the end
  pub to_end : {q : ℕ} {ks x y' : List ℕ} {w' : ℕ} → Path m q ks x y' w' → (t : A) (y : List ℕ) (w : ℕ) → GraphFrom g t x y w → Leads q t y w
  to_end (stop {s} {w} h) = λ t y w' r. at_end s w h r.1 refl
  to_end (step {s} {k} {ks} {a} {x} {y = o} {w = u} h path) = λ t y w r. go (to_end path) t y w a.input refl r where
    go : ((t : A) (y : List ℕ) (w : ℕ) → GraphFrom g t x y w → Leads a.next t y w) → (t : A) (y : List ℕ) (w : ℕ) (n : ℕ) → a.input ≡ n → GraphFrom g t (label a.input x) y w → Leads s t y w
    go later t y w zero i r' = λ v z way.
        let edge : Together m g (Some (s, t)) (Some (a.next, t)) 0 [] = inl (record { place = k; arc = a; is = h; input = i; state = refl; node = refl; weight = refl; output = refl }) in
        let way' : Reach (Together m g) from (Some (a.next, t)) (v + 0) (z ++ []) = on {n = Some (s, t)} {m = Some (a.next, t)} way edge in
        later t y w (subst (λ n. GraphFrom g t (label n x) y w) i r') v z (retag (Some (a.next, t)) (let e : v + 0 ≡ v = omega arith in e) (append-nil z) way')
    go later t y w (suc n) i r' = at_label s a.next n k a x h i refl later (subst (λ n. GraphFrom g t (label n x) y w) i r').1 refl

-- what a way says
module _ {A B : Type 0} (m : Machine) (g : Graph A B) (q0 : ℕ) (t0 : A) where
  abbrev pub Says : Joint A → ℕ → List ℕ → Type 0
  Says None w y = ReadsAlong m g q0 t0 y w
  Says (Some p) w y = (x : List ℕ) (y' : List ℕ) (w' : ℕ) → IsInput (From m p.0) x → GraphFrom g p.1 x y' w' → ReadsAlong m g q0 t0 (y ++ y') (w + w')

  reads_as : {y z : List ℕ} {w v : ℕ} → y ≡ z → w ≡ v → ReadsAlong m g q0 t0 y w → ReadsAlong m g q0 t0 z v
  reads_as {y} {z} {w} {v} e f h = subst (λ u. ReadsAlong m g q0 t0 z u) f (subst (λ u. ReadsAlong m g q0 t0 u w) e h)

  -- the source's path with one arc more in front
  before : (q k : ℕ) (a : Arc) (x : List ℕ) → IsArc m.arcs q k a → IsInput (From m a.next) x → IsInput (From m q) (label a.input x)
  before q k a x i h = (label a.output h.0, a.weight + h.1, (k ∷ h.2.0, step i h.2.1))

  followed : (q n r : ℕ) (x : List ℕ) → Follows m q n r → IsInput (From m r) x → IsInput (From m q) (label n x)
  followed q zero r x f h = subst (λ s. IsInput (From m s) x) f h
  followed q (suc n) r x f h = subst (λ l. IsInput (From m q) (label l x)) f.3 (before q f.0 f.1 x f.2 (subst (λ s. IsInput (From m s) x) f.4 h))

  says_more : (n o : Joint A) (w u : ℕ) (y z : List ℕ) → Says n w y → Together m g n o u z → Says o (w + u) (y ++ z)
  says_more None o w u y z h e = absurd e
  says_more (Some p) None w u y z h e =
      let stopped : IsInput (From m p.0) [] = ([], e.last, ([], stop e.source)) in
      reads_as (ap (λ s. y ++ s) (sym e.output)) refl (h [] [] u stopped ([], stop e.node))
  says_more (Some p) (Some o) w u y z h (inl e) = λ x y' w' accepts reads.
      let there : IsInput (From m p.0) (label e.arc.input x) = before p.0 e.place e.arc x e.is (subst (λ s. IsInput (From m s) x) e.state accepts) in
      let here' : IsInput (From m p.0) x = subst (λ n. IsInput (From m p.0) (label n x)) e.input there in
      let r' : GraphFrom g p.1 x y' w' = subst (λ s. GraphFrom g s x y' w') e.node reads in
      reads_as (ap (λ s. s ++ y') (sym (append-nil y) ∙ ap (λ s. y ++ s) (sym e.output))) (let f : u ≡ 0 = e.weight in let k : w + w' ≡ (w + u) + w' = omega arith in k) (h x y' w' here' r')
  says_more (Some p) (Some o) w u y z h (inr e) = λ x y' w' accepts reads.
      let there : IsInput (From m p.0) (label (g.input e.arc) x) = followed p.0 (g.input e.arc) o.0 x e.source accepts in
      let rest : GraphFrom g (g.next p.1 e.arc) x y' w' = subst (λ s. GraphFrom g s x y' w') e.node reads in
      let r' : GraphFrom g p.1 (label (g.input e.arc) x) (label (g.output e.arc) y') (g.weight e.arc + w') = (e.place ∷ rest.0, step e.is rest.1) in
      let text : y ++ label (g.output e.arc) y' ≡ (y ++ z) ++ y' = ap (λ s. y ++ s) (sym (label_then (g.output e.arc) y') ∙ ap (λ s. s ++ y') (sym e.output)) ∙ sym (append_assoc y z y') in
      let sum : w + (g.weight e.arc + w') ≡ (w + u) + w' = (let f : u ≡ g.weight e.arc = e.weight in omega arith) in
      reads_as text sum (h (label (g.input e.arc) x) (label (g.output e.arc) y') (g.weight e.arc + w') there r')

  -- a way says it
  pub says : {n : Joint A} {w : ℕ} {y : List ℕ} → Reach (Together m g) (Some (q0, t0)) n w y → Says n w y
  says here = λ x y' w' accepts reads. reads_as refl (let e : w' ≡ 0 + w' = omega arith in e) (record { input = x; accepts = accepts; reads = reads })
  says (on {n} {m = o} {w} {u} {y} {z} way edge) = says_more n o w u y z (says way) edge

  -- the readings at inputs of the source are the ways to the end
  pub reads_are_ways : (y : List ℕ) (w : ℕ) → ReadsAlong m g q0 t0 y w ↔ Reach (Together m g) (Some (q0, t0)) None w y
  reads_are_ways y w = (
    λ r. retag m g (Some (q0, t0)) None (let e : 0 + w ≡ w = omega arith in e) refl (to_end m g (Some (q0, t0)) r.accepts.2.1 t0 y w r.reads 0 [] here),
    λ way. says way,
  )
