-- The law's step: a composed path is a path of what stands before the last part, and one of the last.
use Rattle.std.specs.Prelude.{◌≡◌, ◌⊎◌, ℕ, zero, suc, ◌+◌, List, [], ◌∷◌}
use Rattle.std.proofs.Common.{refl, sym, ap, subst, inl, inr, arith}
use Rattle.weighted_relations.specs.declared.Arc.{Arc}
use Rattle.weighted_relations.specs.Graphs.{stop, step, label}
use Rattle.weighted_relations.specs.Machines.{Machine, Path, IsArc}
use Rattle.compose_filter.specs.declared.filters.Filter.{Filter}
use Rattle.compose_filter.specs.declared.filters.Filter.TheVariants.{Open, Closed}
use Rattle.compose_filter.specs.ComposedPaths.{Combination, both, first, second, IsMove, both_move, first_moves, second_moves, Ends, both_end, ComposedPath, end, go, last_part, before_last}

label_nil : (n : ℕ) (x : List ℕ) → label n x ≡ [] → (n ≡ 0) × (x ≡ [])
label_nil zero x e = (refl, e)
label_nil (suc n) x e = absurd (cc)

label_cons : (n o : ℕ) (x z : List ℕ) → suc o ∷ z ≡ label n x → ((n ≡ 0) × (suc o ∷ z ≡ x)) ⊎ ((n ≡ suc o) × (z ≡ x))
label_cons zero o x z e = inl (refl, e)
label_cons (suc n) o x z e = inr (cc, cc)

-- a composed path for two paths
pub record Pairing (m : Machine) (ms : List Machine) (q : ℕ) (qs : List ℕ) (f : Filter) (fs : List Filter) (cs : List Combination) (ks x y : List ℕ) (w : ℕ) : Type 0 where
  pub combinations : List Combination
  pub path : ComposedPath (m ∷ ms) (q ∷ qs) (f ∷ fs) combinations x y w
  pub before : before_last combinations ≡ cs
  pub last : last_part combinations ≡ ks

weighed : {m : Machine} {ms : List Machine} {q : ℕ} {qs : List ℕ} {f : Filter} {fs : List Filter} {cs : List Combination} {ks x y : List ℕ} {w v : ℕ} → w ≡ v → Pairing m ms q qs f fs cs ks x y w → Pairing m ms q qs f fs cs ks x y v
weighed {m} {ms} {q} {qs} {f} {fs} {cs} {ks} {x} {y} e p = subst (λ n. Pairing m ms q qs f fs cs ks x y n) e p

both_on : {m : Machine} {ms : List Machine} {q k i o w u : ℕ} {qs rs : List ℕ} {f : Filter} {fs gs : List Filter} {c : Combination} {cs : List Combination} {a : Arc} {ks x y : List ℕ} → IsMove ms qs fs c i (suc o) w rs gs → IsArc m.arcs q k a → a.input ≡ suc o → Pairing m ms a.next rs Open gs cs ks x y u → Pairing m ms q qs f fs (c ∷ cs) (k ∷ ks) (label i x) (label a.output y) ((w + a.weight) + u)
both_on {k} {c} mv arc e r = record { combinations = both c k ∷ r.combinations; path = go (both_move mv arc e) r.path; before = ap (λ t. c ∷ t) r.before; last = ap (λ t. k ∷ t) r.last }

first_on : {m : Machine} {ms : List Machine} {q i w u : ℕ} {qs rs : List ℕ} {fs gs : List Filter} {c : Combination} {cs : List Combination} {ks x y : List ℕ} → IsMove ms qs fs c i zero w rs gs → Pairing m ms q rs Open gs cs ks x y u → Pairing m ms q qs Open fs (c ∷ cs) ks (label i x) y (w + u)
first_on {c} mv r = record { combinations = first c ∷ r.combinations; path = go (first_moves mv) r.path; before = ap (λ t. c ∷ t) r.before; last = r.last }

second_on : {m : Machine} {ms : List Machine} {q k u : ℕ} {qs : List ℕ} {f : Filter} {fs : List Filter} {cs : List Combination} {a : Arc} {ks x y : List ℕ} → IsArc m.arcs q k a → a.input ≡ zero → Pairing m ms a.next qs Closed fs cs ks x y u → Pairing m ms q qs f fs cs (k ∷ ks) x (label a.output y) (a.weight + u)
second_on {k} arc e r = record { combinations = second k ∷ r.combinations; path = go (second_moves arc e) r.path; before = r.before; last = ap (λ t. k ∷ t) r.last }

-- where the first has ended, the second moves alone
after_end : {m : Machine} {ms : List Machine} {q w v : ℕ} {qs : List ℕ} (f : Filter) {fs : List Filter} {ks z y : List ℕ} → Ends ms qs fs w → Path m q ks z y v → z ≡ [] → Pairing m ms q qs f fs [] ks [] y (w + v)
after_end f h (stop e) g = record { combinations = []; path = end (both_end h e); before = refl; last = refl }
after_end {w} f h (step {a} {x} {w = v} arc path) g =
    let n = label_nil a.input x g in
    weighed (let e : a.weight + (w + v) ≡ w + (a.weight + v) = omega arith in e) (second_on arc n.0 (after_end Closed h path n.1))

-- each path of the last part that reads z can follow this one
abbrev Follows : Machine → List Machine → List ℕ → List Filter → List Combination → List ℕ → List ℕ → ℕ → Type 0
Follows m ms qs fs cs x z w = (q : ℕ) (ks z' y : List ℕ) (v : ℕ) → Path m q ks z' y v → z ≡ z' → Pairing m ms q qs Open fs cs ks x y (w + v)

-- where the first writes a label, the second moves alone until it reads that label
at_label : {m : Machine} {ms : List Machine} {q i o w v : ℕ} {qs rs : List ℕ} (f : Filter) {fs gs : List Filter} {c : Combination} (cs : List Combination) {ks z' y : List ℕ} (x z : List ℕ) (u : ℕ) → IsMove ms qs fs c i (suc o) w rs gs → Follows m ms rs gs cs x z u → Path m q ks z' y v → suc o ∷ z ≡ z' → Pairing m ms q qs f fs (c ∷ cs) ks (label i x) y ((w + u) + v)
at_label f cs x z u mv on (stop e) g = absurd (cc)
at_label {o} {w} f cs x z u mv on (step {ks} {a} {x = x'} {y} {w = v} arc path) g =
    elim (label_cons a.input o x' z g) [
      | inl n ↦ weighed (let e : a.weight + ((w + u) + v) ≡ (w + u) + (a.weight + v) = omega arith in e) (second_on arc n.0 (at_label Closed cs x z u mv on path n.1))
      | inr n ↦ weighed (let e : (w + a.weight) + (u + v) ≡ (w + u) + (a.weight + v) = omega arith in e) (both_on mv arc n.0 (on a.next ks x' y v path n.1))
    ]

pub paired : {m : Machine} {ms : List Machine} {qs : List ℕ} {fs : List Filter} {cs : List Combination} {x z : List ℕ} {w : ℕ} → ComposedPath ms qs fs cs x z w → Follows m ms qs fs cs x z w
paired (end h) q ks z' y v path e = after_end Open h path (sym e)
paired (go {o = zero} {w} {v = u} mv rest) q ks z' y v path e = weighed (let e : w + (u + v) ≡ (w + u) + v = omega arith in e) (first_on mv (paired rest q ks z' y v path e))
paired (go {cs} {o = suc o} {v = u} {x} {y = z} mv rest) q ks z' y v path e = at_label Open cs x z u mv (paired rest) path e

-- the two paths of a composed path
pub record Split (m : Machine) (ms : List Machine) (q : ℕ) (qs : List ℕ) (fs : List Filter) (cs : List Combination) (x y : List ℕ) (w : ℕ) : Type 0 where
  pub middle : List ℕ
  pub u : ℕ
  pub v : ℕ
  pub weight : w ≡ u + v
  pub before : ComposedPath ms qs fs (before_last cs) x middle u
  pub last : Path m q (last_part cs) middle y v

read_at : (m : Machine) {q n k v : ℕ} {a : Arc} {ks z y : List ℕ} → IsArc m.arcs q k a → a.input ≡ n → Path m a.next ks z y v → Path m q (k ∷ ks) (label n z) (label a.output y) (a.weight + v)
read_at m {q} {k} {v} {a} {ks} {z} {y} arc e path = subst (λ n. Path m q (k ∷ ks) (label n z) (label a.output y) (a.weight + v)) e (step arc path)

pub split : {m : Machine} {ms : List Machine} {q w : ℕ} {qs : List ℕ} {f : Filter} {fs : List Filter} {cs : List Combination} {x y : List ℕ} → ComposedPath (m ∷ ms) (q ∷ qs) (f ∷ fs) cs x y w → Split m ms q qs fs cs x y w
split (end (both_end {w} {v} h e)) = record { middle = []; u = w; v = v; weight = refl; before = end h; last = stop e }
split {m} (go {v = t} (both_move {o} {w} {a} mv arc e) rest) =
    let r = split rest in
    record { middle = suc o ∷ r.middle; u = w + r.u; v = a.weight + r.v; weight = (let h : t ≡ r.u + r.v = r.weight in omega arith); before = go mv r.before; last = read_at m arc e r.last }
split (go {v = t} (first_moves {w} mv) rest) =
    let r = split rest in
    record { middle = r.middle; u = w + r.u; v = r.v; weight = (let h : t ≡ r.u + r.v = r.weight in omega arith); before = go mv r.before; last = r.last }
split {m} (go {v = t} (second_moves {a} arc e) rest) =
    let r = split rest in
    record { middle = r.middle; u = r.u; v = a.weight + r.v; weight = (let h : t ≡ r.u + r.v = r.weight in omega arith); before = r.before; last = read_at m arc e r.last }
