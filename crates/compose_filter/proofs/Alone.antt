-- The law's step: two composed paths of the same two paths are one.
use Rattle.std.specs.Prelude.{◌≡◌, ℕ, zero, suc, List, ◌∷◌}
use Rattle.std.proofs.Common.{refl, sym, ◌∙◌, ap, subst}
use Rattle.weighted_relations.specs.declared.Arc.{Arc}
use Rattle.weighted_relations.specs.Machines.{Machine, IsArc}
use Rattle.compose_filter.specs.declared.filters.Filter.{Filter}
use Rattle.compose_filter.specs.declared.filters.Filter.TheVariants.{Closed}
use Rattle.compose_filter.specs.ComposedPaths.{Combination, IsMove, both_move, first_moves, second_moves, ComposedPath, end, go, last_part, before_last}
use Rattle.compose_filter.proofs.OneWay.{one_arc, one_move}

-- a move has one output
clash : {ms : List Machine} {qs rs rs' : List ℕ} {fs gs gs' : List Filter} {c d : Combination} {i i' o w w' : ℕ} → IsMove ms qs fs c i (suc o) w rs gs → IsMove ms qs fs d i' zero w' rs' gs' → c ≡ d → ⊥
clash {ms} {qs} {rs} {fs} {gs} {i} {o} {w} mv nv e =
    let s = one_move (subst (λ t. IsMove ms qs fs t i (suc o) w rs gs) e mv) nv in
    let no : suc o ≡ zero = s.output in
    absurd (cc)

-- an arc has one input
reads : (m : Machine) (q : ℕ) {k j o : ℕ} {a b : Arc} → IsArc m.arcs q k a → a.input ≡ suc o → IsArc m.arcs q j b → b.input ≡ zero → k ≡ j → ⊥
reads m q {k} {j} {o} {a} {b} h d g f e =
    let same : a ≡ b = one_arc m q j (subst (λ t. IsArc m.arcs q t a) e h) g in
    let no : suc o ≡ zero = sym d ∙ ap (λ (t : Arc). t.input) same ∙ f in
    absurd (cc)

-- after the same combination, the same states
follow : {ms : List Machine} {qs rs rs' : List ℕ} {fs gs gs' : List Filter} {c d : Combination} {cs : List Combination} {i i' o o' w w' u : ℕ} {x y : List ℕ} → IsMove ms qs fs c i o w rs gs → IsMove ms qs fs d i' o' w' rs' gs' → c ≡ d → ComposedPath ms rs' gs' cs x y u → ComposedPath ms rs gs cs x y u
follow {ms} {qs} {rs} {rs'} {fs} {gs} {gs'} {cs} {i} {o} {w} {u} {x} {y} mv nv e path =
    let s = one_move (subst (λ t. IsMove ms qs fs t i o w rs gs) e mv) nv in
    subst (λ t. ComposedPath ms rs t cs x y u) (sym s.filters) (subst (λ t. ComposedPath ms t gs' cs x y u) (sym s.states) path)

-- while the filter is closed, the first takes no move with empty output
held : {m : Machine} {ms : List Machine} {q i w u : ℕ} {qs rs : List ℕ} {fs gs : List Filter} {c : Combination} {cs ds : List Combination} {x y : List ℕ} → ComposedPath (m ∷ ms) (q ∷ qs) (Closed ∷ fs) ds x y u → IsMove ms qs fs c i zero w rs gs → before_last ds ≡ c ∷ cs → ⊥
held (end h) mv e = absurd (cc)
held {c} (go (both_move {c = d} nv arc g) rest) mv e = let same : d ≡ c = cc in clash nv mv same
held (go (second_moves arc g) rest) mv e = held rest mv e

pub same_pair : {m : Machine} {ms : List Machine} {q w w' : ℕ} {qs : List ℕ} {f : Filter} {fs : List Filter} {cs ds : List Combination} {x y x' y' : List ℕ} → ComposedPath (m ∷ ms) (q ∷ qs) (f ∷ fs) cs x y w → ComposedPath (m ∷ ms) (q ∷ qs) (f ∷ fs) ds x' y' w' → before_last cs ≡ before_last ds → last_part cs ≡ last_part ds → cs ≡ ds
same_pair (end h) (end k) b l = refl
same_pair (end h) (go (both_move nv arc g) rest) b l = absurd (cc)
same_pair (end h) (go (first_moves nv) rest) b l = absurd (cc)
same_pair (end h) (go (second_moves arc g) rest) b l = absurd (cc)
same_pair (go (both_move nv arc g) rest) (end h) b l = absurd (cc)
same_pair (go (first_moves nv) rest) (end h) b l = absurd (cc)
same_pair (go (second_moves arc g) rest) (end h) b l = absurd (cc)
same_pair {f} (go {cs} (both_move {k} {c} mv arc g) rest) (go {cs = ds} (both_move {k = j} {c = d} nv brc h) sest) b l =
    let e : c ≡ d = cc in
    let n : k ≡ j = cc in
    let r : cs ≡ ds = same_pair rest (follow (both_move {f = f} mv arc g) (both_move {f = f} nv brc h) (cc) sest) (cc) (cc) in
    cc
same_pair (go (both_move {c} mv arc g) rest) (go (first_moves {c = d} nv) sest) b l = let e : c ≡ d = cc in absurd (clash mv nv e)
same_pair {m} {q} (go (both_move {k} mv arc g) rest) (go (second_moves {k = j} brc h) sest) b l = let e : k ≡ j = cc in absurd (reads m q arc g brc h e)
same_pair (go (first_moves {c} mv) rest) (go (both_move {c = d} nv brc h) sest) b l = let e : d ≡ c = cc in absurd (clash nv mv e)
same_pair (go {cs} (first_moves {c} mv) rest) (go {cs = ds} (first_moves {c = d} nv) sest) b l =
    let e : c ≡ d = cc in
    let r : cs ≡ ds = same_pair rest (follow (first_moves mv) (first_moves nv) (cc) sest) (cc) l in
    cc
same_pair (go (first_moves mv) rest) (go (second_moves brc h) sest) b l = absurd (held sest mv (sym b))
same_pair {m} {q} (go (second_moves {k} arc g) rest) (go (both_move {k = j} nv brc h) sest) b l = let e : j ≡ k = cc in absurd (reads m q brc h arc g e)
same_pair (go (second_moves arc g) rest) (go (first_moves nv) sest) b l = absurd (held rest nv b)
same_pair {f} (go {cs} (second_moves {k} arc g) rest) (go {cs = ds} (second_moves {k = j} brc h) sest) b l =
    let n : k ≡ j = cc in
    let r : cs ≡ ds = same_pair rest (follow (second_moves {f = f} arc g) (second_moves {f = f} brc h) (cc) sest) b (cc) in
    cc
