-- The law of composition for any number of parts, by one induction from the left.
use Rattle.std.specs.Prelude.{◌≡◌, ℕ, List, [], ◌∷◌}
use Rattle.std.proofs.Common.{refl, sym, ◌∙◌, ap, subst}
use Rattle.weighted_relations.specs.Graphs.{stop, step}
use Rattle.weighted_relations.specs.Machines.{Machine, Path}
use Rattle.compose_filter.specs.declared.filters.Filter.{Filter}
use Rattle.compose_filter.specs.ComposedPaths.{Combination, only, only_moves, only_ends, ComposedPath, end, go, Matched, one, more, only_part, last_part, before_last, projections, starts, all_open, OneToOne}
use Rattle.compose_filter.proofs.Pairs.{paired, split}
use Rattle.compose_filter.proofs.Alone.{same_pair}

no_parts : {qs x y : List ℕ} {fs : List Filter} {cs : List Combination} {w : ℕ} → ComposedPath [] qs fs cs x y w → ⊥
no_parts (end h) = elim h [ ]
no_parts (go mv rest) = elim mv [ ]

-- one part
path_of : {m : Machine} {q w : ℕ} {cs : List Combination} {x y : List ℕ} → ComposedPath (m ∷ []) (q ∷ []) [] cs x y w → Path m q (only_part cs) x y w
path_of (end (only_ends h)) = stop h
path_of (go (only_moves arc) rest) = step arc (path_of rest)

made_of : {m : Machine} {q w : ℕ} {ks x y : List ℕ} → Path m q ks x y w → (cs : List Combination) × ComposedPath (m ∷ []) (q ∷ []) [] cs x y w × (only_part cs ≡ ks)
made_of (stop h) = ([], end (only_ends h), refl)
made_of (step {k} arc path) = let r = made_of path in (only k ∷ r.0, go (only_moves arc) r.1, ap (λ t. k ∷ t) r.2)

same_one : {m : Machine} {q w q' w' : ℕ} {cs ds : List Combination} {x y x' y' : List ℕ} → ComposedPath (m ∷ []) (q ∷ []) [] cs x y w → ComposedPath (m ∷ []) (q' ∷ []) [] ds x' y' w' → only_part cs ≡ only_part ds → cs ≡ ds
same_one (end h) (end k) e = refl
same_one (end h) (go (only_moves arc) sest) e = absurd (cc)
same_one (go (only_moves arc) rest) (end h) e = absurd (cc)
same_one (go {cs} (only_moves {k} arc) rest) (go {cs = ds} (only_moves {k = j} brc) sest) e =
    let n : k ≡ j = cc in
    let r : cs ≡ ds = same_one rest sest (cc) in
    cc

sound : (ms : List Machine) {cs : List Combination} {x y : List ℕ} {w : ℕ} → ComposedPath ms (starts ms) (all_open ms) cs x y w → Matched ms (starts ms) (projections ms cs) x y w
sound [] p = absurd (no_parts p)
sound (m ∷ []) p = one (path_of p)
sound (m ∷ n ∷ ms) {cs} {x} {y} p =
    let s = split p in
    subst (λ t. Matched (m ∷ n ∷ ms) (starts (m ∷ n ∷ ms)) (projections (m ∷ n ∷ ms) cs) x y t) (sym s.weight) (more (sound (n ∷ ms) s.before) s.last)

abbrev Found : List Machine → List (List ℕ) → List ℕ → List ℕ → ℕ → Type 0
Found ms ps x y w = (cs : List Combination) × ComposedPath ms (starts ms) (all_open ms) cs x y w × (projections ms cs ≡ ps)

found : (ms : List Machine) {ps : List (List ℕ)} {x y : List ℕ} {w : ℕ} → Matched ms (starts ms) ps x y w → Found ms ps x y w
found [] h = elim h [ ]
found (m ∷ []) (one path) = let r = made_of path in (r.0, r.1, ap (λ t. t ∷ []) r.2)
found (m ∷ []) (more h path) = elim h [ ]
found (m ∷ n ∷ ms) (more {v} {ks} {z} {y} {ps} h path) =
    let r = found (n ∷ ms) h in
    let s = paired r.1 m.start ks z y v path refl in
    (s.combinations, s.path, ap (λ t. t ∷ projections (n ∷ ms) (before_last s.combinations)) s.last ∙ ap (λ t. ks ∷ t) (ap (projections (n ∷ ms)) s.before ∙ r.2))

alone : (ms : List Machine) {cs ds : List Combination} {x y x' y' : List ℕ} {w w' : ℕ} → ComposedPath ms (starts ms) (all_open ms) cs x y w → ComposedPath ms (starts ms) (all_open ms) ds x' y' w' → projections ms cs ≡ projections ms ds → cs ≡ ds
alone [] p q e = absurd (no_parts p)
alone (m ∷ []) p q e = same_one p q (cc)
alone (m ∷ n ∷ ms) {cs} {ds} p q e =
    let l : last_part cs ≡ last_part ds = cc in
    let b : projections (n ∷ ms) (before_last cs) ≡ projections (n ∷ ms) (before_last ds) = cc in
    let s = split p in
    let t = split q in
    same_pair p q (alone (n ∷ ms) s.before t.before b) l

pub one_to_one : (ms : List Machine) → OneToOne ms
one_to_one ms = record {
  sound = λ cs x y w p. sound ms p;
  found = λ ps x y w h. found ms h;
  alone = λ cs ds x y x' y' w w' p q e. alone ms p q e;
}
