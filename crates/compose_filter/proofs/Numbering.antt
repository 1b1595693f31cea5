-- A transducer whose states are numbers of triples has the readings of the composition.
use Rattle.std.specs.Prelude.{◌≡◌, ℕ, zero, suc, ◌+◌, List, [], ◌∷◌, Option, Some, None, length, slice_get, get_or}
use Rattle.std.proofs.Common.{refl, sym, ◌∙◌, ap, subst}
use Rattle.std.proofs.lemmas.List.Sorted.{IsPermutation-sym}
use Rattle.weighted_relations.specs.declared.Arc.{Arc}
use Rattle.weighted_relations.specs.Relations.{Same, Composed}
use Rattle.weighted_relations.specs.Graphs.{stop, step, label}
use Rattle.weighted_relations.specs.Machines.{Machine, Path, final_of, Reads}
use Rattle.compose_filter.specs.declared.filters.Filter.{Filter}
use Rattle.compose_filter.specs.declared.triples.Triple.{Triple}
use Rattle.compose_filter.specs.ComposedPaths.{Combination, IsMove, Ends, only_ends, both_end, ComposedPath, end, go, Matched, one, more}
use Rattle.compose_filter.specs.Compositions.{states, filters, after, moves_from, both_final, end_of, first_triple, RowAt, IsComposition}
use Rattle.fst_core.proofs.Among.{permuted}
use Rattle.compose_filter.proofs.Listed.{leads, listing}
use Rattle.compose_filter.proofs.Law.{one_to_one}

-- the element at the same place of a list as long
pub beside : {X Y : Type 0} (xs : List X) (ys : List Y) (k : ℕ) (x : X) → length xs ≡ length ys → slice_get xs k ≡ Some x → (y : Y) × (slice_get ys k ≡ Some y)
beside [] ys k x l e = absurd (let n : None ≡ Some x = e in cc)
beside (z ∷ xs) [] k x l e = absurd (cc)
beside (z ∷ xs) (y ∷ ys) zero x l e = (y, refl)
beside (z ∷ xs) (y ∷ ys) (suc k) x l e = beside xs ys k x (cc) e

-- the parts of a sum of final weights
pub record Finals (p q : Option ℕ) (w : ℕ) : Type 0 where
  pub u : ℕ
  pub v : ℕ
  pub first : p ≡ Some u
  pub second : q ≡ Some v
  pub weight : u + v ≡ w

pub finals_of : (p q : Option ℕ) (w : ℕ) → both_final p q ≡ Some w → Finals p q w
finals_of (Some u) (Some v) w e = record { u = u; v = v; first = refl; second = refl; weight = cc }
finals_of (Some u) None w e = absurd (cc)
finals_of None q w e = absurd (cc)

pair : {a b : Machine} {ps : List (List ℕ)} {x y : List ℕ} {w : ℕ} → Matched (b ∷ a ∷ []) (b.start ∷ a.start ∷ []) ps x y w → Composed (Reads a) (Reads b) x y w
pair (more {w} {v} {ks} {z} (one {ks = js} p) q) = record { middle = z; w1 = w; w2 = v; weight = refl; first = (js, p); second = (ks, q) }
pair (more (more h p) q) = elim h [ ]

-- arcs and final weights are those of the triples
pub record Numbers (a b : Machine) (keys : List Triple) (m : Machine) : Type 0 where
  pub rows : (s : ℕ) (t : Triple) → slice_get keys s ≡ Some t → RowAt a b keys t (get_or m.arcs s [])
  pub ends : (s : ℕ) (t : Triple) → slice_get keys s ≡ Some t → final_of m.finals s ≡ end_of a b t

-- the move of an arc
pub record MoveOf (a b : Machine) (keys : List Triple) (t : Triple) (x : Arc) : Type 0 where
  pub combination : Combination
  pub to : Triple
  pub next : slice_get keys x.next ≡ Some to
  pub is : IsMove (b ∷ a ∷ []) (states t) (filters t) combination x.input x.output x.weight (states to) (filters to)

-- of one row
pub move_in : (a b : Machine) (keys : List Triple) (t : Triple) (row : List Arc) (k : ℕ) (x : Arc) → RowAt a b keys t row → slice_get row k ≡ Some x → MoveOf a b keys t x
move_in a b keys t row k x r h =
    let n = beside row r.moves k x r.arcs.count h in
    let st = r.arcs.each k n.0 x n.1 h in
    let l = leads a b t n.0 (permuted r.moves (moves_from a b t) n.0 (IsPermutation-sym _ _ r.all) (k, n.1)) in
    record {
      combination = l.0;
      to = after n.0;
      next = st.next;
      is =
          subst (λ i. IsMove (b ∷ a ∷ []) (states t) (filters t) l.0 i x.output x.weight (states (after n.0)) (filters (after n.0))) (sym st.input)
          (subst (λ o. IsMove (b ∷ a ∷ []) (states t) (filters t) l.0 n.0.input o x.weight (states (after n.0)) (filters (after n.0))) (sym st.output)
          (subst (λ w. IsMove (b ∷ a ∷ []) (states t) (filters t) l.0 n.0.input n.0.output w (states (after n.0)) (filters (after n.0))) (sym st.weight) l.1));
    }

-- the arc of a move
pub record ArcOf (keys : List Triple) (row : List Arc) (i o w : ℕ) (rs : List ℕ) (gs : List Filter) : Type 0 where
  pub place : ℕ
  pub arc : Arc
  pub is : slice_get row place ≡ Some arc
  pub input : i ≡ arc.input
  pub output : o ≡ arc.output
  pub weight : w ≡ arc.weight
  pub to : Triple
  pub next : slice_get keys arc.next ≡ Some to
  pub states : rs ≡ states to
  pub filters : gs ≡ filters to

module _ (a b : Machine) (keys : List Triple) (m : Machine) (num : Numbers a b keys m) where
  pub composed_of : {s : ℕ} {ks x y : List ℕ} {w : ℕ} → Path m s ks x y w → (t : Triple) → slice_get keys s ≡ Some t → (cs : List Combination) × ComposedPath (b ∷ a ∷ []) (states t) (filters t) cs x y w
  composed_of (stop {s} {w} h) t e =
      let f = finals_of (final_of a.finals t.qa) (final_of b.finals t.qb) w (sym (num.ends s t e) ∙ h) in
      ([], subst (λ n. ComposedPath (b ∷ a ∷ []) (states t) (filters t) [] [] [] n) f.weight (end (both_end (only_ends f.first) f.second)))
  composed_of (step {s} {k} {a = x} h path) t e =
      let v = move_in a b keys t (get_or m.arcs s []) k x (num.rows s t e) h in
      let r = composed_of path v.to v.next in
      (v.combination ∷ r.0, go v.is r.1)

  pub arc_of : (s : ℕ) (t : Triple) {c : Combination} {i o w : ℕ} {rs : List ℕ} {gs : List Filter} → slice_get keys s ≡ Some t → IsMove (b ∷ a ∷ []) (states t) (filters t) c i o w rs gs → ArcOf keys (get_or m.arcs s []) i o w rs gs
  arc_of s t e mv =
      let l = listing a b mv in
      let r = num.rows s t e in
      let k = permuted (moves_from a b t) r.moves l.move r.all l.among in
      let x = beside r.moves (get_or m.arcs s []) k.0 l.move (sym r.arcs.count) k.1 in
      let st = r.arcs.each k.0 l.move x.0 k.1 x.1 in
      record {
        place = k.0;
        arc = x.0;
        is = x.1;
        input = l.input ∙ sym st.input;
        output = l.output ∙ sym st.output;
        weight = l.weight ∙ sym st.weight;
        to = after l.move;
        next = st.next;
        states = l.states;
        filters = l.filters;
      }

  on_path : {s i o w v : ℕ} {rs : List ℕ} {gs : List Filter} {x y : List ℕ} → (r : ArcOf keys (get_or m.arcs s []) i o w rs gs) → (ks : List ℕ) → Path m r.arc.next ks x y v → Path m s (r.place ∷ ks) (label i x) (label o y) (w + v)
  on_path {s} {i} {o} {w} {v} {x} {y} r ks p =
      subst (λ t. Path m s (r.place ∷ ks) (label t x) (label o y) (w + v)) (sym r.input)
      (subst (λ t. Path m s (r.place ∷ ks) (label r.arc.input x) (label t y) (w + v)) (sym r.output)
      (subst (λ t. Path m s (r.place ∷ ks) (label r.arc.input x) (label r.arc.output y) (t + v)) (sym r.weight) (step r.is p)))

  ends_at : {qa qb w : ℕ} {f : Filter} → Ends (b ∷ a ∷ []) (qb ∷ qa ∷ []) (f ∷ []) w → end_of a b (record { qa = qa; qb = qb; filter = f }) ≡ Some w
  ends_at {qa} {qb} (both_end {v} (only_ends {w} h) g) = ap (λ o. both_final o (final_of b.finals qb)) h ∙ ap (both_final (Some w)) g

  pub path_of : {qs : List ℕ} {fs : List Filter} {cs : List Combination} {x y : List ℕ} {w : ℕ} → ComposedPath (b ∷ a ∷ []) qs fs cs x y w → (s : ℕ) (t : Triple) → slice_get keys s ≡ Some t → qs ≡ states t → fs ≡ filters t → (ks : List ℕ) × Path m s ks x y w
  path_of (end {qs} {fs} {w} h) s t e q f =
      let g : Ends (b ∷ a ∷ []) (states t) (filters t) w = subst (λ n. Ends (b ∷ a ∷ []) n (filters t) w) q (subst (λ n. Ends (b ∷ a ∷ []) qs n w) f h) in
      ([], stop (num.ends s t e ∙ ends_at g))
  path_of (go {qs} {rs} {fs} {gs} {c} {cs} {i} {o} {w} {v} {x} {y} mv rest) s t e q f =
      let nv : IsMove (b ∷ a ∷ []) (states t) (filters t) c i o w rs gs = subst (λ n. IsMove (b ∷ a ∷ []) n (filters t) c i o w rs gs) q (subst (λ n. IsMove (b ∷ a ∷ []) qs n c i o w rs gs) f mv) in
      let r = arc_of s t e nv in
      let p = path_of rest r.arc.next r.to r.next r.states r.filters in
      (r.place ∷ p.0, on_path r p.0 p.1)

-- the readings of the composition
pub same_readings : (a b m : Machine) → IsComposition a b m → Same (Reads m) (Composed (Reads a) (Reads b))
same_readings a b m is x y w =
    let num : Numbers a b is.keys m = record { rows = is.rows; ends = is.ends } in (
      λ p.
          let c = composed_of a b is.keys m num p.1 (first_triple a b) is.start in
          pair ((one_to_one (b ∷ a ∷ [])).sound c.0 x y w c.1),
      λ h.
          let f = (one_to_one (b ∷ a ∷ [])).found (h.second.0 ∷ h.first.0 ∷ []) x y w (subst (λ n. Matched (b ∷ a ∷ []) (b.start ∷ a.start ∷ []) (h.second.0 ∷ h.first.0 ∷ []) x y n) (sym h.weight) (more (one h.first.1) h.second.1)) in
          path_of a b is.keys m num f.1 m.start (first_triple a b) is.start refl refl,
    )
