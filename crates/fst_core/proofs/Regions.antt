-- The readings from the states of a region.
use Rattle.std.proofs.Common.{◌≡◌, ℕ, zero, suc, ◌+◌, ◌<◌, ◌⊎◌, List, [], ◌∷◌, ◌++◌, length, get_or, Option, Some, None, refl, sym, ◌∙◌, ap, subst, inl, inr, add_assoc, arith, zero-add}
use Rattle.std.proofs.Math.Nat.{suc-add}
use Rattle.std.specs.Prelude.{map, slice_get}
use Rattle.fst_core.specs.declared.builder.Kept.{Kept}
use Rattle.fst_core.specs.declared.builder.Kept.TheVariants.{Input, Output, Neither}
use Rattle.weighted_relations.specs.declared.Arc.{Arc}
use Rattle.weighted_relations.specs.Relations.{Relation, Same, Is, Joined}
use Rattle.weighted_relations.specs.Graphs.{stop, step, label}
use Rattle.weighted_relations.specs.Machines.{Machine, Path, IsArc, From, final_of}
use Rattle.fst_core.specs.Placed.{taken, all_taken, placed_arc, empty_arc, exit_arcs, placed_row, Region, Picked, Ends}

-- a reading under equal names
pub retag : (m : Machine) (s : ℕ) {x x' y y' : List ℕ} {w w' : ℕ} → x ≡ x' → y ≡ y' → w ≡ w' → From m s x y w → From m s x' y' w'
retag m s {x} {x'} {y} {y'} {w} {w'} ex ey ew h = subst (λ v. From m s x' y' v) ew (subst (λ b. From m s x' b w) ey (subst (λ a. From m s a y w) ex h))

-- one more arc
pub go : (m : Machine) (s i : ℕ) (a : Arc) {x y : List ℕ} {w : ℕ} → IsArc m.arcs s i a → From m a.next x y w → From m s (label a.input x) (label a.output y) (a.weight + w)
go m s i a h r = (i ∷ r.0, step h r.1)

pub label_taken : (b : Kept) (n m : ℕ) (x y z : List ℕ) → label (taken b n m) (all_taken b x y ++ z) ≡ all_taken b (label n x) (label m y) ++ z
label_taken Input zero m x y z = refl
label_taken Input (suc n) m x y z = refl
label_taken Output n zero x y z = refl
label_taken Output n (suc m) x y z = refl
label_taken Neither n m x y z = refl

pub none_taken : (b : Kept) (z : List ℕ) → z ≡ all_taken b [] [] ++ z
none_taken Input z = refl
none_taken Output z = refl
none_taken Neither z = refl

-- an element of a mapped list and what follows it
pub parted : {A B : Type 0} (f : A → B) (xs : List A) (ys : List B) (k : ℕ) (b : B) → slice_get (map f xs ++ ys) k ≡ Some b → ((a : A) × (slice_get xs k ≡ Some a) × (b ≡ f a)) ⊎ ((j : ℕ) × (slice_get ys j ≡ Some b))
parted f [] ys k b h = inr (k, h)
parted f (x ∷ xs) ys zero b h = inl (x, refl, cc)
parted f (x ∷ xs) ys (suc k) b h = parted f xs ys k b h

pub in_front : {A B : Type 0} (f : A → B) (xs : List A) (ys : List B) (k : ℕ) (a : A) → slice_get xs k ≡ Some a → slice_get (map f xs ++ ys) k ≡ Some (f a)
in_front f [] ys k a h = absurd (cc)
in_front f (x ∷ xs) ys zero a h = cc
in_front f (x ∷ xs) ys (suc k) a h = in_front f xs ys k a h

pub behind : {A : Type 0} (xs ys : List A) (k : ℕ) (a : A) → slice_get ys k ≡ Some a → slice_get (xs ++ ys) (length xs + k) ≡ Some a
behind [] ys k a h = rw zero-add h
behind (x ∷ xs) ys k a h = rw suc-add (behind xs ys k a h)

-- what the arcs of a region's state are
unfoldable pub RowCase : (off : ℕ) (i o : Kept) (exit : Option ℕ) (row : List Arc) (last : Option ℕ) (b : Arc) → Type 0
RowCase off i o exit row last b = ((a : Arc) × (k : ℕ) × (slice_get row k ≡ Some a) × (b ≡ placed_arc off i o a)) ⊎ ((t : ℕ) × (f : ℕ) × (exit ≡ Some t) × (last ≡ Some f) × (b ≡ empty_arc f t))

pub only_one : {A : Type 0} (a b : A) (j : ℕ) → slice_get (a ∷ []) j ≡ Some b → b ≡ a
only_one a b zero h = cc
only_one a b (suc j) h = absurd (cc)

pub row_cases : (off : ℕ) (i o : Kept) (exit : Option ℕ) (row : List Arc) (last : Option ℕ) (b : Arc) (k : ℕ) → slice_get (placed_row off i o exit row last) k ≡ Some b → RowCase off i o exit row last b
unfolding RowCase
row_cases off i o None row last b k h = elim (parted (placed_arc off i o) row [] k b h) [ inl q ↦ inl (q.0, k, q.1, q.2) | inr q ↦ absurd (cc) ]
row_cases off i o (Some t) row None b k h = elim (parted (placed_arc off i o) row [] k b h) [ inl q ↦ inl (q.0, k, q.1, q.2) | inr q ↦ absurd (cc) ]
row_cases off i o (Some t) row (Some f) b k h = elim (parted (placed_arc off i o) row (empty_arc f t ∷ []) k b h) [ inl q ↦ inl (q.0, k, q.1, q.2) | inr q ↦ inr (t, f, refl, refl, only_one (empty_arc f t) b q.0 q.1) ]

-- p's readings from a state, emptied, and then what follows
unfoldable pub Within : (p : Machine) (i o : Kept) (K : Relation) → ℕ → Relation
Within p i o K s = Joined (Picked i o (From p s)) K

-- every next state of p is a state of p
unfoldable pub Closed : Machine → Type 0
Closed p = (s k : ℕ) (a : Arc) → IsArc p.arcs s k a → a.next < length p.arcs

-- p's states stand in m from off on
unfoldable pub Stands : (m p : Machine) (off : ℕ) (i o : Kept) (exit : Option ℕ) → Type 0
Stands m p off i o exit = Region m.arcs m.finals p (length p.arcs) off i o exit

-- from a final state of p, what follows
into_end : (m p : Machine) (off : ℕ) (i o : Kept) (exit : Option ℕ) → Stands m p off i o exit → (s f : ℕ) → s < length p.arcs → final_of p.finals s ≡ Some f → (x y : List ℕ) (w : ℕ) → Ends m exit x y w → From m (off + s) x y (f + w)
unfolding Stands
into_end m p off i o None region s f l h x y w r =
    let e : w ≡ 0 = r.weight in
    let q : f ≡ f + w = omega arith in
    retag m (off + s) (sym r.input) (sym r.output) q ([], stop (region.ends s l ∙ h))
into_end m p off i o (Some t) region s f l h x y w r =
    let row : get_or m.arcs (off + s) [] ≡ placed_row off i o (Some t) (get_or p.arcs s []) (Some f) = region.rows s l ∙ ap (placed_row off i o (Some t) (get_or p.arcs s [])) h in
    let arc : IsArc m.arcs (off + s) (length (map (placed_arc off i o) (get_or p.arcs s [])) + 0) (empty_arc f t) =
    ap (λ z. slice_get z (length (map (placed_arc off i o) (get_or p.arcs s [])) + 0)) row ∙ behind (map (placed_arc off i o) (get_or p.arcs s [])) (empty_arc f t ∷ []) 0 (empty_arc f t) refl in
    go m (off + s) _ (empty_arc f t) arc r

-- p's readings, and then what follows
pub into : (m p : Machine) (off : ℕ) (i o : Kept) (exit : Option ℕ) → Stands m p off i o exit → Closed p → {s : ℕ} {ks x y : List ℕ} {w : ℕ} → Path p s ks x y w → s < length p.arcs → (x2 y2 : List ℕ) (w2 : ℕ) → Ends m exit x2 y2 w2 → From m (off + s) (all_taken i x y ++ x2) (all_taken o x y ++ y2) (w + w2)
unfolding Stands Closed
into m p off i o exit region closed (stop {s} {w} h) l x2 y2 w2 r =
    let ex = none_taken i x2 in
    let ey = none_taken o y2 in
    retag m (off + s) ex ey refl (into_end m p off i o exit region s w l h x2 y2 w2 r)
into m p off i o exit region closed (step {s} {k} {ks} {a} {x} {y} {w} h path) l x2 y2 w2 r =
    let later : From m (off + a.next) (all_taken i x y ++ x2) (all_taken o x y ++ y2) (w + w2) = into m p off i o exit region closed path (closed s k a h) x2 y2 w2 r in
    let arc : IsArc m.arcs (off + s) k (placed_arc off i o a) =
    ap (λ z. slice_get z k) (region.rows s l) ∙ in_front (placed_arc off i o) (get_or p.arcs s []) (exit_arcs exit (final_of p.finals s)) k a h in
    retag m (off + s) (label_taken i a.input a.output x y x2) (label_taken o a.input a.output x y y2) (sym (add_assoc a.weight w w2)) (go m (off + s) k (placed_arc off i o a) arc later)

-- one arc of p, and then a reading from where it leads
pub extend : (p : Machine) (i o : Kept) (K : Relation) (s k : ℕ) (a : Arc) (x y : List ℕ) (w : ℕ) → IsArc p.arcs s k a → Within p i o K a.next x y w → Within p i o K s (label (taken i a.input a.output) x) (label (taken o a.input a.output) y) (a.weight + w)
unfolding Within
extend p i o K s k a x y w h j =
    record {
      x1 = all_taken i (label a.input j.first.from_x) (label a.output j.first.from_y);
      x2 = j.x2;
      y1 = all_taken o (label a.input j.first.from_x) (label a.output j.first.from_y);
      y2 = j.y2;
      w1 = a.weight + j.w1;
      w2 = j.w2;
      input = ap (label (taken i a.input a.output)) (j.input ∙ ap (λ v. v ++ j.x2) j.first.input) ∙ label_taken i a.input a.output j.first.from_x j.first.from_y j.x2;
      output = ap (label (taken o a.input a.output)) (j.output ∙ ap (λ v. v ++ j.y2) j.first.output) ∙ label_taken o a.input a.output j.first.from_x j.first.from_y j.y2;
      weight = ap (λ v. a.weight + v) j.weight ∙ sym (add_assoc a.weight j.w1 j.w2);
      first = record { from_x = label a.input j.first.from_x; from_y = label a.output j.first.from_y; input = refl; output = refl; reads = go p s k a h j.first.reads };
      second = j.second;
    }

-- at a final state of p, and then what follows
pub ended : (p : Machine) (i o : Kept) (K : Relation) (s f : ℕ) (x y : List ℕ) (w : ℕ) → final_of p.finals s ≡ Some f → K x y w → Within p i o K s x y (f + w)
unfolding Within
ended p i o K s f x y w h r =
    record {
      x1 = all_taken i [] [];
      x2 = x;
      y1 = all_taken o [] [];
      y2 = y;
      w1 = f;
      w2 = w;
      input = none_taken i x;
      output = none_taken o y;
      weight = refl;
      first = record { from_x = []; from_y = []; input = refl; output = refl; reads = ([], stop h) };
      second = r;
    }

-- a path that ends in the region
stopped : (m p : Machine) (off : ℕ) (i o : Kept) (exit : Option ℕ) → Stands m p off i o exit → (s w : ℕ) → s < length p.arcs → final_of m.finals (off + s) ≡ Some w → Within p i o (Ends m exit) s [] [] w
unfolding Stands
stopped m p off i o None region s w l h =
    let q : w + 0 ≡ w = omega arith in
    subst (λ v. Within p i o (Is []) s [] [] v) q (ended p i o (Is []) s w [] [] 0 (sym (region.ends s l) ∙ h) (record { input = refl; output = refl; weight = refl }))
stopped m p off i o (Some t) region s w l h = let e : None ≡ Some w = sym (region.ends s l) ∙ h in absurd (cc)

pub out_of : (m p : Machine) (off : ℕ) (i o : Kept) (exit : Option ℕ) → Stands m p off i o exit → Closed p → {g : ℕ} {ks x y : List ℕ} {w : ℕ} → Path m g ks x y w → (s : ℕ) → g ≡ off + s → s < length p.arcs → Within p i o (Ends m exit) s x y w
unfolding Stands Closed RowCase
out_of m p off i o exit region closed (stop {s = g} {w} h) s e l = stopped m p off i o exit region s w l (ap (final_of m.finals) (sym e) ∙ h)
out_of m p off i o exit region closed (step {s = g} {k} {ks} {a} {x} {y} {w} h path) s e l =
    let row : slice_get (placed_row off i o exit (get_or p.arcs s []) (final_of p.finals s)) k ≡ Some a =
    sym (ap (λ z. slice_get z k) (ap (λ n. get_or m.arcs n []) e ∙ region.rows s l)) ∙ h in
    elim (row_cases off i o exit (get_or p.arcs s []) (final_of p.finals s) a k row) [
      | inl q ↦
          subst (λ (z : Arc). Within p i o (Ends m exit) s (label z.input x) (label z.output y) (z.weight + w)) (sym q.3)
          (extend p i o (Ends m exit) s q.1 q.0 x y w q.2
          (out_of m p off i o exit region closed path q.0.next (ap (λ (z : Arc). z.next) q.3) (closed s q.1 q.0 q.2)))
      | inr q ↦
          subst (λ (z : Arc). Within p i o (Ends m exit) s (label z.input x) (label z.output y) (z.weight + w)) (sym q.4)
          (ended p i o (Ends m exit) s q.1 x y w q.3
          (subst (λ v. Ends m v x y w) (sym q.2) (ks, subst (λ n. Path m n ks x y w) (ap (λ (z : Arc). z.next) q.4) path)))
    ]

-- what is read from a state of the region: what p reads there, and then what follows
pub region_reads : (m p : Machine) (off : ℕ) (i o : Kept) (exit : Option ℕ) → Stands m p off i o exit → Closed p → (s : ℕ) → s < length p.arcs → Same (From m (off + s)) (Joined (Picked i o (From p s)) (Ends m exit))
unfolding Within
region_reads m p off i o exit region closed s l x y w = (
  λ h. out_of m p off i o exit region closed h.1 s refl l,
  λ j. retag m (off + s) (sym (j.input ∙ ap (λ v. v ++ j.x2) j.first.input)) (sym (j.output ∙ ap (λ v. v ++ j.y2) j.first.output)) (sym j.weight)
      (into m p off i o exit region closed j.first.reads.1 l j.x2 j.y2 j.w2 j.second),
)
