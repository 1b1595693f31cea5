-- Readings with an empty input are those of paths whose arcs all read nothing.
use Rattle.std.proofs.Common.{◌≡◌, ℕ, zero, suc, ◌+◌, ◌<◌, ◌≤◌, List, [], length, Option, Some, None, true, false, true≢false, refl, sym, ◌∙◌, ap, subst, inl, inr, arith}
use Rattle.std.specs.Prelude.{slice_get}
use Rattle.std.specs.Option.{is_some}
use Rattle.std.proofs.lemmas.Bool.{cases_lt}
use Rattle.std.proofs.lemmas.Option.{slice_get_within}
use Rattle.weighted_relations.specs.Relations.{IsInput}
use Rattle.weighted_relations.specs.Graphs.{stop, step, label}
use Rattle.weighted_relations.specs.Machines.{Machine, Path, From, Reads, final_of}
use Rattle.fst_core.specs.declared.search.Follow.TheVariants.{EmptyInput}
use Rattle.fst_core.specs.Reach.{Leads, here, on, Found, Reached}
use Rattle.fst_core.proofs.Regions.{go}
use Rattle.fst_core.proofs.Searches.{contains_from, contains_at}

led_back : (m : Machine) {u s : ℕ} → Leads m EmptyInput u s → (y : List ℕ) (w : ℕ) → From m s [] y w → (z : List ℕ) × (v : ℕ) × From m u [] z v
led_back m here y w r = (y, w, r)
led_back m (on {t} k a lead h is) y w r = led_back m lead (label a.output y) (a.weight + w) (subst (λ n. From m t (label n []) (label a.output y) (a.weight + w)) is (go m t k a h r))

pub read_there : (m : Machine) (f : Found) (i s w : ℕ) → Reached m EmptyInput f → slice_get f.states i ≡ Some s → final_of m.finals s ≡ Some w → IsInput (Reads m) []
read_there m f i s w reached at h = led_back m ((reached.states s).0 (contains_from f.states i s at)) [] w ([], stop h)

label_nil : (n : ℕ) (x : List ℕ) → label n x ≡ [] → (n ≡ 0) × (x ≡ [])
label_nil zero x e = (refl, e)
label_nil (suc n) x e = absurd (cc)

-- where a path that reads nothing ends
ends_at : (m : Machine) (u : ℕ) {s : ℕ} {ks x y : List ℕ} {w : ℕ} → Path m s ks x y w → x ≡ [] → Leads m EmptyInput u s → (t : ℕ) × (f : ℕ) × Leads m EmptyInput u t × (final_of m.finals t ≡ Some f)
ends_at m u (stop {s} {w} h) e lead = (s, w, lead, h)
ends_at m u (step {s} {k} {a} {x} h path) e lead = let q = label_nil a.input x e in ends_at m u path q.1 (on k a lead h q.0)

-- none of the first k states that were found is final
abbrev pub NoneFinal : Machine → List ℕ → ℕ → Type 0
NoneFinal m states k = (i s : ℕ) → i < k → slice_get states i ≡ Some s → final_of m.finals s ≡ None

pub none_more : (m : Machine) (states : List ℕ) (k s : ℕ) → NoneFinal m states k → slice_get states k ≡ Some s → final_of m.finals s ≡ None → NoneFinal m states (k + 1)
none_more m states k s had at last i t l h = elim (cases_lt i k) [
  | inl low ↦ had i t low h
  | inr high ↦
      let e : i ≡ k = omega arith in
      let q : Some s ≡ Some t = sym at ∙ ap (slice_get states) (sym e) ∙ h in
      let same : s ≡ t = cc in
      ap (final_of m.finals) (sym same) ∙ last
]

pub not_read : (m : Machine) (f : Found) (k : ℕ) → Reached m EmptyInput f → length f.states ≤ k → NoneFinal m f.states k → IsInput (Reads m) [] → ⊥
not_read m f k reached l none (y, w, (ks, path)) =
    let q = ends_at m m.start path refl here in
    let at = contains_at f.states q.0 ((reached.states q.0).1 q.2) in
    let within : at.0 < length f.states = slice_get_within f.states at.0 q.0 at.1 in
    let e : None ≡ Some q.1 = sym (none at.0 q.0 (omega arith) at.1) ∙ q.3 in
    cc

pub some_is : (o : Option ℕ) → is_some o ≡ true → (w : ℕ) × (o ≡ Some w)
some_is None h = absurd (true≢false (sym h))
some_is (Some w) h = (w, refl)

pub none_is : (o : Option ℕ) → is_some o ≡ false → o ≡ None
none_is None h = refl
none_is (Some w) h = absurd (true≢false h)
