-- Why the search by least cost is right.
use Rattle.std.specs.Prelude.{◌⊎◌, ℕ, ◌+◌, List, ◌++◌}
use Rattle.std.proofs.Common.{inl, inr}
use Rattle.weighted_relations.specs.Least.{Below}
use Rattle.weighted_relations.specs.Order.{below_trans, below_after, below_more}
use Rattle.weighted_relations.specs.Searches.{Entries, Edges, Reach, here, on, Under, UnderAny, Kept}

pub under_more : {A : Type 0} (F : Entries A) (n : A) (v w : ℕ) (x y : List ℕ) → Below v x w y → Under F n v x → Under F n w y
under_more F n v w x y h u = record { weight = u.weight; output = u.output; entry = u.entry; below = below_trans u.weight v w u.output x y u.below h }

module _ {A : Type 0} (E : Edges A) (s : A) (done waiting : Entries A) (kept : Kept E s done waiting) where
  -- wherever one can come, it is settled at no greater cost, or something that waits is no greater
  pub met : {n : A} {w : ℕ} {y : List ℕ} → Reach E s n w y → Under done n w y ⊎ UnderAny waiting w y
  met here = elim kept.start [ inl u ↦ inl u | inr u ↦ inr (record { node = s; under = u }) ]
  met (on {n} {m} {w} {u} {y} {z} way edge) =
      elim (met way) [
        | inl d ↦
            let least : Below (d.weight + u) (d.output ++ z) (w + u) (y ++ z) = below_after d.weight w u d.output y z d.below in
            elim (kept.edges n m d.weight u d.output z d.entry edge) [
              | inl k ↦ inl (under_more done m (d.weight + u) (w + u) (d.output ++ z) (y ++ z) least k)
              | inr k ↦ inr (record { node = m; under = under_more waiting m (d.weight + u) (w + u) (d.output ++ z) (y ++ z) least k })
            ]
        | inr f ↦ inr (record { node = f.node; under = under_more waiting f.node w (w + u) y (y ++ z) (below_more w u y z) f.under })
      ]

  -- the least that waits is the least way to its node, where this isn't settled
  pub answer : (g : A) (w : ℕ) (y : List ℕ) → ((v : ℕ) (x : List ℕ) → done g v x → ⊥) → ((n : A) (v : ℕ) (x : List ℕ) → waiting n v x → Below w y v x) → (v : ℕ) (x : List ℕ) → Reach E s g v x → Below w y v x
  answer g w y fresh least v x way =
      elim (met way) [
        | inl d ↦ absurd (fresh d.weight d.output d.entry)
        | inr f ↦ below_trans w f.under.weight v y f.under.output x (least f.node f.under.weight f.under.output f.under.entry) f.under.below
      ]

  -- where nothing waits, there is no way to a node that isn't settled
  pub none : (g : A) → ((v : ℕ) (x : List ℕ) → done g v x → ⊥) → ((n : A) (v : ℕ) (x : List ℕ) → waiting n v x → ⊥) → (v : ℕ) (x : List ℕ) → Reach E s g v x → ⊥
  none g fresh empty v x way =
      elim (met way) [ inl d ↦ fresh d.weight d.output d.entry | inr f ↦ empty f.node f.under.weight f.under.output f.under.entry ]
