-- Marks of live states, one state at a time.
use Rattle.std.proofs.Common.{◌≡◌, ◌⊎◌, ℕ, zero, suc, ◌+◌, List, [], ◌∷◌, ◌++◌, length, Bool, false, refl, sym, ap, subst, ◌∙◌, inl, inr, true≢false}
use Rattle.std.proofs.lemmas.List.{length_push}
use Rattle.acceptor_ops.specs.Tables.{Table}
use Rattle.rewrite_rules.specs.PartsOf.{live_at, IsDead}

-- the first k states that are not marked as live are dead
pub record LiveTo (d : Table) (k : ℕ) (live : List Bool) : Type 0 where
  pub count : length live ≡ k
  pub dead : (s : ℕ) → live_at live s ≡ false → IsDead d s

pub live_none : (d : Table) → LiveTo d 0 []
live_none d = record { count = refl; dead = λ s h. absurd (true≢false h) }

push_cases : (live : List Bool) (b : Bool) (s : ℕ) → live_at (live ++ b ∷ []) s ≡ false → (live_at live s ≡ false) ⊎ ((s ≡ length live) × (b ≡ false))
push_cases [] b zero h = inr (refl, h)
push_cases [] b (suc s) h = absurd (true≢false h)
push_cases (l ∷ live) b zero h = inl h
push_cases (l ∷ live) b (suc s) h = elim (push_cases live b s h) [ inl e ↦ inl e | inr e ↦ inr (ap suc e.0, e.1) ]

pub live_more : (d : Table) (k : ℕ) (live : List Bool) (b : Bool) → LiveTo d k live → (b ≡ false → IsDead d k) → LiveTo d (k + 1) (live ++ b ∷ [])
live_more d k live b had is = record {
  count = length_push live b ∙ ap (λ n. n + 1) had.count;
  dead = λ s h. elim (push_cases live b s h) [
    | inl e ↦ had.dead s e
    | inr e ↦ subst (IsDead d) (sym (e.0 ∙ had.count)) (is e.1)
  ];
}
