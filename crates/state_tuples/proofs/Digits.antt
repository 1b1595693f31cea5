-- The digits of a number.
use Rattle.std.specs.Prelude.{◌≡◌, ◌<◌, ℕ, ◌+◌, ◌*◌, ◌/◌, ◌%◌}
use Rattle.std.proofs.Common.{sym, ◌∙◌, ap}
use Rattle.std.proofs.lemmas.Nat.{div-mul-add, mod-mul-add}

-- the digits again
pub same_digits : (a n b a' b' : ℕ) → b < n → b' < n → a * n + b ≡ a' * n + b' → (a ≡ a') × (b ≡ b')
same_digits a n b a' b' l l' e = (
  sym (div-mul-add a n b l) ∙ (ap (λ t. t / n) e ∙ div-mul-add a' n b' l'),
  sym (mod-mul-add a n b l) ∙ (ap (λ t. t % n) e ∙ mod-mul-add a' n b' l'),
)
