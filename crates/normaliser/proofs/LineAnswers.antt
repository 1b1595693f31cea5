-- What a line is classified as, by what is found of it.
use Rattle.std.proofs.Common.{◌≡◌, ◌<◌, ◌≤◌, ℕ, List, [], ◌∷◌, None, Some, Ok, Err, Vec, length, refl, subst, sym, arith}
use Rattle.std.specs.declared.alloc.Global.{Global}
use Rattle.weighted_relations.specs.Relations.{Relation}
use Rattle.normaliser.specs.Lines.{Classified, HasNoZero, IsSaid, IsSearched, empty, nul_byte, long_line, no_path, found}
use Rattle.normaliser.specs.Parts.{IsOutput, IsUnsearched}
use Rattle.normaliser.specs.declared.faults.LineFault.{LineFault}
use Rattle.normaliser.specs.declared.faults.LineFault.TheVariants.{NulByte, LongLine, NoPath, NotTokens, TooManyFields, NoWords, Memory}

pub nothing : (line : List ℕ) → length line ≡ 0 → line ≡ []
nothing [] n = refl
nothing (b ∷ line) n = absurd (omega (arith, n))

module _ (C : Relation) (line : List ℕ) where
  pub empty_classified : (y : List ℕ) → line ≡ [] → y ≡ [] → Classified C line (Ok y)
  empty_classified y e f = subst (λ t. Classified C line (Ok t)) (sym f) (empty e)

  pub unsearched_said : (fault : LineFault) → IsUnsearched line fault → IsSaid (Classified C) line (Err fault)
  unsearched_said (NulByte at) h = nul_byte at h
  unsearched_said LongLine h = long_line h.0 h.1
  unsearched_said NoPath h = absurd h
  unsearched_said (NotTokens n) h = absurd h
  unsearched_said (TooManyFields n) h = absurd h
  unsearched_said (NoWords n) h = absurd h
  unsearched_said Memory h = absurd h

pub searched : (line : List ℕ) → (line ≡ [] → ⊥) → HasNoZero line → length line ≤ 16384 → IsSearched line
searched [] some clean short = absurd (some refl)
searched (b ∷ line) some clean short = record { some = (let h : 0 < length (b ∷ line) = omega arith in h); no_zero = clean; short = short }

module _ (C : Relation) (line : List ℕ) (some : line ≡ [] → ⊥) (clean : HasNoZero line) (short : length line ≤ 16384) where
  pub found_classified : (y : Vec ℕ Global) → IsOutput C (λ x. x ≡ line) (Some y) → Classified C line (Ok y.items)
  found_classified y h = found y.items (record { searched = searched line some clean short; weight = h.0; least = h.1 })

  pub lost_classified : IsOutput C (λ x. x ≡ line) None → Classified C line (Err NoPath)
  lost_classified h = no_path (searched line some clean short) h
