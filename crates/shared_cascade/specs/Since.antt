-- A caller's tally, and the part of its log that it is of.
use Rattle.std.specs.Prelude.{◌≡◌, ◌⊎◌, ℕ, List, [], ◌∷◌, ◌++◌, Option, Some, None}
use Rattle.place_words.specs.declared.view.Entry.{Entry}
use Rattle.place_words.specs.declared.view.Entry.TheVariants.{Empty}
use Rattle.state_tuples.specs.Cascades.{Cascaded}
use Rattle.shared_cascade.specs.declared.tallies.Outcome.{Outcome}
use Rattle.shared_cascade.specs.declared.tallies.Outcome.TheVariants.{Wide}
use Rattle.shared_cascade.specs.declared.tallies.Tally.{Tally}
use Rattle.shared_cascade.specs.Episodes.{Episode, Missed}
use Rattle.shared_cascade.specs.Tallies.{no_tally, with_all}

-- One part of a log, and what it came to: an episode; a look that found nothing and was followed by nothing, which is among the wide ones; or the
-- emptying of a place, which isn't counted.
abbrev pub IsPart : List Cascaded → ℕ → Option Outcome → List Entry → Type 0
IsPart cs n (Some o) es = (key : List ℕ) × (Episode cs n key o es ⊎ ((o ≡ Wide) × Missed n key es))
IsPart cs n None es = (p : ℕ) × (w : ℕ) × (es ≡ Empty p w ∷ [])

-- parts, one after the other
abbrev pub AreParts : List Cascaded → ℕ → List (Option Outcome) → List Entry → Type 0
AreParts cs n [] es = es ≡ []
AreParts cs n (x ∷ xs) es = (a : List Entry) × (b : List Entry) × IsPart cs n x a × AreParts cs n xs b × (es ≡ a ++ b)

-- what is counted of them
abbrev pub counted : List (Option Outcome) → List Outcome
counted [] = []
counted (Some o ∷ xs) = o ∷ counted xs
counted (None ∷ xs) = counted xs

-- the tally is what these entries came to
pub record IsTally (cs : List Cascaded) (n : ℕ) (es : List Entry) (t : Tally) : Type 0 where
  pub parts : List (Option Outcome)
  pub are : AreParts cs n parts es
  pub tally : t ≡ with_all (counted parts) no_tally
