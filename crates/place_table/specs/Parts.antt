-- What the parts of a look and of a publishing answer, one way at a time.
use Rattle.std.specs.Prelude.{◌≡◌, ◌⊎◌, ℕ, List, ◌∷◌, Option, Some, None, All, take}
use Rattle.place_words.specs.declared.layout.TheConstants.{STATE}
use Rattle.place_words.specs.declared.view.View.{View}
use Rattle.place_words.specs.declared.view.Entry.TheVariants.{Knock}
use Rattle.place_words.specs.Places.{state_of}
use Rattle.place_words.specs.Steps.{took_shown}
use Rattle.place_table.specs.declared.answers.Found.{Found}
use Rattle.place_table.specs.declared.answers.Found.TheVariants.{Other, Claimed, Empty}
use Rattle.place_table.specs.declared.answers.Find.{Find}
use Rattle.place_table.specs.declared.answers.Find.TheVariants.{Holding, Absent}
use Rattle.place_table.specs.declared.answers.Refusal.{Refusal}
use Rattle.place_words.specs.declared.view.Entry.{Entry}
use Rattle.place_table.specs.Entries.{Adds, FewReads, reads_of, seen_from}
use Rattle.place_table.specs.Looks.{Holds, Passed}
use Rattle.place_table.specs.Publishings.{Refused}

-- no claim was found there
abbrev pub IsFree : Found → Type 0
IsFree (Other other) = Unit {0}
IsFree Empty = Unit {0}
IsFree (Claimed s) = ⊥

-- the state word of a place that is empty, or shown with no reader
abbrev pub IsAtRest : ℕ → Type 0
IsAtRest w = (w ≡ 0) ⊎ (w ≡ STATE)

-- never more than seven reads stand one after the other, whatever stands before these
abbrev pub AreFew : List Entry → Type 0
AreFew es = (m : ℕ) → FewReads 7 m es

module _ {T : Type 0} (right : T → List ℕ → Type 0) where
  -- after the knock: the seat reads on where the key is there, and else it has left
  abbrev pub Compared : List ℕ → ℕ → List ℕ → View T → View T → Option Found → Type 0
  Compared key p seven v v' None = Holds right key p seven v v' (reads_of p (seen_from 0 seven))
  Compared key p seven v v' (Some f) = IsFree f × Adds v v' (λ es. (w : ℕ) → state_of w ≡ 1 → Passed key p f (Knock p w ∷ es) × AreFew (Knock p w ∷ es))

  -- one way of a look
  abbrev pub Called : List ℕ → ℕ → List ℕ → View T → View T → Option Found → Type 0
  Called key p seven v v' None = (w : ℕ) × (state_of w ≡ 1) × Holds right key p seven v v' (Knock p w ∷ reads_of p (seen_from 0 seven))
  Called key p seven v v' (Some f) = Adds v v' (λ es. Passed key p f es × AreFew es)

-- one way of the second round: the place is taken, or there is a refusal
abbrev pub IsAgain : {T : Type 0} → ℕ → ℕ → View T → View T → Option Refusal → Type 0
IsAgain p first v v' None = (first ≡ STATE) × (v' ≡ took_shown v p STATE)
IsAgain p first v v' (Some r) = Adds v v' (Refused p first r)

-- no claim was found on any way
abbrev pub AbsentFree : Find → Type 0
AbsentFree (Holding p) = Unit {0}
AbsentFree (Absent found n) = All IsFree (take n found)
