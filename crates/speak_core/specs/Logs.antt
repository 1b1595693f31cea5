-- What the logs of a run's callers tell.
use Rattle.std.specs.Prelude.{◌≡◌, ℕ, All, List, [], ◌∷◌, ◌++◌}
use Rattle.place_words.specs.declared.view.Entry.{Entry}
use Rattle.state_tuples.specs.Cascades.{Cascaded}
use Rattle.shared_cascade.specs.Callers.{cascades_in, log_of, seats_of}
use Rattle.shared_cascade.specs.Episodes.{Episodes}
use Rattle.shared_cascade.specs.Sweeps.{AreRounds, done_in, was_in}
use Rattle.shared_cascade.specs.Tallies.{no_tally, with_all}
use Rattle.shared_cascade.specs.declared.callers.Caller.{Caller}
use Rattle.shared_cascade.specs.declared.sweeping.Swept.{Swept}
use Rattle.shared_cascade.specs.declared.tallies.Outcome.{Outcome}
use Rattle.shared_cascade.specs.declared.tallies.Tally.{Tally}
use Rattle.normaliser.specs.Searches.{places_of}
use Rattle.normaliser.specs.declared.normalisers.Normaliser.{Normaliser}

-- The entries are one part after the other, each of them episodes, and each tally is of its part.
abbrev pub AreTallies : List Cascaded → ℕ → List Tally → List Entry → Type 0
AreTallies cs n [] es = es ≡ []
AreTallies cs n (t ∷ ts) es = (os : List Outcome) × (a : List Entry) × (b : List Entry) × Episodes cs n os a × (t ≡ with_all os no_tally) × AreTallies cs n ts b × (es ≡ a ++ b)

-- where no other seat was opened, a place was found for each expansion that has room in one
abbrev pub FindsPlaces : Caller → List Tally → Type 0
FindsPlaces c ts = seats_of c ≡ 1 → All (λ t. t.no_place ≡ 0) ts

-- The caller c has become d: all that came into its log are the parts of these tallies.
pub record Grows (n : Normaliser) (c d : Caller) (ts : List Tally) : Type 0 where
  pub entries : List Entry
  pub parts : AreTallies (cascades_in n.shared) (places_of n) ts entries
  pub log : log_of d ≡ log_of c ++ entries
  pub places : FindsPlaces c ts

-- all that came into its log are so many rounds over the places, and this is what they found
pub record GrowsBySweep (n : Normaliser) (c d : Caller) (count : ℕ) (found : Swept) : Type 0 where
  pub entries : List Entry
  pub rounds : AreRounds (places_of n) count entries
  pub log : log_of d ≡ log_of c ++ entries
  pub done : found.done ≡ done_in entries
  pub was : found.was ≡ was_in entries
