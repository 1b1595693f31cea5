-- What a caller's calls add to the log of its seat: one episode each.
use Rattle.std.specs.Prelude.{◌≡◌, ℕ, List, [], ◌∷◌, ◌++◌}
use Rattle.place_words.specs.declared.view.Entry.{Entry}
use Rattle.place_words.specs.declared.view.Read.{Read}
use Rattle.place_table.specs.declared.answers.Found.{Found}
use Rattle.place_table.specs.declared.answers.Refusal.{Refusal}
use Rattle.place_table.specs.declared.answers.Publish.TheVariants.{Published as IsAt, NoPlace as IsNowhere}
use Rattle.place_table.specs.Looks.{AbsentLook, ShownLook, key_in}
use Rattle.place_table.specs.Publishings.{IsPublish}
use Rattle.place_table.specs.Ways.{ways}
use Rattle.state_tuples.specs.Cascades.{Cascaded}
use Rattle.shared_cascade.specs.declared.tallies.Outcome.{Outcome}
use Rattle.shared_cascade.specs.declared.tallies.Outcome.TheVariants.{Shown, Published, NoPlace, Wide}
use Rattle.shared_cascade.specs.RightCodes.{IsRight, IsWide}

-- a look for the key that went through all ways and did not find it
abbrev pub Missed : ℕ → List ℕ → List Entry → Type 0
Missed n key es = (found : List Found) × (count : ℕ) × AbsentLook key (ways key n) found count es

-- a publishing of the right code with this key
abbrev pub Placed : List Cascaded → ℕ → List ℕ → List Entry → Type 0
Placed cs n key es = (code : List ℕ) × IsRight cs code × (key_in code ≡ key) × ((p : ℕ) × IsPublish code (ways key n) (IsAt p) es)

-- the same where each way refused it
abbrev pub NotPlaced : List Cascaded → ℕ → List ℕ → List Entry → Type 0
NotPlaced cs n key es = (code : List ℕ) × IsRight cs code × (key_in code ≡ key) × ((refusals : List Refusal) × (count : ℕ) × IsPublish code (ways key n) (IsNowhere refusals count) es)

-- first entries of one kind, then of another
abbrev pub Joined : (List Entry → Type 0) → (List Entry → Type 0) → List Entry → Type 0
Joined First Second es = (a : List Entry) × (b : List Entry) × First a × Second b × (es ≡ a ++ b)

-- what follows a look that found nothing, where the expansion was made
abbrev pub Made : List Cascaded → ℕ → List ℕ → Outcome → List Entry → Type 0
Made cs n key Shown es = ⊥
Made cs n key Published es = Placed cs n key es
Made cs n key NoPlace es = NotPlaced cs n key es
Made cs n key Wide es = IsWide cs key × (es ≡ [])

-- An episode for a key, among n places: a look that is Shown; or one that is Absent, and then a publishing of the right code with this
-- key; or one that is Absent alone, where that code has no room in a place.
abbrev pub Episode : List Cascaded → ℕ → List ℕ → Outcome → List Entry → Type 0
Episode cs n key Shown es = (p : ℕ) × (rs : List Read) × ShownLook key (ways key n) p rs es
Episode cs n key Published es = Joined (Missed n key) (Placed cs n key) es
Episode cs n key NoPlace es = Joined (Missed n key) (NotPlaced cs n key) es
Episode cs n key Wide es = Missed n key es × IsWide cs key

-- episodes, one after the other, and what they came to
abbrev pub Episodes : List Cascaded → ℕ → List Outcome → List Entry → Type 0
Episodes cs n [] es = es ≡ []
Episodes cs n (o ∷ os) es = (key : List ℕ) × (a : List Entry) × (b : List Entry) × Episode cs n key o a × Episodes cs n os b × (es ≡ a ++ b)
