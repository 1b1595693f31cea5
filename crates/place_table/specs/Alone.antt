-- What a seat that is the only one finds: the words f that its log left before the call.
use Rattle.std.specs.Prelude.{◌≡◌, ◌⊎◌, ℕ, ◌+◌, ◌<◌, List, length, get_or, take}
use Rattle.place_words.specs.declared.layout.TheConstants.{STATE}
use Rattle.place_words.specs.Places.{state_index, state_of, word_index}
use Rattle.place_table.specs.declared.answers.Found.{Found}
use Rattle.place_table.specs.declared.answers.Found.TheVariants.{Other, Claimed, Empty}
use Rattle.place_table.specs.declared.answers.Look.{Look}
use Rattle.place_table.specs.declared.answers.Look.TheVariants.{Shown, Absent}
use Rattle.place_table.specs.declared.answers.Publish.{Publish}
use Rattle.place_table.specs.declared.answers.Publish.TheVariants.{Published, NoPlace}
use Rattle.place_table.specs.declared.answers.Emptied.{Emptied}
use Rattle.place_table.specs.declared.answers.Emptied.TheVariants.{Done, Was}

-- a code with this key is shown at the place p
pub record KeyLeft (f : ℕ → ℕ) (p : ℕ) (key : List ℕ) : Type 0 where
  pub shown : state_of (f (state_index p)) ≡ 1
  pub same : (k : ℕ) → k < 6 → f (word_index p (k + 1)) ≡ get_or key k 0

-- the words of the place p begin with this code
abbrev pub CodeLeft : (ℕ → ℕ) → ℕ → List ℕ → Type 0
CodeLeft f p code = (k : ℕ) → k < length code → f (word_index p k) ≡ get_or code k 0

-- what is found at the place p is what was left there: never a claim
abbrev pub FoundLeft : (ℕ → ℕ) → ℕ → Found → Type 0
FoundLeft f p (Other other) = KeyLeft f p other
FoundLeft f p Empty = state_of (f (state_index p)) ≡ 0
FoundLeft f p (Claimed s) = ⊥

-- `look` answers the code at the first way that has the key, and Absent exactly where no way has it
abbrev pub LookAlone : (ℕ → ℕ) → List ℕ → List ℕ → List ℕ → Look → Type 0
LookAlone f key ways into (Shown n) = (k : ℕ) × (k < length ways) × KeyLeft f (get_or ways k 0) key × CodeLeft f (get_or ways k 0) (take n into) × ((j : ℕ) → j < k → ¬ KeyLeft f (get_or ways j 0) key)
LookAlone f key ways into (Absent found n) = (k : ℕ) → k < length ways → FoundLeft f (get_or ways k 0) (get_or found k Empty) × (¬ KeyLeft f (get_or ways k 0) key)

-- the way k is empty, and those before it have codes that no seat reads
abbrev pub FirstEmpty : (ℕ → ℕ) → List ℕ → ℕ → Type 0
FirstEmpty f ways k = (k < length ways) × (f (state_index (get_or ways k 0)) ≡ 0) × ((j : ℕ) → j < k → f (state_index (get_or ways j 0)) ≡ STATE)

-- `publish` takes the first way that is empty, and the first of all where none is: it always finds a place
abbrev pub PublishAlone : (ℕ → ℕ) → List ℕ → Publish → Type 0
PublishAlone f ways (Published p) = ((k : ℕ) × FirstEmpty f ways k × (p ≡ get_or ways k 0))
    ⊎ (((j : ℕ) → j < length ways → f (state_index (get_or ways j 0)) ≡ STATE) × (p ≡ get_or ways 0 0))
PublishAlone f ways (NoPlace refusals n) = ⊥

-- `empty_place` takes a code away where there is one
abbrev pub EmptiedAlone : (ℕ → ℕ) → ℕ → Emptied → Type 0
EmptiedAlone f p Done = f (state_index p) ≡ STATE
EmptiedAlone f p (Was w) = (w ≡ 0) × (f (state_index p) ≡ 0)
