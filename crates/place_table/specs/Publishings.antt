-- A publishing of a code: what it adds to the log of a seat, and what it answers.
-- On the ways of the code's key in order the seat tries to take an empty place. If none is empty, it tries those ways again,
-- in order, where a code was shown and no seat read it: there the state word was 2^32. The first place that it takes is filled
-- with the words of the code and shown, and no other is tried after that.
use Rattle.std.specs.Prelude.{◌≡◌, ◌≢◌, ◌⊎◌, ℕ, ◌+◌, ◌<◌, ◌≤◌, List, [], ◌∷◌, ◌++◌, length, get_or, take, All}
use Rattle.place_words.specs.declared.layout.TheConstants.{STATE}
use Rattle.place_words.specs.declared.view.Entry.{Entry}
use Rattle.place_words.specs.declared.view.Entry.TheVariants.{TakeEmpty, TakeShown}
use Rattle.place_words.specs.Places.{state_of, count_of}
use Rattle.place_table.specs.declared.answers.Publish.{Publish}
use Rattle.place_table.specs.declared.answers.Publish.TheVariants.{Published, NoPlace}
use Rattle.place_table.specs.declared.answers.Refusal.{Refusal}
use Rattle.place_table.specs.declared.answers.Refusal.TheVariants.{Claimed, Held, Changed}
use Rattle.place_table.specs.Entries.{fills}

-- these ways were tried for an empty place, and these words found
abbrev pub tries_of : List ℕ → List ℕ → List Entry
tries_of (p ∷ ps) (w ∷ ws) = TakeEmpty p w ∷ tries_of ps ws
tries_of [] ws = []
tries_of (p ∷ ps) [] = []

-- and none was empty
pub record NoneEmpty (ways words : List ℕ) (es : List Entry) : Type 0 where
  pub count : length words ≡ length ways
  pub full : All (λ w. w ≢ 0) words
  pub entries : es ≡ tries_of ways words

-- why a way was refused, by the first and the last word that were found there
abbrev pub IsRefusal : ℕ → ℕ → Refusal → Type 0
IsRefusal first last (Claimed s) = state_of last ≡ 2 + s
IsRefusal first last (Held n) = (state_of last < 2) × (count_of last ≡ n) × (0 < n)
IsRefusal first last (Changed a b) = (first ≡ STATE) × (last ≡ 0) × (a ≡ first) × (b ≡ last)

-- The way p, where this word was found first, is tried a second time if that word is 2^32, and another word is found then.
abbrev pub Refused : ℕ → ℕ → Refusal → List Entry → Type 0
Refused p first r es = ((first ≢ STATE) × IsRefusal first first r × (es ≡ []))
    ⊎ ((first ≡ STATE) × ((last : ℕ) × (last ≢ STATE) × IsRefusal first last r × (es ≡ TakeShown p last ∷ [])))

-- so were these ways, in order
abbrev pub AllRefused : List ℕ → List ℕ → List Refusal → List Entry → Type 0
AllRefused [] [] [] es = es ≡ []
AllRefused (p ∷ ps) (w ∷ ws) (r ∷ rs) es = (a : List Entry) × (b : List Entry) × Refused p w r a × AllRefused ps ws rs b × (es ≡ a ++ b)
AllRefused [] [] (r ∷ rs) es = ⊥
AllRefused [] (w ∷ ws) rs es = ⊥
AllRefused (p ∷ ps) [] rs es = ⊥
AllRefused (p ∷ ps) (w ∷ ws) [] es = ⊥

-- the way k, which is the place p, was empty, and none before it; it was taken and filled
pub record TookEmpty (code ways : List ℕ) (p : ℕ) (es : List Entry) : Type 0 where
  pub k : ℕ
  pub words : List ℕ
  pub before : List Entry
  pub w : ℕ
  pub within : k < length ways
  pub at : get_or ways k 0 ≡ p
  pub full : NoneEmpty (take k ways) words before
  pub entries : es ≡ before ++ TakeEmpty p 0 ∷ fills p code w

-- in the second round, after these words in the first, the way k was taken and filled, and none before it
pub record TookShown (code ways words : List ℕ) (p : ℕ) (es : List Entry) : Type 0 where
  pub k : ℕ
  pub refusals : List Refusal
  pub before : List Entry
  pub w : ℕ
  pub within : k < length ways
  pub at : get_or ways k 0 ≡ p
  pub shown : get_or words k 0 ≡ STATE
  pub refused : AllRefused (take k ways) (take k words) refusals before
  pub entries : es ≡ before ++ TakeShown p STATE ∷ fills p code w

-- in the second round each of the n ways was refused; past them there is Held(0)
pub record TookNone (ways words : List ℕ) (refusals : List Refusal) (n : ℕ) (es : List Entry) : Type 0 where
  pub count : n ≡ length ways
  pub refused : AllRefused ways words (take n refusals) es
  pub past : (k : ℕ) → n ≤ k → k < 4 → get_or refusals k (Held 0) ≡ Held 0

-- what the second round answers
abbrev pub IsSecond : List ℕ → List ℕ → List ℕ → Publish → List Entry → Type 0
IsSecond code ways words (Published p) es = TookShown code ways words p es
IsSecond code ways words (NoPlace refusals n) es = TookNone ways words refusals n es

-- a first round that took no place, and then a second
pub record TwoRounds (code ways : List ℕ) (answer : Publish) (es : List Entry) : Type 0 where
  pub words : List ℕ
  pub first : List Entry
  pub second : List Entry
  pub full : NoneEmpty ways words first
  pub again : IsSecond code ways words answer second
  pub entries : es ≡ first ++ second

-- what `publish` answers
abbrev pub IsPublish : List ℕ → List ℕ → Publish → List Entry → Type 0
IsPublish code ways (Published p) es = TookEmpty code ways p es ⊎ TwoRounds code ways (Published p) es
IsPublish code ways (NoPlace refusals n) es = TwoRounds code ways (NoPlace refusals n) es
