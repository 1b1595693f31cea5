-- What a sweep adds to the log of a caller's seat, and what it counts.
use Rattle.std.specs.Prelude.{◌≡◌, ℕ, zero, suc, ◌+◌, List, [], ◌∷◌, ◌++◌, cond, length, nat_eq}
use Rattle.place_words.specs.declared.layout.TheConstants.{STATE}
use Rattle.place_words.specs.declared.view.Entry.{Entry}
use Rattle.place_words.specs.Seats.{view_of}
use Rattle.shared_cascade.specs.declared.callers.Caller.{Caller}
use Rattle.shared_cascade.specs.declared.shared.Shared.{Shared}
use Rattle.shared_cascade.specs.declared.sweeping.Swept.{Swept}
use Rattle.shared_cascade.specs.Callers.{IsReady, log_before, log_of, looks_of}
use Rattle.place_words.specs.declared.view.Entry.TheVariants.{Knock, Leave, Read, TakeEmpty, TakeShown, Write, Show, Empty}

-- places are tried in order from p on, and these words found
abbrev pub empties : ℕ → List ℕ → List Entry
empties p [] = []
empties p (w ∷ ws) = Empty p w ∷ empties (p + 1) ws

-- each of n places once, in order
abbrev pub IsRound : ℕ → List Entry → Type 0
IsRound n es = (words : List ℕ) × (length words ≡ n) × (es ≡ empties 0 words)

-- so many rounds
abbrev pub AreRounds : ℕ → ℕ → List Entry → Type 0
AreRounds n zero es = es ≡ []
AreRounds n (suc k) es = (a : List Entry) × (b : List Entry) × AreRounds n k a × IsRound n b × (es ≡ a ++ b)

-- how many places were made empty, and how many not
abbrev pub done_in : List Entry → ℕ
done_in [] = 0
done_in (Empty p w ∷ es) = cond (nat_eq w STATE) 1 0 + done_in es
done_in (Knock p w ∷ es) = done_in es
done_in (Leave p w hit ∷ es) = done_in es
done_in (Read p i w ∷ es) = done_in es
done_in (TakeEmpty p w ∷ es) = done_in es
done_in (TakeShown p w ∷ es) = done_in es
done_in (Write p i w ∷ es) = done_in es
done_in (Show p w ∷ es) = done_in es

abbrev pub was_in : List Entry → ℕ
was_in [] = 0
was_in (Empty p w ∷ es) = cond (nat_eq w STATE) 0 1 + was_in es
was_in (Knock p w ∷ es) = was_in es
was_in (Leave p w hit ∷ es) = was_in es
was_in (Read p i w ∷ es) = was_in es
was_in (TakeEmpty p w ∷ es) = was_in es
was_in (TakeShown p w ∷ es) = was_in es
was_in (Write p i w ∷ es) = was_in es
was_in (Show p w ∷ es) = was_in es

-- the caller c has become d: these entries are all that came into its log, and what they found was counted, but not in its tally
pub record SweptBy (s : Shared) (c d : Caller) (es : List Entry) (old new : Swept) : Type 0 where
  pub ready : IsReady s d
  pub view : view_of d.seat ≡ record (view_of c.seat) { log = log_of c ++ es }
  pub done : new.done ≡ old.done + done_in es
  pub was : new.was ≡ old.was + was_in es
  pub looks : looks_of s d ≡ looks_of s c
  pub tally : d.tally ≡ c.tally
  pub before : log_before d ≡ log_before c

abbrev pub nothing_swept : Swept
nothing_swept = record { done = 0; was = 0 }
