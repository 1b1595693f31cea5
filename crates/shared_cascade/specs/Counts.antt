-- How many looks a log has.
use Rattle.std.specs.Prelude.{◌≡◌, ℕ, suc, ◌+◌, List, [], ◌∷◌, true, false, cond, nat_eq}
use Rattle.place_words.specs.declared.view.Entry.{Entry}
use Rattle.place_words.specs.declared.view.Entry.TheVariants.{Knock, Leave, Read, TakeEmpty, TakeShown, Write, Show, Empty}

-- How many ways of a look were left once this was done, of n ways, after m. A look ends with a hit, or once all of its ways were left.
abbrev pub left_after : ℕ → ℕ → Entry → ℕ
left_after n m (Leave p w true) = 0
left_after n m (Leave p w false) = cond (nat_eq (suc m) n) 0 (suc m)
left_after n m (Knock p w) = m
left_after n m (Read p i w) = m
left_after n m (TakeEmpty p w) = m
left_after n m (TakeShown p w) = m
left_after n m (Write p i w) = m
left_after n m (Show p w) = m
left_after n m (Empty p w) = m

-- 1 where a look ends so
abbrev pub ended_by : ℕ → ℕ → Entry → ℕ
ended_by n m (Leave p w true) = 1
ended_by n m (Leave p w false) = cond (nat_eq (suc m) n) 1 0
ended_by n m (Knock p w) = 0
ended_by n m (Read p i w) = 0
ended_by n m (TakeEmpty p w) = 0
ended_by n m (TakeShown p w) = 0
ended_by n m (Write p i w) = 0
ended_by n m (Show p w) = 0
ended_by n m (Empty p w) = 0

abbrev pub all_left : ℕ → ℕ → List Entry → ℕ
all_left n m [] = m
all_left n m (e ∷ es) = all_left n (left_after n m e) es

abbrev pub all_ended : ℕ → ℕ → List Entry → ℕ
all_ended n m [] = 0
all_ended n m (e ∷ es) = ended_by n m e + all_ended n (left_after n m e) es

-- the looks of a log, where each has n ways
abbrev pub looks_in : ℕ → List Entry → ℕ
looks_in n es = all_ended n 0 es

-- no look is in its middle
abbrev pub AreWhole : ℕ → List Entry → Type 0
AreWhole n es = all_left n 0 es ≡ 0
