-- What is reported of the looks for expansions that lines made: of each line, and in total.
use Rattle.std.specs.Prelude.{All, ◌≡◌, ◌≢◌, ◌==◌, ◌≤◌, ◌<◌, ℕ, ◌+◌, ◌-◌, ◌*◌, ◌/◌, ◌^◌, List, [], ◌∷◌, ◌++◌, Bool, Err, true, false, codes, length, min, if◌then◌else◌}
use Rattle.std.specs.Fmt.{decimal}
use Rattle.normaliser.specs.Lines.{Answer, IsSearched}
use Rattle.normaliser.specs.declared.faults.LineFault.TheVariants.{NoPath}
use Rattle.shared_cascade.specs.Tallies.{no_tally, with_all}
use Rattle.shared_cascade.specs.declared.tallies.Outcome.{Outcome}
use Rattle.shared_cascade.specs.declared.sweeping.Swept.{Swept}
use Rattle.shared_cascade.specs.declared.tallies.Tally.{Tally}
use Rattle.speak_words.specs.declared.asked.Settings.{Settings}

-- What came of the looks for a line that says this was counted. A line that isn't searched makes none; one that has a path, a look for each of
-- its bytes and one more.
pub record IsTallyOf (line : List ℕ) (answer : Answer) (t : Tally) : Type 0 where
  pub outcomes : List Outcome
  pub counted : t ≡ with_all outcomes no_tally
  pub unsearched : (IsSearched line → ⊥) → t ≡ no_tally
  pub looked : IsSearched line → answer ≢ Err NoPath → length line + 1 ≤ t.looks

-- so it is of each line, in order
abbrev pub AllTallied : List (List ℕ) → List Answer → List Tally → Type 0
AllTallied [] [] [] = Unit {0}
AllTallied (line ∷ lines) (answer ∷ answers) (t ∷ ts) = IsTallyOf line answer t × AllTallied lines answers ts
AllTallied _ _ _ = ⊥

-- a sum that stays at the greatest value
abbrev pub sum_of : ℕ → ℕ → ℕ
sum_of a b = min (a + b) (2 ^ 64 - 1)

abbrev pub with_tally : Tally → Tally → Tally
with_tally t u = record {
  looks = sum_of t.looks u.looks;
  shown = sum_of t.shown u.shown;
  absent = sum_of t.absent u.absent;
  published = sum_of t.published u.published;
  no_place = sum_of t.no_place u.no_place;
  wide = sum_of t.wide u.wide;
}

-- a tally, and then those of more lines
abbrev pub with_tallies : Tally → List Tally → Tally
with_tallies t [] = t
with_tallies t (u ∷ us) = with_tallies (with_tally t u) us

-- What a report of one caller alone tells: each expansion that has room in a place finds one, and so in the total. The table is empty at first, so the
-- first line that looks has a look that finds nothing.
pub record TellsAlone (tallies : List Tally) : Type 0 where
  pub no_place : All (λ t. t.no_place ≡ 0) tallies
  pub total : (with_tallies no_tally tallies).no_place ≡ 0
  pub first : (before after : List Tally) (t : Tally) → tallies ≡ before ++ t ∷ after → All (λ u. u.looks ≡ 0) before → 0 < t.looks → 0 < t.absent

-- the six numbers by twos, and a line feed
abbrev pub shown_text : Tally → List ℕ
shown_text t = codes " looks " ++ (decimal t.looks ++ (codes " shown " ++ decimal t.shown))

abbrev pub published_text : Tally → List ℕ
published_text t = codes " absent " ++ (decimal t.absent ++ (codes " published " ++ decimal t.published))

abbrev pub wide_text : Tally → List ℕ
wide_text t = codes " no_place " ++ (decimal t.no_place ++ (codes " wide " ++ (decimal t.wide ++ 10 ∷ [])))

abbrev pub numbers_text : Tally → List ℕ
numbers_text t = shown_text t ++ (published_text t ++ wide_text t)

-- of the line of this number
abbrev pub report_text : ℕ → Tally → List ℕ
report_text number t = codes "report line " ++ (decimal number ++ (codes ":" ++ numbers_text t))

-- of so many lines
abbrev pub total_text : ℕ → Tally → List ℕ
total_text count t = codes "report total: lines " ++ (decimal count ++ numbers_text t)

-- so many places were emptied, and so many not
abbrev pub sweep_text : Swept → List ℕ
sweep_text w = codes "report sweep: done " ++ (decimal w.done ++ (codes " was " ++ (decimal w.was ++ 10 ∷ [])))

-- how many batches so many lines make
abbrev pub batches_of : ℕ → ℕ
batches_of n = (n + 1023) / 1024

-- whether a report is wanted, and how many times a place is emptied, or not, beside each batch
pub record Reporting : Type 0 where
  pub wanted : Bool
  pub beside : ℕ

abbrev pub reporting_of : Settings → Reporting
reporting_of s = record { wanted = s.report; beside = s.places * s.sweep }

abbrev pub no_reporting : Reporting
no_reporting = record { wanted = false; beside = 0 }

-- how many places a sweep came by
abbrev pub swept_sum : Swept → ℕ
swept_sum w = w.done + w.was

-- what a report ends with: the total, and the sweep, if there is one
abbrev pub end_text : ℕ → ℕ → Tally → Swept → List ℕ
end_text beside count t w = total_text count t ++ (if beside == 0 then [] else sweep_text w)

-- where a report is wanted
abbrev pub if_wanted : Bool → List ℕ → List ℕ
if_wanted true text = text
if_wanted false text = []
