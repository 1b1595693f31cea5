-- Which lines are whose, and which callers speak them.
use Rattle.std.specs.Prelude.{◌≡◌, ◌==◌, ◌≤◌, ◌<◌, ℕ, ◌+◌, ◌-◌, ◌*◌, ◌%◌, ◌^◌, List, [], ◌∷◌, ◌++◌, All, Some, length, map, nat_lt, slice_get, slice_index_or, slice_set, if◌then◌else◌}
use Rattle.std.specs.List.{AllZip}
use Rattle.std.specs.declared.alloc.Global.{Global}
use Rattle.std.specs.declared.collections.VecDeque.{VecDeque}
use Rattle.normaliser.specs.Lines.{Saying}
use Rattle.normaliser.specs.Searches.{IsCallerOf, KeepsSeat, places_of}
use Rattle.normaliser.specs.declared.normalisers.Normaliser.{Normaliser}
use Rattle.speak_core.specs.Parts.{answer_of, lines_of, says_of, tally_of}
use Rattle.shared_cascade.specs.Callers.{cascades_in, log_of, number_in, seats_of}
use Rattle.shared_cascade.specs.Sweeps.{AreRounds, done_in, was_in}
use Rattle.shared_cascade.specs.declared.callers.Caller.{Caller}
use Rattle.shared_cascade.specs.declared.tallies.Tally.{Tally}
use Rattle.speak_core.specs.Logs.{AreTallies, FindsPlaces, Grows, GrowsBySweep}
use Rattle.speak_core.specs.Reports.{IsTallyOf, batches_of, swept_sum}
use Rattle.shared_cascade.specs.declared.sweeping.Swept.{Swept}
use Rattle.speak_words.specs.Asked.{AreInBounds}
use Rattle.speak_words.specs.declared.asked.Settings.{Settings}
use Rattle.speak_core.specs.declared.crews.Crew.{Crew}
use Rattle.speak_core.specs.declared.batches.Heard.{Heard}
use Rattle.speak_core.specs.declared.shares.Done.{Done}
use Rattle.speak_core.specs.declared.shares.Share.{Share}
use Rattle.speak_core.specs.declared.speakers.Speaker.{Speaker}

-- a seat for each worker, and one for the sweeper where there are rounds to sweep
abbrev pub seats_for : ℕ → ℕ → ℕ
seats_for jobs sweep = if sweep == 0 then jobs else jobs + 1

-- each caller has the seat of the number that is its place, and so many were opened together
abbrev pub AreSeated : ℕ → List Caller → Type 0
AreSeated seats callers = (k : ℕ) (c : Caller) → slice_get callers k ≡ Some c → (number_in c ≡ k) × (seats_of c ≡ seats)

-- The lines of a worker, from 0, of so many: those whose number less one leaves it over. So many lines come before the first.
abbrev pub dealt : {X : Type 0} → ℕ → ℕ → ℕ → List X → List X
dealt jobs worker before [] = []
dealt jobs worker before (x ∷ xs) = if before % jobs == worker then x ∷ dealt jobs worker (before + 1) xs else dealt jobs worker (before + 1) xs

-- the list begins with these
abbrev pub BeginsWith : {X : Type 0} → List X → List X → Type 0
BeginsWith front all = (rest : List _) × (all ≡ front ++ rest)

-- the callers of a crew may be given lines, and are as many as it needs
pub record IsCrewOf (n : Normaliser) (crew : Crew) : Type 0 where
  pub callers : All (IsCallerOf n) crew.callers.items
  pub count : length crew.callers.items ≡ seats_for crew.settings.jobs crew.settings.sweep
  pub seated : AreSeated (seats_for crew.settings.jobs crew.settings.sweep) crew.callers.items
  pub bounds : AreInBounds crew.settings
  pub places : places_of n ≡ crew.settings.places

-- what a line says was heard, and what came of its looks
abbrev pub Hears : Saying → List ℕ → Heard → Type 0
Hears says line h = says line (answer_of h) × IsTallyOf line (answer_of h) (tally_of h)

-- the first of some lines were heard, or all
pub record HearsFront (says : Saying) (all : List (List ℕ)) (heard : List Heard) : Type 0 where
  pub done : List (List ℕ)
  pub left : List (List ℕ)
  pub parts : all ≡ done ++ left
  pub said : AllZip (Hears says) done heard

-- and some more were
pub record HearsMore (says : Saying) (lines : List (List ℕ)) (old new : List Heard) : Type 0 where
  pub more : List Heard
  pub said : AllZip (Hears says) lines more
  pub is : new ≡ old ++ more

-- the lines of a batch that are the worker's whose share it is
abbrev pub lines_of_share : Share → List (List ℕ)
lines_of_share share = dealt share.jobs share.worker (share.first - 1) (lines_of share.lines.now)

-- What was heard of a batch: of each worker, from 0, its own lines. So many lines come before the batch.
abbrev pub AllHear : Saying → ℕ → ℕ → List (List ℕ) → List (VecDeque Heard Global) → Type 0
AllHear says jobs before all queues = (worker : ℕ) (queue : VecDeque Heard Global) → slice_get queues worker ≡ Some queue → HearsFront says (dealt jobs worker before all) queue.items

-- the next that a worker has heard was taken
pub record Takes (worker : ℕ) (h : Heard) (old new : List (VecDeque Heard Global)) : Type 0 where
  pub before : VecDeque Heard Global
  pub after : VecDeque Heard Global
  pub at : slice_get old worker ≡ Some before
  pub next : before.items ≡ h ∷ after.items
  pub is : new ≡ slice_set old worker after

-- what a sweep found beside so many lines
abbrev pub HasSwept : Settings → ℕ → Swept → Type 0
HasSwept settings count swept = swept_sum swept ≡ settings.places * settings.sweep * batches_of count

-- where there are rounds to sweep beside a batch, it comes by so many places more
abbrev pub SweptOn : Settings → Swept → Swept → Type 0
SweptOn settings old new = swept_sum new ≡ swept_sum old + settings.places * settings.sweep

-- how many rounds a caller sweeps beside a batch: a worker none
abbrev pub rounds_of : ℕ → ℕ → ℕ → ℕ
rounds_of worker jobs sweep = if nat_lt worker jobs then 0 else sweep

-- what the worker of this number is handed for a batch
pub record IsShare (jobs sweep first : ℕ) (lines : List (List ℕ)) (worker : ℕ) (share : Share) : Type 0 where
  pub number : share.worker ≡ worker
  pub of : share.jobs ≡ jobs
  pub all : lines_of share.lines.now ≡ lines
  pub from : share.first ≡ first
  pub rounds : share.rounds ≡ rounds_of worker jobs sweep

-- each worker is handed its own
abbrev pub AreShares : ℕ → ℕ → ℕ → List (List ℕ) → List Share → Type 0
AreShares jobs sweep first lines shares = (worker : ℕ) (d : Share) → worker < length shares → IsShare jobs sweep first lines worker (slice_index_or shares worker d)

-- what a worker wants before it does its share
pub record CanWork (n : Normaliser) (share : Share) : Type 0 where
  pub ready : IsCallerOf n share.caller
  pub first : 1 ≤ share.first
  pub numbers : share.first + length share.lines.now < 2 ^ 64
  pub jobs : 1 ≤ share.jobs
  pub worker : share.worker ≤ 63

-- and what it gives back
pub record Worked (s : Speaker) (share : Share) (done : Done) : Type 0 where
  pub ready : IsCallerOf s.normaliser done.caller
  pub seat : KeepsSeat share.caller done.caller
  pub heard : HearsFront (says_of s) (lines_of_share share) done.heard.items
  pub swept : swept_sum done.swept ≡ places_of s.normaliser * share.rounds
  pub middle : Caller
  pub grew : length done.heard.items ≡ length (lines_of_share share) → Grows s.normaliser share.caller middle (map tally_of done.heard.items)
  pub by_sweep : GrowsBySweep s.normaliser middle done.caller share.rounds done.swept

-- What callers have done in a run by these settings, after so many batches whose lines have these tallies: the log of each worker has the parts of
-- its own lines and nothing else, and that of the sweeper the rounds of each batch.
pub record HaveRun (n : Normaliser) (s : Settings) (callers : List Caller) (swept : Swept) (tallies : List Tally) (batches : ℕ) : Type 0 where
  pub workers : (j : ℕ) (c : Caller) → j < s.jobs → slice_get callers j ≡ Some c → AreTallies (cascades_in n.shared) (places_of n) (dealt s.jobs j 0 tallies) (log_of c)
  pub places : (j : ℕ) (c : Caller) → j < s.jobs → slice_get callers j ≡ Some c → FindsPlaces c (dealt s.jobs j 0 tallies)
  pub sweeper : (c : Caller) → slice_get callers s.jobs ≡ Some c → AreRounds (places_of n) (s.sweep * batches) (log_of c) × (swept.done ≡ done_in (log_of c)) × (swept.was ≡ was_in (log_of c))

abbrev pub HasRun : Normaliser → Crew → List Tally → ℕ → Type 0
HasRun n crew tallies batches = HaveRun n crew.settings crew.callers.items crew.swept tallies batches

-- A batch more, whose first line has this number, with these tallies of its lines.
abbrev pub RunsOn : Normaliser → Crew → Crew → ℕ → List Tally → Type 0
RunsOn n old new first tallies = (before : List Tally) (batches : ℕ) → length before ≡ first - 1 → HasRun n old before batches → HasRun n new (before ++ tallies) (batches + 1)

-- So many lines more, in as few batches as they have.
abbrev pub RunsAll : Normaliser → Crew → Crew → ℕ → List Tally → Type 0
RunsAll n old new first tallies = (before : List Tally) (batches : ℕ) → length before ≡ first - 1 → HasRun n old before batches → HasRun n new (before ++ tallies) (batches + batches_of (length tallies))
