-- What comes into the log of a caller's seat while a line is spoken.
use Rattle.std.specs.Prelude.{◌≡◌, ◌⊎◌, ◌≤◌, ◌+◌, ℕ, List, ◌++◌, Result, Ok, Err, length}
use Rattle.place_words.specs.declared.view.Entry.{Entry}
use Rattle.shared_cascade.specs.Callers.{Adds, IsNew, IsReady, cascades_in, log_of, looks_of, number_in, places_in, seats_of}
use Rattle.shared_cascade.specs.Episodes.{Episode, Episodes, Missed}
use Rattle.shared_cascade.specs.Tallies.{with_all}
use Rattle.shared_cascade.specs.declared.callers.Caller.{Caller}
use Rattle.shared_cascade.specs.declared.shared.Shared.{Shared}
use Rattle.shared_cascade.specs.declared.tallies.Outcome.{Outcome}
use Rattle.weighted_relations.specs.Relations.{IsInput}
use Rattle.normaliser.specs.Lines.{IsSearched}
use Rattle.normaliser.specs.Loads.{classifier_of}
use Rattle.normaliser.specs.declared.faults.LineFault.{LineFault}
use Rattle.normaliser.specs.declared.faults.LineFault.TheVariants.{Memory}
use Rattle.normaliser.specs.declared.normalisers.Normaliser.{Normaliser}

-- the caller may be given a line: it was opened with this normaliser, and its seat is idle
abbrev pub IsCallerOf : Normaliser → Caller → Type 0
IsCallerOf n c = IsReady n.shared c

-- it was opened with this normaliser, and has done nothing
abbrev pub IsNewCallerOf : Normaliser → Caller → Type 0
IsNewCallerOf n c = IsNew n.shared c

-- how many places the normaliser's table has
abbrev pub places_of : Normaliser → ℕ
places_of n = places_in n.shared

-- it has the same number, and as many seats were opened with its own
pub record KeepsSeat (c d : Caller) : Type 0 where
  pub seats : seats_of d ≡ seats_of c
  pub number : number_in d ≡ number_in c

-- The caller c has become d: episodes are all that came into its log, and what they came to was counted.
pub record Searched (s : Shared) (c d : Caller) : Type 0 where
  pub outcomes : List Outcome
  pub entries : List Entry
  pub episodes : Episodes (cascades_in s) (places_in s) outcomes entries
  pub log : log_of d ≡ log_of c ++ entries
  pub tally : d.tally ≡ with_all outcomes c.tally
  pub seat : KeepsSeat c d

-- one episode came into its log, or a look alone that found nothing, and was counted
abbrev pub GaveUp : Shared → Caller → Caller → Type 0
GaveUp s c d = (key : List ℕ) × Adds c d (λ o es. Episode (cascades_in s) (places_in s) key o es ⊎ Missed (places_in s) key es)

-- episodes came into its log, and then perhaps a look alone
abbrev pub Stopped : Shared → Caller → Caller → Type 0
Stopped s c d = Searched s c d ⊎ ((middle : Caller) × Searched s c middle × GaveUp s middle d)

-- what a call that answered this did: only where memory was wanting may a look alone have come last
abbrev pub Did : Shared → Caller → Caller → {T : Type 0} → Result T LineFault → Type 0
Did s c d (Ok x) = Searched s c d
Did s c d (Err Memory) = Stopped s c d
Did s c d (Err fault) = Searched s c d

-- memory sufficed
abbrev pub HadMemory : {T : Type 0} → Result T LineFault → Type 0
HadMemory (Ok x) = Unit {0}
HadMemory (Err Memory) = ⊥
HadMemory (Err fault) = Unit {0}

-- a look for each byte of the line, and one more
abbrev pub LooksThrough : Shared → Caller → Caller → List ℕ → Type 0
LooksThrough s c d line = looks_of s c + (length line + 1) ≤ looks_of s d

-- where a line is searched, the classifier has a reading of it, and memory sufficed
abbrev pub LooksWhereRead : Normaliser → Caller → Caller → List ℕ → {T : Type 0} → Result T LineFault → Type 0
LooksWhereRead n c d line answer = IsSearched line → IsInput (classifier_of n) line → HadMemory answer → LooksThrough n.shared c d line
