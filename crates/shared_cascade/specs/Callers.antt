-- What clauses see of a table and of its callers.
use Rattle.std.specs.Prelude.{◌≡◌, ◌≢◌, ◌≤◌, ℕ, ◌+◌, List, [], ◌++◌, All, Contains, Option}
use Rattle.place_words.specs.declared.view.Entry.{Entry}
use Rattle.place_words.specs.declared.view.Read.{Read}
use Rattle.place_words.specs.Places.{Agrees}
use Rattle.place_words.specs.declared.view.Mode.TheVariants.{Idle}
use Rattle.place_words.specs.Seats.{IsSeatOf, fact_of, mode_of, number_of, places_of, view_of}
use Rattle.place_table.specs.Tables.{words_of}
use Rattle.place_table.specs.Entries.{FewReads, holds, reads_in}
use Rattle.place_table.specs.Looks.{Begun, key_in}
use Rattle.place_table.specs.Ways.{way_count, ways}
use Rattle.state_tuples.specs.Cascades.{Cascaded, IsOf, IsSound, end_of, moves_of}
use Rattle.state_tuples.specs.Codes.{key}
use Rattle.state_tuples.specs.Orders.{Ordered}
use Rattle.state_tuples.specs.declared.tuples.Tuple.{Tuple}
use Rattle.shared_cascade.specs.declared.callers.Caller.{Caller}
use Rattle.shared_cascade.specs.declared.visits.Visit.{Visit}
use Rattle.shared_cascade.specs.declared.visits.Visit.TheVariants.{Held, Made}
use Rattle.shared_cascade.specs.declared.facts.Grammars.{Grammars}
use Rattle.shared_cascade.specs.declared.shared.Shared.{Shared}
use Rattle.shared_cascade.specs.declared.tallies.Outcome.{Outcome}
use Rattle.shared_cascade.specs.declared.tallies.Outcome.TheVariants.{NoPlace, Shown, Wide}
use Rattle.shared_cascade.specs.Counts.{AreWhole, looks_in}
use Rattle.shared_cascade.specs.Episodes.{Episode, Missed}
use Rattle.shared_cascade.specs.Grammars.{cascades_of}
use Rattle.shared_cascade.specs.Held.{IsHeld}
use Rattle.shared_cascade.specs.RightCodes.{IsRight}
use Rattle.shared_cascade.specs.Since.{IsTally}
use Rattle.shared_cascade.specs.Tallies.{no_tally, with_outcome}

abbrev pub grammars_of : Shared → Grammars
grammars_of s = fact_of (words_of s.table)

abbrev pub cascades_in : Shared → List Cascaded
cascades_in s = cascades_of (grammars_of s)

abbrev pub places_in : Shared → ℕ
places_in s = places_of (words_of s.table)

-- what the caller's seat has done
abbrev pub log_of : Caller → List Entry
log_of c = (view_of c.seat).log

-- the looks that the caller has made
abbrev pub looks_of : Shared → Caller → ℕ
looks_of s c = looks_in (way_count (places_in s)) (log_of c)

-- what it had done when its tally began
abbrev pub log_before : Caller → List Entry
log_before c = (view_of c.before.value).log

-- its number, and how many seats there are
abbrev pub number_in : Caller → ℕ
number_in c = number_of c.seat

abbrev pub seats_of : Caller → ℕ
seats_of c = (view_of c.seat).seats

-- what came into the log since its tally began, the tally is what that came to; one seat alone always finds a place
pub record KeepsTally (s : Shared) (c : Caller) : Type 0 where
  pub since : List Entry
  pub log : log_of c ≡ log_before c ++ since
  pub is : IsTally (cascades_in s) (places_in s) since c.tally
  pub alone : seats_of c ≡ 1 → c.tally.no_place ≡ 0

-- the two were opened together, and the caller is at no place, nor in the middle of a look
pub record IsAtRest (s : Shared) (c : Caller) : Type 0 where
  pub together : IsSeatOf (words_of s.table) c.seat
  pub tag : (view_of c.seat).tag ≡ grammars_of s
  pub idle : mode_of c.seat ≡ Idle
  pub whole : AreWhole (way_count (places_in s)) (log_of c)
  pub sound : All IsSound (cascades_in s)

-- and all that it has done is counted
pub record IsReady (s : Shared) (c : Caller) : Type 0 where
  pub together : IsSeatOf (words_of s.table) c.seat
  pub tag : (view_of c.seat).tag ≡ grammars_of s
  pub idle : mode_of c.seat ≡ Idle
  pub whole : AreWhole (way_count (places_in s)) (log_of c)
  pub sound : All IsSound (cascades_in s)
  pub counted : KeepsTally s c

-- it is ready and has done nothing
pub record IsNew (s : Shared) (c : Caller) : Type 0 where
  pub ready : IsReady s c
  pub log : log_of c ≡ []
  pub tally : c.tally ≡ no_tally

-- entries of this kind are all that came into the log, and what they came to is counted
abbrev pub Adds : Caller → Caller → (Outcome → List Entry → Type 0) → Type 0
Adds c c' Kind = (o : Outcome) × (es : List Entry) × Kind o es × (view_of c'.seat ≡ record (view_of c.seat) { log = log_of c ++ es }) × (c'.tally ≡ with_outcome o c.tally)

-- the expansion of the tuple is in the caller's hands
abbrev pub HasMade : Shared → Caller → Tuple → Option ℕ → Type 0
HasMade s x t end = (c : Cascaded) × Contains (cascades_in s) c × IsOf c t × Ordered (moves_of c t) x.arcs.items × (end ≡ end_of c t)

-- The caller c has become d, which reads the place p, where it has found the key of the tuple. So far its look has added these entries.
pub record StaysAt (s : Shared) (c d : Caller) (t : Tuple) : Type 0 where
  pub p : ℕ
  pub seen : List Read
  pub entries : List Entry
  pub held : IsHeld (words_of s.table) d.seat
  pub begun : Begun (key t) (ways (key t) (places_in s)) p seen entries
  pub few : FewReads 7 0 entries
  pub own : (code : List ℕ) → IsRight (cascades_in s) code → Agrees seen code → key_in code ≡ key t
  pub view : view_of d.seat ≡ holds (view_of c.seat) p entries seen
  pub tally : d.tally ≡ c.tally
  pub before : log_before d ≡ log_before c

-- the caller c has become d in a call of one look that is ended
pub record HasLooked (s : Shared) (c d : Caller) (Kind : Outcome → List Entry → Type 0) : Type 0 where
  pub rest : IsAtRest s d
  pub looks : looks_of s d ≡ looks_of s c + 1
  pub before : log_before d ≡ log_before c
  pub adds : Adds c d Kind

-- a look that was Shown, of so many reads at most
abbrev pub FoundFor : Shared → Tuple → ℕ → Outcome → List Entry → Type 0
FoundFor s t most o es = (o ≡ Shown) × Episode (cascades_in s) (places_in s) (key t) Shown es × (reads_in es ≤ most)

-- where there is one seat, it always finds a place
abbrev pub FindsPlace : Caller → Outcome → Type 0
FindsPlace c o = seats_of c ≡ 1 → o ≢ NoPlace

-- an episode whose look was not
abbrev pub MadeFor : Shared → Caller → Tuple → Outcome → List Entry → Type 0
MadeFor s c t o es = Episode (cascades_in s) (places_in s) (key t) o es × (o ≢ Shown) × FindsPlace c o

-- a look alone that found nothing
abbrev pub MissedFor : Shared → Tuple → Outcome → List Entry → Type 0
MissedFor s t o es = (o ≡ Wide) × Missed (places_in s) (key t) es

-- what a visit has found: the caller stays at the place, or it has the expansion
abbrev pub Visited : Shared → Caller → Caller → Tuple → Visit → Type 0
Visited s c d t Held = StaysAt s c d t
Visited s c d t (Made end) = HasLooked s c d (MadeFor s c t) × HasMade s d t end

-- it has found nothing, and no memory
abbrev pub Missing : Shared → Caller → Caller → Tuple → Type 0
Missing s c d t = HasLooked s c d (MissedFor s t)
