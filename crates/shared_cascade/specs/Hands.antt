-- How a caller's log grows while a search uses it.
use Rattle.std.specs.Prelude.{◌≡◌, ◌⊎◌, ◌<◌, ◌≤◌, ℕ, List, ◌++◌, Contains, length}
use Rattle.place_words.specs.declared.view.Entry.{Entry}
use Rattle.place_words.specs.Seats.{view_of}
use Rattle.shared_cascade.specs.declared.hands.Hand.{Hand}
use Rattle.place_table.specs.Entries.{reads_in}
use Rattle.state_tuples.specs.declared.tuples.Tuple.{Tuple}
use Rattle.state_tuples.specs.Cascades.{Cascaded, IsOf}
use Rattle.state_tuples.specs.Orders.{moves_on}
use Rattle.shared_cascade.specs.declared.tallies.Outcome.{Outcome}
use Rattle.shared_cascade.specs.declared.tallies.Outcome.TheVariants.{Shown}
use Rattle.shared_cascade.specs.Callers.{Adds, cascades_in, log_before, log_of, places_in}
use Rattle.shared_cascade.specs.Episodes.{Episode, Episodes, Missed}
use Rattle.shared_cascade.specs.Tallies.{with_all}

-- An episode for the key. Where its look was Shown, so many words were read at most.
abbrev pub ShortEpisode : List Cascaded → ℕ → List ℕ → ℕ → Outcome → List Entry → Type 0
ShortEpisode cs n key most o es = Episode cs n key o es × (o ≡ Shown → reads_in es ≤ most)

-- there was room for fewer arcs than the tuple has moves that read the label
abbrev pub HadNoRoom : List Cascaded → Tuple → ℕ → ℕ → Type 0
HadNoRoom cs t label room = (c : Cascaded) → Contains cs c → IsOf c t → room < length (moves_on c t label)

-- Why memory was wanting: the look found nothing, and what it sought was to be made; or there was an episode, and the arcs had no room.
abbrev pub Wanting : List Cascaded → ℕ → List ℕ → Type 0 → Outcome → List Entry → Type 0
Wanting cs n key NoRoom o es = Missed n key es ⊎ (Episode cs n key o es × NoRoom)

-- the same table and the same caller
pub record IsStill (x y : Hand) : Type 0 where
  pub shared : y.shared.now ≡ x.shared.now
  pub caller : y.caller.ghost_name ≡ x.caller.ghost_name

-- episodes are all that came into the log, and what they came to is counted, in a tally that began when it did
pub record GoesOn (x y : Hand) : Type 0 where
  pub still : IsStill x y
  pub outcomes : List Outcome
  pub entries : List Entry
  pub episodes : Episodes (cascades_in x.shared.now) (places_in x.shared.now) outcomes entries
  pub view : view_of y.caller.now.seat ≡ record (view_of x.caller.now.seat) { log = log_of x.caller.now ++ entries }
  pub tally : y.caller.now.tally ≡ with_all outcomes x.caller.now.tally
  pub before : log_before y.caller.now ≡ log_before x.caller.now

-- one episode, or a look alone that found nothing
pub record GivesUp (x y : Hand) : Type 0 where
  pub still : IsStill x y
  pub key : List ℕ
  pub adds : Adds x.caller.now y.caller.now (λ o es. Episode (cascades_in x.shared.now) (places_in x.shared.now) key o es ⊎ Missed (places_in x.shared.now) key es)
  pub before : log_before y.caller.now ≡ log_before x.caller.now
