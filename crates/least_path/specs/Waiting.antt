-- The entries that wait, as a heap.
use Rattle.std.specs.Prelude.{◌≡◌, ◌≢◌, ◌<◌, ◌≤◌, ℕ, ◌+◌, ◌*◌, List, length, slice_index_or}
use Rattle.weighted_relations.specs.Least.{Below}
use Rattle.least_path.specs.declared.queue.Entry.{Entry}
use Rattle.least_path.specs.Texts.{text_of}

-- no greater: by weight, then by length, then by labels
abbrev pub Before : List (List ℕ) → Entry → Entry → Type 0
Before all a b = Below a.weight (text_of all a.output) b.weight (text_of all b.output)

-- an entry whose output is known, with its length
pub record Fits (all : List (List ℕ)) (e : Entry) : Type 0 where
  pub output : e.output < length all
  pub length : e.length ≡ length (text_of all e.output)

-- the place k is one of the two below the place p
pub record IsChild (p k : ℕ) : Type 0 where
  pub low : p * 2 + 1 ≤ k
  pub high : k ≤ p * 2 + 2

abbrev pub at_place : List Entry → ℕ → Entry
at_place entries k = slice_index_or entries k (record { weight = 0; length = 0; output = 0; node = 0 })

-- none comes before the one above it
abbrev pub IsHeap : List (List ℕ) → List Entry → Type 0
IsHeap all entries = (p k : ℕ) → IsChild p k → k < length entries → Before all (at_place entries p) (at_place entries k)

-- the same but for one place and the one above it
pub record IsHeapButUp (all : List (List ℕ)) (f : ℕ → Entry) (n at : ℕ) : Type 0 where
  pub others : (p k : ℕ) → IsChild p k → k < n → k ≢ at → Before all (f p) (f k)
  pub around : (p k : ℕ) → IsChild p at → IsChild at k → k < n → Before all (f p) (f k)

-- the same but for one place and those below it
pub record IsHeapButDown (all : List (List ℕ)) (f : ℕ → Entry) (n at : ℕ) : Type 0 where
  pub others : (p k : ℕ) → IsChild p k → k < n → p ≢ at → Before all (f p) (f k)
  pub around : (p k : ℕ) → IsChild p at → IsChild at k → k < n → Before all (f p) (f k)
