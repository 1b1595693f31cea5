-- Composition of any number of transducers.
-- Parts, their states, filters and paths are listed from the last part to the first.
-- A filter stands for each part but the first one.
use Rattle.std.specs.Prelude.{◌≡◌, ℕ, zero, suc, ◌+◌, List, [], ◌∷◌, Some}
use Rattle.weighted_relations.specs.declared.Arc.{Arc}
use Rattle.weighted_relations.specs.Graphs.{label}
use Rattle.weighted_relations.specs.Machines.{Machine, Path, IsArc, final_of}
use Rattle.compose_filter.specs.declared.filters.Filter.{Filter}
use Rattle.compose_filter.specs.declared.filters.Filter.TheVariants.{Open, Closed}

-- What moves, with the places of the arcs that are taken: the only part, what stands before the last
-- part and the last part, what stands before it alone, or the last part alone.
pub data Combination : Type 0 where
  only : ℕ → Combination
  both : Combination → ℕ → Combination
  first : Combination → Combination
  second : ℕ → Combination

-- a combination from states and filters, with its labels and weight, to the next states and filters
pub data IsMove : List Machine → List ℕ → List Filter → Combination → ℕ → ℕ → ℕ → List ℕ → List Filter → Type 0 where
  only_moves : {m : Machine} {q k : ℕ} {a : Arc} → IsArc m.arcs q k a → IsMove (m ∷ []) (q ∷ []) [] (only k) a.input a.output a.weight (a.next ∷ []) []
  both_move : {m : Machine} {ms : List Machine} {q k i o w : ℕ} {qs rs : List ℕ} {f : Filter} {fs gs : List Filter} {c : Combination} {a : Arc} → IsMove ms qs fs c i (suc o) w rs gs → IsArc m.arcs q k a → a.input ≡ suc o → IsMove (m ∷ ms) (q ∷ qs) (f ∷ fs) (both c k) i a.output (w + a.weight) (a.next ∷ rs) (Open ∷ gs)
  first_moves : {m : Machine} {ms : List Machine} {q i w : ℕ} {qs rs : List ℕ} {fs gs : List Filter} {c : Combination} → IsMove ms qs fs c i zero w rs gs → IsMove (m ∷ ms) (q ∷ qs) (Open ∷ fs) (first c) i zero w (q ∷ rs) (Open ∷ gs)
  second_moves : {m : Machine} {ms : List Machine} {q k : ℕ} {qs : List ℕ} {f : Filter} {fs : List Filter} {a : Arc} → IsArc m.arcs q k a → a.input ≡ zero → IsMove (m ∷ ms) (q ∷ qs) (f ∷ fs) (second k) zero a.output a.weight (a.next ∷ qs) (Closed ∷ fs)

-- all parts are final, and the sum of their final weights
pub data Ends : List Machine → List ℕ → List Filter → ℕ → Type 0 where
  only_ends : {m : Machine} {q w : ℕ} → final_of m.finals q ≡ Some w → Ends (m ∷ []) (q ∷ []) [] w
  both_end : {m : Machine} {ms : List Machine} {q w v : ℕ} {qs : List ℕ} {f : Filter} {fs : List Filter} → Ends ms qs fs w → final_of m.finals q ≡ Some v → Ends (m ∷ ms) (q ∷ qs) (f ∷ fs) (w + v)

-- A composed path: its combinations, and its reading.
pub data ComposedPath (ms : List Machine) : List ℕ → List Filter → List Combination → List ℕ → List ℕ → ℕ → Type 0 where
  end : {qs : List ℕ} {fs : List Filter} {w : ℕ} → Ends ms qs fs w → ComposedPath ms qs fs [] [] [] w
  go : {qs rs : List ℕ} {fs gs : List Filter} {c : Combination} {cs : List Combination} {i o w v : ℕ} {x y : List ℕ} → IsMove ms qs fs c i o w rs gs → ComposedPath ms rs gs cs x y v → ComposedPath ms qs fs (c ∷ cs) (label i x) (label o y) (w + v)

-- Paths of the parts, where each one's output is the next one's input, and their reading.
pub data Matched : List Machine → List ℕ → List (List ℕ) → List ℕ → List ℕ → ℕ → Type 0 where
  one : {m : Machine} {q w : ℕ} {ks x y : List ℕ} → Path m q ks x y w → Matched (m ∷ []) (q ∷ []) (ks ∷ []) x y w
  more : {m : Machine} {ms : List Machine} {q w v : ℕ} {qs ks x z y : List ℕ} {ps : List (List ℕ)} → Matched ms qs ps x z w → Path m q ks z y v → Matched (m ∷ ms) (q ∷ qs) (ks ∷ ps) x y (w + v)

-- what the only part takes
abbrev pub only_part : List Combination → List ℕ
only_part [] = []
only_part (only k ∷ cs) = k ∷ only_part cs
only_part (both c k ∷ cs) = only_part cs
only_part (first c ∷ cs) = only_part cs
only_part (second k ∷ cs) = only_part cs

-- what the last part takes
abbrev pub last_part : List Combination → List ℕ
last_part [] = []
last_part (only k ∷ cs) = last_part cs
last_part (both c k ∷ cs) = k ∷ last_part cs
last_part (first c ∷ cs) = last_part cs
last_part (second k ∷ cs) = k ∷ last_part cs

-- what the parts before the last one take
abbrev pub before_last : List Combination → List Combination
before_last [] = []
before_last (only k ∷ cs) = before_last cs
before_last (both c k ∷ cs) = c ∷ before_last cs
before_last (first c ∷ cs) = c ∷ before_last cs
before_last (second k ∷ cs) = before_last cs

-- what each part takes
abbrev pub projections : List Machine → List Combination → List (List ℕ)
projections [] cs = []
projections (m ∷ []) cs = only_part cs ∷ []
projections (m ∷ n ∷ ms) cs = last_part cs ∷ projections (n ∷ ms) (before_last cs)

-- where the parts start
abbrev pub starts : List Machine → List ℕ
starts [] = []
starts (m ∷ ms) = m.start ∷ starts ms

-- all filters are open
abbrev pub all_open : List Machine → List Filter
all_open [] = []
all_open (m ∷ []) = []
all_open (m ∷ n ∷ ms) = Open ∷ all_open (n ∷ ms)

-- The law of composition.
pub record OneToOne (ms : List Machine) : Type 0 where
  pub sound : (cs : List Combination) (x y : List ℕ) (w : ℕ) → ComposedPath ms (starts ms) (all_open ms) cs x y w → Matched ms (starts ms) (projections ms cs) x y w
  pub found : (ps : List (List ℕ)) (x y : List ℕ) (w : ℕ) → Matched ms (starts ms) ps x y w → (cs : List Combination) × ComposedPath ms (starts ms) (all_open ms) cs x y w × (projections ms cs ≡ ps)
  pub alone : (cs ds : List Combination) (x y x' y' : List ℕ) (w w' : ℕ) → ComposedPath ms (starts ms) (all_open ms) cs x y w → ComposedPath ms (starts ms) (all_open ms) ds x' y' w' → projections ms cs ≡ projections ms ds → cs ≡ ds
