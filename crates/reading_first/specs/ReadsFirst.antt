-- Transducers that read before they write.
use Rattle.std.specs.Prelude.{◌≡◌, ◌⊎◌, ℕ, [], ◌∷◌, None, get_or}
use Rattle.weighted_relations.specs.declared.Arc.{Arc}
use Rattle.weighted_relations.specs.Machines.{Machine, IsArc, final_of}
use Rattle.fst_core.specs.declared.search.Follow.TheVariants.{Every}
use Rattle.fst_core.specs.Reach.{Leads}

-- at the state nothing is chosen: it has this arc alone, and is not final
abbrev pub IsAlone : Machine → ℕ → Arc → Type 0
IsAlone m s a = (get_or m.arcs s [] ≡ a ∷ []) × (final_of m.finals s ≡ None)

-- no arc that reads can be reached from the state
abbrev pub IsMute : Machine → ℕ → Type 0
IsMute m s = (t k : ℕ) (a : Arc) → Leads m Every s t → IsArc m.arcs t k a → a.input ≡ 0

-- an arc that reads nothing stands where nothing is chosen, or where nothing is read any more
abbrev pub ReadsFirst : Machine → Type 0
ReadsFirst m = (s k : ℕ) (a : Arc) → IsArc m.arcs s k a → a.input ≡ 0 → IsAlone m s a ⊎ IsMute m a.next
