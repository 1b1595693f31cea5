-- The moves from a place, as the code goes over them.
use Rattle.std.specs.Prelude.{◌≡◌, ◌≤◌, ◌<◌, ℕ, List, [], length, get_or, IsTrue, Some, slice_get}
use Rattle.std.specs.List.{Contains}
use Rattle.weighted_relations.specs.declared.Arc.{Arc}
use Rattle.weighted_relations.specs.Machines.{final_of}
use Rattle.acceptor_ops.specs.Tables.{step_of}
use Rattle.rewrite_rules.specs.Moves.{moved}
use Rattle.rewrite_rules.specs.Bimachine.{Parts, Moves, MayPass, held_after, gap_left}
use Rattle.rewrite_rules.specs.Classes.{first}
use Rattle.rewrite_rules.specs.Befores.{before_at}
use Rattle.rewrite_rules.specs.PartsOf.{live_at}
use Rattle.rewrite_rules.specs.declared.arcs.Step.{Step}
use Rattle.rewrite_rules.specs.declared.arcs.Place.{Place}
use Rattle.rewrite_rules.specs.declared.arcs.Tables.{Tables}
use Rattle.rewrite_rules.specs.declared.spots.Gap.{Gap}
use Rattle.rewrite_rules.specs.declared.spots.Gap.TheVariants.{Open}
use Rattle.rewrite_rules.specs.declared.spots.Held.{Held}
use Rattle.rewrite_rules.specs.declared.spots.Held.TheVariants.{Fresh}
use Rattle.rewrite_rules.specs.declared.spots.Spot.{Spot}
use Rattle.rewrite_rules.specs.declared.spots.Spot.TheVariants.{Outside, Inside}

-- a move from the place
abbrev pub IsMove : Parts → Spot → Step → Type 0
IsMove p s x = Moves p s x.input x.output x.weight x.to

-- a move that reads and writes nothing
abbrev pub empty_step : ℕ → Spot → Step
empty_step w to = record { input = 0; output = 0; weight = w; to = to }

abbrev pub copy_step : ℕ → Spot → Step
copy_step c to = record { input = c; output = c; weight = 0; to = to }

abbrev pub copy_arc : ℕ → ℕ → Arc
copy_arc next c = record { input = c; output = c; weight = 0; next = next }

abbrev pub walk_step : Parts → Place → Held → Arc → ℕ → Step
walk_step p at h a d = record { input = a.input; output = a.output; weight = a.weight; to = Inside (moved p.sigma_step at.sigma a.input) (moved p.left_step at.left a.output) d a.next (held_after h a.input) }

-- what is of some number below n
abbrev pub Below : (ℕ → Step → Type 0) → ℕ → Step → Type 0
Below Q n x = (k : ℕ) × (k < n) × Q k x

-- what is of one of the first n elements
abbrev pub Listed : {A : Type 0} → List A → (A → Step → Type 0) → ℕ → Step → Type 0
Listed {A} xs Q n = Below (λ k x. (a : A) × (slice_get xs k ≡ Some a) × Q a x) n

-- the guesses below n
abbrev pub Guess : Parts → ℕ → Step → Type 0
Guess p = Below (λ b x. x ≡ empty_step 0 (Outside p.sigma_start p.left_start b Open))

-- the copies of these bytes to a place
abbrev pub CopyTo : List ℕ → Spot → Step → Type 0
CopyTo bytes to x = (c : ℕ) × Contains bytes c × (x ≡ copy_step c to)

-- where a byte of a class leads, before this backward state
abbrev pub copied_to : Tables → Place → ℕ → ℕ → Spot
copied_to t at n d = Outside (step_of t.automata.sigma at.sigma (first t.classes n)) (step_of t.automata.left at.left (first t.classes n)) d Open

-- the copies of the bytes of a class
abbrev pub CopyOn : Tables → Place → ℕ → Step → Type 0
CopyOn t at n = Listed (before_at t.befores n at.back) (λ d. CopyTo (get_or t.classes.members n []) (copied_to t at n d)) (length (before_at t.befores n at.back))

-- these, where sigma goes on
abbrev pub CopyOf : Tables → Place → ℕ → Step → Type 0
CopyOf t at n x = IsTrue (live_at t.automata.live.items (step_of t.automata.sigma at.sigma (first t.classes n))) × CopyOn t at n x

-- the copies, where they may be
abbrev pub Pass : Parts → Tables → Place → Gap → Step → Type 0
Pass p t at g x = MayPass p.manner (p.left_accepts at.left) (p.may_begin g at.back) × Below (CopyOf t at) (length t.classes.members) x

abbrev pub Enter : Parts → Place → Gap → Step → Type 0
Enter p at g x = (IsTrue (p.left_accepts at.left) × IsTrue (p.may_begin g at.back)) × (x ≡ empty_step 0 (Inside at.sigma at.left at.back p.tau.start (Fresh g)))

-- the moves by an arc of tau to the first n of these backward states
abbrev pub WalkOn : Parts → Place → Held → Arc → List ℕ → ℕ → Step → Type 0
WalkOn p at h a sources = Listed sources (λ d x. x ≡ walk_step p at h a d)

-- these, where sigma goes on
abbrev pub WalkFrom : Parts → Place → Held → Arc → List ℕ → Step → Type 0
WalkFrom p at h a sources x = IsTrue (p.sigma_live (moved p.sigma_step at.sigma a.input)) × WalkOn p at h a sources (length sources) x

-- the moves by an arc of tau
abbrev pub WalkBy : Parts → Place → Held → Arc → Step → Type 0
WalkBy p at h a x = (d : ℕ) × (a.input ≤ 255) × (d < p.back_count) × (moved p.back_step d a.input ≡ at.back) × IsTrue (p.sigma_live (moved p.sigma_step at.sigma a.input)) × (x ≡ walk_step p at h a d)

-- the moves by the first n of these arcs of tau
abbrev pub Walk : Parts → Place → List Arc → Held → ℕ → Step → Type 0
Walk p at row h = Listed row (λ a. WalkBy p at h a)

abbrev pub Leave : Parts → Place → ℕ → Held → Step → Type 0
Leave p at q h x = (w : ℕ) × (g : Gap) × (final_of p.tau.finals q ≡ Some w) × IsTrue (p.right_accepts at.back) × (gap_left h ≡ Some g) × (x ≡ empty_step w (Outside at.sigma at.left at.back g))
