-- The machine of a context rewrite: a forward automaton over what is written, and a backward one over what is
-- unread, whose state is guessed. It says nothing of how the automata are made (`Parts` has functions).
use Rattle.std.specs.Prelude.{◌≡◌, ◌≤◌, ◌<◌, ℕ, zero, suc, List, [], ◌∷◌, Bool, IsTrue, ◌&&◌, Option, Some, None}
use Rattle.weighted_relations.specs.declared.Arc.{Arc}
use Rattle.weighted_relations.specs.Relations.{IsByte}
use Rattle.weighted_relations.specs.Machines.{Machine, IsArc, final_of}
use Rattle.weighted_relations.specs.Rewriting.{Manner, obligatory, optional}
use Rattle.rewrite_rules.specs.declared.spots.Gap.{Gap}
use Rattle.rewrite_rules.specs.declared.spots.Gap.TheVariants.{Open, Shut}
use Rattle.rewrite_rules.specs.declared.spots.Held.{Held}
use Rattle.rewrite_rules.specs.declared.spots.Held.TheVariants.{Fresh, Used}
use Rattle.rewrite_rules.specs.declared.spots.Spot.{Spot}
use Rattle.rewrite_rules.specs.declared.spots.Spot.TheVariants.{Hub, Outside, Inside}
use Rattle.rewrite_rules.specs.Moves.{System, moved}

-- what the machine is made of
pub record Parts : Type 0 where
  pub tau : Machine
  -- the forward automaton of sigma, over inputs
  pub sigma_start : ℕ
  pub sigma_step : ℕ → ℕ → ℕ
  pub sigma_accepts : ℕ → Bool
  -- false where no text leads to acceptance any more
  pub sigma_live : ℕ → Bool
  -- the forward automaton of the left context, over outputs; it has read the first mark
  pub left_start : ℕ
  pub left_step : ℕ → ℕ → ℕ
  pub left_accepts : ℕ → Bool
  -- the backward automaton, over unread inputs; it has read the last mark
  pub back_count : ℕ
  pub back_start : ℕ
  pub back_step : ℕ → ℕ → ℕ
  pub right_accepts : ℕ → Bool
  pub may_begin : Gap → ℕ → Bool
  pub manner : Manner

-- what a rewrite has read after one more label
abbrev pub held_after : Held → ℕ → Held
held_after h zero = h
held_after h (suc n) = Used

-- the gap where a rewrite ends
abbrev pub gap_left : Held → Option Gap
gap_left (Fresh Open) = Some Shut
gap_left (Fresh Shut) = None
gap_left Used = Some Open

-- whether no rewrite has to begin: what was written ends in the left context, and what is unread begins one
abbrev pub MayPass : Manner → Bool → Bool → Type 0
MayPass optional ends begins = Unit {0}
MayPass obligatory ends begins = IsTrue (ends && begins) → ⊥

pub data Moves (p : Parts) : Spot → ℕ → ℕ → ℕ → Spot → Type 0 where
  -- guess the backward automaton's state before the whole input
  guess : {b : ℕ} → b < p.back_count → Moves p Hub 0 0 0 (Outside p.sigma_start p.left_start b Open)
  -- copy a byte
  copied : {s l b d c : ℕ} {g : Gap} → IsByte c → d < p.back_count → p.back_step d c ≡ b → IsTrue (p.sigma_live (p.sigma_step s c)) → MayPass p.manner (p.left_accepts l) (p.may_begin g b) → Moves p (Outside s l b g) c c 0 (Outside (p.sigma_step s c) (p.left_step l c) d Open)
  -- begin a rewrite
  enter : {s l b : ℕ} {g : Gap} → IsTrue (p.left_accepts l) → IsTrue (p.may_begin g b) → Moves p (Outside s l b g) 0 0 0 (Inside s l b p.tau.start (Fresh g))
  -- go on by an arc of tau
  walk : {s l b d q : ℕ} {h : Held} {a : Arc} (k : ℕ) → IsArc p.tau.arcs q k a → a.input ≤ 255 → d < p.back_count → moved p.back_step d a.input ≡ b → IsTrue (p.sigma_live (moved p.sigma_step s a.input)) → Moves p (Inside s l b q h) a.input a.output a.weight (Inside (moved p.sigma_step s a.input) (moved p.left_step l a.output) d a.next (held_after h a.input))
  -- end a rewrite before the right context
  leave : {s l b q w : ℕ} {h : Held} {g : Gap} → final_of p.tau.finals q ≡ Some w → IsTrue (p.right_accepts b) → gap_left h ≡ Some g → Moves p (Inside s l b q h) 0 0 w (Outside s l b g)

-- the end of the input, where the guess was right
pub data Ends (p : Parts) : Spot → ℕ → Type 0 where
  done : {s l b : ℕ} {g : Gap} → IsTrue (p.sigma_accepts s) → b ≡ p.back_start → MayPass p.manner (p.left_accepts l) (p.may_begin g b) → Ends p (Outside s l b g) 0

abbrev pub bimachine : Parts → System
bimachine p = record { Spot = Spot; Move = Moves p; End = Ends p }

-- the state after a text
abbrev pub run : (ℕ → ℕ → ℕ) → ℕ → List ℕ → ℕ
run f q [] = q
run f q (c ∷ x) = run f (f q c) x

-- the backward automaton's state before a text that ends the input
abbrev pub behind : Parts → List ℕ → ℕ
behind p [] = p.back_start
behind p (c ∷ r) = p.back_step (behind p r) c
