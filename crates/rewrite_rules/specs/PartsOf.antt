-- The parts of the machine from three automata.
use Rattle.std.specs.Prelude.{◌≡◌, ◌<◌, ℕ, List, length, get_or, Bool, true, false, ◌&&◌, ◌||◌}
use Rattle.weighted_relations.specs.Relations.{IsByte}
use Rattle.weighted_relations.specs.Machines.{Machine}
use Rattle.acceptor_ops.specs.Tables.{Table, step_of, IsTotal}
use Rattle.rewrite_rules.specs.Bimachine.{Parts}
use Rattle.rewrite_rules.specs.Manners.{manner_of}
use Rattle.rewrite_rules.specs.declared.automata.Automata.{Automata}
use Rattle.rewrite_rules.specs.declared.spots.Gap.{Gap}
use Rattle.rewrite_rules.specs.declared.spots.Gap.TheVariants.{Open, Shut}
use Rattle.rewrite_rules.specs.declared.spots.Spot.{Spot}
use Rattle.rewrite_rules.specs.declared.spots.Spot.TheVariants.{Hub, Outside, Inside}

abbrev pub accepts_at : Table → ℕ → Bool
accepts_at d s = get_or d.accepting s false

-- whether the unread text starts with the right context, of which the backward automaton is in this state
abbrev pub right_of : Table → ℕ → Bool
right_of d b = accepts_at d (step_of d b 256)

-- whether a rewrite can begin before it
abbrev pub begins_of : Table → Bool → Gap → ℕ → Bool
begins_of d inserts Open b = accepts_at d b || (inserts && right_of d b)
begins_of d inserts Shut b = accepts_at d b

-- whether a state is marked as live
abbrev pub live_at : List Bool → ℕ → Bool
live_at live s = get_or live s true

abbrev pub parts : Machine → Automata → Parts
parts m t = record {
  tau = m;
  sigma_start = t.sigma.start;
  sigma_step = step_of t.sigma;
  sigma_accepts = accepts_at t.sigma;
  sigma_live = live_at t.live.items;
  left_start = t.left_start;
  left_step = step_of t.left;
  left_accepts = accepts_at t.left;
  back_count = length t.back.next;
  back_start = t.back_start;
  back_step = step_of t.back;
  right_accepts = right_of t.back;
  may_begin = begins_of t.back t.inserts;
  manner = manner_of t.mode;
}

-- no byte leads on from the state, and it does not accept
pub record IsDead (d : Table) (s : ℕ) : Type 0 where
  pub accepts : accepts_at d s ≡ false
  pub stays : (c : ℕ) → IsByte c → step_of d s c ≡ s

-- a state that is not marked as live is dead
pub record AreLive (d : Table) (live : List Bool) : Type 0 where
  pub count : length live ≡ length d.next
  pub dead : (s : ℕ) → live_at live s ≡ false → IsDead d s

-- what holds of each three automata
pub record AreSound (t : Automata) : Type 0 where
  pub sigma : IsTotal t.sigma
  pub live : AreLive t.sigma t.live.items
  pub left : IsTotal t.left
  pub back : IsTotal t.back
  pub left_start : t.left_start < length t.left.next

-- the states are those of the automata and of tau
abbrev pub InRange : Machine → Automata → Spot → Type 0
InRange m t Hub = Unit {0}
InRange m t (Outside s l b g) = (s < length t.sigma.next) × (l < length t.left.next) × (b < length t.back.next)
InRange m t (Inside s l b q h) = (s < length t.sigma.next) × (l < length t.left.next) × (b < length t.back.next) × (q < length m.arcs)
