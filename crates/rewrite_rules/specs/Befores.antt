-- The steps of the backward automaton, turned round.
use Rattle.std.specs.Prelude.{◌≡◌, ◌↔◌, ◌<◌, ℕ, List, [], length, get_or}
use Rattle.std.specs.List.{Contains}
use Rattle.acceptor_ops.specs.Tables.{Table, step_of}
use Rattle.rewrite_rules.specs.Classes.{Classing, first}
use Rattle.rewrite_rules.specs.declared.automata.Automata.{Automata}

-- for each state, those of the first n that the label leads from
pub record LeadTo (d : Table) (label n : ℕ) (lists : List (List ℕ)) : Type 0 where
  pub count : length lists ≡ length d.next
  pub sources : (b s : ℕ) → Contains (get_or lists b []) s ↔ ((s < n) × (step_of d s label ≡ b))

abbrev pub before_at : List (List (List ℕ)) → ℕ → ℕ → List ℕ
before_at table n b = get_or (get_or table n []) b []

-- for each of the first classes, the sources of each state
pub record AreBefore (t : Automata) (k : Classing) (n : ℕ) (table : List (List (List ℕ))) : Type 0 where
  pub count : length table ≡ n
  pub each : (i : ℕ) → i < n → LeadTo t.back (first k i) (length t.back.next) (get_or table i [])
