-- Numbers drawn one after another by a linear congruential generator.
use Rattle.std.specs.Prelude.{ℕ, ◌+◌, ◌*◌, ◌/◌, ◌%◌, ◌^◌}

-- what was drawn, and the state that the next draw goes on from
pub record Drawn (A : Type 0) : Type 0 where
  pub value : A
  pub state : ℕ

-- the state after one more draw
unfoldable pub next_state : ℕ → ℕ
next_state x = (x * 1103515245 + 12345) % 2 ^ 31

-- a number below n: what is above the lowest 16 bits of the next state, modulo n
abbrev pub draw : ℕ → ℕ → Drawn ℕ
draw n x = record { value = next_state x / 65536 % n; state = next_state x }
