-- The calls of a device in memory, of which some are made to fail.
use Rattle.std.specs.Prelude.{ℕ, ◌+◌, ◌-◌, ◌^◌, nat_lt, List, Bool, ◌&&◌, ◌==◌, if◌then◌else◌}
use Rattle.std.specs.List.{list_any}
use Rattle.norm_base.specs.Counts.{capped}

-- the numbers, from 1 on, of the calls that fail; how many calls were made, and how many of them
-- failed
pub record Calls : Type 0 where
  pub fails : List ℕ
  pub made : ℕ
  pub failed : ℕ

-- no call was made yet
abbrev pub no_calls : List ℕ → Calls
no_calls fails = record { fails = fails; made = 0; failed = 0 }

-- the number of the next call is one of those that fail (no call has a number above the greatest
-- count)
abbrev pub next_fails : Calls → Bool
next_fails calls = nat_lt calls.made (2 ^ 64 - 1) && list_any (λ number. number == calls.made + 1) calls.fails

-- the calls after the next one
abbrev pub after_call : Calls → Calls
after_call calls = record {
  fails = calls.fails;
  made = capped (calls.made + 1);
  failed = if next_fails calls then capped (calls.failed + 1) else calls.failed;
}
