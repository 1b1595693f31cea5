-- What a seat may do, by the number of what it is at.
use Rattle.std.proofs.Common.{◌≡◌, ℕ, ◌+◌, ◌<◌, ◌≤◌, if◌then◌else◌, Bool, true, false, [], length, refl, arith}
use Rattle.place_words.specs.declared.view.Mode.{Mode}
use Rattle.place_words.specs.declared.view.Mode.TheVariants.{Idle, Knocked, Reading, Writing}
use Rattle.place_words.specs.Modes.{stored_of, IsAt, IsReading, IsWriting}
use Rattle.place_tests.specs.Stages.{stage_of}

pub idle_at : (m : Mode) (n : ℕ) → n ≡ stage_of m → n ≡ 0 → m ≡ Idle
idle_at Idle n is zero = refl
idle_at (Knocked p) n is zero = absurd (omega arith)
idle_at (Reading p seen) n is zero = absurd (omega arith)
idle_at (Writing p stored) n is zero = absurd (omega arith)

pub at_place : (m : Mode) (n : ℕ) → n ≡ stage_of m → 1 ≤ n → n ≤ 2 → IsAt m
at_place Idle n is low high = absurd (omega arith)
at_place (Knocked p) n is low high = tt
at_place (Reading p seen) n is low high = tt
at_place (Writing p stored) n is low high = absurd (omega arith)

pub reading_at : (m : Mode) (n : ℕ) → n ≡ stage_of m → n ≡ 2 → IsReading m
reading_at Idle n is two = absurd (omega arith)
reading_at (Knocked p) n is two = absurd (omega arith)
reading_at (Reading p seen) n is two = tt
reading_at (Writing p stored) n is two = absurd (omega arith)

pub writing_at : (m : Mode) (n : ℕ) → n ≡ stage_of m → 3 ≤ n → IsWriting m
writing_at Idle n is low = absurd (omega arith)
writing_at (Knocked p) n is low = absurd (omega arith)
writing_at (Reading p seen) n is low = absurd (omega arith)
writing_at (Writing p stored) n is low = tt

pub stored_at : (m : Mode) (n : ℕ) → n ≡ stage_of m → 3 ≤ n → 3 + length (stored_of m) ≡ n
stored_at Idle n is low = absurd (omega arith)
stored_at (Knocked p) n is low = absurd (omega arith)
stored_at (Reading p seen) n is low = absurd (omega arith)
stored_at (Writing p stored) n is low = omega arith

pub knocked_stage : (b : Bool) (p : ℕ) → stage_of (if b then Reading p [] else Knocked p) ≡ (if b then 2 else 1)
knocked_stage true p = refl
knocked_stage false p = refl
