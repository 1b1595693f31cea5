-- What a seat is at, as a number.
use Rattle.std.specs.Prelude.{ℕ, ◌+◌, length}
use Rattle.place_words.specs.declared.view.Mode.{Mode}
use Rattle.place_words.specs.declared.view.Mode.TheVariants.{Idle, Knocked, Reading, Writing}

abbrev pub stage_of : Mode → ℕ
stage_of Idle = 0
stage_of (Knocked p) = 1
stage_of (Reading p seen) = 2
stage_of (Writing p stored) = 3 + length stored
