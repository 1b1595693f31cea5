-- How much of its input a source gave.
use Rattle.std.specs.Prelude.{ℕ, ◌+◌, ◌<◌, ◌^◌, List, Option, IfSome, IsSomeAnd, length}

-- The source gave more than 2^28 bytes: it had so many more before than now. Nothing is said where it doesn't tell.
abbrev pub GaveMore : List ℕ → List ℕ → Type 0
GaveMore before now = 2 ^ 28 + length now < length before

-- a source that told what it had gave more, and tells what it has left
abbrev pub GaveTooMuch : Option (List ℕ) → Option (List ℕ) → Type 0
GaveTooMuch before after = IfSome before (λ had. IsSomeAnd after (λ now. GaveMore had now))

-- this holds where a source that tells gave more
abbrev pub IfGaveTooMuch : Option (List ℕ) → Option (List ℕ) → Type 0 → Type 0
IfGaveTooMuch before after P = IfSome before (λ had. IfSome after (λ now. GaveMore had now → P))
