-- A right code has a size that fits, and tells it.
use Rattle.std.specs.Prelude.{◌≡◌, ◌≤◌, ℕ, List, length, slice_index}
use Rattle.std.proofs.Common.{◌∙◌, sym, ap, arith}
use Rattle.state_tuples.proofs.InCodes.{code_length}
use Rattle.shared_cascade.specs.declared.facts.Grammars.{Grammars}
use Rattle.shared_cascade.specs.Grammars.{cascades_of}
use Rattle.shared_cascade.specs.RightCodes.{IsRight}

pub sized : (g : Grammars) (code : List ℕ) → IsRight (cascades_of g) code → (9 ≤ length code) × (length code ≤ 2048) × (slice_index code 0 ≡ length code)
sized g code right =
    let is = right.expansion.2 in
    let width = ap length is ∙ code_length right.t _ right.expansion.0 right.known.width in
    let room = right.room in
    (omega arith, omega arith, ap (λ l. slice_index l 0) is ∙ sym width)
