-- What the answers of linking say.
use Rattle.std.specs.Prelude.{◌≡◌, ℕ, List, Result, Ok, Err}
use Rattle.norm_base.specs.Counts.{Rose}
use Rattle.norm_base.specs.Files.{Files}
use Rattle.thrax_link.specs.Exports.{exports_of}
use Rattle.thrax_link.specs.Linking.{Linked, Outcome, refuses, exporting}
use Rattle.thrax_link.specs.declared.grammar.Export.{Export}
use Rattle.thrax_link.specs.declared.fault.LinkFault.{LinkFault}
use Rattle.thrax_link.specs.declared.fault.LinkFault.TheVariants.{Refused, ShelfFault, Memory}

-- the answer is an outcome of linking, unless the shelf failed or memory is wanting
abbrev pub IsLinked : Files → List ℕ → Result (List Export) LinkFault → Type 0
IsLinked files name (Ok grammar) = Linked files name (exporting (exports_of grammar))
IsLinked files name (Err (Refused file statement why)) = Linked files name (refuses file statement why)
IsLinked files name (Err ShelfFault) = Unit {0}
IsLinked files name (Err Memory) = Unit {0}

-- the outcome is the answer, unless the shelf failed or memory is wanting
abbrev pub IsOutcome : Result (List Export) LinkFault → Outcome → Type 0
IsOutcome (Ok grammar) outcome = outcome ≡ exporting (exports_of grammar)
IsOutcome (Err (Refused file statement why)) outcome = outcome ≡ refuses file statement why
IsOutcome (Err ShelfFault) outcome = Unit {0}
IsOutcome (Err Memory) outcome = Unit {0}

-- the shelf fails only where its count rose, and every other answer leaves the count
abbrev pub Counts : {T : Type 0} → ℕ → ℕ → Result T LinkFault → Type 0
Counts before now (Ok x) = now ≡ before
Counts before now (Err (Refused file statement why)) = now ≡ before
Counts before now (Err ShelfFault) = Rose before now
Counts before now (Err Memory) = now ≡ before
