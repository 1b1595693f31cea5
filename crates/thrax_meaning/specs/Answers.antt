-- What an answer says.
use Rattle.std.specs.Prelude.{◌≡◌, ℕ, List, map, Result, Ok, Err, Vec, Some}
use Rattle.std.specs.declared.option.Option.{Option}
use Rattle.std.specs.declared.alloc.Global.{Global}
use Rattle.std.specs.declared.rc.Rc.{Rc}
use Rattle.std.proofs.Common.{Bor}
use Rattle.norm_base.specs.Counts.{Rose}
use Rattle.norm_base.specs.Files.{Files}
use Rattle.checked_expressions.specs.Answers.{shared_of}
use Rattle.checked_expressions.specs.declared.value.Value.{Value}
use Rattle.thrax_meaning.specs.Meaning.{Taken, refused, taken, AllTaken, one_refused, all_taken}
use Rattle.thrax_meaning.specs.declared.why.Stop.{Stop}
use Rattle.thrax_meaning.specs.declared.why.Stop.TheVariants.{Refused, ShelfFault, Memory}

-- an answer is what is meant, unless the shelf failed or memory is wanting
abbrev pub Gives : Result (Rc Value Global) Stop → Taken → Type 0
Gives (Ok v) t = t ≡ taken (shared_of v)
Gives (Err (Refused why)) t = t ≡ refused why
Gives (Err ShelfFault) t = Unit {0}
Gives (Err Memory) t = Unit {0}

abbrev pub GivesAll : Result (Vec (Rc Value Global) Global) Stop → AllTaken → Type 0
GivesAll (Ok vs) t = t ≡ all_taken (map shared_of vs.items)
GivesAll (Err (Refused why)) t = t ≡ one_refused why
GivesAll (Err ShelfFault) t = Unit {0}
GivesAll (Err Memory) t = Unit {0}

-- the shelf fails only where its count rose, and every other answer leaves the count
abbrev pub Counts : {T : Type 0} → ℕ → ℕ → Result T Stop → Type 0
Counts before now (Ok x) = now ≡ before
Counts before now (Err (Refused why)) = now ≡ before
Counts before now (Err ShelfFault) = Rose before now
Counts before now (Err Memory) = now ≡ before

-- this holds where the shelf tells its files
abbrev pub WhereTold : Option Files → (Files → Type 0) → Type 0
WhereTold files P = (known : Files) → files ≡ Some known → P known

-- the name behind a reference
abbrev pub name_view : Bor (List ℕ) → List ℕ
name_view n = n.now

-- an answer of a part that asks no shelf
abbrev pub IsQuiet : {T : Type 0} → Result T Stop → Type 0
IsQuiet (Ok x) = Unit {0}
IsQuiet (Err (Refused why)) = Unit {0}
IsQuiet (Err ShelfFault) = ⊥
IsQuiet (Err Memory) = Unit {0}
