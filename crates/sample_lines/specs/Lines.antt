-- The lines that the generator makes.
use Rattle.std.specs.Prelude.{ℕ, zero, suc, ◌+◌, List, [], ◌∷◌, ◌++◌, nat_eq, if◌then◌else◌, codes}
use Rattle.std.specs.Fmt.{decimal}
use Rattle.std.specs.List.{join_with_byte}
use Rattle.std.proofs.Common.{get_or}
use Rattle.sample_lines.specs.Draws.{Drawn, draw}

abbrev pub months : List (List ℕ)
months =
    codes "january" ∷ codes "february" ∷ codes "march" ∷ codes "april" ∷ codes "may" ∷ codes "june"
    ∷ codes "july" ∷ codes "august" ∷ codes "september" ∷ codes "october" ∷ codes "november" ∷ codes "december" ∷ []

abbrev pub words : List (List ℕ)
words =
    codes "cats" ∷ codes "dogs" ∷ codes "green" ∷ codes "rain" ∷ codes "bread" ∷ codes "and" ∷ codes "the" ∷ codes "window" ∷ []

-- a number below 100
abbrev pub number : ℕ → Drawn (List ℕ)
number x = let n = draw 100 x in record { value = decimal n.value; state = n.state }

-- a day from 1 to 31, and a month
abbrev pub date : ℕ → Drawn (List ℕ)
date x =
    let day = draw 31 x in
    let month = draw 12 day.state in
    record { value = decimal (1 + day.value) ++ (32 ∷ get_or months month.value []); state = month.state }

abbrev pub word : ℕ → Drawn (List ℕ)
word x = let w = draw 8 x in record { value = get_or words w.value []; state = w.state }

abbrev pub stop : ℕ → Drawn (List ℕ)
stop x = record { value = codes "."; state = x }

-- each of the four kinds of piece comes by a draw below 4
unfoldable pub piece : ℕ → Drawn (List ℕ)
piece x =
    let kind = draw 4 x in
    if nat_eq kind.value 0 then number kind.state else
    if nat_eq kind.value 1 then date kind.state else
    if nat_eq kind.value 2 then word kind.state else stop kind.state

-- n pieces, one after another
unfoldable pub pieces : ℕ → ℕ → Drawn (List (List ℕ))
pieces zero x = record { value = []; state = x }
pieces (suc n) x =
    let before = pieces n x in
    let last = piece before.state in
    record { value = before.value ++ (last.value ∷ []); state = last.state }

-- one to four pieces, with one space between
unfoldable pub line : ℕ → Drawn (List ℕ)
line x =
    let more = draw 4 x in
    let all = pieces (more.value + 1) more.state in
    record { value = join_with_byte 32 all.value; state = all.state }

-- n lines, each going on from the state of the one before
unfoldable pub sampled : ℕ → ℕ → Drawn (List (List ℕ))
sampled zero x = record { value = []; state = x }
sampled (suc n) x =
    let before = sampled n x in
    let last = line before.state in
    record { value = before.value ++ (last.value ∷ []); state = last.state }
