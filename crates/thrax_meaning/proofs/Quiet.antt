-- The count of a shelf that isn't asked.
use Rattle.std.proofs.Common.{◌≡◌, ℕ, subst}
use Rattle.std.specs.Prelude.{Result, Ok, Err}
use Rattle.thrax_meaning.specs.declared.why.Stop.{Stop}
use Rattle.thrax_meaning.specs.declared.why.Stop.TheVariants.{Refused, ShelfFault, Memory}
use Rattle.thrax_meaning.specs.Answers.{Counts, IsQuiet}

pub quiet_counts : {T : Type 0} (r : Result T Stop) (before now : ℕ) → IsQuiet r → now ≡ before → Counts before now r
quiet_counts (Ok x) before now q e = e
quiet_counts (Err (Refused why)) before now q e = e
quiet_counts (Err ShelfFault) before now q e = absurd q
quiet_counts (Err Memory) before now q e = e

-- the count over two parts, of which the first left it
pub counts_on : {T : Type 0} (r : Result T Stop) (before between now : ℕ) → between ≡ before → Counts between now r → Counts before now r
counts_on r before between now e h = subst (λ n. Counts n now r) e h
