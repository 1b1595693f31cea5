-- Tallies of outcomes.
use Rattle.std.specs.Prelude.{◌==◌, ◌+◌, ℕ, List, [], ◌∷◌, if◌then◌else◌}
use Rattle.shared_cascade.specs.declared.tallies.Outcome.{Outcome}
use Rattle.shared_cascade.specs.declared.tallies.Outcome.TheVariants.{Shown, Published, NoPlace, Wide}
use Rattle.shared_cascade.specs.declared.tallies.Tally.{Tally}

-- one more, but for the greatest value
abbrev pub one_more : ℕ → ℕ
one_more n = if n == 18446744073709551615 then n else n + 1

abbrev pub with_outcome : Outcome → Tally → Tally
with_outcome Shown t = record t { looks = one_more t.looks; shown = one_more t.shown }
with_outcome Published t = record t { looks = one_more t.looks; absent = one_more t.absent; published = one_more t.published }
with_outcome NoPlace t = record t { looks = one_more t.looks; absent = one_more t.absent; no_place = one_more t.no_place }
with_outcome Wide t = record t { looks = one_more t.looks; absent = one_more t.absent; wide = one_more t.wide }

-- of several, in order
abbrev pub with_all : List Outcome → Tally → Tally
with_all [] t = t
with_all (o ∷ os) t = with_all os (with_outcome o t)

abbrev pub no_tally : Tally
no_tally = record { looks = 0; shown = 0; absent = 0; published = 0; no_place = 0; wide = 0 }
