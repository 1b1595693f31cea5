use Rattle.std.proofs.Common.{◌≡◌, ℕ, ◌+◌, [], Some, length}
use Rattle.std.specs.List.{slice_get}
use Rattle.place_words.specs.Modes.{idle}
use Rattle.place_words.proofs.words.opening.deal.Given as goal

abbrev pub invariant-loop-number : goal.invariant-loop-number
invariant-loop-number g l = (length l.all.items ≡ l.number)
    × (l.base.table_id ≡ l.words.table.shared.table_id)
    × (l.base.me ≡ (idle (g.F.Fact.tag l.words.about.fact) l.seats l.number l.seats, []))
    × ((k : ℕ) (s : _) → slice_get l.all.items k ≡ Some s → (s.base.table_id ≡ l.words.table.shared.table_id) × (s.number ≡ k) × (s.base.me.0 ≡ idle (g.F.Fact.tag l.words.about.fact) l.seats k (k + 1)))
