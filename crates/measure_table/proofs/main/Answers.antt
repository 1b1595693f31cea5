use Rattle.std.specs.Prelude.{◌≡◌, All, get_or}
use Rattle.std.proofs.Common.{ap}
use Rattle.std.proofs.lemmas.List.Elements.{All-pop}
use Rattle.std.proofs.lemmas.Option.{slice_get-get_or}
use Rattle.place_table.specs.Tables.{words_of}
use Rattle.place_words.specs.Seats.{IsSeatOf, mode_of}
use Rattle.place_words.specs.declared.view.Mode.TheVariants.{Idle}
use Rattle.measure_table.proofs.main.Goals as goal

pub look_all-requires-clause-seats : goal.look_all-requires-clause-seats
look_all-requires-clause-seats g c κs =
    let seats = c.in_ok-table.seats.items in
    let own = c.in_ok-table.ensures.own in
    let views = c.in_ok-table.ensures.views in
    (All-pop (λ s. IsSeatOf (words_of c.in_ok-table.table) s × (mode_of s ≡ Idle)) seats c.pop.new.self.items c.pop.result c.pop.ensures.items
    (λ k d lt. (own k (get_or seats k d) (slice_get-get_or seats k d lt), ap (λ v. v.mode) (views k (get_or seats k d) (slice_get-get_or seats k d lt))))).0
