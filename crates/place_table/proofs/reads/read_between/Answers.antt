use Rattle.std.proofs.Common.{◌<◌, ◌≤◌, ℕ, List, length, take, drop, ap, ◌∙◌, subst, arith}
use Rattle.std.proofs.lemmas.List.{take-set-le}
use Rattle.place_words.specs.Modes.{place_or}
use Rattle.place_words.specs.Steps.{saw}
use Rattle.place_words.specs.Seats.{mode_of, view_of}
use Rattle.place_table.specs.Entries.{reading, seen_from}
use Rattle.place_table.proofs.Runs.{reading_more, seen_more}
use Rattle.place_table.proofs.reads.read_between.Goals as goal

pub loop-i-preserved : goal.loop-i-preserved
loop-i-preserved g c = let h = c.loop-i.invariant in let e = c.read_word.ensures in let v = view_of c.args.seat.now in let p : ℕ = place_or 0 (mode_of c.args.seat.now) in
    let i : ℕ = c.loop-i.i in let w : ℕ = c.read_word.result in let from : ℕ = c.args.from in let into : List ℕ = c.loop-i.into in
    let low : from ≤ i = omega arith in let high : i < length into = omega (arith, c.loop-i.auto.into) in record {
      own = e.own.0 ∙ h.own;
      kept = take-set-le from into i w low ∙ h.kept;
      view = e.view ∙ ap (λ u. saw u (place_or 0 u.mode) i w) h.view ∙ reading_more v p i w (seen_from from (drop from (take i into))) ∙ ap (reading v p) (seen_more from i w into low high);
      right = λ _. (e.right.0, subst (λ z. g.F.Fact.right z e.right.0) (ap (λ u. u.tag) h.view) e.right.1, e.right.2);
    }
