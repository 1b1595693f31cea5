use Rattle.std.proofs.Common.{ℕ, List, take, get_or, sym, ap, ◌∙◌}
use Rattle.std.proofs.lemmas.List.{take_more}
use Rattle.place_words.specs.Modes.{place_or}
use Rattle.place_words.specs.Steps.{wrote}
use Rattle.place_words.specs.Seats.{mode_of, view_of}
use Rattle.place_table.specs.Entries.{writing}
use Rattle.place_table.proofs.Writing.{writing_more}
use Rattle.place_table.proofs.publishing.fill.Goals as goal

pub loop-x-preserved : goal.loop-x-preserved
loop-x-preserved g c = let h = c.loop-x.invariant in let e = c.write_word.ensures in let v = view_of c.args.seat.now in let p : ℕ = place_or 0 (mode_of c.args.seat.now) in
    let code : List ℕ = c.args.code.now in let i : ℕ = c.loop-x.x-index in record {
      own = e.own.0 ∙ h.own;
      few = h.few;
      view = e.view ∙ ap (λ u. wrote u (place_or 0 u.mode) (get_or code i 0)) h.view ∙ writing_more v p (get_or code i 0) (take i code) ∙ ap (writing v p) (sym (take_more code i 0 c.loop-x-test.true));
    }
