use Rattle.std.proofs.Common.{◌≡◌, ◌+◌, ◌*◌, List}
use Rattle.place_words.specs.declared.view.Entry.{Entry}
use Rattle.shared_cascade.specs.Callers.{places_in}
use Rattle.shared_cascade.specs.Sweeps.{AreRounds, SweptBy, nothing_swept}
use Rattle.shared_cascade.proofs.shared.Shared.sweep.Given as goal

abbrev pub invariant-loop-round : goal.invariant-loop-round
invariant-loop-round l = (es : List Entry) × AreRounds (places_in l.self) l._round es × SweptBy l.self l.initial.caller l.caller es nothing_swept l.swept
    × (l.swept.done + l.swept.was ≡ l._round * places_in l.self)
