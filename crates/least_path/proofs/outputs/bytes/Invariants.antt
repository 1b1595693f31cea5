use Rattle.std.proofs.Common.{◌≡◌, ◌<◌, ◌++◌, length}
use Rattle.std.specs.Prelude.{All, reverse}
use Rattle.least_path.specs.Texts.{texts, text_of}
use Rattle.least_path.proofs.outputs.bytes.Given as goal

abbrev pub invariant-loop-at : goal.invariant-loop-at
invariant-loop-at l = record {
  within : l.at < length (texts l.letters);
  small : All (λ n. n < 256) (text_of (texts l.letters) l.at);
  rest : text_of (texts l.letters) l.number ≡ text_of (texts l.letters) l.at ++ reverse l.bytes.items;
}

abbrev pub decreases-loop-at : goal.decreases-loop-at
decreases-loop-at l = l.at
