use Rattle.std.proofs.Common.{◌≡◌, ◌++◌, ℕ, List, Bor, length}
use Rattle.std.specs.List.{flat_map}
use Rattle.speak_core.proofs.texts.joined.Given as goal

abbrev pub invariant-loop-rest : goal.invariant-loop-rest
invariant-loop-rest l = l.text.items ++ flat_map (λ (piece : Bor (List ℕ)). piece.now) l.rest ≡ flat_map (λ (piece : Bor (List ℕ)). piece.now) l.pieces

abbrev pub decreases-loop-rest : goal.decreases-loop-rest
decreases-loop-rest l = length l.rest
