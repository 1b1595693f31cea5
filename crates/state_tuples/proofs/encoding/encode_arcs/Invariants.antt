use Rattle.std.proofs.Common.{◌≡◌, ◌++◌, length, take}
use Rattle.std.specs.List.{flat_map}
use Rattle.state_tuples.specs.Codes.{arc_words, code_width, head_words}
use Rattle.state_tuples.proofs.encoding.encode_arcs.Given as goal

abbrev pub invariant-loop-i : goal.invariant-loop-i
invariant-loop-i l = take (code_width l.i) l.into ≡ head_words (length l.arcs) l.t l.fn.finality ++ flat_map arc_words (take l.i l.arcs)
