use Rattle.std.proofs.Common.{◌≡◌, ◌+◌, ◌≤◌, List, length}
use Rattle.weighted_relations.specs.Expressions.{Expression}
use Rattle.text_lines.specs.Lines.{lines}
use Rattle.string_files.specs.StringFiles.{entries_from}
use Rattle.string_files.specs.Entries.{before}
use Rattle.string_files.proofs.entries.first_bad.Given as goal

abbrev pub invariant-loop-rest : goal.invariant-loop-rest
invariant-loop-rest l = record {
  so_far : (vs : List Expression) × (before vs (entries_from (l.number + 1) (lines l.rest)) ≡ entries_from (l.lines_before + 1) (lines l.text));
  small : l.number + length l.rest ≤ l.lines_before + length l.text;
}

abbrev pub decreases-loop-rest : goal.decreases-loop-rest
decreases-loop-rest l = length l.rest
