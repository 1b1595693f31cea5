use Rattle.std.proofs.Common.{◌≡◌, ◌+◌, ◌≤◌, ◌<◌, length, map}
use Rattle.weighted_relations.specs.Expressions.{members, sizes}
use Rattle.checked_expressions.specs.Answers.{shared_of}
use Rattle.text_lines.specs.Lines.{lines}
use Rattle.string_files.specs.StringFiles.{entries_from, file_entries}
use Rattle.string_files.specs.Entries.{before}
use Rattle.string_files.proofs.entries.lexicon.Given as goal

abbrev pub invariant-loop-rest : goal.invariant-loop-rest
invariant-loop-rest l = record {
  so_far : before (map shared_of l.values.items) (entries_from (l.number + 1) (lines l.rest)) ≡ file_entries l.bytes;
  small : l.number + length l.rest ≤ length l.bytes;
  total : l.total ≡ sizes (members (map shared_of l.values.items));
  within : l.total + 1 < 4194304;
}

abbrev pub decreases-loop-rest : goal.decreases-loop-rest
decreases-loop-rest l = length l.rest
