use Rattle.std.proofs.Common.{◌∙◌, sym, ap, arith, ◌+◌, ◌<◌, ◌++◌, [], ◌∷◌, length}
use Rattle.std.proofs.lemmas.Bool.{eqb-false}
use Rattle.text_lines.specs.Lines.{lines}
use Rattle.string_files.specs.StringFiles.{entries_from}
use Rattle.string_files.specs.Entries.{before, said_by}
use Rattle.string_files.proofs.EntryRules.{entry_on}
use Rattle.string_files.proofs.entries.first_bad.Goals as goal

pub loop-rest-preserved : goal.loop-rest-preserved
loop-rest-preserved c =
    let line = c.first_line.result.0.now in
    let after = c.first_line.result.1.now in
    let n = c.loop-rest.number + 1 in
    let vs = c.loop-rest.invariant.so_far.0 in
    let other = eqb-false (length line) 0 (sym c.if-is_empty.ensures) in
    let some : 0 < length line = omega (arith, other) in
    let here = ap (λ v. before vs (entries_from n v)) (sym c.first_line.ensures.first) ∙ c.loop-rest.invariant.so_far.1 in
    record {
      so_far = (vs ++ said_by c.in-Some._entry ∷ [], entry_on vs n line (lines after) (said_by c.in-Some._entry) _ some (sym c.in-Some.ensures) here);
      small = omega arith;
    }
