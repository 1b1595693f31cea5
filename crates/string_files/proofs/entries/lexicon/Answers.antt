use Rattle.std.proofs.Common.{◌≡◌, ◌∙◌, sym, ap, subst, arith, ◌+◌, ◌<◌, ◌≤◌, ◌++◌, [], ◌∷◌, length, map, Some}
use Rattle.std.proofs.lemmas.Bool.{eqb-false}
use Rattle.weighted_relations.specs.Expressions.{members, sizes, size as size_of}
use Rattle.checked_expressions.specs.declared.value.Value.{Value}
use Rattle.checked_expressions.specs.Answers.{shared_of}
use Rattle.text_lines.specs.Lines.{lines}
use Rattle.string_files.specs.StringFiles.{entries_from, file_entries, line_entry}
use Rattle.string_files.specs.Entries.{before, said_by}
use Rattle.string_files.proofs.EntryRules.{entry_on, entry_large, entry_same, pushed, sizes_push, oversized_is}
use Rattle.string_files.proofs.entries.lexicon.Goals as goal

pub returns-in-Err-Refused : goal.returns-in-Err-Refused
returns-in-Err-Refused c =
    let line = c.first_line.result.0.now in
    let after = c.first_line.result.1.now in
    let n = c.loop-rest.number + 1 in
    let vs = map shared_of c.loop-rest.values.items in
    let e = said_by c.in-Some.entry in
    let other = eqb-false (length line) 0 (sym c.if-is_empty.ensures) in
    let some : 0 < length line = omega (arith, other) in
    let is : line_entry line ≡ Some e = sym c.in-Some.ensures in
    let here = ap (λ v. before vs (entries_from n v)) (sym c.first_line.ensures.first) ∙ c.loop-rest.invariant.so_far in
    let on = entry_on vs n line (lines after) e _ some is here in
    let large = entry_large c.in-Some.entry line c.in-Err-Refused.field-0-0 is (rw c.in-Err-Refused.field-0-is at c.in-Err-Refused.ensures) in
    let all = sizes_push vs e in
    let big : 4194304 ≤ 1 + sizes (members (vs ++ e ∷ [])) = omega (arith, large, all) in
    oversized_is c.oversized.result (vs ++ e ∷ []) (entries_from (n + 1) (lines after)) (file_entries c.args.bytes.now) big on c.oversized.ensures

pub returns-then-total : goal.returns-then-total
returns-then-total c =
    let line = c.first_line.result.0.now in
    let after = c.first_line.result.1.now in
    let n = c.loop-rest.number + 1 in
    let vs = map shared_of c.loop-rest.values.items in
    let e = said_by c.in-Some.entry in
    let other = eqb-false (length line) 0 (sym c.if-is_empty.ensures) in
    let some : 0 < length line = omega (arith, other) in
    let is : line_entry line ≡ Some e = sym c.in-Some.ensures in
    let here = ap (λ v. before vs (entries_from n v)) (sym c.first_line.ensures.first) ∙ c.loop-rest.invariant.so_far in
    let on = entry_on vs n line (lines after) e _ some is here in
    let same = entry_same c.in-Some.entry line (shared_of c.in-Ok.value) is c.in-Ok.ensures in
    let all = sizes_push vs e in
    let long = ap size_of same ∙ sym c.in-Ok.value.value.counted in
    let read = ap (λ (v : Value). v.size) c.deref.ensures in
    let big : 4194304 ≤ 1 + sizes (members (vs ++ e ∷ [])) = omega (arith, all, long, read, c.if-total.true, c.loop-rest.invariant.total) in
    oversized_is c.oversized-then-total.result (vs ++ e ∷ []) (entries_from (n + 1) (lines after)) (file_entries c.args.bytes.now) big on c.oversized-then-total.ensures

pub loop-rest-preserved : goal.loop-rest-preserved
loop-rest-preserved c =
    let line = c.first_line.result.0.now in
    let after = c.first_line.result.1.now in
    let n = c.loop-rest.number + 1 in
    let vs = map shared_of c.loop-rest.values.items in
    let e = said_by c.in-Some.entry in
    let other = eqb-false (length line) 0 (sym c.if-is_empty.ensures) in
    let some : 0 < length line = omega (arith, other) in
    let is : line_entry line ≡ Some e = sym c.in-Some.ensures in
    let here = ap (λ v. before vs (entries_from n v)) (sym c.first_line.ensures.first) ∙ c.loop-rest.invariant.so_far in
    let on = entry_on vs n line (lines after) e _ some is here in
    let same = entry_same c.in-Some.entry line (shared_of c.in-Ok.value) is c.in-Ok.ensures in
    let grown = pushed c.loop-rest.values.items c.push.new.self.items c.in-Ok.value e c.in_ok-push-in-Ok.ensures.items same in
    let all = ap (λ l. sizes (members l)) grown ∙ sizes_push vs e in
    let long = ap size_of same ∙ sym c.in-Ok.value.value.counted in
    let read = ap (λ (v : Value). v.size) c.deref.ensures in
    record {
      so_far = ap (λ l. before l (entries_from (n + 1) (lines after))) grown ∙ on;
      small = omega arith;
      total = omega (arith, all, long, read, c.loop-rest.invariant.total);
      within = omega (arith, c.if-total.false);
    }
