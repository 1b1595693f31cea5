use Rattle.std.proofs.Common.{Err, rules}
use Rattle.speak_setup.proofs.Steps.{read_all, read_fault, read_only}
use Rattle.speak_setup.proofs.Values.{result_names}
use Rattle.speak_setup.proofs.setup.read_setup.Goals as goal

pub returns-clause-read : goal.returns-clause-read
returns-clause-read c = read_all c.args.need c.args.text.now c.in_ok-read_entries.field-0 c.complete.result c.in_ok-read_entries.ensures.found c.complete.ensures.setup c.complete.ensures.fault

pub returns-clause-only : goal.returns-clause-only
returns-clause-only c = read_only c.args.need c.args.text.now c.complete.result (read_all c.args.need c.args.text.now c.in_ok-read_entries.field-0 c.complete.result c.in_ok-read_entries.ensures.found c.complete.ensures.setup c.complete.ensures.fault)

pub returns-clause-names : goal.returns-clause-names
returns-clause-names c = result_names c.args.need c.args.text.now c.complete.result (read_all c.args.need c.args.text.now c.in_ok-read_entries.field-0 c.complete.result c.in_ok-read_entries.ensures.found c.complete.ensures.setup c.complete.ensures.fault)

pub returns-in_err-read_entries-clause-read : goal.returns-in_err-read_entries-clause-read
returns-in_err-read_entries-clause-read c = let h = read_fault c.args.need c.args.text.now c.in_err-read_entries.field-0.0 c.in_err-read_entries.ensures.fault in search rules

pub returns-in_err-read_entries-clause-only : goal.returns-in_err-read_entries-clause-only
returns-in_err-read_entries-clause-only c = let h = read_only c.args.need c.args.text.now (Err c.in_err-read_entries.field-0.0) (read_fault c.args.need c.args.text.now c.in_err-read_entries.field-0.0 c.in_err-read_entries.ensures.fault) in search rules
