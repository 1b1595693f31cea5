use Rattle.thrax_syntax.proofs.Whole.{answer_found, answer_only}
use Rattle.thrax_syntax.proofs.files.read_file.Goals as goal

pub returns-clause-found : goal.returns-clause-found
returns-clause-found c = answer_found c.args.text.now c.read.result c.read.ensures

pub returns-clause-only : goal.returns-clause-only
returns-clause-only c = answer_only c.args.text.now c.read.result c.read.ensures
