use Rattle.std.proofs.Common.{refl}
use Rattle.core_expressions.specs.Views.{expression_of}
use Rattle.grammar_build.proofs.Members.{pair_entry}
use Rattle.grammar_build.proofs.lexicons.pair_of.Goals as goal

pub returns : goal.returns
returns c = pair_entry (expression_of c.args.a.now) (expression_of c.args.b.now) c.in-Some.read.now c.in-Some-text_of.written.now (record { input = c.in_ok-input.input; output = c.in_ok-output.output; weight = 0 }) c.in-Some.ensures c.in-Some-text_of.ensures c.requires.reads c.requires.writes c.in_ok-input.ensures.items c.in_ok-output.ensures.items refl
