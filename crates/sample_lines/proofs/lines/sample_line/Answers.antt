use Rattle.std.proofs.Common.{◌≡◌, arith}
use Rattle.std.proofs.lemmas.Grind.{common_steps}
use Rattle.sample_lines.specs.Draws.{next_state}
use Rattle.sample_lines.specs.Lines.{line}
use Rattle.sample_lines.proofs.Joined.{first_text, first-state, next_text, next-state}
use Rattle.sample_lines.proofs.lines.sample_line.Goals as goal

pub loop-init : goal.loop-init
loop-init c =
    let text = first_text (next_state c.args.state) in
    let state = first-state (next_state c.args.state) in
    grind (arith, common_steps)

pub loop-preserved : goal.loop-preserved
loop-preserved c =
    let text = next_text c.loop.counter (next_state c.args.state) in
    let state = next-state c.loop.counter (next_state c.args.state) in
    grind (arith, common_steps)

pub returns-clause-line : goal.returns-clause-line
unfolding line
returns-clause-line c =
    let all : c.loop.counter ≡ c.below-more.result = omega arith in
    cc

pub returns-clause-next : goal.returns-clause-next
unfolding line
returns-clause-next c =
    let all : c.loop.counter ≡ c.below-more.result = omega arith in
    cc
