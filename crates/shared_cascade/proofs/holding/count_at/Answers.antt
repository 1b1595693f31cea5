use Rattle.std.specs.Prelude.{◌≡◌, ◌≤◌, ◌-◌, ◌/◌, length}
use Rattle.std.proofs.Common.{rules, arith}
use Rattle.state_tuples.specs.Codes.{code_width}
use Rattle.state_tuples.proofs.InCodes.{code_length}
use Rattle.shared_cascade.proofs.holding.count_at.Goals as goal

pub returns-clause-few : goal.returns-clause-few
returns-clause-few c =
    let s = c.word_at-length.ensures.held.some in
    let w : c.word_at-length.result ≡ code_width (length s.2) = c.word_at-length.ensures.word s.0 s.1 s.2 s.3 (omega arith) in
    let long = code_length s.0 s.1 s.2 s.3.is_code.is_tuple.states in
    let room = s.3.right.room in
    omega arith

pub overflow_cast-result-3 : goal.overflow_cast-result-3
overflow_cast-result-3 c =
    let s = c.word_at-length.ensures.held.some in
    let w : c.word_at-length.result ≡ code_width (length s.2) = c.word_at-length.ensures.word s.0 s.1 s.2 s.3 (omega arith) in
    let long = code_length s.0 s.1 s.2 s.3.is_code.is_tuple.states in
    let room = s.3.right.room in
    let small : (c.word_at-length.result - 9) / 6 ≤ 339 = omega arith in
    search rules
