use Rattle.std.specs.Prelude.{[]}
use Rattle.std.proofs.Common.{arith}
use Rattle.place_words.specs.Seats.{view_of}
use Rattle.shared_cascade.proofs.Seen.{read_none}
use Rattle.shared_cascade.proofs.holding.labels_from.Goals as goal

pub returns-then-k-count-clause-read : goal.returns-then-k-count-clause-read
returns-then-k-count-clause-read c = ([], omega arith, read_none (view_of c.args.seat.now) c.requires.held.reading)

pub returns-then-k-count-clause-word : goal.returns-then-k-count-clause-word
returns-then-k-count-clause-word c t end arcs is lt = absurd (let e = c.requires.count t end arcs is in let test = c.if-k-count.true in omega arith)

pub labels_at-requires-clause-within : goal.labels_at-requires-clause-within
labels_at-requires-clause-within c t end arcs is = (let e = c.requires.count t end arcs is in let test = c.if-k-count.false in omega arith)
