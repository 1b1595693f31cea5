use Rattle.std.specs.Prelude.{◌<◌, ℕ, [], ◌∷◌, get_or, length}
use Rattle.std.proofs.Common.{◌∙◌, arith}
use Rattle.place_words.specs.Seats.{fact_of, view_of}
use Rattle.place_table.specs.Entries.{seen_from}
use Rattle.state_tuples.specs.Codes.{code_of, code_width, no_arc}
use Rattle.state_tuples.proofs.InCodes.{labels_there}
use Rattle.shared_cascade.proofs.Seen.{seen_before}
use Rattle.shared_cascade.proofs.holding.labels_at.Goals as goal

pub returns-clause-read : goal.returns-clause-read
returns-clause-read c = (seen_from (code_width c.args.k) (c.word_at.result ∷ []), omega arith, c.word_at.ensures.read)

pub returns-clause-word : goal.returns-clause-word
returns-clause-word c t end arcs is =
    let g = fact_of c.args.words.now in
    let k : ℕ = c.args.k in
    let old = seen_before g (view_of c.args.seat.now) (view_of c.word_at.new.seat) (seen_from (code_width k) (c.word_at.result ∷ [])) c.word_at.ensures.read t end arcs is in
    let lt : k < length arcs = c.requires.within t end arcs old in
    c.word_at.ensures.word t end arcs is (omega arith) ∙ labels_there t end arcs (code_of t end arcs) is.is_code k lt

pub returns-clause-known : goal.returns-clause-known
returns-clause-known c =
    let s = c.word_at.ensures.held.some in
    let w = returns-clause-word c s.0 s.1 s.2 s.3 in
    let g = fact_of c.args.words.now in
    let k : ℕ = c.args.k in
    let old = seen_before g (view_of c.args.seat.now) (view_of c.word_at.new.seat) (seen_from (code_width k) (c.word_at.result ∷ [])) c.word_at.ensures.read s.0 s.1 s.2 s.3 in
    (get_or s.2 k no_arc, s.3.is_code.are_arcs k no_arc (c.requires.within s.0 s.1 s.2 old), w)
