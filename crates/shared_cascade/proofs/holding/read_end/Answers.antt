use Rattle.std.specs.Prelude.{◌≡◌, List, [], ◌∷◌, ◌++◌, Some, None}
use Rattle.std.proofs.Common.{sym, ◌∙◌, arith}
use Rattle.place_words.specs.declared.view.Read.{Read}
use Rattle.place_words.specs.Seats.{fact_of, view_of}
use Rattle.place_table.specs.Entries.{seen_from}
use Rattle.state_tuples.specs.Codes.{code_of}
use Rattle.state_tuples.proofs.InCodes.{end_told, end_weight}
use Rattle.shared_cascade.proofs.Seen.{an_end, no_end, of_one, seen_before, then_read}
use Rattle.shared_cascade.proofs.holding.read_end.Goals as goal

pub returns-then-told-eq0-clause-end : goal.returns-then-told-eq0-clause-end
returns-then-told-eq0-clause-end c =
    let g = fact_of c.args.words.now in
    let first = view_of c.args.seat.now in
    let mid = view_of c.word_at-told.new.seat in
    let last = view_of c.word_at-weight.new.seat in
    let one : List Read = seen_from 7 (c.word_at-told.result ∷ []) in
    let two : List Read = seen_from 8 (c.word_at-weight.result ∷ []) in
    let s = c.word_at-weight.ensures.held.some in
    of_one g first last (one ++ two) (then_read first mid last one two c.word_at-told.ensures.read c.word_at-weight.ensures.read) s.0 s.1 s.2 s.3 (λ end arcs. None ≡ end) (λ t end arcs is.
    let before = seen_before g mid last two c.word_at-weight.ensures.read t end arcs is in
    let told = c.word_at-told.ensures.word t end arcs before (omega arith) in
    no_end end (sym (told ∙ end_told t end arcs (code_of t end arcs) is.is_code) ∙ c.if-told-eq0.true))

pub returns-else-told-eq0-clause-end : goal.returns-else-told-eq0-clause-end
returns-else-told-eq0-clause-end c =
    let g = fact_of c.args.words.now in
    let first = view_of c.args.seat.now in
    let mid = view_of c.word_at-told.new.seat in
    let last = view_of c.word_at-weight.new.seat in
    let one : List Read = seen_from 7 (c.word_at-told.result ∷ []) in
    let two : List Read = seen_from 8 (c.word_at-weight.result ∷ []) in
    let s = c.word_at-weight.ensures.held.some in
    of_one g first last (one ++ two) (then_read first mid last one two c.word_at-told.ensures.read c.word_at-weight.ensures.read) s.0 s.1 s.2 s.3 (λ end arcs. Some c.word_at-weight.result ≡ end) (λ t end arcs is.
    let before = seen_before g mid last two c.word_at-weight.ensures.read t end arcs is in
    let told = c.word_at-told.ensures.word t end arcs before (omega arith) ∙ end_told t end arcs (code_of t end arcs) is.is_code in
    let weight = c.word_at-weight.ensures.word t end arcs is (omega arith) ∙ end_weight t end arcs (code_of t end arcs) is.is_code in
    an_end end c.word_at-weight.result (λ e. c.if-told-eq0.false (told ∙ e)) weight)
