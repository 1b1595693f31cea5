use Rattle.std.specs.Prelude.{ℕ, List}
use Rattle.std.proofs.Common.{sym, ◌∙◌, ap, subst, arith}
use Rattle.place_words.specs.declared.view.View.{View}
use Rattle.place_words.specs.Places.{Agrees}
use Rattle.place_words.specs.Modes.{IsReading, seen_of}
use Rattle.place_words.specs.Seats.{fact_of, mode_of}
use Rattle.place_table.proofs.Agreeing.{agreed_last}
use Rattle.state_tuples.specs.Codes.{code_of}
use Rattle.state_tuples.proofs.InCodes.{code_length}
use Rattle.shared_cascade.specs.declared.facts.Grammars.{Grammars}
use Rattle.shared_cascade.specs.Grammars.{cascades_of}
use Rattle.shared_cascade.specs.RightCodes.{IsRight}
use Rattle.shared_cascade.proofs.Seen.{seen_here}
use Rattle.shared_cascade.proofs.holding.word_at.Goals as goal

pub returns-clause-held : goal.returns-clause-held
returns-clause-held c =
    let e = c.read_word.ensures in
    let h = c.requires.held in
    let g = fact_of c.args.words.now in
    record {
      own = e.own.0 ∙ h.own;
      tag = ap (λ (v : View Grammars). v.tag) e.view ∙ h.tag;
      reading = subst (λ (v : View Grammars). IsReading v.mode) (sym e.view) tt;
      numbers = h.numbers;
      sound = h.sound;
      some = seen_here g h.numbers h.sound (seen_of (mode_of c.read_word.new.seat)) e.right.0 (subst (λ z. IsRight (cascades_of z) e.right.0) h.tag e.right.1) e.right.2;
    }

pub returns-clause-word : goal.returns-clause-word
returns-clause-word c t end arcs is lt =
    let e = c.read_word.ensures in
    let code : List ℕ = code_of t end arcs in
    let agrees = subst (λ (v : View Grammars). Agrees (seen_of v.mode) code) e.view is.agrees in
    let long = code_length t end arcs is.is_code.is_tuple.states in
    sym (agreed_last (seen_of (mode_of c.args.seat.now)) c.args.index c.read_word.result code agrees (omega arith))
