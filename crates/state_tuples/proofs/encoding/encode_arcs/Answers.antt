use Rattle.std.proofs.Common.{rules, ◌≡◌, ◌∙◌, ◌++◌, ℕ, List, length, take, sym, ap, arith, refl}
use Rattle.std.proofs.lemmas.List.{take_all}
use Rattle.std.specs.List.{flat_map}
use Rattle.state_tuples.specs.declared.tuples.TupleArc.{TupleArc}
use Rattle.state_tuples.specs.Positions.{most_parts}
use Rattle.state_tuples.specs.Codes.{arc_words, code_width, head_words}
use Rattle.state_tuples.proofs.InCodes.{code_length}
use Rattle.state_tuples.proofs.encoding.encode_arcs.Goals as goal

pub returns-then-width-gt-MOST_WORDS : goal.returns-then-width-gt-MOST_WORDS
returns-then-width-gt-MOST_WORDS c =
    let wide : length c.args.t.now.states ≡ most_parts = search rules in
    record { code = (c.width_of-width.ensures ∙ sym (code_length c.args.t.now c.args.finality c.args.arcs.now wide), omega arith, refl) }

pub returns : goal.returns
returns c =
    let arcs : List TupleArc = c.args.arcs.now in
    let is : c.width_of-width.result ≡ code_width (length arcs) = c.width_of-width.ensures in
    let all : c.width_of-width.result ≡ code_width c.loop-i.i = omega arith in
    record {
      code = (
        is ∙ sym (code_length c.args.t.now c.args.finality arcs c.put_head.ensures.states),
        omega arith,
        ap (λ (n : ℕ). take n c.loop-i.into) all ∙ (c.loop-i.invariant
            ∙ ap (λ l. head_words (length arcs) c.args.t.now c.args.finality ++ flat_map arc_words l) (take_all c.loop-i.i arcs (omega arith))),
      );
    }
