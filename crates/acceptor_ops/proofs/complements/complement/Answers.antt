use Rattle.std.proofs.Common.{◌≡◌, ◌↔◌, ◌<◌, ◌++◌, ◌∷◌, [], false, get_or, length, map, not, take, take_all, ap, sym, subst, ◌∙◌, arith}
use Rattle.std.proofs.lemmas.List.{take_more, map-append}
use Rattle.acceptor_ops.specs.Numbered.{RowsMade}
use Rattle.acceptor_ops.specs.Tables.{Table, Accepts, Others}
use Rattle.acceptor_ops.proofs.Flipped.{flipped_total, flipped_accepts}
use Rattle.acceptor_ops.proofs.complements.complement.Goals as goal

pub loop-s-preserved : goal.loop-s-preserved
loop-s-preserved c =
    let n : length c.args.d.now.accepting ≡ length c.args.d.now.next = c.len-s-end.ensures.even in
    let l : c.loop-s.s < length c.args.d.now.next = omega arith in
    let k : c.loop-s.s < length c.args.d.now.accepting = omega arith in
    record {
      next = ap (λ (v : RowsMade). v.next) c.in_ok-push.ensures.value ∙ ap (λ v. v ++ c.in_ok-copied.field-0.items ∷ []) c.loop-s.invariant.next ∙ ap (λ v. take c.loop-s.s c.args.d.now.next ++ v ∷ []) (c.in_ok-copied.ensures.items ∙ c.row.ensures.value) ∙ sym (take_more c.args.d.now.next c.loop-s.s [] l);
      marks = ap (λ (v : RowsMade). v.accepting) c.in_ok-push.ensures.value ∙ ap (λ v. v ++ not c.accepts.result ∷ []) c.loop-s.invariant.marks ∙ ap (λ v. map not (take c.loop-s.s c.args.d.now.accepting) ++ not v ∷ []) c.accepts.ensures.value ∙ sym (ap (map not) (take_more c.args.d.now.accepting c.loop-s.s false k) ∙ map-append not (take c.loop-s.s c.args.d.now.accepting) (get_or c.args.d.now.accepting c.loop-s.s false ∷ []));
    }

pub from_rows-requires : goal.from_rows-requires
from_rows-requires c =
    let e : Table = record { start = c.start.result; classes = c.in_ok-classes.classes.items; next = c.loop-s.rows.next; accepting = c.loop-s.rows.accepting } in
    let n : length c.args.d.now.accepting ≡ length c.args.d.now.next = c.start.ensures.total.count in
    record {
      total =
          flipped_total c.args.d.now e c.start.ensures.total c.start.ensures.value (c.in_ok-classes.ensures.items ∙ c.classes.ensures.value)
          (c.loop-s.invariant.next ∙ take_all c.loop-s.s c.args.d.now.next (omega arith))
          (c.loop-s.invariant.marks ∙ ap (map not) (take_all c.loop-s.s c.args.d.now.accepting (omega arith)));
    }

pub returns : goal.returns
returns c =
    let e : Table = record { start = c.start.result; classes = c.in_ok-classes.classes.items; next = c.loop-s.rows.next; accepting = c.loop-s.rows.accepting } in
    let n : length c.args.d.now.accepting ≡ length c.args.d.now.next = c.start.ensures.total.count in
    record {
      strings = λ x.
          subst (λ t. Accepts t x ↔ Others (Accepts c.args.d.now) x) (sym c.from_rows.ensures.value)
          (flipped_accepts c.args.d.now e c.start.ensures.total c.start.ensures.value (c.in_ok-classes.ensures.items ∙ c.classes.ensures.value)
          (c.loop-s.invariant.next ∙ take_all c.loop-s.s c.args.d.now.next (omega arith))
          (c.loop-s.invariant.marks ∙ ap (map not) (take_all c.loop-s.s c.args.d.now.accepting (omega arith))) x);
    }
