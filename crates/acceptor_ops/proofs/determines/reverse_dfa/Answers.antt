use Rattle.std.proofs.Common.{sym, subst}
use Rattle.std.specs.Prelude.{reverse}
use Rattle.std.proofs.lemmas.List.{reverse-reverse}
use Rattle.weighted_relations.specs.Machines.{Reads}
use Rattle.acceptor_ops.proofs.determines.reverse_dfa.Goals as goal

pub returns : goal.returns
returns c = record {
  strings = λ x.
      let p = c.in_ok-d.ensures.strings x in (
        λ h. let r = p.0 h in (reverse r.0, r.1, (c.in_ok-back.ensures.readings x r.0 r.1).0 r.2),
        λ h. p.1 (reverse h.0, h.1, (c.in_ok-back.ensures.readings x (reverse h.0) h.1).1 (subst (λ y. Reads c.args.a.now (reverse x) y h.1) (sym (reverse-reverse h.0)) h.2)),
      );
}
