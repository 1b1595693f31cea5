use Rattle.std.proofs.Common.{◌≡◌, ◌≤◌, true, arith, subst, sym, ap, ◌∙◌}
use Rattle.acceptor_ops.specs.Tables.{step_of}
use Rattle.rewrite_rules.specs.Classes.{first}
use Rattle.rewrite_rules.specs.PartsOf.{live_at}
use Rattle.rewrite_rules.specs.Steps.{CopyOf, CopyOn}
use Rattle.rewrite_rules.proofs.Drawing.{draws_same}
use Rattle.rewrite_rules.proofs.Grouping.{first_byte}
use Rattle.rewrite_rules.proofs.arcs.copies_of.Goals as goal

pub step-sigma-requires-clause-low : goal.step-sigma-requires-clause-low
step-sigma-requires-clause-low c = subst (λ n. 1 ≤ n) (sym c.first-byte.ensures.value) (first_byte c.args.t.now.automata 256 c.args.class c.args.t.now.classes c.requires.ready.classes c.requires.class).0

pub step-sigma-requires-clause-high : goal.step-sigma-requires-clause-high
step-sigma-requires-clause-high c = subst (λ n. n ≤ 257) (sym c.first-byte.ensures.value) (omega (arith, (first_byte c.args.t.now.automata 256 c.args.class c.args.t.now.classes c.requires.ready.classes c.requires.class).1))

pub returns-in_ok-copies_on : goal.returns-in_ok-copies_on
returns-in_ok-copies_on c =
    let t = c.args.t.now in
    let at = c.args.at in
    let on : live_at t.automata.live.items (step_of t.automata.sigma at.sigma (first t.classes c.args.class)) ≡ true =
    ap (live_at t.automata.live.items) (sym (c.step-sigma.ensures.value ∙ ap (step_of t.automata.sigma at.sigma) c.first-byte.ensures.value)) ∙ sym c.if-goes_on.ensures.value in
    record {
      drawn =
          draws_same (CopyOn t at c.args.class) (CopyOf t at c.args.class) c.args.spots.now c.copies_on.new.spots c.args.row.now.items c.copies_on.new.row.items
          (λ x. (λ h. (on, h), λ h. h.1)) c.in_ok-copies_on.ensures.drawn;
    }
