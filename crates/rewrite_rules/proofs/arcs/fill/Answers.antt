use Rattle.std.proofs.Common.{sym, subst, OnOk}
use Rattle.rewrite_rules.specs.PartsOf.{parts}
use Rattle.rewrite_rules.specs.Steps.{IsMove}
use Rattle.rewrite_rules.specs.Drawn.{Draws}
use Rattle.rewrite_rules.proofs.arcs.fill.Goals as goal

pub returns-in-Hub : goal.returns-in-Hub
returns-in-Hub c = record {
  drawn = subst (λ s. OnOk c.guesses.result (Draws (IsMove (parts c.args.tau.now c.args.t.now.automata) s) c.args.spots.now c.guesses.new.spots c.args.row.now.items c.guesses.new.row.items)) (sym c.in-Hub.is) c.guesses.ensures.drawn;
}

pub returns-in-Outside : goal.returns-in-Outside
returns-in-Outside c = record {
  drawn = subst (λ s. OnOk c.outside.result (Draws (IsMove (parts c.args.tau.now c.args.t.now.automata) s) c.args.spots.now c.outside.new.spots c.args.row.now.items c.outside.new.row.items)) (sym c.in-Outside.is) c.outside.ensures.drawn;
}

pub returns-in-Inside : goal.returns-in-Inside
returns-in-Inside c = record {
  drawn = subst (λ s. OnOk c.inside.result (Draws (IsMove (parts c.args.tau.now c.args.t.now.automata) s) c.args.spots.now c.inside.new.spots c.args.row.now.items c.inside.new.row.items)) (sym c.in-Inside.is) c.inside.ensures.drawn;
}
