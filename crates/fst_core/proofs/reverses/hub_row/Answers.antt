use Rattle.std.proofs.Common.{◌+◌, ◌++◌, ◌∷◌, [], Vec, Global, sym, ap, subst, ◌∙◌}
use Rattle.weighted_relations.specs.declared.Arc.{Arc}
use Rattle.fst_core.specs.Turned.{HubRow}
use Rattle.fst_core.proofs.Turns.{hub_some, hub_other}
use Rattle.fst_core.proofs.reverses.hub_row.Goals as goal
use Rattle.fst_core.proofs.reverses.hub_row.Goals.{in-Some+in_ok-push, in_default}

pub loop-s-preserved : goal.loop-s-preserved
loop-s-preserved c = elim c.match-final_of.branch [
  | in-Some+in_ok-push w ↦
      subst (HubRow c.args.a.now (c.loop-s.s + 1)) (sym (ap (λ (v : Vec Arc Global). v.items) w.row-is ∙ w.in_ok-push.ensures.items ∙ ap (λ (a : Arc). c.loop-s.row.items ++ a ∷ []) w.empty.ensures))
      (hub_some c.args.a.now c.loop-s.s w.in-Some.w c.loop-s.row.items c.loop-s.invariant (sym c.final_of.ensures.value ∙ w.in-Some.is))
  | in_default w ↦
      subst (HubRow c.args.a.now (c.loop-s.s + 1)) (sym (ap (λ (v : Vec Arc Global). v.items) w.row-is))
      (hub_other c.args.a.now c.loop-s.s c.loop-s.row.items c.loop-s.invariant (sym c.final_of.ensures.value ∙ w.in_default.is))
]
