use Rattle.std.proofs.Common.{List, [], ◌∷◌, ◌++◌, ◌∙◌, ap}
use Rattle.weighted_relations.specs.declared.Arc.{Arc}
use Rattle.reading_first.specs.Expanding.{Growing}
use Rattle.reading_first.proofs.Following.{expanding_first}
use Rattle.reading_first.proofs.Rows.{stays_made, moves_made}
use Rattle.reading_first.proofs.shapes.row_at.Goals as goal

pub returns-in-Some-clause-row : goal.returns-in-Some-clause-row
returns-in-Some-clause-row c =
    let x : Arc = record { input = 0; output = c.in-Some.arc.output; weight = c.in-Some.arc.weight; next = c.in_ok-next.next } in
    stays_made c.args.a.now c.args.parts.now c.number.new.self c.args.q c.in-Some.arc c.in_ok-next.next c.push.new.self.items c.requires.sound c.requires.fit c.in-Some.ensures.forced c.number.ensures.distinct c.in_ok-next.ensures.number
    (c.in_ok-push.ensures.items ∙ ap (λ (l : List Arc). l ++ x ∷ []) c.new-arcs.ensures.items)

pub run-requires : goal.run-requires
run-requires c = record { expanding = expanding_first c.args.a.now c.args.q c.args.parts.now c.in_ok-expansion.expansion c.requires.state c.requires.fit c.in_ok-expansion.ensures.value }

pub returns-clause-row : goal.returns-clause-row
returns-clause-row c =
    let r = c.in_ok-run.ensures in
    moves_made c.args.a.now c.args.parts.now c.run.new.parts c.args.q c.run.new.self c.into_row.result.items c.final_of.result c.requires.sound (r.expanding c.if-not-branch.false) (r.from ∙ ap (λ (e : Growing). e.from) c.in_ok-expansion.ensures.value) c.into_row.ensures.value c.final_of.ensures.value r.keeps
