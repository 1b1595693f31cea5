use Rattle.std.proofs.Common.{rules, sym, ◌∙◌}
use Rattle.compose_filter.proofs.Exploring.{end_sum}
use Rattle.compose_filter.proofs.composes.end.Goals as goal

pub overflow_add-result : goal.overflow_add-result
overflow_add-result c =
    let fits = end_sum c.args.a.now c.args.b.now c.args.t.qa c.args.t.qb c.in-Some-Some.w c.in-Some-Some.v (sym c.final_of.ensures.value ∙ c.in-Some-Some.is-0) (sym c.final_of-2.ensures.value ∙ c.in-Some-Some.is-1) c.requires.fits in
    search rules
