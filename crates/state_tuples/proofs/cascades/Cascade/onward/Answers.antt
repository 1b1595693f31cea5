use Rattle.std.proofs.Common.{◌≡◌, ◌∷◌, [], length, sym, ◌∙◌, subst}
use Rattle.std.specs.List.{filter_map}
use Rattle.state_tuples.specs.declared.joins.Asked.TheVariants.{Every, Only}
use Rattle.state_tuples.specs.Stages.{alone_arc}
use Rattle.state_tuples.proofs.OnePart.{told}
use Rattle.state_tuples.proofs.cascades.Cascade.onward.Goals as goal

pub returns : goal.returns
returns c =
    let one : 1 ≡ length c.args.self.now.parts = sym c.if-part_count-ne1.false ∙ c.part_count.ensures.value in
    record {
      told = λ o. told c.args.self.now c.args.t.now one c.onward_by.result
          (λ e. subst (λ row. filter_map (alone_arc (Only 0)) row ≡ []) c.row.ensures (c.onward_by.ensures.reads e))
          (λ a e. subst (λ row. filter_map (alone_arc Every) row ≡ a ∷ []) c.row.ensures (c.onward_by.ensures.moves a e))
          c.onward_by.ensures.silent
          (λ a e. sym c.final_at.ensures ∙ c.onward_by.ensures.no_end a e);
    }
