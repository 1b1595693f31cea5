use Rattle.std.proofs.Common.{get_or, refl, subst, sym, arith}
use Rattle.weighted_relations.specs.declared.Arc.{Arc}
use Rattle.merged_arcs.specs.Merged.{AllApart, RowMade, none}
use Rattle.merged_arcs.proofs.Runs.{Among, made_more, made_all, apart_run}
use Rattle.merged_arcs.proofs.Parting.{parted_more}
use Rattle.merged_arcs.proofs.rows.merged_row.Goals as goal

pub loop-from-preserved : goal.loop-from-preserved
loop-from-preserved c =
    let arcs = c.args.arcs.now in
    let first : Arc = get_or arcs c.loop-from.from none in
    let x : Arc = record { input = first.input; output = first.output; weight = first.weight; next = c.in_ok-next.next } in
    let made = made_more arcs c.args.sets.now c.loop-from.sets c.number.new.self c.loop-from.row.items c.in_ok-targets.field-0 x c.loop-from.from c.run_end-to.result
    c.loop-from.invariant.made c.in_ok-next.ensures.number c.run_end-to.ensures.run c.in_ok-targets.ensures.all c.in_ok-targets.ensures.order (record { input = refl; output = refl; weight = refl }) c.loop-from.invariant.parted
    in
    let apart = apart_run arcs c.args.sets.now c.loop-from.sets c.number.new.self c.loop-from.row.items c.in_ok-targets.field-0 x c.loop-from.from c.run_end-to.result
    c.loop-from.invariant.made c.in_ok-next.ensures.number c.run_end-to.ensures.run c.in_ok-targets.ensures.all c.in_ok-targets.ensures.order (record { input = refl; output = refl; weight = refl }) c.loop-from.invariant.parted c.loop-from.invariant.apart
    in
    record {
      apart = subst AllApart (sym c.in_ok-push.ensures.items) apart;
      parted = parted_more arcs c.loop-from.from c.run_end-to.result c.requires.together c.loop-from.invariant.parted c.run_end-to.ensures.run c.run_end-to.ensures.whole;
      within = c.run_end-to.ensures.run.within;
      made = subst (RowMade (Among arcs c.run_end-to.result) c.args.sets.now c.number.new.self) (sym c.in_ok-push.ensures.items) made;
    }

pub returns : goal.returns
returns c = record { apart = c.loop-from.invariant.apart; made = made_all c.args.arcs.now c.args.sets.now c.loop-from.sets c.loop-from.row.items c.loop-from.from c.loop-from.invariant.within (omega arith) c.loop-from.invariant.made }
