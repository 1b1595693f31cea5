use Rattle.std.proofs.Common.{◌+◌, refl, sym, ◌∙◌, ap, subst}
use Rattle.fst_core.specs.Reach.{Found}
use Rattle.fst_core.specs.Useful.{FinalsFound}
use Rattle.fst_core.proofs.Living.{finals_none, finals_more, finals_other, added_size, some_of, none_of}
use Rattle.fst_core.proofs.lives.add_finals.Goals as goal
use Rattle.fst_core.proofs.lives.add_finals.Goals.{then-is_some+in_ok-add, else-is_some}

pub loop-s-init : goal.loop-s-init
loop-s-init c = record { size = refl; found = finals_none c.args.a.now c.args.search.now.states }

pub loop-s-preserved : goal.loop-s-preserved
loop-s-preserved c =
    let m = c.args.a.now in
    let k = c.loop-s.s in
    let old = c.args.search.now.states in
    elim c.if-is_some.branch [
      | then-is_some+in_ok-add w ↦
          let last = some_of c.final_of.result (sym c.is_some.ensures ∙ w.if-is_some.true) in
          let found = finals_more m k last.0 old c.loop-s.search w.add.new.self c.loop-s.invariant.found (sym c.final_of.ensures.value ∙ last.1) w.in_ok-add.ensures.added in
          record {
            size = ap (λ (f : Found). f.size) w.search-is ∙ (added_size c.loop-s.search k w.add.new.self w.in_ok-add.ensures.added ∙ c.loop-s.invariant.size);
            found = subst (λ (f : Found). FinalsFound m (k + 1) old f.states) (sym w.search-is) found;
          }
      | else-is_some w ↦
          let last = none_of c.final_of.result (sym c.is_some.ensures ∙ w.if-is_some.false) in
          let found = finals_other m k old c.loop-s.search.states c.loop-s.invariant.found (sym c.final_of.ensures.value ∙ last) in
          record {
            size = ap (λ (f : Found). f.size) w.search-is ∙ c.loop-s.invariant.size;
            found = subst (λ (f : Found). FinalsFound m (k + 1) old f.states) (sym w.search-is) found;
          }
    ]
