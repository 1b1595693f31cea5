use Rattle.std.proofs.lemmas.Option.{get_or_from_slice_get}
use Rattle.std.proofs.Common.{◌≡◌, get_or, ◌↔◌, ◌≤◌, ◌<◌, ℕ, List, [], ◌∷◌, length, inl, inr, arith, subst, sym, ap, ◌∙◌}
use Rattle.std.specs.Prelude.{IsTrue}
use Rattle.std.specs.List.{Contains}
use Rattle.weighted_relations.specs.Relations.{IsInput}
use Rattle.weighted_relations.specs.Machines.{Reads}
use Rattle.fst_core.specs.Reach.{Found}
use Rattle.acceptor_ops.specs.Tables.{Table, Accepts, IsTotal}
use Rattle.acceptor_ops.specs.StateSets.{KernelOf, AnyFinal}
use Rattle.state_table.specs.Numbers.{Numbers}
use Rattle.acceptor_ops.proofs.Inputs.{none_in_nil, cons_cases}
use Rattle.acceptor_ops.proofs.Determined.{building_none, building_more, total, accepts}
use Rattle.acceptor_ops.proofs.determines.determinise.Goals as goal

pub kernel-requires : goal.kernel-requires
kernel-requires c = record {
  size = ap (λ (f : Found). f.size) c.in_ok-search.ensures.value ∙ c.len.ensures.count;
  within = λ s h. elim (cons_cases c.start.result [] s h) [
    | inl e ↦ subst (λ n. n < length c.args.a.now.arcs) (sym c.start.ensures.value ∙ e) c.start.ensures.sound.start
    | inr none ↦ absurd (none_in_nil s none)
  ];
}

pub loop-alloc-init : goal.loop-alloc-init
loop-alloc-init c = record {
  size = c.in_ok-kernel.ensures.size ∙ ap (λ (f : Found). f.size) c.in_ok-search.ensures.value ∙ c.len.ensures.count;
  built =
      building_none c.args.a.now c.in_ok-classes.classes c.in_ok-start.start c.number.new.self c.in_ok-kernel.field-0 c.new-rows.result
      (subst (λ s. KernelOf c.args.a.now (s ∷ []) c.in_ok-kernel.field-0) c.start.ensures.value c.in_ok-kernel.ensures.kernel)
      (subst (λ v. Numbers v c.number.new.self c.in_ok-kernel.field-0 c.in_ok-start.start) c.new-sets.ensures.value c.in_ok-start.ensures.number)
      c.new-rows.ensures.value;
}

pub any_final-last-requires : goal.any_final-last-requires
any_final-last-requires c =
    let l : c.len-k.result < length c.loop-alloc.sets = omega arith in
    let at : c.states.result.now ≡ get_or c.loop-alloc.sets c.len-k.result [] = c.states.ensures.value ∙ sym {A = List ℕ} (get_or_from_slice_get c.loop-alloc.sets c.len-k.result c.key.result.now [] c.key.ensures.value) in
    record { within = subst (λ (v : List ℕ). (s : ℕ) → Contains v s → s < length c.args.a.now.arcs) (sym at) (c.loop-alloc.invariant.built.kernels c.len-k.result l).states }

pub row_of-requires : goal.row_of-requires
row_of-requires c = record {
  sound = c.start.ensures.sound;
  classes = c.in_ok-classes.ensures.classes;
  size = c.loop-alloc.invariant.size;
  within = omega arith;
  kernels = c.loop-alloc.invariant.built.kernels;
}

pub loop-alloc-preserved : goal.loop-alloc-preserved
loop-alloc-preserved c =
    let l : c.len-k.result < length c.loop-alloc.sets = omega arith in
    let at : c.states.result.now ≡ get_or c.loop-alloc.sets c.len-k.result [] = c.states.ensures.value ∙ sym {A = List ℕ} (get_or_from_slice_get c.loop-alloc.sets c.len-k.result c.key.result.now [] c.key.ensures.value) in
    record {
      size = c.in_ok-row.ensures.size ∙ c.loop-alloc.invariant.size;
      built =
          building_more c.args.a.now c.in_ok-classes.classes c.in_ok-start.start c.len-k.result c.loop-alloc.sets c.row_of.new.sets c.loop-alloc.rows c.push.new.self c.in_ok-row.row.items c.any_final-last.result
          c.loop-alloc.invariant.built c.len-k.ensures.count l
          (subst (λ v. IsTrue c.any_final-last.result ↔ AnyFinal c.args.a.now v) at c.any_final-last.ensures.found)
          c.in_ok-row.ensures.row c.in_ok-push.ensures.value;
    }

pub from_rows-requires : goal.from_rows-requires
from_rows-requires c =
    let done : length c.loop-alloc.sets ≤ length c.loop-alloc.rows.next = omega arith in
    let all = total c.args.a.now c.in_ok-classes.classes c.in_ok-start.start c.loop-alloc.sets c.loop-alloc.rows c.start.ensures.sound c.in_ok-classes.ensures.classes c.loop-alloc.invariant.built done in
    record { total = subst (λ v. let t : Table = record { start = c.in_ok-start.start; classes = v; next = c.loop-alloc.rows.next; accepting = c.loop-alloc.rows.accepting } in IsTotal t) (sym c.into_list.ensures.value) all }

pub returns : goal.returns
returns c =
    let done : length c.loop-alloc.sets ≤ length c.loop-alloc.rows.next = omega arith in
    record {
      strings = λ x.
          let all = accepts c.args.a.now c.in_ok-classes.classes c.in_ok-start.start c.loop-alloc.sets c.loop-alloc.rows c.start.ensures.sound c.in_ok-classes.ensures.classes c.loop-alloc.invariant.built done x in
          subst (λ t. Accepts t x ↔ IsInput (Reads c.args.a.now) x) (sym c.from_rows.ensures.value)
          (subst (λ v. let t : Table = record { start = c.in_ok-start.start; classes = v; next = c.loop-alloc.rows.next; accepting = c.loop-alloc.rows.accepting } in Accepts t x ↔ IsInput (Reads c.args.a.now) x) (sym c.into_list.ensures.value) all);
    }
