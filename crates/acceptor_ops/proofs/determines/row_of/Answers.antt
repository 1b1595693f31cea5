use Rattle.std.proofs.Common.{◌≡◌, ◌+◌, ◌<◌, ℕ, List, [], length, get_or, refl, subst, sym, ◌∙◌, arith}
use Rattle.std.specs.List.{Contains}
use Rattle.std.proofs.lemmas.Option.{get_or_from_slice_get}
use Rattle.state_table.proofs.Numbering.{kept_at}
use Rattle.acceptor_ops.specs.StateSets.{Filled, KernelOf, StepsBy}
use Rattle.acceptor_ops.specs.Numbered.{RowAdded}
use Rattle.acceptor_ops.proofs.Inputs.{steps_by, targets_within}
use Rattle.acceptor_ops.proofs.Determined.{row_none, row_more}
use Rattle.acceptor_ops.proofs.determines.row_of.Goals as goal

pub targets-requires : goal.targets-requires
targets-requires c =
    let at : c.states.result.now ≡ get_or c.args.sets.now c.args.k [] = c.states.ensures.value ∙ sym {A = List ℕ} (get_or_from_slice_get c.args.sets.now c.args.k c.key.result.now [] c.key.ensures.value) in
    record {
      classes = c.requires.classes;
      within = subst (λ (v : List ℕ). (s : ℕ) → Contains v s → s < length c.args.a.now.arcs) (sym at) (c.requires.kernels c.args.k c.requires.within).states;
    }

pub loop-c-init : goal.loop-c-init
loop-c-init c = record {
  size = refl;
  row = subst (RowAdded c.args.a.now c.args.classes.now.classes c.args.sets.now c.args.sets.now c.args.k 0) (sym c.new-row.ensures.items) (row_none c.args.a.now c.args.classes.now.classes c.args.sets.now c.args.k c.requires.kernels);
}

pub get-requires : goal.get-requires
get-requires c = record { within = subst (λ n. c.loop-c.c < n) (sym c.in_ok-buckets.ensures.filled.count) (subst (λ n. c.loop-c.c < n) c.count-c-end.ensures.value c.loop-c-test.true) }

pub kernel-requires : goal.kernel-requires
kernel-requires c = record {
  size = c.loop-c.invariant.size ∙ c.requires.size;
  within = λ s h. targets_within c.args.a.now c.args.classes.now.classes c.args.classes.now.count _ _ c.in_ok-buckets.buckets c.loop-c.c c.requires.sound c.in_ok-buckets.ensures.filled s (subst (λ v. Contains v s) c.get.ensures.value h);
}

pub loop-c-preserved : goal.loop-c-preserved
loop-c-preserved c =
    let set = get_or c.args.sets.now c.args.k [] in
    let at : c.states.result.now ≡ get_or c.args.sets.now c.args.k [] = c.states.ensures.value ∙ sym {A = List ℕ} (get_or_from_slice_get c.args.sets.now c.args.k c.key.result.now [] c.key.ensures.value) in
    let filled : Filled c.args.a.now c.args.classes.now.classes c.args.classes.now.count set (length set) c.in_ok-buckets.buckets = subst (λ v. Filled c.args.a.now c.args.classes.now.classes c.args.classes.now.count v (length v) c.in_ok-buckets.buckets) at c.in_ok-buckets.ensures.filled in
    let is : KernelOf c.args.a.now (get_or c.in_ok-buckets.buckets c.loop-c.c []) c.in_ok-found.found = subst (λ v. KernelOf c.args.a.now v c.in_ok-found.found) c.get.ensures.value c.in_ok-found.ensures.kernel in
    let steps = steps_by c.args.a.now c.args.classes.now set c.in_ok-buckets.buckets c.loop-c.c c.in_ok-found.found c.requires.classes (c.requires.kernels c.args.k c.requires.within) filled is in
    let same : get_or c.loop-c.sets c.args.k [] ≡ set = kept_at [] c.loop-c.invariant.row.keeps c.args.k c.requires.within in
    record {
      size = c.in_ok-found.ensures.size ∙ c.loop-c.invariant.size;
      row = subst (RowAdded c.args.a.now c.args.classes.now.classes c.args.sets.now c.number.new.self c.args.k (c.loop-c.c + 1)) (sym c.in_ok-push.ensures.items)
          (row_more c.args.a.now c.args.classes.now.classes c.args.sets.now c.loop-c.sets c.number.new.self c.args.k c.loop-c.c c.loop-c.row.items c.in_ok-found.found c.in_ok-number.field-0 c.requires.within c.loop-c.invariant.row
          (subst (λ v. StepsBy c.args.a.now c.args.classes.now.classes v c.loop-c.c c.in_ok-found.found) (sym same) steps) c.in_ok-number.ensures.number);
    }

pub returns-clause-row : goal.returns-clause-row
returns-clause-row c =
    let e : c.loop-c.c ≡ c.args.classes.now.count = (let n = c.count-c-end.ensures.value in omega arith) in
    subst (λ n. RowAdded c.args.a.now c.args.classes.now.classes c.args.sets.now c.loop-c.sets c.args.k n c.loop-c.row.items) e c.loop-c.invariant.row
