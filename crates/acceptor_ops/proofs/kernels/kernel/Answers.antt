use Rattle.std.proofs.Common.{◌≡◌, ◌↔◌, ◌<◌, ℕ, List, [], length, get_or, ap, sym, subst, ◌∙◌, arith}
use Rattle.std.specs.Prelude.{All}
use Rattle.std.specs.List.{Contains}
use Rattle.std.proofs.lemmas.List.Elements.{Contains-get_or}
use Rattle.fst_core.specs.declared.search.Follow.TheVariants.{EmptyInput}
use Rattle.fst_core.specs.Reach.{Found, LedTo}
use Rattle.acceptor_ops.specs.StateSets.{KernelOf}
use Rattle.acceptor_ops.proofs.Inputs.{kernel_of}
use Rattle.acceptor_ops.proofs.Filling.{added_none, added_more, added_all}
use Rattle.acceptor_ops.proofs.kernels.kernel.Goals as goal

pub loop-s-init : goal.loop-s-init
loop-s-init c = added_none c.args.seeds.now (length c.args.a.now.arcs) c.clear.new.self (c.clear.ensures.value ∙ ap (λ n. let f : Found = record { size = n; states = [] } in f) c.requires.size)

pub add-requires : goal.add-requires
add-requires c = record { state = subst (λ n. get_or c.args.seeds.now c.loop-s.s-index 0 < n) (sym c.loop-s.invariant.size) (c.requires.within (get_or c.args.seeds.now c.loop-s.s-index 0) (Contains-get_or c.args.seeds.now c.loop-s.s-index 0 c.loop-s-test.true)) }

pub loop-s-preserved : goal.loop-s-preserved
loop-s-preserved c = added_more c.args.seeds.now (length c.args.a.now.arcs) c.loop-s.s-index c.loop-s.search c.add.new.self c.loop-s-test.true c.loop-s.invariant c.in_ok-add.ensures.added

pub run-requires : goal.run-requires
run-requires c = record { size = c.loop-s.invariant.size }

-- what was found is among the states
within : (xs : List ℕ) (n : ℕ) → All (λ s. s < n) xs → (s : ℕ) → Contains xs s → s < n
within xs n all s h = subst (λ t. t < n) h.2 (all h.0 s h.1)

pub active-requires : goal.active-requires
active-requires c = record { within = within c.found.result.now (length c.args.a.now.arcs) (subst (λ n. All (λ s. s < n) c.found.result.now) (c.in_ok-run.ensures.size ∙ c.loop-s.invariant.size) c.found.ensures.within) }

pub returns-clause-size : goal.returns-clause-size
returns-clause-size c = c.in_ok-run.ensures.size ∙ c.loop-s.invariant.size ∙ sym c.requires.size

pub returns-clause-kernel : goal.returns-clause-kernel
returns-clause-kernel c =
    let same = added_all c.args.seeds.now (length c.args.a.now.arcs) c.loop-s.s-index c.loop-s.search (omega arith) c.loop-s.invariant in
    let there : c.found.result.now ≡ c.run.new.self.states = c.found.ensures.states in
    let led : (t : ℕ) → Contains c.found.result.now t ↔ LedTo c.args.a.now EmptyInput c.args.seeds.now t = λ t. (
      λ h. let q = (c.in_ok-run.ensures.found t).0 (subst (λ v. Contains v t) there h) in record { seed = q.seed; is = (same q.seed).0 q.is; leads = q.leads },
      λ q. subst (λ v. Contains v t) (sym there) ((c.in_ok-run.ensures.found t).1 (record { seed = q.seed; is = (same q.seed).1 q.is; leads = q.leads })),
    )
    in
    subst (KernelOf c.args.a.now c.args.seeds.now) (sym c.new.ensures.value) (kernel_of c.args.a.now c.args.seeds.now c.found.result.now c.in_ok-found.found.items led
    (within c.found.result.now (length c.args.a.now.arcs) (subst (λ n. All (λ s. s < n) c.found.result.now) (c.in_ok-run.ensures.size ∙ c.loop-s.invariant.size) c.found.ensures.within))
    c.in_ok-found.ensures.active)
