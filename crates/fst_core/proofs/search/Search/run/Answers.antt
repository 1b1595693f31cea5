use Rattle.std.proofs.Common.{◌≡◌, ◌<◌, ◌≤◌, Some, length, sym, ◌∙◌, subst, arith}
use Rattle.std.specs.Prelude.{slice_get}
use Rattle.std.proofs.lemmas.Option.{slice_get_within}
use Rattle.fst_core.proofs.Searches.{run_none, run_more, run_ended, none_past}
use Rattle.fst_core.proofs.search.Search.run.Goals as goal

pub loop-s-init : goal.loop-s-init
loop-s-init c = run_none c.args.a.now c.args.which c.args.self.now

pub overflow_add-next : goal.overflow_add-next
overflow_add-next c =
    let at : slice_get c.loop-s.self.states c.loop-s.next ≡ Some c.in-Some.s = sym c.in-Some.ensures.value in
    let l : c.loop-s.next < length c.loop-s.self.states = slice_get_within c.loop-s.self.states c.loop-s.next c.in-Some.s at in
    let n : length c.loop-s.self.states ≤ c.loop-s.self.size = c.in-Some.ensures.count in
    omega (arith, c.in-Some.ensures.small)

pub follow-requires : goal.follow-requires
follow-requires c = record { state = subst (λ n. c.in-Some.s < n) (c.loop-s.invariant.same_size ∙ c.requires.size) c.in-Some.ensures.within; size = c.loop-s.invariant.same_size ∙ c.requires.size }

pub loop-s-smaller : goal.loop-s-smaller
loop-s-smaller c =
    let at : slice_get c.loop-s.self.states c.loop-s.next ≡ Some c.in-Some.s = sym c.in-Some.ensures.value in
    let l : c.loop-s.next < length c.loop-s.self.states = slice_get_within c.loop-s.self.states c.loop-s.next c.in-Some.s at in
    let n : length c.loop-s.self.states ≤ c.loop-s.self.size = c.in-Some.ensures.count in
    let e : c.follow.new.self.size ≡ c.loop-s.self.size = c.in_ok-follow.ensures.same_size in
    omega arith

pub loop-s-preserved : goal.loop-s-preserved
loop-s-preserved c = run_more c.args.a.now c.args.which c.args.self.now c.loop-s.self c.follow.new.self c.loop-s.next c.in-Some.s c.loop-s.invariant (sym c.in-Some.ensures.value) c.in_ok-follow.ensures

pub returns-clause-found : goal.returns-clause-found
returns-clause-found c = run_ended c.args.a.now c.args.which c.args.self.now c.loop-s.self c.loop-s.next c.loop-s.invariant (none_past c.loop-s.self.states c.loop-s.next (sym c.in_default.ensures.value))
