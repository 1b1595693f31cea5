use Rattle.std.proofs.Common.{◌≡◌, ap, subst, [], length}
use Rattle.fst_core.specs.Reach.{Found}
use Rattle.fst_core.specs.Useful.{FinalsFound}
use Rattle.fst_core.proofs.Living.{live_found}
use Rattle.fst_core.proofs.lives.live_states.Goals as goal

pub returns-clause-states : goal.returns-clause-states
returns-clause-states c =
    let m = c.args.a.now in
    let none : c.in_ok-search.search.states ≡ [] = ap (λ (f : Found). f.states) c.in_ok-search.ensures.value in
    let ends = subst (λ l. FinalsFound m (length m.arcs) l c.add_finals.new.search.states) none c.in_ok-add_finals.ensures.found in
    live_found m c.in_ok-back.back c.in_ok-back.ensures.arcs c.add_finals.new.search.states c.run.new.self.states c.start-start.ensures.sound ends c.in_ok-run.ensures.found
