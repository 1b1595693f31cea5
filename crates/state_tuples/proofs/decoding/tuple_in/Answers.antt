use Rattle.std.proofs.Common.{◌∙◌}
use Rattle.state_tuples.proofs.InCodes.{cascade_there, filters_there, tuple_states_there}
use Rattle.state_tuples.proofs.decoding.tuple_in.Goals as goal

pub returns : goal.returns
returns c t end arcs is =
    let code = c.args.code.now in
    let cascade = cascade_there t end arcs code is in
    let states = c.states_at-states.ensures ∙ tuple_states_there t end arcs code is in
    let filters = filters_there t end arcs code is in
    λ i. record { cascade = cascade i; states = states i; filters = filters i }
