use Rattle.std.proofs.Common.{◌∙◌, get_or}
use Rattle.state_tuples.specs.Codes.{no_arc}
use Rattle.state_tuples.proofs.InCodes.{arc_within, labels_there, states_there, weight_there}
use Rattle.state_tuples.proofs.decoding.arc_at.Goals as goal

pub labels_in-input-requires : goal.labels_in-input-requires
labels_in-input-requires c =
    let code = c.args.code.now in
    let k = c.args.k in
    let h = c.requires.known in
    let lt = arc_within h.0 h.1 h.2 code h.3 k c.requires.within in
    record { known = (get_or h.2 k no_arc, h.3.are_arcs k no_arc lt, labels_there h.0 h.1 h.2 code h.3 k lt) }

pub returns : goal.returns
returns c t end arcs is =
    let code = c.args.code.now in
    let k = c.args.k in
    let lt = arc_within t end arcs code is k c.requires.within in
    let labels = c.labels_in-input.ensures (get_or arcs k no_arc) (is.are_arcs k no_arc lt) (labels_there t end arcs code is k lt) in
    let weight = weight_there t end arcs code is k lt in
    let states = c.states_at-states.ensures ∙ states_there t end arcs code is k lt in
    λ i. record { input = labels.0 i; output = labels.1 i; weight = weight i; filters = labels.2 i; states = states i }
