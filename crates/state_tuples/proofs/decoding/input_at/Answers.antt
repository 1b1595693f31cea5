use Rattle.std.proofs.Common.{get_or}
use Rattle.state_tuples.specs.Codes.{no_arc}
use Rattle.state_tuples.proofs.InCodes.{arc_within, labels_there}
use Rattle.state_tuples.proofs.decoding.input_at.Goals as goal

pub labels_in-requires : goal.labels_in-requires
labels_in-requires c =
    let code = c.args.code.now in
    let k = c.args.k in
    let h = c.requires.known in
    let lt = arc_within h.0 h.1 h.2 code h.3 k c.requires.within in
    record { known = (get_or h.2 k no_arc, h.3.are_arcs k no_arc lt, labels_there h.0 h.1 h.2 code h.3 k lt) }

pub returns : goal.returns
returns c t end arcs is =
    let lt = arc_within t end arcs c.args.code.now is c.args.k c.requires.within in
    (c.labels_in.ensures (get_or arcs c.args.k no_arc) (is.are_arcs c.args.k no_arc lt) (labels_there t end arcs c.args.code.now is c.args.k lt)).0
