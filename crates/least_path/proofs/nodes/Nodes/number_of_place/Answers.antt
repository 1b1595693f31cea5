use Rattle.std.proofs.Common.{◌≡◌, length, subst, arith}
use Rattle.least_path.specs.Notes.{Arrived}
use Rattle.least_path.proofs.Arriving.{one_end, place_pushed, arrived_pushed}
use Rattle.least_path.proofs.nodes.Nodes.number_of_place.Goals as goal

pub invariant_of-self-2 : goal.invariant_of-self-2
invariant_of-self-2 c = place_pushed c.self.inside.nodes.items c.push.new.self.items c.self.inside.end c.args.node c.requires c.self.invariant c.in_ok-push.ensures.items

pub returns-clause-number : goal.returns-clause-number
returns-clause-number c =
    let n : c.len-number.result ≡ length c.self.inside.nodes.items = (let v = c.self.inside.nodes.ok.0 in let l = c.len-number.ensures in omega arith) in
    subst (λ xs. Arrived xs c.push.new.self.items c.args.node c.len-number.result) c.self.view_is (arrived_pushed c.self.inside.nodes.items c.push.new.self.items c.args.node c.len-number.result c.in_ok-push.ensures.items n)

pub returns-clause-one_end : goal.returns-clause-one_end
returns-clause-one_end c = one_end c.push.new.self.items c.self.inside.end (place_pushed c.self.inside.nodes.items c.push.new.self.items c.self.inside.end c.args.node c.requires c.self.invariant c.in_ok-push.ensures.items)
