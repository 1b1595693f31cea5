use Rattle.std.proofs.Common.{◌≡◌, None, Some, length, slice_get, subst, arith, rules}
use Rattle.least_path.specs.declared.node.Node.TheVariants.{End}
use Rattle.least_path.specs.Notes.{Arrived}
use Rattle.least_path.proofs.Arriving.{one_end, end_pushed, arrived_known, arrived_pushed}
use Rattle.least_path.proofs.nodes.Nodes.number_of_end.Goals as goal

pub returns-in-Some-clause-number : goal.returns-in-Some-clause-number
returns-in-Some-clause-number c = arrived_known c.args.self.now End c.in-Some.known (subst (λ xs. slice_get xs c.in-Some.known ≡ Some End) c.self.view_is ((c.self.invariant c.in-Some.known).1 c.in-Some.is))

pub invariant_of-self-2 : goal.invariant_of-self-2
invariant_of-self-2 c =
    let none : c.self.inside.end ≡ None = search rules in
    let n : c.len-number.result ≡ length c.self.inside.nodes.items = (let v = c.self.inside.nodes.ok.0 in let l = c.len-number.ensures in omega arith) in
    end_pushed c.self.inside.nodes.items c.push-2.new.self.items c.self.inside.end c.len-number.result c.self.invariant none c.in_ok-push-2.ensures.items n

pub returns-clause-number : goal.returns-clause-number
returns-clause-number c =
    let n : c.len-number.result ≡ length c.self.inside.nodes.items = (let v = c.self.inside.nodes.ok.0 in let l = c.len-number.ensures in omega arith) in
    subst (λ xs. Arrived xs c.push-2.new.self.items End c.len-number.result) c.self.view_is (arrived_pushed c.self.inside.nodes.items c.push-2.new.self.items End c.len-number.result c.in_ok-push-2.ensures.items n)

pub returns-clause-one_end : goal.returns-clause-one_end
returns-clause-one_end c =
    let none : c.self.inside.end ≡ None = search rules in
    let n : c.len-number.result ≡ length c.self.inside.nodes.items = (let v = c.self.inside.nodes.ok.0 in let l = c.len-number.ensures in omega arith) in
    one_end c.push-2.new.self.items (Some c.len-number.result) (end_pushed c.self.inside.nodes.items c.push-2.new.self.items c.self.inside.end c.len-number.result c.self.invariant none c.in_ok-push-2.ensures.items n)
