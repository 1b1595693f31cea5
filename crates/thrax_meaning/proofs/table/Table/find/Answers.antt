use Rattle.std.proofs.Common.{◌≡◌, ◌<◌, ◌≤◌, sym, subst, arith, length, map, None, Some}
use Rattle.thrax_meaning.specs.Index.{newest}
use Rattle.thrax_meaning.proofs.Index.{found_never, found_at, weight_at}
use Rattle.thrax_meaning.proofs.table.Table.find.Goals as goal

pub returns-in-Some-clause-kind : goal.returns-in-Some-clause-kind
returns-in-Some-clause-kind c = λ f done.
    let placed : newest (map (λ e. e.name) c.self.inside.entries.items) c.args.name.now ≡ Some c.in-Some.place = sym (c.in-Some.ensures (map (λ e. e.name) c.self.inside.entries.items) c.self.invariant) in
    rw (← c.self.view_is) (found_at f done c.self.inside.entries.items c.args.name.now c.args.count c.in-Some.place c.index.result.now placed c.if-place-count.true c.index.ensures)

pub returns-in-Some-clause-before : goal.returns-in-Some-clause-before
returns-in-Some-clause-before c =
    let few : c.args.count ≤ length c.self.inside.entries.items = subst (λ v. c.args.count ≤ length v) (sym c.self.view_is) c.requires in
    let less : c.in-Some.place < c.args.count = c.if-place-count.true in
    (less, rw (← c.self.view_is) (weight_at c.self.inside.entries.items c.args.count c.in-Some.place c.index.result.now less (omega (arith, few, less)) c.index.ensures))

pub returns-in-None-clause-kind : goal.returns-in-None-clause-kind
returns-in-None-clause-kind c = λ f done.
    let none : newest (map (λ e. e.name) c.self.inside.entries.items) c.args.name.now ≡ None = sym (c.in-None.ensures (map (λ e. e.name) c.self.inside.entries.items) c.self.invariant) in
    rw (← c.self.view_is) (found_never f done c.self.inside.entries.items c.args.name.now c.args.count none)
