use Rattle.std.proofs.Common.{◌≡◌, [], None, sym, ◌∙◌, inl, inr, arith, rules}
use Rattle.least_path.specs.declared.node.Node.TheVariants.{End}
use Rattle.least_path.specs.Texts.{text_of}
use Rattle.least_path.specs.Keeps.{IsEdge}
use Rattle.least_path.specs.Passing.{Passes}
use Rattle.least_path.specs.Growths.{Steps, AtEnd}
use Rattle.weighted_relations.specs.Machines.{final_of}
use Rattle.least_path.specs.Ending.{CanEnd}
use Rattle.least_path.proofs.Meeting.{gained_as, gained_none, gained_of}
use Rattle.least_path.proofs.Passing.{stays_passed}
use Rattle.least_path.proofs.Along.{at_end_edge, not_at_end}
use Rattle.least_path.proofs.Paying.{adds_met, pays_end, pays_none, risen_call, risen_less, risen_self}
use Rattle.least_path.proofs.spreading.spread_to_end.Goals as goal

pub returns-in_default-clause-gained : goal.returns-in_default-clause-gained
returns-in_default-clause-gained g c = λ d k h.
    let last = final_of c.args.source.now.finals c.args.state in
    let none : final_of c.args.source.now.finals c.args.state ≡ None = search rules in
    gained_none (Passes (Steps c.args.source.now d)) (CanEnd c.args.source.now d) c.args.search.now c.args.from.now.weight (text_of c.args.search.now.outputs c.args.from.now.output) (AtEnd d c.args.tuple.now last) c.requires.kept (λ n u z e l. not_at_end d c.args.tuple.now last (inl none) n u z e)

pub returns-in_default-2-clause-gained : goal.returns-in_default-2-clause-gained
returns-in_default-2-clause-gained g c = λ d k h.
    let last = final_of c.args.source.now.finals c.args.state in
    let none : c.in_ok-weight.field-0 ≡ None = search rules in
    gained_none (Passes (Steps c.args.source.now d)) (CanEnd c.args.source.now d) c.args.search.now c.args.from.now.weight (text_of c.args.search.now.outputs c.args.from.now.output) (AtEnd d c.args.tuple.now last) c.requires.kept (λ n u z e l. not_at_end d c.args.tuple.now last (inr (sym (c.in_ok-weight.ensures.end d k h) ∙ none)) n u z e)

pub returns-clause-gained : goal.returns-clause-gained
returns-clause-gained g c = λ d k h.
    let last = final_of c.args.source.now.finals c.args.state in
    let y = text_of c.args.search.now.outputs c.args.from.now.output in
    gained_as (Passes (Steps c.args.source.now d)) (CanEnd c.args.source.now d) c.args.search.now c.relax.new.self c.args.from.now.weight y (IsEdge End c.in-Some-2.weight []) (AtEnd d c.args.tuple.now last) (gained_of (Passes (Steps c.args.source.now d)) (CanEnd c.args.source.now d) c.args.search.now c.relax.new.self c.args.from.now.weight y End c.in-Some-2.weight [] (stays_passed (Steps c.args.source.now d) End) c.in_ok-relax.ensures) (at_end_edge d c.args.tuple.now last c.in-Some.field-0 c.in-Some-2.weight (sym c.final_of.ensures.value ∙ c.in-Some.is) (sym (c.in_ok-weight.ensures.end d k h) ∙ c.in-Some-2.is))

pub returns-in_default-clause-pays : goal.returns-in_default-clause-pays
returns-in_default-clause-pays g c =
    let calls = g.X.Expander.calls c.args.x.now in
    pays_none c.args.source.now c.args.state c.args.tuple.now calls calls c.args.search.now.nodes (risen_self calls)

pub returns-in_default-2-clause-pays : goal.returns-in_default-2-clause-pays
returns-in_default-2-clause-pays g c =
    let before = g.X.Expander.calls c.args.x.now in
    let after = g.X.Expander.calls c.finality.new.self in
    pays_none c.args.source.now c.args.state c.args.tuple.now before after c.args.search.now.nodes (risen_less 1 0 before after (omega arith) (risen_call before after c.finality.ensures.counted))

pub returns-clause-pays : goal.returns-clause-pays
returns-clause-pays g c =
    let a = c.args.search.now in
    let b = c.relax.new.self in
    let before = g.X.Expander.calls c.args.x.now in
    let after = g.X.Expander.calls c.finality.new.self in
    pays_end c.args.source.now c.args.state c.args.tuple.now before after a.nodes b.nodes c.in-Some.field-0 (sym c.final_of.ensures.value ∙ c.in-Some.is) (risen_call before after c.finality.ensures.counted)
    (adds_met a b End c.args.from.now.weight c.in-Some-2.weight (text_of a.outputs c.args.from.now.output) [] c.in_ok-relax.ensures)
