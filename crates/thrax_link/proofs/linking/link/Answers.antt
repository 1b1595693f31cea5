use Rattle.std.proofs.Common.{◌∙◌, Ok, Err}
use Rattle.thrax_link.specs.Progress.{finished_of}
use Rattle.thrax_link.proofs.Outcomes.{starts, stopped_linked, stopped_only, granted_linked, granted_only, granted_sound}
use Rattle.thrax_link.proofs.linking.link.Goals as goal

pub returns-in-Err-clause-linked : goal.returns-in-Err-clause-linked
returns-in-Err-clause-linked g c = λ known told.
    stopped_linked known c.args.name.now c.in-Err.fault
    (starts known c.import.new.done (Err c.in-Err.fault) c.deref.result.now (finished_of known c.new-done.result) c.args.name.now (c.deref.ensures.value ∙ c.new-chain.ensures.items) (c.new-done.ensures.finished known) (c.in-Err.ensures.links known told))

pub returns-in-Err-clause-only : goal.returns-in-Err-clause-only
returns-in-Err-clause-only g c = λ known told outcome l.
    stopped_only known c.args.name.now c.in-Err.fault
    (starts known c.import.new.done (Err c.in-Err.fault) c.deref.result.now (finished_of known c.new-done.result) c.args.name.now (c.deref.ensures.value ∙ c.new-chain.ensures.items) (c.new-done.ensures.finished known) (c.in-Err.ensures.links known told))
    outcome l

pub returns-in-Ok-clause-linked : goal.returns-in-Ok-clause-linked
returns-in-Ok-clause-linked g c = λ known told.
    granted_linked known c.args.name.now (finished_of known c.import.new.done) c.import.new.done.tables.items c.in-Ok.place c.grammar_at.result
    (starts known c.import.new.done (Ok c.in-Ok.place) c.deref.result.now (finished_of known c.new-done.result) c.args.name.now (c.deref.ensures.value ∙ c.new-chain.ensures.items) (c.new-done.ensures.finished known) (c.in-Ok.ensures.links known told))
    c.grammar_at.ensures

pub returns-in-Ok-clause-only : goal.returns-in-Ok-clause-only
returns-in-Ok-clause-only g c = λ known told outcome l.
    granted_only known c.args.name.now (finished_of known c.import.new.done) c.import.new.done.tables.items c.in-Ok.place c.grammar_at.result
    (starts known c.import.new.done (Ok c.in-Ok.place) c.deref.result.now (finished_of known c.new-done.result) c.args.name.now (c.deref.ensures.value ∙ c.new-chain.ensures.items) (c.new-done.ensures.finished known) (c.in-Ok.ensures.links known told))
    c.grammar_at.ensures outcome l

pub returns-in-Ok-clause-sound : goal.returns-in-Ok-clause-sound
returns-in-Ok-clause-sound g c = granted_sound c.grammar_at.result
