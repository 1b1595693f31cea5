use Rattle.std.proofs.Common.{refl, subst, Some}
use Rattle.speak_setup.specs.Parts.{AddsValue}
use Rattle.speak_setup.proofs.entries.read_entry.Goals as goal

pub returns-then-is_full-clause-fault : goal.returns-then-is_full-clause-fault
returns-then-is_full-clause-fault c = (refl, record { key = c.in-Entry.key; value = c.in-Entry.value.now }, c.in-Entry.ensures, c.is_full.ensures.full c.if-is_full.true)

pub returns-in_ok-add-in-Entry-clause-added : goal.returns-in_ok-add-in-Entry-clause-added
returns-in_ok-add-in-Entry-clause-added c = record {
  given = Some (record { key = c.in-Entry.key; value = c.in-Entry.value.now });
  gives = c.in-Entry.ensures;
  adds = (subst (AddsValue c.args.found.now c.add.new.self c.in-Entry.key) c.in_ok-new-in-Entry.ensures c.in_ok-add-in-Entry.ensures, c.is_full.ensures.free c.if-is_full.false);
}
