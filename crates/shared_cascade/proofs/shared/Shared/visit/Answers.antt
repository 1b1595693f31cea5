use Rattle.std.proofs.Common.{refl, ◌∙◌}
use Rattle.place_words.specs.Seats.{view_of}
use Rattle.shared_cascade.specs.declared.tallies.Outcome.TheVariants.{Wide}
use Rattle.shared_cascade.specs.Callers.{Missing}
use Rattle.shared_cascade.proofs.Finding.{stays, through}
use Rattle.shared_cascade.proofs.Going.{on_any_error, whole_episode}
use Rattle.shared_cascade.proofs.Readies.{again, still_idle}
use Rattle.shared_cascade.proofs.shared.Shared.visit.Goals as goal

pub returns-in-Holding-clause-visited : goal.returns-in-Holding-clause-visited
returns-in-Holding-clause-visited c =
    let s = c.args.self.now in
    stays s c.args.caller.now (record c.args.caller.now { seat = c.find.new.seat }) c.args.t.now c.in-Holding.field-0 c.key_of-key.result s.numbered c.requires.rest c.in-Holding.ensures.own refl refl c.key_of-key.ensures.value c.in-Holding.ensures.find

pub make-requires-clause-rest : goal.make-requires-clause-rest
make-requires-clause-rest c =
    let s = c.args.self.now in
    let x = through s c.args.caller.now c.args.t.now (view_of c.find.new.seat) c.key_of-key.result c.in-Absent.field-0 c.in-Absent.field-1 c.key_of-key.ensures.value c.in-Absent.ensures.find in
    (again s c.args.caller.now (record c.args.caller.now { seat = c.find.new.seat }) x.entries 1 c.requires.rest c.in-Absent.ensures.own x.view x.runs).rest

pub returns-in_err-make-in-Absent-clause-missing : goal.returns-in_err-make-in-Absent-clause-missing
returns-in_err-make-in-Absent-clause-missing c =
    let s = c.args.self.now in
    let e = c.in_err-make-in-Absent.ensures in
    let x = through s c.args.caller.now c.args.t.now (view_of c.find.new.seat) c.key_of-key.result c.in-Absent.field-0 c.in-Absent.field-1 c.key_of-key.ensures.value c.in-Absent.ensures.find in
    let y = again s c.args.caller.now (record c.args.caller.now { seat = c.find.new.seat }) x.entries 1 c.requires.rest c.in-Absent.ensures.own x.view x.runs in
    on_any_error {P = Missing s c.args.caller.now c.make.new.caller c.args.t.now} _ (record {
      rest = e.rest;
      looks = e.looks ∙ y.looks;
      before = e.before;
      adds = (Wide, x.entries, (refl, x.missed), e.nothing.0 ∙ (x.view ∙ still_idle (view_of c.args.caller.now.seat) x.entries c.requires.rest.idle), e.nothing.1);
    })

pub returns-in_ok-make-in-Absent-clause-visited : goal.returns-in_ok-make-in-Absent-clause-visited
returns-in_ok-make-in-Absent-clause-visited c =
    let s = c.args.self.now in
    let e = c.in_ok-make-in-Absent.ensures in
    let x = through s c.args.caller.now c.args.t.now (view_of c.find.new.seat) c.key_of-key.result c.in-Absent.field-0 c.in-Absent.field-1 c.key_of-key.ensures.value c.in-Absent.ensures.find in
    let m = record c.args.caller.now { seat = c.find.new.seat } in
    let y = again s c.args.caller.now m x.entries 1 c.requires.rest c.in-Absent.ensures.own x.view x.runs in (
      record {
        rest = e.rest;
        looks = e.looks ∙ y.looks;
        before = e.before;
        adds = whole_episode s c.args.t.now c.args.caller.now m c.make.new.caller x.entries c.requires.rest.idle x.missed x.view refl e.made;
      },
      e.found,
    )
