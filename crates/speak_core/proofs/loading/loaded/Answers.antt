use Rattle.std.proofs.Common.{refl}
use Rattle.std.proofs.lemmas.List.Elements.{All-weaker}
use Rattle.normaliser.specs.Searches.{IsCallerOf, IsNewCallerOf}
use Rattle.speak_core.proofs.Batching.{new_run}
use Rattle.speak_core.proofs.loading.loaded.Goals as goal

pub returns-clause-ready : goal.returns-clause-ready
returns-clause-ready c = record {
  ready = record {
    callers = All-weaker (IsNewCallerOf c.args.normaliser) (IsCallerOf c.args.normaliser) (λ caller new. new.ready) c.args.callers.items c.requires.new;
    count = c.requires.count;
    seated = c.requires.seated;
    bounds = c.requires.settings;
    places = c.requires.places;
  };
  by = refl;
  unswept = c.none_swept.ensures;
  begun = new_run c.args.normaliser (record { callers = c.args.callers; settings = c.args.settings; swept = c.none_swept.result }) c.requires.new c.none_swept.ensures;
}
