use Rattle.std.specs.Prelude.{◌≡◌, ◌++◌, []}
use Rattle.std.proofs.Common.{refl, sym, ◌∙◌, ap}
use Rattle.std.proofs.lemmas.List.{append-nil}
use Rattle.place_words.specs.Seats.{view_of}
use Rattle.shared_cascade.specs.Callers.{cascades_in, log_of, places_in}
use Rattle.shared_cascade.proofs.Alone.{tallied_first}
use Rattle.shared_cascade.proofs.callers.Caller.take_tally.Goals as goal

pub returns-clause-since : goal.returns-clause-since
returns-clause-since c s ready = (ready.counted.since, ready.counted.log, ready.counted.is)

pub returns-clause-alone : goal.returns-clause-alone
returns-clause-alone c s ready one = ready.counted.alone one

pub returns-clause-first : goal.returns-clause-first
returns-clause-first c s ready one none =
    let k = ready.counted in
    let whole : log_of c.args.self.now ≡ k.since ++ [] = k.log ∙ (ap (λ l. l ++ k.since) none ∙ sym (append-nil k.since)) in
    tallied_first c.args.self.now one (cascades_in s) (places_in s) k.since [] c.args.self.now.tally k.is whole

pub returns-clause-ready : goal.returns-clause-ready
returns-clause-ready c s ready =
    let begun = ap (λ x. (view_of x).log) c.of.ensures in
    record {
      together = ready.together;
      tag = ready.tag;
      idle = ready.idle;
      whole = ready.whole;
      sound = ready.sound;
      counted = record {
        since = [];
        log = sym (append-nil _ ∙ begun);
        is = record { parts = []; are = refl; tally = c.none-self.ensures };
        alone = λ one. ap (λ t. t.no_place) c.none-self.ensures;
      };
    }
