use Rattle.std.proofs.Common.{◌∙◌, map}
use Rattle.std.specs.String.{string_bytes}
use Rattle.speak_words.proofs.Built.{HasNumbers, numbers_found}
use Rattle.speak_words.proofs.Jobs.{job-refused, job-taken, settings-taken}
use Rattle.speak_words.proofs.reading.read_words.Goals as goal

pub asked-requires-clause-count : goal.asked-requires-clause-count
asked-requires-clause-count c =
    let numbers : HasNumbers c.in-Ok.matches =
    numbers_found c.in_ok-command.command c.try_get_matches_from_mut.new.self c.in-Ok.matches c.in_ok-command.ensures
    c.in-Ok.ensures.after c.in-Ok.ensures.fails c.in-Ok.ensures.ok.1 in
    numbers.count

pub asked-requires-clause-start : goal.asked-requires-clause-start
asked-requires-clause-start c =
    let numbers : HasNumbers c.in-Ok.matches =
    numbers_found c.in_ok-command.command c.try_get_matches_from_mut.new.self c.in-Ok.matches c.in_ok-command.ensures
    c.in-Ok.ensures.after c.in-Ok.ensures.fails c.in-Ok.ensures.ok.1 in
    numbers.start

pub asked-requires-clause-places : goal.asked-requires-clause-places
asked-requires-clause-places c =
    let numbers : HasNumbers c.in-Ok.matches =
    numbers_found c.in_ok-command.command c.try_get_matches_from_mut.new.self c.in-Ok.matches c.in_ok-command.ensures
    c.in-Ok.ensures.after c.in-Ok.ensures.fails c.in-Ok.ensures.ok.1 in
    numbers.places

pub asked-requires-clause-jobs : goal.asked-requires-clause-jobs
asked-requires-clause-jobs c =
    let numbers : HasNumbers c.in-Ok.matches =
    numbers_found c.in_ok-command.command c.try_get_matches_from_mut.new.self c.in-Ok.matches c.in_ok-command.ensures
    c.in-Ok.ensures.after c.in-Ok.ensures.fails c.in-Ok.ensures.ok.1 in
    numbers.jobs

pub asked-requires-clause-sweep : goal.asked-requires-clause-sweep
asked-requires-clause-sweep c =
    let numbers : HasNumbers c.in-Ok.matches =
    numbers_found c.in_ok-command.command c.try_get_matches_from_mut.new.self c.in-Ok.matches c.in_ok-command.ensures
    c.in-Ok.ensures.after c.in-Ok.ensures.fails c.in-Ok.ensures.ok.1 in
    numbers.sweep

pub returns-in-Ok-clause-settings : goal.returns-in-Ok-clause-settings
returns-in-Ok-clause-settings c =
    settings-taken _ (map string_bytes c.args.words.now) c.in-Ok.matches c.asked.result c.in_ok-command.ensures c.in-Ok.ensures.ok.2 c.asked.ensures.settings

pub returns-in-Ok-clause-asked : goal.returns-in-Ok-clause-asked
returns-in-Ok-clause-asked c =
    job-taken _ (map string_bytes c.args.words.now) c.in-Ok.matches _ c.in_ok-command.ensures c.in-Ok.ensures.ok.2 c.in-Ok.ensures.kinds c.asked.ensures.job

pub returns-clause-asked : goal.returns-clause-asked
returns-clause-asked c =
    job-refused _ (map string_bytes c.args.words.now) c.in-Err.error c.in_ok-command.ensures c.in-Err.ensures.kinds
    (λ memory. c.in_default.not-OutOfMemory (c.kind.ensures ∙ memory))
