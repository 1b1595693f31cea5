use Rattle.std.proofs.Common.{◌≡◌, rules}
use Rattle.checked_expressions.specs.Answers.{shared_of}
use Rattle.checked_expressions.proofs.ListRules.{times_too_large}
use Rattle.checked_expressions.proofs.lists.times.Goals as goal

pub returns-then-size-ge-LIMIT : goal.returns-then-size-ge-LIMIT
returns-then-size-ge-LIMIT c = times_too_large (shared_of c.args.value) c.args.least c.args.most _ (let e : _ ≡ _ = search rules in e) c.if-size-ge-LIMIT.true
