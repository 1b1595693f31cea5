use Rattle.std.proofs.Common.{List, ℕ, ◌++◌}
use Rattle.speak_setup.specs.declared.key.Key.{Key}
use Rattle.speak_setup.specs.Forms.{IsAssigned}
use Rattle.speak_setup.proofs.Fronts.{if_none, colon_at, quoted_at}
use Rattle.speak_setup.proofs.line.assigned.Goals as goal

pub returns-in_err-rest-clause-none : goal.returns-in_err-rest-clause-none
returns-in_err-rest-clause-none c = if_none _ ((key : Key) (value : List ℕ) → IsAssigned c.args.text.now key value → ⊥) (λ key value a. c.in_err-rest.ensures.none (a.after ++ a.quoted) (colon_at _ _ _ _ _ key value c.in_ok-key.ensures.found c.after_blanks.ensures.1 a).rest)

pub returns-in_err-value-clause-none : goal.returns-in_err-value-clause-none
returns-in_err-value-clause-none c = if_none _ ((key : Key) (value : List ℕ) → IsAssigned c.args.text.now key value → ⊥) (λ key value a.
    c.in_err-value.ensures.none value (quoted_at _ _ _ _ a.after a.quoted value c.in_ok-rest.ensures.found (colon_at _ _ _ _ _ key value c.in_ok-key.ensures.found c.after_blanks.ensures.1 a).rest a.blank_after a.is_quoted c.after_blanks-2.ensures.1))
