use Rattle.std.proofs.Common.{List, ℕ, ◌≡◌, ◌≤◌, ◌∙◌, length, sym, arith, rules}
use Rattle.std.proofs.lemmas.Bool.{eqb-true}
use Rattle.speak_setup.specs.Forms.{IsQuoted}
use Rattle.speak_setup.proofs.Fronts.{if_none, some_of, quoted_split, quoted_value, quoted_last}
use Rattle.speak_setup.proofs.line.quoted.Goals as goal
use Rattle.speak_setup.proofs.line.quoted.Goals.{then-is_empty-via-then-is_empty, then-is_empty-via-else-is_empty+then-value-gt255, then-is_empty-via-else-is_empty+else-value-gt255+then-not-is_empty}

pub returns-in_err-last-clause-none : goal.returns-in_err-last-clause-none
returns-in_err-last-clause-none c = if_none _ ((value : List ℕ) → IsQuoted c.args.text.now value → ⊥) (λ value q. c.in_err-last.ensures.none q.last (quoted_split _ _ _ _ value c.in_ok-after_text.ensures.found c.value_at.ensures q).rest)

pub returns-then-is_empty-clause-none : goal.returns-then-is_empty-clause-none
returns-then-is_empty-clause-none c = λ value q.
    let v = quoted_value _ _ _ _ value c.in_ok-after_text.ensures.found c.value_at.ensures q in
    let some : 1 ≤ length c.value_at.result.0.now = v.some in
    let most : length c.value_at.result.0.now ≤ 255 = v.most in
    elim c.then-is_empty.branch [
      | then-is_empty-via-then-is_empty w ↦ (let none : length c.value_at.result.0.now ≡ 0 = eqb-true _ _ (sym c.is_empty.ensures ∙ w.if-is_empty.true) in omega arith)
      | then-is_empty-via-else-is_empty+then-value-gt255 w ↦ omega arith
      | then-is_empty-via-else-is_empty+else-value-gt255+then-not-is_empty w ↦ some_of _ (sym w.is_empty-else-value-gt255.ensures ∙ search rules) (quoted_last _ _ _ _ value _ _ _ c.in_ok-after_text.ensures.found c.value_at.ensures q c.in_ok-last.ensures.found w.after_blanks.ensures.1)
    ]
