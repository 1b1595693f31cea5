use Rattle.std.proofs.Common.{ℕ, List, Vec, arith, rules, subst, sym}
use Rattle.std.proofs.lemmas.Grind.{common_steps}
use Rattle.std.proofs.lemmas.Result.{err_from_is_err_and}
use Rattle.token_record.specs.Meaning.{token_trees}
use Rattle.token_record.specs.Texts.{TokenText}
use Rattle.token_record.specs.declared.tokens.Token.{Token}
use Rattle.std.specs.declared.alloc.Global.{Global}
use Rattle.normaliser.specs.declared.normalisers.Spoken.{Spoken}
use Rattle.normaliser.specs.Loads.{classifier_of, verbaliser_of}
use Rattle.normaliser.proofs.LineAnswers.{nothing}
use Rattle.normaliser.proofs.Sayings.{empty_said, found_as, no_tokens_said, tokens_said, unclassified_said, unsaid}
use Rattle.normaliser.proofs.Searchings.{did_after, did_with, searched_more, searched_none}
use Rattle.normaliser.proofs.Looking.{did_search, looked_before, not_empty}
use Rattle.normaliser.proofs.normalisers.Normaliser.speak_line_in.Goals as goal

pub returns-then-is_empty-clause-said : goal.returns-then-is_empty-clause-said
returns-then-is_empty-clause-said c = empty_said (classifier_of c.args.self.now) (verbaliser_of c.args.self.now) c.args.line.now c.new.result.items (nothing c.args.line.now (first_of (search rules, grind (arith, common_steps)))) c.new.ensures.items

pub returns-in_err-text-clause-said : goal.returns-in_err-text-clause-said
returns-in_err-text-clause-said c =
    let p = err_from_is_err_and c.from_residual.result c.from_residual.ensures.1 in
    rw (p.1, p.2) (unclassified_said (classifier_of c.args.self.now) (verbaliser_of c.args.self.now) c.args.line.now c.in_err-text.field-0.0 c.in_err-text.ensures.said)

pub returns-in_err-tokens-clause-said : goal.returns-in_err-tokens-clause-said
returns-in_err-tokens-clause-said c =
    let C = classifier_of c.args.self.now in
    let text = c.deref.result.now in
    let found = found_as C c.args.line.now text c.in_ok-text.field-0.words.items c.deref.ensures.value (search rules) c.in_ok-text.ensures.said in
    let p = err_from_is_err_and c.from_residual-in_err-tokens.result c.from_residual-in_err-tokens.ensures.1 in
    rw (p.1, p.2) (no_tokens_said C (verbaliser_of c.args.self.now) c.args.line.now text found c.in_err-tokens.field-0.0 c.in_err-tokens.ensures.tokens)

pub returns-in_err-words-clause-said : goal.returns-in_err-words-clause-said
returns-in_err-words-clause-said c =
    let C = classifier_of c.args.self.now in
    let text = c.deref.result.now in
    let found = found_as C c.args.line.now text c.in_ok-text.field-0.words.items c.deref.ensures.value (search rules) c.in_ok-text.ensures.said in
    let tokens = subst (λ (ts : List Token). TokenText (token_trees ts) text) (sym c.deref-2.ensures.value) c.in_ok-tokens.ensures.tokens in
    let p = err_from_is_err_and c.from_residual-in_err-words.result c.from_residual-in_err-words.ensures.1 in
    rw (p.1, p.2) (unsaid C (verbaliser_of c.args.self.now) c.args.line.now text found (token_trees c.deref-2.result.now) tokens c.in_err-words.field-0.0 c.in_err-words.ensures.told)

pub returns-clause-said : goal.returns-clause-said
returns-clause-said c =
    let C = classifier_of c.args.self.now in
    let text = c.deref.result.now in
    let found = found_as C c.args.line.now text c.in_ok-text.field-0.words.items c.deref.ensures.value (search rules) c.in_ok-text.ensures.said in
    let tokens = subst (λ (ts : List Token). TokenText (token_trees ts) text) (sym c.deref-2.ensures.value) c.in_ok-tokens.ensures.tokens in
    tokens_said C (verbaliser_of c.args.self.now) c.args.line.now text found (token_trees c.deref-2.result.now) tokens c.in_ok-words.words.items c.in_ok-words.ensures.told

pub returns-then-is_empty-clause-searched : goal.returns-then-is_empty-clause-searched
returns-then-is_empty-clause-searched c = searched_none c.args.self.now.shared c.args.caller.now

pub returns-in_err-text-clause-searched : goal.returns-in_err-text-clause-searched
returns-in_err-text-clause-searched c =
    let p = err_from_is_err_and c.from_residual.result c.from_residual.ensures.1 in
    rw (p.1, p.2) c.in_err-text.ensures.searched

pub returns-in_err-tokens-clause-searched : goal.returns-in_err-tokens-clause-searched
returns-in_err-tokens-clause-searched c = did_with c.args.self.now.shared c.args.caller.now c.classify_line_in.new.caller c.in_ok-text.ensures.searched _

pub returns-in_err-words-clause-searched : goal.returns-in_err-words-clause-searched
returns-in_err-words-clause-searched c =
    let p = err_from_is_err_and c.from_residual-in_err-words.result c.from_residual-in_err-words.ensures.1 in
    rw (p.1, p.2) (did_after c.args.self.now.shared (Vec ℕ Global) Spoken c.args.caller.now c.classify_line_in.new.caller c.words_of.new.caller c.in_ok-text.ensures.searched c.in_err-words.field-0.0 c.in_err-words.ensures.searched)

pub returns-in_err-words-clause-kept : goal.returns-in_err-words-clause-kept
returns-in_err-words-clause-kept c =
    let text = c.deref.result.now in
    let found = found_as (classifier_of c.args.self.now) c.args.line.now text c.in_ok-text.field-0.words.items c.deref.ensures.value (search rules) c.in_ok-text.ensures.said in
    λ lost. absurd (lost found.searched)

pub returns-clause-searched : goal.returns-clause-searched
returns-clause-searched c = searched_more c.args.self.now.shared c.args.caller.now c.classify_line_in.new.caller c.words_of.new.caller c.in_ok-text.ensures.searched c.in_ok-words.ensures.searched

pub returns-clause-kept : goal.returns-clause-kept
returns-clause-kept c =
    let text = c.deref.result.now in
    let found = found_as (classifier_of c.args.self.now) c.args.line.now text c.in_ok-text.field-0.words.items c.deref.ensures.value (search rules) c.in_ok-text.ensures.said in
    λ lost. absurd (lost found.searched)

pub returns-then-is_empty-clause-looks : goal.returns-then-is_empty-clause-looks
returns-then-is_empty-clause-looks c = λ searched. absurd (not_empty c.args.line.now (first_of (search rules, grind (arith, common_steps))) searched)

pub returns-in_err-text-clause-looks : goal.returns-in_err-text-clause-looks
returns-in_err-text-clause-looks c =
    let p = err_from_is_err_and c.from_residual.result c.from_residual.ensures.1 in
    rw (p.1, p.2) c.in_err-text.ensures.looks

pub returns-in_err-tokens-clause-looks : goal.returns-in_err-tokens-clause-looks
returns-in_err-tokens-clause-looks c = λ searched read had. c.in_ok-text.ensures.looks searched read tt

pub returns-in_err-words-clause-looks : goal.returns-in_err-words-clause-looks
returns-in_err-words-clause-looks c =
    let p = err_from_is_err_and c.from_residual-in_err-words.result c.from_residual-in_err-words.ensures.1 in
    rw (p.1, p.2) (λ searched read had. looked_before c.args.self.now.shared c.args.caller.now c.classify_line_in.new.caller c.words_of.new.caller c.args.line.now (c.in_ok-text.ensures.looks searched read tt) (did_search (Vec ℕ Global) Spoken c.args.self.now.shared c.classify_line_in.new.caller c.words_of.new.caller c.in_err-words.field-0.0 c.in_err-words.ensures.searched had))

pub returns-clause-looks : goal.returns-clause-looks
returns-clause-looks c = λ searched read had. looked_before c.args.self.now.shared c.args.caller.now c.classify_line_in.new.caller c.words_of.new.caller c.args.line.now (c.in_ok-text.ensures.looks searched read tt) c.in_ok-words.ensures.searched
