use Rattle.std.proofs.Common.{◌≡◌, ℕ, Err, Option, Vec, arith, rules, subst}
use Rattle.std.specs.declared.alloc.Global.{Global}
use Rattle.std.proofs.lemmas.Grind.{common_steps}
use Rattle.normaliser.specs.declared.normalisers.Spoken.{Spoken}
use Rattle.normaliser.specs.Loads.{classifier_of}
use Rattle.normaliser.specs.Parts.{IsOutput}
use Rattle.normaliser.proofs.LineAnswers.{empty_classified, found_classified, lost_classified, nothing, searched, unsearched_said}
use Rattle.normaliser.proofs.Searchings.{did_with, searched_none}
use Rattle.std.specs.Prelude.{IfSome}
use Rattle.normaliser.specs.Searches.{LooksThrough}
use Rattle.normaliser.proofs.Looking.{not_empty, not_read, not_unsearched}
use Rattle.normaliser.proofs.normalisers.Normaliser.classify_line_in.Goals as goal

pub returns-then-is_empty-clause-said : goal.returns-then-is_empty-clause-said
returns-then-is_empty-clause-said c = empty_classified (classifier_of c.args.self.now) c.args.line.now c.new.result.items (nothing c.args.line.now (first_of (search rules, grind (arith, common_steps)))) c.new.ensures.items

pub returns-then-is_empty-clause-searched : goal.returns-then-is_empty-clause-searched
returns-then-is_empty-clause-searched c = searched_none c.args.self.now.shared c.args.caller.now

pub returns-in-Some-clause-said : goal.returns-in-Some-clause-said
returns-in-Some-clause-said c = unsearched_said (classifier_of c.args.self.now) c.args.line.now c.in-Some.fault c.in-Some.ensures.fault

pub returns-in-Some-clause-searched : goal.returns-in-Some-clause-searched
returns-in-Some-clause-searched c = did_with c.args.self.now.shared c.args.caller.now c.args.caller.now (searched_none c.args.self.now.shared c.args.caller.now) {T = Spoken} (Err c.in-Some.fault)

pub returns-in-Some-2-clause-said : goal.returns-in-Some-2-clause-said
returns-in-Some-2-clause-said c =
    found_classified (classifier_of c.args.self.now) c.args.line.now (search rules) c.in_default.ensures.no_zero c.in_default.ensures.short c.in-Some-2.words
    (subst (λ (o : Option (Vec ℕ Global)). IsOutput (classifier_of c.args.self.now) (λ x. x ≡ c.args.line.now) o) c.in-Some-2.is c.in_ok-words.ensures.output)

pub returns-in-Some-2-clause-kept : goal.returns-in-Some-2-clause-kept
returns-in-Some-2-clause-kept c = λ lost. absurd (lost (searched c.args.line.now (search rules) c.in_default.ensures.no_zero c.in_default.ensures.short))

pub returns-in-None-clause-said : goal.returns-in-None-clause-said
returns-in-None-clause-said c =
    lost_classified (classifier_of c.args.self.now) c.args.line.now (search rules) c.in_default.ensures.no_zero c.in_default.ensures.short
    (subst (λ (o : Option (Vec ℕ Global)). IsOutput (classifier_of c.args.self.now) (λ x. x ≡ c.args.line.now) o) c.in-None.is c.in_ok-words.ensures.output)

pub returns-in-None-clause-kept : goal.returns-in-None-clause-kept
returns-in-None-clause-kept c = λ lost. absurd (lost (searched c.args.line.now (search rules) c.in_default.ensures.no_zero c.in_default.ensures.short))

pub returns-in_err-words-clause-kept : goal.returns-in_err-words-clause-kept
returns-in_err-words-clause-kept c = λ lost. absurd (lost (searched c.args.line.now (search rules) c.in_default.ensures.no_zero c.in_default.ensures.short))

pub returns-then-is_empty-clause-looks : goal.returns-then-is_empty-clause-looks
returns-then-is_empty-clause-looks c = λ searched. absurd (not_empty c.args.line.now (first_of (search rules, grind (arith, common_steps))) searched)

pub returns-in-Some-clause-looks : goal.returns-in-Some-clause-looks
returns-in-Some-clause-looks c = λ searched. absurd (not_unsearched c.args.line.now c.in-Some.fault c.in-Some.ensures.fault searched)

pub returns-in-Some-2-clause-looks : goal.returns-in-Some-2-clause-looks
returns-in-Some-2-clause-looks c = λ searched read had. subst (λ (o : Option (Vec ℕ Global)). IfSome o (λ _. LooksThrough c.args.self.now.shared c.args.caller.now c.classified.new.caller c.args.line.now)) c.in-Some-2.is c.in_ok-words.ensures.looks

pub returns-in-None-clause-looks : goal.returns-in-None-clause-looks
returns-in-None-clause-looks c = λ searched read. absurd (not_read (classifier_of c.args.self.now) c.args.line.now (subst (λ (o : Option (Vec ℕ Global)). IsOutput (classifier_of c.args.self.now) (λ x. x ≡ c.args.line.now) o) c.in-None.is c.in_ok-words.ensures.output) read)
