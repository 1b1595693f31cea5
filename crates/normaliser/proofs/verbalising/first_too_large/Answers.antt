use Rattle.std.proofs.Common.{◌≤◌, subst, sym}
use Rattle.std.proofs.lemmas.List.{length-map}
use Rattle.token_record.specs.Meaning.{token_tree, token_trees}
use Rattle.normaliser.specs.Words.{HasTooMany}
use Rattle.normaliser.proofs.Firsts.{mapped_at, none_left, none_step}
use Rattle.normaliser.proofs.verbalising.first_too_large.Goals as goal

pub loop-i-preserved : goal.loop-i-preserved
loop-i-preserved c =
    none_step HasTooMany (token_trees c.args.tokens.now) c.loop-i.i (token_tree c.index-tokens-i.result) (mapped_at token_tree c.args.tokens.now c.loop-i.i c.index-tokens-i.result c.loop-i-test.true c.index-tokens-i.is) c.loop-i.invariant (λ h. let e = c.if-is_too_large.ensures.1 h in cc)

pub returns-clause-none : goal.returns-clause-none
returns-clause-none c =
    none_left HasTooMany (token_trees c.args.tokens.now) c.loop-i.i (subst (λ n. n ≤ c.loop-i.i) (sym (length-map c.args.tokens.now token_tree)) c.loop-i-test.false) c.loop-i.invariant
