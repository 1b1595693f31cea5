use Rattle.std.proofs.Common.{◌+◌, subst}
use Rattle.std.proofs.lemmas.Result.{err_from_is_err_and}
use Rattle.token_record.specs.Meaning.{token_tree}
use Rattle.normaliser.specs.Loads.{verbaliser_of}
use Rattle.normaliser.specs.Parts.{IsPut}
use Rattle.normaliser.specs.Words.{no_words}
use Rattle.normaliser.proofs.Firsts.{mapped_at}
use Rattle.normaliser.proofs.Verbalised.{first_without, joined_step, joined_whole}
use Rattle.normaliser.proofs.Searchings.{searched_more, stopped_after}
use Rattle.normaliser.proofs.normalisers.Normaliser.joined.Goals as goal

pub put_words-requires-clause-few : goal.put_words-requires-clause-few
put_words-requires-clause-few c = c.requires.few c.loop-i.i (token_tree c.index-tokens-i.result) (mapped_at token_tree c.args.tokens.now c.loop-i.i c.index-tokens-i.result c.loop-i-test.true c.index-tokens-i.is)

pub returns-then-not-branch-clause-told : goal.returns-then-not-branch-clause-told
returns-then-not-branch-clause-told c =
    let V = verbaliser_of c.args.self.now in
    no_words (c.loop-i.i + 1) c.requires.few (first_without V c.args.tokens.now c.loop-i.i c.index-tokens-i.result c.loop-i.words.items c.loop-i-test.true c.index-tokens-i.is c.loop-i.invariant.0
    (subst (IsPut V (token_tree c.index-tokens-i.result) c.loop-i.words.items c.put_words.new.words.items) c.if-not-branch.true c.in_ok-put_words.ensures.put))

pub loop-i-preserved : goal.loop-i-preserved
loop-i-preserved c =
    let V = verbaliser_of c.args.self.now in (
      joined_step V c.args.tokens.now c.loop-i.i c.index-tokens-i.result c.loop-i.words.items c.loop-i-test.true c.index-tokens-i.is c.loop-i.invariant.0 c.put_words.new.words.items
          (subst (IsPut V (token_tree c.index-tokens-i.result) c.loop-i.words.items c.put_words.new.words.items) c.if-not-branch.false c.in_ok-put_words.ensures.put),
      c.put_words.ensures.ready,
      searched_more c.args.self.now.shared c.args.caller.now c.loop-i.caller c.put_words.new.caller c.loop-i.invariant.2 c.in_ok-put_words.ensures.searched,
    )

pub returns-clause-told : goal.returns-clause-told
returns-clause-told c = joined_whole (verbaliser_of c.args.self.now) c.args.tokens.now c.loop-i.i c.loop-i.words.items c.loop-i-test.false c.requires.few c.loop-i.invariant.0

pub returns-then-not-branch-clause-searched : goal.returns-then-not-branch-clause-searched
returns-then-not-branch-clause-searched c = searched_more c.args.self.now.shared c.args.caller.now c.loop-i.caller c.put_words.new.caller c.loop-i.invariant.2 c.in_ok-put_words.ensures.searched

pub returns-clause-searched : goal.returns-clause-searched
returns-clause-searched c = c.loop-i.invariant.2

pub returns-in_err-put_words-clause-searched : goal.returns-in_err-put_words-clause-searched
returns-in_err-put_words-clause-searched c =
    let p = err_from_is_err_and c.from_residual.result c.from_residual.ensures.1 in
    rw (p.1, p.2) (stopped_after c.args.self.now.shared c.args.caller.now c.loop-i.caller c.put_words.new.caller c.loop-i.invariant.2 c.in_err-put_words.ensures.stopped)
