use Rattle.std.proofs.Common.{◌∙◌, sym, ap, subst, [], ◌∷◌, ◌≡◌, arith, length}
use Rattle.std.proofs.lemmas.List.{map-append, length-map}
use Rattle.text_forms.proofs.Chains.{Stands, stands_begin, stands_step}
use Rattle.text_forms.proofs.Lists.{is_empty, is_full}
use Rattle.token_record.specs.Meaning.{token_tree, token_trees}
use Rattle.token_record.specs.Texts.{TokenAt, TokenText}
use Rattle.token_record.proofs.Once.{text_once}
use Rattle.token_record.proofs.Sound.{text_writable, tokens_no_zero}
use Rattle.token_record.proofs.Wholes.{read_stopped}
use Rattle.token_record.proofs.reading.read_tokens.Goals as goal

pub loop-tokens-init : goal.loop-tokens-init
loop-tokens-init c = subst (λ v. Stands TokenAt c.args.text.now v c.args.text.now) (sym (ap token_trees c.new-tokens.ensures.items)) (stands_begin TokenAt c.args.text.now)

pub loop-tokens-preserved : goal.loop-tokens-preserved
loop-tokens-preserved c =
    subst (λ v. Stands TokenAt c.args.text.now v c.in-Some.after.now) (sym (ap token_trees c.in_ok-push.ensures.items ∙ map-append token_tree c.loop-tokens.tokens.items (c.in-Some.token ∷ [])))
    (stands_step TokenAt c.args.text.now (token_trees c.loop-tokens.tokens.items) (token_tree c.in-Some.token) c.loop-tokens.rest.now c.in-Some.after.now (rw c.in-Some.is at c.in_ok-token.ensures.exact) c.loop-tokens.invariant)

pub returns-then-is_empty : goal.returns-then-is_empty
returns-then-is_empty c =
    let text = c.args.text.now in
    let ts = token_trees c.loop-tokens.tokens.items in
    let p : TokenText ts text = record { rest = c.loop-tokens.rest.now; list = c.loop-tokens.invariant.list; blank = sym c.after_blanks.ensures.value ∙ is_empty _ (sym c.if-is_empty.ensures) } in
    let w = text_writable text c.loop-tokens.tokens.items p in
    record { exact = p; only = λ us q. text_once text ts us p q; writable = w; no_zero = tokens_no_zero c.loop-tokens.tokens.items w }

pub returns : goal.returns
returns c = record {
  only = tt;
  writable = tt;
  no_zero = tt;
  exact = read_stopped c.args.text.now (token_trees c.loop-tokens.tokens.items) c.loop-tokens.rest.now c.len.result (rw c.in_default.is at c.in_ok-token.ensures.exact) c.loop-tokens.invariant (λ e. is_full c.after_blanks.result.now (sym c.if-is_empty.ensures) (c.after_blanks.ensures.value ∙ e)) (let e : length (token_trees c.loop-tokens.tokens.items) ≡ length c.loop-tokens.tokens.items = length-map c.loop-tokens.tokens.items token_tree in omega (arith, e, c.len.ensures));
}
