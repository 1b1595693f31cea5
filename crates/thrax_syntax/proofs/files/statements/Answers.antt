use Rattle.std.proofs.Common.{◌≡◌, ◌∙◌, sym, ap, subst, arith, map, length, [], ◌∷◌}
use Rattle.std.proofs.lemmas.List.{map-append, length-map}
use Rattle.thrax_lexer.specs.Lexemes.{lex_of}
use Rattle.text_forms.specs.Steps.{Longest}
use Rattle.text_forms.proofs.Chains.{Stands, stands_begin, stands_step, stands_end}
use Rattle.thrax_syntax.specs.Statements.{Stated}
use Rattle.thrax_syntax.specs.Trees.{statement_term}
use Rattle.text_forms.proofs.Lists.{is_empty}
use Rattle.thrax_syntax.proofs.Whole.{full_map}
use Rattle.thrax_syntax.proofs.files.statements.Goals as goal

pub loop-found-init : goal.loop-found-init
loop-found-init c = (
  let n : length c.split_at.result.1.now ≡ length c.args.lexemes.now = ap length c.split_at.ensures.back in omega (arith, n, c.new-found.ensures.len),
  subst (λ v. Stands Stated (map lex_of c.args.lexemes.now) v (map lex_of c.split_at.result.1.now)) (sym (ap (map statement_term) c.new-found.ensures.items))
      (subst (λ v. Stands Stated (map lex_of c.args.lexemes.now) [] (map lex_of v)) (sym c.split_at.ensures.back) (stands_begin Stated (map lex_of c.args.lexemes.now))),
)

pub loop-found-preserved : goal.loop-found-preserved
loop-found-preserved c =
    let i = c.loop-found.invariant in
    let short = rw c.in-Some.is at c.in_ok-statement.ensures.shorter in (
      omega (arith, short, i.0, c.in_ok-push.ensures.len),
      subst (λ v. Stands Stated (map lex_of c.args.lexemes.now) v (map lex_of c.in-Some.after.now)) (sym (ap (map statement_term) c.in_ok-push.ensures.items ∙ map-append statement_term c.loop-found.found.items (c.in-Some.statement ∷ [])))
          (stands_step Stated (map lex_of c.args.lexemes.now) (map statement_term c.loop-found.found.items) (statement_term c.in-Some.statement) (map lex_of c.loop-found.rest.now) (map lex_of c.in-Some.after.now) (rw c.in-Some.is at c.in_ok-statement.ensures.exact) i.1),
    )

pub returns-then-is_empty : goal.returns-then-is_empty
returns-then-is_empty c = subst (λ v. Longest Stated (map lex_of c.args.lexemes.now) (map statement_term c.loop-found.found.items) (map lex_of v)) (is_empty c.loop-found.rest.now (sym c.if-is_empty.ensures)) (stands_end Stated (map lex_of c.args.lexemes.now) (map statement_term c.loop-found.found.items) (map lex_of c.loop-found.rest.now) (rw c.in_default.is at c.in_ok-statement.ensures.exact) c.loop-found.invariant.1)

pub returns : goal.returns
returns c = (
  map statement_term c.loop-found.found.items,
  map lex_of c.loop-found.rest.now,
  stands_end Stated (map lex_of c.args.lexemes.now) (map statement_term c.loop-found.found.items) (map lex_of c.loop-found.rest.now) (rw c.in_default.is at c.in_ok-statement.ensures.exact) c.loop-found.invariant.1,
  full_map lex_of c.loop-found.rest.now (sym c.if-is_empty.ensures),
  let e : c.len.result ≡ length (map statement_term c.loop-found.found.items) = c.len.ensures ∙ c.loop-found.found.ok.0 ∙ sym (length-map c.loop-found.found.items statement_term) in omega (arith, e),
)
