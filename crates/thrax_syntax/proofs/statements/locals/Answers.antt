use Rattle.std.proofs.Common.{◌∙◌, sym, ap, subst, arith, map, [], ◌∷◌}
use Rattle.std.proofs.lemmas.List.{map-append}
use Rattle.thrax_lexer.specs.Lexemes.{lex_of}
use Rattle.text_forms.proofs.Chains.{Stands, stands_begin, stands_step, stands_end}
use Rattle.thrax_syntax.specs.Statements.{Defined}
use Rattle.thrax_syntax.specs.Trees.{local_term}
use Rattle.thrax_syntax.proofs.Stating.{locals_take, locals_stuck}
use Rattle.thrax_syntax.proofs.statements.locals.Goals as goal

pub loop-locals-init : goal.loop-locals-init
loop-locals-init c = (
  c.in-Some.ensures.shorter,
  subst (λ v. Stands Defined (map lex_of c.in-Some.rest.now) v (map lex_of c.in-Some.rest.now)) (sym (ap (map local_term) c.new-locals.ensures.items)) (stands_begin Defined (map lex_of c.in-Some.rest.now)),
)

pub loop-locals-preserved : goal.loop-locals-preserved
loop-locals-preserved c =
    let i = c.loop-locals.invariant in
    let short = rw c.in-Some-2.is at c.in_ok-local.ensures.shorter in (
      omega (arith, short, i.0),
      subst (λ v. Stands Defined (map lex_of c.in-Some.rest.now) v (map lex_of c.in-Some-2.after.now)) (sym (ap (map local_term) c.in_ok-push.ensures.items ∙ map-append local_term c.loop-locals.locals.items (c.in-Some-2.local ∷ [])))
          (stands_step Defined (map lex_of c.in-Some.rest.now) (map local_term c.loop-locals.locals.items) (local_term c.in-Some-2.local) (map lex_of c.loop-locals.rest.now) (map lex_of c.in-Some-2.after.now) (rw c.in-Some-2.is at c.in_ok-local.ensures.exact) i.1),
    )

pub returns-in-Some-after_keyword-clause-exact : goal.returns-in-Some-after_keyword-clause-exact
returns-in-Some-after_keyword-clause-exact c =
    locals_take (map lex_of c.args.lexemes.now) (map lex_of c.in-Some.rest.now) (map lex_of c.loop-locals.rest.now) (map lex_of c.in-Some-after_keyword.after.now) (map local_term c.loop-locals.locals.items) c.in-Some.ensures.found
    (stands_end Defined (map lex_of c.in-Some.rest.now) (map local_term c.loop-locals.locals.items) (map lex_of c.loop-locals.rest.now) (rw c.in_default-2.is at c.in_ok-local.ensures.exact) c.loop-locals.invariant.1)
    c.in-Some-after_keyword.ensures.found

pub returns-clause-exact : goal.returns-clause-exact
returns-clause-exact c =
    locals_stuck (map lex_of c.args.lexemes.now) (map lex_of c.in-Some.rest.now) (map lex_of c.loop-locals.rest.now) (map local_term c.loop-locals.locals.items) c.in-Some.ensures.found
    (stands_end Defined (map lex_of c.in-Some.rest.now) (map local_term c.loop-locals.locals.items) (map lex_of c.loop-locals.rest.now) (rw c.in_default-2.is at c.in_ok-local.ensures.exact) c.loop-locals.invariant.1)
    c.in-None.ensures.none
