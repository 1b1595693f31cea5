use Rattle.std.proofs.Common.{◌∙◌, sym, ap, arith, append_assoc, map, [], ◌∷◌, ◌++◌}
use Rattle.thrax_lexer.specs.Lexemes.{lex_of, symbol, word}
use Rattle.thrax_lexer.specs.declared.bytes.Symbol.TheVariants.{Comma}
use Rattle.text_forms.proofs.Chains.{nothing_after, stands_begin, stands_step, stands_end}
use Rattle.thrax_syntax.specs.Statements.{NextParam}
use Rattle.thrax_syntax.proofs.Parts.{first_pushed}
use Rattle.thrax_syntax.proofs.Stating.{param_takes, no_param, params_take, params_stuck}
use Rattle.thrax_syntax.proofs.statements.some_params.Goals as goal

pub loop-next-init : goal.loop-next-init
loop-next-init c = ([], c.in-Some.ensures.shorter, sym (nothing_after c.push.new.self.items), stands_begin NextParam (map lex_of c.in-Some.rest.now))

pub loop-next-preserved : goal.loop-next-preserved
loop-next-preserved c =
    let i = c.loop-next.invariant in (
      i.0 ++ c.in_ok-param.param ∷ [],
      omega (arith, c.in-Some-named_after.ensures.shorter, i.1),
      c.in_ok-push-2.ensures.items ∙ ap (λ v. v ++ c.in_ok-param.param ∷ []) i.2 ∙ append_assoc c.push.new.self.items i.0 (c.in_ok-param.param ∷ []),
      stands_step NextParam (map lex_of c.in-Some.rest.now) i.0 c.in_ok-param.param (map lex_of c.loop-next.rest.now) (map lex_of c.in-Some-named_after.after.now)
          (param_takes (map lex_of c.in-Some-named_after.after.now) (map lex_of c.loop-next.rest.now) c.in_ok-param.param
          (c.in-Some-named_after.ensures.found ∙ ap (λ v. symbol Comma ∷ word v ∷ map lex_of c.in-Some-named_after.after.now) (sym c.in_ok-param.ensures)))
          i.3,
    )

pub returns-in-Some-after_symbol-clause-exact : goal.returns-in-Some-after_symbol-clause-exact
returns-in-Some-after_symbol-clause-exact c =
    let i = c.loop-next.invariant in
    params_take (map lex_of c.args.lexemes.now) (map lex_of c.in-Some.rest.now) (map lex_of c.loop-next.rest.now) (map lex_of c.in-Some-after_symbol.after.now) c.in_ok-first.first i.0 c.loop-next.params.items
    (c.in-Some.ensures.found ∙ ap (λ v. word v ∷ map lex_of c.in-Some.rest.now) (sym c.in_ok-first.ensures))
    (stands_end NextParam (map lex_of c.in-Some.rest.now) i.0 (map lex_of c.loop-next.rest.now) (no_param (map lex_of c.loop-next.rest.now) c.in_default-named_after.ensures.none) i.3)
    c.in-Some-after_symbol.ensures.found
    (i.2 ∙ ap (λ v. v ++ i.0) (first_pushed c.new-params.ensures.items c.in_ok-push.ensures.items))

pub returns-clause-exact : goal.returns-clause-exact
returns-clause-exact c =
    let i = c.loop-next.invariant in
    params_stuck (map lex_of c.args.lexemes.now) (map lex_of c.in-Some.rest.now) (map lex_of c.loop-next.rest.now) c.in_ok-first.first i.0
    (c.in-Some.ensures.found ∙ ap (λ v. word v ∷ map lex_of c.in-Some.rest.now) (sym c.in_ok-first.ensures))
    (stands_end NextParam (map lex_of c.in-Some.rest.now) i.0 (map lex_of c.loop-next.rest.now) (no_param (map lex_of c.loop-next.rest.now) c.in_default-named_after.ensures.none) i.3)
    c.in-None.ensures.none
