use Rattle.std.proofs.Common.{◌∙◌, sym, ap, map, ◌∷◌}
use Rattle.thrax_lexer.specs.Lexemes.{lex_of, keyword, quoted, symbol, word}
use Rattle.thrax_lexer.specs.declared.bytes.Symbol.TheVariants.{Semicolon}
use Rattle.thrax_lexer.specs.declared.lexemes.Keyword.TheVariants.{As}
use Rattle.thrax_syntax.proofs.Stating.{import_takes}
use Rattle.thrax_syntax.proofs.statements.import.Goals as goal

pub returns-clause-exact : goal.returns-clause-exact
returns-clause-exact c =
    import_takes (map lex_of c.in-Some.rest.now) (map lex_of c.args.lexemes.now) c.in_ok-file.file c.in_ok-alias.alias
    (c.in-Some.ensures.found
    ∙ ap (λ v. quoted v ∷ keyword As ∷ word c.in-Some.alias.now ∷ symbol Semicolon ∷ map lex_of c.in-Some.rest.now) (sym c.in_ok-file.ensures)
    ∙ ap (λ v. quoted c.in_ok-file.file ∷ keyword As ∷ word v ∷ symbol Semicolon ∷ map lex_of c.in-Some.rest.now) (sym c.in_ok-alias.ensures))
