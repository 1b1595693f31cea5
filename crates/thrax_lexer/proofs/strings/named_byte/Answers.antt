use Rattle.thrax_lexer.specs.Strings.{by_decimal, by_hexadecimal}
use Rattle.text_forms.proofs.Lists.{some_weaker}
use Rattle.thrax_lexer.proofs.strings.named_byte.Goals as goal

pub returns-in-Some-clause-found : goal.returns-in-Some-clause-found
returns-in-Some-clause-found c = some_weaker c.numeral.result _ _ (λ n m. by_hexadecimal c.in-Some.ensures.found m) c.numeral.ensures.found

pub returns-in-None-clause-found : goal.returns-in-None-clause-found
returns-in-None-clause-found c = some_weaker c.numeral-in-None.result _ _ (λ n m. by_decimal m) c.numeral-in-None.ensures.found
