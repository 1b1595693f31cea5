use Rattle.std.proofs.Common.{◌∙◌, sym, subst}
use Rattle.std.specs.Str.{IsUtf8}
use Rattle.std.proofs.lemmas.Bool.{false_from_ne_true}
use Rattle.std.proofs.lemmas.Str.{IsUtf8-from_is_utf8, is_utf8-from_IsUtf8}
use Rattle.thrax_meaning.proofs.FileRules.{fetched, unnamed}
use Rattle.thrax_meaning.proofs.files.fetch.Goals as goal

pub returns-in_default-clause-found : goal.returns-in_default-clause-found
returns-in_default-clause-found g c = λ known told.
    unnamed known c.args.name.now (false_from_ne_true _ (λ e. c.in_default.ensures.cases.0 (subst IsUtf8 (sym c.bytes.ensures) (IsUtf8-from_is_utf8 _ e))))

pub returns-clause-found : goal.returns-clause-found
returns-clause-found g c = λ known told.
    fetched known _ c.args.name.now c.in-Ok.text.now c.fetch.result told (c.in-Ok.ensures.cases.0 ∙ c.bytes.ensures) (is_utf8-from_IsUtf8 _ (subst IsUtf8 c.bytes.ensures c.in-Ok.ensures.cases.1)) c.fetch.ensures.found
