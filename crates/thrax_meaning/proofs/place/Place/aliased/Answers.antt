use Rattle.std.proofs.Common.{◌≡◌, ◌∙◌, sym, ap, arith, rules, take, get_or}
use Rattle.std.proofs.lemmas.List.{take_all}
use Rattle.thrax_meaning.specs.Meaning.{found, names_of, empty}
use Rattle.thrax_meaning.specs.Tables.{scope_at, scope_of, scopes_of, weight}
use Rattle.thrax_meaning.proofs.Scopes.{scopes_at, scopes_past, weights_at}
use Rattle.thrax_meaning.proofs.place.Place.aliased.Goals as goal

pub returns-then-at-self-clause-scope : goal.returns-then-at-self-clause-scope
returns-then-at-self-clause-scope c = λ known.
    let files = c.args.self.now.files.now in
    let at = c.in-Some-default-File.at in
    let table = get_or files at c.index-self-at.result in
    let done = scopes_of known (take at files) in
    let is : names_of (found (scope_at known c.args.self.now) c.args.alias.now) ≡ get_or (scopes_of known files) at empty = search rules in
    is ∙ scopes_at known files at c.index-self-at.result c.if-at-self.true c.index-self-at.is
    ∙ ap (scope_of known done) c.index-self-at.is ∙ ap (scope_of known done) (sym (take_all c.len.result table (omega (arith, c.len.ensures))))

pub returns-then-at-self-clause-weight : goal.returns-then-at-self-clause-weight
returns-then-at-self-clause-weight c =
    let files = c.args.self.now.files.now in
    let at = c.in-Some-default-File.at in
    let table = get_or files at c.index-self-at.result in
    let heavy = weights_at files at c.index-self-at.result c.if-at-self.true c.index-self-at.is in
    let same = ap weight c.index-self-at.is in
    let whole = ap weight (take_all c.len.result table (omega (arith, c.len.ensures))) in
    omega (arith, heavy, same, whole)

pub returns-else-at-self-clause-scope : goal.returns-else-at-self-clause-scope
returns-else-at-self-clause-scope c = λ known.
    let is : names_of (found (scope_at known c.args.self.now) c.args.alias.now) ≡ get_or (scopes_of known c.args.self.now.files.now) c.in-Some-default-File.at empty = search rules in
    is ∙ scopes_past known c.args.self.now.files.now c.in-Some-default-File.at c.if-at-self.false
