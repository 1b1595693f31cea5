use Rattle.std.proofs.Common.{◌≡◌, ◌∙◌, ◌++◌, ◌∷◌, [], subst}
use Rattle.thrax_meaning.specs.Index.{IsIndex}
use Rattle.thrax_meaning.proofs.Index.{index_push}
use Rattle.thrax_meaning.proofs.name_index.NameIndex.set.Goals as goal

pub returns-clause-ok : goal.returns-clause-ok
returns-clause-ok c = λ names long h.
    let key : c.in_ok-key.key.items ≡ c.args.name.now = c.in_ok-key.ensures.items ∙ c.bytes.ensures in
    subst (λ n. IsIndex c.insert.new.self (names ++ n ∷ [])) key (index_push c.args.self.now.places c.insert.new.self c.in_ok-key.key names c.args.at long h c.in_ok-insert.ensures.updates)
