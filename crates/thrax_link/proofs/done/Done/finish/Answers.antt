use Rattle.std.proofs.Common.{◌≡◌, ◌∙◌, ◌++◌, ◌∷◌, [], sym, ap, subst, arith, rules, length, length-append}
use Rattle.thrax_meaning.specs.Index.{IsIndex}
use Rattle.thrax_link.proofs.done.Done.finish.Goals as goal

pub returns-clause-placed : goal.returns-clause-placed
returns-clause-placed c =
    let name : c.in_ok-new.field-0 ≡ c.args.name.now = c.in_ok-new.ensures ∙ c.bytes.ensures in
    let names : c.push.new.self.items ≡ c.args.self.now.names.items ++ c.args.name.now ∷ [] = c.in_ok-push.ensures.items ∙ ap (λ n. c.args.self.now.names.items ++ n ∷ []) name in
    let tables : c.push-2.new.self.items ≡ c.args.self.now.tables.items ++ c.args.table ∷ [] = c.in_ok-push-2.ensures.items in
    let a = ap length names ∙ length-append c.args.self.now.names.items (c.args.name.now ∷ []) in
    let b = ap length tables ∙ length-append c.args.self.now.tables.items (c.args.table ∷ []) in
    let aligned = c.requires.aligned in
    let place : c.len-place.result ≡ length c.args.self.now.tables.items = search rules in
    record {
      aligned = omega (arith, a, b, aligned);
      placed = subst (IsIndex c.set.new.self.places) (sym names) (c.in_ok-set.ensures.ok c.args.self.now.names.items (place ∙ sym aligned) c.requires.placed);
    }
