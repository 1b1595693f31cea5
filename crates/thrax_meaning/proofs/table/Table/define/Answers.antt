use Rattle.std.proofs.Common.{◌≡◌, ◌∙◌, rules, sym, ap, subst, [], ◌∷◌, ◌++◌, length, map}
use Rattle.std.proofs.lemmas.List.{map_push, length-map}
use Rattle.thrax_meaning.specs.declared.table.Entry.{Entry}
use Rattle.thrax_meaning.specs.Index.{IsIndex}
use Rattle.thrax_meaning.proofs.table.Table.define.Goals as goal

pub invariant_of-self-2 : goal.invariant_of-self-2
invariant_of-self-2 c =
    let es = c.self.inside.entries.items in
    let entry : Entry = record { name = c.args.name; kind = c.args.kind } in
    let all : c.push.new.self.items ≡ es ++ entry ∷ [] = c.in_ok-push.ensures.items ∙ ap (λ v. v ++ entry ∷ []) c.reserve.ensures.items in
    let names : map (λ e. e.name) c.push.new.self.items ≡ map (λ e. e.name) es ++ c.args.name ∷ [] = ap (map (λ e. e.name)) all ∙ map_push (λ e. e.name) es entry in
    let long : c.len-at.result ≡ length es = search rules in
    subst (IsIndex c.set.new.self.places) (sym names) (c.in_ok-set.ensures.ok (map (λ e. e.name) es) (long ∙ sym (length-map es (λ e. e.name))) c.self.invariant)
