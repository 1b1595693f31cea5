use Rattle.std.proofs.Common.{◌≡◌, ◌<◌, true, false, length, get_or, sym, ap, ◌∙◌, subst, inl, refl}
use Rattle.std.proofs.Math.ListN.{set}
use Rattle.std.specs.List.{Contains}
use Rattle.fst_core.specs.Reach.{Found, Marked}
use Rattle.fst_core.proofs.Searches.{marked_more, get_or_any}
use Rattle.fst_core.proofs.search.Search.add.Goals as goal

pub invariant_of-self-then-not-index : goal.invariant_of-self-then-not-index
invariant_of-self-then-not-index c =
    let size : length c.self.inside.marks.items ≡ c.args.self.now.size = ap (λ (v : Found). v.size) c.self.view_is in
    let within : c.args.state < length c.self.inside.marks.items = subst (λ n. c.args.state < n) (sym size) c.requires.state in
    let off : get_or c.self.inside.marks.items c.args.state false ≡ false = subst (λ d. get_or c.self.inside.marks.items c.args.state d ≡ d) c.if-not-index.true (sym c.index.ensures) in
    subst (Marked (set c.self.inside.marks.items c.args.state true)) (sym c.in_ok-push.ensures.items)
    (marked_more c.self.inside.marks.items c.self.inside.found.items c.args.state within off c.self.invariant)

pub returns-else-not-index : goal.returns-else-not-index
returns-else-not-index c =
    let size : length c.self.inside.marks.items ≡ c.args.self.now.size = ap (λ (v : Found). v.size) c.self.view_is in
    let within : c.args.state < length c.self.inside.marks.items = subst (λ n. c.args.state < n) (sym size) c.requires.state in
    let there : get_or c.self.inside.marks.items c.args.state false ≡ true = get_or_any c.self.inside.marks.items c.args.state false true within ∙ subst (λ d. get_or c.self.inside.marks.items c.args.state d ≡ d) c.if-not-index.false (sym c.index.ensures) in
    record { added = inl (subst (λ (v : Found). Contains v.states c.args.state) c.self.view_is (c.self.invariant.found c.args.state there), refl) }
