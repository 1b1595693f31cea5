use Rattle.std.proofs.Common.{◌≡◌, ◌<◌, ℕ, List, [], Vec, Global, map, length, get_or, arith, ap, ◌∙◌, subst, sym}
use Rattle.acceptor_ops.specs.Tables.{Table, class_of}
use Rattle.acceptor_ops.proofs.TableRows.{row_at}
use Rattle.acceptor_ops.proofs.Inputs.{place_of}
use Rattle.acceptor_ops.proofs.dfa.Dfa.step.Goals as goal

pub index-requires-2 : goal.index-requires-2
index-requires-2 c =
    let rows : c.args.self.now.next ≡ map (λ (v : Vec ℕ Global). v.items) c.self.inside.next.items = ap (λ (t : Table). t.next) (sym c.self.view_is) in
    let within : c.args.state < length (map (λ (v : Vec ℕ Global). v.items) c.self.inside.next.items) = subst (λ r. c.args.state < length r) rows c.requires.within in
    let row = row_at c.self.inside.next.items c.args.state c.index.result.now c.index.ensures within in
    let n : length c.self.inside.classes.items ≡ 258 = c.self.invariant.classes in
    let there : c.args.label < length c.self.inside.classes.items = omega (arith, c.requires.high) in
    let class : class_of c.self.inside.classes.items c.args.label ≡ c.index-class.result.now = place_of c.self.inside.classes.items c.args.label c.index-class.result.now there (sym c.index-class.ensures) in
    let l : c.index-class.result.now < length c.index.result.now.items = subst (λ (r : List ℕ). c.index-class.result.now < length r) row
    (subst (λ v. v < length (get_or (map (λ (v : Vec ℕ Global). v.items) c.self.inside.next.items) c.args.state [])) class (c.self.invariant.within c.args.state c.args.label within (c.requires.low, c.requires.high))) in
    omega (arith, c.index.result.now.ok)

pub returns-clause-within : goal.returns-clause-within
returns-clause-within c =
    let rows : c.args.self.now.next ≡ map (λ (v : Vec ℕ Global). v.items) c.self.inside.next.items = ap (λ (t : Table). t.next) (sym c.self.view_is) in
    let within : c.args.state < length (map (λ (v : Vec ℕ Global). v.items) c.self.inside.next.items) = subst (λ r. c.args.state < length r) rows c.requires.within in
    let row = row_at c.self.inside.next.items c.args.state c.index.result.now c.index.ensures within in
    let n : length c.self.inside.classes.items ≡ 258 = c.self.invariant.classes in
    let there : c.args.label < length c.self.inside.classes.items = omega (arith, c.requires.high) in
    let class : class_of c.self.inside.classes.items c.args.label ≡ c.index-class.result.now = place_of c.self.inside.classes.items c.args.label c.index-class.result.now there (sym c.index-class.ensures) in
    let l : c.index-class.result.now < length c.index.result.now.items = subst (λ (r : List ℕ). c.index-class.result.now < length r) row
    (subst (λ v. v < length (get_or (map (λ (v : Vec ℕ Global). v.items) c.self.inside.next.items) c.args.state [])) class (c.self.invariant.within c.args.state c.args.label within (c.requires.low, c.requires.high))) in
    let next : get_or c.index.result.now.items c.index-class.result.now 0 ≡ c.index-2.result.now = place_of c.index.result.now.items c.index-class.result.now c.index-2.result.now l (sym c.index-2.ensures) in
    subst (λ r. c.index-2.result.now < length r) (sym rows)
    (subst (λ v. v < length (map (λ (v : Vec ℕ Global). v.items) c.self.inside.next.items)) (ap (λ v. get_or (get_or (map (λ (v : Vec ℕ Global). v.items) c.self.inside.next.items) c.args.state []) v 0) class ∙ ap (λ r. get_or r c.index-class.result.now 0) row ∙ next)
    (c.self.invariant.steps c.args.state c.args.label within (c.requires.low, c.requires.high)))
