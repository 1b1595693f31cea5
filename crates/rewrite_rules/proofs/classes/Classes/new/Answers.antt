use Rattle.std.proofs.Common.{◌≡◌, ◌∷◌, ◌++◌, [], ℕ, map, Vec, Global, subst, sym, ap, ◌∙◌, arith}
use Rattle.rewrite_rules.specs.Classes.{AreClassesTo}
use Rattle.rewrite_rules.proofs.Grouping.{classes_none}
use Rattle.rewrite_rules.proofs.classes.Classes.new.Goals as goal

pub loop-byte-init : goal.loop-byte-init
loop-byte-init c =
    let of : c.push.new.self.items ≡ 0 ∷ [] = c.in_ok-push.ensures.items ∙ ap (λ r. r ++ 0 ∷ []) c.new-of.ensures.items in
    subst (λ r. AreClassesTo c.args.t.now 1 (record { of = r; members = map (λ (v : Vec ℕ Global). v.items) c.new.result.items })) (sym of)
    (subst (λ r. AreClassesTo c.args.t.now 1 (record { of = 0 ∷ []; members = map (λ (v : Vec ℕ Global). v.items) r })) (sym c.new.ensures.items) (classes_none c.args.t.now))

pub returns : goal.returns
returns c =
    let e : c.loop-byte.byte ≡ 256 = omega arith in
    record { classes = subst (λ n. AreClassesTo c.args.t.now n c.loop-byte.classes) e c.loop-byte.invariant }
