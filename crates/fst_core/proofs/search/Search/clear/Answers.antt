use Rattle.std.proofs.Common.{◌≡◌, ◌<◌, [], length, subst, sym, ◌∙◌, append-nil, arith}
use Rattle.fst_core.specs.Reach.{Marked}
use Rattle.fst_core.proofs.Searches.{Clearing, clear_begun, clear_within, clear_more, clear_ended, no_items}
use Rattle.fst_core.proofs.search.Search.clear.Goals as goal

pub loop-s-init : goal.loop-s-init
loop-s-init c = clear_begun c.self.inside.marks.items c.self.inside.found.items c.args.self.now c.self.view_is c.self.invariant

pub index_mut-requires : goal.index_mut-requires
index_mut-requires c =
    let l : c.in-Some.s < length c.loop-s.self-inside.marks.items = clear_within c.args.self.now.size c.loop-s.self-inside.marks.items c.loop-s.self-inside.found.items c.pop.new.self.items c.in-Some.s c.loop-s.invariant c.in-Some.ensures.items in
    omega arith

pub loop-s-preserved : goal.loop-s-preserved
loop-s-preserved c = clear_more c.args.self.now.size c.loop-s.self-inside.marks.items c.loop-s.self-inside.found.items c.pop.new.self.items c.in-Some.s c.loop-s.invariant c.in-Some.ensures.items

pub invariant_of-self : goal.invariant_of-self
invariant_of-self c =
    let none : length c.pop.new.self.items ≡ 0 = omega (arith, c.in_default.ensures.cases.1) in
    let rest : c.pop.new.self.items ≡ [] = no_items c.pop.new.self.items none in
    let same : c.loop-s.self-inside.found.items ≡ c.pop.new.self.items = c.in_default.ensures.items ∙ append-nil c.pop.new.self.items in
    subst (Marked c.loop-s.self-inside.marks.items) (sym rest)
    (clear_ended c.args.self.now.size c.loop-s.self-inside.marks.items (subst (Clearing c.args.self.now.size c.loop-s.self-inside.marks.items) (same ∙ rest) c.loop-s.invariant))
