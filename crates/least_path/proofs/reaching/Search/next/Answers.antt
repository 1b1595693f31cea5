use Rattle.std.proofs.Common.{◌≡◌, ◌<◌, ℕ, List, length, get_or, arith, refl, sym, ◌∙◌}
use Rattle.std.proofs.lemmas.Bool.{false≢true}
use Rattle.std.proofs.lemmas.List.{get_or_default}
use Rattle.least_path.specs.declared.standings.Standing.{Standing}
use Rattle.least_path.specs.declared.standings.Standing.TheVariants.{Unmet}
use Rattle.least_path.specs.Standings.{standing_of}
use Rattle.least_path.proofs.Taking.{fewer, stands, same_more, is_taken, same_start}
use Rattle.least_path.proofs.reaching.Search.next.Goals as goal

at_of : (xs : List Standing) (i : ℕ) (s : Standing) → i < length xs → s ≡ get_or xs i s → standing_of xs i ≡ s
at_of xs i s l e = get_or_default xs i Unmet s l ∙ sym e

pub loop-entry-init : goal.loop-entry-init
loop-entry-init c = same_start c.args.self.now c.requires

pub index-requires : goal.index-requires
index-requires c =
    let h : c.in-Some.entry.node < length c.loop-entry.self.standings.items = stands c.args.self.now c.loop-entry.self c.loop-entry.invariant c.pop.new.entries c.in-Some.entry c.in-Some.ensures.first.0 c.in-Some.ensures.heap in
    let v = c.loop-entry.self.standings.ok.0 in
    omega arith

pub index_mut-requires : goal.index_mut-requires
index_mut-requires c =
    let h : c.in-Some.entry.node < length c.loop-entry.self.standings.items = stands c.args.self.now c.loop-entry.self c.loop-entry.invariant c.pop.new.entries c.in-Some.entry c.in-Some.ensures.first.0 c.in-Some.ensures.heap in
    let v = c.loop-entry.self.standings.ok.0 in
    omega arith

pub returns-then-not-is_settled : goal.returns-then-not-is_settled
returns-then-not-is_settled c =
    let l = stands c.args.self.now c.loop-entry.self c.loop-entry.invariant c.pop.new.entries c.in-Some.entry c.in-Some.ensures.first.0 c.in-Some.ensures.heap in
    let at = at_of c.loop-entry.self.standings.items c.in-Some.entry.node c.index.result.now l c.index.ensures in
    is_taken c.args.self.now c.loop-entry.self c.loop-entry.invariant c.pop.new.entries c.in-Some.entry c.in-Some.ensures.first.0 c.in-Some.ensures.heap c.in-Some.ensures.first.1 (λ h. false≢true (c.if-not-is_settled.ensures.1 (sym at ∙ h)))

pub loop-entry-smaller : goal.loop-entry-smaller
loop-entry-smaller c = fewer c.args.self.now c.loop-entry.self c.loop-entry.invariant c.pop.new.entries c.in-Some.entry c.in-Some.ensures.first.0 c.in-Some.ensures.heap

pub loop-entry-preserved : goal.loop-entry-preserved
loop-entry-preserved c =
    let l = stands c.args.self.now c.loop-entry.self c.loop-entry.invariant c.pop.new.entries c.in-Some.entry c.in-Some.ensures.first.0 c.in-Some.ensures.heap in
    let at = at_of c.loop-entry.self.standings.items c.in-Some.entry.node c.index.result.now l c.index.ensures in
    same_more c.args.self.now c.loop-entry.self c.loop-entry.invariant c.pop.new.entries c.in-Some.entry c.in-Some.ensures.first.0 c.in-Some.ensures.heap (at ∙ c.if-not-is_settled.ensures.0 refl)
