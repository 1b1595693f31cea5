use Rattle.std.proofs.Common.{◌≡◌, ◌<◌, ◌+◌, ◌++◌, ◌^◌, ℕ, List, length, get_or, Some, [], sym, subst, refl, rules, arith}
use Rattle.std.specs.Prelude.{slice_get}
use Rattle.weighted_relations.specs.declared.Arc.{Arc}
use Rattle.weighted_relations.specs.Graphs.{label}
use Rattle.reading_first.specs.declared.parts.Part.TheVariants.{At}
use Rattle.reading_first.specs.declared.expands.Way.{Way}
use Rattle.reading_first.specs.Expanding.{Growing, Expanding, TextOf, Written}
use Rattle.state_table.proofs.Numbering.{keeps_push}
use Rattle.reading_first.proofs.Following.{push_way}
use Rattle.reading_first.proofs.Steps.{way_there, arc_there, nowhere, reading_step}
use Rattle.reading_first.proofs.expands.Expansion.follow.Goals as goal

pub arcs_of-row-requires : goal.arcs_of-row-requires
arcs_of-row-requires c = record { state = (way_there c.args.at c.index-way.result.now c.self.view_is c.requires.within c.requires.expanding c.index-way.ensures).within }

pub bounds-row-j : goal.bounds-row-j
bounds-row-j c =
    let q = way_there c.args.at c.index-way.result.now c.self.view_is c.requires.within c.requires.expanding c.index-way.ensures in
    let there = subst (λ (x : Growing). slice_get x.ways c.args.at ≡ Some c.index-way.result.now) c.self.view_is q.there in
    subst (λ r. c.args.j < length r) (sym c.arcs_of-row.ensures.value) (c.requires.arc c.index-way.result.now there)

pub overflow_add-weight : goal.overflow_add-weight
overflow_add-weight c =
    let q = way_there c.args.at c.index-way.result.now c.self.view_is c.requires.within c.requires.expanding c.index-way.ensures in
    let there = subst (λ (x : Growing). slice_get x.ways c.args.at ≡ Some c.index-way.result.now) c.self.view_is q.there in
    let a : Arc = get_or c.arcs_of-row.result.now c.args.j nowhere in
    let arc = arc_there c.args.a.now c.arcs_of-row.result.now c.index-way.result.now.state c.args.j c.arcs_of-row.ensures.value (c.requires.arc c.index-way.result.now there) in
    let l : c.index-way.result.now.weight < 2 ^ 54 = q.light in
    let k : a.weight < 2 ^ 54 = (c.arcs_of-row.ensures.sound.arcs c.index-way.result.now.state c.args.j a arc).weight in
    search rules

pub returns-then-arc-eq0-clause-kept : goal.returns-then-arc-eq0-clause-kept
returns-then-arc-eq0-clause-kept c k w h =
    let there = subst (λ (x : Growing). slice_get x.ways k ≡ Some w) (sym c.self.view_is) h in
    subst (λ (ws : List Way). slice_get ws k ≡ Some w) (sym c.in_ok-push.ensures.items) ((keeps_push c.self.inside.ways.items _).kept k w there)

pub returns-then-arc-eq0-clause-expanding : goal.returns-then-arc-eq0-clause-expanding
returns-then-arc-eq0-clause-expanding c t =
    let way : Way = c.index-way.result.now in
    let q = way_there c.args.at way c.self.view_is c.requires.within c.requires.expanding c.index-way.ensures in
    let there = subst (λ (x : Growing). slice_get x.ways c.args.at ≡ Some way) c.self.view_is q.there in
    let a : Arc = get_or c.arcs_of-row.result.now c.args.j nowhere in
    let arc = arc_there c.args.a.now c.arcs_of-row.result.now way.state c.args.j c.arcs_of-row.ensures.value (c.requires.arc way there) in
    let light : way.weight + a.weight < 2 ^ 54 = omega arith in
    let silent : a.input ≡ 0 = omega arith in
    let v : Way = record { state = a.next; weight = way.weight + a.weight; written = a.output; before = c.args.at } in
    let e : Growing = record { from = c.self.inside.from; ways = c.self.inside.ways.items; row = c.self.inside.row.items } in
    subst (λ (ws : List Way). Expanding c.args.a.now (record { from = c.self.inside.from; ways = ws; row = c.self.inside.row.items }) c.args.parts.now c.args.at (c.args.j + 1)) (sym c.in_ok-push.ensures.items)
    (push_way c.args.a.now e c.args.parts.now c.args.at c.args.j way v a c.arcs_of-row.ensures.sound q.had q.there arc silent light refl)

pub chained-requires-clause-label : goal.chained-requires-clause-label
chained-requires-clause-label c =
    let way : Way = c.index-way.result.now in
    let q = way_there c.args.at way c.self.view_is c.requires.within c.requires.expanding c.index-way.ensures in
    let there = subst (λ (x : Growing). slice_get x.ways c.args.at ≡ Some way) c.self.view_is q.there in
    let a : Arc = get_or c.arcs_of-row.result.now c.args.j nowhere in
    let arc = arc_there c.args.a.now c.arcs_of-row.result.now way.state c.args.j c.arcs_of-row.ensures.value (c.requires.arc way there) in
    (c.arcs_of-row.ensures.sound.arcs way.state c.args.j a arc).output

pub returns-clause-expanding : goal.returns-clause-expanding
returns-clause-expanding c t =
    let way : Way = c.index-way.result.now in
    let q = way_there c.args.at way c.self.view_is c.requires.within c.requires.expanding c.index-way.ensures in
    let there = subst (λ (x : Growing). slice_get x.ways c.args.at ≡ Some way) c.self.view_is q.there in
    let a : Arc = get_or c.arcs_of-row.result.now c.args.j nowhere in
    let arc = arc_there c.args.a.now c.arcs_of-row.result.now way.state c.args.j c.arcs_of-row.ensures.value (c.requires.arc way there) in
    let light : way.weight + a.weight < 2 ^ 54 = omega arith in
    let e : Growing = record { from = c.self.inside.from; ways = c.self.inside.ways.items; row = c.self.inside.row.items } in
    let r = c.in_ok-first.ensures in
    let written : (u : List ℕ) → TextOf e.ways c.args.at u → Written c.chained.new.parts c.in_ok-first.first c.in_ok-first.next (u ++ label a.output []) (At a.next) = λ u told. r.written u (subst (λ (ws : List Way). TextOf ws c.args.at u) (sym c.deref.ensures.value) told) in
    subst (λ (row : List Arc). Expanding c.args.a.now (record { from = c.self.inside.from; ways = c.self.inside.ways.items; row = row }) c.chained.new.parts c.args.at (c.args.j + 1)) (sym c.in_ok-push-2.ensures.items)
    (reading_step c.args.a.now e c.args.parts.now c.chained.new.parts c.args.at c.args.j c.in_ok-first.first c.in_ok-first.next way c.arcs_of-row.ensures.sound q r.label r.keeps a arc (λ z. absurd (omega (arith, z))) light r.fit written)
