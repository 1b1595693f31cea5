use Rattle.std.proofs.Common.{◌≡◌, ◌<◌, ◌≤◌, ◌+◌, ◌++◌, ◌^◌, ℕ, List, length, get_or, Some, None, [], sym, ◌∙◌, subst, rules, arith}
use Rattle.std.specs.Prelude.{slice_get}
use Rattle.std.proofs.lemmas.Option.{slice_get-get_or}
use Rattle.weighted_relations.specs.declared.Arc.{Arc}
use Rattle.weighted_relations.specs.Graphs.{label}
use Rattle.weighted_relations.specs.Machines.{final_of}
use Rattle.reading_first.specs.declared.parts.Part.TheVariants.{Ended}
use Rattle.reading_first.specs.declared.expands.Way.{Way}
use Rattle.reading_first.specs.Expanding.{Growing, Expanding, TextOf, Written, Backwards, standing}
use Rattle.reading_first.proofs.Following.{no_end_here}
use Rattle.reading_first.proofs.Steps.{way_there, place_there, end_step}
use Rattle.reading_first.proofs.expands.Expansion.end.Goals as goal

pub returns-then-at-eq0-clause-expanding : goal.returns-then-at-eq0-clause-expanding
returns-then-at-eq0-clause-expanding c t =
    let w : Way = get_or c.args.self.now.ways c.args.at (standing 0) in
    let there : slice_get c.args.self.now.ways c.args.at ≡ Some w = slice_get-get_or c.args.self.now.ways c.args.at (standing 0) c.requires.within in
    let zero : c.args.at ≡ 0 = omega arith in
    let all : length (get_or c.args.a.now.arcs w.state []) ≤ length (get_or c.args.a.now.arcs w.state []) = omega arith in
    no_end_here c.args.a.now c.args.self.now c.args.parts.now c.args.at (length (get_or c.args.a.now.arcs w.state [])) w (c.requires.expanding w there) there all (λ l f h. omega (arith, l))

pub final_of-requires : goal.final_of-requires
final_of-requires c =
    let way = c.index-way.result.now in
    let there = place_there c.args.at way c.self.view_is c.requires.within c.index-way.ensures in
    record { state = (way_there c.args.at way c.self.view_is c.requires.within (c.requires.expanding way there) c.index-way.ensures).within }

pub returns-in-None-clause-expanding : goal.returns-in-None-clause-expanding
returns-in-None-clause-expanding c t =
    let w : Way = c.index-way.result.now in
    let there = place_there c.args.at w c.self.view_is c.requires.within c.index-way.ensures in
    let all : length (get_or c.args.a.now.arcs w.state []) ≤ length (get_or c.args.a.now.arcs w.state []) = omega arith in
    no_end_here c.args.a.now c.args.self.now c.args.parts.now c.args.at (length (get_or c.args.a.now.arcs w.state [])) w (c.requires.expanding w there) there all (λ l f h. let n : None ≡ Some f = c.in-None.ensures.value ∙ h in cc)

pub overflow_add-weight : goal.overflow_add-weight
overflow_add-weight c =
    let way = c.index-way.result.now in
    let there = place_there c.args.at way c.self.view_is c.requires.within c.index-way.ensures in
    let q = way_there c.args.at way c.self.view_is c.requires.within (c.requires.expanding way there) c.index-way.ensures in
    let l : way.weight < 2 ^ 54 = q.light in
    let k : c.in-Some.last < 2 ^ 54 = c.requires.sound.weights way.state c.in-Some.last (sym c.in-Some.ensures.value) in
    search rules

pub chained-requires-clause-backwards : goal.chained-requires-clause-backwards
chained-requires-clause-backwards c =
    let way = c.index-way.result.now in
    let there = place_there c.args.at way c.self.view_is c.requires.within c.index-way.ensures in
    let q = way_there c.args.at way c.self.view_is c.requires.within (c.requires.expanding way there) c.index-way.ensures in
    subst (λ (ws : List Way). Backwards ws) (sym c.deref.ensures.value) q.had.backwards

pub returns-clause-expanding : goal.returns-clause-expanding
returns-clause-expanding c t =
    let w : Way = c.index-way.result.now in
    let there = place_there c.args.at w c.self.view_is c.requires.within c.index-way.ensures in
    let q = way_there c.args.at w c.self.view_is c.requires.within (c.requires.expanding w there) c.index-way.ensures in
    let last = c.in-Some.last in
    let light : w.weight + last < 2 ^ 54 = omega arith in
    let some : 0 < c.args.at = omega arith in
    let end : final_of c.args.a.now.finals w.state ≡ Some last = sym c.in-Some.ensures.value in
    let all : length (get_or c.args.a.now.arcs w.state []) ≤ length (get_or c.args.a.now.arcs w.state []) = omega arith in
    let e : Growing = record { from = c.self.inside.from; ways = c.self.inside.ways.items; row = c.self.inside.row.items } in
    let r = c.in_ok-first.ensures in
    let written : (u : List ℕ) → TextOf e.ways c.args.at u → Written c.chained.new.parts c.in_ok-first.first c.in_ok-first.next (u ++ label 0 []) Ended = λ u told. r.written u (subst (λ (ws : List Way). TextOf ws c.args.at u) (sym c.deref.ensures.value) told) in
    subst (λ (row : List Arc). Expanding c.args.a.now (record { from = c.self.inside.from; ways = c.self.inside.ways.items; row = row }) c.chained.new.parts (c.args.at + 1) 0) (sym c.in_ok-push.ensures.items)
    (end_step c.args.a.now e c.args.parts.now c.chained.new.parts c.args.at (length (get_or c.args.a.now.arcs w.state [])) c.in_ok-first.first c.in_ok-first.next w c.requires.sound q r.label r.keeps last some all end light r.fit written)
