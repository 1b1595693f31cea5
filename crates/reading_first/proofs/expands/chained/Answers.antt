use Rattle.std.proofs.Common.{◌≡◌, ◌<◌, length, get_or, Some, arith}
use Rattle.std.specs.Prelude.{slice_get}
use Rattle.std.proofs.lemmas.Option.{slice_get_within, slice_get-get_or}
use Rattle.state_table.proofs.Numbering.{keeps_trans, numbers_keeps}
use Rattle.reading_first.specs.declared.expands.Way.{Way}
use Rattle.reading_first.specs.Expanding.{standing}
use Rattle.reading_first.proofs.Chains.{fit_added, left_first, left_same, left_more, left_last}
use Rattle.reading_first.proofs.expands.chained.Goals as goal

pub loop-at-init : goal.loop-at-init
loop-at-init c =
    let add = c.in_ok-next.ensures.number in
    record {
      left = λ u told. left_first c.args.ways.now c.number.new.self c.args.from c.args.last c.in_ok-next.next c.args.to u add.stored told;
      small = c.requires.label;
      within = c.requires.within;
      there = slice_get_within c.number.new.self c.in_ok-next.next c.args.to add.stored;
      keeps = numbers_keeps add;
      fit = λ m fit to. fit_added m c.args.parts.now c.number.new.self c.args.to c.in_ok-next.next fit c.number.ensures.distinct add (to (length c.number.new.self));
    }

pub loop-at-smaller-in_ok-next-2 : goal.loop-at-smaller-in_ok-next-2
loop-at-smaller-in_ok-next-2 c =
    let some : 0 < c.loop-at.at = omega arith in
    let there = slice_get-get_or c.args.ways.now c.loop-at.at (standing 0) c.loop-at.invariant.within in
    c.requires.backwards.before c.loop-at.at (get_or c.args.ways.now c.loop-at.at (standing 0)) some there

pub loop-at-smaller : goal.loop-at-smaller
loop-at-smaller c =
    let some : 0 < c.loop-at.at = omega arith in
    let there = slice_get-get_or c.args.ways.now c.loop-at.at (standing 0) c.loop-at.invariant.within in
    c.requires.backwards.before c.loop-at.at (get_or c.args.ways.now c.loop-at.at (standing 0)) some there

pub loop-at-preserved-in_ok-next-2 : goal.loop-at-preserved-in_ok-next-2
loop-at-preserved-in_ok-next-2 c =
    let ways = c.args.ways.now in
    let at = c.loop-at.at in
    let w : Way = get_or ways at (standing 0) in
    let some : 0 < at = omega arith in
    let i = c.loop-at.invariant in
    let l : at < length ways = i.within in
    let there : slice_get ways at ≡ Some w = slice_get-get_or ways at (standing 0) l in
    let b : w.before < at = c.requires.backwards.before at w some there in
    let e = c.in_ok-next-2.ensures in
    record {
      left = λ u told. left_more ways c.loop-at.parts c.put_off.new.parts at c.loop-at.first c.loop-at.next c.in_ok-next-2.next _ c.args.to w some there e.text (i.left u told);
      small = c.requires.backwards.labels at w there;
      within = omega arith;
      there = e.within;
      keeps = keeps_trans i.keeps e.keeps;
      fit = λ m fit to. e.fit m (i.fit m fit to);
    }

pub loop-at-preserved : goal.loop-at-preserved
loop-at-preserved c =
    let ways = c.args.ways.now in
    let at = c.loop-at.at in
    let w : Way = get_or ways at (standing 0) in
    let some : 0 < at = omega arith in
    let i = c.loop-at.invariant in
    let l : at < length ways = i.within in
    let there : slice_get ways at ≡ Some w = slice_get-get_or ways at (standing 0) l in
    let b : w.before < at = c.requires.backwards.before at w some there in
    let none : w.written ≡ 0 = omega arith in
    record {
      left = λ u told. left_same ways c.loop-at.parts at c.loop-at.first c.loop-at.next _ c.args.to w some there none (i.left u told);
      small = i.small;
      within = omega arith;
      there = i.there;
      keeps = i.keeps;
      fit = i.fit;
    }

pub returns-clause-written : goal.returns-clause-written
returns-clause-written c u told =
    let zero : c.loop-at.at ≡ 0 = omega arith in
    left_last c.args.ways.now c.loop-at.parts c.loop-at.at c.loop-at.first c.loop-at.next _ c.args.to zero (c.loop-at.invariant.left u told)
