use Rattle.std.proofs.Common.{◌<◌, length, arith}
use Rattle.std.proofs.lemmas.Option.{slice_get_within}
use Rattle.state_table.proofs.Numbering.{keeps_more, numbers_keeps}
use Rattle.reading_first.specs.declared.parts.Part.TheVariants.{Writes}
use Rattle.reading_first.proofs.Chains.{put_before, fit_added}
use Rattle.reading_first.proofs.expands.put_off.Goals as goal

pub returns-clause-text : goal.returns-clause-text
returns-clause-text c =
    let some : 0 < c.args.first = omega arith in
    put_before c.args.parts.now c.number.new.self c.args.first c.args.next c.in_ok-number.number some c.in_ok-number.ensures.number

pub returns-clause-within : goal.returns-clause-within
returns-clause-within c = slice_get_within c.number.new.self c.in_ok-number.number (Writes c.args.first c.args.next) c.in_ok-number.ensures.number.stored

pub returns-clause-fit : goal.returns-clause-fit
returns-clause-fit c m fit =
    let some : 0 < c.args.first = omega arith in
    let add = c.in_ok-number.ensures.number in
    let more = keeps_more (numbers_keeps add) in
    let room : c.args.next < length c.number.new.self = omega (arith, more, c.requires.within) in
    fit_added m c.args.parts.now c.number.new.self (Writes c.args.first c.args.next) c.in_ok-number.number fit c.number.ensures.distinct add (some, c.requires.label, room)
