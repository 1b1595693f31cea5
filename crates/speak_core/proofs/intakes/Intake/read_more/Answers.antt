use Rattle.std.proofs.Common.{◌∙◌, ◌++◌, ap, append-nil, take, refl, arith}
use Rattle.speak_core.proofs.Intaking.{gave_read, holds_more, intake_more, none_more, within_more}
use Rattle.speak_core.proofs.intakes.Intake.read_more.Goals as goal

pub returns-in_err-extend_from_slice-clause-only_too_long : goal.returns-in_err-extend_from_slice-clause-only_too_long
returns-in_err-extend_from_slice-clause-only_too_long g c = λ start handled h.
    within_more start (g.S.Source.left c.args.source.now) (g.S.Source.left c.read.new.self) handled c.args.self.now h (take c.in-Ok.count c.read.new.into) c.in-Ok.ensures.bytes.0
    (let size = c.in-Ok.ensures.bound.1 in let few = c.if-count-self.false in omega (arith, size, few)) _

pub returns-clause-is : goal.returns-clause-is
returns-clause-is g c =
    let size = c.in-Ok.ensures.bound.1 in
    let few = c.if-count-self.false in
    let within = c.requires.is.within in
    intake_more c.args.self.now c.requires.is _ (take c.in-Ok.count c.read.new.into) c.in_ok-extend_from_slice.ensures.items (omega (arith, size)) (omega (arith, few, within)) refl refl refl

pub returns-clause-holds : goal.returns-clause-holds
returns-clause-holds g c = λ start handled h.
    holds_more start (g.S.Source.left c.args.source.now) handled c.args.self.now h _ _ (take c.in-Ok.count c.read.new.into) c.in-Ok.ensures.bytes.0 c.in_ok-extend_from_slice.ensures.items
    (let size = c.in-Ok.ensures.bound.1 in omega (arith, size))

pub returns-clause-once : goal.returns-clause-once
returns-clause-once g c =
    gave_read (g.S.Source.left c.args.source.now) (g.S.Source.left c.read.new.self) (take c.in-Ok.count c.read.new.into) 65536 c.in-Ok.ensures.bytes.0
    (let size = c.in-Ok.ensures.bound.1 in let bound = c.in-Ok.ensures.bound.0 in let few = c.requires.few in let same = c.read.auto.into in omega (arith, size, bound, few, same))

pub returns-clause-kept : goal.returns-clause-kept
returns-clause-kept g c = λ none.
    c.in_ok-extend_from_slice.ensures.items ∙ (ap (λ n. c.args.self.now.bytes.items ++ take n c.read.new.into) (none_more c.in-Ok.count none) ∙ append-nil c.args.self.now.bytes.items)

pub returns-clause-only_too_long : goal.returns-clause-only_too_long
returns-clause-only_too_long g c = λ start handled h.
    within_more start (g.S.Source.left c.args.source.now) (g.S.Source.left c.read.new.self) handled c.args.self.now h (take c.in-Ok.count c.read.new.into) c.in-Ok.ensures.bytes.0
    (let size = c.in-Ok.ensures.bound.1 in let few = c.if-count-self.false in let w = c.requires.is.within in omega (arith, size, few, w)) _
