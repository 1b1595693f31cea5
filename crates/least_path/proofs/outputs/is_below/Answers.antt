use Rattle.std.proofs.Common.{◌<◌, ◌-◌, length, arith, rules, refl, inl, inr}
use Rattle.least_path.specs.Texts.{texts}
use Rattle.least_path.proofs.Walks.{walk_start, walk_end, walk_more, letter_within, before_less, first_above, second_above}
use Rattle.least_path.specs.declared.outputs.Letter.{Letter}
use Rattle.least_path.proofs.outputs.is_below.Goals as goal

abbrev none : Letter
none = record { before = 0; label = 0; longer = 0; beside = 0 }

pub loop-x-init : goal.loop-x-init
loop-x-init c = (c.requires.first, c.requires.second, λ even. walk_start (texts c.args.letters.now) c.args.a c.args.b c.requires.first c.requires.second even)

-- of texts of one length none ends before the other
pub returns-then-x-eq0 : goal.returns-then-x-eq0
returns-then-x-eq0 c = λ even.
    let first = first_above c.args.letters.now c.requires.made c.args.a c.args.b c.loop-x.x c.loop-x.y c.loop-x.below (c.loop-x.invariant.2 even) c.loop-x-test.true none none in
    let second = second_above c.args.letters.now c.requires.made c.args.a c.args.b c.loop-x.x c.loop-x.y c.loop-x.below (c.loop-x.invariant.2 even) c.loop-x-test.true none none in
    absurd (elim c.then-x-eq0.either [ inl z ↦ omega (arith, first, z) | inr z ↦ omega (arith, second, z.1) ])

pub bounds-letters-x : goal.bounds-letters-x
bounds-letters-x c = letter_within c.args.letters.now c.loop-x.x (let h = c.if-x-eq0.false in omega arith) c.loop-x.invariant.0

pub offset_bounds-letters-x : goal.offset_bounds-letters-x
offset_bounds-letters-x c = let h : c.loop-x.x - 1 < length c.args.letters.now = letter_within c.args.letters.now c.loop-x.x (let h = c.if-x-eq0.false in omega arith) c.loop-x.invariant.0 in search rules

pub bounds-letters-y : goal.bounds-letters-y
bounds-letters-y c = letter_within c.args.letters.now c.loop-x.y (let h = c.if-y-eq0.false in omega arith) c.loop-x.invariant.1

pub offset_bounds-letters-y : goal.offset_bounds-letters-y
offset_bounds-letters-y c = let h : c.loop-x.y - 1 < length c.args.letters.now = letter_within c.args.letters.now c.loop-x.y (let h = c.if-y-eq0.false in omega arith) c.loop-x.invariant.1 in search rules

pub loop-x-preserved : goal.loop-x-preserved
loop-x-preserved c =
    let first = before_less c.args.letters.now c.loop-x.x (let h = c.if-x-eq0.false in omega arith) c.loop-x.invariant.0 c.requires.made none _ refl in
    let second = before_less c.args.letters.now c.loop-x.y (let h = c.if-y-eq0.false in omega arith) c.loop-x.invariant.1 c.requires.made none _ refl in
    let known = c.loop-x.invariant.0 in
    let known_too = c.loop-x.invariant.1 in (
      omega (arith, first, known),
      omega (arith, second, known_too),
      λ even.
          let w = c.loop-x.invariant.2 even in
          walk_more c.args.letters.now c.requires.made c.args.a c.args.b c.loop-x.x c.loop-x.y c.loop-x.below w c.loop-x-test.true none none _ _ refl refl c.decide-below.result (c.decide-below.ensures w.first_more w.second_more w.says),
    )

pub returns : goal.returns
returns c = λ even. walk_end (texts c.args.letters.now) c.args.a c.args.b c.loop-x.x c.loop-x.y c.loop-x.below c.loop-x-test.false (c.loop-x.invariant.2 even)
