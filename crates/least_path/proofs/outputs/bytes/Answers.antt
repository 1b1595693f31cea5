use Rattle.std.proofs.Common.{◌≡◌, ◌<◌, ◌-◌, ◌++◌, ℕ, List, [], length, Some, get_or, sym, ap, ◌∙◌, arith, rules}
use Rattle.std.specs.Prelude.{All, reverse}
use Rattle.std.proofs.lemmas.List.Elements.{All-pop}
use Rattle.least_path.specs.declared.outputs.Letter.{Letter}
use Rattle.least_path.specs.Texts.{texts, text_of, IsMade}
use Rattle.least_path.proofs.Letters.{Above, is_above, text_none, labels_more}
use Rattle.least_path.proofs.outputs.bytes.Goals as goal

abbrev none : Letter
none = record { before = 0; label = 0; longer = 0; beside = 0 }

pub bounds-letters-at : goal.bounds-letters-at
bounds-letters-at c = (is_above c.args.letters.now c.requires.made c.loop-at.at none c.loop-at-test.true c.loop-at.invariant.within).within

pub offset_bounds-letters-at : goal.offset_bounds-letters-at
offset_bounds-letters-at c = let h : c.loop-at.at - 1 < length c.args.letters.now = (is_above c.args.letters.now c.requires.made c.loop-at.at none c.loop-at-test.true c.loop-at.invariant.within).within in search rules

-- the letter before a place, and what stands before it
parted : (letters : List Letter) → IsMade letters → (at : ℕ) → 0 < at → at < length (texts letters) → All (λ n. n < 256) (text_of (texts letters) at) → All (λ n. n < 256) (text_of (texts letters) (get_or letters (at - 1) none).before) × ((get_or letters (at - 1) none).label < 256)
parted letters made at some within small = All-pop (λ n. n < 256) (text_of (texts letters) at) (text_of (texts letters) (get_or letters (at - 1) none).before) (Some (get_or letters (at - 1) none).label) (is_above letters made at none some within).text small

pub overflow_cast-letter : goal.overflow_cast-letter
overflow_cast-letter c = let h : (get_or c.args.letters.now (c.loop-at.at - 1) none).label < 256 = (parted c.args.letters.now c.requires.made c.loop-at.at c.loop-at-test.true c.loop-at.invariant.within c.loop-at.invariant.small).1 in search rules

pub loop-at-preserved : goal.loop-at-preserved
loop-at-preserved c =
    let h : Above c.args.letters.now c.loop-at.at none = is_above c.args.letters.now c.requires.made c.loop-at.at none c.loop-at-test.true c.loop-at.invariant.within in
    let len : c.loop-at.at < length (texts c.args.letters.now) = c.loop-at.invariant.within in
    let less : (get_or c.args.letters.now (c.loop-at.at - 1) none).before < c.loop-at.at = h.before in
    record {
      within = omega arith;
      small = (parted c.args.letters.now c.requires.made c.loop-at.at c.loop-at-test.true c.loop-at.invariant.within c.loop-at.invariant.small).0;
      rest = labels_more (text_of (texts c.args.letters.now) c.args.number) (text_of (texts c.args.letters.now) (get_or c.args.letters.now (c.loop-at.at - 1) none).before) (text_of (texts c.args.letters.now) c.loop-at.at) (get_or c.args.letters.now (c.loop-at.at - 1) none).label c.loop-at.bytes.items c.push.new.self.items c.loop-at.invariant.rest h.text c.in_ok-push.ensures.items;
    }

pub returns : goal.returns
returns c =
    let start : c.loop-at.at ≡ 0 = omega arith in
    let empty : text_of (texts c.args.letters.now) c.loop-at.at ≡ [] = ap (text_of (texts c.args.letters.now)) start ∙ text_none c.args.letters.now in
    c.reverse.ensures.items ∙ sym (c.loop-at.invariant.rest ∙ ap (λ t. t ++ reverse c.loop-at.bytes.items) empty)
