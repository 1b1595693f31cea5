use Rattle.std.proofs.Common.{◌≡◌, ◌∙◌, sym, arith, true, false, ◌-◌}
use Rattle.std.specs.Str.{bytes_eq}
use Rattle.thrax_meaning.proofs.Scopes.{found_here, found_before, weight_next}
use Rattle.thrax_meaning.proofs.table.find_among.Goals as goal

pub returns-then-eq-clause-kind : goal.returns-then-eq-clause-kind
returns-then-eq-clause-kind c = λ f done.
    let same : bytes_eq c.index-entries-at.result.name c.args.name.now ≡ true = sym c.eq.ensures ∙ c.if-eq.true in
    sym (c.loop-at.invariant.same f done) ∙ found_here f done c.args.entries.now (c.loop-at.at - 1) c.loop-at.at c.index-entries-at.result c.args.name.now (omega arith) (omega arith) c.index-entries-at.is same

pub returns-then-eq-clause-before : goal.returns-then-eq-clause-before
returns-then-eq-clause-before c =
    let heavy = weight_next c.args.entries.now (c.loop-at.at - 1) c.loop-at.at c.index-entries-at.result (omega arith) (omega arith) c.index-entries-at.is in
    (omega arith, omega (arith, heavy))

pub loop-at-preserved : goal.loop-at-preserved
loop-at-preserved c =
    let heavy = weight_next c.args.entries.now (c.loop-at.at - 1) c.loop-at.at c.index-entries-at.result (omega arith) (omega arith) c.index-entries-at.is in
    let other : bytes_eq c.index-entries-at.result.name c.args.name.now ≡ false = sym c.eq.ensures ∙ c.if-eq.false in
    record {
      same = λ f done. sym (found_before f done c.args.entries.now (c.loop-at.at - 1) c.loop-at.at c.index-entries-at.result c.args.name.now (omega arith) (omega arith) c.index-entries-at.is other) ∙ c.loop-at.invariant.same f done;
      lighter = omega (arith, heavy);
      within = omega arith;
    }
