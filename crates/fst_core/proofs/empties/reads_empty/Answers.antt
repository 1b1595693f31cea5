use Rattle.std.proofs.Common.{◌≡◌, ◌<◌, ◌≤◌, ℕ, Some, None, true≢false, length, get_or, ap, sym, subst, refl, ◌∙◌, arith}
use Rattle.std.specs.Prelude.{slice_get}
use Rattle.std.proofs.lemmas.Option.{slice_get-get_or}
use Rattle.weighted_relations.specs.Machines.{final_of}
use Rattle.fst_core.proofs.EmptyInputs.{read_there, none_more, not_read, some_is, none_is}
use Rattle.fst_core.proofs.empties.reads_empty.Goals as goal

pub final_of-requires : goal.final_of-requires
final_of-requires c = record { state = subst (λ n. get_or c.found-found.result.now c.loop-i.i 0 < n) c.in_ok-search.ensures.states.count (c.found-found.ensures.within c.loop-i.i 0 c.loop-i-test.true) }

pub returns-then-is_some : goal.returns-then-is_some
returns-then-is_some c =
    let s = get_or c.found-found.result.now c.loop-i.i 0 in
    let at : slice_get c.in_ok-search.search.states c.loop-i.i ≡ Some s = ap (λ r. slice_get r c.loop-i.i) (sym c.found-found.ensures.states) ∙ slice_get-get_or c.found-found.result.now c.loop-i.i 0 c.loop-i-test.true in
    let last = some_is c.final_of.result (sym c.is_some.ensures ∙ c.if-is_some.true) in
    let there = read_there c.args.a.now c.in_ok-search.search c.loop-i.i s last.0 c.in_ok-search.ensures.states at (sym c.final_of.ensures.value ∙ last.1) in
    record { answer = (λ t. there, λ i. refl) }

pub loop-i-preserved : goal.loop-i-preserved
loop-i-preserved c =
    let s = get_or c.found-found.result.now c.loop-i.i 0 in
    let at : slice_get c.found-found.result.now c.loop-i.i ≡ Some s = slice_get-get_or c.found-found.result.now c.loop-i.i 0 c.loop-i-test.true in
    let last : final_of c.args.a.now.finals s ≡ None = sym c.final_of.ensures.value ∙ none_is c.final_of.result (sym c.is_some.ensures ∙ c.if-is_some.false) in
    none_more c.args.a.now c.found-found.result.now c.loop-i.i s c.loop-i.invariant at last

pub returns : goal.returns
returns c =
    let past : length c.in_ok-search.search.states ≤ c.loop-i.i = (let e : length c.found-found.result.now ≡ length c.in_ok-search.search.states = ap length c.found-found.ensures.states in omega arith) in
    let none : (i s : ℕ) → i < c.loop-i.i → slice_get c.in_ok-search.search.states i ≡ Some s → final_of c.args.a.now.finals s ≡ None = λ i s l h. c.loop-i.invariant i s l (ap (λ r. slice_get r i) c.found-found.ensures.states ∙ h) in
    record { answer = (λ t. absurd (true≢false (sym t)), λ i. absurd (not_read c.args.a.now c.in_ok-search.search c.loop-i.i c.in_ok-search.ensures.states past none i)) }
