use Rattle.std.proofs.Common.{◌≡◌, ◌<◌, ◌≤◌, ◌+◌, ◌∙◌, ℕ, List, length, map, take, get_or, ap, subst, sym}
use Rattle.std.proofs.lemmas.List.{get_or-map, length-map}
use Rattle.core_expressions.specs.Views.{expression_of}
use Rattle.core_expressions.specs.declared.expressions.Expr.{Expr as Tree}
use Rattle.weighted_relations.specs.Machines.{Machine}
use Rattle.normaliser.specs.Loads.{CanBeBuilt}
use Rattle.normaliser.specs.Parts.{AllReadAs}
use Rattle.grammar_build.specs.Empties.{RewritesEmptyText}
use Rattle.normaliser.proofs.Firsts.{mapped_at, none_left, none_step}
use Rattle.normaliser.proofs.Rules.{build_step}
use Rattle.normaliser.proofs.loading.build_all.Goals as goal

-- the expression of the rule at a place
there : (i : ℕ) (rules : List Tree) (r : Tree) → i < length rules → r ≡ get_or rules i r → expression_of r ≡ get_or (map expression_of rules) i (expression_of r)
there i rules r l is = sym (get_or-map expression_of rules i r (expression_of r) l ∙ ap expression_of (sym is))

within : (i : ℕ) (rules : List Tree) → i < length rules → i < length (map expression_of rules)
within i rules l = subst (λ n. i < n) (sym (length-map rules expression_of)) l

pub build_one-requires : goal.build_one-requires
build_one-requires c =
    subst CanBeBuilt (sym (there c.loop-i.i c.args.rules.now c.index-rules-i.result c.loop-i-test.true c.index-rules-i.is))
    (c.requires.can_be_built c.loop-i.i (expression_of c.index-rules-i.result) (within c.loop-i.i c.args.rules.now c.loop-i-test.true))

pub loop-i-preserved : goal.loop-i-preserved
loop-i-preserved c =
    let es = map expression_of c.args.rules.now in
    let e = expression_of c.index-rules-i.result in
    let l = within c.loop-i.i c.args.rules.now c.loop-i-test.true in
    let is = there c.loop-i.i c.args.rules.now c.index-rules-i.result c.loop-i-test.true c.index-rules-i.is in
    record {
      readings = subst (λ ms. AllReadAs ms (take (c.loop-i.i + 1) es)) (sym {A = List Machine} c.in_ok-push.ensures.items) (build_step es c.loop-i.i e l is c.loop-i.parts.items c.in_ok-build_one.field-0 c.loop-i.invariant.readings c.in_ok-build_one.ensures.readings);
      none = none_step RewritesEmptyText es c.loop-i.i e (mapped_at expression_of c.args.rules.now c.loop-i.i c.index-rules-i.result c.loop-i-test.true c.index-rules-i.is) c.loop-i.invariant.none c.in_ok-build_one.ensures.complete;
    }

pub returns-clause-complete : goal.returns-clause-complete
returns-clause-complete c =
    let n : length (map expression_of c.args.rules.now) ≤ c.loop-i.i = subst (λ n. n ≤ c.loop-i.i) (sym (length-map c.args.rules.now expression_of)) c.loop-i-test.false in
    none_left RewritesEmptyText (map expression_of c.args.rules.now) c.loop-i.i n c.loop-i.invariant.none
