use Rattle.std.proofs.Common.{◌≡◌, ◌≤◌, ◌∙◌, sym, ap, subst, refl, arith, map, length, [], ◌∷◌}
use Rattle.std.proofs.lemmas.List.{length-map}
use Rattle.thrax_lexer.specs.Lexemes.{lex_of, symbol, word}
use Rattle.thrax_lexer.specs.declared.bytes.Symbol.TheVariants.{Bar, Dot}
use Rattle.thrax_syntax.specs.Grammar.{Spells, expr, bars, joined, tail, heavy, weights, cat, members, closed, marks, arguments, commas, dotted, named, called}
use Rattle.thrax_syntax.specs.Outcomes.{level}
use Rattle.thrax_syntax.specs.Trees.{tree_term}
use Rattle.thrax_syntax.specs.declared.operators.Callee.TheVariants.{Own, Imported}
use Rattle.thrax_syntax.proofs.Keeping.{Keeps, first_keeps, first_fails, keeps_reads, keeps_fails, keeps_answers, stops, reads_as}
use Rattle.thrax_syntax.proofs.Parts.{expr_first, bars_first, bars_step, bars_fail, bars_done, union_many, joined_first, tail_step, tail_fail, tail_done, heavy_first, weights_step, weights_done, cat_first, members_first, members_step, members_fail, members_done, concat_many, closed_first, marks_step, marks_done, group_keeps, word_keeps, imported_keeps, own_keeps, called_keeps, used_reads, empty_reads, arguments_first, commas_step, commas_stop, commas_done, commas_fail, quoted_reads, spelled_keeps, pushed, first_pushed, second_pushed, grown}
use Rattle.thrax_syntax.specs.declared.stop.Stop.TheVariants.{Syntax}
use Rattle.thrax_syntax.proofs.expressions.+parse.Goals as goal

-- choices
pub expression-returns-in_err-first-clause-exact : goal.expression-returns-in_err-first-clause-exact
expression-returns-in_err-first-clause-exact t c =
    stops 0 (Spells expr (map lex_of c.args.lexemes.now)) c.in_err-first.field-0.0 c.from_residual.result c.from_residual.ensures.1
    (first_fails (λ u b. Spells (bars (u ∷ [])) b) c.in_err-first.field-0.0 (expr_first (map lex_of c.args.lexemes.now)) c.in_err-first.ensures.exact)

pub expression-returns-in-Some-clause-exact : goal.expression-returns-in-Some-clause-exact
expression-returns-in-Some-clause-exact t c =
    keeps_answers c.choice.result
    (subst (λ v. Keeps 0 (Spells expr (map lex_of c.args.lexemes.now)) (Spells (bars (tree_term c.in_ok-first.first ∷ [])) v)) c.in-Some.ensures.found
    (first_keeps (λ u b. Spells (bars (u ∷ [])) b) (expr_first (map lex_of c.args.lexemes.now)) c.in_ok-first.ensures.exact))
    c.choice.ensures.exact

pub expression-returns-in-None-clause-exact : goal.expression-returns-in-None-clause-exact
expression-returns-in-None-clause-exact t c =
    keeps_reads
    (first_keeps (λ u b. Spells (bars (u ∷ [])) b) (expr_first (map lex_of c.args.lexemes.now)) c.in_ok-first.ensures.exact)
    (bars_done (tree_term c.in_ok-first.first ∷ []) (map lex_of c.in_ok-first.rest.now) c.in-None.ensures.none)

pub choice-returns-in_err-second-clause-exact : goal.choice-returns-in_err-second-clause-exact
choice-returns-in_err-second-clause-exact t c =
    stops 0 (Spells (bars (tree_term c.args.first ∷ [])) (symbol Bar ∷ map lex_of c.args.lexemes.now)) c.in_err-second.field-0.0 c.from_residual-in_err-second.result c.from_residual-in_err-second.ensures.1
    (first_fails (λ u b. Spells (bars (tree_term c.args.first ∷ u ∷ [])) b) c.in_err-second.field-0.0 (bars_first (tree_term c.args.first ∷ []) (map lex_of c.args.lexemes.now)) c.in_err-second.ensures.exact)

pub choice-loop-after-init : goal.choice-loop-after-init
choice-loop-after-init t c =
    let e = second_pushed c.new-members.ensures.items c.in_ok-push.ensures.items c.in_ok-push-2.ensures.items in
    record {
      shorter = c.in_ok-second.ensures.shorter;
      some = let n : length c.push-2.new.self.items ≡ 2 = ap length e in omega (arith, n);
      keeps = subst (λ v. Keeps 0 (Spells (bars (tree_term c.args.first ∷ [])) (symbol Bar ∷ map lex_of c.args.lexemes.now)) (Spells (bars (map tree_term v)) (map lex_of c.in_ok-second.rest.now))) (sym e)
          (first_keeps (λ u b. Spells (bars (tree_term c.args.first ∷ u ∷ [])) b) (bars_first (tree_term c.args.first ∷ []) (map lex_of c.args.lexemes.now)) c.in_ok-second.ensures.exact);
    }

pub choice-returns-in_err-member-clause-exact : goal.choice-returns-in_err-member-clause-exact
choice-returns-in_err-member-clause-exact t c =
    stops 0 (Spells (bars (tree_term c.args.first ∷ [])) (symbol Bar ∷ map lex_of c.args.lexemes.now)) c.in_err-member.field-0.0 c.from_residual-in_err-member.result c.from_residual-in_err-member.ensures.1
    (bars_fail c.in_err-member.field-0.0 c.in-Some.ensures.found c.loop-after.invariant.keeps c.in_err-member.ensures.exact)

pub choice-loop-after-preserved : goal.choice-loop-after-preserved
choice-loop-after-preserved t c = record {
  shorter = omega (arith, c.in_ok-member.ensures.shorter, c.in-Some.ensures.shorter, c.loop-after.invariant.shorter);
  some = grown c.loop-after.members.items c.push-in-Some.new.self.items c.in_ok-member.member c.in_ok-push-3.ensures.items c.loop-after.invariant.some;
  keeps = bars_step c.in-Some.ensures.found (pushed tree_term c.loop-after.members.items c.push-in-Some.new.self.items c.in_ok-member.member c.in_ok-push-3.ensures.items) c.loop-after.invariant.keeps c.in_ok-member.ensures.exact;
}

pub choice-returns-clause-exact : goal.choice-returns-clause-exact
choice-returns-clause-exact t c =
    let n : 2 ≤ length (map tree_term c.loop-after.members.items) = let e : length (map tree_term c.loop-after.members.items) ≡ length c.loop-after.members.items = length-map c.loop-after.members.items tree_term in omega (arith, e, c.loop-after.invariant.some) in
    reads_as (union_many (map tree_term c.loop-after.members.items) n ∙ sym c.union.ensures)
    (keeps_reads c.loop-after.invariant.keeps (bars_done (map tree_term c.loop-after.members.items) (map lex_of c.loop-after.rest.now) c.in_default.ensures.none))

-- operators
pub operation-returns-in_err-tree-clause-exact : goal.operation-returns-in_err-tree-clause-exact
operation-returns-in_err-tree-clause-exact t c =
    stops (level c.args.operator) (Spells (joined c.args.operator) (map lex_of c.args.lexemes.now)) c.in_err-tree.field-0.0 c.from_residual.result c.from_residual.ensures.1
    (first_fails (λ u b. Spells (tail c.args.operator u) b) c.in_err-tree.field-0.0 (joined_first c.args.operator (map lex_of c.args.lexemes.now)) c.in_err-tree.ensures.exact)

pub operation-loop-after-init : goal.operation-loop-after-init
operation-loop-after-init t c = record {
  shorter = c.in_ok-tree.ensures.shorter;
  keeps = first_keeps (λ u b. Spells (tail c.args.operator u) b) (joined_first c.args.operator (map lex_of c.args.lexemes.now)) c.in_ok-tree.ensures.exact;
}

pub operation-returns-in_err-right-clause-exact : goal.operation-returns-in_err-right-clause-exact
operation-returns-in_err-right-clause-exact t c =
    stops (level c.args.operator) (Spells (joined c.args.operator) (map lex_of c.args.lexemes.now)) c.in_err-right.field-0.0 c.from_residual-in_err-right.result c.from_residual-in_err-right.ensures.1
    (tail_fail c.args.operator c.symbol.result c.in_err-right.field-0.0 c.symbol.ensures c.in-Some.ensures.found c.loop-after.invariant.keeps c.in_err-right.ensures.exact)

pub operation-loop-after-preserved : goal.operation-loop-after-preserved
operation-loop-after-preserved t c = record {
  shorter = omega (arith, c.in_ok-right.ensures.shorter, c.in-Some.ensures.shorter, c.loop-after.invariant.shorter);
  keeps = tail_step c.args.operator c.symbol.result c.symbol.ensures c.in-Some.ensures.found c.in_ok-tree-2.ensures c.loop-after.invariant.keeps c.in_ok-right.ensures.exact;
}

pub operation-returns-clause-exact : goal.operation-returns-clause-exact
operation-returns-clause-exact t c =
    keeps_reads c.loop-after.invariant.keeps (tail_done c.args.operator c.symbol.result (tree_term c.loop-after.tree) (map lex_of c.loop-after.rest.now) c.symbol.ensures c.in_default.ensures.none)

-- weights
pub weighted-returns-in_err-tree-clause-exact : goal.weighted-returns-in_err-tree-clause-exact
weighted-returns-in_err-tree-clause-exact t c =
    stops 4 (Spells heavy (map lex_of c.args.lexemes.now)) c.in_err-tree.field-0.0 c.from_residual.result c.from_residual.ensures.1
    (first_fails (λ u b. Spells (weights u) b) c.in_err-tree.field-0.0 (heavy_first (map lex_of c.args.lexemes.now)) c.in_err-tree.ensures.exact)

pub weighted-loop-weight-init : goal.weighted-loop-weight-init
weighted-loop-weight-init t c = record {
  shorter = c.in_ok-tree.ensures.shorter;
  keeps = first_keeps (λ u b. Spells (weights u) b) (heavy_first (map lex_of c.args.lexemes.now)) c.in_ok-tree.ensures.exact;
}

pub weighted-loop-weight-preserved : goal.weighted-loop-weight-preserved
weighted-loop-weight-preserved t c = record {
  shorter = omega (arith, c.in-Some.ensures.shorter, c.loop-weight.invariant.shorter);
  keeps = weights_step c.in-Some.ensures.found c.in_ok-tree-2.ensures c.loop-weight.invariant.keeps;
}

pub weighted-returns-clause-exact : goal.weighted-returns-clause-exact
weighted-returns-clause-exact t c =
    keeps_reads c.loop-weight.invariant.keeps (weights_done (tree_term c.loop-weight.tree) (map lex_of c.loop-weight.rest.now) c.in_default.ensures.none)

-- concatenations
pub concatenation-returns-in_err-first-clause-exact : goal.concatenation-returns-in_err-first-clause-exact
concatenation-returns-in_err-first-clause-exact t c =
    stops 5 (Spells cat (map lex_of c.args.lexemes.now)) c.in_err-first.field-0.0 c.from_residual.result c.from_residual.ensures.1
    (first_fails (λ u b. Spells (members (u ∷ [])) b) c.in_err-first.field-0.0 (cat_first (map lex_of c.args.lexemes.now)) c.in_err-first.ensures.exact)

pub concatenation-returns-then-begins_atom-clause-exact : goal.concatenation-returns-then-begins_atom-clause-exact
concatenation-returns-then-begins_atom-clause-exact t c =
    keeps_answers c.sequence.result
    (first_keeps (λ u b. Spells (members (u ∷ [])) b) (cat_first (map lex_of c.args.lexemes.now)) c.in_ok-first.ensures.exact)
    c.sequence.ensures.exact

pub concatenation-returns-else-begins_atom-clause-exact : goal.concatenation-returns-else-begins_atom-clause-exact
concatenation-returns-else-begins_atom-clause-exact t c =
    keeps_reads
    (first_keeps (λ u b. Spells (members (u ∷ [])) b) (cat_first (map lex_of c.args.lexemes.now)) c.in_ok-first.ensures.exact)
    (members_done (tree_term c.in_ok-first.first ∷ []) (map lex_of c.in_ok-first.rest.now) (sym c.if-begins_atom.ensures))

pub sequence-returns-in_err-second-clause-exact : goal.sequence-returns-in_err-second-clause-exact
sequence-returns-in_err-second-clause-exact t c =
    stops 5 (Spells (members (tree_term c.args.first ∷ [])) (map lex_of c.args.lexemes.now)) c.in_err-second.field-0.0 c.from_residual-in_err-second.result c.from_residual-in_err-second.ensures.1
    (first_fails (λ u b. Spells (members (tree_term c.args.first ∷ u ∷ [])) b) c.in_err-second.field-0.0 (members_first (tree_term c.args.first ∷ []) (map lex_of c.args.lexemes.now) c.requires) c.in_err-second.ensures.exact)

pub sequence-loop-alloc-init : goal.sequence-loop-alloc-init
sequence-loop-alloc-init t c =
    let e = second_pushed c.new-members.ensures.items c.in_ok-push.ensures.items c.in_ok-push-2.ensures.items in
    record {
      shorter = c.in_ok-second.ensures.shorter;
      some = let n : length c.push-2.new.self.items ≡ 2 = ap length e in omega (arith, n);
      keeps = subst (λ v. Keeps 5 (Spells (members (tree_term c.args.first ∷ [])) (map lex_of c.args.lexemes.now)) (Spells (members (map tree_term v)) (map lex_of c.in_ok-second.rest.now))) (sym e)
          (first_keeps (λ u b. Spells (members (tree_term c.args.first ∷ u ∷ [])) b) (members_first (tree_term c.args.first ∷ []) (map lex_of c.args.lexemes.now) c.requires) c.in_ok-second.ensures.exact);
    }

pub sequence-returns-in_err-member-clause-exact : goal.sequence-returns-in_err-member-clause-exact
sequence-returns-in_err-member-clause-exact t c =
    stops 5 (Spells (members (tree_term c.args.first ∷ [])) (map lex_of c.args.lexemes.now)) c.in_err-member.field-0.0 c.from_residual-in_err-member.result c.from_residual-in_err-member.ensures.1
    (members_fail c.in_err-member.field-0.0 (sym c.loop-alloc-test.ensures) c.loop-alloc.invariant.keeps c.in_err-member.ensures.exact)

pub sequence-loop-alloc-preserved : goal.sequence-loop-alloc-preserved
sequence-loop-alloc-preserved t c = record {
  shorter = omega (arith, c.in_ok-member.ensures.shorter, c.loop-alloc.invariant.shorter);
  some = grown c.loop-alloc.members.items c.push-in-loop-alloc.new.self.items c.in_ok-member.member c.in_ok-push-3.ensures.items c.loop-alloc.invariant.some;
  keeps = members_step (sym c.loop-alloc-test.ensures) (pushed tree_term c.loop-alloc.members.items c.push-in-loop-alloc.new.self.items c.in_ok-member.member c.in_ok-push-3.ensures.items) c.loop-alloc.invariant.keeps c.in_ok-member.ensures.exact;
}

pub sequence-returns-clause-exact : goal.sequence-returns-clause-exact
sequence-returns-clause-exact t c =
    let n : 2 ≤ length (map tree_term c.loop-alloc.members.items) = let e : length (map tree_term c.loop-alloc.members.items) ≡ length c.loop-alloc.members.items = length-map c.loop-alloc.members.items tree_term in omega (arith, e, c.loop-alloc.invariant.some) in
    reads_as (concat_many (map tree_term c.loop-alloc.members.items) n ∙ sym c.concat.ensures)
    (keeps_reads c.loop-alloc.invariant.keeps (members_done (map tree_term c.loop-alloc.members.items) (map lex_of c.loop-alloc.rest.now) (sym c.loop-alloc-test.ensures)))

-- marks of repetition
pub closure-returns-in_err-tree-clause-exact : goal.closure-returns-in_err-tree-clause-exact
closure-returns-in_err-tree-clause-exact t c =
    stops 6 (Spells closed (map lex_of c.args.lexemes.now)) c.in_err-tree.field-0.0 c.from_residual.result c.from_residual.ensures.1
    (first_fails (λ u b. Spells (marks u) b) c.in_err-tree.field-0.0 (closed_first (map lex_of c.args.lexemes.now)) c.in_err-tree.ensures.exact)

pub closure-loop-repeat-init : goal.closure-loop-repeat-init
closure-loop-repeat-init t c = record {
  shorter = c.in_ok-tree.ensures.shorter;
  keeps = first_keeps (λ u b. Spells (marks u) b) (closed_first (map lex_of c.args.lexemes.now)) c.in_ok-tree.ensures.exact;
}

pub closure-loop-repeat-preserved : goal.closure-loop-repeat-preserved
closure-loop-repeat-preserved t c = record {
  shorter = omega (arith, c.in-Some.ensures.shorter, c.loop-repeat.invariant.shorter);
  keeps = marks_step c.in-Some.ensures.exact c.in_ok-tree-2.ensures c.loop-repeat.invariant.keeps;
}

pub closure-returns-clause-exact : goal.closure-returns-clause-exact
closure-returns-clause-exact t c =
    keeps_reads c.loop-repeat.invariant.keeps (marks_done (tree_term c.loop-repeat.tree) (map lex_of c.loop-repeat.rest.now) c.in_default.ensures.exact)

-- atoms
pub single-returns-in-Some-clause-exact : goal.single-returns-in-Some-clause-exact
single-returns-in-Some-clause-exact t c =
    keeps_answers c.group.result (group_keeps (map lex_of c.in-Some.after.now) (map lex_of c.args.lexemes.now) c.in-Some.ensures.found) c.group.ensures.exact

pub single-returns-in-Some-front_word-clause-exact : goal.single-returns-in-Some-front_word-clause-exact
single-returns-in-Some-front_word-clause-exact t c =
    keeps_answers c.reference.result (word_keeps (map lex_of c.in-Some-front_word.rest.now) (map lex_of c.args.lexemes.now) c.in-Some-front_word.word.now c.in-Some-front_word.ensures.found) c.reference.ensures.exact

-- names
pub reference-returns-in_ok-name-in-Some-clause-exact : goal.reference-returns-in_ok-name-in-Some-clause-exact
reference-returns-in_ok-name-in-Some-clause-exact t c =
    keeps_answers c.use_or_call.result
    (subst (λ v. Keeps 7 (Spells (dotted v) (map lex_of c.args.lexemes.now)) (Spells (named (Imported c.in_ok-own.own c.in_ok-name-in-Some.name)) (map lex_of c.in-Some.rest.now))) c.in_ok-own.ensures
    (imported_keeps (map lex_of c.in-Some.rest.now) (map lex_of c.args.lexemes.now) c.in_ok-own.own c.in_ok-name-in-Some.name
    (c.in-Some.ensures.found ∙ ap (λ v. symbol Dot ∷ word v ∷ map lex_of c.in-Some.rest.now) (sym c.in_ok-name-in-Some.ensures))))
    c.use_or_call.ensures.exact

pub reference-returns-in-None-clause-exact : goal.reference-returns-in-None-clause-exact
reference-returns-in-None-clause-exact t c =
    keeps_answers c.use_or_call-in-None.result
    (subst (λ v. Keeps 7 (Spells (dotted v) (map lex_of c.args.lexemes.now)) (Spells (named (Own c.in_ok-own.own)) (map lex_of c.args.lexemes.now))) c.in_ok-own.ensures
    (own_keeps (map lex_of c.args.lexemes.now) c.in_ok-own.own c.in-None.ensures.none))
    c.use_or_call-in-None.ensures.exact

pub use_or_call-returns-in-Some-clause-exact : goal.use_or_call-returns-in-Some-clause-exact
use_or_call-returns-in-Some-clause-exact t c =
    keeps_answers c.call.result (called_keeps c.args.callee (map lex_of c.in-Some.after.now) (map lex_of c.args.lexemes.now) c.in-Some.ensures.found) c.call.ensures.exact

pub use_or_call-returns-in-None-clause-exact : goal.use_or_call-returns-in-None-clause-exact
use_or_call-returns-in-None-clause-exact t c = reads_as (sym c.used.ensures) (used_reads c.args.callee (map lex_of c.args.lexemes.now) c.in-None.ensures.none)

-- arguments
pub call-returns-in-Some-clause-exact : goal.call-returns-in-Some-clause-exact
call-returns-in-Some-clause-exact t c =
    reads_as (sym (c.called.ensures ∙ ap (λ v. called c.args.callee (map tree_term v)) c.new.ensures.items))
    (empty_reads c.args.callee (map lex_of c.in-Some.rest.now) (map lex_of c.args.lexemes.now) c.in-Some.ensures.found)

pub call_with-returns-in_err-first-clause-exact : goal.call_with-returns-in_err-first-clause-exact
call_with-returns-in_err-first-clause-exact t c =
    stops 7 (Spells (arguments c.args.callee) (map lex_of c.args.lexemes.now)) c.in_err-first.field-0.0 c.from_residual.result c.from_residual.ensures.1
    (first_fails (λ u b. Spells (commas c.args.callee (u ∷ [])) b) c.in_err-first.field-0.0 (arguments_first c.args.callee (map lex_of c.args.lexemes.now) c.requires) c.in_err-first.ensures.exact)

pub call_with-loop-after-init : goal.call_with-loop-after-init
call_with-loop-after-init t c = record {
  shorter = c.in_ok-first.ensures.shorter;
  same = refl;
  keeps = subst (λ v. Keeps 7 (Spells (arguments c.args.callee) (map lex_of c.args.lexemes.now)) (Spells (commas c.args.callee (map tree_term v)) (map lex_of c.in_ok-first.rest.now))) (sym (first_pushed c.new-arguments.ensures.items c.in_ok-push.ensures.items))
      (first_keeps (λ u b. Spells (commas c.args.callee (u ∷ [])) b) (arguments_first c.args.callee (map lex_of c.args.lexemes.now) c.requires) c.in_ok-first.ensures.exact);
}

pub call_with-returns-in_err-next-clause-exact : goal.call_with-returns-in_err-next-clause-exact
call_with-returns-in_err-next-clause-exact t c =
    stops 7 (Spells (arguments c.args.callee) (map lex_of c.args.lexemes.now)) c.in_err-next.field-0.0 c.from_residual-in_err-next.result c.from_residual-in_err-next.ensures.1
    (commas_stop c.in_err-next.field-0.0 c.in-Some.ensures.found c.loop-after.invariant.keeps c.in_err-next.ensures.exact)

pub call_with-loop-after-preserved : goal.call_with-loop-after-preserved
call_with-loop-after-preserved t c = record {
  shorter = omega (arith, c.in_ok-next.ensures.shorter, c.in-Some.ensures.shorter, c.loop-after.invariant.shorter);
  same = c.loop-after.invariant.same;
  keeps = commas_step c.in-Some.ensures.found (pushed tree_term c.loop-after.arguments.items c.push-in-Some.new.self.items c.in_ok-next.next c.in_ok-push-2.ensures.items) c.loop-after.invariant.keeps c.in_ok-next.ensures.exact;
}

pub call_with-returns-in-Some-after_symbol-clause-exact : goal.call_with-returns-in-Some-after_symbol-clause-exact
call_with-returns-in-Some-after_symbol-clause-exact t c =
    reads_as (sym (c.called.ensures ∙ ap (λ v. called v (map tree_term c.loop-after.arguments.items)) c.loop-after.invariant.same))
    (keeps_reads c.loop-after.invariant.keeps (commas_done c.args.callee (map tree_term c.loop-after.arguments.items) (map lex_of c.in-Some-after_symbol.after.now) (map lex_of c.loop-after.rest.now) c.in-Some-after_symbol.ensures.found))

pub call_with-returns-clause-exact : goal.call_with-returns-clause-exact
call_with-returns-clause-exact t c =
    keeps_fails Syntax c.loop-after.invariant.keeps (commas_fail c.args.callee (map tree_term c.loop-after.arguments.items) (map lex_of c.loop-after.rest.now) c.in_default.ensures.none c.in-None.ensures.none)

pub argument-returns-in_ok-quoted-in-Some-clause-exact : goal.argument-returns-in_ok-quoted-in-Some-clause-exact
argument-returns-in_ok-quoted-in-Some-clause-exact t c =
    quoted_reads (map lex_of c.in-Some.rest.now) (map lex_of c.args.lexemes.now) c.in-Some.bytes.now _ c.in-Some.ensures.found c.in_ok-quoted-in-Some.ensures

pub argument-returns-in-None-clause-exact : goal.argument-returns-in-None-clause-exact
argument-returns-in-None-clause-exact t c =
    keeps_answers c.expression.result (spelled_keeps (map lex_of c.args.lexemes.now) c.in-None.ensures.none) c.expression.ensures.exact
