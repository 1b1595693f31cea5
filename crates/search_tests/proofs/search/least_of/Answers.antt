use Rattle.std.proofs.Common.{◌≡◌, ◌<◌, ◌+◌, ◌^◌, ◌++◌, ◌∷◌, [], length, arith, refl, subst, sym, ap, ◌∙◌}
use Rattle.std.specs.Prelude.{Contains}
use Rattle.std.proofs.lemmas.Bool.{false≢true}
use Rattle.search_tests.specs.declared.entries.Entry.{Entry}
use Rattle.search_tests.specs.declared.entries.Place.TheVariants.{At}
use Rattle.search_tests.proofs.Running.{Run, IsEntry, IsPlace, todo, run_start, run_drop, run_settle, run_answer, run_none, less_settle, less_drop, first_entry}
use Rattle.search_tests.proofs.search.least_of.Goals as goal
use Rattle.search_tests.proofs.search.least_of.Goals.{then-not-is_settled+in_ok-settle-in-At, else-not-is_settled}

pub loop-first-init : goal.loop-first-init
loop-first-init c =
    let items : c.push.new.self.items ≡ c.at_start.result ∷ [] = c.in_ok-push.ensures.items ∙ ap (λ xs. xs ++ c.at_start.result ∷ []) c.new-waiting.ensures.items in
    let place = c.at_start.ensures.place ∙ ap (λ s. At (record { position = 0; state = s })) c.start.ensures.value in
    record {
      sound = c.start.ensures.sound;
      run = subst (λ s. Run c.args.rule.now c.args.line.now s c.push.new.self.items) (sym c.new.ensures.items) (run_start c.args.rule.now c.start.ensures.sound c.args.line.now c.push.new.self.items c.at_start.result items c.at_start.ensures.weight c.at_start.ensures.output place);
    }

pub returns-in-End : goal.returns-in-End
returns-in-End c = record { least = run_answer c.args.rule.now c.args.line.now c.loop-first.search.settled.items c.loop-first.search.waiting.items c.take_first.new.waiting.items c.in-Some.first c.loop-first.invariant.run c.in-Some.ensures.0 c.in-Some.ensures.1 c.in-End.is }

pub settle-requires : goal.settle-requires
settle-requires c =
    let m = c.args.rule.now in
    let line = c.args.line.now in
    let e : Entry = c.in-Some.first in
    let settled = c.loop-first.search.settled in
    let entry : IsEntry (length line + 1) (length m.arcs) (length settled.items) e = first_entry m line settled.items c.loop-first.search.waiting.items c.take_first.new.waiting.items e c.loop-first.invariant.run c.in-Some.ensures.0 c.in-Some.ensures.1 in
    let pair = subst (IsPlace (length line + 1) (length m.arcs)) c.in-At.is entry.place in
    let small : settled.cap < 2 ^ 63 = settled.small in
    record { state = pair.state; position = omega (arith, pair.position); weight = omega (arith, entry.light, settled.ok.0, settled.ok.1) }

pub loop-first-preserved : goal.loop-first-preserved
loop-first-preserved c =
    let m = c.args.rule.now in
    let line = c.args.line.now in
    let old = c.loop-first.search.settled.items in
    let was = c.loop-first.search.waiting.items in
    let rest = c.take_first.new.waiting.items in
    let e : Entry = c.in-Some.first in
    let p = c.in-At.pair in
    record {
      sound = c.loop-first.invariant.sound;
      run = elim c.if-not-is_settled.branch [
        | then-not-is_settled+in_ok-settle-in-At w ↦
            let fresh : Contains old p → ⊥ = λ h. false≢true (w.if-not-is_settled.ensures.1 (subst (λ xs. Contains xs p) (sym c.deref.ensures.value) h)) in
            subst (λ s. Run m line s.settled.items s.waiting.items) (sym w.search-is) (run_settle m line old was rest e c.loop-first.invariant.run c.in-Some.ensures.0 c.in-Some.ensures.1 c.loop-first.invariant.sound p c.in-At.is fresh w.settle.new.self.settled.items w.in_ok-settle-in-At.ensures.settled w.settle.new.self.waiting.items _ w.in_ok-settle-in-At.ensures.grown)
        | else-not-is_settled w ↦
            let there : Contains old p = subst (λ xs. Contains xs p) c.deref.ensures.value (w.if-not-is_settled.ensures.0 refl) in
            subst (λ s. Run m line s.settled.items s.waiting.items) (sym w.search-is) (run_drop m line old was rest e c.loop-first.invariant.run c.in-Some.ensures.0 c.in-Some.ensures.1 p c.in-At.is there)
      ];
    }

pub loop-first-smaller : goal.loop-first-smaller
loop-first-smaller c =
    let m = c.args.rule.now in
    let line = c.args.line.now in
    let old = c.loop-first.search.settled.items in
    let was = c.loop-first.search.waiting.items in
    let rest = c.take_first.new.waiting.items in
    let e : Entry = c.in-Some.first in
    let p = c.in-At.pair in
    elim c.if-not-is_settled.branch [
      | then-not-is_settled+in_ok-settle-in-At w ↦
          let fresh : Contains old p → ⊥ = λ h. false≢true (w.if-not-is_settled.ensures.1 (subst (λ xs. Contains xs p) (sym c.deref.ensures.value) h)) in
          subst (λ s. todo m line s.settled.items s.waiting.items < todo m line old was) (sym w.search-is) (less_settle m line old was rest e c.loop-first.invariant.run c.in-Some.ensures.0 c.in-Some.ensures.1 c.loop-first.invariant.sound p c.in-At.is fresh w.settle.new.self.settled.items w.in_ok-settle-in-At.ensures.settled w.settle.new.self.waiting.items _ w.in_ok-settle-in-At.ensures.grown refl)
      | else-not-is_settled w ↦
          subst (λ s. todo m line s.settled.items s.waiting.items < todo m line old was) (sym w.search-is) (less_drop m line old was rest e c.loop-first.invariant.run c.in-Some.ensures.0 c.in-Some.ensures.1)
    ]

pub returns : goal.returns
returns c = record { least = run_none c.args.rule.now c.args.line.now c.loop-first.search.settled.items (subst (Run c.args.rule.now c.args.line.now c.loop-first.search.settled.items) c.in_default.ensures c.loop-first.invariant.run) }
