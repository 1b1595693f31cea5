use Rattle.std.proofs.Common.{◌≡◌, ◌+◌, ◌∷◌, length-append, ◌<◌, ◌≤◌, ℕ, [], length, get_or, sym, subst, arith, ap, ◌∙◌, ◌↔◌, Some}
use Rattle.std.proofs.lemmas.Option.{get_or_from_slice_get}
use Rattle.weighted_relations.specs.Relations.{Same}
use Rattle.weighted_relations.specs.Machines.{Reads}
use Rattle.fst_core.specs.States.{States}
use Rattle.fst_core.specs.Top.{top_of}
use Rattle.rewrite_rules.specs.declared.spots.Spot.TheVariants.{Hub}
use Rattle.rewrite_rules.specs.Moves.{Run}
use Rattle.rewrite_rules.specs.Bimachine.{bimachine, Ends}
use Rattle.state_table.specs.Numbers.{Numbers}
use Rattle.state_table.proofs.Numbering.{keeps_more, kept_at, numbers_within, stored_at}
use Rattle.rewrite_rules.specs.PartsOf.{parts, InRange}
use Rattle.rewrite_rules.specs.Steps.{IsMove}
use Rattle.rewrite_rules.specs.Drawn.{Built, Draws}
use Rattle.rewrite_rules.proofs.Fitting.{built_none, built_push, whole, whole_reads, whole_below}
use Rattle.rewrite_rules.proofs.machines.machine.Goals as goal

pub rows-init : goal.rows-init
rows-init c =
    let n = c.in_ok-start.ensures.number in
    record {
      built = subst (Built c.args.tau.now c.args.t.now.automata c.number.new.self) (sym c.new-built.ensures.value) (built_none c.args.tau.now c.args.t.now.automata c.number.new.self c.in_ok-start.start (subst (λ s. Numbers s c.number.new.self Hub c.in_ok-start.start) c.new-spots.ensures.value n));
      first = numbers_within n;
      hub = stored_at n Hub;
    }

pub row_of-requires-clause-spot : goal.row_of-requires-clause-spot
row_of-requires-clause-spot c =
    let within : c.len-in-rows-2.result < length c.rows.spots = omega arith in
    subst (InRange c.args.tau.now c.args.t.now.automata) (get_or_from_slice_get c.rows.spots c.len-in-rows-2.result c.key-spot.result.now Hub c.key-spot.ensures.value) (c.rows.invariant.built.ranged c.len-in-rows-2.result within)

pub end_of-requires : goal.end_of-requires
end_of-requires c =
    let within : c.len-in-rows-2.result < length c.rows.spots = omega arith in
    record { spot = subst (InRange c.args.tau.now c.args.t.now.automata) (get_or_from_slice_get c.rows.spots c.len-in-rows-2.result c.key-spot.result.now Hub c.key-spot.ensures.value) (c.rows.invariant.built.ranged c.len-in-rows-2.result within) }

pub rows-smaller : goal.rows-smaller
rows-smaller c =
    let more : length c.push.new.self.arcs ≡ length c.rows.built.arcs + 1 = ap (λ (s : States). length s.arcs) c.in_ok-push.ensures.value ∙ length-append c.rows.built.arcs (c.in_ok-row.row.items ∷ []) in
    omega (arith, more, c.rows-test.true, c.len.ensures.count, c.len.ensures.small, c.len-in-rows.ensures.count, c.len-in-rows.ensures.small)

pub rows-preserved : goal.rows-preserved
rows-preserved c =
    let m = c.args.tau.now in
    let t = c.args.t.now.automata in
    let inv = c.rows.invariant in
    let b = c.rows.built in
    let spots = c.rows.spots in
    let here : c.key-spot.result.now ≡ get_or spots (length b.arcs) Hub = sym (get_or_from_slice_get spots c.len-in-rows-2.result c.key-spot.result.now Hub c.key-spot.ensures.value) ∙ ap (λ n. get_or spots n Hub) c.len-in-rows-2.ensures.count in
    let drawn : Draws (IsMove (parts m t) (get_or spots (length b.arcs) Hub)) spots c.row_of.new.spots [] c.in_ok-row.row.items = subst (λ s. Draws (IsMove (parts m t) s) spots c.row_of.new.spots [] c.in_ok-row.row.items) here c.in_ok-row.ensures.drawn in
    let ends : (w : ℕ) → (c.end_of.result ≡ Some w) ↔ Ends (parts m t) (get_or spots (length b.arcs) Hub) w = subst (λ s. (w : ℕ) → (c.end_of.result ≡ Some w) ↔ Ends (parts m t) s w) here c.end_of.ensures.value in
    let within : length b.arcs < length spots = omega (arith, c.rows-test.true, c.len.ensures.count, c.len-in-rows.ensures.count) in
    record {
      built = subst (Built m t c.row_of.new.spots) (sym c.in_ok-push.ensures.value)
          (built_push m t c.requires.ready.tau c.requires.ready.automata spots c.row_of.new.spots b c.in_ok-row.row.items c.end_of.result inv.built within drawn ends);
      first = let l : c.in_ok-start.start < length spots = inv.first in let more : length spots ≤ length c.row_of.new.spots = keeps_more drawn.keeps in omega arith;
      hub = kept_at Hub drawn.keeps c.in_ok-start.start inv.first ∙ inv.hub;
    }

pub finish-requires : goal.finish-requires
finish-requires c =
    let inv = c.rows.invariant in
    let all : length c.rows.spots ≤ length c.rows.built.arcs = omega (arith, c.rows-test.false, c.len.ensures.count, c.len-in-rows.ensures.count) in
    record { sound = whole c.args.tau.now c.args.t.now.automata c.requires.ready.tau c.requires.ready.automata c.rows.spots c.rows.built c.in_ok-start.start inv.built all inv.first inv.hub }

pub returns-clause-readings : goal.returns-clause-readings
returns-clause-readings c =
    let inv = c.rows.invariant in
    let all : length c.rows.spots ≤ length c.rows.built.arcs = omega (arith, c.rows-test.false, c.len.ensures.count, c.len-in-rows.ensures.count) in
    subst (λ v. Same (Reads v) (Run (bimachine (parts c.args.tau.now c.args.t.now.automata)) Hub)) (sym c.finish.ensures.value)
    (whole_reads c.args.tau.now c.args.t.now.automata c.requires.ready.tau c.requires.ready.automata c.rows.spots c.rows.built c.in_ok-start.start inv.built all inv.first inv.hub)

pub returns-clause-top : goal.returns-clause-top
returns-clause-top c =
    let inv = c.rows.invariant in
    let all : length c.rows.spots ≤ length c.rows.built.arcs = omega (arith, c.rows-test.false, c.len.ensures.count, c.len-in-rows.ensures.count) in
    subst (λ v. top_of v ≤ top_of c.args.tau.now) (sym c.finish.ensures.value)
    (whole_below c.args.tau.now c.args.t.now.automata c.requires.ready.tau c.requires.ready.automata c.rows.spots c.rows.built c.in_ok-start.start inv.built all inv.first inv.hub)
