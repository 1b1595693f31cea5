use Rattle.std.proofs.Common.{◌≡◌, ◌<◌, ℕ, [], slice_get, get_or, sym, ap, ◌∙◌, subst, arith, rules, Some}
use Rattle.std.specs.Prelude.{All}
use Rattle.state_tuples.specs.Calls.{IsKnown}
use Rattle.least_path.specs.declared.node.Node.TheVariants.{At, End}
use Rattle.least_path.specs.declared.reaching.Search.{Search}
use Rattle.least_path.specs.Texts.{text_of}
use Rattle.least_path.specs.Starting.{IsLeastFrom}
use Rattle.least_path.specs.Growths.{Steps}
use Rattle.least_path.specs.Keeps.{Grown, GrownFrom, IsEdge}
use Rattle.least_path.proofs.Stops.{stops_later}
use Rattle.least_path.proofs.Turns.{taken_within, taken_at}
use Rattle.least_path.proofs.Wholes.{all_start, all_none, all_found, all_bytes, all_known_tuple, all_known_state, all_count, all_light, all_short, all_more, all_smaller}
use Rattle.least_path.specs.Counting.{ReadsAtLeast}
use Rattle.least_path.specs.Paying.{ArePaid}
use Rattle.least_path.proofs.Paying.{adds_at, adds_reached, paid_start}
use Rattle.least_path.proofs.searching.least_by_queue.Goals as goal

pub loop-entry-init : goal.loop-entry-init
loop-entry-init g c =
    let s0 : Search = c.new-search.result in
    let s : Search = c.reach.new.self in
    let none : text_of c.new-search.result.outputs 0 ≡ [] = ap (λ t. text_of t 0) c.new-search.ensures.outputs in
    let at : Grown s0 s 0 [] (IsEdge (At c.args.source.now.start c.args.start.now) 0 []) = subst (λ y. Grown c.new-search.result c.reach.new.self 0 y (IsEdge (At c.args.source.now.start c.args.start.now) 0 [])) none (subst (λ q. Grown c.new-search.result c.reach.new.self 0 (text_of c.new-search.result.outputs 0) (IsEdge (At q c.args.start.now) 0 [])) c.start.ensures.value c.in_ok-reach.ensures) in
    record {
      sound = c.start.ensures.sound;
      runs = all_start c.args.source.now (g.X.Expander.cascades c.args.x.now) c.args.start.now (g.met.X.Expander.sound c.args.x.now c.requires.ready) c.start.ensures.sound c.cascades_read_their_parts.ensures s0 s c.new-search.ensures.nodes c.new-search.ensures.standings c.new-search.ensures.queue at;
      ready = c.requires.ready;
      on = g.met.X.Expander.on_self c.args.x.now;
      paid = paid_start c.args.source.now (g.X.Expander.calls c.args.x.now) s0.nodes s.nodes c.new-search.ensures.nodes (adds_at c.args.source.now.start c.args.start.now s0.nodes s.nodes (adds_reached s0 s (At c.args.source.now.start c.args.start.now) 0 0 [] [] at));
    }

pub returns-clause-least : goal.returns-clause-least
returns-clause-least g c = all_none c.args.source.now (g.X.Expander.cascades c.args.x.now) c.args.start.now (g.met.X.Expander.sound c.args.x.now c.requires.ready) c.loop-entry.invariant.sound c.cascades_read_their_parts.ensures c.loop-entry.search c.loop-entry.invariant.runs c.in_default.ensures

pub key-requires : goal.key-requires
key-requires g c = record { within = taken_within c.loop-entry.search c.next.new.self c.in-Some.entry c.in-Some.ensures }

pub bytes-requires-clause-small : goal.bytes-requires-clause-small
bytes-requires-clause-small g c =
    let e = c.in-Some.entry in
    let at : get_or c.loop-entry.search.nodes c.in-Some.entry.node End ≡ End = taken_at c.loop-entry.search c.next.new.self c.in-Some.entry c.in-Some.ensures End (c.key.ensures.value ∙ ap Some c.in-End.is) in
    let bytes = all_bytes c.args.source.now (g.X.Expander.cascades c.args.x.now) c.args.start.now (g.met.X.Expander.sound c.args.x.now c.requires.ready) c.loop-entry.invariant.sound c.cascades_read_their_parts.ensures c.loop-entry.search c.loop-entry.invariant.runs c.next.new.self e c.in-Some.ensures c.requires.start c.requires.bytes at in
    subst (All (λ n. n < 256)) (ap (λ t. text_of t c.in-Some.entry.output) (sym c.in-Some.ensures.outputs)) bytes

pub returns-in-End-clause-least : goal.returns-in-End-clause-least
returns-in-End-clause-least g c =
    let at : get_or c.loop-entry.search.nodes c.in-Some.entry.node End ≡ End = taken_at c.loop-entry.search c.next.new.self c.in-Some.entry c.in-Some.ensures End (c.key.ensures.value ∙ ap Some c.in-End.is) in
    let found = all_found c.args.source.now (g.X.Expander.cascades c.args.x.now) c.args.start.now (g.met.X.Expander.sound c.args.x.now c.requires.ready) c.loop-entry.invariant.sound c.cascades_read_their_parts.ensures c.loop-entry.search c.loop-entry.invariant.runs c.next.new.self c.in-Some.entry c.in-Some.ensures at in
    let text : c.in_ok-bytes-in-End.field-0.items ≡ text_of c.loop-entry.search.outputs c.in-Some.entry.output = c.in_ok-bytes-in-End.ensures ∙ ap (λ t. text_of t c.in-Some.entry.output) c.in-Some.ensures.outputs in
    subst (λ y. IsLeastFrom c.args.source.now (g.X.Expander.cascades c.args.x.now) c.args.start.now (Some (c.in-Some.entry.weight, y))) (sym text) found

pub expand-requires-clause-known : goal.expand-requires-clause-known
expand-requires-clause-known g c =
    let at : get_or c.loop-entry.search.nodes c.in-Some.entry.node End ≡ At c.in-At.state c.in-At.tuple = taken_at c.loop-entry.search c.next.new.self c.in-Some.entry c.in-Some.ensures (At c.in-At.state c.in-At.tuple) (c.key.ensures.value ∙ ap Some c.in-At.is) in
    let k : IsKnown (g.X.Expander.cascades c.args.x.now) c.in-At.tuple = all_known_tuple c.args.source.now (g.X.Expander.cascades c.args.x.now) c.args.start.now (g.met.X.Expander.sound c.args.x.now c.requires.ready) c.loop-entry.invariant.sound c.cascades_read_their_parts.ensures c.loop-entry.search c.loop-entry.invariant.runs c.next.new.self c.in-Some.entry c.in-Some.ensures c.requires.start c.in-At.state c.in-At.tuple at in
    subst (λ cs. IsKnown cs c.in-At.tuple) (sym (g.met.X.Expander.on_stays c.args.x.now c.loop-entry.x c.loop-entry.invariant.on)) k

pub expand-requires-clause-state : goal.expand-requires-clause-state
expand-requires-clause-state g c =
    let at : get_or c.loop-entry.search.nodes c.in-Some.entry.node End ≡ At c.in-At.state c.in-At.tuple = taken_at c.loop-entry.search c.next.new.self c.in-Some.entry c.in-Some.ensures (At c.in-At.state c.in-At.tuple) (c.key.ensures.value ∙ ap Some c.in-At.is) in
    all_known_state c.args.source.now (g.X.Expander.cascades c.args.x.now) c.args.start.now (g.met.X.Expander.sound c.args.x.now c.requires.ready) c.loop-entry.invariant.sound c.cascades_read_their_parts.ensures c.loop-entry.search c.loop-entry.invariant.runs c.next.new.self c.in-Some.entry c.in-Some.ensures c.requires.start c.in-At.state c.in-At.tuple at

pub expand-requires-clause-light : goal.expand-requires-clause-light
expand-requires-clause-light g c =
    let n = all_count c.args.source.now (g.X.Expander.cascades c.args.x.now) c.args.start.now (g.met.X.Expander.sound c.args.x.now c.requires.ready) c.loop-entry.invariant.sound c.cascades_read_their_parts.ensures c.loop-entry.search c.loop-entry.invariant.runs c.next.new.self c.in-Some.entry c.in-Some.ensures c.requires.start in
    let l = all_light c.args.source.now (g.X.Expander.cascades c.args.x.now) c.args.start.now (g.met.X.Expander.sound c.args.x.now c.requires.ready) c.loop-entry.invariant.sound c.cascades_read_their_parts.ensures c.loop-entry.search c.loop-entry.invariant.runs c.next.new.self c.in-Some.entry c.in-Some.ensures c.requires.start in
    let v = c.next.new.self.standings.ok.0 in
    let s = c.next.new.self.standings.small in
    omega arith

pub expand-requires-clause-short : goal.expand-requires-clause-short
expand-requires-clause-short g c =
    let n = all_count c.args.source.now (g.X.Expander.cascades c.args.x.now) c.args.start.now (g.met.X.Expander.sound c.args.x.now c.requires.ready) c.loop-entry.invariant.sound c.cascades_read_their_parts.ensures c.loop-entry.search c.loop-entry.invariant.runs c.next.new.self c.in-Some.entry c.in-Some.ensures c.requires.start in
    let l = all_short c.args.source.now (g.X.Expander.cascades c.args.x.now) c.args.start.now (g.met.X.Expander.sound c.args.x.now c.requires.ready) c.loop-entry.invariant.sound c.cascades_read_their_parts.ensures c.loop-entry.search c.loop-entry.invariant.runs c.next.new.self c.in-Some.entry c.in-Some.ensures c.requires.start in
    let v = c.next.new.self.standings.ok.0 in
    let s = c.next.new.self.standings.small in
    omega arith

pub loop-entry-smaller : goal.loop-entry-smaller
loop-entry-smaller g c =
    let at : get_or c.loop-entry.search.nodes c.in-Some.entry.node End ≡ At c.in-At.state c.in-At.tuple = taken_at c.loop-entry.search c.next.new.self c.in-Some.entry c.in-Some.ensures (At c.in-At.state c.in-At.tuple) (c.key.ensures.value ∙ ap Some c.in-At.is) in
    let same = g.met.X.Expander.on_stays c.args.x.now c.loop-entry.x c.loop-entry.invariant.on in
    let grown : GrownFrom (g.X.Expander.cascades c.args.x.now) c.in-At.tuple c.next.new.self c.expand.new.search c.in-Some.entry (λ d. Steps c.args.source.now d (At c.in-At.state c.in-At.tuple)) = subst (λ cs. GrownFrom cs c.in-At.tuple c.next.new.self c.expand.new.search c.in-Some.entry (λ d. Steps c.args.source.now d (At c.in-At.state c.in-At.tuple))) same c.in_ok-expand-in-At.ensures.grown in
    all_smaller c.args.source.now (g.X.Expander.cascades c.args.x.now) c.args.start.now (g.met.X.Expander.sound c.args.x.now c.requires.ready) c.loop-entry.invariant.sound c.cascades_read_their_parts.ensures c.loop-entry.search c.loop-entry.invariant.runs c.next.new.self c.in-Some.entry c.in-Some.ensures c.in-At.state c.in-At.tuple at c.expand.new.search grown c.requires.start

pub loop-entry-preserved : goal.loop-entry-preserved
loop-entry-preserved g c =
    let at : get_or c.loop-entry.search.nodes c.in-Some.entry.node End ≡ At c.in-At.state c.in-At.tuple = taken_at c.loop-entry.search c.next.new.self c.in-Some.entry c.in-Some.ensures (At c.in-At.state c.in-At.tuple) (c.key.ensures.value ∙ ap Some c.in-At.is) in
    let same = g.met.X.Expander.on_stays c.args.x.now c.loop-entry.x c.loop-entry.invariant.on in
    let grown : GrownFrom (g.X.Expander.cascades c.args.x.now) c.in-At.tuple c.next.new.self c.expand.new.search c.in-Some.entry (λ d. Steps c.args.source.now d (At c.in-At.state c.in-At.tuple)) = subst (λ cs. GrownFrom cs c.in-At.tuple c.next.new.self c.expand.new.search c.in-Some.entry (λ d. Steps c.args.source.now d (At c.in-At.state c.in-At.tuple))) same c.in_ok-expand-in-At.ensures.grown in
    let calls = g.X.Expander.calls c.args.x.now in
    let paid : (n : ℕ) → ReadsAtLeast c.args.source.now n → ArePaid c.args.source.now n calls (g.X.Expander.calls c.loop-entry.x) c.next.new.self.nodes = λ n reads. subst (ArePaid c.args.source.now n (g.X.Expander.calls c.args.x.now) (g.X.Expander.calls c.loop-entry.x)) (sym c.in-Some.ensures.nodes) (c.loop-entry.invariant.paid n reads) in
    record {
      sound = c.loop-entry.invariant.sound;
      runs = all_more c.args.source.now (g.X.Expander.cascades c.args.x.now) c.args.start.now (g.met.X.Expander.sound c.args.x.now c.requires.ready) c.loop-entry.invariant.sound c.cascades_read_their_parts.ensures c.loop-entry.search c.loop-entry.invariant.runs c.next.new.self c.in-Some.entry c.in-Some.ensures c.in-At.state c.in-At.tuple at c.expand.new.search grown;
      ready = c.expand.ensures.ready;
      on = g.met.X.Expander.on_again c.args.x.now c.loop-entry.x c.expand.new.x c.loop-entry.invariant.on c.in_ok-expand-in-At.ensures.on;
      paid = λ n reads. c.in_ok-expand-in-At.ensures.pays.nodes n calls (paid n reads c.in-Some.entry.node (At c.in-At.state c.in-At.tuple) (c.key.ensures.value ∙ ap Some c.in-At.is)) (paid n reads);
    }

pub returns-in_err-expand-in-At-clause-up : goal.returns-in_err-expand-in-At-clause-up
returns-in_err-expand-in-At-clause-up g c =
    let h = stops_later g.X.Expander.goes_on g.X.Expander.gives_up g.met.X.Expander.on_again c.args.x.now c.loop-entry.x c.expand.new.x c.loop-entry.invariant.on c.in_err-expand-in-At.ensures.up in
    search rules

pub returns-in-End-clause-calls : goal.returns-in-End-clause-calls
returns-in-End-clause-calls g c = λ n reads. c.loop-entry.invariant.paid n reads c.in-Some.entry.node End (subst (λ ns. slice_get ns c.in-Some.entry.node ≡ Some End) c.in-Some.ensures.nodes (c.key.ensures.value ∙ ap Some c.in-End.is))
