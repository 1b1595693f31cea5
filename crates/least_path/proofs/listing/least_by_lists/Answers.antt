use Rattle.std.proofs.Common.{◌≡◌, ◌<◌, ◌≤◌, ◌*◌, ◌^◌, ℕ, List, [], Some, slice_get, sym, ap, ◌∙◌, subst, arith, rules}
use Rattle.std.specs.Prelude.{All}
use Rattle.std.proofs.lemmas.List.{get_or_default}
use Rattle.std.proofs.lemmas.List.Elements.{All-contains, All-weaker}
use Rattle.weighted_relations.specs.Machines.{Machine, WellFormed}
use Rattle.weighted_relations.specs.Relations.{IsByte}
use Rattle.state_tuples.specs.declared.tuples.Tuple.{Tuple}
use Rattle.state_tuples.specs.Calls.{IsKnown}
use Rattle.state_tuples.specs.Cascades.{Cascaded, IsSound, ReadsItsParts}
use Rattle.state_tuples.specs.Bounds.{IsClosed}
use Rattle.state_tuples.proofs.ClosedTuples.{tuples_are_closed}
use Rattle.least_path.specs.declared.node.Node.TheVariants.{At, End}
use Rattle.least_path.specs.declared.queue.Entry.{Entry}
use Rattle.least_path.specs.declared.marks.Mark.TheVariants.{Unmet, Waiting}
use Rattle.least_path.specs.declared.relaxing.Relaxed.{Relaxed}
use Rattle.least_path.specs.Texts.{text_of}
use Rattle.least_path.specs.Starting.{StartsAt, IsStart, IsLeastFrom, WritesBytes}
use Rattle.least_path.specs.Growths.{Steps}
use Rattle.least_path.specs.Marks.{mark_of}
use Rattle.least_path.specs.Keeps.{IsEdge}
use Rattle.least_path.specs.Ending.{Every}
use Rattle.least_path.specs.Passing.{Stays}
use Rattle.least_path.specs.Relaxing.{Gained, GainedFrom, IsBest}
use Rattle.least_path.proofs.Stops.{stops_later}
use Rattle.least_path.proofs.Wholes.{byte_small}
use Rattle.least_path.proofs.Corrections.{Runs, with_lists, with_done, runs_start, runs_none, runs_found, runs_ended, runs_passed, runs_more, taken_within, taken_marked, taken_known, taken_kept, taken_fits, taken_light, taken_short}
use Rattle.least_path.proofs.Paying.{adds_at, adds_met, paid_start, risen_later, risen_self}
use Rattle.least_path.proofs.listing.least_by_lists.Goals as goal

sound_of : (cascades : List Cascaded) (start : Tuple) → All IsSound cascades → (d : Cascaded) → StartsAt cascades start d → IsSound d
sound_of cascades start sounds d h = All-contains IsSound cascades d sounds h.one

closed_of : (cascades : List Cascaded) (start : Tuple) → All IsSound cascades → (d : Cascaded) → StartsAt cascades start d → IsClosed d
closed_of cascades start sounds d h = tuples_are_closed d (sound_of cascades start sounds d h)

pub loop-number-init : goal.loop-number-init
loop-number-init g c =
    let s0 : Relaxed = c.clear.new.self in
    let s : Relaxed = c.relax.new.self in
    let none : text_of c.clear.new.self.outputs 0 ≡ [] = ap (λ t. text_of t 0) c.in_ok-clear.ensures.outputs in
    let at : Gained Stays Every s0 s 0 [] (IsEdge (At c.args.source.now.start c.args.start.now) 0 []) = subst (λ y. Gained Stays Every c.clear.new.self c.relax.new.self 0 y (IsEdge (At c.args.source.now.start c.args.start.now) 0 [])) none (subst (λ q. Gained Stays Every c.clear.new.self c.relax.new.self 0 (text_of c.clear.new.self.outputs 0) (IsEdge (At q c.args.start.now) 0 [])) c.start.ensures.value c.in_ok-relax.ensures) in
    record {
      sound = c.start.ensures.sound;
      runs = λ d h. runs_start c.args.source.now d c.start.ensures.sound (closed_of (g.X.Expander.cascades c.args.x.now) c.args.start.now (g.met.X.Expander.sound c.args.x.now c.requires.ready) d h) s0 s c.in_ok-clear.ensures.nodes (subst (λ t. Gained Stays Every c.clear.new.self c.relax.new.self 0 [] (IsEdge (At c.args.source.now.start t) 0 [])) h.first at) c.in_ok-clear.ensures.marks;
      ready = c.requires.ready;
      on = g.met.X.Expander.on_self c.args.x.now;
      risen = risen_self (g.X.Expander.calls c.args.x.now);
      paid = paid_start c.args.source.now (g.X.Expander.calls c.args.x.now) s0.nodes s.nodes c.in_ok-clear.ensures.nodes (adds_at c.args.source.now.start c.args.start.now s0.nodes s.nodes (adds_met s0 s (At c.args.source.now.start c.args.start.now) 0 0 [] [] at));
    }

pub index-requires : goal.index-requires
index-requires g c =
    let st = c.requires.start in
    let h = taken_marked c.args.source.now st.0 c.loop-number.search c.loop-number.taken (c.loop-number.invariant.runs st.0 st.1) c.in-Some.number c.take.new.self c.in-Some.ensures in
    let v = c.loop-number.search.marks.ok.0 in
    omega arith

pub index_mut-requires : goal.index_mut-requires
index_mut-requires g c =
    let st = c.requires.start in
    let h = taken_marked c.args.source.now st.0 c.loop-number.search c.loop-number.taken (c.loop-number.invariant.runs st.0 st.1) c.in-Some.number c.take.new.self c.in-Some.ensures in
    let v = c.loop-number.search.marks.ok.0 in
    omega arith

pub node-requires : goal.node-requires
node-requires g c =
    let st = c.requires.start in
    taken_within c.args.source.now st.0 c.loop-number.search c.loop-number.taken (c.loop-number.invariant.runs st.0 st.1) c.in-Some.number c.take.new.self c.in-Some.ensures

pub loop-number-preserved-in_default-index : goal.loop-number-preserved-in_default-index
loop-number-preserved-in_default-index g c =
    let st = c.requires.start in
    let marked = taken_marked c.args.source.now st.0 c.loop-number.search c.loop-number.taken (c.loop-number.invariant.runs st.0 st.1) c.in-Some.number c.take.new.self c.in-Some.ensures in
    let at : mark_of c.loop-number.search.marks.items c.in-Some.number ≡ c.index.result.now = get_or_default c.loop-number.search.marks.items c.in-Some.number Unmet c.index.result.now marked ∙ sym c.index.ensures in
    record {
      sound = c.loop-number.invariant.sound;
      runs = λ d h. runs_passed c.args.source.now d c.loop-number.search c.loop-number.taken (c.loop-number.invariant.runs d h) c.in-Some.number c.take.new.self c.in-Some.ensures (λ b w. absurd (c.in_default-index.not-Waiting b (sym at ∙ w)));
      ready = c.loop-number.invariant.ready;
      on = c.loop-number.invariant.on;
      risen = c.loop-number.invariant.risen;
      paid = c.loop-number.invariant.paid;
    }

pub loop-number-preserved-in_default-node : goal.loop-number-preserved-in_default-node
loop-number-preserved-in_default-node g c = record {
  sound = c.loop-number.invariant.sound;
  runs = λ d h. runs_passed c.args.source.now d c.loop-number.search c.loop-number.taken (c.loop-number.invariant.runs d h) c.in-Some.number c.take.new.self c.in-Some.ensures (λ b w. c.node.ensures ∙ ap Some c.in_default-node.is);
  ready = c.loop-number.invariant.ready;
  on = c.loop-number.invariant.on;
  risen = c.loop-number.invariant.risen;
  paid = c.loop-number.invariant.paid;
}

pub spread-requires : goal.spread-requires
spread-requires g c =
    let st = c.requires.start in
    let old = c.loop-number.search in
    let taken = c.loop-number.taken in
    let runs = c.loop-number.invariant.runs st.0 st.1 in
    let k = c.in-Some.number in
    let is = c.in-Some.ensures in
    let marked = taken_marked c.args.source.now st.0 c.loop-number.search c.loop-number.taken (c.loop-number.invariant.runs st.0 st.1) c.in-Some.number c.take.new.self c.in-Some.ensures in
    let waits : mark_of c.loop-number.search.marks.items c.in-Some.number ≡ Waiting c.in-Waiting.way = get_or_default c.loop-number.search.marks.items c.in-Some.number Unmet c.index.result.now marked ∙ sym c.index.ensures ∙ c.in-Waiting.is in
    let at : slice_get c.loop-number.search.nodes c.in-Some.number ≡ Some (At c.in-At.state c.in-At.tuple) = c.node.ensures ∙ ap Some c.in-At.is in
    let known = taken_known c.args.source.now st.0 c.loop-number.search c.loop-number.taken (c.loop-number.invariant.runs st.0 st.1) c.in-Some.number c.take.new.self c.in-Some.ensures c.in-Waiting.way waits c.in-At.state c.in-At.tuple at in
    let light : c.in-Waiting.way.weight ≤ taken * (4097 * 2 ^ 56) = taken_light c.args.source.now st.0 c.loop-number.search c.loop-number.taken (c.loop-number.invariant.runs st.0 st.1) c.in-Some.number c.take.new.self c.in-Some.ensures c.in-Waiting.way waits c.in-At.state c.in-At.tuple at in
    let short : c.in-Waiting.way.length ≤ taken * 4097 = taken_short c.args.source.now st.0 c.loop-number.search c.loop-number.taken (c.loop-number.invariant.runs st.0 st.1) c.in-Some.number c.take.new.self c.in-Some.ensures c.in-Waiting.way waits c.in-At.state c.in-At.tuple at in
    record {
      ready = c.loop-number.invariant.ready;
      known = subst (λ cs. IsKnown cs c.in-At.tuple) (sym (g.met.X.Expander.on_stays c.args.x.now c.loop-number.x c.loop-number.invariant.on)) (st.0, st.1.one, known.1);
      state = known.0;
      kept = taken_kept c.args.source.now st.0 c.loop-number.search c.loop-number.taken (c.loop-number.invariant.runs st.0 st.1) c.in-Some.number c.take.new.self c.in-Some.ensures c.in-Waiting.way waits c.in-At.state c.in-At.tuple at;
      from = taken_fits c.args.source.now st.0 c.loop-number.search c.loop-number.taken (c.loop-number.invariant.runs st.0 st.1) c.in-Some.number c.take.new.self c.in-Some.ensures c.in-Waiting.way waits c.in-At.state c.in-At.tuple at;
      light = omega (arith, light, c.if-taken-most_taken.false, c.most_taken.ensures);
      short = omega (arith, short, c.if-taken-most_taken.false, c.most_taken.ensures);
    }

pub loop-number-preserved : goal.loop-number-preserved
loop-number-preserved g c =
    let st = c.requires.start in
    let cascades = g.X.Expander.cascades c.args.x.now in
    let start = c.args.start.now in
    let old = c.loop-number.search in
    let taken = c.loop-number.taken in
    let k = c.in-Some.number in
    let rest = c.take.new.self in
    let way = c.in-Waiting.way in
    let q = c.in-At.state in
    let t = c.in-At.tuple in
    let new = c.spread.new.search in
    let marked = taken_marked c.args.source.now st.0 c.loop-number.search c.loop-number.taken (c.loop-number.invariant.runs st.0 st.1) c.in-Some.number c.take.new.self c.in-Some.ensures in
    let waits : mark_of c.loop-number.search.marks.items c.in-Some.number ≡ Waiting c.in-Waiting.way = get_or_default c.loop-number.search.marks.items c.in-Some.number Unmet c.index.result.now marked ∙ sym c.index.ensures ∙ c.in-Waiting.is in
    let at : slice_get c.loop-number.search.nodes c.in-Some.number ≡ Some (At c.in-At.state c.in-At.tuple) = c.node.ensures ∙ ap Some c.in-At.is in
    let same : g.X.Expander.cascades c.loop-number.x ≡ g.X.Expander.cascades c.args.x.now = g.met.X.Expander.on_stays c.args.x.now c.loop-number.x c.loop-number.invariant.on in
    let gained : GainedFrom c.args.source.now cascades t (with_done old rest k way) new way (λ d. Steps c.args.source.now d (At q t)) = subst (λ cs. GainedFrom c.args.source.now cs c.in-At.tuple (with_done c.loop-number.search c.take.new.self c.in-Some.number c.in-Waiting.way) c.spread.new.search c.in-Waiting.way (λ d. Steps c.args.source.now d (At c.in-At.state c.in-At.tuple))) same c.in_ok-spread.ensures.gained in
    record {
      sound = c.loop-number.invariant.sound;
      runs = λ d h.
          let runs = c.loop-number.invariant.runs d h in
          let known = taken_known c.args.source.now d old taken runs k rest c.in-Some.ensures way waits q t at in
          runs_more c.args.source.now d old taken runs k rest c.in-Some.ensures way waits q t at c.loop-number.invariant.sound (closed_of cascades start (g.met.X.Expander.sound c.args.x.now c.requires.ready) d h) new (gained d h.one known.1);
      ready = c.spread.ensures.ready;
      on = g.met.X.Expander.on_again c.args.x.now c.loop-number.x c.spread.new.x c.loop-number.invariant.on c.in_ok-spread.ensures.on;
      risen = risen_later 0 (g.X.Expander.calls c.args.x.now) (g.X.Expander.calls c.loop-number.x) (g.X.Expander.calls c.spread.new.x) c.loop-number.invariant.risen c.in_ok-spread.ensures.pays.risen;
      paid = λ n reads. c.in_ok-spread.ensures.pays.nodes n (g.X.Expander.calls c.args.x.now) (c.loop-number.invariant.paid n reads k (At q t) at) (c.loop-number.invariant.paid n reads);
    }

pub returns-in_err-spread-clause-up : goal.returns-in_err-spread-clause-up
returns-in_err-spread-clause-up g c =
    let h = stops_later g.X.Expander.goes_on g.X.Expander.gives_up g.met.X.Expander.on_again c.args.x.now c.loop-number.x c.spread.new.x c.loop-number.invariant.on c.in_err-spread.ensures.up in
    search rules

pub best_end-requires : goal.best_end-requires
best_end-requires g c =
    let st = c.requires.start in
    (runs_ended c.args.source.now st.0 c.loop-number.search c.loop-number.taken (c.loop-number.invariant.runs st.0 st.1) c.in_default.ensures.0 c.take.new.self c.in_default.ensures.1).kept

pub returns-in_default-best_end-clause-least : goal.returns-in_default-best_end-clause-least
returns-in_default-best_end-clause-least g c = λ d h.
    let sounds = g.met.X.Expander.sound c.args.x.now c.requires.ready in
    let cascades = g.X.Expander.cascades c.args.x.now in
    let ended = runs_ended c.args.source.now d c.loop-number.search c.loop-number.taken (c.loop-number.invariant.runs d h) c.in_default.ensures.0 c.take.new.self c.in_default.ensures.1 in
    runs_none c.args.source.now d c.loop-number.invariant.sound (closed_of cascades c.args.start.now sounds d h) (c.cascades_read_their_parts.ensures d (sound_of cascades c.args.start.now sounds d h)) (with_lists c.loop-number.search c.take.new.self) c.loop-number.taken ended c.in_default-best_end.ensures

-- the least reading, for each of the cascades
found : (m : Machine) (cascades : List Cascaded) (start : Tuple) → All IsSound cascades → WellFormed m → ((d : Cascaded) → IsSound d → ReadsItsParts d) → (old : Relaxed) (taken : ℕ) → ((d : Cascaded) → StartsAt cascades start d → Runs m d old old.lists taken) → old.lists ≡ [] → (rest : List ℕ) → rest ≡ [] → (b : Entry) → IsBest (with_lists old rest) End b → IsLeastFrom m cascades start (Some (b.weight, text_of old.outputs b.output))
found m cascades start sounds wf laws old taken runs none rest empty b best d h = runs_found m d wf (closed_of cascades start sounds d h) (laws d (sound_of cascades start sounds d h)) (with_lists old rest) taken (runs_ended m d old taken (runs d h) none rest empty) b best

-- its labels are bytes
found_bytes : (m : Machine) (cascades : List Cascaded) (start : Tuple) (w : ℕ) (y : List ℕ) → IsStart cascades start → WritesBytes cascades start → IsLeastFrom m cascades start (Some (w, y)) → All (λ n. n < 256) y
found_bytes m cascades start w y s writes least = (let r = (least s.0 s.1).reads in All-weaker IsByte (λ n. n < 256) byte_small y (writes s.0 s.1 r.0 y w r.2))

pub bytes-requires-clause-small : goal.bytes-requires-clause-small
bytes-requires-clause-small g c =
    let way = c.in-Some-best_end.way in
    let y = text_of c.loop-number.search.outputs c.in-Some-best_end.way.output in
    let cascades = g.X.Expander.cascades c.args.x.now in
    let least = found c.args.source.now cascades c.args.start.now (g.met.X.Expander.sound c.args.x.now c.requires.ready) c.loop-number.invariant.sound c.cascades_read_their_parts.ensures c.loop-number.search c.loop-number.taken c.loop-number.invariant.runs c.in_default.ensures.0 c.take.new.self c.in_default.ensures.1 way c.in-Some-best_end.ensures in
    found_bytes c.args.source.now cascades c.args.start.now way.weight y c.requires.start c.requires.bytes least

pub returns-clause-least : goal.returns-clause-least
returns-clause-least g c =
    let way = c.in-Some-best_end.way in
    let cascades = g.X.Expander.cascades c.args.x.now in
    let least = found c.args.source.now cascades c.args.start.now (g.met.X.Expander.sound c.args.x.now c.requires.ready) c.loop-number.invariant.sound c.cascades_read_their_parts.ensures c.loop-number.search c.loop-number.taken c.loop-number.invariant.runs c.in_default.ensures.0 c.take.new.self c.in_default.ensures.1 way c.in-Some-best_end.ensures in
    let text : c.in_ok-bytes.field-0.items ≡ text_of c.loop-number.search.outputs c.in-Some-best_end.way.output = c.in_ok-bytes.ensures in
    subst (λ y. IsLeastFrom c.args.source.now (g.X.Expander.cascades c.args.x.now) c.args.start.now (Some (c.in-Some-best_end.way.weight, y))) (sym text) least

pub returns-clause-calls : goal.returns-clause-calls
returns-clause-calls g c = λ n reads. (let end = c.in-Some-best_end.ensures.met in c.loop-number.invariant.paid n reads end.number End end.node)
