use Rattle.std.proofs.Common.{◌≡◌, ◌+◌, ◌++◌, suc, [], refl, sym, ap, ◌∙◌, subst, arith, inr}
use Rattle.std.specs.Prelude.{All}
use Rattle.std.proofs.lemmas.List.Elements.{All-contains}
use Rattle.weighted_relations.specs.Graphs.{label}
use Rattle.state_tuples.specs.Cascades.{IsSound, next_of}
use Rattle.state_tuples.proofs.ClosedTuples.{tuples_are_closed}
use Rattle.least_path.specs.declared.node.Node.TheVariants.{At}
use Rattle.least_path.specs.Texts.{text_of}
use Rattle.least_path.specs.Ending.{CanEnd}
use Rattle.least_path.specs.Forcing.{IsForced, Reads}
use Rattle.least_path.specs.Passing.{Passes}
use Rattle.least_path.specs.Keeps.{IsEdge}
use Rattle.least_path.specs.Growths.{Leading, Steps}
use Rattle.least_path.proofs.Letters.{grows_same, grows_trans}
use Rattle.least_path.proofs.Going.{Came, came_first, came_more}
use Rattle.least_path.proofs.Meeting.{gained_growth, gained_texts, gained_through, kept_texts}
use Rattle.least_path.specs.Paying.{Adds, IsAt}
use Rattle.least_path.proofs.Paying.{adds_at, adds_met}
use Rattle.least_path.proofs.forcing.meet_along.Goals as goal

pub loop-more-init : goal.loop-more-init
loop-more-init g c =
    let first = next_of c.args.tuple.now c.args.a.now in
    let w = c.args.from.now.weight + c.args.a.now.weight in
    let y = text_of c.args.search.now.outputs c.args.from.now.output ++ label c.args.a.now.output [] in
    record {
      few = omega arith;
      texts = grows_same c.args.search.now.outputs c.args.search.now.outputs refl;
      nodes = refl;
      marks = refl;
      lists = refl;
      fits = c.requires.from;
      light = omega arith;
      short = omega arith;
      came = λ d k h. subst (λ t. Came c.args.source.now d c.args.state first w y 0 t w y) (sym c.next_tuple-next.ensures) (came_first c.args.source.now d c.args.state first w y (c.requires.next d k h));
    }

pub loop-more-preserved : goal.loop-more-preserved
loop-more-preserved g c =
    let old = c.loop-more.invariant in
    let way = c.loop-more.way in
    let last = c.loop-more.last in
    let more = c.in-Some.more in
    let made = c.in_ok-way.ensures in
    let first = next_of c.args.tuple.now c.args.a.now in
    let w = c.args.from.now.weight + c.args.a.now.weight in
    let y = text_of c.args.search.now.outputs c.args.from.now.output ++ label c.args.a.now.output [] in
    record {
      few = (let h = c.in-Some.ensures.few in omega arith);
      texts = grows_trans c.args.search.now.outputs c.loop-more.search.outputs c.go_on.new.self.outputs c.loop-more.invariant.texts c.go_on.ensures.texts;
      nodes = c.go_on.ensures.nodes ∙ c.loop-more.invariant.nodes;
      marks = c.go_on.ensures.marks ∙ c.loop-more.invariant.marks;
      lists = c.go_on.ensures.lists ∙ c.loop-more.invariant.lists;
      fits = c.in_ok-way.ensures.fits;
      light = (let a = c.in_ok-way.ensures.light in let b = c.loop-more.invariant.light in omega arith);
      short = (let a = c.in_ok-way.ensures.short in let b = c.loop-more.invariant.short in omega arith);
      came = λ d k h.
          let closed = tuples_are_closed d (All-contains IsSound (g.X.Expander.cascades c.args.x.now) d (g.met.X.Expander.sound c.args.x.now c.requires.ready) k) in
          let forced : IsForced c.args.source.now (g.X.Expander.cascades c.args.x.now) c.args.state c.loop-more.next more = record {
            source = subst (All Reads) c.arcs_of.ensures.value (c.are_readers-readers.ensures c.in-Some.ensures.readers);
            tuple = c.in-Some.ensures.only;
          } in
          let came : Came c.args.source.now d c.args.state first w y (suc c.loop-more.passed) (next_of c.loop-more.next more) ((way.weight + last.weight) + more.weight) ((text_of c.loop-more.search.outputs way.output ++ label last.output []) ++ label more.output []) = came_more c.args.source.now d c.args.state first w y closed (g.X.Expander.cascades c.args.x.now) k c.loop-more.passed c.loop-more.next (way.weight + last.weight) (text_of c.loop-more.search.outputs way.output ++ label last.output []) (c.loop-more.invariant.came d k h) more forced in
          let count : suc c.loop-more.passed ≡ c.loop-more.passed + 1 = omega arith in
          let weight : (way.weight + last.weight) + more.weight ≡ c.in_ok-way.way.weight + more.weight = ap (λ v. v + more.weight) (sym c.in_ok-way.ensures.weight) in
          let output : (text_of c.loop-more.search.outputs way.output ++ label last.output []) ++ label more.output [] ≡ text_of c.go_on.new.self.outputs c.in_ok-way.way.output ++ label more.output [] = ap (λ x. x ++ label more.output []) (sym c.in_ok-way.ensures.output) in
          subst (λ n. Came c.args.source.now d c.args.state first w y n c.next_tuple-next-in-Some.result (c.in_ok-way.way.weight + more.weight) (text_of c.go_on.new.self.outputs c.in_ok-way.way.output ++ label more.output [])) count
          (subst (λ t. Came c.args.source.now d c.args.state first w y (suc c.loop-more.passed) t (c.in_ok-way.way.weight + more.weight) (text_of c.go_on.new.self.outputs c.in_ok-way.way.output ++ label more.output [])) (sym c.next_tuple-next-in-Some.ensures)
          (subst (λ v. Came c.args.source.now d c.args.state first w y (suc c.loop-more.passed) (next_of c.loop-more.next more) v (text_of c.go_on.new.self.outputs c.in_ok-way.way.output ++ label more.output [])) weight
          (subst (Came c.args.source.now d c.args.state first w y (suc c.loop-more.passed) (next_of c.loop-more.next more) ((way.weight + last.weight) + more.weight)) output came)));
    }

pub relax-requires-clause-kept : goal.relax-requires-clause-kept
relax-requires-clause-kept g c = kept_texts c.args.search.now c.loop-more.search c.requires.kept c.loop-more.invariant.texts c.loop-more.invariant.nodes c.loop-more.invariant.marks c.loop-more.invariant.lists

pub returns-clause-gained : goal.returns-clause-gained
returns-clause-gained g c = λ d k h.
    let m = c.args.source.now in
    let q = c.args.state in
    let from = c.args.from.now in
    let a = c.args.a.now in
    let s = c.args.search.now in
    let mid = c.loop-more.search in
    let way = c.loop-more.way in
    let last = c.loop-more.last in
    let y = text_of c.args.search.now.outputs c.args.from.now.output in
    let first = At c.args.state (next_of c.args.tuple.now c.args.a.now) in
    let came = c.loop-more.invariant.came d k h in
    let edge : Leading = IsEdge (At c.args.state (next_of c.args.tuple.now c.args.a.now)) c.args.a.now.weight (label c.args.a.now.output []) in
    (gained_growth (Passes (Steps m d)) (CanEnd m d) from.weight y).joins s mid c.relax.new.self (λ n u z. ⊥) edge edge
    (gained_texts (Passes (Steps m d)) (CanEnd m d) s mid from.weight y c.requires.kept c.loop-more.invariant.texts c.loop-more.invariant.nodes c.loop-more.invariant.marks c.loop-more.invariant.lists)
    (gained_through (Passes (Steps m d)) (CanEnd m d) mid c.relax.new.self first (At q c.loop-more.next) way.weight from.weight last.weight a.weight came.more (text_of mid.outputs way.output) y (label last.output []) (label a.output []) came.text (c.loop-more.passed, c.loop-more.invariant.few, came.passed) came.weight came.output c.in_ok-relax.ensures)
    (λ n u z e. inr e) (λ n u z e. absurd e) (λ n u z e. e)

pub returns-clause-adds : goal.returns-clause-adds
returns-clause-adds g c =
    let s = c.loop-more.search in
    let q = c.args.state in
    let t = c.loop-more.next in
    subst (λ ns. Adds (IsAt q) ns c.relax.new.self.nodes) c.loop-more.invariant.nodes (adds_at q t s.nodes c.relax.new.self.nodes (adds_met s c.relax.new.self (At q t) c.loop-more.way.weight c.loop-more.last.weight (text_of s.outputs c.loop-more.way.output) (label c.loop-more.last.output []) c.in_ok-relax.ensures))
