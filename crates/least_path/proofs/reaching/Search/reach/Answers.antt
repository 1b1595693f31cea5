use Rattle.std.proofs.Common.{◌≡◌, ◌≢◌, ◌<◌, ◌+◌, ◌++◌, ℕ, List, [], length, get_or, refl, sym, ap, ◌∙◌, subst, length-append, arith, inr}
use Rattle.std.specs.Vec.{with_item}
use Rattle.weighted_relations.specs.Least.{Below}
use Rattle.std.proofs.lemmas.Bool.{false≢true}
use Rattle.weighted_relations.specs.Graphs.{label}
use Rattle.std.proofs.lemmas.List.{get_or_default}
use Rattle.least_path.specs.Texts.{text_of}
use Rattle.least_path.specs.Waiting.{Fits}
use Rattle.least_path.specs.Standings.{Passes, standing_of}
use Rattle.least_path.specs.declared.queue.Entry.{Entry}
use Rattle.least_path.specs.declared.reaching.Search.{Search}
use Rattle.least_path.specs.declared.standings.Standing.{Standing}
use Rattle.least_path.specs.declared.standings.Standing.TheVariants.{Unmet, Met, Settled}
use Rattle.least_path.proofs.Letters.{grows_same}
use Rattle.least_path.proofs.Noting.{noted_within}
use Rattle.least_path.proofs.Waiters.{heap_grow, entry_fits, best_fits, passed_early, grown_passed, grown_pushed}
use Rattle.least_path.proofs.reaching.Search.reach.Goals as goal

at_of : (xs : List Standing) (i : ℕ) (s : Standing) → i < length xs → s ≡ get_or xs i s → standing_of xs i ≡ s
at_of xs i s l e = get_or_default xs i Unmet s l ∙ sym e

pub index-requires-2 : goal.index-requires-2
index-requires-2 c = let h = noted_within c.in_ok-number.ensures.noted in let v = c.note.new.marks.ok.0 in omega arith

pub index_mut-requires : goal.index_mut-requires
index_mut-requires c = let h = noted_within c.in_ok-number.ensures.noted in let v = c.note.new.marks.ok.0 in omega arith

pub returns-then-is_passed : goal.returns-then-is_passed
returns-then-is_passed c =
    let old = c.args.self.now in
    let i = c.in_ok-number.number in
    let noted = c.in_ok-number.ensures.noted in
    let mid = c.note.new.marks.items in
    let new : Search = record { nodes = c.note.new.nodes; standings = c.note.new.marks; outputs = c.args.self.now.outputs; queue = c.args.self.now.queue } in
    let grows = grows_same c.args.self.now.outputs c.args.self.now.outputs refl in
    let y = text_of c.args.self.now.outputs c.args.from.now.output in
    let z = label c.args.output [] in
    let within = noted_within noted in
    let at : standing_of c.note.new.marks.items c.in_ok-number.number ≡ c.index.result.now = at_of c.note.new.marks.items c.in_ok-number.number c.index.result.now within c.index.ensures in
    let len : c.longer-length.result ≡ length (y ++ z) = c.longer-length.ensures ∙ ap (λ k. k + length (label c.args.output [])) c.requires.from.length ∙ sym (length-append y z) in
    let passes : Passes (standing_of c.note.new.marks.items c.in_ok-number.number) (c.args.from.now.weight + c.args.weight) c.longer-length.result = subst (λ s. Passes s (c.args.from.now.weight + c.args.weight) c.longer-length.result) (sym at) (c.if-is_passed.ensures.0 refl) in
    grown_passed old (record { nodes = c.note.new.nodes; standings = c.note.new.marks; outputs = c.args.self.now.outputs; queue = c.args.self.now.queue }) c.args.node i mid noted c.note.ensures.distinct c.requires.kept grows refl refl c.args.from.now.weight y c.args.weight z
    (passed_early old (record { nodes = c.note.new.nodes; standings = c.note.new.marks; outputs = c.args.self.now.outputs; queue = c.args.self.now.queue }) c.args.node i mid noted c.note.ensures.distinct c.requires.kept grows (c.args.from.now.weight + c.args.weight) c.longer-length.result (y ++ z) len passes)

pub is_under-requires-clause-best : goal.is_under-requires-clause-best
is_under-requires-clause-best c = λ b e.
    let noted = c.in_ok-number.ensures.noted in
    let within = noted_within noted in
    let at : standing_of c.note.new.marks.items c.in_ok-number.number ≡ c.index-2.result.now = at_of c.note.new.marks.items c.in_ok-number.number c.index-2.result.now within c.index-2.ensures in
    best_fits c.args.self.now (record { nodes = c.note.new.nodes; standings = c.note.new.marks; outputs = c.more.new.self; queue = c.args.self.now.queue }) c.args.node c.in_ok-number.number c.note.new.marks.items noted c.note.ensures.distinct c.requires.kept c.in_ok-output.ensures.grows b (at ∙ e)

pub returns-then-is_under : goal.returns-then-is_under
returns-then-is_under c =
    let old = c.args.self.now in
    let i = c.in_ok-number.number in
    let noted = c.in_ok-number.ensures.noted in
    let mid = c.note.new.marks.items in
    let more = c.in_ok-output.ensures in
    let y = text_of c.args.self.now.outputs c.args.from.now.output in
    let z = label c.args.output [] in
    let within = noted_within noted in
    let at : standing_of c.note.new.marks.items c.in_ok-number.number ≡ c.index-2.result.now = at_of c.note.new.marks.items c.in_ok-number.number c.index-2.result.now within c.index-2.ensures in
    let b = c.if-is_under.ensures refl in
    let below : Below b.0.weight (text_of c.more.new.self b.0.output) (c.args.from.now.weight + c.args.weight) (y ++ z) = subst (Below b.0.weight (text_of c.more.new.self b.0.output) (c.args.from.now.weight + c.args.weight)) more.text b.2 in
    grown_passed old (record { nodes = c.note.new.nodes; standings = c.note.new.marks; outputs = c.more.new.self; queue = c.args.self.now.queue }) c.args.node i mid noted c.note.ensures.distinct c.requires.kept more.grows refl refl c.args.from.now.weight y c.args.weight z (inr (b.0, at ∙ b.1, below))

pub push-requires-clause-heap : goal.push-requires-clause-heap
push-requires-clause-heap c = heap_grow c.args.self.now.outputs c.more.new.self c.in_ok-output.ensures.grows c.args.self.now.queue.items c.requires.kept.fits c.requires.kept.heap

pub returns : goal.returns
returns c =
    let old = c.args.self.now in
    let i = c.in_ok-number.number in
    let noted = c.in_ok-number.ensures.noted in
    let mid = c.note.new.marks.items in
    let more = c.in_ok-output.ensures in
    let y = text_of c.args.self.now.outputs c.args.from.now.output in
    let z = label c.args.output [] in
    let e : Entry = record { weight = c.args.from.now.weight + c.args.weight; length = c.longer-length.result; output = c.in_ok-output.output; node = c.in_ok-number.number } in
    let within = noted_within noted in
    let at : standing_of c.note.new.marks.items c.in_ok-number.number ≡ c.index.result.now = at_of c.note.new.marks.items c.in_ok-number.number c.index.result.now within c.index.ensures in
    let unsettled : standing_of c.note.new.marks.items c.in_ok-number.number ≢ Settled = λ h. false≢true (c.if-is_passed.ensures.1 (subst (λ s. Passes s (c.args.from.now.weight + c.args.weight) c.longer-length.result) (sym (sym at ∙ h)) tt)) in
    let len : c.longer-length.result ≡ length y + length z = c.longer-length.ensures ∙ ap (λ k. k + length (label c.args.output [])) c.requires.from.length in
    let fits : Fits c.more.new.self (record { weight = c.args.from.now.weight + c.args.weight; length = c.longer-length.result; output = c.in_ok-output.output; node = c.in_ok-number.number }) = entry_fits c.args.self.now.outputs c.more.new.self c.args.from.now.output c.longer-length.result c.in_ok-output.output z (record { weight = c.args.from.now.weight + c.args.weight; length = c.longer-length.result; output = c.in_ok-output.output; node = c.in_ok-number.number }) more.number more.text len refl refl in
    grown_pushed old (record { nodes = c.note.new.nodes; standings = with_item c.note.new.marks i (Met e); outputs = c.more.new.self; queue = c.push.new.entries }) c.args.node i mid noted c.note.ensures.distinct c.requires.kept more.grows e refl fits unsettled refl c.in_ok-push.ensures.added c.in_ok-push.ensures.heap c.args.from.now.weight y c.args.weight z refl more.text
