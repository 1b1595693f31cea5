use Rattle.std.proofs.Common.{◌≡◌, ◌<◌, ◌+◌, ◌++◌, ◌∷◌, ℕ, List, [], Some, length, get_or, refl, sym, ap, ◌∙◌, subst, length-append, arith, inl, inr}
use Rattle.std.specs.Vec.{with_item}
use Rattle.std.proofs.lemmas.Bool.{false≢true}
use Rattle.std.proofs.lemmas.List.{get_or_default}
use Rattle.std.proofs.lemmas.List.Elements.{All-cons}
use Rattle.std.proofs.lemmas.List.Sorted.{All-permutation, Contains-permutation}
use Rattle.std.proofs.lemmas.Option.{slice_get_within}
use Rattle.weighted_relations.specs.Graphs.{label}
use Rattle.weighted_relations.specs.Least.{Below}
use Rattle.weighted_relations.specs.Order.{below_total}
use Rattle.weighted_relations.specs.SearchRunLaws.{contains_first, contains_later}
use Rattle.least_path.specs.declared.queue.Entry.{Entry}
use Rattle.least_path.specs.declared.marks.Mark.{Mark}
use Rattle.least_path.specs.declared.marks.Mark.TheVariants.{Unmet, Waiting}
use Rattle.least_path.specs.declared.relaxing.Relaxed.{Relaxed}
use Rattle.least_path.specs.Texts.{text_of}
use Rattle.least_path.specs.Waiting.{Before, Fits}
use Rattle.least_path.specs.Marks.{mark_of, best_of}
use Rattle.least_path.proofs.Letters.{grows_same}
use Rattle.least_path.proofs.Noting.{noted_same, noted_within}
use Rattle.least_path.proofs.Waiters.{entry_fits}
use Rattle.least_path.proofs.Meeting.{best_fits, shorter_below, places_grow, gained_passed, gained_better}
use Rattle.least_path.proofs.relaxing.Relaxed.relax.Goals as goal

at_of : (xs : List Mark) (i : ℕ) (s : Mark) → i < length xs → s ≡ get_or xs i s → mark_of xs i ≡ s
at_of xs i s l e = get_or_default xs i Unmet s l ∙ sym e

pub index-requires-2 : goal.index-requires-2
index-requires-2 c = let h = noted_within c.in_ok-number.ensures.noted in let v = c.meet.new.marks.ok.0 in omega arith

pub index-requires-3 : goal.index-requires-3
index-requires-3 c = let h = noted_within c.in_ok-number.ensures.noted in let v = c.meet.new.marks.ok.0 in omega arith

pub index_mut-requires : goal.index_mut-requires
index_mut-requires c = let h = noted_within c.in_ok-number.ensures.noted in let v = c.meet.new.marks.ok.0 in omega arith

pub returns-then-is_shorter : goal.returns-then-is_shorter
returns-then-is_shorter c =
    let noted = c.in_ok-number.ensures.noted in
    let i = c.in_ok-number.number in
    let mid = c.meet.new.marks.items in
    let new : Relaxed = record { nodes = c.meet.new.nodes; marks = c.meet.new.marks; outputs = c.args.self.now.outputs; lists = c.args.self.now.lists } in
    let grows = grows_same c.args.self.now.outputs c.args.self.now.outputs refl in
    let y = text_of c.args.self.now.outputs c.args.from.now.output in
    let z = label c.args.output [] in
    let at : mark_of c.meet.new.marks.items c.in_ok-number.number ≡ c.index.result.now = at_of mid i c.index.result.now (noted_within noted) c.index.ensures in
    let len : c.longer-length.result ≡ length (y ++ z) = c.longer-length.ensures ∙ ap (λ k. k + length (label c.args.output [])) c.requires.from.length ∙ sym (length-append y z) in
    let b = c.if-is_shorter.ensures refl in
    let best = ap best_of at ∙ b.1 in
    gained_passed c.args.self.now new c.args.node i mid noted c.meet.ensures.one_end c.requires.kept grows refl refl c.args.from.now.weight y c.args.weight z b.0 best
    (shorter_below c.args.self.now new c.args.node i mid noted c.meet.ensures.one_end c.requires.kept grows (c.args.from.now.weight + c.args.weight) c.longer-length.result (y ++ z) len b.0 best b.2)

pub is_no_greater-requires-clause-best : goal.is_no_greater-requires-clause-best
is_no_greater-requires-clause-best c = λ b e.
    let noted = c.in_ok-number.ensures.noted in
    let new : Relaxed = record { nodes = c.meet.new.nodes; marks = c.meet.new.marks; outputs = c.more.new.self; lists = c.args.self.now.lists } in
    let at : mark_of c.meet.new.marks.items c.in_ok-number.number ≡ c.index-2.result.now = at_of c.meet.new.marks.items c.in_ok-number.number c.index-2.result.now (noted_within noted) c.index-2.ensures in
    best_fits c.args.self.now new c.args.node c.in_ok-number.number c.meet.new.marks.items noted c.meet.ensures.one_end c.requires.kept c.in_ok-output.ensures.grows b (ap best_of at ∙ e)

pub returns-then-is_no_greater : goal.returns-then-is_no_greater
returns-then-is_no_greater c =
    let noted = c.in_ok-number.ensures.noted in
    let i = c.in_ok-number.number in
    let mid = c.meet.new.marks.items in
    let new : Relaxed = record { nodes = c.meet.new.nodes; marks = c.meet.new.marks; outputs = c.more.new.self; lists = c.args.self.now.lists } in
    let more = c.in_ok-output.ensures in
    let y = text_of c.args.self.now.outputs c.args.from.now.output in
    let z = label c.args.output [] in
    let at : mark_of c.meet.new.marks.items c.in_ok-number.number ≡ c.index-2.result.now = at_of mid i c.index-2.result.now (noted_within noted) c.index-2.ensures in
    let b = c.if-is_no_greater.ensures.0 refl in
    let below : Below b.0.weight (text_of c.more.new.self b.0.output) (c.args.from.now.weight + c.args.weight) (y ++ z) = subst (Below b.0.weight (text_of c.more.new.self b.0.output) (c.args.from.now.weight + c.args.weight)) more.text b.2 in
    gained_passed c.args.self.now new c.args.node i mid noted c.meet.ensures.one_end c.requires.kept more.grows refl refl c.args.from.now.weight y c.args.weight z b.0 (ap best_of at ∙ b.1) below

-- A way that is not below another is no less.
not_below : (t : Mark) (all : List (List ℕ)) (e : Entry) → ((b : Entry) × (best_of t ≡ Some b) × Before all b e → ⊥) → (b : Entry) → best_of t ≡ Some b → Before all e b
not_below t all e never b h = elim (below_total e.weight b.weight (text_of all e.output) (text_of all b.output)) [ inl k ↦ k | inr k ↦ absurd (never (b, h, k)) ]

pub returns-then-is_listed : goal.returns-then-is_listed
returns-then-is_listed c =
    let noted = c.in_ok-number.ensures.noted in
    let i = c.in_ok-number.number in
    let mid = c.meet.new.marks.items in
    let more = c.in_ok-output.ensures in
    let y = text_of c.args.self.now.outputs c.args.from.now.output in
    let z = label c.args.output [] in
    let e : Entry = record { weight = c.args.from.now.weight + c.args.weight; length = c.longer-length.result; output = c.in_ok-output.output; node = c.in_ok-number.number } in
    let new : Relaxed = record { nodes = c.meet.new.nodes; marks = with_item c.meet.new.marks i (Waiting e); outputs = c.more.new.self; lists = c.args.self.now.lists } in
    let at : mark_of c.meet.new.marks.items c.in_ok-number.number ≡ c.index-2.result.now = at_of mid i c.index-2.result.now (noted_within noted) c.index-2.ensures in
    let at' : mark_of c.meet.new.marks.items c.in_ok-number.number ≡ c.index-3.result.now = at_of mid i c.index-3.result.now (noted_within noted) c.index-3.ensures in
    let len : c.longer-length.result ≡ length y + length z = c.longer-length.ensures ∙ ap (λ k. k + length (label c.args.output [])) c.requires.from.length in
    let fits : Fits c.more.new.self e = entry_fits c.args.self.now.outputs c.more.new.self c.args.from.now.output c.longer-length.result c.in_ok-output.output z e more.number more.text len refl refl in
    let waits = c.is_waiting-is_listed.ensures.0 c.if-is_listed.true in
    gained_better c.args.self.now new c.args.node i mid noted c.meet.ensures.one_end c.requires.kept more.grows e fits refl
    (places_grow c.args.self.now new c.args.node i mid noted c.meet.ensures.one_end c.requires.kept more.grows)
    (λ k h. h)
    (inr (waits.0, sym (noted_same noted i) ∙ at' ∙ waits.1))
    c.args.from.now.weight y c.args.weight z refl more.text
    (λ b h. not_below c.index-2.result.now c.more.new.self e (λ k. false≢true (c.if-is_no_greater.ensures.1 k)) b (sym (ap best_of at) ∙ h))

pub returns : goal.returns
returns c =
    let noted = c.in_ok-number.ensures.noted in
    let i = c.in_ok-number.number in
    let mid = c.meet.new.marks.items in
    let more = c.in_ok-output.ensures in
    let put = c.in_ok-put.ensures in
    let old = c.args.self.now.lists in
    let y = text_of c.args.self.now.outputs c.args.from.now.output in
    let z = label c.args.output [] in
    let e : Entry = record { weight = c.args.from.now.weight + c.args.weight; length = c.longer-length.result; output = c.in_ok-output.output; node = c.in_ok-number.number } in
    let new : Relaxed = record { nodes = c.meet.new.nodes; marks = with_item c.meet.new.marks i (Waiting e); outputs = c.more.new.self; lists = c.put.new.self } in
    let at : mark_of c.meet.new.marks.items c.in_ok-number.number ≡ c.index-2.result.now = at_of mid i c.index-2.result.now (noted_within noted) c.index-2.ensures in
    let len : c.longer-length.result ≡ length y + length z = c.longer-length.ensures ∙ ap (λ k. k + length (label c.args.output [])) c.requires.from.length in
    let fits : Fits c.more.new.self e = entry_fits c.args.self.now.outputs c.more.new.self c.args.from.now.output c.longer-length.result c.in_ok-output.output z e more.number more.text len refl refl in
    let place : i < length c.meet.new.nodes = slice_get_within c.meet.new.nodes i c.args.node noted.number in
    gained_better c.args.self.now new c.args.node i mid noted c.meet.ensures.one_end c.requires.kept more.grows e fits refl
    (All-permutation (λ k. k < length c.meet.new.nodes) (i ∷ old) c.put.new.self put (All-cons (λ k. k < length c.meet.new.nodes) i old place (places_grow c.args.self.now new c.args.node i mid noted c.meet.ensures.one_end c.requires.kept more.grows)))
    (λ k h. Contains-permutation (i ∷ old) c.put.new.self k put (contains_later i old k h))
    (inl (Contains-permutation (i ∷ old) c.put.new.self i put (contains_first i old)))
    c.args.from.now.weight y c.args.weight z refl more.text
    (λ b h. not_below c.index-2.result.now c.more.new.self e (λ k. false≢true (c.if-is_no_greater.ensures.1 k)) b (sym (ap best_of at) ∙ h))
