use Rattle.std.proofs.Common.{◌≡◌, ◌<◌, ◌+◌, ℕ, List, length, get_or, [], sym, ap, ◌∙◌, subst, arith, true≢false}
use Rattle.std.specs.Prelude.{slice_get}
use Rattle.std.proofs.lemmas.Option.{slice_get-get_or}
use Rattle.weighted_relations.specs.declared.Arc.{Arc}
use Rattle.weighted_relations.specs.Machines.{IsArc}
use Rattle.fst_core.specs.Reach.{FollowedTo}
use Rattle.fst_core.proofs.Searches.{follow_none, follow_skip, follow_more}
use Rattle.fst_core.proofs.search.Search.follow.Goals as goal
use Rattle.fst_core.proofs.search.Search.follow.Goals.{then-follows+in_ok-add, else-follows}

-- the arc that a row has at a place
arc_at : (arcs : List (List Arc)) (s k : ℕ) (row : List Arc) (d : Arc) → row ≡ get_or arcs s [] → k < length row → IsArc arcs s k (get_or row k d)
arc_at arcs s k row d e l = ap (λ r. slice_get r k) (sym e) ∙ slice_get-get_or row k d l

pub loop-arc-init : goal.loop-arc-init
loop-arc-init c = follow_none c.args.a.now c.args.which c.args.self.now c.args.s

pub add-requires : goal.add-requires
add-requires c =
    let d : Arc = record { input = 0; output = 0; weight = 0; next = 0 } in
    let at = arc_at c.args.a.now.arcs c.args.s c.loop-arc.arc-index c.arcs_of-arc-items.result.now d c.arcs_of-arc-items.ensures.value c.loop-arc-test.true in
    record { state = subst (λ m. (get_or c.arcs_of-arc-items.result.now c.loop-arc.arc-index d).next < m) (sym (c.loop-arc.invariant.same_size ∙ c.requires.size)) (c.arcs_of-arc-items.ensures.sound.arcs c.args.s c.loop-arc.arc-index _ at).next }

pub loop-arc-preserved : goal.loop-arc-preserved
loop-arc-preserved c =
    let d : Arc = record { input = 0; output = 0; weight = 0; next = 0 } in
    let at = arc_at c.args.a.now.arcs c.args.s c.loop-arc.arc-index c.arcs_of-arc-items.result.now d c.arcs_of-arc-items.ensures.value c.loop-arc-test.true in
    elim c.if-follows.branch [
      | then-follows+in_ok-add w ↦
          subst (FollowedTo c.args.a.now c.args.which c.args.self.now c.args.s (c.loop-arc.arc-index + 1)) (sym w.self-is)
          (follow_more c.args.a.now c.args.which c.args.self.now c.args.s c.loop-arc.arc-index c.loop-arc.self w.add.new.self _ c.loop-arc.invariant at (c.follows.ensures.0 w.if-follows.true) w.in_ok-add.ensures.added)
      | else-follows w ↦
          subst (FollowedTo c.args.a.now c.args.which c.args.self.now c.args.s (c.loop-arc.arc-index + 1)) (sym w.self-is)
          (follow_skip c.args.a.now c.args.which c.args.self.now c.args.s c.loop-arc.arc-index c.loop-arc.self _ c.loop-arc.invariant at (λ h. absurd (true≢false (sym (c.follows.ensures.1 h) ∙ w.if-follows.false))))
    ]

pub returns : goal.returns
returns c =
    let e : c.loop-arc.arc-index ≡ length (get_or c.args.a.now.arcs c.args.s []) = (let l : length c.arcs_of-arc-items.result.now ≡ length (get_or c.args.a.now.arcs c.args.s []) = ap length c.arcs_of-arc-items.ensures.value in omega arith) in
    subst (λ k. FollowedTo c.args.a.now c.args.which c.args.self.now c.args.s k c.loop-arc.self) e c.loop-arc.invariant
