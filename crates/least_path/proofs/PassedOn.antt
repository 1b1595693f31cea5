-- What a search passes over, on ways that lead on to the end.
use Rattle.std.proofs.Common.{◌≡◌, ◌≤◌, ℕ, suc, ◌+◌, ◌*◌, ◌^◌, List, ◌++◌, length, arith, inl, inr, length-append}
use Rattle.weighted_relations.specs.Machines.{Machine, WellFormed}
use Rattle.weighted_relations.specs.Searches.{Reach}
use Rattle.state_tuples.specs.Cascades.{Cascaded, tuple_graph}
use Rattle.state_tuples.specs.Bounds.{IsClosed}
use Rattle.least_path.specs.declared.node.Node.{Node}
use Rattle.least_path.specs.declared.node.Node.TheVariants.{At, End}
use Rattle.least_path.specs.Growths.{Steps}
use Rattle.least_path.specs.Ending.{CanEnd}
use Rattle.least_path.specs.Passing.{IsOnly, Passed, none, then}
use Rattle.least_path.proofs.Products.{reads_are_ways}
use Rattle.least_path.proofs.Onward.{StepsOn, reach_from}
use Rattle.least_path.proofs.Passing.{reach_by}
use Rattle.least_path.proofs.Rounds.{Known, from_joint, step_fits}

module _ (m : Machine) (c : Cascaded) where
  -- what one edge alone leads to leads on to the end, where the node does
  only_on : (n o : Node) (u : ℕ) (z : List ℕ) → IsOnly (Steps m c) n o u z → CanEnd m c n → CanEnd m c o
  only_on End o u z only l = absurd only.edge
  only_on (At q t) o u z only l =
      let way : Reach (Steps m c) (At q t) End l.1 l.0 = from_joint m c ((reads_are_ways m (tuple_graph c) q t l.0 l.1).0 l.2) in
      elim (reach_by (Steps m c) only way) [
        | inl e ↦ absurd (cc)
        | inr h ↦ reach_from m c h.2 tt
      ]

  pub passed_on : {k : ℕ} {n o : Node} {w : ℕ} {y : List ℕ} → Passed (Steps m c) k n o w y → CanEnd m c n → Passed (StepsOn m c) k n o w y × CanEnd m c o
  passed_on none l = (none, l)
  passed_on (then {n} {p} {u} {z} first rest) l =
      let next = only_on n p u z first l in
      let r = passed_on rest next in
      (then (record { edge = (first.edge, next); alone = λ q v x e. first.alone q v x e.0 }) r.0, r.1)

-- a node that is come to by so many edges, each of which adds less than 2 ^ 56 to a weight, and at most one label to an output
pub record PassedFits (m : Machine) (c : Cascaded) (k : ℕ) (n : Node) (w : ℕ) (y : List ℕ) : Type 0 where
  pub known : Known m c n
  pub light : w ≤ k * 2 ^ 56
  pub short : length y ≤ k

module _ (m : Machine) (c : Cascaded) (wf : WellFormed m) (closed : IsClosed c) where
  pub passed_fits : {k : ℕ} {n o : Node} {w : ℕ} {y : List ℕ} → Passed (Steps m c) k n o w y → Known m c n → PassedFits m c k o w y
  passed_fits none h = record { known = h; light = omega arith; short = omega arith }
  passed_fits (then {n = End} first rest) h = absurd first.edge
  passed_fits (then {k} {n = At q t} {p} {u} {w} {z} {y} first rest) h =
      let f = step_fits m c wf closed q t h p u z first.edge in
      let r = passed_fits rest f.known in
      record {
        known = r.known;
        light = (let a = f.light in let b = r.light in omega arith);
        short = (let a = f.short in let b = r.short in let e = length-append z y in omega arith);
      }
