-- The ways of a search that lead on to the end.
use Rattle.std.proofs.Common.{◌⊎◌, ℕ, ◌+◌, List, [], ◌++◌, Some, None, inl, inr}
use Rattle.weighted_relations.specs.Searches.{Edges, Entries, Reach, here, on, Under}
use Rattle.weighted_relations.specs.Machines.{Machine}
use Rattle.state_tuples.specs.Cascades.{Cascaded, tuple_graph}
use Rattle.least_path.specs.declared.node.Node.{Node}
use Rattle.least_path.specs.declared.node.Node.TheVariants.{At, End}
use Rattle.least_path.specs.Growths.{Steps}
use Rattle.least_path.specs.Ending.{CanEnd}
use Rattle.least_path.proofs.Products.{says}

module _ (m : Machine) (c : Cascaded) where
  -- steps to nodes that lead on to the end, and entries of such nodes
  abbrev pub StepsOn : Edges Node
  StepsOn n o u z = Steps m c n o u z × CanEnd m c o

  abbrev pub Ending : Entries Node → Entries Node
  Ending F n w y = F n w y × CanEnd m c n

  before_step : (n o : Node) (u : ℕ) (z : List ℕ) → Steps m c n o u z → CanEnd m c o → CanEnd m c n
  before_step End o u z e l = absurd e
  before_step (At q t) End u z e l = ([] ++ z, 0 + u, says m (tuple_graph c) q t (on {n = Some (q, t)} {m = None} here e))
  before_step (At q t) (At r v) u z e l =
      (([] ++ z) ++ l.0, (0 + u) + l.1, says m (tuple_graph c) q t (on {n = Some (q, t)} {m = Some (r, v)} here e) l.2.input l.0 l.1 l.2.accepts l.2.reads)

  -- a way to such a node comes by such nodes alone
  pub reach_from : {n o : Node} {w : ℕ} {y : List ℕ} → Reach (Steps m c) n o w y → CanEnd m c o → CanEnd m c n
  reach_from here l = l
  reach_from (on {n} {m = o} {u} {z} way edge) l = reach_from way (before_step n o u z edge l)

  pub reach_on : {n o : Node} {w : ℕ} {y : List ℕ} → Reach (Steps m c) n o w y → CanEnd m c o → Reach StepsOn n o w y
  reach_on here l = here
  reach_on (on {n} {m = o} {u} {z} way edge) l = on (reach_on way (before_step n o u z edge l)) (edge, l)

  pub ending_cases : (F G : Entries Node) (n : Node) (w : ℕ) (y : List ℕ) → CanEnd m c n → Under F n w y ⊎ Under G n w y → Under (Ending F) n w y ⊎ Under (Ending G) n w y
  ending_cases F G n w y l (inl u) = inl (record { weight = u.weight; output = u.output; entry = (u.entry, l); below = u.below })
  ending_cases F G n w y l (inr u) = inr (record { weight = u.weight; output = u.output; entry = (u.entry, l); below = u.below })
