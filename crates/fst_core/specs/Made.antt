-- The machine of a transducer's parts.
use Rattle.std.specs.Prelude.{◌≡◌, ◌<◌, ◌^◌, ℕ, List, map, length, Option, IfSome, All, Vec}
use Rattle.std.specs.declared.alloc.Global.{Global}
use Rattle.weighted_relations.specs.declared.Arc.{Arc}
use Rattle.weighted_relations.specs.Machines.{Machine, ArcFits}

abbrev pub machine : ℕ → Vec (Vec Arc Global) Global → Vec (Option ℕ) Global → Machine
machine start arcs finals = record { start = start; arcs = map (λ row. row.items) arcs.items; finals = finals.items }

-- what a check of the parts looks at
pub record PartsFit (from : ℕ) (arcs : List (Vec Arc Global)) (finals : List (Option ℕ)) : Type 0 where
  pub even : length finals ≡ length arcs
  pub start : from < length arcs
  pub rows : All (λ row. All (ArcFits (length arcs)) row.items) arcs
  pub ends : All (λ last. IfSome last (λ w. w < 2 ^ 54)) finals
