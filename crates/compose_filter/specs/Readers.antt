-- The arcs that read a label.
use Rattle.std.specs.Prelude.{◌≡◌, ◌==◌, ℕ, ◌+◌, ◌<◌, ◌^◌, List, All}
use Rattle.std.specs.List.{Contains, filter}
use Rattle.weighted_relations.specs.declared.Arc.{Arc}

-- arcs of the row, among which are all that read the label
pub record AreReaders (label : ℕ) (row part : List Arc) : Type 0 where
  pub same : filter (λ y. y.input == label) part ≡ filter (λ y. y.input == label) row
  pub within : All (Contains row) part

-- the weights of each arc on the left and each arc of the row can be added
abbrev pub Fit : List Arc → List Arc → Type 0
Fit left row = All (λ (x : Arc). All (λ (y : Arc). x.weight + y.weight < 2 ^ 64) row) left
