-- What a search gains by following edges, one after another.
use Rattle.std.proofs.Common.{◌⊎◌, ◌↔◌, ℕ, List}
use Rattle.least_path.specs.declared.node.Node.{Node}
use Rattle.least_path.specs.Growths.{Leading}

-- From a first to a second value of a search these edges are followed; such steps join, and the edges may be said by other words.
pub record IsGrowth {S : Type 0} (G : S → S → Leading → Type 0) : Type 1 where
  pub joins : (a b c : S) (D1 D2 D : Leading) → G a b D1 → G b c D2 → ((n : Node) (u : ℕ) (z : List ℕ) → D n u z → D1 n u z ⊎ D2 n u z) → ((n : Node) (u : ℕ) (z : List ℕ) → D1 n u z → D n u z) → ((n : Node) (u : ℕ) (z : List ℕ) → D2 n u z → D n u z) → G a c D
  pub says : (a b : S) (D E : Leading) → G a b D → ((n : Node) (u : ℕ) (z : List ℕ) → E n u z ↔ D n u z) → G a b E
