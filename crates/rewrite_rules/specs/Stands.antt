-- What the parts of the machine say of texts.
use Rattle.std.specs.Prelude.{◌≡◌, ◌<◌, ◌↔◌, ℕ, List, ◌∷◌, [], ◌++◌, IsTrue, All}
use Rattle.weighted_relations.specs.Relations.{Relation, Accepts, IsInput, IsByte}
use Rattle.weighted_relations.specs.Machines.{Reads}
use Rattle.weighted_relations.specs.Rewriting.{EndsIn, StartsWith}
use Rattle.rewrite_rules.specs.Gaps.{HasRoom}
use Rattle.rewrite_rules.specs.Bimachine.{Parts, run, behind}
use Rattle.rewrite_rules.specs.declared.spots.Gap.{Gap}

-- labels that are no marks
abbrev pub IsPlain : List ℕ → Type 0
IsPlain x = All IsByte x

-- what the unread text alone says of a rewrite that begins
pub record Ahead (tau right : Relation) (g : Gap) (r : List ℕ) : Type 0 where
  pub u : List ℕ
  pub t : List ℕ
  pub parts : r ≡ u ++ t
  pub input : IsInput tau u
  pub room : HasRoom g u
  pub starts : StartsWith right (t ++ 257 ∷ [])

pub record Stands (p : Parts) (L R S : Relation) : Type 0 where
  pub sigma : (x : List ℕ) → IsPlain x → IsTrue (p.sigma_accepts (run p.sigma_step p.sigma_start x)) ↔ Accepts S x
  pub sigma_live : (s : ℕ) (x : List ℕ) → IsPlain x → IsTrue (p.sigma_accepts (run p.sigma_step s x)) → IsTrue (p.sigma_live s)
  pub sigma_plain : (x : List ℕ) → Accepts S x → IsPlain x
  pub tau_input : (u v : List ℕ) (w : ℕ) → Reads p.tau u v w → IsPlain u
  pub tau_output : (u v : List ℕ) (w : ℕ) → Reads p.tau u v w → IsPlain v
  pub left : (o : List ℕ) → IsPlain o → IsTrue (p.left_accepts (run p.left_step p.left_start o)) ↔ EndsIn L (256 ∷ o)
  pub right : (r : List ℕ) → IsPlain r → IsTrue (p.right_accepts (behind p r)) ↔ StartsWith R (r ++ 257 ∷ [])
  pub begins : (g : Gap) (r : List ℕ) → IsPlain r → IsTrue (p.may_begin g (behind p r)) ↔ Ahead (Reads p.tau) R g r
  pub within : (r : List ℕ) → IsPlain r → behind p r < p.back_count
