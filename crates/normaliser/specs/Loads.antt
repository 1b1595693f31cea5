-- What a normaliser is to contracts, and which rules none is made of.
use Rattle.std.specs.Prelude.{◌≡◌, ◌<◌, ℕ, List, Some, slice_get, false}
use Rattle.weighted_relations.specs.Expressions.{Expression, IsSound, is_marked}
use Rattle.weighted_relations.specs.Relations.{Relation}
use Rattle.grammar_build.specs.Empties.{RewritesEmptyText}
use Rattle.shared_cascade.specs.Callers.{cascades_in}
use Rattle.normaliser.specs.Cascades.{relation_at}
use Rattle.normaliser.specs.declared.faults.LoadFault.{LoadFault}
use Rattle.normaliser.specs.declared.faults.LoadFault.TheVariants.{RewritesEmpty, Memory}
use Rattle.normaliser.specs.declared.normalisers.Normaliser.{Normaliser}

-- the relation of the classifier, and of the verbaliser
abbrev pub classifier_of : Normaliser → Relation
classifier_of n = relation_at 0 (cascades_in n.shared)

abbrev pub verbaliser_of : Normaliser → Relation
verbaliser_of n = relation_at 1 (cascades_in n.shared)

-- an expression that a transducer can be built for
pub record CanBeBuilt (e : Expression) : Type 0 where
  pub sound : IsSound e
  pub unmarked : is_marked e ≡ false

-- the number of the first of the rules of which a rewrite may read the empty text
pub record IsFirstEmpty (es : List Expression) (rule : ℕ) : Type 0 where
  pub expression : Expression
  pub there : slice_get es rule ≡ Some expression
  pub empty : RewritesEmptyText expression
  pub first : (k : ℕ) (e : Expression) → k < rule → slice_get es k ≡ Some e → RewritesEmptyText e → ⊥

-- there is none
abbrev pub NoneRewritesEmpty : List Expression → Type 0
NoneRewritesEmpty es = (k : ℕ) (e : Expression) → slice_get es k ≡ Some e → RewritesEmptyText e → ⊥

-- the cause of a fault; want of memory has none
abbrev pub IsLoadFault : List Expression → LoadFault → Type 0
IsLoadFault es (RewritesEmpty rule) = IsFirstEmpty es rule
IsLoadFault es Memory = Unit {0}
