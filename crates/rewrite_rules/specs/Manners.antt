-- A mode in the words for relations.
use Rattle.weighted_relations.specs.Rewriting.{Manner, obligatory, optional}
use Rattle.rewrite_rules.specs.declared.modes.RewriteMode.{RewriteMode}
use Rattle.rewrite_rules.specs.declared.modes.RewriteMode.TheVariants.{Obligatory, Optional}

abbrev pub manner_of : RewriteMode → Manner
manner_of Obligatory = obligatory
manner_of Optional = optional
