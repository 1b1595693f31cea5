-- Nodes of expressions by the rules on kinds and sizes.
use Rattle.std.specs.Prelude.{ℕ, ◌-◌, nat_lt, List, [], ◌∷◌, ◌++◌, replicate, if◌then◌else◌}
use Rattle.weighted_relations.specs.Rewriting.{Manner}
use Rattle.weighted_relations.specs.Expressions.{Expression, text, union, concat, star, cross, minus, rewrite, members, size, is_acceptor, is_weighted, is_marked}
use Rattle.checked_expressions.specs.Sound.{are_labels}
use Rattle.checked_expressions.specs.declared.fault.KindFault.{KindFault}
use Rattle.checked_expressions.specs.declared.fault.KindFault.TheVariants.{NotAcceptor, IsWeighted, Unsupported, TooLarge}

-- an expression that meets the rules, or what it breaks first
pub data Checked : Type 0 where
  unfit : KindFault → Checked
  fit : Expression → Checked

-- within the limit of sizes
abbrev pub sized : Expression → Checked
sized e = if nat_lt (size e) 4194304 then fit e else unfit TooLarge

-- the rest, where the expression is an acceptor
abbrev pub accepting : Expression → Checked → Checked
accepting e rest = if is_acceptor e then rest else unfit NotAcceptor

-- the rest, where the expression has no weights
abbrev pub unweighted : Expression → Checked → Checked
unweighted e rest = if is_weighted e then unfit IsWeighted else rest

-- the rest, where the expression holds no mark
abbrev pub unmarked : Expression → Checked → Checked
unmarked e rest = if is_marked e then unfit Unsupported else rest

-- a text; of other labels than 1 to 257, which no file has, there is none
abbrev pub text_of : List ℕ → Checked
text_of labels = if are_labels labels then sized (text labels) else unfit Unsupported

abbrev pub cross_of : Expression → Expression → Checked
cross_of a b = accepting a (accepting b (sized (cross a b)))

abbrev pub minus_of : Expression → Expression → Checked
minus_of a b = accepting a (accepting b (unweighted b (sized (minus a b))))

abbrev pub rewrite_of : Manner → Expression → Expression → Expression → Expression → Checked
rewrite_of manner tau left right sigma =
    accepting left (unweighted left (accepting right (unweighted right (accepting sigma (unweighted sigma
    (unmarked tau (unmarked sigma (sized (rewrite tau left right sigma manner)))))))))

-- once or more
abbrev pub plus : Expression → Expression
plus e = concat (members (e ∷ star e ∷ []))

-- once or not at all
abbrev pub maybe : Expression → Expression
maybe e = union (members (text [] ∷ e ∷ []))

-- at least m times and at most n times
abbrev pub times : Expression → ℕ → ℕ → Expression
times e m n = concat (members (replicate m e ++ replicate (n - m) (maybe e)))
