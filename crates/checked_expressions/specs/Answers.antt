-- What the making of an expression answers.
use Rattle.std.specs.Prelude.{◌≡◌, Result, Ok, Err}
use Rattle.std.specs.declared.alloc.Global.{Global}
use Rattle.std.specs.declared.rc.Rc.{Rc}
use Rattle.weighted_relations.specs.Expressions.{Expression}
use Rattle.core_expressions.specs.Views.{expression_of}
use Rattle.checked_expressions.specs.Nodes.{Checked, unfit, fit}
use Rattle.checked_expressions.specs.declared.fault.CheckFault.{CheckFault}
use Rattle.checked_expressions.specs.declared.fault.CheckFault.TheVariants.{Refused, Memory}
use Rattle.checked_expressions.specs.declared.value.Value.{Value}

-- the expression of a value that may be shared
abbrev pub shared_of : Rc Value Global → Expression
shared_of v = expression_of v.value.expr

-- the answer is what is checked, unless memory is wanting
abbrev pub Makes : Result (Rc Value Global) CheckFault → Checked → Type 0
Makes (Ok v) c = c ≡ fit (shared_of v)
Makes (Err (Refused fault)) c = c ≡ unfit fault
Makes (Err Memory) c = Unit {0}
