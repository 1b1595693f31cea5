use Rattle.std.proofs.Common.{◌<◌, ℕ, get_or}
use Rattle.weighted_relations.specs.declared.Arc.{Arc}
use Rattle.search_tests.proofs.Marks.{IsPlain, ArePlain}
use Rattle.search_tests.proofs.tests.has_no_mark.Given as goal

abbrev pub invariant-loop-state : goal.invariant-loop-state
invariant-loop-state l = ArePlain l.rule l.state

abbrev pub invariant-loop-arc : goal.invariant-loop-arc
invariant-loop-arc l = record { above : ArePlain l.rule l.state; here : (k : ℕ) (d : Arc) → k < l.arc-index → IsPlain (get_or l.arc-items k d) }
