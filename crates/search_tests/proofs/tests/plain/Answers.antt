use Rattle.std.proofs.Common.{ℕ, List, sym, ◌∙◌}
use Rattle.std.proofs.lemmas.Result.{IfOk-weaker}
use Rattle.weighted_relations.specs.Relations.{Is, IsAcceptor}
use Rattle.weighted_relations.specs.Machines.{Reads}
use Rattle.weighted_relations.specs.RelationLaws.{same_acceptor}
use Rattle.search_tests.proofs.tests.plain.Goals as goal

is_acceptor : (labels : List ℕ) → IsAcceptor (Is labels)
is_acceptor labels x y w h = h.input ∙ sym h.output

pub returns : goal.returns
returns c = IfOk-weaker c.text.result _ _ (λ m f. same_acceptor (Reads m) (Is c.deref.result.now) f (is_acceptor c.deref.result.now)) c.text.ensures.readings
