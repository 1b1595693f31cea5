use Rattle.std.proofs.Common.{IfSome, Option, subst}
use Rattle.std.proofs.lemmas.Result.{IfOk-weaker}
use Rattle.weighted_relations.specs.Machines.{Machine, Reads}
use Rattle.weighted_relations.specs.RelationLaws.{same_trans}
use Rattle.weighted_relations.specs.Relations.{Same}
use Rattle.normaliser.proofs.preparing.reading_early.Goals as goal

pub returns-in-Some : goal.returns-in-Some
returns-in-Some c =
    let early = subst (λ (found : Option Machine). IfSome found (λ m. Same (Reads m) (Reads c.args.fst))) c.in-Some.is c.in_ok-early.ensures.readings in
    IfOk-weaker c.merged.result _ _ (λ m f. same_trans (Reads m) (Reads c.in-Some.early) (Reads c.args.fst) f early) c.merged.ensures
