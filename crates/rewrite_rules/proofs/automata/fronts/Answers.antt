use Rattle.std.proofs.Common.{◌≡◌, ◌∷◌, ◌++◌, [], subst, ap, ◌∙◌}
use Rattle.weighted_relations.specs.Relations.{Same, AnyOf}
use Rattle.weighted_relations.specs.RelationLaws.{same_trans}
use Rattle.weighted_relations.specs.Machines.{Reads}
use Rattle.rewrite_rules.specs.Languages.{Heads}
use Rattle.rewrite_rules.proofs.Accepting.{fronts_same}
use Rattle.rewrite_rules.proofs.automata.fronts.Goals as goal

pub returns : goal.returns
returns c =
    let heads = c.in_ok-heads.heads in
    let shared = c.in_ok-share_ends.field-0 in
    let mark = c.in_ok-text.field-0 in
    let parts : c.deref.result.now ≡ shared ∷ mark ∷ [] =
    c.deref.ensures.value ∙ c.in_ok-push-2.ensures.items ∙ ap (λ r. r ++ mark ∷ []) (c.in_ok-push.ensures.items ∙ ap (λ r. r ++ shared ∷ []) c.new-parts.ensures.items) in
    record {
      readings =
          fronts_same (Reads c.args.tau.now) (Reads shared) (Reads mark) (Reads c.in_ok-m.m) (same_trans (Reads shared) (Reads heads) (Heads (Reads c.args.tau.now)) c.in_ok-share_ends.ensures.readings c.in_ok-heads.ensures.readings) c.in_ok-text.ensures.readings
          (subst (λ v. Same (Reads c.in_ok-m.m) (AnyOf Reads v)) parts c.in_ok-m.ensures.readings);
    }
