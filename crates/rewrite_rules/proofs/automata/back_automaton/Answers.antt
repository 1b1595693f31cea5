use Rattle.std.proofs.Common.{◌≡◌, ◌∷◌, ◌++◌, [], subst, ap, ◌∙◌}
use Rattle.weighted_relations.specs.Relations.{Same, AllOf}
use Rattle.weighted_relations.specs.Machines.{Reads}
use Rattle.acceptor_ops.specs.Tables.{Accepts}
use Rattle.rewrite_rules.proofs.Accepting.{back_texts}
use Rattle.rewrite_rules.proofs.automata.back_automaton.Goals as goal

pub returns : goal.returns
returns c =
    let fronts = c.in_ok-fronts.field-0 in
    let copy = c.in_ok-share_ends.field-0 in
    let any = c.in_ok-any_text.field-0 in
    let all = c.in_ok-all.all in
    let parts : c.deref.result.now ≡ fronts ∷ copy ∷ any ∷ [] =
    c.deref.ensures.value ∙ c.in_ok-push-3.ensures.items ∙ ap (λ r. r ++ any ∷ []) (c.in_ok-push-2.ensures.items ∙ ap (λ r. r ++ copy ∷ []) (c.in_ok-push.ensures.items ∙ ap (λ r. r ++ fronts ∷ []) c.new-parts.ensures.items)) in
    record {
      texts =
          back_texts (Reads c.args.tau.now) (Reads c.args.right.now) (Reads fronts) (Reads copy) (Reads any) (Reads all) (Accepts c.in_ok-d.d) c.in_ok-fronts.ensures.readings c.in_ok-share_ends.ensures.readings c.in_ok-any_text.ensures.readings
          (subst (λ v. Same (Reads all) (AllOf Reads v)) parts c.in_ok-all.ensures.readings) c.in_ok-d.ensures.strings;
    }
