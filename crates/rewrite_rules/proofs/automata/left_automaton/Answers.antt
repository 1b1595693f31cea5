use Rattle.std.proofs.Common.{◌≡◌, ◌∷◌, ◌++◌, [], subst, ap, ◌∙◌}
use Rattle.weighted_relations.specs.Relations.{Same, AllOf}
use Rattle.weighted_relations.specs.Machines.{Reads}
use Rattle.acceptor_ops.specs.Tables.{Accepts}
use Rattle.rewrite_rules.proofs.Accepting.{left_texts}
use Rattle.rewrite_rules.proofs.automata.left_automaton.Goals as goal

pub returns : goal.returns
returns c =
    let any = c.in_ok-any_text.field-0 in
    let copy = c.in_ok-trim.field-0 in
    let all = c.in_ok-all.all in
    let parts : c.deref.result.now ≡ any ∷ copy ∷ [] =
    c.deref.ensures.value ∙ c.in_ok-push-2.ensures.items ∙ ap (λ r. r ++ copy ∷ []) (c.in_ok-push.ensures.items ∙ ap (λ r. r ++ any ∷ []) c.new-parts.ensures.items) in
    record {
      texts =
          left_texts (Reads c.args.left.now) (Reads any) (Reads copy) (Accepts c.in_ok-d.d) (Reads all) c.in_ok-any_text.ensures.readings c.in_ok-trim.ensures.readings
          (subst (λ v. Same (Reads all) (AllOf Reads v)) parts c.in_ok-all.ensures.readings) c.in_ok-d.ensures.strings;
    }
