use Rattle.std.proofs.Common.{◌≡◌, ◌∷◌, ◌++◌, [], ap, ◌∙◌}
use Rattle.state_tuples.specs.Cascades.{Cascaded, first_tuple}
use Rattle.search_tests.proofs.Ones.{two_write}
use Rattle.search_tests.proofs.tests.cascade_of_two.Goals as goal

pub returns : goal.returns
returns c =
    let one = c.in_ok-push.ensures.items ∙ ap (λ ms. ms ++ c.args.first ∷ []) c.new-parts.ensures.items in
    let parts : c.in_ok-cascade.cascade.parts ≡ c.args.first ∷ c.args.second ∷ [] = ap (λ (d : Cascaded). d.parts) c.in_ok-cascade.ensures.value ∙ c.in_ok-push-2.ensures.items ∙ ap (λ ms. ms ++ c.args.second ∷ []) one in
    two_write c.args.first c.args.second c.in_ok-cascade.cascade (first_tuple c.in_ok-cascade.cascade) c.requires parts
