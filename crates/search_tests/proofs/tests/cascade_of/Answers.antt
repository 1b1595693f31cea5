use Rattle.std.proofs.Common.{◌≡◌, ◌∷◌, ◌++◌, [], ap, ◌∙◌}
use Rattle.state_tuples.specs.Cascades.{Cascaded, first_tuple}
use Rattle.search_tests.proofs.Ones.{one_writes}
use Rattle.search_tests.proofs.tests.cascade_of.Goals as goal

pub returns : goal.returns
returns c =
    let parts : c.in_ok-cascade.cascade.parts ≡ c.args.rule ∷ [] = ap (λ (d : Cascaded). d.parts) c.in_ok-cascade.ensures.value ∙ c.in_ok-push.ensures.items ∙ ap (λ ms. ms ++ c.args.rule ∷ []) c.new-parts.ensures.items in
    one_writes c.args.rule c.in_ok-cascade.cascade (first_tuple c.in_ok-cascade.cascade) c.requires parts
