-- The list of the moves of two transducers is that of two parts.
use Rattle.std.specs.Prelude.{◌≡◌, ◌==◌, ◌&&◌, not, ℕ, [], ◌∷◌, ◌++◌, get_or, map, option_map}
use Rattle.std.specs.List.{filter_map}
use Rattle.std.proofs.Common.{refl}
use Rattle.std.proofs.lemmas.List.{map-append}
use Rattle.weighted_relations.specs.declared.Arc.{Arc}
use Rattle.weighted_relations.specs.Machines.{Machine}
use Rattle.compose_filter.specs.declared.filters.Filter.{Filter}
use Rattle.compose_filter.specs.declared.filters.Filter.TheVariants.{Open, Closed}
use Rattle.compose_filter.specs.declared.triples.Triple.{Triple}
use Rattle.compose_filter.specs.Steps.{both_step, first_step, second_step, both_steps}
use Rattle.compose_filter.specs.Combinations.{joint, first_alone, second_alone, all_joint}
use Rattle.compose_filter.specs.Compositions.{states, filters, moves_from}
use Rattle.compose_filter.specs.Expansions.{Position, alone, with_part, as_is, expansion}
use Rattle.compose_filter.specs.Listings.{step_of}
use Rattle.compose_filter.proofs.Mapped.{map_cond, map_filter_map, mapped_kept, mapped_pairs}

first_same : (q : ℕ) (f : Filter) (x : Arc) → option_map step_of (first_alone q f x) ≡ first_step as_is with_part as_is q f (alone x)
first_same q Open x = map_cond step_of (x.output == 0) _
first_same q Closed x = refl

pub two_parts : (a b : Machine) (t : Triple) → map step_of (moves_from a b t) ≡ expansion (b ∷ a ∷ []) (states t) (filters t)
two_parts a b t =
    let left = get_or a.arcs t.qa [] in
    let row = get_or b.arcs t.qb [] in
    let at : Position = record { states = t.qa ∷ []; filters = [] } in
    let x = all_joint left row in
    let y = filter_map (first_alone t.qb t.filter) left in
    let z = filter_map (second_alone t.qa) row in
    let whole = map-append step_of (x ++ y) z in
    let parts = map-append step_of x y in
    let joints : map step_of x ≡ both_steps as_is with_part as_is (map alone left) row = mapped_pairs alone step_of joint (both_step as_is with_part as_is) (λ v w. map_cond step_of (not (v.output == 0) && (v.output == w.input)) _) left row in
    let firsts : map step_of y ≡ filter_map (first_step as_is with_part as_is t.qb t.filter) (map alone left) = mapped_kept alone step_of (first_alone t.qb t.filter) (first_step as_is with_part as_is t.qb t.filter) (first_same t.qb t.filter) left in
    let seconds : map step_of z ≡ filter_map (second_step as_is with_part as_is at) row = map_filter_map step_of (second_alone t.qa) (second_step as_is with_part as_is at) (λ v. map_cond step_of (v.input == 0) _) row in
    cc
