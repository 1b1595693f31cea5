-- What a state of the only part tells of how its tuple goes on.
use Rattle.std.proofs.Common.{◌≡◌, ◌≤◌, List, [], ◌∷◌, None, get_or, length, arith, refl, sym, ap, ◌∙◌}
use Rattle.std.specs.Prelude.{All}
use Rattle.std.specs.List.{filter_map, cons_option}
use Rattle.std.specs.List.Sorted.{IsNonDecreasingBy}
use Rattle.std.proofs.lemmas.List.{get_or_default}
use Rattle.std.proofs.lemmas.List.Elements.{All-head, All-tail}
use Rattle.weighted_relations.specs.declared.Arc.{Arc}
use Rattle.weighted_relations.specs.Machines.{final_of}
use Rattle.compose_filter.specs.Expansions.{finality}
use Rattle.state_tuples.specs.declared.joins.Asked.TheVariants.{Every, Only}
use Rattle.state_tuples.specs.declared.onward.Onward.{Onward}
use Rattle.state_tuples.specs.declared.onward.Onward.TheVariants.{Reads, Forced, Unknown}
use Rattle.state_tuples.specs.declared.tuples.Tuple.{Tuple}
use Rattle.state_tuples.specs.declared.tuples.TupleArc.{TupleArc}
use Rattle.state_tuples.specs.Positions.{back}
use Rattle.state_tuples.specs.Cascades.{Cascaded, end_of, moves_of, no_part}
use Rattle.state_tuples.specs.Calls.{IsOnward}
use Rattle.state_tuples.specs.Stages.{alone_arc, row_of}
use Rattle.state_tuples.proofs.Staged.{alone_off, every_one, first_stage, last_stage}

-- an arc that reads
Reading : Arc → Type 0
Reading y = y.input ≡ 0 → ⊥

none_silent : (row : List Arc) → All Reading row → filter_map (alone_arc (Only 0)) row ≡ []
unfolding Reading
none_silent [] h = refl
none_silent (y ∷ row) h = ap (λ o. cons_option o (filter_map (alone_arc (Only 0)) row)) (alone_off 0 y (All-head Reading y row h)) ∙ none_silent row (All-tail Reading y row h)

-- where the first of the arcs in order reads, each does
pub all_read : (row : List Arc) (d : Arc) → IsNonDecreasingBy (λ y. y.input) row → ((get_or row 0 d).input ≡ 0 → ⊥) → filter_map (alone_arc (Only 0)) row ≡ []
unfolding Reading
all_read row d sorted reads = none_silent row (λ k e l is. reads (first (get_or_default row 0 d e (omega (arith, l))) (let h : (get_or row 0 e).input ≤ (get_or row k e).input = sorted 0 k e (omega arith) l in let same : (get_or row k e).input ≡ 0 = is in omega arith)))
  where
    first : {a b : Arc} → a ≡ b → b.input ≡ 0 → a.input ≡ 0
    first e h = ap (λ (a : Arc). a.input) e ∙ h

-- the same of the tuple
module _ (c : Cascaded) (t : Tuple) (one : 1 ≡ length c.parts) where
  end_alone : end_of c t ≡ final_of (get_or c.parts 0 no_part).finals (get_or t.states 0 0)
  end_alone = ap (λ n. finality (back no_part c.parts n) (back 0 t.states n)) (sym one)

  pub told : (o : Onward) → (o ≡ Reads → filter_map (alone_arc (Only 0)) (row_of c t 0) ≡ []) → ((a : TupleArc) → o ≡ Forced a → filter_map (alone_arc Every) (row_of c t 0) ≡ a ∷ []) → ((a : TupleArc) → o ≡ Forced a → a.input ≡ 0) → ((a : TupleArc) → o ≡ Forced a → final_of (get_or c.parts 0 no_part).finals (get_or t.states 0 0) ≡ None) → IsOnward c t o
  told Reads reads moves silent end = sym (last_stage c t (Only 0) 0 one) ∙ first_stage c t (Only 0) ∙ reads refl
  told (Forced a) reads moves silent end = record {
    moves = sym (every_one (moves_of c t)) ∙ sym (last_stage c t Every 0 one) ∙ first_stage c t Every ∙ moves a refl;
    silent = silent a refl;
    no_end = end_alone ∙ end a refl;
  }
  told Unknown reads moves silent end = tt
