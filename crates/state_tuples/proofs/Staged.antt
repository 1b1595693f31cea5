-- The stages of an expansion, one after another.
use Rattle.std.specs.Prelude.{◌≡◌, ◌==◌, ◌&&◌, not, ℕ, zero, suc, ◌+◌, ◌*◌, ◌^◌, ◌-◌, ◌<◌, Bool, true, false, cond, List, [], ◌∷◌, ◌++◌, map, set, get_or, length, Some, None, All, option_map}
use Rattle.std.specs.List.{filter, filter_map, flat_map, cons_option}
use Rattle.std.proofs.Common.{refl, sym, ◌∙◌, ap, subst, arith}
use Rattle.std.proofs.lemmas.Bool.{ne_eqb}
use Rattle.std.proofs.lemmas.List.{map-append}
use Rattle.std.proofs.lemmas.Option.{slice_get-get_or}
use Rattle.std.proofs.lemmas.List.Elements.{filter-append, All-append, All-map, All-filter, All-weaker}
use Rattle.weighted_relations.specs.declared.Arc.{Arc}
use Rattle.weighted_relations.specs.Machines.{Machine, WellFormed}
use Rattle.compose_filter.specs.declared.filters.Filter.{Filter}
use Rattle.compose_filter.specs.declared.filters.Filter.TheVariants.{Open, Closed}
use Rattle.compose_filter.specs.declared.filters.Taken.TheVariants.{Both, First, Second}
use Rattle.fst_core.proofs.Among.{cond_some}
use Rattle.state_tuples.specs.declared.tuples.Tuple.{Tuple}
use Rattle.state_tuples.specs.declared.tuples.TupleArc.{TupleArc}
use Rattle.state_tuples.specs.declared.joins.TuplePlace.{TuplePlace}
use Rattle.state_tuples.specs.declared.joins.Asked.{Asked}
use Rattle.state_tuples.specs.declared.joins.Asked.TheVariants.{Only}
use Rattle.state_tuples.specs.Positions.{back, bits, filters_of, filter_at, padded}
use Rattle.compose_filter.specs.declared.steps.Step.{Step}
use Rattle.compose_filter.specs.Steps.{both_step, first_step, second_step, together}
use Rattle.compose_filter.specs.Expansions.{Position, with_part, as_is, alone, expansion}
use Rattle.state_tuples.specs.Cascades.{Cascaded, IsSound, no_part, tuple_arc, moves_of}
use Rattle.state_tuples.specs.Stages.{asks, stage, row_of, alone_arc, joined, stayed, entered, entering, all_joined, all_entered}
use Rattle.compose_filter.proofs.Mapped.{map_cond, map_filter_map}
use Rattle.state_tuples.proofs.Lists.{passed_alike, passed_each, passed_kept, all_kept, all_flat}
use Rattle.state_tuples.proofs.Places.{length_back}
use Rattle.state_tuples.proofs.Counted.{bits_open}

-- a step of the first k + 1 parts
pub record Fits (k : ℕ) (s : Step Position) : Type 0 where
  pub states : length s.next.states ≡ suc k
  pub weight : s.weight < suc k * 2 ^ 54

abbrev pub IsLight : Arc → Type 0
IsLight y = y.weight < 2 ^ 54

pub light_row : (m : Machine) (q : ℕ) → WellFormed m → All IsLight (get_or m.arcs q [])
light_row m q h = λ k d l. (h.arcs q k (get_or (get_or m.arcs q []) k d) (slice_get-get_or (get_or m.arcs q []) k d l)).weight

both_fits : (k : ℕ) (l : Step Position) (y : Arc) (x : Step Position) → Fits k l → IsLight y → both_step as_is with_part as_is l y ≡ Some x → Fits (suc k) x
both_fits k l y x h w e =
    let r : Step Position = record { input = l.input; output = y.output; weight = l.weight + y.weight; next = with_part l.next y.next Open Both } in
    let s = cond_some (not (l.output == 0) && (l.output == y.input)) r x e in
    subst (Fits (suc k)) s.1 (record { states = ap suc h.states; weight = (let v = h.weight in omega arith) })

first_fits : (k q : ℕ) (f : Filter) (l x : Step Position) → Fits k l → first_step as_is with_part as_is q f l ≡ Some x → Fits (suc k) x
first_fits k q Open l x h e =
    let r : Step Position = record { input = l.input; output = 0; weight = l.weight; next = with_part l.next q Open First } in
    let s = cond_some (l.output == 0) r x e in
    subst (Fits (suc k)) s.1 (record { states = ap suc h.states; weight = (let v = h.weight in omega arith) })
first_fits k q Closed l x h e = absurd (let n : None ≡ Some x = e in cc)

second_fits : (k : ℕ) (at : Position) (y : Arc) (x : Step Position) → length at.states ≡ suc k → IsLight y → second_step as_is with_part as_is at y ≡ Some x → Fits (suc k) x
second_fits k at y x h w e =
    let r : Step Position = record { input = 0; output = y.output; weight = y.weight; next = with_part at y.next Closed Second } in
    let s = cond_some (y.input == 0) r x e in
    subst (Fits (suc k)) s.1 (record { states = ap suc h; weight = omega arith })

fits_together : (k : ℕ) (left : List (Step Position)) (at : Position) (row : List Arc) (q : ℕ) (f : Filter) → All (Fits k) left → length at.states ≡ suc k → All IsLight row → All (Fits (suc k)) (together as_is with_part as_is left at row q f)
fits_together k left at row q f h l w =
    All-append (Fits (suc k)) _ _
    (All-append (Fits (suc k)) _ _
    (all_flat (Fits k) (Fits (suc k)) (λ l. filter_map (both_step as_is with_part as_is l) row) (λ s fs. all_kept IsLight (Fits (suc k)) (both_step as_is with_part as_is s) (λ y x v e. both_fits k s y x fs v e) row w) left h)
    (all_kept (Fits k) (Fits (suc k)) (first_step as_is with_part as_is q f) (λ s x fs e. first_fits k q f s x fs e) left h))
    (all_kept IsLight (Fits (suc k)) (second_step as_is with_part as_is at) (λ y x v e. second_fits k at y x l v e) row w)

abbrev steps : Cascaded → Tuple → ℕ → List (Step Position)
steps c t k = expansion (back no_part c.parts (suc k)) (back 0 t.states (suc k)) (filters_of t.filters k)

pub all_fit : (c : Cascaded) (t : Tuple) (k : ℕ) → IsSound c → k < length c.parts → All (Fits k) (steps c t k)
all_fit c t zero h l =
    let row = row_of c t 0 in
    All-map (Fits 0) alone row (All-weaker IsLight (λ y. Fits 0 (alone y)) (λ y w. record { states = refl; weight = omega arith }) row (light_row (get_or c.parts 0 no_part) (get_or t.states 0 0) (h.parts 0 no_part l)))
all_fit c t (suc k) h l =
    fits_together k (steps c t k) (record { states = back 0 t.states (suc k); filters = filters_of t.filters k }) (row_of c t (suc k)) (get_or t.states (suc k) 0) (filter_at t.filters k)
    (all_fit c t k h (omega arith)) (length_back 0 t.states (suc k)) (light_row (get_or c.parts (suc k) no_part) (get_or t.states (suc k) 0) (h.parts (suc k) no_part l))

-- the moves of each stage are light
pub stage_light : (c : Cascaded) (t : Tuple) (asked : Asked) (k : ℕ) → IsSound c → k < length c.parts → All (λ x. x.weight < suc k * 2 ^ 54) (stage c t asked k)
unfolding stage
stage_light c t asked k h l =
    All-filter (λ (a : TupleArc). asks asked a.input) (λ (x : TupleArc). x.weight < suc k * 2 ^ 54) (map tuple_arc (steps c t k))
    (All-map (λ (x : TupleArc). x.weight < suc k * 2 ^ 54) tuple_arc (steps c t k) (All-weaker (Fits k) (λ (s : Step Position). s.weight < suc k * 2 ^ 54) (λ s f. f.weight) (steps c t k) (all_fit c t k h l)))

-- the moves of the first part
pub first_stage : (c : Cascaded) (t : Tuple) (asked : Asked) → stage c t asked 0 ≡ filter_map (alone_arc asked) (row_of c t 0)
unfolding stage
first_stage c t asked = each (row_of c t 0)
  where
    by : (b : Bool) (a : TupleArc) (xs ys : List TupleArc) → xs ≡ ys → cond b (a ∷ xs) xs ≡ cons_option (cond b (Some a) None) ys
    by true a xs ys e = ap (λ t. a ∷ t) e
    by false a xs ys e = e

    each : (row : List Arc) → filter (λ a. asks asked a.input) (map tuple_arc (map alone row)) ≡ filter_map (alone_arc asked) row
    each [] = refl
    each (y ∷ row) = by (asks asked y.input) (tuple_arc (alone y)) (filter (λ a. asks asked a.input) (map tuple_arc (map alone row))) (filter_map (alone_arc asked) row) (each row)

-- what part k + 1 gives
module _ (k : ℕ) (q : ℕ) where
  joined_same : (l : Step Position) (y : Arc) → Fits k l → option_map tuple_arc (both_step as_is with_part as_is l y) ≡ joined (suc k) (tuple_arc l) y
  joined_same l y h =
      let test = not (l.output == 0) && (l.output == y.input) in
      map_cond tuple_arc test (record { input = l.input; output = y.output; weight = l.weight + y.weight; next = with_part l.next y.next Open Both })
      ∙ (ap (λ (n : ℕ). cond test (Some (record { input = l.input; output = y.output; weight = l.weight + y.weight; filters = n; states = padded (y.next ∷ l.next.states) })) None) (bits_open l.next.filters)
      ∙ ap (λ (n : ℕ). cond test (Some (record { input = l.input; output = y.output; weight = l.weight + y.weight; filters = bits l.next.filters; states = set (padded l.next.states) n y.next })) None) h.states)

  stayed_same : (f : Filter) (l : Step Position) → Fits k l → option_map tuple_arc (first_step as_is with_part as_is q f l) ≡ stayed (suc k) q f (tuple_arc l)
  stayed_same Open l h =
      let test = l.output == 0 in
      map_cond tuple_arc test (record { input = l.input; output = 0; weight = l.weight; next = with_part l.next q Open First })
      ∙ (ap (λ (n : ℕ). cond test (Some (record { input = l.input; output = 0; weight = l.weight; filters = n; states = padded (q ∷ l.next.states) })) None) (bits_open l.next.filters)
      ∙ ap (λ (n : ℕ). cond test (Some (record { input = l.input; output = 0; weight = l.weight; filters = bits l.next.filters; states = set (padded l.next.states) n q })) None) h.states)
  stayed_same Closed l h = refl

  entered_same : (t : Tuple) (y : Arc) → option_map tuple_arc (second_step as_is with_part as_is (record { states = back 0 t.states (suc k); filters = filters_of t.filters k }) y) ≡ entered (suc k) (entering t k) y
  entered_same t y =
      let qs = back 0 t.states (suc k) in
      let fs = filters_of t.filters k in
      map_cond tuple_arc (y.input == 0) (record { input = 0; output = y.output; weight = y.weight; next = with_part (record { states = qs; filters = fs }) y.next Closed Second })
      ∙ ap (λ (n : ℕ). cond (y.input == 0) (Some (record { input = 0; output = y.output; weight = y.weight; filters = bits (Closed ∷ fs); states = set (padded qs) n y.next })) None) (length_back 0 t.states (suc k))

-- what a move reads
joined_input : (place : ℕ) (x : TupleArc) (y : Arc) (z : TupleArc) → joined place x y ≡ Some z → z.input ≡ x.input
joined_input place x y z e =
    let r : TupleArc = record { input = x.input; output = y.output; weight = x.weight + y.weight; filters = x.filters; states = set x.states place y.next } in
    ap (λ (a : TupleArc). a.input) (sym (cond_some (not (x.output == 0) && (x.output == y.input)) r z e).1)

stayed_input : (place q : ℕ) (f : Filter) (x z : TupleArc) → stayed place q f x ≡ Some z → z.input ≡ x.input
stayed_input place q Open x z e =
    let r : TupleArc = record { input = x.input; output = 0; weight = x.weight; filters = x.filters; states = set x.states place q } in
    ap (λ (a : TupleArc). a.input) (sym (cond_some (x.output == 0) r z e).1)
stayed_input place q Closed x z e = absurd (let n : None ≡ Some z = e in cc)

entered_input : (place : ℕ) (at : TuplePlace) (y : Arc) (z : TupleArc) → entered place at y ≡ Some z → z.input ≡ 0
entered_input place at y z e =
    let r : TupleArc = record { input = 0; output = y.output; weight = y.weight; filters = at.filters; states = set at.states place y.next } in
    ap (λ (a : TupleArc). a.input) (sym (cond_some (y.input == 0) r z e).1)

split : {X Y : Type 0} (p : Y → Bool) (g : X → Y) (a b c : List X) → filter p (map g ((a ++ b) ++ c)) ≡ (filter p (map g a) ++ filter p (map g b)) ++ filter p (map g c)
split p g a b c = simp (map-append, filter-append)

pub next_stage : (c : Cascaded) (t : Tuple) (asked : Asked) (k : ℕ) → IsSound c → suc k < length c.parts → stage c t asked (suc k) ≡ (all_joined (suc k) (stage c t asked k) (row_of c t (suc k)) ++ filter_map (stayed (suc k) (get_or t.states (suc k) 0) (filter_at t.filters k)) (stage c t asked k)) ++ all_entered asked (suc k) (entering t k) (row_of c t (suc k))
unfolding stage
next_stage c t asked k h l =
    let left = steps c t k in
    let at : Position = record { states = back 0 t.states (suc k); filters = filters_of t.filters k } in
    let row = row_of c t (suc k) in
    let q = get_or t.states (suc k) 0 in
    let f = filter_at t.filters k in
    let p : TupleArc → Bool = λ a. asks asked a.input in
    let fit = all_fit c t k h (omega arith) in
    let joints : filter p (map tuple_arc (flat_map (λ s. filter_map (both_step as_is with_part as_is s) row) left)) ≡ all_joined (suc k) (filter p (map tuple_arc left)) row
    = passed_each (Fits k) p tuple_arc tuple_arc (λ s. filter_map (both_step as_is with_part as_is s) row) (λ x. filter_map (joined (suc k) x) row)
    (λ s fs. ap (filter p) (map_filter_map tuple_arc (both_step as_is with_part as_is s) (joined (suc k) (tuple_arc s)) (λ y. joined_same k q s y fs) row) ∙ passed_alike p (joined (suc k) (tuple_arc s)) (p (tuple_arc s)) (λ y z e. ap (asks asked) (joined_input (suc k) (tuple_arc s) y z e)) row) left fit in
    let firsts : filter p (map tuple_arc (filter_map (first_step as_is with_part as_is q f) left)) ≡ filter_map (stayed (suc k) q f) (filter p (map tuple_arc left))
    = passed_kept (Fits k) p tuple_arc tuple_arc (first_step as_is with_part as_is q f) (stayed (suc k) q f) (λ s fs. stayed_same k q f s fs) (λ x z e. ap (asks asked) (stayed_input (suc k) q f x z e)) left fit in
    let seconds : filter p (map tuple_arc (filter_map (second_step as_is with_part as_is at) row)) ≡ all_entered asked (suc k) (entering t k) row
    = ap (filter p) (map_filter_map tuple_arc (second_step as_is with_part as_is at) (entered (suc k) (entering t k)) (entered_same k q t) row) ∙ passed_alike p (entered (suc k) (entering t k)) (asks asked 0) (λ y z e. ap (asks asked) (entered_input (suc k) (entering t k) y z e)) row in
    split p tuple_arc (flat_map (λ s. filter_map (both_step as_is with_part as_is s) row) left) (filter_map (first_step as_is with_part as_is q f) left) (filter_map (second_step as_is with_part as_is at) row)
    ∙ (ap (λ x. (x ++ filter p (map tuple_arc (filter_map (first_step as_is with_part as_is q f) left))) ++ filter p (map tuple_arc (filter_map (second_step as_is with_part as_is at) row))) joints
    ∙ (ap (λ x. (all_joined (suc k) (filter p (map tuple_arc left)) row ++ x) ++ filter p (map tuple_arc (filter_map (second_step as_is with_part as_is at) row))) firsts
    ∙ ap (λ x. (all_joined (suc k) (filter p (map tuple_arc left)) row ++ filter_map (stayed (suc k) q f) (filter p (map tuple_arc left))) ++ x) seconds))

-- an arc that isn't asked for
pub alone_off : (label : ℕ) (y : Arc) → (y.input ≡ label → ⊥) → alone_arc (Only label) y ≡ None
alone_off label y off = ap (λ b. cond b (Some (tuple_arc (alone y))) None) (ne_eqb y.input label off)

-- the last stage has the moves of the tuple
pub last_stage : (c : Cascaded) (t : Tuple) (asked : Asked) (k : ℕ) → suc k ≡ length c.parts → stage c t asked k ≡ filter (λ a. asks asked a.input) (moves_of c t)
unfolding stage
last_stage c t asked k e =
    let n : k ≡ length c.parts - 1 = omega arith in
    ap (λ j. filter (λ (a : TupleArc). asks asked a.input) (map tuple_arc (expansion (back no_part c.parts j) (back 0 t.states j) (filters_of t.filters k)))) e
    ∙ ap (λ j. filter (λ (a : TupleArc). asks asked a.input) (map tuple_arc (expansion (back no_part c.parts (length c.parts)) (back 0 t.states (length c.parts)) (filters_of t.filters j)))) n

pub every_one : {X : Type 0} (xs : List X) → filter (λ x. true) xs ≡ xs
every_one [] = refl
every_one (x ∷ xs) = ap (λ t. x ∷ t) (every_one xs)
