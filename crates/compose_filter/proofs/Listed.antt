-- The list of moves from a triple has the moves of the two parts.
use Rattle.std.specs.Prelude.{◌≡◌, ◌==◌, ◌&&◌, not, ℕ, zero, suc, ◌+◌, true, List, [], ◌∷◌, ◌++◌, Some, None, get_or}
use Rattle.std.specs.List.{filter_map}
use Rattle.std.proofs.Common.{refl, sym, ◌∙◌, ap, subst, inl, inr}
use Rattle.std.proofs.lemmas.Bool.{and_parts, and_from, not-true, not_from_false, eqb-true, eqb-false, eq-eqb, ne_eqb, cond-true}
use Rattle.weighted_relations.specs.declared.Arc.{Arc}
use Rattle.weighted_relations.specs.Machines.{Machine, IsArc}
use Rattle.compose_filter.specs.declared.filters.Filter.{Filter}
use Rattle.compose_filter.specs.declared.filters.Filter.TheVariants.{Open, Closed}
use Rattle.compose_filter.specs.declared.filters.Taken.TheVariants.{Both, First, Second}
use Rattle.compose_filter.specs.declared.filters.Move.{Move}
use Rattle.compose_filter.specs.declared.triples.Triple.{Triple}
use Rattle.compose_filter.specs.ComposedPaths.{Combination, only, both, first, second, IsMove, only_moves, both_move, first_moves, second_moves}
use Rattle.compose_filter.specs.Combinations.{joint, first_alone, second_alone, all_joint}
use Rattle.compose_filter.specs.Compositions.{states, filters, after, moves_from}
use Rattle.fst_core.proofs.Among.{Among, cond_some, among_left, among_right, among_cases, from_filter_map, to_filter_map, from_flat_map, to_flat_map}

pub positive : (n : ℕ) → (n ≡ 0 → ⊥) → (o : ℕ) × (n ≡ suc o)
positive zero h = absurd (h refl)
positive (suc o) h = (o, refl)

-- a move of two parts that leads where this one does
abbrev Leads : Machine → Machine → Triple → Move → Type 0
Leads a b t m = (c : Combination) × IsMove (b ∷ a ∷ []) (states t) (filters t) c m.input m.output m.weight (states (after m)) (filters (after m))

joint_leads : (a b : Machine) (t : Triple) (m : Move) (k j : ℕ) (x y : Arc) → IsArc a.arcs t.qa k x → IsArc b.arcs t.qb j y → joint x y ≡ Some m → Leads a b t m
joint_leads a b t m k j x y h g e =
    let r : Move = record { input = x.input; output = y.output; weight = x.weight + y.weight; qa = x.next; qb = y.next; filter = Open; taken = Both } in
    let s = cond_some (not (x.output == 0) && (x.output == y.input)) r m e in
    let tests = and_parts (not (x.output == 0)) (x.output == y.input) s.0 in
    let n = positive x.output (eqb-false x.output 0 (not-true (x.output == 0) tests.0)) in
    let same : x.output ≡ y.input = eqb-true x.output y.input tests.1 in
    let alone : IsMove (a ∷ []) (t.qa ∷ []) [] (only k) x.input (suc n.0) x.weight (x.next ∷ []) [] = subst (λ o. IsMove (a ∷ []) (t.qa ∷ []) [] (only k) x.input o x.weight (x.next ∷ []) []) n.1 (only_moves h) in
    subst (Leads a b t) s.1 (both (only k) j, both_move alone g (sym same ∙ n.1))

first_leads : (a b : Machine) (qa qb : ℕ) (f : Filter) (m : Move) (k : ℕ) (x : Arc) → IsArc a.arcs qa k x → first_alone qb f x ≡ Some m → Leads a b (record { qa = qa; qb = qb; filter = f }) m
first_leads a b qa qb Open m k x h e =
    let r : Move = record { input = x.input; output = 0; weight = x.weight; qa = x.next; qb = qb; filter = Open; taken = First } in
    let s = cond_some (x.output == 0) r m e in
    let none : x.output ≡ 0 = eqb-true x.output 0 s.0 in
    let alone : IsMove (a ∷ []) (qa ∷ []) [] (only k) x.input 0 x.weight (x.next ∷ []) [] = subst (λ o. IsMove (a ∷ []) (qa ∷ []) [] (only k) x.input o x.weight (x.next ∷ []) []) none (only_moves h) in
    subst (Leads a b (record { qa = qa; qb = qb; filter = Open })) s.1 (first (only k), first_moves alone)
first_leads a b qa qb Closed m k x h e = absurd (let n : None ≡ Some m = e in cc)

second_leads : (a b : Machine) (t : Triple) (m : Move) (j : ℕ) (y : Arc) → IsArc b.arcs t.qb j y → second_alone t.qa y ≡ Some m → Leads a b t m
second_leads a b t m j y g e =
    let r : Move = record { input = 0; output = y.output; weight = y.weight; qa = t.qa; qb = y.next; filter = Closed; taken = Second } in
    let s = cond_some (y.input == 0) r m e in
    subst (Leads a b t) s.1 (second j, second_moves g (eqb-true y.input 0 s.0))

pub leads : (a b : Machine) (t : Triple) (m : Move) → Among (moves_from a b t) m → Leads a b t m
leads a b t m h =
    let left = get_or a.arcs t.qa [] in
    let row = get_or b.arcs t.qb [] in
    let firsts = filter_map (first_alone t.qb t.filter) left in
    let seconds = filter_map (second_alone t.qa) row in
    elim (among_cases (all_joint left row ++ firsts) seconds m h) [
      | inl g ↦ elim (among_cases (all_joint left row) firsts m g) [
        | inl k ↦
            let x = from_flat_map (λ x. filter_map (joint x) row) left m k in
            let y = from_filter_map (joint x.0) row m x.2 in
            joint_leads a b t m x.1.0 y.1.0 x.0 y.0 x.1.1 y.1.1 y.2
        | inr k ↦
            let x = from_filter_map (first_alone t.qb t.filter) left m k in
            first_leads a b t.qa t.qb t.filter m x.1.0 x.0 x.1.1 x.2
      ]
      | inr g ↦
          let y = from_filter_map (second_alone t.qa) row m g in
          second_leads a b t m y.1.0 y.0 y.1.1 y.2
    ]

-- a move of the list that leads where this one does
pub record Listing (a b : Machine) (qa qb : ℕ) (f : Filter) (i o w : ℕ) (rs : List ℕ) (gs : List Filter) : Type 0 where
  pub move : Move
  pub among : Among (moves_from a b (record { qa = qa; qb = qb; filter = f })) move
  pub input : i ≡ move.input
  pub output : o ≡ move.output
  pub weight : w ≡ move.weight
  pub states : rs ≡ states (after move)
  pub filters : gs ≡ filters (after move)

-- the arc of a move of one part
pub record OneArc (m : Machine) (q i o w : ℕ) (rs : List ℕ) (gs : List Filter) : Type 0 where
  pub place : ℕ
  pub arc : Arc
  pub is : IsArc m.arcs q place arc
  pub input : i ≡ arc.input
  pub output : o ≡ arc.output
  pub weight : w ≡ arc.weight
  pub states : rs ≡ arc.next ∷ []
  pub filters : gs ≡ []

pub one_arc_of : {m : Machine} {q i o w : ℕ} {c : Combination} {rs : List ℕ} {gs : List Filter} → IsMove (m ∷ []) (q ∷ []) [] c i o w rs gs → OneArc m q i o w rs gs
one_arc_of (only_moves {k} {a} h) = record { place = k; arc = a; is = h; input = refl; output = refl; weight = refl; states = refl; filters = refl }

pub listing : (a b : Machine) {qa qb i o w : ℕ} {f : Filter} {c : Combination} {rs : List ℕ} {gs : List Filter} → IsMove (b ∷ a ∷ []) (qb ∷ qa ∷ []) (f ∷ []) c i o w rs gs → Listing a b qa qb f i o w rs gs
listing a b {qa} {qb} {f} (both_move {k} {o} {a = y} mv g e) =
    let x = one_arc_of mv in
    let left = get_or a.arcs qa [] in
    let row = get_or b.arcs qb [] in
    let m : Move = record { input = x.arc.input; output = y.output; weight = x.arc.weight + y.weight; qa = x.arc.next; qb = y.next; filter = Open; taken = Both } in
    let some : x.arc.output ≡ 0 → ⊥ = λ z. (let n : suc o ≡ 0 = x.output ∙ z in absurd (cc)) in
    let test : (not (x.arc.output == 0) && (x.arc.output == y.input)) ≡ true = and_from (not (x.arc.output == 0)) (x.arc.output == y.input) (not_from_false (x.arc.output == 0) (ne_eqb x.arc.output 0 some)) (eq-eqb x.arc.output y.input (sym x.output ∙ sym e)) in
    record {
      move = m;
      among = among_left (all_joint left row ++ filter_map (first_alone qb f) left) (filter_map (second_alone qa) row) m (among_left (all_joint left row) (filter_map (first_alone qb f) left) m (to_flat_map (λ x. filter_map (joint x) row) left x.place x.arc m x.is (to_filter_map (joint x.arc) row k y m g (cond-true _ (Some m) None test))));
      input = x.input;
      output = refl;
      weight = ap (λ n. n + y.weight) x.weight;
      states = ap (λ t. y.next ∷ t) x.states;
      filters = ap (λ t. Open ∷ t) x.filters;
    }
listing a b {qa} {qb} (first_moves mv) =
    let x = one_arc_of mv in
    let left = get_or a.arcs qa [] in
    let row = get_or b.arcs qb [] in
    let m : Move = record { input = x.arc.input; output = 0; weight = x.arc.weight; qa = x.arc.next; qb = qb; filter = Open; taken = First } in
    let test : (x.arc.output == 0) ≡ true = eq-eqb x.arc.output 0 (sym x.output) in
    record {
      move = m;
      among = among_left (all_joint left row ++ filter_map (first_alone qb Open) left) (filter_map (second_alone qa) row) m (among_right (all_joint left row) (filter_map (first_alone qb Open) left) m (to_filter_map (first_alone qb Open) left x.place x.arc m x.is (cond-true _ (Some m) None test)));
      input = x.input;
      output = refl;
      weight = x.weight;
      states = ap (λ t. qb ∷ t) x.states;
      filters = ap (λ t. Open ∷ t) x.filters;
    }
listing a b {qa} {qb} {f} (second_moves {k} {a = y} g e) =
    let left = get_or a.arcs qa [] in
    let row = get_or b.arcs qb [] in
    let m : Move = record { input = 0; output = y.output; weight = y.weight; qa = qa; qb = y.next; filter = Closed; taken = Second } in
    record {
      move = m;
      among = among_right (all_joint left row ++ filter_map (first_alone qb f) left) (filter_map (second_alone qa) row) m (to_filter_map (second_alone qa) row k y m g (cond-true _ (Some m) None (eq-eqb y.input 0 e)));
      input = refl;
      output = refl;
      weight = refl;
      states = refl;
      filters = refl;
    }
