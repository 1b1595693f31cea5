-- The combinations of the parts stand beside the list of their moves, one to one.
use Rattle.std.specs.Prelude.{◌≡◌, ◌==◌, ◌&&◌, not, ℕ, zero, suc, ◌+◌, true, List, [], ◌∷◌, ◌++◌, Option, Some, None, slice_get, get_or, map, length}
use Rattle.std.specs.List.{flat_map, filter_map, cons_option}
use Rattle.std.proofs.Common.{refl, sym, ◌∙◌, ap, subst, inl, inr}
use Rattle.std.proofs.lemmas.List.{map-append, length-map}
use Rattle.std.proofs.lemmas.Bool.{and_parts, and_from, not-true, not_from_false, eqb-true, eqb-false, eq-eqb, ne_eqb, cond-true}
use Rattle.weighted_relations.specs.declared.Arc.{Arc}
use Rattle.weighted_relations.specs.Machines.{Machine, IsArc}
use Rattle.fst_core.proofs.Among.{Among, among_left, among_right, among_cases, among_more, cond_some}
use Rattle.compose_filter.specs.declared.filters.Filter.{Filter}
use Rattle.compose_filter.specs.declared.filters.Filter.TheVariants.{Open, Closed}
use Rattle.compose_filter.specs.declared.filters.Taken.TheVariants.{Both, First, Second}
use Rattle.compose_filter.specs.ComposedPaths.{Combination, only, both, first, second, IsMove, only_moves, both_move, first_moves, second_moves}
use Rattle.compose_filter.specs.declared.steps.Step.{Step}
use Rattle.compose_filter.specs.Steps.{both_step, first_step, second_step}
use Rattle.compose_filter.specs.Expansions.{Position, alone, with_part, as_is, expansion}
use Rattle.compose_filter.specs.Listings.{Listed, IsPlace}
use Rattle.compose_filter.proofs.Listed.{positive}

-- a step with its combination
record Named : Type 0 where
  pub combination : Combination
  pub step : Step Position

abbrev name : Combination → Option (Step Position) → Option Named
name c None = None
name c (Some s) = Some (record { combination = c; step = s })

skipped : (o : Option Named) (ns : List Named) (n : Named) → Among ns n → Among (cons_option o ns) n
skipped None ns n a = a
skipped (Some m) ns n a = among_more m ns n a

abbrev steps : List Named → List (Step Position)
steps ns = map (λ (n : Named). n.step) ns

-- no two have the same combination
abbrev Apart : List Named → Type 0
Apart [] = Unit {0}
Apart (n ∷ ns) = ((m : Named) → Among ns m → m.combination ≡ n.combination → ⊥) × Apart ns

apart_at : (ns : List Named) → Apart ns → (j k : ℕ) (m n : Named) → slice_get ns j ≡ Some m → slice_get ns k ≡ Some n → m.combination ≡ n.combination → j ≡ k
apart_at [] h j k m n e f g = absurd (let no : None ≡ Some m = e in cc)
apart_at (z ∷ ns) h zero zero m n e f g = refl
apart_at (z ∷ ns) h zero (suc k) m n e f g = (let same : z ≡ m = cc in absurd (h.0 n (k, f) (sym g ∙ ap (λ (t : Named). t.combination) (sym same))))
apart_at (z ∷ ns) h (suc j) zero m n e f g = (let same : z ≡ n = cc in absurd (h.0 m (j, e) (g ∙ ap (λ (t : Named). t.combination) (sym same))))
apart_at (z ∷ ns) h (suc j) (suc k) m n e f g = ap suc (apart_at ns h.1 j k m n e f g)

apart_append : (ms ns : List Named) → Apart ms → Apart ns → ((m n : Named) → Among ms m → Among ns n → n.combination ≡ m.combination → ⊥) → Apart (ms ++ ns)
apart_append [] ns p q off = q
apart_append (m ∷ ms) ns p q off = (
  λ n a e. elim (among_cases ms ns n a) [ inl h ↦ p.0 n h e | inr h ↦ off m n (0, refl) h e ],
  apart_append ms ns p.1 q (λ u v g h. off u v (among_more m ms u g) h),
)

-- the arcs of a row, where that at place j has the combination g j
module _ (h : Arc → Option (Step Position)) where
  abbrev of_row : (ℕ → Combination) → List Arc → List Named
  of_row g [] = []
  of_row g (y ∷ row) = cons_option (name (g 0) (h y)) (of_row (λ j. g (suc j)) row)

  row_steps : (g : ℕ → Combination) (row : List Arc) → steps (of_row g row) ≡ filter_map h row
  row_steps g [] = refl
  row_steps g (y ∷ row) = by (h y) (row_steps (λ j. g (suc j)) row)
    where
      by : (o : Option (Step Position)) → steps (of_row (λ j. g (suc j)) row) ≡ filter_map h row → steps (cons_option (name (g 0) o) (of_row (λ j. g (suc j)) row)) ≡ cons_option o (filter_map h row)
      by None e = e
      by (Some s) e = ap (λ t. s ∷ t) e

  record FromRow (g : ℕ → Combination) (row : List Arc) (n : Named) : Type 0 where
    place : ℕ
    arc : Arc
    there : slice_get row place ≡ Some arc
    gives : h arc ≡ Some n.step
    is : n.combination ≡ g place

  from_row : (g : ℕ → Combination) (row : List Arc) (n : Named) → Among (of_row g row) n → FromRow g row n
  from_row g [] n a = absurd (let no : None ≡ Some n = a.1 in cc)
  from_row g (y ∷ row) n a = by (h y) refl (λ b. later (from_row (λ j. g (suc j)) row n b)) a
    where
      later : FromRow (λ j. g (suc j)) row n → FromRow g (y ∷ row) n
      later r = record { place = suc r.place; arc = r.arc; there = r.there; gives = r.gives; is = r.is }

      by : (o : Option (Step Position)) → h y ≡ o → (Among (of_row (λ j. g (suc j)) row) n → FromRow g (y ∷ row) n) → Among (cons_option (name (g 0) o) (of_row (λ j. g (suc j)) row)) n → FromRow g (y ∷ row) n
      by None e more b = more b
      by (Some s) e more (zero, i) =
          let m : Named = record { combination = g 0; step = s } in
          let same : m ≡ n = cc in
          record { place = 0; arc = y; there = refl; gives = e ∙ ap (λ (t : Named). Some t.step) same; is = sym (ap (λ (t : Named). t.combination) same) }
      by (Some s) e more (suc k, i) = more (k, i)

  to_row : (g : ℕ → Combination) (row : List Arc) (j : ℕ) (y : Arc) (s : Step Position) → slice_get row j ≡ Some y → h y ≡ Some s → Among (of_row g row) (record { combination = g j; step = s })
  to_row g [] j y s i e = absurd (let no : None ≡ Some y = i in cc)
  to_row g (z ∷ row) zero y s i e =
      let same : z ≡ y = cc in
      let at : h z ≡ Some s = ap h same ∙ e in
      subst (λ o. Among (cons_option (name (g 0) o) (of_row (λ j. g (suc j)) row)) (record { combination = g 0; step = s })) (sym at) (0, refl)
  to_row g (z ∷ row) (suc j) y s i e = skipped (name (g 0) (h z)) (of_row (λ k. g (suc k)) row) _ (to_row (λ k. g (suc k)) row j y s i e)

  apart_row : (g : ℕ → Combination) → ((i j : ℕ) → g i ≡ g j → i ≡ j) → (row : List Arc) → Apart (of_row g row)
  apart_row g one [] = tt
  apart_row g one (y ∷ row) = by (h y) (apart_row (λ j. g (suc j)) (λ i j e. (let s : suc i ≡ suc j = one (suc i) (suc j) e in cc)) row)
    where
      by : (o : Option (Step Position)) → Apart (of_row (λ j. g (suc j)) row) → Apart (cons_option (name (g 0) o) (of_row (λ j. g (suc j)) row))
      by None rest = rest
      by (Some s) rest = (
        λ n a e. (let r = from_row (λ j. g (suc j)) row n a in let no : suc r.place ≡ 0 = one (suc r.place) 0 (sym r.is ∙ e) in absurd (cc)),
        rest,
      )

-- the steps of the parts before a part, alone
module _ (h : Step Position → Option (Step Position)) where
  abbrev of_firsts : List Named → List Named
  of_firsts [] = []
  of_firsts (n ∷ ns) = cons_option (name (first n.combination) (h n.step)) (of_firsts ns)

  firsts_steps : (ns : List Named) → steps (of_firsts ns) ≡ filter_map h (steps ns)
  firsts_steps [] = refl
  firsts_steps (n ∷ ns) = by (h n.step) (firsts_steps ns)
    where
      by : (o : Option (Step Position)) → steps (of_firsts ns) ≡ filter_map h (steps ns) → steps (cons_option (name (first n.combination) o) (of_firsts ns)) ≡ cons_option o (filter_map h (steps ns))
      by None e = e
      by (Some s) e = ap (λ t. s ∷ t) e

  record FromFirsts (ns : List Named) (n : Named) : Type 0 where
    before : Named
    among : Among ns before
    gives : h before.step ≡ Some n.step
    is : n.combination ≡ first before.combination

  from_firsts : (ns : List Named) (n : Named) → Among (of_firsts ns) n → FromFirsts ns n
  from_firsts [] n a = absurd (let no : None ≡ Some n = a.1 in cc)
  from_firsts (m ∷ ns) n a = by (h m.step) refl (λ b. later (from_firsts ns n b)) a
    where
      later : FromFirsts ns n → FromFirsts (m ∷ ns) n
      later r = record { before = r.before; among = among_more m ns r.before r.among; gives = r.gives; is = r.is }

      by : (o : Option (Step Position)) → h m.step ≡ o → (Among (of_firsts ns) n → FromFirsts (m ∷ ns) n) → Among (cons_option (name (first m.combination) o) (of_firsts ns)) n → FromFirsts (m ∷ ns) n
      by None e more b = more b
      by (Some s) e more (zero, i) =
          let x : Named = record { combination = first m.combination; step = s } in
          let same : x ≡ n = cc in
          record { before = m; among = (0, refl); gives = e ∙ ap (λ (t : Named). Some t.step) same; is = sym (ap (λ (t : Named). t.combination) same) }
      by (Some s) e more (suc k, i) = more (k, i)

  to_firsts : (ns : List Named) (k : ℕ) (n : Named) (s : Step Position) → slice_get ns k ≡ Some n → h n.step ≡ Some s → Among (of_firsts ns) (record { combination = first n.combination; step = s })
  to_firsts [] k n s i e = absurd (let no : None ≡ Some n = i in cc)
  to_firsts (m ∷ ns) zero n s i e =
      let same : m ≡ n = cc in
      let at : h m.step ≡ Some s = ap (λ (t : Named). h t.step) same ∙ e in
      subst (λ (t : Named). Among (cons_option (name (first m.combination) (h m.step)) (of_firsts ns)) (record { combination = first t.combination; step = s })) same
      (subst (λ o. Among (cons_option (name (first m.combination) o) (of_firsts ns)) (record { combination = first m.combination; step = s })) (sym at) (0, refl))
  to_firsts (m ∷ ns) (suc k) n s i e = skipped (name (first m.combination) (h m.step)) (of_firsts ns) _ (to_firsts ns k n s i e)

  apart_firsts : (ns : List Named) → Apart ns → Apart (of_firsts ns)
  apart_firsts [] p = tt
  apart_firsts (n ∷ ns) p = by (h n.step) (apart_firsts ns p.1)
    where
      by : (o : Option (Step Position)) → Apart (of_firsts ns) → Apart (cons_option (name (first n.combination) o) (of_firsts ns))
      by None rest = rest
      by (Some s) rest = (
        λ m a e. (let r = from_firsts ns m a in let same : first r.before.combination ≡ first n.combination = sym r.is ∙ e in p.0 r.before r.among (cc)),
        rest,
      )

-- the steps of the parts before a part, each with the arcs of the part
module _ (h : Step Position → Arc → Option (Step Position)) (row : List Arc) where
  abbrev of_both : List Named → List Named
  of_both [] = []
  of_both (n ∷ ns) = of_row (h n.step) (both n.combination) row ++ of_both ns

  both_steps : (ns : List Named) → steps (of_both ns) ≡ flat_map (λ l. filter_map (h l) row) (steps ns)
  both_steps [] = refl
  both_steps (n ∷ ns) =
      map-append (λ (t : Named). t.step) (of_row (h n.step) (both n.combination) row) (of_both ns)
      ∙ (ap (λ t. t ++ steps (of_both ns)) (row_steps (h n.step) (both n.combination) row)
      ∙ ap (λ t. filter_map (h n.step) row ++ t) (both_steps ns))

  record FromBoth (ns : List Named) (n : Named) : Type 0 where
    before : Named
    among : Among ns before
    taken : FromRow (h before.step) (both before.combination) row n

  from_both : (ns : List Named) (n : Named) → Among (of_both ns) n → FromBoth ns n
  from_both [] n a = absurd (let no : None ≡ Some n = a.1 in cc)
  from_both (m ∷ ns) n a = elim (among_cases (of_row (h m.step) (both m.combination) row) (of_both ns) n a) [
    | inl b ↦ record { before = m; among = (0, refl); taken = from_row (h m.step) (both m.combination) row n b }
    | inr b ↦ (let r = from_both ns n b in record { before = r.before; among = among_more m ns r.before r.among; taken = r.taken })
  ]

  to_both : (ns : List Named) (k : ℕ) (l n : Named) → slice_get ns k ≡ Some l → Among (of_row (h l.step) (both l.combination) row) n → Among (of_both ns) n
  to_both [] k l n i a = absurd (let no : None ≡ Some l = i in cc)
  to_both (m ∷ ns) zero l n i a =
      let same : m ≡ l = cc in
      among_left (of_row (h m.step) (both m.combination) row) (of_both ns) n (subst (λ (t : Named). Among (of_row (h t.step) (both t.combination) row) n) (sym same) a)
  to_both (m ∷ ns) (suc k) l n i a = among_right (of_row (h m.step) (both m.combination) row) (of_both ns) n (to_both ns k l n i a)

  apart_both : (ns : List Named) → Apart ns → Apart (of_both ns)
  apart_both [] p = tt
  apart_both (m ∷ ns) p = apart_append (of_row (h m.step) (both m.combination) row) (of_both ns)
      (apart_row (h m.step) (both m.combination) (λ i j e. (let same : both m.combination i ≡ both m.combination j = e in cc)) row)
      (apart_both ns p.1)
      (λ x y a b e. (
      let r = from_row (h m.step) (both m.combination) row x a in
      let q = from_both ns y b in
      let same : both q.before.combination q.taken.place ≡ both m.combination r.place = sym q.taken.is ∙ (e ∙ r.is) in
      p.0 q.before q.among (cc)))

abbrev named : List Machine → List ℕ → List Filter → List Named
named (m ∷ []) (q ∷ []) [] = of_row (λ x. Some (alone x)) only (get_or m.arcs q [])
named (m ∷ n ∷ ms) (q ∷ qs) (f ∷ fs) =
    of_both (both_step as_is with_part as_is) (get_or m.arcs q []) (named (n ∷ ms) qs fs)
    ++ of_firsts (first_step as_is with_part as_is q f) (named (n ∷ ms) qs fs)
    ++ of_row (second_step as_is with_part as_is (record { states = qs; filters = fs })) second (get_or m.arcs q [])
named _ _ _ = []

all_alone : (row : List Arc) → filter_map (λ x. Some (alone x)) row ≡ map alone row
all_alone [] = refl
all_alone (y ∷ row) = ap (λ t. alone y ∷ t) (all_alone row)

named_steps : (ms : List Machine) (qs : List ℕ) (fs : List Filter) → steps (named ms qs fs) ≡ expansion ms qs fs
named_steps [] qs fs = refl
named_steps (m ∷ []) [] fs = refl
named_steps (m ∷ []) (q ∷ []) [] = row_steps (λ x. Some (alone x)) only (get_or m.arcs q []) ∙ all_alone (get_or m.arcs q [])
named_steps (m ∷ []) (q ∷ []) (f ∷ fs) = refl
named_steps (m ∷ []) (q ∷ p ∷ qs) fs = refl
named_steps (m ∷ n ∷ ms) [] fs = refl
named_steps (m ∷ n ∷ ms) (q ∷ qs) [] = refl
named_steps (m ∷ n ∷ ms) (q ∷ qs) (f ∷ fs) =
    let at : Position = record { states = qs; filters = fs } in
    let row = get_or m.arcs q [] in
    let ns = named (n ∷ ms) qs fs in
    let before : steps ns ≡ expansion (n ∷ ms) qs fs = named_steps (n ∷ ms) qs fs in
    let x = of_both (both_step as_is with_part as_is) row ns in
    let y = of_firsts (first_step as_is with_part as_is q f) ns in
    let z = of_row (second_step as_is with_part as_is at) second row in
    let xs : steps x ≡ flat_map (λ l. filter_map (both_step as_is with_part as_is l) row) (expansion (n ∷ ms) qs fs) = both_steps (both_step as_is with_part as_is) row ns ∙ ap (flat_map (λ l. filter_map (both_step as_is with_part as_is l) row)) before in
    let ys : steps y ≡ filter_map (first_step as_is with_part as_is q f) (expansion (n ∷ ms) qs fs) = firsts_steps (first_step as_is with_part as_is q f) ns ∙ ap (filter_map (first_step as_is with_part as_is q f)) before in
    let zs : steps z ≡ filter_map (second_step as_is with_part as_is at) row = row_steps (second_step as_is with_part as_is at) second row in
    map-append (λ (t : Named). t.step) (x ++ y) z
    ∙ (ap (λ t. t ++ steps z) (map-append (λ (t : Named). t.step) x y)
    ∙ (ap (λ t. (t ++ steps y) ++ steps z) xs
    ∙ (ap (λ t. (flat_map (λ l. filter_map (both_step as_is with_part as_is l) row) (expansion (n ∷ ms) qs fs) ++ t) ++ steps z) ys
    ∙ ap (λ t. (flat_map (λ l. filter_map (both_step as_is with_part as_is l) row) (expansion (n ∷ ms) qs fs) ++ filter_map (first_step as_is with_part as_is q f) (expansion (n ∷ ms) qs fs)) ++ t) zs)))

-- a combination with its step moves
abbrev Moves : List Machine → List ℕ → List Filter → Combination → Step Position → Type 0
Moves ms qs fs c s = IsMove ms qs fs c s.input s.output s.weight s.next.states s.next.filters

both_moves : (m : Machine) (ms : List Machine) (q : ℕ) (qs : List ℕ) (f : Filter) (fs : List Filter) (c : Combination) (l s : Step Position) (j : ℕ) (y : Arc) → Moves ms qs fs c l → IsArc m.arcs q j y → both_step as_is with_part as_is l y ≡ Some s → Moves (m ∷ ms) (q ∷ qs) (f ∷ fs) (both c j) s
both_moves m ms q qs f fs c l s j y mv g e =
    let r : Step Position = record { input = l.input; output = y.output; weight = l.weight + y.weight; next = with_part l.next y.next Open Both } in
    let t = cond_some (not (l.output == 0) && (l.output == y.input)) r s e in
    let tests = and_parts (not (l.output == 0)) (l.output == y.input) t.0 in
    let n = positive l.output (eqb-false l.output 0 (not-true (l.output == 0) tests.0)) in
    let same : l.output ≡ y.input = eqb-true l.output y.input tests.1 in
    let before = subst (λ o. IsMove ms qs fs c l.input o l.weight l.next.states l.next.filters) n.1 mv in
    subst (Moves (m ∷ ms) (q ∷ qs) (f ∷ fs) (both c j)) t.1 (both_move before g (sym same ∙ n.1))

first_moves_on : (m : Machine) (ms : List Machine) (q : ℕ) (qs : List ℕ) (f : Filter) (fs : List Filter) (c : Combination) (l s : Step Position) → Moves ms qs fs c l → first_step as_is with_part as_is q f l ≡ Some s → Moves (m ∷ ms) (q ∷ qs) (f ∷ fs) (first c) s
first_moves_on m ms q qs Open fs c l s mv e =
    let r : Step Position = record { input = l.input; output = 0; weight = l.weight; next = with_part l.next q Open First } in
    let t = cond_some (l.output == 0) r s e in
    let none : l.output ≡ 0 = eqb-true l.output 0 t.0 in
    let before = subst (λ o. IsMove ms qs fs c l.input o l.weight l.next.states l.next.filters) none mv in
    subst (Moves (m ∷ ms) (q ∷ qs) (Open ∷ fs) (first c)) t.1 (first_moves before)
first_moves_on m ms q qs Closed fs c l s mv e = absurd (let n : None ≡ Some s = e in cc)

second_moves_on : (m : Machine) (ms : List Machine) (q : ℕ) (qs : List ℕ) (f : Filter) (fs : List Filter) (s : Step Position) (j : ℕ) (y : Arc) → IsArc m.arcs q j y → second_step as_is with_part as_is (record { states = qs; filters = fs }) y ≡ Some s → Moves (m ∷ ms) (q ∷ qs) (f ∷ fs) (second j) s
second_moves_on m ms q qs f fs s j y g e =
    let r : Step Position = record { input = 0; output = y.output; weight = y.weight; next = with_part (record { states = qs; filters = fs }) y.next Closed Second } in
    let t = cond_some (y.input == 0) r s e in
    subst (Moves (m ∷ ms) (q ∷ qs) (f ∷ fs) (second j)) t.1 (second_moves g (eqb-true y.input 0 t.0))

named_moves : (ms : List Machine) (qs : List ℕ) (fs : List Filter) (n : Named) → Among (named ms qs fs) n → Moves ms qs fs n.combination n.step
named_moves [] qs fs n a = absurd (let e : None ≡ Some n = a.1 in cc)
named_moves (m ∷ []) [] fs n a = absurd (let e : None ≡ Some n = a.1 in cc)
named_moves (m ∷ []) (q ∷ []) [] n a =
    let r = from_row (λ x. Some (alone x)) only (get_or m.arcs q []) n a in
    let same : alone r.arc ≡ n.step = (let e : Some (alone r.arc) ≡ Some n.step = r.gives in cc) in
    subst (λ c. Moves (m ∷ []) (q ∷ []) [] c n.step) (sym r.is) (subst (Moves (m ∷ []) (q ∷ []) [] (only r.place)) same (only_moves r.there))
named_moves (m ∷ []) (q ∷ []) (f ∷ fs) n a = absurd (let e : None ≡ Some n = a.1 in cc)
named_moves (m ∷ []) (q ∷ p ∷ qs) fs n a = absurd (let e : None ≡ Some n = a.1 in cc)
named_moves (m ∷ o ∷ ms) [] fs n a = absurd (let e : None ≡ Some n = a.1 in cc)
named_moves (m ∷ o ∷ ms) (q ∷ qs) [] n a = absurd (let e : None ≡ Some n = a.1 in cc)
named_moves (m ∷ o ∷ ms) (q ∷ qs) (f ∷ fs) n a =
    let at : Position = record { states = qs; filters = fs } in
    let row = get_or m.arcs q [] in
    let ns = named (o ∷ ms) qs fs in
    let before : (l : Named) → Among ns l → Moves (o ∷ ms) qs fs l.combination l.step = λ l b. named_moves (o ∷ ms) qs fs l b in
    let x = of_both (both_step as_is with_part as_is) row ns in
    let y = of_firsts (first_step as_is with_part as_is q f) ns in
    let z = of_row (second_step as_is with_part as_is at) second row in
    elim (among_cases (x ++ y) z n a) [
      | inl g ↦ elim (among_cases x y n g) [
        | inl k ↦
            let r = from_both (both_step as_is with_part as_is) row ns n k in
            subst (λ c. Moves (m ∷ o ∷ ms) (q ∷ qs) (f ∷ fs) c n.step) (sym r.taken.is) (both_moves m (o ∷ ms) q qs f fs r.before.combination r.before.step n.step r.taken.place r.taken.arc (before r.before r.among) r.taken.there r.taken.gives)
        | inr k ↦
            let r = from_firsts (first_step as_is with_part as_is q f) ns n k in
            subst (λ c. Moves (m ∷ o ∷ ms) (q ∷ qs) (f ∷ fs) c n.step) (sym r.is) (first_moves_on m (o ∷ ms) q qs f fs r.before.combination r.before.step n.step (before r.before r.among) r.gives)
      ]
      | inr g ↦
          let r = from_row (second_step as_is with_part as_is at) second row n g in
          subst (λ c. Moves (m ∷ o ∷ ms) (q ∷ qs) (f ∷ fs) c n.step) (sym r.is) (second_moves_on m (o ∷ ms) q qs f fs n.step r.place r.arc r.there r.gives)
    ]

named_found : {ms : List Machine} {qs rs : List ℕ} {fs gs : List Filter} {c : Combination} {i o w : ℕ} → length ms ≡ suc (length fs) → IsMove ms qs fs c i o w rs gs → Among (named ms qs fs) (record { combination = c; step = record { input = i; output = o; weight = w; next = record { states = rs; filters = gs } } })
named_found l (only_moves {m} {q} {k} {a} h) = to_row (λ x. Some (alone x)) only (get_or m.arcs q []) k a (alone a) h refl
named_found l (both_move {ms = []} mv g e) = elim mv [ ]
named_found l (both_move {m} {ms = n ∷ ms} {q} {k} {i} {o} {w} {qs} {rs} {f} {fs} {gs} {c} {a = y} mv g e) =
    let at : Position = record { states = qs; filters = fs } in
    let row = get_or m.arcs q [] in
    let ns = named (n ∷ ms) qs fs in
    let x : Step Position = record { input = i; output = suc o; weight = w; next = record { states = rs; filters = gs } } in
    let s : Step Position = record { input = i; output = y.output; weight = w + y.weight; next = with_part x.next y.next Open Both } in
    let r : Named = record { combination = both c k; step = s } in
    let h = named_found (cc) mv in
    let some : not (suc o == 0) ≡ true = not_from_false (suc o == 0) (ne_eqb (suc o) 0 (λ z. absurd (cc))) in
    let test = and_from (not (suc o == 0)) (suc o == y.input) some (eq-eqb (suc o) y.input (sym e)) in
    let here = to_row (both_step as_is with_part as_is x) (both c) row k y s g (cond-true _ (Some s) None test) in
    let b = of_both (both_step as_is with_part as_is) row ns in
    let d = of_firsts (first_step as_is with_part as_is q f) ns in
    among_left (b ++ d) (of_row (second_step as_is with_part as_is at) second row) r (among_left b d r (to_both (both_step as_is with_part as_is) row ns h.0 (record { combination = c; step = x }) r h.1 here))
named_found l (first_moves {ms = []} mv) = elim mv [ ]
named_found l (first_moves {m} {ms = n ∷ ms} {q} {i} {w} {qs} {rs} {fs} {gs} {c} mv) =
    let at : Position = record { states = qs; filters = fs } in
    let row = get_or m.arcs q [] in
    let ns = named (n ∷ ms) qs fs in
    let x : Step Position = record { input = i; output = 0; weight = w; next = record { states = rs; filters = gs } } in
    let s : Step Position = record { input = i; output = 0; weight = w; next = with_part x.next q Open First } in
    let r : Named = record { combination = first c; step = s } in
    let h = named_found (cc) mv in
    let here = to_firsts (first_step as_is with_part as_is q Open) ns h.0 (record { combination = c; step = x }) s h.1 (cond-true _ (Some s) None (eq-eqb 0 0 refl)) in
    let b = of_both (both_step as_is with_part as_is) row ns in
    let d = of_firsts (first_step as_is with_part as_is q Open) ns in
    among_left (b ++ d) (of_row (second_step as_is with_part as_is at) second row) r (among_right b d r here)
named_found l (second_moves {ms = []} g e) = absurd (cc)
named_found l (second_moves {m} {ms = n ∷ ms} {q} {k} {qs} {f} {fs} {a = y} g e) =
    let at : Position = record { states = qs; filters = fs } in
    let row = get_or m.arcs q [] in
    let ns = named (n ∷ ms) qs fs in
    let s : Step Position = record { input = 0; output = y.output; weight = y.weight; next = with_part at y.next Closed Second } in
    let r : Named = record { combination = second k; step = s } in
    let here = to_row (second_step as_is with_part as_is at) second row k y s g (cond-true _ (Some s) None (eq-eqb y.input 0 e)) in
    among_right (of_both (both_step as_is with_part as_is) row ns ++ of_firsts (first_step as_is with_part as_is q f) ns) (of_row (second_step as_is with_part as_is at) second row) r here

named_apart : (ms : List Machine) (qs : List ℕ) (fs : List Filter) → Apart (named ms qs fs)
named_apart [] qs fs = tt
named_apart (m ∷ []) [] fs = tt
named_apart (m ∷ []) (q ∷ []) [] = apart_row (λ x. Some (alone x)) only (λ i j e. (let same : only i ≡ only j = e in cc)) (get_or m.arcs q [])
named_apart (m ∷ []) (q ∷ []) (f ∷ fs) = tt
named_apart (m ∷ []) (q ∷ p ∷ qs) fs = tt
named_apart (m ∷ o ∷ ms) [] fs = tt
named_apart (m ∷ o ∷ ms) (q ∷ qs) [] = tt
named_apart (m ∷ o ∷ ms) (q ∷ qs) (f ∷ fs) =
    let at : Position = record { states = qs; filters = fs } in
    let row = get_or m.arcs q [] in
    let ns = named (o ∷ ms) qs fs in
    let before : Apart ns = named_apart (o ∷ ms) qs fs in
    let x = of_both (both_step as_is with_part as_is) row ns in
    let y = of_firsts (first_step as_is with_part as_is q f) ns in
    let z = of_row (second_step as_is with_part as_is at) second row in
    let xy : Apart (x ++ y) = apart_append x y (apart_both (both_step as_is with_part as_is) row ns before) (apart_firsts (first_step as_is with_part as_is q f) ns before) (λ u v a b e. (
    let r = from_both (both_step as_is with_part as_is) row ns u a in
    let t = from_firsts (first_step as_is with_part as_is q f) ns v b in
    let no : first t.before.combination ≡ both r.before.combination r.taken.place = sym t.is ∙ (e ∙ r.taken.is) in
    absurd (cc))) in
    apart_append (x ++ y) z xy (apart_row (second_step as_is with_part as_is at) second (λ i j e. (let same : second i ≡ second j = e in cc)) row) (λ u v a b e. (
    let t = from_row (second_step as_is with_part as_is at) second row v b in
    elim (among_cases x y u a) [
      | inl k ↦ (let r = from_both (both_step as_is with_part as_is) row ns u k in let no : second t.place ≡ both r.before.combination r.taken.place = sym t.is ∙ (e ∙ r.taken.is) in absurd (cc))
      | inr k ↦ (let r = from_firsts (first_step as_is with_part as_is q f) ns u k in let no : second t.place ≡ first r.before.combination = sym t.is ∙ (e ∙ r.is) in absurd (cc))
    ]))

pub from_map : {X Y : Type 0} (f : X → Y) (xs : List X) (k : ℕ) (y : Y) → slice_get (map f xs) k ≡ Some y → (x : X) × (slice_get xs k ≡ Some x) × (f x ≡ y)
from_map f [] k y e = absurd (let n : None ≡ Some y = e in cc)
from_map f (x ∷ xs) zero y e = (x, refl, cc)
from_map f (x ∷ xs) (suc k) y e = from_map f xs k y e

pub to_map : {X Y : Type 0} (f : X → Y) (xs : List X) (k : ℕ) (x : X) → slice_get xs k ≡ Some x → slice_get (map f xs) k ≡ Some (f x)
to_map f [] k x e = absurd (let n : None ≡ Some x = e in cc)
to_map f (z ∷ xs) zero x e = (let same : z ≡ x = cc in ap (λ t. Some (f t)) same)
to_map f (z ∷ xs) (suc k) x e = to_map f xs k x e

pub listed : (ms : List Machine) (qs : List ℕ) (fs : List Filter) → IsPlace ms qs fs → Listed ms qs fs
listed ms qs fs p =
    let ns = named ms qs fs in
    let which = λ (n : Named). n.combination in
    record {
      combinations = map which ns;
      count = length-map ns which ∙ (sym (length-map ns (λ (n : Named). n.step)) ∙ ap length (named_steps ms qs fs));
      moves = λ k c s e f.
          let x = from_map which ns k c e in
          let y = from_map (λ (n : Named). n.step) ns k s (ap (λ l. slice_get l k) (named_steps ms qs fs) ∙ f) in
          let both_are : Some x.0 ≡ Some y.0 = sym x.1 ∙ y.1 in
          let same : x.0 ≡ y.0 = cc in
          let mv = named_moves ms qs fs x.0 (k, x.1) in
          subst (λ t. Moves ms qs fs t s) x.2 (subst (Moves ms qs fs x.0.combination) (ap (λ (n : Named). n.step) same ∙ y.2) mv);
      found = λ c i o w rs gs mv. (let a = named_found p.filters mv in (a.0, to_map which ns a.0 _ a.1));
      alone = λ j k c e f.
          let x = from_map which ns j c e in
          let y = from_map which ns k c f in
          apart_at ns (named_apart ms qs fs) j k x.0 y.0 x.1 y.1 (x.2 ∙ sym y.2);
    }

-- each step of the list is a move, and each move a step of it
pub step_moves : (ms : List Machine) (qs : List ℕ) (fs : List Filter) (s : Step Position) → Among (expansion ms qs fs) s → (c : Combination) × IsMove ms qs fs c s.input s.output s.weight s.next.states s.next.filters
step_moves ms qs fs s a =
    let x = from_map (λ (n : Named). n.step) (named ms qs fs) a.0 s (ap (λ l. slice_get l a.0) (named_steps ms qs fs) ∙ a.1) in
    (x.0.combination, subst (Moves ms qs fs x.0.combination) x.2 (named_moves ms qs fs x.0 (a.0, x.1)))

pub moves_step : {ms : List Machine} {qs rs : List ℕ} {fs gs : List Filter} {c : Combination} {i o w : ℕ} → length ms ≡ suc (length fs) → IsMove ms qs fs c i o w rs gs → Among (expansion ms qs fs) (record { input = i; output = o; weight = w; next = record { states = rs; filters = gs } })
moves_step {ms} {qs} {fs} l mv =
    let a = named_found l mv in
    (a.0, ap (λ l. slice_get l a.0) (sym (named_steps ms qs fs)) ∙ to_map (λ (n : Named). n.step) (named ms qs fs) a.0 _ a.1)
