-- What the search keeps from turn to turn.
use Rattle.std.proofs.Common.{◌≡◌, ◌<◌, ◌≤◌, ◌⊎◌, ℕ, ◌+◌, ◌-◌, ◌*◌, ◌^◌, ◌/◌, ◌%◌, List, [], ◌∷◌, ◌++◌, length, drop, get_or, map, Some, None, eqb, arith, refl, sym, ap, ◌∙◌, subst, inl, inr, length-append, length-drop}
use Rattle.std.specs.Prelude.{Contains, All, sum_by}
use Rattle.std.specs.List.{IsDistinct}
use Rattle.std.specs.List.Sorted.{IsPermutation}
use Rattle.std.proofs.Math.Arith.{digits_lt, digits_div, digits_mod}
use Rattle.std.proofs.lemmas.List.{map-append, length-map, get_or-map}
use Rattle.std.proofs.lemmas.List.Elements.{All-nil, All-cons, All-head, All-tail, All-map, All-push, All-contains, All-weaker, All-append, Contains-push, Contains-push_cases, Contains-append_left, Contains-append_right, Contains-append_cases}
use Rattle.std.proofs.lemmas.List.Sorted.{IsPermutation-map, All-permutation, length_permutation}
use Rattle.std.proofs.lemmas.List.Sums.{get_or-le-sum_by}
use Rattle.weighted_relations.specs.Least.{Below, Least}
use Rattle.weighted_relations.specs.Order.{below_refl}
use Rattle.weighted_relations.specs.Machines.{Machine, WellFormed, Reads, graph}
use Rattle.weighted_relations.specs.Searches.{Edges, Under}
use Rattle.weighted_relations.specs.SearchPaths.{Spot, Along, reads_are_ways}
use Rattle.weighted_relations.specs.SearchRuns.{Open, LeastWay, Going, IsFirst, Waits}
use Rattle.weighted_relations.specs.SearchRunLaws.{start_going, drop_going, settle_going, first_least, end_going}
use Rattle.weighted_relations.specs.SearchEnds.{Numbered, few, distinct_more}
use Rattle.search_tests.specs.declared.entries.Entry.{Entry}
use Rattle.search_tests.specs.declared.entries.Pair.{Pair}
use Rattle.search_tests.specs.declared.entries.Place.{Place}
use Rattle.search_tests.specs.declared.entries.Place.TheVariants.{At, End}
use Rattle.search_tests.specs.Entries.{Before, spot_of, open_of, IsWithin, IsSettled}
use Rattle.search_tests.specs.Growth.{Led, Grown}
use Rattle.search_tests.proofs.Growing.{edge_light}

-- a pair within the line and the states
pub record IsPair (positions states : ℕ) (p : Pair) : Type 0 where
  pub position : p.position < positions
  pub state : p.state < states

abbrev pub IsPlace : ℕ → ℕ → Place → Type 0
IsPlace positions states (At p) = IsPair positions states p
IsPlace positions states End = Unit {0}

-- An entry within them. Each settled pair adds at most one arc to a weight.
pub record IsEntry (positions states settled : ℕ) (e : Entry) : Type 0 where
  pub place : IsPlace positions states e.place
  pub light : e.weight ≤ settled * 2 ^ 54

-- the code of a pair
abbrev pub code : ℕ → Pair → ℕ
code states p = p.position * states + p.state

abbrev pub edges : Machine → Edges (Spot ℕ)
edges m = Along (graph m)

abbrev pub first_spot : Machine → List ℕ → Spot ℕ
first_spot m line = Some (line, m.start)

abbrev pub waits : List ℕ → List Entry → List (Open (Spot ℕ))
waits line waiting = map (open_of line) waiting

pub record Run (m : Machine) (line : List ℕ) (settled : List Pair) (waiting : List Entry) : Type 0 where
  pub going : Going (edges m) (first_spot m line) (IsSettled line settled) (waits line waiting)
  pub entries : All (IsEntry (length line + 1) (length m.arcs) (length settled)) waiting
  pub pairs : All (IsPair (length line + 1) (length m.arcs)) settled
  pub distinct : IsDistinct eqb (map (code (length m.arcs)) settled)

-- how many pairs there are, and how much is still to do
abbrev pub pair_count : Machine → List ℕ → ℕ
pair_count m line = (length line + 1) * length m.arcs

abbrev pub todo : Machine → List ℕ → List Pair → List Entry → ℕ
todo m line settled waiting = (pair_count m line - length settled) * (sum_by length m.arcs + 2) + length waiting

numbered : (n states : ℕ) → Numbered (IsPair n states) (n * states) (code states)
numbered n states = record {
  below = λ p h. digits_lt h.position h.state;
  apart = λ p q h k e.
      let position : p.position ≡ q.position = sym (digits_div p.position h.state) ∙ ap (λ t. t / states) e ∙ digits_div q.position k.state in
      let state : p.state ≡ q.state = sym (digits_mod p.position h.state) ∙ ap (λ t. t % states) e ∙ digits_mod q.position k.state in
      ap (λ t. record { position = t; state = p.state }) position ∙ ap (λ t. record { position = q.position; state = t }) state;
}

drop_apart : (line : List ℕ) (i j : ℕ) → i ≤ length line → j ≤ length line → drop i line ≡ drop j line → i ≡ j
drop_apart line i j h k e =
    let a : length line - i ≡ length line - j = sym (length-drop i line) ∙ ap length e ∙ length-drop j line in
    omega arith

falls : (n l l' b w w' : ℕ) → l' ≡ l + 1 → l' ≤ n → w' ≤ w + b → (n - l') * (b + 2) + w' < (n - l) * (b + 2) + w
falls n l l' b w w' more room h =
    let e : n - l ≡ (n - l') + 1 = omega arith in
    rw e (omega arith)

contains_map : {X Y : Type 0} (f : X → Y) (xs : List X) (x : X) → Contains xs x → Contains (map f xs) (f x)
contains_map f xs x h = (h.0, (let e : length (map f xs) ≡ length xs = length-map xs f in omega (arith, e, h.1)), get_or-map f xs h.0 x (f x) h.1 ∙ ap f h.2)

-- an entry that an edge leads to
led_entry : (m : Machine) → WellFormed m → (line : List ℕ) (i s n : ℕ) (from : Entry) → from.weight ≤ n * 2 ^ 54 → (e : Entry) → Led line from (edges m (Some (drop i line, s))) e → IsEntry (length line + 1) (length m.arcs) (n + 1) e
led_entry m sound line i s n from light e led = record {
  place = go e.place led.within led.edge;
  light = (let more : led.added < 2 ^ 54 = edge_light m sound (drop i line) s (spot_of line e.place) led.added led.text led.edge in
      let is : e.weight ≡ from.weight + led.added = led.weight in
      omega arith);
} where
  go : (place : Place) → IsWithin line place → edges m (Some (drop i line, s)) (spot_of line place) led.added led.text → IsPlace (length line + 1) (length m.arcs) place
  go End h k = tt
  go (At p) h k = record { position = omega (arith, h); state = subst (λ t. t < length m.arcs) (sym k.4) (sound.arcs s k.0 k.1 k.2).next }

-- at the start
pub run_start : (m : Machine) → WellFormed m → (line : List ℕ) (waiting : List Entry) (e : Entry) → waiting ≡ e ∷ [] → e.weight ≡ 0 → e.output.items ≡ [] → e.place ≡ At (record { position = 0; state = m.start }) → Run m line [] waiting
unfolding IsDistinct
run_start m sound line waiting e only weight output place =
    let first : waits line waiting ≡ record { node = first_spot m line; weight = 0; output = [] } ∷ [] =
    (ap (waits line) only
    ∙ ap (λ n. record { node = n; weight = e.weight; output = e.output.items } ∷ []) (ap (spot_of line) place)
    ∙ ap (λ w. record { node = first_spot m line; weight = w; output = e.output.items } ∷ []) weight
    ∙ ap (λ y. record { node = first_spot m line; weight = 0; output = y } ∷ []) output) in
    let none : (n : Spot ℕ) → IsSettled line [] n → ⊥ = elim [ None ↦ λ h. h | Some p ↦ λ h. omega (arith, h.1.1) ] in
    let P : Entry → Type 0 = IsEntry (length line + 1) (length m.arcs) 0 in
    let inside : P e = record { place = subst (IsPlace (length line + 1) (length m.arcs)) (sym place) (record { position = omega arith; state = sound.start }); light = omega (arith, weight) } in
    record {
      going = subst (Going (edges m) (first_spot m line) (IsSettled line [])) (sym first) (start_going (edges m) (first_spot m line) (IsSettled line []) none);
      entries = subst (All P) (sym only) (All-cons P e [] inside (All-nil P));
      pairs = All-nil (IsPair (length line + 1) (length m.arcs));
      distinct = tt;
    }

module _ (m : Machine) (line : List ℕ) (settled : List Pair) (waiting rest : List Entry) (e : Entry) (run : Run m line settled waiting) (moves : IsPermutation waiting (e ∷ rest)) (first : All (Before e) waiting) where
  moved : IsPermutation (waits line waiting) (open_of line e ∷ waits line rest)
  moved = IsPermutation-map (open_of line) waiting (e ∷ rest) moves

  is_first : IsFirst (open_of line e) (waits line waiting)
  is_first = All-map (λ (d : Open (Spot ℕ)). Below e.weight e.output.items d.weight d.output) (open_of line) waiting first

  pub first_entry : IsEntry (length line + 1) (length m.arcs) (length settled) e
  first_entry = All-head (IsEntry (length line + 1) (length m.arcs) (length settled)) e rest (All-permutation (IsEntry (length line + 1) (length m.arcs) (length settled)) waiting (e ∷ rest) moves run.entries)

  rest_entries : All (IsEntry (length line + 1) (length m.arcs) (length settled)) rest
  rest_entries = All-tail (IsEntry (length line + 1) (length m.arcs) (length settled)) e rest (All-permutation (IsEntry (length line + 1) (length m.arcs) (length settled)) waiting (e ∷ rest) moves run.entries)

  -- an entry whose pair is settled is dropped
  pub run_drop : (p : Pair) → e.place ≡ At p → Contains settled p → Run m line settled rest
  run_drop p place there =
      let at : IsSettled line settled (spot_of line e.place) = subst (λ q. IsSettled line settled (spot_of line q)) (sym place) (p.position, there, refl) in
      record {
        going = drop_going (edges m) (first_spot m line) (IsSettled line settled) (waits line waiting) (waits line rest) (open_of line e) moved run.going at;
        entries = rest_entries;
        pairs = run.pairs;
        distinct = run.distinct;
      }

  own : (p : Pair) → e.place ≡ At p → IsPair (length line + 1) (length m.arcs) p
  own p place = subst (IsPlace (length line + 1) (length m.arcs)) place first_entry.place

  fresh_at : (p : Pair) → e.place ≡ At p → (Contains settled p → ⊥) → IsSettled line settled (spot_of line e.place) → ⊥
  fresh_at p place fresh h =
      let k : IsSettled line settled (Some (drop p.position line, p.state)) = subst (λ q. IsSettled line settled (spot_of line q)) place h in
      let this : p.position < length line + 1 = (own p place).position in
      let that : k.0 < length line + 1 = (All-contains (IsPair (length line + 1) (length m.arcs)) settled (record { position = k.0; state = p.state }) run.pairs k.1).position in
      let same : k.0 ≡ p.position = drop_apart line k.0 p.position (omega arith) (omega arith) (sym k.2) in
      fresh (subst (λ t. Contains settled (record { position = t; state = p.state })) same k.1)

  -- the first entry is the least reading, where it is at the end
  pub run_answer : e.place ≡ End → Least (Reads m) (λ x. x ≡ line) (Some (e.weight, e.output.items))
  run_answer place =
      let fresh : IsSettled line settled (spot_of line e.place) → ⊥ = λ h. subst (λ p. IsSettled line settled (spot_of line p)) place h in
      let way : LeastWay (edges m) (first_spot m line) (spot_of line e.place) e.weight e.output.items = first_least (edges m) (first_spot m line) (IsSettled line settled) (waits line waiting) (waits line rest) (open_of line e) moved run.going fresh is_first in
      let end : LeastWay (edges m) (first_spot m line) None e.weight e.output.items = subst (λ p. LeastWay (edges m) (first_spot m line) (spot_of line p) e.weight e.output.items) place way in
      record {
        reads = (line, refl, (reads_are_ways (graph m) line e.output.items e.weight).1 end.way);
        least = λ x z v same r. end.least v z ((reads_are_ways (graph m) line z v).0 (subst (λ t. Reads m t z v) same r));
      }

  -- a pair is settled
  module _ (sound : WellFormed m) (p : Pair) (place : e.place ≡ At p) (fresh : Contains settled p → ⊥) (settled' : List Pair) (more : settled' ≡ settled ++ p ∷ []) (waiting' : List Entry) (most : ℕ) (grown : Grown line settled' rest waiting' e most (edges m (Some (drop p.position line, p.state)))) where
    grows : (n : Spot ℕ) → IsSettled line settled n → IsSettled line settled' n
    grows None h = h
    grows (Some n) h = (h.0, subst (λ l. Contains l (record { position = h.0; state = n.1 })) (sym more) (Contains-append_left settled (p ∷ []) (record { position = h.0; state = n.1 }) h.1), h.2)

    there : IsSettled line settled' (spot_of line e.place)
    there = subst (λ q. IsSettled line settled' (spot_of line q)) (sym place) (p.position, subst (λ l. Contains l p) (sym more) (Contains-push settled p), refl)

    only : (n : Spot ℕ) → IsSettled line settled' n → IsSettled line settled n ⊎ (n ≡ spot_of line e.place)
    only None h = absurd h
    only (Some n) h = elim (Contains-push_cases settled p (record { position = h.0; state = n.1 }) (subst (λ l. Contains l (record { position = h.0; state = n.1 })) more h.1)) [
      | inl k ↦ inl (h.0, k, h.2)
      | inr k ↦
          let a : p.position ≡ h.0 = ap (λ (q : Pair). q.position) k in
          let b : p.state ≡ n.1 = ap (λ (q : Pair). q.state) k in
          let c : n.0 ≡ drop p.position line = h.2 ∙ ap (λ t. drop t line) (sym a) in
          inr (ap (λ t. Some (t, n.1)) c ∙ ap (λ t. Some (drop p.position line, t)) (sym b) ∙ ap (spot_of line) (sym place))
    ]

    at : spot_of line e.place ≡ Some (drop p.position line, p.state)
    at = ap (spot_of line) place

    now : waits line waiting' ≡ waits line rest ++ waits line grown.opened
    now = ap (waits line) grown.items ∙ map-append (open_of line) rest grown.opened

    -- what waited still does
    stays : (d : Open (Spot ℕ)) → Contains (waits line rest) d → Contains (waits line waiting') d
    stays d h = subst (λ l. Contains l d) (sym now) (Contains-append_left (waits line rest) (waits line grown.opened) d h)

    covered : (n : Spot ℕ) (u : ℕ) (z : List ℕ) → edges m (spot_of line e.place) n u z → IsSettled line settled' n ⊎ Under (Waits (waits line waiting')) n (e.weight + u) (e.output.items ++ z)
    covered n u z k = elim (grown.covered n u z (subst (λ a. edges m a n u z) at k)) [
      | inl s ↦ inl s
      | inr o ↦
          let d : Open (Spot ℕ) = record { node = n; weight = e.weight + u; output = e.output.items ++ z } in
          let c : Contains (waits line grown.opened) d = subst (Contains (waits line grown.opened)) o.2 (contains_map (open_of line) grown.opened o.0 o.1) in
          inr (record { weight = e.weight + u; output = e.output.items ++ z; entry = subst (λ l. Contains l d) (sym now) (Contains-append_right (waits line rest) (waits line grown.opened) d c); below = below_refl (e.weight + u) (e.output.items ++ z) })
    ]

    -- what came to wait is led to by an edge
    opened : (n : Spot ℕ) (v : ℕ) (x : List ℕ) → Waits (waits line waiting') n v x → Waits (waits line rest) n v x ⊎ ((u : ℕ) × (z : List ℕ) × edges m (spot_of line e.place) n u z × (v ≡ e.weight + u) × (x ≡ e.output.items ++ z))
    opened n v x h =
        let d : Open (Spot ℕ) = record { node = n; weight = v; output = x } in
        let P : Open (Spot ℕ) → Type 0 = λ o. (u : ℕ) × (z : List ℕ) × edges m (spot_of line e.place) o.node u z × (o.weight ≡ e.weight + u) × (o.output ≡ e.output.items ++ z) in
        let all : All P (waits line grown.opened) = All-map P (open_of line) grown.opened (All-weaker (Led line e (edges m (Some (drop p.position line, p.state)))) (λ (o : Entry). P (open_of line o)) (λ o led. (led.added, led.text, subst (λ a. edges m a (spot_of line o.place) led.added led.text) (sym at) led.edge, led.weight, led.output)) grown.opened grown.led) in
        elim (Contains-append_cases (waits line rest) (waits line grown.opened) d (subst (λ l. Contains l d) now h)) [
          | inl k ↦ inl k
          | inr k ↦ inr (All-contains P (waits line grown.opened) d all k)
        ]

    pub run_settle : Run m line settled' waiting'
    run_settle =
        let count : length settled' ≡ length settled + 1 = ap length more ∙ length-append settled (p ∷ []) in
        let P : Entry → Type 0 = IsEntry (length line + 1) (length m.arcs) (length settled + 1) in
        let old : All P rest = All-weaker (IsEntry (length line + 1) (length m.arcs) (length settled)) P (λ d h. record { place = h.place; light = omega (arith, h.light) }) rest rest_entries in
        let new : All P grown.opened = All-weaker (Led line e (edges m (Some (drop p.position line, p.state)))) P (led_entry m sound line p.position p.state (length settled) e first_entry.light) grown.opened grown.led in
        record {
          going = settle_going (edges m) (first_spot m line) (IsSettled line settled) (waits line waiting) (waits line rest) (open_of line e) moved run.going (fresh_at p place fresh) is_first (IsSettled line settled') (waits line waiting') grows there only (λ n v x h. stays (record { node = n; weight = v; output = x }) h) covered opened;
          entries = subst (λ k. All (IsEntry (length line + 1) (length m.arcs) k) waiting') (sym count) (subst (All P) (sym grown.items) (All-append P rest grown.opened old new));
          pairs = subst (All (IsPair (length line + 1) (length m.arcs))) (sym more) (All-push (IsPair (length line + 1) (length m.arcs)) settled p run.pairs (own p place));
          distinct = subst (λ l. IsDistinct eqb (map (code (length m.arcs)) l)) (sym more) (distinct_more (IsPair (length line + 1) (length m.arcs)) (pair_count m line) (code (length m.arcs)) (numbered (length line + 1) (length m.arcs)) settled p run.pairs (own p place) fresh run.distinct);
        }

    -- settling leaves less to do
    pub less_settle : most ≡ length (get_or m.arcs p.state []) + 1 → todo m line settled' waiting' < todo m line settled waiting
    less_settle bound =
        let next : Run m line settled' waiting' = run_settle in
        let count : length settled' ≡ length settled + 1 = ap length more ∙ length-append settled (p ∷ []) in
        let room : length settled' ≤ pair_count m line = few (IsPair (length line + 1) (length m.arcs)) (pair_count m line) (code (length m.arcs)) (numbered (length line + 1) (length m.arcs)) settled' next.pairs next.distinct in
        let a : length (e ∷ rest) ≡ length waiting = length_permutation waiting (e ∷ rest) moves in
        let b : length waiting' ≡ length rest + length grown.opened = ap length grown.items ∙ length-append rest grown.opened in
        let c : length (get_or m.arcs p.state []) ≤ sum_by length m.arcs = get_or-le-sum_by length m.arcs p.state [] (own p place).state in
        falls (pair_count m line) (length settled) (length settled') (sum_by length m.arcs) (length waiting) (length waiting') count room (omega (arith, grown.few))

  -- dropping leaves less to do
  pub less_drop : todo m line settled rest < todo m line settled waiting
  less_drop =
      let a : length (e ∷ rest) ≡ length waiting = length_permutation waiting (e ∷ rest) moves in
      omega arith

-- where nothing waits, there is no reading
pub run_none : (m : Machine) (line : List ℕ) (settled : List Pair) → Run m line settled [] → Least (Reads m) (λ x. x ≡ line) None
run_none m line settled run = λ x y w same r. end_going (edges m) (first_spot m line) (IsSettled line settled) run.going None (λ h. h) w y ((reads_are_ways (graph m) line y w).0 (subst (λ t. Reads m t y w) same r))
