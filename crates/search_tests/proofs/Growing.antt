-- Open entries as they grow.
use Rattle.std.proofs.Common.{◌≡◌, ◌<◌, ◌≤◌, ◌⊎◌, ℕ, zero, suc, ◌+◌, ◌^◌, List, [], ◌∷◌, ◌++◌, length, take, drop, get_or, Option, Some, None, arith, refl, sym, ap, ◌∙◌, subst, inl, inr, append_assoc, length-append}
use Rattle.std.specs.Prelude.{Contains}
use Rattle.std.proofs.lemmas.List.{append-nil, take_more, take_all}
use Rattle.std.proofs.lemmas.List.Elements.{All-nil, All-cons, All-append, All-weaker, Contains-append_left, Contains-append_right, Contains-push, Contains-push_cases}
use Rattle.std.proofs.lemmas.Option.{slice_get-get_or, slice_get_within, get_or_from_slice_get}
use Rattle.weighted_relations.specs.declared.Arc.{Arc}
use Rattle.weighted_relations.specs.Graphs.{label}
use Rattle.weighted_relations.specs.Machines.{Machine, WellFormed, graph, final_of}
use Rattle.weighted_relations.specs.SearchPaths.{Spot, Along}
use Rattle.weighted_relations.specs.SearchRunLaws.{contains_first}
use Rattle.search_tests.specs.declared.entries.Entry.{Entry}
use Rattle.search_tests.specs.declared.entries.Pair.{Pair}
use Rattle.search_tests.specs.declared.entries.Place.TheVariants.{At, End}
use Rattle.search_tests.specs.Entries.{spot_of, open_of, IsWithin, IsSettled}
use Rattle.search_tests.specs.Growth.{Leading, AlongArc, AlongAny, AtEnd, Led, Grown}

led_as : (line : List ℕ) (from : Entry) (D E : Leading) → ((n : Spot ℕ) (u : ℕ) (z : List ℕ) → D n u z → E n u z) → (e : Entry) → Led line from D e → Led line from E e
led_as line from D E f e h = record { within = h.within; added = h.added; text = h.text; edge = f _ h.added h.text h.edge; weight = h.weight; output = h.output }

module _ (line : List ℕ) (settled : List Pair) (from : Entry) where
  -- nothing is opened, since what is led to is settled
  pub grown_none : (old new : List Entry) (most : ℕ) (D : Leading) → new ≡ old → ((n : Spot ℕ) (u : ℕ) (z : List ℕ) → D n u z → IsSettled line settled n) → Grown line settled old new from most D
  grown_none old new most D same there = record {
    opened = [];
    items = same ∙ sym (append-nil old);
    few = omega arith;
    led = All-nil (Led line from D);
    covered = λ n u z d. inl (there n u z d);
  }

  -- one entry is opened
  pub grown_one : (old new : List Entry) (D : Leading) (e : Entry) → new ≡ old ++ e ∷ [] → Led line from D e
      → ((n : Spot ℕ) (u : ℕ) (z : List ℕ) → D n u z → open_of line e ≡ record { node = n; weight = from.weight + u; output = from.output.items ++ z })
      → Grown line settled old new from 1 D
  grown_one old new D e items led only = record {
    opened = e ∷ [];
    items = items;
    few = omega arith;
    led = All-cons (Led line from D) e [] led (All-nil (Led line from D));
    covered = λ n u z d. inr (e, contains_first e [], only n u z d);
  }

  -- one growth after another
  pub grown_then : (a b c : List Entry) (k l : ℕ) (D1 D2 D : Leading) → Grown line settled a b from k D1 → Grown line settled b c from l D2
      → ((n : Spot ℕ) (u : ℕ) (z : List ℕ) → D n u z → D1 n u z ⊎ D2 n u z)
      → ((n : Spot ℕ) (u : ℕ) (z : List ℕ) → D1 n u z → D n u z)
      → ((n : Spot ℕ) (u : ℕ) (z : List ℕ) → D2 n u z → D n u z)
      → Grown line settled a c from (k + l) D
  grown_then a b c k l D1 D2 D f g split first second =
      let count : length (f.opened ++ g.opened) ≡ length f.opened + length g.opened = length-append f.opened g.opened in
      record {
        opened = f.opened ++ g.opened;
        items = g.items ∙ ap (λ t. t ++ g.opened) f.items ∙ append_assoc a f.opened g.opened;
        few = omega (arith, f.few, g.few);
        led = All-append (Led line from D) f.opened g.opened (All-weaker (Led line from D1) (Led line from D) (led_as line from D1 D first) f.opened f.led) (All-weaker (Led line from D2) (Led line from D) (led_as line from D2 D second) g.opened g.led);
        covered = λ n u z d. elim (split n u z d) [
          | inl h ↦ elim (f.covered n u z h) [ inl s ↦ inl s | inr s ↦ inr (s.0, Contains-append_left f.opened g.opened s.0 s.1, s.2) ]
          | inr h ↦ elim (g.covered n u z h) [ inl s ↦ inl s | inr s ↦ inr (s.0, Contains-append_right f.opened g.opened s.0 s.1, s.2) ]
        ];
      }

  -- one arc more
  pub along_more : (a b c : List Entry) (x : List ℕ) (row : List Arc) (i : ℕ) (d : Arc) → i < length row
      → Grown line settled a b from i (AlongAny x (take i row)) → Grown line settled b c from 1 (AlongArc x (get_or row i d)) → Grown line settled a c from (i + 1) (AlongAny x (take (i + 1) row))
  along_more a b c x row i d l f g =
      let arc : Arc = get_or row i d in
      subst (λ r. Grown line settled a c from (i + 1) (AlongAny x r)) (sym (take_more row i d l)) (grown_then a b c i 1 (AlongAny x (take i row)) (AlongArc x arc) (AlongAny x (take i row ++ arc ∷ [])) f g
      (λ n u z e. elim (Contains-push_cases (take i row) arc e.0 e.1) [
        | inl k ↦ inl (e.0, k, e.2)
        | inr k ↦ inr (subst (λ t. AlongArc x t n u z) (sym k) e.2)
      ])
      (λ n u z e. (e.0, Contains-append_left (take i row) (arc ∷ []) e.0 e.1, e.2))
      (λ n u z e. (arc, Contains-push (take i row) arc, e)))

  -- all edges of a node
  pub edges_grown : (m : Machine) (a b c : List Entry) (k l : ℕ) (x : List ℕ) (s : ℕ)
      → Grown line settled a b from k (AlongAny x (get_or m.arcs s [])) → Grown line settled b c from l (AtEnd x (final_of m.finals s)) → Grown line settled a c from (k + l) (Along (graph m) (Some (x, s)))
  edges_grown m a b c k l x s f g =
      let row : List Arc = get_or m.arcs s [] in
      grown_then a b c k l (AlongAny x row) (AtEnd x (final_of m.finals s)) (Along (graph m) (Some (x, s))) f g split first second where
        split : (n : Spot ℕ) (u : ℕ) (z : List ℕ) → Along (graph m) (Some (x, s)) n u z → AlongAny x (get_or m.arcs s []) n u z ⊎ AtEnd x (final_of m.finals s) n u z
        split None u z e = inr e
        split (Some q) u z e = inl (e.1, (e.0, slice_get_within (get_or m.arcs s []) e.0 e.1 e.2, get_or_from_slice_get (get_or m.arcs s []) e.0 e.1 e.1 e.2), (e.3, e.4, e.5, e.6))

        first : (n : Spot ℕ) (u : ℕ) (z : List ℕ) → AlongAny x (get_or m.arcs s []) n u z → Along (graph m) (Some (x, s)) n u z
        first None u z e = absurd e.2
        first (Some q) u z e = (e.1.0, e.0, slice_get-get_or (get_or m.arcs s []) e.1.0 e.0 e.1.1 ∙ ap Some e.1.2, e.2.0, e.2.1, e.2.2, e.2.3)

        second : (n : Spot ℕ) (u : ℕ) (z : List ℕ) → AtEnd x (final_of m.finals s) n u z → Along (graph m) (Some (x, s)) n u z
        second None u z e = e
        second (Some q) u z e = absurd e

-- all arcs of a state, and then its end
pub node_grown : (m : Machine) (line : List ℕ) (settled settled' : List Pair) (from : Entry) (a b c : List Entry) (x : List ℕ) (s : ℕ) (row : List Arc) (i : ℕ) → settled' ≡ settled → row ≡ get_or m.arcs s [] → length row ≤ i → i ≤ length row
    → Grown line settled a b from i (AlongAny x (take i row)) → Grown line settled b c from 1 (AtEnd x (final_of m.finals s)) → Grown line settled' a c from (length (get_or m.arcs s []) + 1) (Along (graph m) (Some (x, s)))
node_grown m line settled settled' from a b c x s row i same is l h f g =
    let count : i ≡ length row = omega arith in
    let all : Grown line settled a b from (length row) (AlongAny x row) = subst (λ r. Grown line settled a b from (length row) (AlongAny x r)) (take_all i row l) (subst (λ k. Grown line settled a b from k (AlongAny x (take i row))) count f) in
    let whole : Grown line settled a c from (length (get_or m.arcs s []) + 1) (Along (graph m) (Some (x, s))) = edges_grown line settled from m a b c (length (get_or m.arcs s [])) 1 x s (subst (λ r. Grown line settled a b from (length r) (AlongAny x r)) is all) g in
    subst (λ t. Grown line t a c from (length (get_or m.arcs s []) + 1) (Along (graph m) (Some (x, s)))) (sym same) whole

-- an edge weighs less than 2^54
pub edge_light : (m : Machine) → WellFormed m → (x : List ℕ) (s : ℕ) (n : Spot ℕ) (u : ℕ) (z : List ℕ) → Along (graph m) (Some (x, s)) n u z → u < 2 ^ 54
edge_light m sound x s None u z e = sound.weights s u e.1
edge_light m sound x s (Some q) u z e = subst (λ t. t < 2 ^ 54) (sym e.5) (sound.arcs s e.0 e.1 e.2).weight

label_same : (n : ℕ) (x y : List ℕ) → label n x ≡ label n y → x ≡ y
label_same zero x y e = e
label_same (suc n) x y e = cc

module _ (line : List ℕ) (settled : List Pair) (from : Entry) (x : List ℕ) (a : Arc) (i : ℕ) (goes : x ≡ label a.input (drop i line)) where
  -- where an arc leads to a settled pair
  pub arc_settled : Contains settled (record { position = i; state = a.next }) → (n : Spot ℕ) (u : ℕ) (z : List ℕ) → AlongArc x a n u z → IsSettled line settled n
  arc_settled there None u z d = absurd d
  arc_settled there (Some n) u z d = (i, subst (λ s. Contains settled (record { position = i; state = s })) (sym d.1) there, label_same a.input n.0 (drop i line) (sym d.0 ∙ goes))

  -- where it leads to an entry that is opened
  pub arc_opened : (e : Entry) → i ≤ length line → e.weight ≡ from.weight + a.weight → e.output.items ≡ from.output.items ++ label a.output [] → e.place ≡ At (record { position = i; state = a.next })
      → (old new : List Entry) → new ≡ old ++ e ∷ [] → Grown line settled old new from 1 (AlongArc x a)
  arc_opened e within weight output place old new items =
      let at : spot_of line e.place ≡ Some (drop i line, a.next) = ap (spot_of line) place in
      grown_one line settled from old new (AlongArc x a) e items
      (record {
        within = subst (IsWithin line) (sym place) within;
        added = a.weight;
        text = label a.output [];
        edge = subst (λ n. AlongArc x a n a.weight (label a.output [])) (sym at) (goes, refl, refl, refl);
        weight = weight;
        output = output;
      })
      only where
        only : (n : Spot ℕ) (u : ℕ) (z : List ℕ) → AlongArc x a n u z → open_of line e ≡ record { node = n; weight = from.weight + u; output = from.output.items ++ z }
        only None u z d = absurd d
        only (Some n) u z d =
            let rest : drop i line ≡ n.0 = label_same a.input (drop i line) n.0 (sym goes ∙ d.0) in
            let node : spot_of line e.place ≡ Some n = ap (spot_of line) place ∙ ap (λ r. Some (r, a.next)) rest ∙ ap (λ s. Some (n.0, s)) (sym d.1) in
            ap (λ (m : Spot ℕ). record { node = m; weight = e.weight; output = e.output.items }) node
            ∙ ap (λ w. record { node = Some n; weight = w; output = e.output.items }) (weight ∙ ap (λ v. from.weight + v) (sym d.2))
            ∙ ap (λ y. record { node = Some n; weight = from.weight + u; output = y }) (output ∙ ap (λ t. from.output.items ++ t) (sym d.3))

-- the end, where nothing is left of the line
pub end_opened : (line : List ℕ) (settled : List Pair) (from : Entry) (x : List ℕ) (last : Option ℕ) (v : ℕ) (e : Entry) → x ≡ [] → last ≡ Some v → e.weight ≡ from.weight + v → e.output.items ≡ from.output.items ++ [] → e.place ≡ End
    → (old new : List Entry) → new ≡ old ++ e ∷ [] → Grown line settled old new from 1 (AtEnd x last)
end_opened line settled from x last v e none final weight output place old new items =
    grown_one line settled from old new (AtEnd x last) e items
    (record {
      within = subst (IsWithin line) (sym place) tt;
      added = v;
      text = [];
      edge = subst (λ (n : Spot ℕ). AtEnd x last n v []) (sym (ap (spot_of line) place)) (none, final, refl);
      weight = weight;
      output = output;
    })
    only where
      only : (n : Spot ℕ) (u : ℕ) (z : List ℕ) → AtEnd x last n u z → open_of line e ≡ record { node = n; weight = from.weight + u; output = from.output.items ++ z }
      only (Some n) u z d = absurd d
      only None u z d =
          let same : v ≡ u = (let f : Some v ≡ Some u = sym final ∙ d.1 in cc) in
          ap (λ (m : Spot ℕ). record { node = m; weight = e.weight; output = e.output.items }) (ap (spot_of line) place)
          ∙ ap (λ w. record { node = None; weight = w; output = e.output.items }) (weight ∙ ap (λ t. from.weight + t) same)
          ∙ ap (λ y. record { node = None; weight = from.weight + u; output = y }) (output ∙ ap (λ t. from.output.items ++ t) (sym d.2))

-- no end, where something is left of the line, or the state isn't final
pub end_none : (line : List ℕ) (settled : List Pair) (from : Entry) (x : List ℕ) (last : Option ℕ) → ((0 < length x) ⊎ (last ≡ None)) → (old new : List Entry) → new ≡ old → Grown line settled old new from 1 (AtEnd x last)
end_none line settled from x last none old new same = grown_none line settled from old new 1 (AtEnd x last) same there where
  there : (n : Spot ℕ) (u : ℕ) (z : List ℕ) → AtEnd x last n u z → IsSettled line settled n
  there (Some n) u z d = absurd d
  there None u z d = absurd (elim none [
    | inl l ↦ let e : length x ≡ 0 = ap length d.0 in omega arith
    | inr f ↦ let e : None ≡ Some u = sym f ∙ d.1 in cc
  ])
