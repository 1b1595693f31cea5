-- What the search keeps from round to round.
use Rattle.std.proofs.Common.{◌≡◌, ◌<◌, ◌≤◌, ℕ, zero, suc, ◌+◌, ◌*◌, ◌^◌, ◌/◌, ◌%◌, Bool, true, false, eqb, List, [], ◌∷◌, ◌++◌, Some, None, slice_get, get_or, length, map, arith, refl, sym, ap, ◌∙◌, subst, inl, inr, length-append}
use Rattle.std.specs.Prelude.{All, Contains}
use Rattle.std.specs.List.{IsDistinct}
use Rattle.std.proofs.lemmas.Bool.{eqb-true}
use Rattle.std.proofs.lemmas.List.{length-map, get_or-map}
use Rattle.std.proofs.lemmas.List.Elements.{Contains-append_right}
use Rattle.std.proofs.lemmas.List.Sorted.{IsPermutation-sym, Contains-permutation}
use Rattle.std.proofs.lemmas.Map.Keys.{IsDistinct-from_apart}
use Rattle.std.proofs.lemmas.Nat.{mul-add-lt, div-mul-add, mod-mul-add}
use Rattle.std.proofs.lemmas.Option.{slice_get-get_or}
use Rattle.weighted_relations.specs.Graphs.{label}
use Rattle.weighted_relations.specs.Least.{Least}
use Rattle.weighted_relations.specs.Machines.{Machine, WellFormed, Reads}
use Rattle.weighted_relations.specs.Relations.{Cascade, IsInput}
use Rattle.weighted_relations.specs.Searches.{Reach, here, on}
use Rattle.weighted_relations.specs.SearchRuns.{Open, LeastWay, Going}
use Rattle.weighted_relations.specs.SearchRunLaws.{contains_first, contains_later, contains_cases, start_going, end_going}
use Rattle.weighted_relations.specs.SearchEnds.{Numbered, few}
use Rattle.state_tuples.specs.declared.tuples.Tuple.{Tuple}
use Rattle.state_tuples.specs.Cascades.{Cascaded, IsOf, first_tuple, tuple_graph, ReadsItsParts}
use Rattle.state_tuples.specs.Bounds.{IsClosed, AreFew}
use Rattle.least_path.specs.declared.node.Node.{Node}
use Rattle.least_path.specs.declared.node.Node.TheVariants.{At, End}
use Rattle.least_path.specs.declared.queue.Entry.{Entry}
use Rattle.least_path.specs.declared.reaching.Search.{Search}
use Rattle.least_path.specs.Texts.{text_of}
use Rattle.least_path.specs.Standings.{settled_count}
use Rattle.least_path.specs.Products.{Joint, Follows, Together}
use Rattle.least_path.specs.Growths.{joint_of, Steps}
use Rattle.least_path.specs.Keeps.{open_of, waits, IsSettled, Kept, Grown, IsEdge, Left, IsTaken}
use Rattle.least_path.proofs.Noting.{count_within}
use Rattle.least_path.proofs.Products.{reads_are_ways}
use Rattle.least_path.proofs.Turns.{same_going, left_going, taken_least, taken_only, taken_count, settled_going}

-- a node within the states of both
abbrev pub Known : Machine → Cascaded → Node → Type 0
Known m c End = Unit {0}
Known m c (At q t) = (q < length m.arcs) × IsOf c t

abbrev pub first_node : Machine → Cascaded → Node
first_node m c = At m.start (first_tuple c)

-- Each settled node adds less than 2 ^ 56 to a weight, and at most one label to an output.
pub record Runs (m : Machine) (c : Cascaded) (s : Search) : Type 0 where
  pub kept : Kept s
  pub going : Going (Steps m c) (first_node m c) (IsSettled s) (waits s)
  pub open_end : IsSettled s End → ⊥
  pub known : (k : ℕ) (v : Node) → slice_get s.nodes k ≡ Some v → Known m c v
  pub light : (d : Open Node) → Contains (waits s) d → d.weight ≤ settled_count s.standings.items * 2 ^ 56
  pub short : (d : Open Node) → Contains (waits s) d → length d.output ≤ settled_count s.standings.items

-- the ways of the search are those of the product
abbrev node_of : Joint Tuple → Node
node_of None = End
node_of (Some p) = At p.0 p.1

module _ (m : Machine) (c : Cascaded) where
  to_joint : {n o : Node} {w : ℕ} {y : List ℕ} → Reach (Steps m c) n o w y → Reach (Together m (tuple_graph c)) (joint_of n) (joint_of o) w y
  to_joint here = here
  to_joint (on {n} {m = o} way edge) = on {n = joint_of n} {m = joint_of o} (to_joint way) edge

  edge_of : (n o : Joint Tuple) (u : ℕ) (z : List ℕ) → Together m (tuple_graph c) n o u z → Steps m c (node_of n) (node_of o) u z
  edge_of None o u z e = absurd e
  edge_of (Some p) None u z e = e
  edge_of (Some p) (Some q) u z e = e

  pub from_joint : {n o : Joint Tuple} {w : ℕ} {y : List ℕ} → Reach (Together m (tuple_graph c)) n o w y → Reach (Steps m c) (node_of n) (node_of o) w y
  from_joint here = here
  from_joint (on {n} {m = o} {w} {u} {y} {z} way edge) = on {n = node_of n} {m = node_of o} (from_joint way) (edge_of n o u z edge)

  -- the readings at the inputs of the source are the ways of the search to the end
  pub read_way : ReadsItsParts c → (x y : List ℕ) (w : ℕ) → IsInput (Reads m) x → Cascade Reads c.parts x y w → Reach (Steps m c) (first_node m c) End w y
  read_way law x y w accepts reads =
      from_joint ((reads_are_ways m (tuple_graph c) m.start (first_tuple c) y w).0 (record { input = x; accepts = accepts; reads = (law x y w).1 reads }))

  pub way_read : ReadsItsParts c → (y : List ℕ) (w : ℕ) → Reach (Steps m c) (first_node m c) End w y → (x : List ℕ) × IsInput (Reads m) x × Cascade Reads c.parts x y w
  way_read law y w way =
      let r = (reads_are_ways m (tuple_graph c) m.start (first_tuple c) y w).1 (to_joint way) in
      (r.input, r.accepts, (law r.input y w).0 r.reads)

label_short : (n : ℕ) → length (label n []) ≤ 1
label_short zero = omega arith
label_short (suc n) = omega arith

-- what an edge leads to
pub record Fitting (m : Machine) (c : Cascaded) (n : Node) (u : ℕ) (z : List ℕ) : Type 0 where
  pub known : Known m c n
  pub light : u < 2 ^ 56
  pub short : length z ≤ 1

-- how many nodes there are at most
abbrev pub most : Machine → (c : Cascaded) → AreFew c → ℕ
most m c f = suc (length m.arcs * f.bound)

abbrev node_code : (c : Cascaded) → AreFew c → Node → ℕ
node_code c f End = 0
node_code c f (At q t) = suc (q * f.bound + f.code t)

numbered : (m : Machine) (c : Cascaded) (f : AreFew c) → Numbered (Known m c) (most m c f) (node_code c f)
numbered m c f = record { below = below; apart = apart } where
  below : (n : Node) → Known m c n → node_code c f n < most m c f
  below End h = omega arith
  below (At q t) h =
      let k : q * f.bound + f.code t < f.bound * length m.arcs = mul-add-lt q f.bound (f.code t) (length m.arcs) h.0 (f.numbered.below t h.1) in
      omega arith

  apart : (a b : Node) → Known m c a → Known m c b → node_code c f a ≡ node_code c f b → a ≡ b
  apart End End h k e = refl
  apart End (At r v) h k e = absurd (omega arith)
  apart (At q t) End h k e = absurd (omega arith)
  apart (At q t) (At r v) h k e =
      let same : q * f.bound + f.code t ≡ r * f.bound + f.code v = omega arith in
      let tl : f.code t < f.bound = f.numbered.below t h.1 in
      let vl : f.code v < f.bound = f.numbered.below v k.1 in
      let states : q ≡ r = sym (div-mul-add q f.bound (f.code t) tl) ∙ ap (λ i. i / f.bound) same ∙ div-mul-add r f.bound (f.code v) vl in
      let codes : f.code t ≡ f.code v = sym (mod-mul-add q f.bound (f.code t) tl) ∙ ap (λ i. i % f.bound) same ∙ mod-mul-add r f.bound (f.code v) vl in
      ap (λ i. At i t) states ∙ ap (At r) (f.numbered.apart t v h.1 k.1 codes)

module _ (m : Machine) (c : Cascaded) (f : AreFew c) (s : Search) (runs : Runs m c s) where
  all_known : All (Known m c) s.nodes
  all_known k d l = runs.known k (get_or s.nodes k d) (slice_get-get_or s.nodes k d l)

  distinct : IsDistinct eqb (map (node_code c f) s.nodes)
  distinct = IsDistinct-from_apart eqb (map (node_code c f) s.nodes) (λ i j d l h.
      let len : length (map (node_code c f) s.nodes) ≡ length s.nodes = length-map s.nodes (node_code c f) in
      let jl : j < length s.nodes = omega (arith, h) in
      let il : i < length s.nodes = omega (arith, l) in
      let x = get_or s.nodes i End in
      let y = get_or s.nodes j End in
      let ei : get_or (map (node_code c f) s.nodes) i d ≡ node_code c f (get_or s.nodes i End) = get_or-map (node_code c f) s.nodes i End d il in
      let ej : get_or (map (node_code c f) s.nodes) j d ≡ node_code c f (get_or s.nodes j End) = get_or-map (node_code c f) s.nodes j End d jl in
      let xi : slice_get s.nodes i ≡ Some (get_or s.nodes i End) = slice_get-get_or s.nodes i End il in
      let yj : slice_get s.nodes j ≡ Some (get_or s.nodes j End) = slice_get-get_or s.nodes j End jl in
      go i j l xi yj (eqb (get_or (map (node_code c f) s.nodes) i d) (get_or (map (node_code c f) s.nodes) j d)) refl ei ej) where
        go : (i j : ℕ) {p q : ℕ} → i < j → slice_get s.nodes i ≡ Some (get_or s.nodes i End) → slice_get s.nodes j ≡ Some (get_or s.nodes j End) → (t : Bool) → eqb p q ≡ t → p ≡ node_code c f (get_or s.nodes i End) → q ≡ node_code c f (get_or s.nodes j End) → eqb p q ≡ false
        go i j {p} {q} l xi yj false e ei ej = e
        go i j {p} {q} l xi yj true e ei ej =
            let same : get_or s.nodes i End ≡ get_or s.nodes j End = (numbered m c f).apart (get_or s.nodes i End) (get_or s.nodes j End) (runs.known i (get_or s.nodes i End) xi) (runs.known j (get_or s.nodes j End) yj) (sym ei ∙ eqb-true p q e ∙ ej) in
            let clash : i ≡ j = runs.kept.apart i j (get_or s.nodes i End) xi (yj ∙ ap Some (sym same)) in
            absurd (omega arith)

  -- the settled nodes are within the nodes, and these are few
  pub count_few : settled_count s.standings.items ≤ most m c f
  count_few =
      let n : length s.nodes ≤ most m c f = few (Known m c) (most m c f) (node_code c f) (numbered m c f) s.nodes all_known distinct in
      let k = count_within s.standings.items in
      let e = runs.kept.even in
      omega arith

module _ (m : Machine) (c : Cascaded) (wf : WellFormed m) (closed : IsClosed c) where
  follows_known : (q i r : ℕ) → q < length m.arcs → Follows m q i r → r < length m.arcs
  follows_known q zero r h f = subst (λ k. k < length m.arcs) (sym f) h
  follows_known q (suc i) r h f = subst (λ k. k < length m.arcs) (sym f.4) (wf.arcs q f.0 f.1 f.2).next

  pub step_fits : (q : ℕ) (t : Tuple) → Known m c (At q t) → (n : Node) (u : ℕ) (z : List ℕ) → Steps m c (At q t) n u z → Fitting m c n u z
  step_fits q t h End u z e = record { known = tt; light = closed.ends t u h.1 e.node; short = subst (λ y. length y ≤ 1) (sym e.output) (omega arith) }
  step_fits q t h (At r v) u z (inl e) = record {
    known = (subst (λ k. k < length m.arcs) (sym e.state) (wf.arcs q e.place e.arc e.is).next, subst (IsOf c) (sym e.node) h.1);
    light = subst (λ k. k < 2 ^ 56) (sym e.weight) (omega arith);
    short = subst (λ y. length y ≤ 1) (sym e.output) (omega arith);
  }
  step_fits q t h (At r v) u z (inr e) =
      let fits = closed.moves t e.place e.arc h.1 e.is in
      record {
        known = (follows_known q e.arc.input r h.0 e.source, subst (IsOf c) (sym e.node) fits.next);
        light = subst (λ k. k < 2 ^ 56) (sym e.weight) fits.weight;
        short = subst (λ y. length y ≤ 1) (sym e.output) (label_short e.arc.output);
      }

  -- after the first node has come to wait
  pub runs_start : (s0 s : Search) → s0.nodes ≡ [] → s0.standings.items ≡ [] → s0.queue.items ≡ [] → Grown s0 s 0 [] (IsEdge (first_node m c) 0 []) → Runs m c s
  runs_start s0 s nodes standings queue grown =
      let none : (n : Node) → IsSettled s n → ⊥ = λ n h.
      let k = (grown.settled n).0 h in
      let at : slice_get [] k.0 ≡ Some n = subst (λ xs. slice_get xs k.0 ≡ Some n) nodes k.1 in
      cc in
      let empty : (d : Open Node) → Contains (waits s0) d → ⊥ = λ d h.
      let k : Contains (map (open_of s0.nodes s0.outputs) []) d = subst (λ xs. Contains (map (open_of s0.nodes s0.outputs) xs) d) queue h in
      omega (arith, k.1) in
      let only : (d : Open Node) → Contains (waits s) d → d ≡ record { node = first_node m c; weight = 0; output = [] } = λ d h. elim (grown.sound d h) [
        | inl k ↦ absurd (empty d k)
        | inr k ↦
            let w : d.weight ≡ 0 = (let a : d.weight ≡ 0 + k.0 = k.3 in let b : k.0 ≡ 0 = k.2.1 in omega arith) in
            let y : d.output ≡ [] = k.4 ∙ k.2.2 in
            ap (λ v. record { node = v; weight = d.weight; output = d.output }) k.2.0 ∙ ap (λ v. record { node = first_node m c; weight = v; output = d.output }) w ∙ ap (λ v. record { node = first_node m c; weight = 0; output = v }) y
      ] in
      let there : Contains (waits s) (record { node = first_node m c; weight = 0; output = [] }) = elim (grown.covered (first_node m c) 0 [] (refl, refl, refl)) [
        | inl h ↦ absurd (none (first_node m c) h)
        | inr h ↦ subst (Contains (waits s)) (only (record { node = first_node m c; weight = h.weight; output = h.output }) h.entry) h.entry
      ] in
      record {
        kept = grown.kept;
        going = same_going (Steps m c) (first_node m c) (IsSettled s) (record { node = first_node m c; weight = 0; output = [] } ∷ []) (waits s)
            (λ d h. elim (contains_cases (record { node = first_node m c; weight = 0; output = [] }) [] d h) [ inl k ↦ absurd (omega (arith, k.1)) | inr k ↦ subst (Contains (waits s)) (sym k) there ])
            (λ d h. subst (Contains (record { node = first_node m c; weight = 0; output = [] } ∷ [])) (sym (only d h)) (contains_first (record { node = first_node m c; weight = 0; output = [] }) []))
            (start_going (Steps m c) (first_node m c) (IsSettled s) none);
        open_end = none End;
        known = λ k v h. elim (grown.new_nodes k v h) [
          | inl i ↦ (let at : slice_get [] k ≡ Some v = subst (λ xs. slice_get xs k ≡ Some v) nodes i in cc)
          | inr i ↦ subst (Known m c) (sym i.2.0) (wf.start, closed.start)
        ];
        light = λ d h. subst (λ (o : Open Node). o.weight ≤ settled_count s.standings.items * 2 ^ 56) (sym (only d h)) (omega arith);
        short = λ d h. subst (λ (o : Open Node). length o.output ≤ settled_count s.standings.items) (sym (only d h)) (omega arith);
      }

  module _ (law : ReadsItsParts c) (old : Search) (runs : Runs m c old) where
    pub runs_none : Left old [] → Least (Cascade Reads c.parts) (IsInput (Reads m)) None
    runs_none left x y w accepts reads =
        let going = left_going (Steps m c) (first_node m c) old [] left runs.going in
        end_going (Steps m c) (first_node m c) (IsSettled old) going End runs.open_end w y (read_way m c law x y w accepts reads)

    module _ (taken : Search) (e : Entry) (is : IsTaken old taken e) where
      own : Contains (waits old) (open_of old.nodes old.outputs e)
      own = Contains-permutation (is.left.gone ++ open_of old.nodes old.outputs e ∷ waits taken) (waits old) (open_of old.nodes old.outputs e) (IsPermutation-sym (waits old) (is.left.gone ++ open_of old.nodes old.outputs e ∷ waits taken) is.left.moves) (Contains-append_right is.left.gone (open_of old.nodes old.outputs e ∷ waits taken) (open_of old.nodes old.outputs e) (contains_first (open_of old.nodes old.outputs e) (waits taken)))

      rest : (d : Open Node) → Contains (waits taken) d → Contains (waits old) d
      rest d h = Contains-permutation (is.left.gone ++ open_of old.nodes old.outputs e ∷ waits taken) (waits old) d (IsPermutation-sym (waits old) (is.left.gone ++ open_of old.nodes old.outputs e ∷ waits taken) is.left.moves) (Contains-append_right is.left.gone (open_of old.nodes old.outputs e ∷ waits taken) d (contains_later (open_of old.nodes old.outputs e) (waits taken) d h))

      pub entry_light : e.weight ≤ settled_count old.standings.items * 2 ^ 56
      entry_light = runs.light (open_of old.nodes old.outputs e) own

      pub entry_short : length (text_of old.outputs e.output) ≤ settled_count old.standings.items
      entry_short = runs.short (open_of old.nodes old.outputs e) own

      pub entry_known : Known m c (get_or old.nodes e.node End)
      entry_known = runs.known e.node (get_or old.nodes e.node End) (slice_get-get_or old.nodes e.node End is.place)

      pub runs_found : get_or old.nodes e.node End ≡ End → Least (Cascade Reads c.parts) (IsInput (Reads m)) (Some (e.weight, text_of old.outputs e.output))
      runs_found at =
          let way : LeastWay (Steps m c) (first_node m c) End e.weight (text_of old.outputs e.output) = subst (λ v. LeastWay (Steps m c) (first_node m c) v e.weight (text_of old.outputs e.output)) at (taken_least (Steps m c) (first_node m c) old taken e runs.kept is runs.going) in
          record {
            reads = way_read m c law (text_of old.outputs e.output) e.weight way.way;
            least = λ x z v accepts reads. way.least v z (read_way m c law x z v accepts reads);
          }

      -- one more is settled
      pub taken_more_count : settled_count taken.standings.items ≡ settled_count old.standings.items + 1
      taken_more_count = taken_count (Steps m c) (first_node m c) old taken e runs.kept is runs.going

      pub runs_more : (q : ℕ) (t : Tuple) → get_or old.nodes e.node End ≡ At q t → (new : Search) → Grown taken new e.weight (text_of old.outputs e.output) (Steps m c (At q t)) → Runs m c new
      runs_more q t at new grown =
          let known : Known m c (At q t) = subst (Known m c) at entry_known in
          let grown' : Grown taken new e.weight (text_of old.outputs e.output) (Steps m c (get_or old.nodes e.node End)) = subst (λ v. Grown taken new e.weight (text_of old.outputs e.output) (Steps m c v)) (sym at) grown in
          let n = settled_count old.standings.items in
          let count : settled_count new.standings.items ≡ settled_count old.standings.items + 1 = grown.count ∙ taken_more_count in
          record {
            kept = grown.kept;
            going = settled_going (Steps m c) (first_node m c) old taken e runs.kept is runs.going new grown';
            open_end = λ h. elim (taken_only (Steps m c) (first_node m c) old taken e runs.kept is runs.going End ((grown.settled End).0 h)) [
              | inl k ↦ runs.open_end k
              | inr k ↦ (let f : End ≡ At q t = k ∙ at in cc)
            ];
            known = λ k v h. elim (grown.new_nodes k v h) [
              | inl i ↦ runs.known k v (subst (λ xs. slice_get xs k ≡ Some v) is.nodes i)
              | inr i ↦ (step_fits q t known v i.0 i.1 i.2).known
            ];
            light = λ d h. elim (grown.sound d h) [
              | inl i ↦ (let l = runs.light d (rest d i) in omega arith)
              | inr i ↦ (let f : i.0 < 2 ^ 56 = (step_fits q t known d.node i.0 i.1 i.2).light in let l : e.weight ≤ settled_count old.standings.items * 2 ^ 56 = entry_light in let w : d.weight ≡ e.weight + i.0 = i.3 in omega arith)
            ];
            short = λ d h. elim (grown.sound d h) [
              | inl i ↦ (let l = runs.short d (rest d i) in omega arith)
              | inr i ↦
                  let f : length i.1 ≤ 1 = (step_fits q t known d.node i.0 i.1 i.2).short in
                  let l : length (text_of old.outputs e.output) ≤ settled_count old.standings.items = entry_short in
                  let w : length d.output ≡ length (text_of old.outputs e.output) + length i.1 = ap length i.4 ∙ length-append (text_of old.outputs e.output) i.1 in
                  omega arith
            ];
          }

      pub count_more : (q : ℕ) (t : Tuple) (new : Search) → Grown taken new e.weight (text_of old.outputs e.output) (Steps m c (At q t)) → settled_count new.standings.items ≡ settled_count old.standings.items + 1
      count_more q t new grown = grown.count ∙ taken_more_count
