-- The ways from a state are followed, arc by arc.
use Rattle.std.specs.Prelude.{◌≡◌, ◌<◌, ◌≤◌, ◌^◌, ℕ, zero, suc, ◌+◌, List, [], ◌∷◌, ◌++◌, Option, Some, None, length, get_or, slice_get}
use Rattle.std.specs.List.{Contains}
use Rattle.std.proofs.Common.{refl, sym, ◌∙◌, ap, subst, inl, inr, arith, append-nil}
use Rattle.std.proofs.lemmas.Bool.{cases_lt}
use Rattle.std.proofs.lemmas.List.Elements.{Contains-append_left, Contains-push_cases}
use Rattle.std.proofs.lemmas.Option.{slice_get_within}
use Rattle.weighted_relations.specs.declared.Arc.{Arc}
use Rattle.weighted_relations.specs.Graphs.{label}
use Rattle.weighted_relations.specs.Machines.{Machine, IsArc, WellFormed, final_of}
use Rattle.state_table.specs.Numbers.{Keeps}
use Rattle.state_table.proofs.Numbering.{keeps_refl, keeps_push, pushed_cases}
use Rattle.reading_first.specs.declared.parts.Part.{Part}
use Rattle.reading_first.specs.declared.parts.Part.TheVariants.{At, Ended}
use Rattle.reading_first.specs.declared.expands.Way.{Way}
use Rattle.reading_first.specs.Ways.{Silent, here, on, Move, reads, ends}
use Rattle.reading_first.specs.Shapes.{Says, IsMove, Has, Moves, Fit, IsSmall}
use Rattle.reading_first.specs.Expanding.{TextOf, nothing, more, Growing, standing, IsWay, IsFound, IsFollowed, IsDone, Expanding}
use Rattle.reading_first.proofs.Chains.{before_kept, shorter, first_text}

-- more ways, parts and arcs
pub record Grown (e : Growing) (parts : List Part) (e' : Growing) (parts' : List Part) : Type 0 where
  pub ways : Keeps e.ways e'.ways
  pub keeps : Keeps parts parts'
  pub row : (x : Arc) → Contains e.row x → Contains e'.row x

text_kept : (ways ways' : List Way) → Keeps ways ways' → {k : ℕ} {u : List ℕ} → TextOf ways k u → TextOf ways' k u
text_kept ways ways' keep nothing = nothing
text_kept ways ways' keep (more {k} {u} {w} l h told) = more l (keep.kept k w h) (text_kept ways ways' keep told)

text_same : (ways : List Way) {k k' : ℕ} {u u' : List ℕ} → TextOf ways k u → TextOf ways k' u' → k' ≡ k → u ≡ u'
text_same ways nothing other e = sym (first_text ways other e)
text_same ways (more {k} {u} {w} l h told) other e =
    let s = shorter ways other w (subst (λ n. 0 < n) (sym e) l) (subst (λ n. slice_get ways n ≡ Some w) (sym e) h) in
    ap (λ t. t ++ label w.written []) (text_same ways told s.told refl) ∙ sym s.is

pub says_kept : (parts parts' : List Part) (x : Arc) (i : ℕ) (t : List ℕ) (v : ℕ) (p : Part) → Keeps parts parts' → Says parts x i t v p → Says parts' x i t v p
says_kept parts parts' x i t v p keeps s = record { reads = s.reads; costs = s.costs; rest = s.rest; writes = s.writes; leads = before_kept parts parts' keeps x.next s.rest p s.leads }

pub move_kept : (m : Machine) (q : ℕ) (parts parts' : List Part) (x : Arc) → Keeps parts parts' → IsMove m q parts x → IsMove m q parts' x
move_kept m q parts parts' x keeps g = record { input = g.input; text = g.text; weight = g.weight; to = g.to; move = g.move; says = says_kept parts parts' x g.input g.text g.weight g.to keeps g.says }

module _ (e e' : Growing) (parts parts' : List Part) (g : Grown e parts e' parts') where
  found_kept : (k i o v : ℕ) (p : Part) → IsFound e parts k i o v p → IsFound e' parts' k i o v p
  found_kept k i o v p f = record {
    text = f.text;
    told = text_kept e.ways e'.ways g.ways f.told;
    has = record { arc = f.has.arc; is = g.row f.has.arc f.has.is; says = says_kept parts parts' f.has.arc i (f.text ++ label o []) v p g.keeps f.has.says };
  }

  followed_kept : (k : ℕ) (w : Way) (a : Arc) → IsFollowed e parts k w a → IsFollowed e' parts' k w a
  followed_kept k w a f = record {
    silent = λ z.
        let l = f.silent z in
        record { place = l.place; way = l.way; is = g.ways.kept l.place l.way l.is; some = l.some; before = l.before; written = l.written; weight = l.weight; state = l.state };
    reads = λ some. found_kept k a.input a.output (w.weight + a.weight) (At a.next) (f.reads some);
  }

  way_kept : (m : Machine) (q k : ℕ) (w : Way) → IsWay m q e.ways k w → IsWay m q e'.ways k w
  way_kept m q k w s = record { places = s.places; text = s.text; is = s.is; told = text_kept e.ways e'.ways g.ways s.told; some = s.some; within = s.within; light = s.light }

  module _ (m : Machine) (d j : ℕ) (w : Way) (had : Expanding m e parts d j) (at : slice_get e.ways d ≡ Some w) (was : (k : ℕ) (x : Way) → k ≤ d → slice_get e'.ways k ≡ Some x → slice_get e.ways k ≡ Some x) where
    the_way : (k : ℕ) (x : Way) → k ≡ d → slice_get e'.ways k ≡ Some x → w ≡ x
    the_way k x same h =
        let l : k ≤ d = omega arith in
        let f : Some w ≡ Some x = sym at ∙ ap (slice_get e.ways) (sym same) ∙ was k x l h in
        cc

    -- one more arc
    next_arc : (a : Arc) → IsArc m.arcs w.state j a → IsFollowed e' parts' d w a → (k : ℕ) (x : Way) (i : ℕ) (b : Arc) → IsDone d (j + 1) k i → slice_get e'.ways k ≡ Some x → IsArc m.arcs x.state i b → IsFollowed e' parts' k x b
    next_arc a arc new k x i b done h there = elim done [
      | inl l ↦ followed_kept k x b (had.followed k x i b (inl l) (was k x (let n : k ≤ d = omega arith in n) h) there)
      | inr r ↦ elim (cases_lt i j) [
        | inl l ↦ followed_kept k x b (had.followed k x i b (inr (r.0, l)) (was k x (let n : k ≤ d = omega (arith, r.0) in n) h) there)
        | inr l ↦
            let s : w ≡ x = the_way k x r.0 h in
            let n : i ≡ j = omega (arith, l, r.1) in
            let f : Some a ≡ Some b = sym arc ∙ ap (λ (y : Way). slice_get (get_or m.arcs y.state []) j) s ∙ ap (slice_get (get_or m.arcs x.state [])) (sym n) ∙ there in
            let c : a ≡ b = cc in
            subst (λ k. IsFollowed e' parts' k x b) (sym r.0) (subst (λ y. IsFollowed e' parts' d y b) s (subst (λ b. IsFollowed e' parts' d w b) c new))
      ]
    ]

    ended_kept : (k : ℕ) (x : Way) (f : ℕ) → k < d → 0 < k → slice_get e'.ways k ≡ Some x → final_of m.finals x.state ≡ Some f → IsFound e' parts' k 0 0 (x.weight + f) Ended
    ended_kept k x f l some h end = found_kept k 0 0 (x.weight + f) Ended (had.ended k x f l some (was k x (let n : k ≤ d = omega arith in n) h) end)

    -- all arcs
    all_arcs : length (get_or m.arcs w.state []) ≤ j → (k : ℕ) (x : Way) (i : ℕ) (b : Arc) → IsDone (d + 1) 0 k i → slice_get e'.ways k ≡ Some x → IsArc m.arcs x.state i b → IsFollowed e' parts' k x b
    all_arcs all k x i b done h there = elim done [
      | inl l ↦ elim (cases_lt k d) [
        | inl low ↦ followed_kept k x b (had.followed k x i b (inl low) (was k x (let n : k ≤ d = omega arith in n) h) there)
        | inr high ↦
            let same : k ≡ d = omega arith in
            let s : w ≡ x = the_way k x same h in
            let n : i < length (get_or m.arcs x.state []) = slice_get_within (get_or m.arcs x.state []) i b there in
            let c : length (get_or m.arcs w.state []) ≡ length (get_or m.arcs x.state []) = ap (λ (y : Way). length (get_or m.arcs y.state [])) s in
            let low : i < j = omega arith in
            followed_kept k x b (had.followed k x i b (inr (same, low)) (was k x (let n : k ≤ d = omega arith in n) h) there)
      ]
      | inr r ↦ absurd (omega (arith, r.1))
    ]

    next_end : (0 < d → (f : ℕ) → final_of m.finals w.state ≡ Some f → IsFound e' parts' d 0 0 (w.weight + f) Ended) → (k : ℕ) (x : Way) (f : ℕ) → k < d + 1 → 0 < k → slice_get e'.ways k ≡ Some x → final_of m.finals x.state ≡ Some f → IsFound e' parts' k 0 0 (x.weight + f) Ended
    next_end new k x f l some h end = elim (cases_lt k d) [
      | inl low ↦ ended_kept k x f low some h end
      | inr high ↦
          let same : k ≡ d = omega arith in
          let s : w ≡ x = the_way k x same h in
          let pos : 0 < d = omega arith in
          subst (λ k. IsFound e' parts' k 0 0 (x.weight + f) Ended) (sym same)
          (subst (λ (y : Way). IsFound e' parts' d 0 0 (y.weight + f) Ended) s (new pos f (ap (λ (y : Way). final_of m.finals y.state) s ∙ end)))
    ]

-- a way that is one arc longer
module _ (m : Machine) (e : Growing) (parts : List Part) (d j : ℕ) (w v : Way) (a : Arc) (wf : WellFormed m) (had : Expanding m e parts d j) (at : slice_get e.ways d ≡ Some w) (arc : IsArc m.arcs w.state j a) (silent : a.input ≡ 0) (light : w.weight + a.weight < 2 ^ 54) (is : v ≡ record { state = a.next; weight = w.weight + a.weight; written = a.output; before = d }) where
  abbrev with_way : Growing
  with_way = record { from = e.from; ways = e.ways ++ v ∷ []; row = e.row }

  way_grown : Grown e parts with_way parts
  way_grown = record { ways = keeps_push e.ways v; keeps = keeps_refl parts; row = λ x h. h }

  last_there : {X : Type 0} (xs : List X) (y : X) → slice_get (xs ++ y ∷ []) (length xs) ≡ Some y
  last_there [] y = refl
  last_there (z ∷ xs) y = last_there xs y

  new_way : IsWay m e.from with_way.ways (length e.ways) v
  new_way =
      let q = had.are d w at in
      let l : d < length e.ways = slice_get_within e.ways d w at in
      let some : 0 < length e.ways = omega arith in
      let told : TextOf with_way.ways v.before q.text = subst (λ n. TextOf with_way.ways n q.text) (sym (ap (λ (x : Way). x.before) is)) (text_kept e.ways with_way.ways way_grown.ways q.told) in
      record {
        places = j ∷ q.places;
        text = q.text ++ label v.written [];
        is = subst (λ (x : Way). Silent m e.from (j ∷ q.places) (q.text ++ label x.written []) x.weight x.state) (sym is) (on q.is arc silent);
        told = more some (last_there e.ways v) told;
        some = λ l. (j, q.places, refl);
        within = subst (λ (x : Way). x.state < length m.arcs) (sym is) (wf.arcs w.state j a arc).next;
        light = subst (λ (x : Way). x.weight < 2 ^ 54) (sym is) light;
      }

  pub push_way : Expanding m with_way parts d (j + 1)
  push_way =
      let l : d < length e.ways = slice_get_within e.ways d w at in
      let was : (k : ℕ) (x : Way) → k ≤ d → slice_get with_way.ways k ≡ Some x → slice_get e.ways k ≡ Some x = λ k x n h. elim (pushed_cases e.ways v k x h) [ inl q ↦ q | inr q ↦ absurd (omega (arith, q.1)) ] in
      let followed : IsFollowed with_way parts d w a = record {
        silent = λ z. record {
          place = length e.ways;
          way = v;
          is = last_there e.ways v;
          some = (let n : 0 < length e.ways = omega arith in n);
          before = ap (λ (x : Way). x.before) is;
          written = ap (λ (x : Way). x.written) is;
          weight = ap (λ (x : Way). x.weight) is;
          state = ap (λ (x : Way). x.state) is;
        };
        reads = λ some. absurd (some silent);
      } in
      record {
        first = way_grown.ways.kept 0 (standing e.from) had.first;
        are = λ k x h. elim (pushed_cases e.ways v k x h) [
          | inl q ↦ way_kept e with_way parts parts way_grown m e.from k x (had.are k x q)
          | inr q ↦ subst (λ k. IsWay m e.from with_way.ways k x) (sym q.1) (subst (IsWay m e.from with_way.ways (length e.ways)) (sym q.0) new_way)
        ];
        backwards = record {
          before = λ k x some h. elim (pushed_cases e.ways v k x h) [
            | inl q ↦ had.backwards.before k x some q
            | inr q ↦
                let b : x.before ≡ d = ap (λ (y : Way). y.before) (q.0 ∙ is) in
                let n : k ≡ length e.ways = q.1 in
                let r : x.before < k = omega arith in
                r
          ];
          labels = λ k x h. elim (pushed_cases e.ways v k x h) [
            | inl q ↦ had.backwards.labels k x q
            | inr q ↦ subst (λ o. o ≤ 257) (ap (λ (y : Way). y.written) (sym (q.0 ∙ is))) (wf.arcs w.state j a arc).output
          ];
        };
        sound = had.sound;
        small = had.small;
        followed = next_arc e with_way parts parts way_grown m d j w had at was a arc followed;
        ended = ended_kept e with_way parts parts way_grown m d j w had at was;
        fit = had.fit;
      }

-- an arc more
module _ (m : Machine) (e : Growing) (parts parts' : List Part) (d j : ℕ) (x : Arc) (had : Expanding m e parts d j) (keeps : Keeps parts parts') (fit : Fit m parts') (move : IsMove m e.from parts' x) (small : IsSmall x) where
  abbrev with_arc : Growing
  with_arc = record { from = e.from; ways = e.ways; row = e.row ++ x ∷ [] }

  arc_grown : Grown e parts with_arc parts'
  arc_grown = record { ways = keeps_refl e.ways; keeps = keeps; row = λ y h. Contains-append_left e.row (x ∷ []) y h }

  same_ways : (k : ℕ) (w : Way) → k ≤ d → slice_get with_arc.ways k ≡ Some w → slice_get e.ways k ≡ Some w
  same_ways k w l h = h

  sounds : (y : Arc) → Contains with_arc.row y → IsMove m e.from parts' y
  sounds y h = elim (Contains-push_cases e.row x y h) [ inl k ↦ move_kept m e.from parts parts' y keeps (had.sound y k) | inr k ↦ subst (IsMove m e.from parts') k move ]

  smalls : (y : Arc) → Contains with_arc.row y → IsSmall y
  smalls y h = elim (Contains-push_cases e.row x y h) [ inl k ↦ had.small y k | inr k ↦ subst IsSmall k small ]

  pub push_reading : (w : Way) (a : Arc) → slice_get e.ways d ≡ Some w → IsArc m.arcs w.state j a → IsFollowed with_arc parts' d w a → Expanding m with_arc parts' d (j + 1)
  push_reading w a at arc new = record {
    first = had.first;
    are = had.are;
    backwards = had.backwards;
    sound = sounds;
    small = smalls;
    followed = next_arc e with_arc parts parts' arc_grown m d j w had at same_ways a arc new;
    ended = ended_kept e with_arc parts parts' arc_grown m d j w had at same_ways;
    fit = fit;
  }

  pub push_end : (w : Way) → slice_get e.ways d ≡ Some w → length (get_or m.arcs w.state []) ≤ j → (0 < d → (f : ℕ) → final_of m.finals w.state ≡ Some f → IsFound with_arc parts' d 0 0 (w.weight + f) Ended) → Expanding m with_arc parts' (d + 1) 0
  push_end w at all new = record {
    first = had.first;
    are = had.are;
    backwards = had.backwards;
    sound = sounds;
    small = smalls;
    followed = all_arcs e with_arc parts parts' arc_grown m d j w had at same_ways all;
    ended = next_end e with_arc parts parts' arc_grown m d j w had at same_ways new;
    fit = fit;
  }

-- a way that doesn't end
pub no_end_here : (m : Machine) (e : Growing) (parts : List Part) (d j : ℕ) (w : Way) → Expanding m e parts d j → slice_get e.ways d ≡ Some w → length (get_or m.arcs w.state []) ≤ j → (0 < d → (f : ℕ) → final_of m.finals w.state ≡ Some f → ⊥) → Expanding m e parts (d + 1) 0
no_end_here m e parts d j w had at all none =
    let g : Grown e parts e parts = record { ways = keeps_refl e.ways; keeps = keeps_refl parts; row = λ y h. h } in
    let was : (k : ℕ) (x : Way) → k ≤ d → slice_get e.ways k ≡ Some x → slice_get e.ways k ≡ Some x = λ k x l h. h in
    record {
      first = had.first;
      are = had.are;
      backwards = had.backwards;
      sound = had.sound;
      small = had.small;
      followed = all_arcs e e parts parts g m d j w had at was all;
      ended = next_end e e parts parts g m d j w had at was (λ l f h. absurd (none l f h));
      fit = had.fit;
    }

-- where a way without input stands in the list
pub record Place (e : Growing) (ks u : List ℕ) (v s : ℕ) : Type 0 where
  pub at : ℕ
  pub way : Way
  pub is : slice_get e.ways at ≡ Some way
  pub told : TextOf e.ways at u
  pub weight : way.weight ≡ v
  pub state : way.state ≡ s
  pub some : (k : ℕ) (js : List ℕ) → ks ≡ k ∷ js → 0 < at

-- all ways are followed
module _ (m : Machine) (e : Growing) (parts : List Part) (d : ℕ) (had : Expanding m e parts d 0) (all : length e.ways ≤ d) where
  place_of : {ks u : List ℕ} {v s : ℕ} → Silent m e.from ks u v s → Place e ks u v s
  place_of here = record { at = 0; way = standing e.from; is = had.first; told = nothing; weight = refl; state = refl; some = λ k js f. absurd (cc) }
  place_of (on {ks} {u} {v} {s} {k} {a} way h z) =
      let r = place_of way in
      let l : r.at < length e.ways = slice_get_within e.ways r.at r.way r.is in
      let low : r.at < d = omega arith in
      let arc : IsArc m.arcs r.way.state k a = ap (λ q. slice_get (get_or m.arcs q []) k) r.state ∙ h in
      let f = (had.followed r.at r.way k a (inl low) r.is arc).silent z in
      let told : TextOf e.ways f.place (u ++ label f.way.written []) = more f.some f.is (subst (λ n. TextOf e.ways n u) (sym f.before) r.told) in
      record {
        at = f.place;
        way = f.way;
        is = f.is;
        told = subst (λ o. TextOf e.ways f.place (u ++ label o [])) f.written told;
        weight = f.weight ∙ ap (λ n. n + a.weight) r.weight;
        state = f.state;
        some = λ k js g. f.some;
      }

  found : {i : ℕ} {t : List ℕ} {v : ℕ} {p : Part} → Move m e.from i t v p → Has parts e.row i t v p
  found (reads {u} {v} {s} {a} k ks way h some) =
      let r = place_of way in
      let l : r.at < length e.ways = slice_get_within e.ways r.at r.way r.is in
      let low : r.at < d = omega arith in
      let arc : IsArc m.arcs r.way.state k a = ap (λ q. slice_get (get_or m.arcs q []) k) r.state ∙ h in
      let f = (had.followed r.at r.way k a (inl low) r.is arc).reads some in
      subst (λ t. Has parts e.row a.input (t ++ label a.output []) (v + a.weight) (At a.next)) (text_same e.ways f.told r.told refl)
      (subst (λ n. Has parts e.row a.input (f.text ++ label a.output []) (n + a.weight) (At a.next)) r.weight f.has)
  found (ends {u} {v} {s} {w} k ks way h) =
      let r = place_of way in
      let l : r.at < length e.ways = slice_get_within e.ways r.at r.way r.is in
      let low : r.at < d = omega arith in
      let f = had.ended r.at r.way w low (r.some k ks refl) r.is (ap (final_of m.finals) r.state ∙ h) in
      subst (λ t. Has parts e.row 0 t (v + w) Ended) (append-nil f.text ∙ text_same e.ways f.told r.told refl)
      (subst (λ n. Has parts e.row 0 (f.text ++ []) (n + w) Ended) r.weight f.has)

  pub all_moves : (last : Option ℕ) → last ≡ final_of m.finals e.from → Moves m e.from parts e.row last
  all_moves last end = record { sound = had.sound; found = λ i t v p mv. found mv; end = end }

-- the first way
pub expanding_first : (m : Machine) (q : ℕ) (parts : List Part) (e : Growing) → q < length m.arcs → Fit m parts → e ≡ record { from = q; ways = standing q ∷ []; row = [] } → Expanding m e parts 0 0
expanding_first m q parts e within fit is =
    subst (λ e. Expanding m e parts 0 0) (sym is)
    (record {
      first = refl;
      are = λ k w h. one k w h;
      backwards = record { before = λ k w l h. absurd (let z : k ≡ 0 = at_zero k w h in omega arith); labels = λ k w h. (let s = is_standing k w h in subst (λ (y : Way). y.written ≤ 257) s (let z : 0 ≤ 257 = omega arith in z)) };
      sound = λ x h. absurd (omega (arith, h.1));
      small = λ x h. absurd (omega (arith, h.1));
      followed = λ k w i a l h there. elim l [ inl n ↦ absurd (omega (arith, n)) | inr n ↦ absurd (omega (arith, n.1)) ];
      ended = λ k w f l some h end. absurd (omega (arith, l));
      fit = fit;
    })
  where
    at_zero : (k : ℕ) (w : Way) → slice_get (standing q ∷ []) k ≡ Some w → k ≡ 0
    at_zero zero w h = refl
    at_zero (suc k) w h = absurd (let f : None ≡ Some w = h in cc)

    is_standing : (k : ℕ) (w : Way) → slice_get (standing q ∷ []) k ≡ Some w → standing q ≡ w
    is_standing zero w h = let f : Some (standing q) ≡ Some w = h in cc
    is_standing (suc k) w h = absurd (let f : None ≡ Some w = h in cc)

    one : (k : ℕ) (w : Way) → slice_get (standing q ∷ []) k ≡ Some w → IsWay m q (standing q ∷ []) k w
    one k w h =
        let z : k ≡ 0 = at_zero k w h in
        subst (λ k. IsWay m q (standing q ∷ []) k w) (sym z) (subst (IsWay m q (standing q ∷ []) 0) (is_standing k w h) (record {
          places = [];
          text = [];
          is = here;
          told = nothing;
          some = λ l. absurd (omega (arith, l));
          within = within;
          light = (let n : 0 < 2 ^ 54 = omega arith in n);
        }))
