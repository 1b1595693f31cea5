-- What a search by lists keeps as nodes are taken, and why its end is the least.
use Rattle.std.proofs.Common.{◌≡◌, ◌≢◌, ◌<◌, ◌≤◌, ◌⊎◌, ℕ, ◌+◌, ◌*◌, ◌^◌, List, [], ◌∷◌, ◌++◌, Some, None, slice_get, set, length, arith, refl, sym, ap, ◌∙◌, subst, inl, inr, append_assoc, length-append, length-set}
use Rattle.std.specs.Prelude.{All, Contains}
use Rattle.std.specs.Vec.{with_item}
use Rattle.std.proofs.lemmas.Bool.{cases_eq}
use Rattle.std.proofs.lemmas.List.{get_or-set_same, get_or-set_other}
use Rattle.std.proofs.lemmas.List.Elements.{All-head, All-tail}
use Rattle.weighted_relations.specs.Least.{Below, Least}
use Rattle.weighted_relations.specs.Order.{below_refl}
use Rattle.weighted_relations.specs.Machines.{Machine, WellFormed, Reads}
use Rattle.weighted_relations.specs.Relations.{Cascade, IsInput}
use Rattle.weighted_relations.specs.Searches.{Entries, Reach, here, on, Under, Kept as Searched}
use Rattle.weighted_relations.specs.SearchLaws.{answer, none, under_more}
use Rattle.weighted_relations.specs.SearchRunLaws.{contains_cases}
use Rattle.state_tuples.specs.declared.tuples.Tuple.{Tuple}
use Rattle.state_tuples.specs.Cascades.{Cascaded, ReadsItsParts}
use Rattle.state_tuples.specs.Bounds.{IsClosed}
use Rattle.least_path.specs.declared.node.Node.{Node}
use Rattle.least_path.specs.declared.node.Node.TheVariants.{At, End}
use Rattle.least_path.specs.declared.queue.Entry.{Entry}
use Rattle.least_path.specs.declared.marks.Mark.{Mark}
use Rattle.least_path.specs.declared.marks.Mark.TheVariants.{Unmet, Waiting, Done}
use Rattle.least_path.specs.declared.relaxing.Relaxed.{Relaxed}
use Rattle.least_path.specs.Texts.{text_of}
use Rattle.least_path.specs.Waiting.{Fits}
use Rattle.least_path.specs.Marks.{mark_of, best_of}
use Rattle.least_path.specs.Growths.{Steps}
use Rattle.least_path.specs.Keeps.{IsEdge}
use Rattle.least_path.specs.Ending.{CanEnd, Every}
use Rattle.least_path.specs.Passing.{LedOn, Passes, Stays, UnderOn}
use Rattle.least_path.specs.Relaxing.{Marked, IsMet, IsDone, Waits, Kept, Gained, IsBest}
use Rattle.least_path.proofs.Onward.{StepsOn, Ending, ending_cases, reach_on, reach_from}
use Rattle.least_path.proofs.PassedOn.{PassedFits, passed_fits, passed_on}
use Rattle.least_path.proofs.Passing.{AllDone, Either, not_all_done, passing_kept, reach_passed, stayed, under_on_as, unstay_under}
use Rattle.least_path.proofs.Rounds.{Known, first_node, read_way, way_read, step_fits}

-- After so many nodes were taken, with these on the lists. An edge adds less than 2 ^ 56 to a weight, and at most one label to an output; each
-- node that is taken leads on by one edge, and passes over 4,096 at most.
pub record Runs (m : Machine) (c : Cascaded) (s : Relaxed) (lists : List ℕ) (taken : ℕ) : Type 0 where
  pub kept : Kept s
  pub start : Under (IsDone s) (first_node m c) 0 [] ⊎ Under (Waits s) (first_node m c) 0 []
  pub edges : (n o : Node) (w u : ℕ) (y z : List ℕ) → IsDone s n w y → Steps m c n o u z → CanEnd m c o → UnderOn (Passes (Steps m c)) (IsMet s) o (w + u) (y ++ z)
  pub reached : (n : Node) (w : ℕ) (y : List ℕ) → IsMet s n w y → Reach (Steps m c) (first_node m c) n w y
  pub open_end : (w : ℕ) (y : List ℕ) → IsDone s End w y → ⊥
  pub known : (k : ℕ) (v : Node) → slice_get s.nodes k ≡ Some v → Known m c v
  pub listed : (k : ℕ) (b : Entry) → mark_of s.marks.items k ≡ Waiting b → (slice_get s.nodes k ≡ Some End) ⊎ Contains lists k
  pub light : (n : Node) (w : ℕ) (y : List ℕ) → IsMet s n w y → w ≤ taken * (4097 * 2 ^ 56)
  pub short : (n : Node) (w : ℕ) (y : List ℕ) → IsMet s n w y → length y ≤ taken * 4097

-- what is met is done or waits
met_cases : (s : Relaxed) (n : Node) (w : ℕ) (y : List ℕ) → IsMet s n w y → IsDone s n w y ⊎ Waits s n w y
met_cases s n w y h = go (mark_of s.marks.items h.number) refl h.mark where
  go : (t : Mark) → mark_of s.marks.items h.number ≡ t → best_of t ≡ Some h.way → IsDone s n w y ⊎ Waits s n w y
  go Unmet e f = absurd (cc)
  go (Waiting b) e f = (let same : b ≡ h.way = cc in inr (record { number = h.number; way = h.way; node = h.node; mark = e ∙ ap Waiting same; weight = h.weight; output = h.output }))
  go (Done b) e f = (let same : b ≡ h.way = cc in inl (record { number = h.number; way = h.way; node = h.node; mark = e ∙ ap Done same; weight = h.weight; output = h.output }))

under_cases : (s : Relaxed) (n : Node) (w : ℕ) (y : List ℕ) → Under (IsMet s) n w y → Under (IsDone s) n w y ⊎ Under (Waits s) n w y
under_cases s n w y u = elim (met_cases s n u.weight u.output u.entry) [
  | inl h ↦ inl (record { weight = u.weight; output = u.output; entry = h; below = u.below })
  | inr h ↦ inr (record { weight = u.weight; output = u.output; entry = h; below = u.below })
]

done_met : (s : Relaxed) (n : Node) (w : ℕ) (y : List ℕ) → IsDone s n w y → IsMet s n w y
done_met s n w y h = record { number = h.number; way = h.way; node = h.node; mark = ap best_of h.mark; weight = h.weight; output = h.output }

waits_met : (s : Relaxed) (n : Node) (w : ℕ) (y : List ℕ) → Waits s n w y → IsMet s n w y
waits_met s n w y h = record { number = h.number; way = h.way; node = h.node; mark = ap best_of h.mark; weight = h.weight; output = h.output }

under_met : (s : Relaxed) (n : Node) (w : ℕ) (y : List ℕ) → Under (IsDone s) n w y ⊎ Under (Waits s) n w y → Under (IsMet s) n w y
under_met s n w y = elim [
  | inl u ↦ record { weight = u.weight; output = u.output; entry = done_met s n u.weight u.output u.entry; below = u.below }
  | inr u ↦ record { weight = u.weight; output = u.output; entry = waits_met s n u.weight u.output u.entry; below = u.below }
]

-- with other lists
abbrev pub with_lists : Relaxed → List ℕ → Relaxed
with_lists s lists = record { nodes = s.nodes; marks = s.marks; outputs = s.outputs; lists = lists }

-- and with a node's moves followed
abbrev pub with_done : Relaxed → List ℕ → ℕ → Entry → Relaxed
with_done s lists k b = record { nodes = s.nodes; marks = with_item s.marks k (Done b); outputs = s.outputs; lists = lists }

module _ (m : Machine) (c : Cascaded) where
  -- a way, said by other words
  same_reach : (n o : Node) (v w : ℕ) (x y : List ℕ) → n ≡ o → v ≡ w → x ≡ y → Reach (Steps m c) (first_node m c) n v x → Reach (Steps m c) (first_node m c) o w y
  same_reach n o v w x y a b d h = subst (λ t. Reach (Steps m c) (first_node m c) t w y) a (subst (λ t. Reach (Steps m c) (first_node m c) n t y) b (subst (λ t. Reach (Steps m c) (first_node m c) n v t) d h))

  -- the first node is met, and nothing else
  module _ (wf : WellFormed m) (closed : IsClosed c) (s0 s : Relaxed) (nodes : s0.nodes ≡ []) (gained : Gained Stays Every s0 s 0 [] (IsEdge (first_node m c) 0 [])) where
    empty : {has : Mark → Entry → Type 0} (n : Node) (v : ℕ) (x : List ℕ) → Marked has s0 n v x → ⊥
    empty n v x h = (let at : slice_get [] h.number ≡ Some n = subst (λ xs. slice_get xs h.number ≡ Some n) nodes h.node in cc)

    only : (n : Node) (v : ℕ) (x : List ℕ) → IsMet s n v x → (n ≡ first_node m c) × (v ≡ 0) × (x ≡ [])
    only n v x h = elim (gained.sound n v x h) [
      | inl k ↦ absurd (empty n v x k)
      | inr k ↦ (let e = stayed (IsEdge (first_node m c) 0 []) n k.0 k.1 k.2 in (e.0, (let a : v ≡ 0 + k.0 = k.3 in let b : k.0 ≡ 0 = e.1 in omega arith), k.4 ∙ e.2))
    ]

    pub runs_start : s0.marks.items ≡ [] → Runs m c s s.lists 0
    runs_start marks = record {
      kept = gained.kept;
      start = under_cases s (first_node m c) 0 [] (unstay_under (IsMet s) (first_node m c) 0 [] (gained.covered (first_node m c) 0 [] (refl, refl, refl) tt));
      edges = λ n o w u y z d e l. absurd (empty n w y (gained.done n w y d));
      reached = λ n w y h. (let o = only n w y h in same_reach (first_node m c) n 0 w [] y (sym o.0) (sym o.1) (sym o.2) here);
      open_end = λ w y d. empty End w y (gained.done End w y d);
      known = λ k v h. elim (gained.new_nodes k v h) [
        | inl i ↦ (let at : slice_get [] k ≡ Some v = subst (λ xs. slice_get xs k ≡ Some v) nodes i in cc)
        | inr i ↦ subst (Known m c) (sym (stayed (IsEdge (first_node m c) 0 []) v i.0 i.1 i.2).0) (wf.start, closed.start)
      ];
      listed = λ k b h. elim (gained.listed k b h) [
        | inl i ↦ inr i
        | inr i ↦ (let at : Unmet ≡ Waiting i.0 = ap (λ xs. mark_of xs k) (sym marks) ∙ i.1 in absurd (cc))
      ];
      light = λ n w y h. (let o = only n w y h in let e : w ≡ 0 = o.1 in omega arith);
      short = λ n w y h. (let o = only n w y h in let e : length y ≡ 0 = ap length o.2 in omega arith);
    }

  -- Other lists serve as well, where what waits is on them.
  runs_lists : (old : Relaxed) (lists rest : List ℕ) (taken more : ℕ) → taken ≤ more → Runs m c old lists taken → All (λ j. j < length old.nodes) rest
      → ((k : ℕ) (b : Entry) → mark_of old.marks.items k ≡ Waiting b → Contains lists k → (slice_get old.nodes k ≡ Some End) ⊎ Contains rest k) → Runs m c (with_lists old rest) rest more
  runs_lists old lists rest taken more l runs places listed = record {
    kept = record { one_end = runs.kept.one_end; even = runs.kept.even; fits = runs.kept.fits; places = places };
    start = under_cases (with_lists old rest) (first_node m c) 0 [] (other_under (first_node m c) 0 [] (under_met old (first_node m c) 0 [] runs.start));
    edges = λ n o w u y z d e l. under_on_as (Passes (Steps m c)) (IsMet old) (IsMet (with_lists old rest)) other_under o (w + u) (y ++ z) (runs.edges n o w u y z (same n w y d) e l);
    reached = λ n w y h. runs.reached n w y (same n w y h);
    open_end = λ w y d. runs.open_end w y (same End w y d);
    known = runs.known;
    listed = λ k b h. elim (runs.listed k b h) [ inl e ↦ inl e | inr e ↦ listed k b h e ];
    light = λ n w y h. (let k = runs.light n w y (same n w y h) in omega arith);
    short = λ n w y h. (let k = runs.short n w y (same n w y h) in omega arith);
  } where
    same : {has : Mark → Entry → Type 0} (n : Node) (v : ℕ) (x : List ℕ) → Marked has (with_lists old rest) n v x → Marked has old n v x
    same n v x h = record { number = h.number; way = h.way; node = h.node; mark = h.mark; weight = h.weight; output = h.output }

    other_under : (n : Node) (v : ℕ) (x : List ℕ) → Under (IsMet old) n v x → Under (IsMet (with_lists old rest)) n v x
    other_under n v x u = record { weight = u.weight; output = u.output; entry = record { number = u.entry.number; way = u.entry.way; node = u.entry.node; mark = u.entry.mark; weight = u.entry.weight; output = u.entry.output }; below = u.below }

  -- nothing is left on the lists
  pub runs_ended : (old : Relaxed) (taken : ℕ) → Runs m c old old.lists taken → old.lists ≡ [] → (rest : List ℕ) → rest ≡ [] → Runs m c (with_lists old rest) [] taken
  runs_ended old taken runs none rest empty =
      let ended : Runs m c (with_lists old rest) rest taken = runs_lists old old.lists rest taken taken (omega arith) runs (subst (All (λ j. j < length old.nodes)) (none ∙ sym empty) runs.kept.places) (λ k b h e. inr (subst (λ xs. Contains xs k) (none ∙ sym empty) e)) in
      subst (λ xs. Runs m c (with_lists old rest) xs taken) empty ended

  -- at the end of the lists
  module _ (wf : WellFormed m) (closed : IsClosed c) (law : ReadsItsParts c) (s : Relaxed) (taken : ℕ) (runs : Runs m c s [] taken) where
    -- only the end waits
    waits_end : (n : Node) (v : ℕ) (x : List ℕ) → (h : Waits s n v x) → slice_get s.nodes h.number ≡ Some End
    waits_end n v x h = elim (runs.listed h.number h.way h.mark) [ inl k ↦ k | inr k ↦ absurd (omega (arith, k.1)) ]

    end_node : (n : Node) (v : ℕ) (x : List ℕ) → Waits s n v x → n ≡ End
    end_node n v x h = (let both : Some n ≡ Some End = sym h.node ∙ waits_end n v x h in cc)

    either : (n : Node) (w : ℕ) (y : List ℕ) → CanEnd m c n → Under (IsMet s) n w y → Under (Either (StepsOn m c) (first_node m c) (Ending m c (IsDone s)) (Ending m c (Waits s))) n w y
    either n w y l u = record { weight = u.weight; output = u.output; entry = elim (met_cases s n u.weight u.output u.entry) [ inl d ↦ inl (d, l) | inr h ↦ inr (h, l) ]; below = u.below }

    -- as a search over the steps on to the end, if there is a way there
    abbrev Settled : Entries Node
    Settled = AllDone (StepsOn m c) (first_node m c) (Ending m c (IsDone s)) (Ending m c (Waits s))

    on_to_end : CanEnd m c (first_node m c) → Searched (StepsOn m c) (first_node m c) Settled (Ending m c (Waits s))
    on_to_end first = passing_kept (StepsOn m c) (first_node m c) (Ending m c (IsDone s)) (Ending m c (Waits s))
        (λ n w y d. reach_on m c (runs.reached n w y (done_met s n w y d.0)) d.1)
        (ending_cases m c (IsDone s) (Waits s) (first_node m c) 0 [] first runs.start)
        (λ n o w u y z d e.
        let h = runs.edges n o w u y z d.0 e.0 e.1 in
        let p = passed_on m c h.on.2 e.1 in
        (h.on.0, record { node = h.node; more = h.more; text = h.text; on = p.0; under = either h.node ((w + u) + h.more) ((y ++ z) ++ h.text) p.1 h.under }))
        (λ n w y h. reach_on m c (runs.reached n w y (waits_met s n w y h.0)) h.1)

    end_open : (w : ℕ) (y : List ℕ) → Settled End w y → ⊥
    end_open = not_all_done (StepsOn m c) (first_node m c) (Ending m c (IsDone s)) (Ending m c (Waits s)) End (λ v z d. runs.open_end v z d.0) (λ o u z e. e.0)

    pub runs_none : ((w : ℕ) (y : List ℕ) → IsMet s End w y → ⊥) → Least (Cascade Reads c.parts) (IsInput (Reads m)) None
    runs_none unmet x y w accepts reads =
        let way = read_way m c law x y w accepts reads in
        none (StepsOn m c) (first_node m c) Settled (Ending m c (Waits s)) (on_to_end (reach_from m c way tt)) End end_open (λ n v z h. unmet v z (waits_met s End v z (subst (λ t. Waits s t v z) (end_node n v z h.0) h.0))) w y (reach_on m c way tt)

    pub runs_found : (b : Entry) → IsBest s End b → Least (Cascade Reads c.parts) (IsInput (Reads m)) (Some (b.weight, text_of s.outputs b.output))
    runs_found b is =
        let met = is.met in
        let one : (n : Node) (v : ℕ) (x : List ℕ) → Waits s n v x → Below b.weight (text_of s.outputs b.output) v x = λ n v x h.
        let place : h.number ≡ met.number = runs.kept.one_end h.number met.number (waits_end n v x h) met.node in
        let ways : Some h.way ≡ Some met.way = ap best_of (sym h.mark) ∙ ap (λ k. best_of (mark_of s.marks.items k)) place ∙ met.mark in
        let way : met.way ≡ h.way = cc in
        let weight : b.weight ≡ v = sym met.weight ∙ ap (λ (e : Entry). e.weight) way ∙ h.weight in
        let output : text_of s.outputs b.output ≡ x = sym met.output ∙ ap (λ (e : Entry). text_of s.outputs e.output) way ∙ h.output in
        subst (λ t. Below b.weight (text_of s.outputs b.output) t x) weight (subst (Below b.weight (text_of s.outputs b.output) b.weight) output (below_refl b.weight (text_of s.outputs b.output))) in
        record {
          reads = way_read m c law (text_of s.outputs b.output) b.weight (runs.reached End b.weight (text_of s.outputs b.output) met);
          least = λ x z v accepts reads.
              let way = read_way m c law x z v accepts reads in
              answer (StepsOn m c) (first_node m c) Settled (Ending m c (Waits s)) (on_to_end (reach_from m c way tt)) End b.weight (text_of s.outputs b.output) end_open (λ n v x h. one n v x h.0) v z (reach_on m c way tt);
        }

  -- a node is taken
  module _ (old : Relaxed) (taken : ℕ) (runs : Runs m c old old.lists taken) (k : ℕ) (rest : List ℕ) (is : old.lists ≡ k ∷ rest) where
    places : All (λ j. j < length old.nodes) (k ∷ rest)
    places = subst (All (λ j. j < length old.nodes)) is runs.kept.places

    pub taken_within : k < length old.nodes
    taken_within = All-head (λ j. j < length old.nodes) k rest places

    pub taken_marked : k < length old.marks.items
    taken_marked = (let h = taken_within in let e = runs.kept.even in omega arith)

    -- of which nothing is to follow
    pub runs_passed : ((b : Entry) → mark_of old.marks.items k ≡ Waiting b → slice_get old.nodes k ≡ Some End) → Runs m c (with_lists old rest) rest (taken + 1)
    runs_passed passed = runs_lists old old.lists rest taken (taken + 1) (omega arith) runs (All-tail (λ j. j < length old.nodes) k rest places) (λ j b h e. elim (contains_cases k rest j (subst (λ xs. Contains xs j) is e)) [
      | inl f ↦ inr f
      | inr f ↦ inl (subst (λ i. slice_get old.nodes i ≡ Some End) (sym f) (passed b (ap (mark_of old.marks.items) (sym f) ∙ h)))
    ])

    -- whose moves are followed
    module _ (b : Entry) (waiting : mark_of old.marks.items k ≡ Waiting b) (q : ℕ) (t : Tuple) (at : slice_get old.nodes k ≡ Some (At q t)) where
      own_met : IsMet old (At q t) b.weight (text_of old.outputs b.output)
      own_met = record { number = k; way = b; node = at; mark = ap best_of waiting; weight = refl; output = refl }

      pub taken_known : Known m c (At q t)
      taken_known = runs.known k (At q t) at

      pub taken_fits : Fits old.outputs b
      taken_fits = runs.kept.fits k b (ap best_of waiting)

      pub taken_light : b.weight ≤ taken * (4097 * 2 ^ 56)
      taken_light = runs.light (At q t) b.weight (text_of old.outputs b.output) own_met

      pub taken_short : b.length ≤ taken * 4097
      taken_short = (let l = runs.short (At q t) b.weight (text_of old.outputs b.output) own_met in let e = taken_fits.length in omega arith)

      own : mark_of (set old.marks.items k (Done b)) k ≡ Done b
      own = get_or-set_same old.marks.items k (Done b) Unmet taken_marked

      other : (j : ℕ) → j ≢ k → mark_of (set old.marks.items k (Done b)) j ≡ mark_of old.marks.items j
      other j ne = get_or-set_other old.marks.items k j (Done b) Unmet ne

      -- the best way stays
      best_same : (j : ℕ) → best_of (mark_of (set old.marks.items k (Done b)) j) ≡ best_of (mark_of old.marks.items j)
      best_same j = elim (cases_eq j k) [
        | inl e ↦ ap (λ i. best_of (mark_of (set old.marks.items k (Done b)) i)) e ∙ ap best_of own ∙ ap best_of (sym waiting) ∙ ap (λ i. best_of (mark_of old.marks.items i)) (sym e)
        | inr ne ↦ ap best_of (other j ne)
      ]

      pub taken_kept : Kept (with_done old rest k b)
      taken_kept = record {
        one_end = runs.kept.one_end;
        even = length-set old.marks.items k (Done b) ∙ runs.kept.even;
        fits = λ j d h. runs.kept.fits j d (sym (best_same j) ∙ h);
        places = All-tail (λ j. j < length old.nodes) k rest places;
      }

      met_as : (n : Node) (v : ℕ) (x : List ℕ) → IsMet old n v x → IsMet (with_done old rest k b) n v x
      met_as n v x h = record { number = h.number; way = h.way; node = h.node; mark = best_same h.number ∙ h.mark; weight = h.weight; output = h.output }

      met_was : (n : Node) (v : ℕ) (x : List ℕ) → IsMet (with_done old rest k b) n v x → IsMet old n v x
      met_was n v x h = record { number = h.number; way = h.way; node = h.node; mark = sym (best_same h.number) ∙ h.mark; weight = h.weight; output = h.output }

      done_was : (n : Node) (v : ℕ) (x : List ℕ) → IsDone (with_done old rest k b) n v x → IsDone old n v x ⊎ ((n ≡ At q t) × (v ≡ b.weight) × (x ≡ text_of old.outputs b.output))
      done_was n v x h = elim (cases_eq h.number k) [
        | inl e ↦
            let node : n ≡ At q t =
            let both : Some n ≡ Some (At q t) = sym h.node ∙ ap (slice_get old.nodes) e ∙ at in cc in
            let marks : Done h.way ≡ Done b = sym h.mark ∙ ap (mark_of (set old.marks.items k (Done b))) e ∙ own in
            let way : h.way ≡ b = cc in
            inr (node, sym h.weight ∙ ap (λ (d : Entry). d.weight) way, sym h.output ∙ ap (λ (d : Entry). text_of old.outputs d.output) way)
        | inr ne ↦ inl (record { number = h.number; way = h.way; node = h.node; mark = sym (other h.number ne) ∙ h.mark; weight = h.weight; output = h.output })
      ]

      module _ (wf : WellFormed m) (closed : IsClosed c) (new : Relaxed) (gained : Gained (Passes (Steps m c)) (CanEnd m c) (with_done old rest k b) new b.weight (text_of old.outputs b.output) (Steps m c (At q t))) where
        own_reach : Reach (Steps m c) (first_node m c) (At q t) b.weight (text_of old.outputs b.output)
        own_reach = runs.reached (At q t) b.weight (text_of old.outputs b.output) own_met

        later : (n : Node) (v : ℕ) (x : List ℕ) → Under (IsMet old) n v x → Under (IsMet new) n v x
        later n v x u = under_more (IsMet new) n u.weight v u.output x u.below (gained.stays n u.weight u.output (met_as n u.weight u.output u.entry))

        reach_of : (n : Node) (v : ℕ) (x : List ℕ) → IsMet new n v x → Reach (Steps m c) (first_node m c) n v x
        reach_of n v x h = elim (gained.sound n v x h) [
          | inl i ↦ runs.reached n v x (met_was n v x i)
          | inr i ↦
              let y = text_of old.outputs b.output in
              let led = i.2 in
              let weight : (b.weight + led.weight) + led.more ≡ v = (let a : v ≡ b.weight + i.0 = i.3 in let e : i.0 ≡ led.weight + led.more = led.whole in omega arith) in
              let output : (y ++ led.output) ++ led.text ≡ x = append_assoc y led.output led.text ∙ ap (λ z. y ++ z) (sym led.written) ∙ sym i.4 in
              same_reach n n ((b.weight + led.weight) + led.more) v ((y ++ led.output) ++ led.text) x refl weight output (reach_passed (Steps m c) led.on.2 (first_node m c) (b.weight + led.weight) (y ++ led.output) (on own_reach led.edge))
        ]

        -- what an edge leads to, and on from there
        led_fits : (n : Node) (u : ℕ) (z : List ℕ) → (led : LedOn (Passes (Steps m c)) (Steps m c (At q t)) n u z) → PassedFits m c 4097 n u z
        led_fits n u z led =
            let f = step_fits m c wf closed q t taken_known led.first led.weight led.output led.edge in
            let p = passed_fits m c wf closed led.on.2 f.known in
            let k : led.on.0 ≤ 4096 = led.on.1 in
            record {
              known = p.known;
              light = (let a = f.light in let b = p.light in let e : u ≡ led.weight + led.more = led.whole in omega arith);
              short = (let a = f.short in let b = p.short in let e : length z ≡ length led.output + length led.text = ap length led.written ∙ length-append led.output led.text in omega arith);
            }

        pub runs_more : Runs m c new new.lists (taken + 1)
        runs_more = record {
          kept = gained.kept;
          start = under_cases new (first_node m c) 0 [] (later (first_node m c) 0 [] (under_met old (first_node m c) 0 [] runs.start));
          edges = λ n o w u y z d e l. elim (done_was n w y (gained.done n w y d)) [
            | inl i ↦ under_on_as (Passes (Steps m c)) (IsMet old) (IsMet new) later o (w + u) (y ++ z) (runs.edges n o w u y z i e l)
            | inr i ↦
                let edge : Steps m c (At q t) o u z = subst (λ a. Steps m c a o u z) i.0 e in
                let under = gained.covered o u z edge l in
                subst (λ v. UnderOn (Passes (Steps m c)) (IsMet new) o (v + u) (y ++ z)) (sym i.1) (subst (λ x. UnderOn (Passes (Steps m c)) (IsMet new) o (b.weight + u) (x ++ z)) (sym i.2) under)
          ];
          reached = reach_of;
          open_end = λ w y d. elim (done_was End w y (gained.done End w y d)) [
            | inl i ↦ runs.open_end w y i
            | inr i ↦ (let e : End ≡ At q t = i.0 in cc)
          ];
          known = λ j v h. elim (gained.new_nodes j v h) [
            | inl i ↦ runs.known j v i
            | inr i ↦ (led_fits v i.0 i.1 i.2).known
          ];
          listed = λ j d h. elim (gained.listed j d h) [
            | inl i ↦ inr i
            | inr i ↦ elim (cases_eq j k) [
              | inl e ↦ (let both : Done b ≡ Waiting i.0 = sym own ∙ ap (mark_of (set old.marks.items k (Done b))) (sym e) ∙ i.1 in absurd (cc))
              | inr ne ↦ elim (runs.listed j i.0 (sym (other j ne) ∙ i.1)) [
                | inl f ↦ inl (gained.nodes j End f)
                | inr f ↦ elim (contains_cases k rest j (subst (λ xs. Contains xs j) is f)) [
                  | inl g ↦ inr (gained.queued j g)
                  | inr g ↦ absurd (ne g)
                ]
              ]
            ]
          ];
          light = λ n w y h. elim (gained.sound n w y h) [
            | inl i ↦ (let l = runs.light n w y (met_was n w y i) in omega arith)
            | inr i ↦ (let f = (led_fits n i.0 i.1 i.2).light in let l = taken_light in let e : w ≡ b.weight + i.0 = i.3 in omega arith)
          ];
          short = λ n w y h. elim (gained.sound n w y h) [
            | inl i ↦ (let l = runs.short n w y (met_was n w y i) in omega arith)
            | inr i ↦
                let f = (led_fits n i.0 i.1 i.2).short in
                let l = runs.short (At q t) b.weight (text_of old.outputs b.output) own_met in
                let e : length y ≡ length (text_of old.outputs b.output) + length i.1 = ap length i.4 ∙ length-append (text_of old.outputs b.output) i.1 in
                omega arith
          ];
        }
