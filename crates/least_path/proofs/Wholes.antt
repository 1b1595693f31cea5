-- What holds of a round, for each cascade that starts at the tuple.
use Rattle.std.proofs.Common.{◌≡◌, ◌<◌, ◌≤◌, ℕ, ◌+◌, ◌-◌, ◌*◌, ◌^◌, List, [], get_or, length, arith, sym, subst}
use Rattle.std.specs.Prelude.{All, sum_by, Some, None}
use Rattle.std.proofs.lemmas.List.Elements.{All-contains, All-weaker}
use Rattle.std.proofs.lemmas.List.Sums.{get_or-le-sum_by}
use Rattle.weighted_relations.specs.Machines.{Machine, WellFormed}
use Rattle.weighted_relations.specs.Relations.{IsByte}
use Rattle.state_tuples.specs.declared.tuples.Tuple.{Tuple}
use Rattle.state_tuples.specs.Cascades.{Cascaded, IsSound, ReadsItsParts}
use Rattle.state_tuples.specs.Calls.{IsKnown}
use Rattle.state_tuples.specs.Bounds.{IsClosed}
use Rattle.state_tuples.proofs.ClosedTuples.{tuples_are_closed}
use Rattle.state_tuples.proofs.FewTuples.{tuples_are_few}
use Rattle.least_path.specs.declared.node.Node.TheVariants.{At, End}
use Rattle.least_path.specs.declared.queue.Entry.{Entry}
use Rattle.least_path.specs.declared.reaching.Search.{Search}
use Rattle.least_path.specs.Texts.{text_of}
use Rattle.least_path.specs.Standings.{settled_count}
use Rattle.least_path.specs.Starting.{StartsAt, IsStart, IsLeastFrom, WritesBytes}
use Rattle.least_path.specs.Growths.{Steps}
use Rattle.least_path.specs.Keeps.{Grown, GrownFrom, IsEdge, Left, IsTaken}
use Rattle.least_path.proofs.Noting.{count_within}
use Rattle.least_path.proofs.Rounds.{Runs, Known, most, count_few, runs_start, runs_none, runs_found, runs_more, count_more, entry_known, entry_light, entry_short, taken_more_count}

-- more than all nodes of all searches over these cascades
abbrev pub all_most : Machine → List Cascaded → ℕ
all_most m cascades = sum_by (λ c. most m c (tuples_are_few c)) cascades

pub byte_small : (n : ℕ) → IsByte n → n < 256
byte_small n h = let k = h.1 in omega arith

module _ (m : Machine) (cascades : List Cascaded) (start : Tuple) (sounds : All IsSound cascades) (wf : WellFormed m) (laws : (c : Cascaded) → IsSound c → ReadsItsParts c) where
  sound_of : (c : Cascaded) → StartsAt cascades start c → IsSound c
  sound_of c h = All-contains IsSound cascades c sounds h.one

  closed : (c : Cascaded) → StartsAt cascades start c → IsClosed c
  closed c h = tuples_are_closed c (sound_of c h)

  few_of : (c : Cascaded) → StartsAt cascades start c → (n : ℕ) → n ≤ most m c (tuples_are_few c) → n ≤ all_most m cascades
  few_of c h n k =
      let one = h.one in
      let l : most m (get_or cascades one.0 c) (tuples_are_few (get_or cascades one.0 c)) ≤ all_most m cascades = get_or-le-sum_by (λ c. most m c (tuples_are_few c)) cascades one.0 c one.1 in
      let k' : n ≤ most m (get_or cascades one.0 c) (tuples_are_few (get_or cascades one.0 c)) = subst (λ d. n ≤ most m d (tuples_are_few d)) (sym one.2) k in
      omega (arith, l, k')

  pub all_start : (s0 s : Search) → s0.nodes ≡ [] → s0.standings.items ≡ [] → s0.queue.items ≡ [] → Grown s0 s 0 [] (IsEdge (At m.start start) 0 []) → (c : Cascaded) → StartsAt cascades start c → Runs m c s
  all_start s0 s nodes standings queue grown c h = runs_start m c wf (closed c h) s0 s nodes standings queue (subst (λ t. Grown s0 s 0 [] (IsEdge (At m.start t) 0 [])) h.first grown)

  module _ (old : Search) (runs : (c : Cascaded) → StartsAt cascades start c → Runs m c old) where
    pub all_none : Left old [] → IsLeastFrom m cascades start None
    all_none left c h = runs_none m c wf (closed c h) (laws c (sound_of c h)) old (runs c h) left

    module _ (taken : Search) (e : Entry) (is : IsTaken old taken e) where
      pub all_found : get_or old.nodes e.node End ≡ End → IsLeastFrom m cascades start (Some (e.weight, text_of old.outputs e.output))
      all_found at c h = runs_found m c wf (closed c h) (laws c (sound_of c h)) old (runs c h) taken e is at

      -- the labels of the least reading are bytes
      pub all_bytes : IsStart cascades start → WritesBytes cascades start → get_or old.nodes e.node End ≡ End → All (λ n. n < 256) (text_of old.outputs e.output)
      all_bytes s writes at =
          let r = (all_found at s.0 s.1).reads in
          All-weaker IsByte (λ n. n < 256) byte_small (text_of old.outputs e.output) (writes s.0 s.1 r.0 (text_of old.outputs e.output) e.weight r.2)

      known_one : (c : Cascaded) → StartsAt cascades start c → (q : ℕ) (t : Tuple) → get_or old.nodes e.node End ≡ At q t → Known m c (At q t)
      known_one c h q t at = subst (Known m c) at (entry_known m c wf (closed c h) (laws c (sound_of c h)) old (runs c h) taken e is)

      pub all_known_tuple : IsStart cascades start → (q : ℕ) (t : Tuple) → get_or old.nodes e.node End ≡ At q t → IsKnown cascades t
      all_known_tuple s q t at = (s.0, s.1.one, (known_one s.0 s.1 q t at).1)

      pub all_known_state : IsStart cascades start → (q : ℕ) (t : Tuple) → get_or old.nodes e.node End ≡ At q t → q < length m.arcs
      all_known_state s q t at = (known_one s.0 s.1 q t at).0

      -- fewer are settled than nodes are met
      pub all_count : IsStart cascades start → settled_count old.standings.items + 1 ≤ length taken.standings.items
      all_count s =
          let k = count_within taken.standings.items in
          let n : settled_count taken.standings.items ≡ settled_count old.standings.items + 1 = taken_more_count m s.0 wf (closed s.0 s.1) (laws s.0 (sound_of s.0 s.1)) old (runs s.0 s.1) taken e is in
          omega arith

      pub all_light : IsStart cascades start → e.weight ≤ settled_count old.standings.items * 2 ^ 56
      all_light s = entry_light m s.0 wf (closed s.0 s.1) (laws s.0 (sound_of s.0 s.1)) old (runs s.0 s.1) taken e is

      pub all_short : IsStart cascades start → e.length ≤ settled_count old.standings.items
      all_short s =
          let l : length (text_of old.outputs e.output) ≤ settled_count old.standings.items = entry_short m s.0 wf (closed s.0 s.1) (laws s.0 (sound_of s.0 s.1)) old (runs s.0 s.1) taken e is in
          let f : e.length ≡ length (text_of old.outputs e.output) = is.fits.length in
          omega arith

      module _ (q : ℕ) (t : Tuple) (at : get_or old.nodes e.node End ≡ At q t) (new : Search) (grown : GrownFrom cascades t taken new e (λ c. Steps m c (At q t))) where
        grown_one : (c : Cascaded) → StartsAt cascades start c → Grown taken new e.weight (text_of old.outputs e.output) (Steps m c (At q t))
        grown_one c h = subst (λ all. Grown taken new e.weight (text_of all e.output) (Steps m c (At q t))) is.outputs (grown c h.one (known_one c h q t at).1)

        pub all_more : (c : Cascaded) → StartsAt cascades start c → Runs m c new
        all_more c h = runs_more m c wf (closed c h) (laws c (sound_of c h)) old (runs c h) taken e is q t at new (grown_one c h)

        pub all_smaller : IsStart cascades start → all_most m cascades - settled_count new.standings.items < all_most m cascades - settled_count old.standings.items
        all_smaller s =
            let n : settled_count new.standings.items ≡ settled_count old.standings.items + 1 = count_more m s.0 wf (closed s.0 s.1) (laws s.0 (sound_of s.0 s.1)) old (runs s.0 s.1) taken e is q t new (grown_one s.0 s.1) in
            let k : settled_count new.standings.items ≤ all_most m cascades = few_of s.0 s.1 (settled_count new.standings.items) (count_few m s.0 (tuples_are_few s.0) new (all_more s.0 s.1)) in
            omega arith
