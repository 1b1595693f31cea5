-- Taking the first entry, settling its node and following its edges keeps what the laws of searches ask.
use Rattle.std.proofs.Common.{◌≡◌, ◌≢◌, ◌<◌, ◌⊎◌, ℕ, ◌+◌, List, [], ◌∷◌, ◌++◌, Some, slice_get, get_or, length, arith, sym, ap, ◌∙◌, subst, inl, inr}
use Rattle.std.specs.Prelude.{Contains}
use Rattle.std.proofs.lemmas.Bool.{cases_eq}
use Rattle.std.proofs.lemmas.List.Sorted.{IsPermutation-refl, IsPermutation-sym, Contains-permutation}
use Rattle.std.proofs.lemmas.Option.{slice_get-get_or, get_or_from_slice_get}
use Rattle.weighted_relations.specs.Searches.{Edges, Under}
use Rattle.weighted_relations.specs.SearchRuns.{Open, LeastWay, Done, Waits, Going}
use Rattle.weighted_relations.specs.SearchRunLaws.{drop_going, settle_going, first_least, contains_first, contains_later}
use Rattle.least_path.specs.declared.node.Node.{Node}
use Rattle.least_path.specs.declared.node.Node.TheVariants.{End}
use Rattle.least_path.specs.declared.queue.Entry.{Entry}
use Rattle.least_path.specs.declared.standings.Standing.TheVariants.{Settled}
use Rattle.least_path.specs.declared.reaching.Search.{Search}
use Rattle.least_path.specs.Texts.{text_of}
use Rattle.least_path.specs.Standings.{standing_of, settled_count}
use Rattle.least_path.specs.Keeps.{open_of, waits, IsSettled, Kept, Grown, Left, IsTaken}
use Rattle.least_path.proofs.Noting.{set_own, set_other, count_set}

module _ (E : Edges Node) (s : Node) where
  -- lists with the same entries
  pub same_going : (S : Node → Type 0) (q r : List (Open Node)) → ((d : Open Node) → Contains q d → Contains r d) → ((d : Open Node) → Contains r d → Contains q d) → Going E s S q → Going E s S r
  same_going S q r to from going =
      let under : (n : Node) (w : ℕ) (y : List ℕ) → Under (Done E s S) n w y ⊎ Under (Waits q) n w y → Under (Done E s S) n w y ⊎ Under (Waits r) n w y = λ n w y. elim [ inl u ↦ inl u | inr u ↦ inr (record { weight = u.weight; output = u.output; entry = to (record { node = n; weight = u.weight; output = u.output }) u.entry; below = u.below }) ] in
      record {
        kept = record {
          start = under s 0 [] going.kept.start;
          edges = λ n m w u y z d k. under m (w + u) (y ++ z) (going.kept.edges n m w u y z d k);
          true_done = going.kept.true_done;
          true_waiting = λ n w y h. going.kept.true_waiting n w y (from (record { node = n; weight = w; output = y }) h);
        };
        ways = going.ways;
      }

  drops_going : (S : Node → Type 0) (gone rest : List (Open Node)) → ((d : Open Node) → Contains gone d → S d.node) → Going E s S (gone ++ rest) → Going E s S rest
  drops_going S [] rest settled going = going
  drops_going S (d ∷ gone) rest settled going =
      drops_going S gone rest (λ e h. settled e (contains_later d gone e h)) (drop_going E s S (d ∷ (gone ++ rest)) (gone ++ rest) d (IsPermutation-refl (d ∷ (gone ++ rest))) going (settled d (contains_first d gone)))

  pub left_going : (old : Search) (rest : List (Open Node)) → Left old rest → Going E s (IsSettled old) (waits old) → Going E s (IsSettled old) rest
  left_going old rest left going = drops_going (IsSettled old) left.gone rest left.settled (same_going (IsSettled old) (waits old) (left.gone ++ rest) (λ d h. Contains-permutation (waits old) (left.gone ++ rest) d left.moves h) (λ d h. Contains-permutation (left.gone ++ rest) (waits old) d (IsPermutation-sym (waits old) (left.gone ++ rest) left.moves) h) going)

  module _ (old taken : Search) (e : Entry) (kept : Kept old) (is : IsTaken old taken e) (going : Going E s (IsSettled old) (waits old)) where
    there : slice_get old.nodes e.node ≡ Some (get_or old.nodes e.node End)
    there = slice_get-get_or old.nodes e.node End is.place

    fresh : IsSettled old (get_or old.nodes e.node End) → ⊥
    fresh h =
        let same : h.0 ≡ e.node = kept.apart h.0 e.node (get_or old.nodes e.node End) h.1 there in
        is.fresh (ap (standing_of old.standings.items) (sym same) ∙ h.2)

    after : Going E s (IsSettled old) (open_of old.nodes old.outputs e ∷ waits taken)
    after = left_going old (open_of old.nodes old.outputs e ∷ waits taken) is.left going

    -- the entry that is taken is the least way to its node
    pub taken_least : LeastWay E s (get_or old.nodes e.node End) e.weight (text_of old.outputs e.output)
    taken_least = first_least E s (IsSettled old) (open_of old.nodes old.outputs e ∷ waits taken) (waits taken) (open_of old.nodes old.outputs e) (IsPermutation-refl (open_of old.nodes old.outputs e ∷ waits taken)) after fresh is.first

    in_standings : e.node < length old.standings.items
    in_standings = let p = is.place in let v = kept.even in omega arith

    other : (k : ℕ) → k ≢ e.node → standing_of taken.standings.items k ≡ standing_of old.standings.items k
    other k ne = ap (λ xs. standing_of xs k) is.standings ∙ set_other old.standings.items e.node k Settled ne

    own : standing_of taken.standings.items e.node ≡ Settled
    own = ap (λ xs. standing_of xs e.node) is.standings ∙ set_own old.standings.items e.node Settled in_standings

    pub taken_count : settled_count taken.standings.items ≡ settled_count old.standings.items + 1
    taken_count = ap settled_count is.standings ∙ count_set old.standings.items e.node Settled in_standings is.fresh

    taken_there : IsSettled taken (get_or old.nodes e.node End)
    taken_there = (e.node, subst (λ xs. slice_get xs e.node ≡ Some (get_or old.nodes e.node End)) (sym is.nodes) there, own)

    taken_more : (n : Node) → IsSettled old n → IsSettled taken n
    taken_more n h = elim (cases_eq h.0 e.node) [
      | inl k ↦ (h.0, subst (λ xs. slice_get xs h.0 ≡ Some n) (sym is.nodes) h.1, ap (standing_of taken.standings.items) k ∙ own)
      | inr k ↦ (h.0, subst (λ xs. slice_get xs h.0 ≡ Some n) (sym is.nodes) h.1, other h.0 k ∙ h.2)
    ]

    pub taken_only : (n : Node) → IsSettled taken n → IsSettled old n ⊎ (n ≡ get_or old.nodes e.node End)
    taken_only n h =
        let at : slice_get old.nodes h.0 ≡ Some n = subst (λ xs. slice_get xs h.0 ≡ Some n) is.nodes h.1 in
        elim (cases_eq h.0 e.node) [
          | inl k ↦ inr (sym (ap (λ i. get_or old.nodes i End) (sym k) ∙ get_or_from_slice_get old.nodes h.0 n End at))
          | inr k ↦ inl (h.0, at, sym (other h.0 k) ∙ h.2)
        ]

    -- its edges are followed
    pub settled_going : (new : Search) → Grown taken new e.weight (text_of old.outputs e.output) (E (get_or old.nodes e.node End)) → Going E s (IsSettled new) (waits new)
    settled_going new grown = settle_going E s (IsSettled old) (open_of old.nodes old.outputs e ∷ waits taken) (waits taken) (open_of old.nodes old.outputs e) (IsPermutation-refl (open_of old.nodes old.outputs e ∷ waits taken)) after fresh is.first (IsSettled new) (waits new)
        (λ n h. (grown.settled n).1 (taken_more n h))
        ((grown.settled (get_or old.nodes e.node End)).1 taken_there)
        (λ n h. taken_only n ((grown.settled n).0 h))
        (λ n v x h. grown.stays (record { node = n; weight = v; output = x }) h)
        (λ n u z k. grown.covered n u z k)
        (λ n v x h. grown.sound (record { node = n; weight = v; output = x }) h)

-- the node of the taken entry, as it is read afterwards
module _ (old taken : Search) (e : Entry) (is : IsTaken old taken e) where
  pub taken_within : e.node < length taken.nodes
  taken_within = subst (λ ns. e.node < length ns) (sym is.nodes) is.place

  pub taken_at : (n : Node) → slice_get taken.nodes e.node ≡ Some n → get_or old.nodes e.node End ≡ n
  taken_at n h = ap (λ ns. get_or ns e.node End) (sym is.nodes) ∙ get_or_from_slice_get taken.nodes e.node n End h
