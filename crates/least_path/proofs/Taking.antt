-- The first entry whose node is not settled.
use Rattle.std.proofs.Common.{◌≡◌, ◌≢◌, ◌<◌, ℕ, [], ◌∷◌, ◌++◌, Some, Vec, Global, slice_get, get_or, set, length, arith, refl, sym, ap, ◌∙◌, subst, inl, inr, append_assoc, length-set}
use Rattle.std.specs.Prelude.{All, Contains}
use Rattle.std.specs.Vec.{with_item}
use Rattle.std.specs.List.Sorted.{IsPermutation}
use Rattle.std.proofs.lemmas.Bool.{cases_eq}
use Rattle.std.proofs.lemmas.List.Elements.{All-head, All-tail, All-map, Contains-push_cases}
use Rattle.std.proofs.lemmas.List.Sorted.{IsPermutation-map, IsPermutation-trans, IsPermutation-append_right, IsPermutation-refl, All-permutation, Contains-permutation, length_permutation}
use Rattle.std.proofs.lemmas.Option.{slice_get-get_or}
use Rattle.weighted_relations.specs.Least.{Below}
use Rattle.weighted_relations.specs.SearchRuns.{Open, IsFirst}
use Rattle.weighted_relations.specs.SearchRunLaws.{contains_cases}
use Rattle.least_path.specs.declared.node.Node.{Node}
use Rattle.least_path.specs.declared.node.Node.TheVariants.{End}
use Rattle.least_path.specs.declared.queue.Entry.{Entry}
use Rattle.least_path.specs.declared.standings.Standing.{Standing}
use Rattle.least_path.specs.declared.standings.Standing.TheVariants.{Met, Settled}
use Rattle.least_path.specs.declared.reaching.Search.{Search}
use Rattle.least_path.specs.Waiting.{Before, Fits, IsHeap}
use Rattle.least_path.specs.Texts.{text_of}
use Rattle.least_path.specs.Standings.{standing_of}
use Rattle.least_path.specs.Keeps.{open_of, waits, IsSettled, Kept, Left, IsTaken}
use Rattle.least_path.proofs.Noting.{set_own, set_other, met_not_settled}

-- the same search with another queue, and with a node settled besides
abbrev pub with_queue : Search → Vec Entry Global → Search
with_queue s q = record { nodes = s.nodes; standings = s.standings; outputs = s.outputs; queue = q }

abbrev pub with_settled : Search → Vec Entry Global → ℕ → Search
with_settled s q i = record { nodes = s.nodes; standings = with_item s.standings i Settled; outputs = s.outputs; queue = q }

-- what the loop keeps
pub record Same (old mid : Search) : Type 0 where
  pub kept : Kept mid
  pub nodes : mid.nodes ≡ old.nodes
  pub standings : mid.standings ≡ old.standings
  pub outputs : mid.outputs ≡ old.outputs
  pub left : Left old (waits mid)

module _ (old mid : Search) (same : Same old mid) (q : Vec Entry Global) (e : Entry) (moves : IsPermutation mid.queue.items (e ∷ q.items)) (heap : IsHeap mid.outputs q.items) where
  pub fewer : length q.items < length mid.queue.items
  fewer = let h : length (e ∷ q.items) ≡ length mid.queue.items = length_permutation mid.queue.items (e ∷ q.items) moves in omega arith

  pub place : e.node < length mid.nodes
  place = All-head (λ (e : Entry). e.node < length mid.nodes) e q.items (All-permutation (λ (e : Entry). e.node < length mid.nodes) mid.queue.items (e ∷ q.items) moves same.kept.places)

  pub stands : e.node < length mid.standings.items
  stands = subst (λ k. e.node < k) (sym same.kept.even) place

  fits : Fits mid.outputs e
  fits = All-head (Fits mid.outputs) e q.items (All-permutation (Fits mid.outputs) mid.queue.items (e ∷ q.items) moves same.kept.fits)

  rest_places : All (λ e. e.node < length mid.nodes) q.items
  rest_places = All-tail (λ (e : Entry). e.node < length mid.nodes) e q.items (All-permutation (λ (e : Entry). e.node < length mid.nodes) mid.queue.items (e ∷ q.items) moves same.kept.places)

  rest_fits : All (Fits mid.outputs) q.items
  rest_fits = All-tail (Fits mid.outputs) e q.items (All-permutation (Fits mid.outputs) mid.queue.items (e ∷ q.items) moves same.kept.fits)

  -- the best entry of another node is left
  rest_best : (k : ℕ) (b : Entry) → k ≢ e.node → standing_of mid.standings.items k ≡ Met b → (b.node ≡ k) × Contains q.items b
  rest_best k b ne h =
      let o = same.kept.best k b h in (
        o.0,
        elim (contains_cases e q.items b (Contains-permutation mid.queue.items (e ∷ q.items) b moves o.1)) [
          | inl i ↦ i
          | inr i ↦ absurd (ne (sym o.0 ∙ ap (λ (t : Entry). t.node) i))
        ],
      )

  moved : IsPermutation (waits mid) (open_of mid.nodes mid.outputs e ∷ waits (with_queue mid q))
  moved = IsPermutation-map (open_of mid.nodes mid.outputs) mid.queue.items (e ∷ q.items) moves

  left_moves : IsPermutation (waits old) (same.left.gone ++ (open_of mid.nodes mid.outputs e ∷ waits (with_queue mid q)))
  left_moves = IsPermutation-trans (waits old) (same.left.gone ++ waits mid) (same.left.gone ++ (open_of mid.nodes mid.outputs e ∷ waits (with_queue mid q))) same.left.moves (IsPermutation-append_right same.left.gone (waits mid) (open_of mid.nodes mid.outputs e ∷ waits (with_queue mid q)) moved)

  -- an entry whose node is settled is gone
  pub same_more : standing_of mid.standings.items e.node ≡ Settled → Same old (with_queue mid q)
  same_more mark =
      let there : slice_get old.nodes e.node ≡ Some (get_or mid.nodes e.node End) = subst (λ xs. slice_get xs e.node ≡ Some (get_or mid.nodes e.node End)) same.nodes (slice_get-get_or mid.nodes e.node End place) in
      let own : IsSettled old (get_or mid.nodes e.node End) = (e.node, there, ap (λ (v : Vec Standing Global). standing_of v.items e.node) (sym same.standings) ∙ mark) in
      record {
        kept = record {
          apart = same.kept.apart;
          even = same.kept.even;
          places = rest_places;
          fits = rest_fits;
          heap = heap;
          best = λ k b h. elim (cases_eq k e.node) [
            | inl i ↦ absurd (met_not_settled b (sym h ∙ ap (standing_of mid.standings.items) i ∙ mark))
            | inr i ↦ rest_best k b i h
          ];
        };
        nodes = same.nodes;
        standings = same.standings;
        outputs = same.outputs;
        left = record {
          gone = same.left.gone ++ open_of mid.nodes mid.outputs e ∷ [];
          settled = λ d h. elim (Contains-push_cases same.left.gone (open_of mid.nodes mid.outputs e) d h) [
            | inl k ↦ same.left.settled d k
            | inr k ↦ subst (λ (t : Open Node). IsSettled old t.node) k own
          ];
          moves = subst (IsPermutation (waits old)) (sym (append_assoc same.left.gone (open_of mid.nodes mid.outputs e ∷ []) (waits (with_queue mid q)))) left_moves;
        };
      }

  pub is_taken : All (Before mid.outputs e) mid.queue.items → standing_of mid.standings.items e.node ≢ Settled → IsTaken old (with_settled mid q e.node) e
  is_taken first open' =
      let is : open_of mid.nodes mid.outputs e ≡ open_of old.nodes old.outputs e = ap (λ n. record { node = get_or n e.node End; weight = e.weight; output = text_of mid.outputs e.output }) same.nodes ∙ ap (λ t. record { node = get_or old.nodes e.node End; weight = e.weight; output = text_of t e.output }) same.outputs in
      let all : IsFirst (open_of mid.nodes mid.outputs e) (waits mid) = All-map (λ (d : Open Node). Below e.weight (text_of mid.outputs e.output) d.weight d.output) (open_of mid.nodes mid.outputs) mid.queue.items first in
      let own : IsFirst (open_of mid.nodes mid.outputs e) (open_of mid.nodes mid.outputs e ∷ waits (with_queue mid q)) = All-permutation (λ (d : Open Node). Below e.weight (text_of mid.outputs e.output) d.weight d.output) (waits mid) (open_of mid.nodes mid.outputs e ∷ waits (with_queue mid q)) moved all in
      let rest : Left old (open_of mid.nodes mid.outputs e ∷ waits (with_queue mid q)) = record { gone = same.left.gone; settled = same.left.settled; moves = left_moves } in
      record {
        kept = record {
          apart = same.kept.apart;
          even = length-set mid.standings.items e.node Settled ∙ same.kept.even;
          places = rest_places;
          fits = rest_fits;
          heap = heap;
          best = λ k b h. elim (cases_eq k e.node) [
            | inl i ↦ absurd (met_not_settled b (sym h ∙ ap (standing_of (set mid.standings.items e.node Settled)) i ∙ set_own mid.standings.items e.node Settled stands))
            | inr i ↦ rest_best k b i (sym (set_other mid.standings.items e.node k Settled i) ∙ h)
          ];
        };
        nodes = same.nodes;
        standings = ap (λ (v : Vec Standing Global). set v.items e.node Settled) same.standings;
        outputs = same.outputs;
        fits = subst (λ t. Fits t e) same.outputs fits;
        place = subst (λ xs. e.node < length xs) same.nodes place;
        fresh = λ h. open' (ap (λ (v : Vec Standing Global). standing_of v.items e.node) same.standings ∙ h);
        left = subst (λ o. Left old (o ∷ waits (with_queue mid q))) is rest;
        first = subst (λ o. IsFirst o (o ∷ waits (with_queue mid q))) is own;
      }

pub same_start : (s : Search) → Kept s → Same s s
same_start s kept = record { kept = kept; nodes = refl; standings = refl; outputs = refl; left = record { gone = []; settled = λ d h. absurd (omega (arith, h.1)); moves = IsPermutation-refl (waits s) } }
