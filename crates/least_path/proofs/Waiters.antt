-- A node comes to wait.
use Rattle.std.proofs.Common.{◌≡◌, ◌≢◌, ◌<◌, ◌≤◌, ◌⊎◌, ◌↔◌, ℕ, ◌+◌, List, [], ◌∷◌, ◌++◌, Some, slice_get, get_or, set, length, map, arith, refl, sym, ap, ◌∙◌, subst, inl, inr, length-set, length-append}
use Rattle.std.specs.Prelude.{All, Contains}
use Rattle.std.specs.List.Sorted.{IsPermutation}
use Rattle.std.proofs.lemmas.Bool.{cases_lt, cases_eq}
use Rattle.std.proofs.lemmas.List.{length-map, get_or-map}
use Rattle.std.proofs.lemmas.List.Elements.{All-head, All-tail, All-cons, All-weaker, All-contains}
use Rattle.std.proofs.lemmas.List.Sorted.{IsPermutation-map, IsPermutation-sym, Contains-permutation, All-permutation}
use Rattle.std.proofs.lemmas.Option.{slice_get_within, slice_get-get_or, get_or_from_slice_get}
use Rattle.weighted_relations.specs.Least.{Below}
use Rattle.weighted_relations.specs.Order.{below_refl}
use Rattle.weighted_relations.specs.SearchRuns.{Open}
use Rattle.weighted_relations.specs.SearchRunLaws.{contains_first, contains_cases, contains_later}
use Rattle.state_table.specs.Numbers.{Distinct}
use Rattle.least_path.specs.declared.node.Node.{Node}
use Rattle.least_path.specs.declared.node.Node.TheVariants.{End}
use Rattle.least_path.specs.declared.queue.Entry.{Entry}
use Rattle.least_path.specs.declared.standings.Standing.{Standing}
use Rattle.least_path.specs.declared.standings.Standing.TheVariants.{Unmet, Met, Settled}
use Rattle.least_path.specs.declared.reaching.Search.{Search}
use Rattle.least_path.specs.Texts.{text_of, Grows}
use Rattle.least_path.specs.Waiting.{Before, Fits, IsHeap, at_place}
use Rattle.least_path.specs.Notes.{Noted}
use Rattle.least_path.specs.Standings.{Passes, standing_of, settled_count}
use Rattle.least_path.specs.Keeps.{open_of, waits, IsSettled, Kept, Grown, IsEdge}
use Rattle.least_path.proofs.Letters.{grows_text, grows_length}
use Rattle.least_path.proofs.Noting.{noted_same, noted_count, met_within, count_set, set_own, set_other, met_not_settled}

pub contains_map : {X Y : Type 0} (f : X → Y) (xs : List X) (x : X) → Contains xs x → Contains (map f xs) (f x)
contains_map f xs x h = (h.0, (let e : length (map f xs) ≡ length xs = length-map xs f in omega (arith, e, h.1)), get_or-map f xs h.0 x (f x) h.1 ∙ ap f h.2)

pub fits_grow : (all all' : List (List ℕ)) → Grows all all' → (e : Entry) → Fits all e → Fits all' e
fits_grow all all' g e f =
    let more : length all ≤ length all' = grows_length all all' g in
    let within : e.output < length all = f.output in
    record { output = omega arith; length = f.length ∙ ap length (sym (grows_text all all' g e.output within)) }

before_grow : (all all' : List (List ℕ)) → Grows all all' → (a b : Entry) → Fits all a → Fits all b → Before all a b → Before all' a b
before_grow all all' g a b f h k =
    let x : text_of all' a.output ≡ text_of all a.output = grows_text all all' g a.output f.output in
    let y : text_of all' b.output ≡ text_of all b.output = grows_text all all' g b.output h.output in
    rw (x, y) k

pub heap_grow : (all all' : List (List ℕ)) → Grows all all' → (xs : List Entry) → All (Fits all) xs → IsHeap all xs → IsHeap all' xs
heap_grow all all' g xs fits heap p k c l =
    let low = c.low in
    let pl : p < length xs = omega arith in
    before_grow all all' g (at_place xs p) (at_place xs k) (fits p (record { weight = 0; length = 0; output = 0; node = 0 }) pl) (fits k (record { weight = 0; length = 0; output = 0; node = 0 }) l) (heap p k c l)

pub all_fits_grow : (all all' : List (List ℕ)) → Grows all all' → (xs : List Entry) → All (Fits all) xs → All (Fits all') xs
all_fits_grow all all' g xs h = All-weaker (Fits all) (Fits all') (fits_grow all all' g) xs h

-- what an entry's output fits
pub entry_fits : (old new : List (List ℕ)) (from length' o : ℕ) (z : List ℕ) (e : Entry) → o < length new → text_of new o ≡ text_of old from ++ z → length' ≡ length (text_of old from) + length z → e.output ≡ o → e.length ≡ length' → Fits new e
entry_fits old new from n o z e within text len output is = record {
  output = subst (λ k. k < length new) (sym output) within;
  length = is ∙ len ∙ sym (length-append (text_of old from) z) ∙ ap length (sym text) ∙ ap (λ k. length (text_of new k)) (sym output);
}

-- a node is settled where its number stands so
settled_by : (old new : Search) (n : Node) (i : ℕ) (mid : List Standing) → Noted Unmet old.nodes new.nodes old.standings.items mid n i → Kept old
    → ((k : ℕ) → (standing_of new.standings.items k ≡ Settled) ↔ (standing_of old.standings.items k ≡ Settled)) → (m : Node) → IsSettled new m ↔ IsSettled old m
settled_by old new n i mid noted kept same m = (
  λ h.
      let mark : standing_of old.standings.items h.0 ≡ Settled = (same h.0).0 h.2 in
      let within : h.0 < length old.standings.items = met_within old.standings.items h.0 Settled (λ e. cc) mark in
      let even = kept.even in
      (h.0, noted.only h.0 m h.1 (omega arith), mark),
  λ h. (h.0, noted.stays h.0 m h.1, (same h.0).1 h.2),
)

module _ (old new : Search) (n : Node) (i : ℕ) (mid : List Standing) (noted : Noted Unmet old.nodes new.nodes old.standings.items mid n i) (apart : Distinct new.nodes) (kept : Kept old) (grows : Grows old.outputs new.outputs) where
  open_same : (e : Entry) → e.node < length old.nodes → Fits old.outputs e → open_of new.nodes new.outputs e ≡ open_of old.nodes old.outputs e
  open_same e l f =
      let there : slice_get new.nodes e.node ≡ Some (get_or old.nodes e.node End) = noted.stays e.node (get_or old.nodes e.node End) (slice_get-get_or old.nodes e.node End l) in
      let node : get_or new.nodes e.node End ≡ get_or old.nodes e.node End = get_or_from_slice_get new.nodes e.node (get_or old.nodes e.node End) End there in
      let text : text_of new.outputs e.output ≡ text_of old.outputs e.output = grows_text old.outputs new.outputs grows e.output f.output in
      ap (λ t. record { node = t; weight = e.weight; output = text_of new.outputs e.output }) node ∙ ap (λ t. record { node = get_or old.nodes e.node End; weight = e.weight; output = t }) text

  opens_same : (xs : List Entry) → All (λ e. e.node < length old.nodes) xs → All (Fits old.outputs) xs → map (open_of new.nodes new.outputs) xs ≡ map (open_of old.nodes old.outputs) xs
  opens_same [] p f = refl
  opens_same (e ∷ xs) p f =
      let a = open_same e (All-head (λ (e : Entry). e.node < length old.nodes) e xs p) (All-head (Fits old.outputs) e xs f) in
      let b = opens_same xs (All-tail (λ (e : Entry). e.node < length old.nodes) e xs p) (All-tail (Fits old.outputs) e xs f) in
      ap (λ t. t ∷ map (open_of new.nodes new.outputs) xs) a ∙ ap (λ t. open_of old.nodes old.outputs e ∷ t) b

  waits_same : map (open_of new.nodes new.outputs) old.queue.items ≡ waits old
  waits_same = opens_same old.queue.items kept.places kept.fits

  places_grow : All (λ e. e.node < length new.nodes) old.queue.items
  places_grow = All-weaker (λ (e : Entry). e.node < length old.nodes) (λ (e : Entry). e.node < length new.nodes) (λ e h. let l = noted.longer in omega arith) old.queue.items kept.places

  new_nodes : (u : ℕ) (z : List ℕ) (k : ℕ) (m : Node) → slice_get new.nodes k ≡ Some m → (slice_get old.nodes k ≡ Some m) ⊎ ((u' : ℕ) × (z' : List ℕ) × IsEdge n u z m u' z')
  new_nodes u z k m h = elim (cases_lt k (length old.nodes)) [
    | inl l ↦ inl (noted.only k m h l)
    | inr l ↦ inr (u, z, (noted.new_one k m h l, refl, refl))
  ]

  own_node : (e : Entry) → e.node ≡ i → get_or new.nodes e.node End ≡ n
  own_node e at = ap (λ k. get_or new.nodes k End) at ∙ get_or_from_slice_get new.nodes i n End noted.number

  -- Where it is settled, or waits at no greater cost, nothing changes.
  abbrev pub Passed : ℕ → List ℕ → Type 0
  Passed w y = (standing_of mid i ≡ Settled) ⊎ ((b : Entry) × (standing_of mid i ≡ Met b) × Below b.weight (text_of new.outputs b.output) w y)

  pub best_fits : (b : Entry) → standing_of mid i ≡ Met b → Fits new.outputs b
  best_fits b f = fits_grow old.outputs new.outputs grows b (All-contains (Fits old.outputs) old.queue.items b kept.fits (kept.best i b (sym (noted_same noted i) ∙ f)).1)

  pub passed_early : (weight len : ℕ) (y : List ℕ) → len ≡ length y → Passes (standing_of mid i) weight len → Passed weight y
  passed_early weight len y e p = go (standing_of mid i) refl p where
    go : (s : Standing) → standing_of mid i ≡ s → Passes s weight len → Passed weight y
    go Unmet f p = absurd p
    go Settled f p = inl f
    go (Met b) f p =
        let l : b.length ≡ length (text_of new.outputs b.output) = (best_fits b f).length in
        inr (b, f, elim p [ inl h ↦ inl h | inr h ↦ inr (h.0, inl (let k : b.length < len = h.1 in omega arith)) ])

  pub grown_passed : new.standings.items ≡ mid → new.queue.items ≡ old.queue.items → (w : ℕ) (y : List ℕ) (u : ℕ) (z : List ℕ) → Passed (w + u) (y ++ z) → Grown old new w y (IsEdge n u z)
  grown_passed stand queue w y u z passed =
      let same_waits : waits new ≡ waits old = ap (map (open_of new.nodes new.outputs)) queue ∙ waits_same in
      let same : (k : ℕ) → standing_of new.standings.items k ≡ standing_of old.standings.items k = λ k. ap (λ xs. standing_of xs k) stand ∙ noted_same noted k in
      let settled : (m : Node) → IsSettled new m ↔ IsSettled old m = settled_by old new n i mid noted kept (λ k. (λ h. sym (same k) ∙ h, λ h. same k ∙ h)) in
      record {
        kept = record {
          apart = apart;
          even = ap length stand ∙ noted.even;
          places = subst (All (λ e. e.node < length new.nodes)) (sym queue) places_grow;
          fits = subst (All (Fits new.outputs)) (sym queue) (all_fits_grow old.outputs new.outputs grows old.queue.items kept.fits);
          heap = subst (IsHeap new.outputs) (sym queue) (heap_grow old.outputs new.outputs grows old.queue.items kept.fits kept.heap);
          best = λ k b h. (let o = kept.best k b (sym (same k) ∙ h) in (o.0, subst (λ xs. Contains xs b) (sym queue) o.1));
        };
        texts = grows;
        settled = settled;
        count = ap settled_count stand ∙ noted_count noted;
        nodes = noted.stays;
        new_nodes = new_nodes u z;
        stays = λ d h. subst (λ xs. Contains xs d) (sym same_waits) h;
        covered = λ m v x e. elim passed [
          | inl k ↦ inl (i, subst (λ t. slice_get new.nodes i ≡ Some t) (sym e.0) noted.number, ap (λ xs. standing_of xs i) stand ∙ k)
          | inr k ↦
              let b = k.0 in
              let o = kept.best i k.0 (sym (noted_same noted i) ∙ k.1) in
              let there : Contains (waits new) (open_of new.nodes new.outputs k.0) = contains_map (open_of new.nodes new.outputs) new.queue.items k.0 (subst (λ xs. Contains xs k.0) (sym queue) o.1) in
              let node : get_or new.nodes k.0.node End ≡ m = own_node k.0 o.0 ∙ sym e.0 in
              let below : Below k.0.weight (text_of new.outputs k.0.output) (w + v) (y ++ x) = subst (λ t. Below k.0.weight (text_of new.outputs k.0.output) (w + t) (y ++ x)) (sym e.1) (subst (λ t. Below k.0.weight (text_of new.outputs k.0.output) (w + u) (y ++ t)) (sym e.2) k.2) in
              inr (record { weight = k.0.weight; output = text_of new.outputs k.0.output; entry = subst (λ t. Contains (waits new) (record { node = t; weight = k.0.weight; output = text_of new.outputs k.0.output })) node there; below = below })
        ];
        sound = λ d h. inl (subst (λ xs. Contains xs d) same_waits h);
      }

  -- where not, one entry more waits
  module _ (e : Entry) (at : e.node ≡ i) (fits : Fits new.outputs e) (unsettled : standing_of mid i ≢ Settled) (stand : new.standings.items ≡ set mid i (Met e)) where
    within : i < length mid
    within = let w : i < length new.nodes = slice_get_within new.nodes i n noted.number in let v = noted.even in omega arith

    stands_own : standing_of new.standings.items i ≡ Met e
    stands_own = ap (λ xs. standing_of xs i) stand ∙ set_own mid i (Met e) within

    stands_other : (k : ℕ) → k ≢ i → standing_of new.standings.items k ≡ standing_of old.standings.items k
    stands_other k ne = ap (λ xs. standing_of xs k) stand ∙ set_other mid i k (Met e) ne ∙ noted_same noted k

    settled_same : (k : ℕ) → (standing_of new.standings.items k ≡ Settled) ↔ (standing_of old.standings.items k ≡ Settled)
    settled_same k = elim (cases_eq k i) [
      | inl q ↦ (
        λ h. absurd (met_not_settled e (sym stands_own ∙ ap (standing_of new.standings.items) (sym q) ∙ h)),
        λ h. absurd (unsettled (noted_same noted i ∙ ap (standing_of old.standings.items) (sym q) ∙ h)),
      )
      | inr q ↦ (λ h. sym (stands_other k q) ∙ h, λ h. stands_other k q ∙ h)
    ]

    pub grown_pushed : IsPermutation (e ∷ old.queue.items) new.queue.items → IsHeap new.outputs new.queue.items → (w : ℕ) (y : List ℕ) (u : ℕ) (z : List ℕ) → e.weight ≡ w + u → text_of new.outputs e.output ≡ y ++ z → Grown old new w y (IsEdge n u z)
    grown_pushed moves heap w y u z weight output =
        let place : e.node < length new.nodes = subst (λ k. k < length new.nodes) (sym at) (slice_get_within new.nodes i n noted.number) in
        let is : open_of new.nodes new.outputs e ≡ record { node = n; weight = w + u; output = y ++ z } =
        (ap (λ t. record { node = t; weight = e.weight; output = text_of new.outputs e.output }) (own_node e at)
        ∙ ap (λ t. record { node = n; weight = t; output = text_of new.outputs e.output }) weight
        ∙ ap (λ t. record { node = n; weight = w + u; output = t }) output) in
        let moved : IsPermutation (open_of new.nodes new.outputs e ∷ map (open_of new.nodes new.outputs) old.queue.items) (waits new) = IsPermutation-map (open_of new.nodes new.outputs) (e ∷ old.queue.items) new.queue.items moves in
        let moved' : IsPermutation (record { node = n; weight = w + u; output = y ++ z } ∷ waits old) (waits new) = subst (λ o. IsPermutation (o ∷ waits old) (waits new)) is (subst (λ xs. IsPermutation (open_of new.nodes new.outputs e ∷ xs) (waits new)) waits_same moved) in
        let one : Open Node = record { node = n; weight = w + u; output = y ++ z } in
        let in_new : (b : Entry) → Contains (e ∷ old.queue.items) b → Contains new.queue.items b = λ b h. Contains-permutation (e ∷ old.queue.items) new.queue.items b moves h in
        record {
          kept = record {
            apart = apart;
            even = (let l : length new.standings.items ≡ length (set mid i (Met e)) = ap length stand in let k = length-set mid i (Met e) in let v = noted.even in omega arith);
            places = All-permutation (λ (e : Entry). e.node < length new.nodes) (e ∷ old.queue.items) new.queue.items moves (All-cons (λ (e : Entry). e.node < length new.nodes) e old.queue.items place places_grow);
            fits = All-permutation (Fits new.outputs) (e ∷ old.queue.items) new.queue.items moves (All-cons (Fits new.outputs) e old.queue.items fits (all_fits_grow old.outputs new.outputs grows old.queue.items kept.fits));
            heap = heap;
            best = λ k b h. elim (cases_eq k i) [
              | inl q ↦
                  let own : Met e ≡ Met b = sym stands_own ∙ ap (standing_of new.standings.items) (sym q) ∙ h in
                  let same : e ≡ b = cc in
                  subst (λ (t : Entry). (t.node ≡ k) × Contains new.queue.items t) same (at ∙ sym q, in_new e (contains_first e old.queue.items))
              | inr q ↦ (let o = kept.best k b (sym (stands_other k q) ∙ h) in (o.0, in_new b (contains_later e old.queue.items b o.1)))
            ];
          };
          texts = grows;
          settled = settled_by old new n i mid noted kept settled_same;
          count = (let a : settled_count new.standings.items ≡ settled_count mid + 0 = ap settled_count stand ∙ count_set mid i (Met e) within unsettled in let b = noted_count noted in omega arith);
          nodes = noted.stays;
          new_nodes = new_nodes u z;
          stays = λ d h. Contains-permutation (record { node = n; weight = w + u; output = y ++ z } ∷ waits old) (waits new) d moved' (contains_later (record { node = n; weight = w + u; output = y ++ z }) (waits old) d h);
          covered = λ m v x k.
              let there : Contains (waits new) (record { node = n; weight = w + u; output = y ++ z }) = Contains-permutation (record { node = n; weight = w + u; output = y ++ z } ∷ waits old) (waits new) (record { node = n; weight = w + u; output = y ++ z }) moved' (contains_first (record { node = n; weight = w + u; output = y ++ z }) (waits old)) in
              let entry : Contains (waits new) (record { node = m; weight = w + v; output = y ++ x }) = subst (λ t. Contains (waits new) (record { node = t; weight = w + v; output = y ++ x })) (sym k.0) (subst (λ t. Contains (waits new) (record { node = n; weight = w + t; output = y ++ x })) (sym k.1) (subst (λ t. Contains (waits new) (record { node = n; weight = w + u; output = y ++ t })) (sym k.2) there)) in
              inr (record { weight = w + v; output = y ++ x; entry = entry; below = below_refl (w + v) (y ++ x) });
          sound = λ d h. elim (contains_cases (record { node = n; weight = w + u; output = y ++ z }) (waits old) d (Contains-permutation (waits new) (record { node = n; weight = w + u; output = y ++ z } ∷ waits old) d (IsPermutation-sym (record { node = n; weight = w + u; output = y ++ z } ∷ waits old) (waits new) moved') h)) [
            | inl k ↦ inl k
            | inr k ↦ inr (u, z, (ap (λ (o : Open Node). o.node) k, refl, refl), ap (λ (o : Open Node). o.weight) k, ap (λ (o : Open Node). o.output) k)
          ];
        }
