-- A heap's steps.
use Rattle.std.proofs.Common.{◌≡◌, ◌≢◌, ◌<◌, ◌≤◌, ℕ, zero, suc, ◌+◌, ◌-◌, ◌*◌, ◌/◌, List, [], ◌∷◌, ◌++◌, length, get_or, take, drop, arith, sym, ap, ◌∙◌, subst, inl, inr, length-append}
use Rattle.std.specs.Prelude.{All}
use Rattle.std.specs.List.{swap}
use Rattle.std.proofs.lemmas.Bool.{cases_eq}
use Rattle.std.proofs.lemmas.List.{get_or_append_left, get_or_default, append-nil, drop_all, take_all}
use Rattle.std.proofs.lemmas.List.Edits.{swapped_from_swap}
use Rattle.weighted_relations.specs.Order.{below_refl, below_trans, below_total}
use Rattle.least_path.specs.declared.queue.Entry.{Entry}
use Rattle.least_path.specs.Texts.{text_of}
use Rattle.least_path.specs.Waiting.{Before, IsHeap, IsHeapButUp, IsHeapButDown, IsChild, at_place}

pub before_refl : (all : List (List ℕ)) (a : Entry) → Before all a a
before_refl all a = below_refl a.weight (text_of all a.output)

pub before_trans : (all : List (List ℕ)) (a b c : Entry) → Before all a b → Before all b c → Before all a c
before_trans all a b c h k = below_trans a.weight b.weight c.weight (text_of all a.output) (text_of all b.output) (text_of all c.output) h k

pub before_other : (all : List (List ℕ)) (a b : Entry) → (Before all a b → ⊥) → Before all b a
before_other all a b h = elim (below_total a.weight b.weight (text_of all a.output) (text_of all b.output)) [ inl k ↦ absurd (h k) | inr k ↦ k ]

pub before_at : (all : List (List ℕ)) (a b a' b' : Entry) → a' ≡ a → b' ≡ b → Before all a b → Before all a' b'
before_at all a b a' b' e f h = subst (λ t. Before all t b') (sym e) (subst (Before all a) (sym f) h)

-- two places in each other's place
pub record Exchanged (f g : ℕ → Entry) (a b : ℕ) : Type 0 where
  pub first : g a ≡ f b
  pub second : g b ≡ f a
  pub others : (k : ℕ) → k ≢ a → k ≢ b → g k ≡ f k

same_parent : (p q k : ℕ) → IsChild p k → IsChild q k → p ≡ q
same_parent p q k h g = let a = h.low in let b = h.high in let c = g.low in let d = g.high in omega arith

module _ (all : List (List ℕ)) (f g : ℕ → Entry) (n at above : ℕ) (child : IsChild above at) (within : at < n) (moved : Exchanged f g above at) (less : Before all (f at) (f above)) (heap : IsHeapButUp all f n at) where
  apart : above < at
  apart = let h = child.low in omega arith

  up_others : (p k : ℕ) → IsChild p k → k < n → k ≢ above → Before all (g p) (g k)
  up_others p k c l ne = elim (cases_eq k at) [
    | inl e ↦
        let q : p ≡ above = same_parent p above at (subst (IsChild p) e c) child in
        before_at all (f at) (f above) (g p) (g k) (ap g q ∙ moved.first) (ap g e ∙ moved.second) less
    | inr ke ↦ elim (cases_eq p at) [
      | inl e ↦ before_at all (f above) (f k) (g p) (g k) (ap g e ∙ moved.second) (moved.others k ne ke) (heap.around above k child (subst (λ t. IsChild t k) e c) l)
      | inr pe ↦ elim (cases_eq p above) [
        | inl e ↦ before_at all (f at) (f k) (g p) (g k) (ap g e ∙ moved.first) (moved.others k ne ke) (before_trans all (f at) (f above) (f k) less (heap.others above k (subst (λ t. IsChild t k) e c) l ke))
        | inr qe ↦ before_at all (f p) (f k) (g p) (g k) (moved.others p qe pe) (moved.others k ne ke) (heap.others p k c l ke)
      ]
    ]
  ]

  up_around : (p k : ℕ) → IsChild p above → IsChild above k → k < n → Before all (g p) (g k)
  up_around p k c d l =
      let a = apart in
      let c1 = c.low in
      let d1 = d.low in
      let pa : p ≢ above = omega arith in
      let pt : p ≢ at = omega arith in
      let ka : k ≢ above = omega arith in
      let ta : above ≢ at = omega arith in
      let la : above < n = omega arith in
      let top : Before all (f p) (f above) = heap.others p above c la ta in
      elim (cases_eq k at) [
        | inl e ↦ before_at all (f p) (f above) (g p) (g k) (moved.others p pa pt) (ap g e ∙ moved.second) top
        | inr ke ↦ before_at all (f p) (f k) (g p) (g k) (moved.others p pa pt) (moved.others k ka ke) (before_trans all (f p) (f above) (f k) top (heap.others above k d l ke))
      ]

  pub up_step : IsHeapButUp all g n above
  up_step = record { others = up_others; around = up_around }

module _ (all : List (List ℕ)) (f g : ℕ → Entry) (n at below : ℕ) (child : IsChild at below) (within : below < n) (moved : Exchanged f g at below) (less : Before all (f below) (f at)) (first : (k : ℕ) → IsChild at k → k < n → Before all (f below) (f k)) (heap : IsHeapButDown all f n at) where
  down_apart : at < below
  down_apart = let h = child.low in omega arith

  down_others : (p k : ℕ) → IsChild p k → k < n → p ≢ below → Before all (g p) (g k)
  down_others p k c l ne = elim (cases_eq p at) [
    | inl e ↦ elim (cases_eq k below) [
      | inl q ↦ before_at all (f below) (f at) (g p) (g k) (ap g e ∙ moved.first) (ap g q ∙ moved.second) less
      | inr q ↦
          let c' : IsChild at k = subst (λ t. IsChild t k) e c in
          let low = c'.low in
          let ka : k ≢ at = omega arith in
          before_at all (f below) (f k) (g p) (g k) (ap g e ∙ moved.first) (moved.others k ka q) (first k c' l)
    ]
    | inr pe ↦ elim (cases_eq k at) [
      | inl q ↦ before_at all (f p) (f below) (g p) (g k) (moved.others p pe ne) (ap g q ∙ moved.first) (heap.around p below (subst (IsChild p) q c) child within)
      | inr ka ↦ elim (cases_eq k below) [
        | inl q ↦ absurd (pe (same_parent p at below (subst (IsChild p) q c) child))
        | inr kb ↦ before_at all (f p) (f k) (g p) (g k) (moved.others p pe ne) (moved.others k ka kb) (heap.others p k c l pe)
      ]
    ]
  ]

  down_around : (p k : ℕ) → IsChild p below → IsChild below k → k < n → Before all (g p) (g k)
  down_around p k c d l =
      let a = down_apart in
      let e : p ≡ at = same_parent p at below c child in
      let d1 = d.low in
      let ka : k ≢ at = omega arith in
      let kb : k ≢ below = omega arith in
      let ba : below ≢ at = omega arith in
      before_at all (f below) (f k) (g p) (g k) (ap g e ∙ moved.first) (moved.others k ka kb) (heap.others below k d l ba)

  pub down_step : IsHeapButDown all g n below
  down_step = record { others = down_others; around = down_around }

-- at the top nothing is above
pub up_top : (all : List (List ℕ)) (f : ℕ → Entry) (n : ℕ) → IsHeapButUp all f n 0 → (p k : ℕ) → IsChild p k → k < n → Before all (f p) (f k)
up_top all f n heap p k c l = let h = c.low in heap.others p k c l (omega arith)

pub up_done : (all : List (List ℕ)) (f : ℕ → Entry) (n at above : ℕ) → IsChild above at → Before all (f above) (f at) → IsHeapButUp all f n at → (p k : ℕ) → IsChild p k → k < n → Before all (f p) (f k)
up_done all f n at above child h heap p k c l = elim (cases_eq k at) [
  | inl e ↦ let q : p ≡ above = same_parent p above at (subst (IsChild p) e c) child in before_at all (f above) (f at) (f p) (f k) (ap f q) (ap f e) h
  | inr ne ↦ heap.others p k c l ne
]

-- where nothing is below
pub down_bottom : (all : List (List ℕ)) (f : ℕ → Entry) (n at : ℕ) → n ≤ at * 2 + 1 → IsHeapButDown all f n at → (p k : ℕ) → IsChild p k → k < n → Before all (f p) (f k)
down_bottom all f n at low heap p k c l = elim (cases_eq p at) [
  | inl e ↦ (let h = c.low in absurd (omega arith))
  | inr ne ↦ heap.others p k c l ne
]

pub down_done : (all : List (List ℕ)) (f : ℕ → Entry) (n at below : ℕ) → ((k : ℕ) → IsChild at k → k < n → Before all (f below) (f k)) → Before all (f at) (f below) → IsHeapButDown all f n at → (p k : ℕ) → IsChild p k → k < n → Before all (f p) (f k)
down_done all f n at below first h heap p k c l = elim (cases_eq p at) [
  | inl e ↦ subst (λ t. Before all (f t) (f k)) (sym e) (before_trans all (f at) (f below) (f k) h (first k (subst (λ t. IsChild t k) e c) l))
  | inr ne ↦ heap.others p k c l ne
]

-- the top comes before all
pub top_first : (all : List (List ℕ)) (f : ℕ → Entry) (n : ℕ) → ((p k : ℕ) → IsChild p k → k < n → Before all (f p) (f k)) → (bound k : ℕ) → k < bound → k < n → Before all (f 0) (f k)
top_first all f n heap zero k h l = absurd (omega (arith, h))
top_first all f n heap (suc bound) k h l = elim (cases_eq k 0) [
  | inl e ↦ subst (λ t. Before all (f 0) (f t)) (sym e) (before_refl all (f 0))
  | inr ne ↦
      let p : ℕ = (k - 1) / 2 in
      let c : IsChild ((k - 1) / 2) k = record { low = omega arith; high = omega arith } in
      let small : (k - 1) / 2 < bound = omega (arith, h) in
      let within : (k - 1) / 2 < n = omega (arith, l) in
      before_trans all (f 0) (f ((k - 1) / 2)) (f k) (top_first all f n heap bound ((k - 1) / 2) small within) (heap ((k - 1) / 2) k c l)
]

-- one more at the end
pub push_up : (all : List (List ℕ)) (xs : List Entry) (e : Entry) → IsHeap all xs → IsHeapButUp all (at_place (xs ++ e ∷ [])) (length (xs ++ e ∷ [])) (length xs)
push_up all xs e heap =
    let len : length (xs ++ e ∷ []) ≡ length xs + 1 = length-append xs (e ∷ []) in
    record {
      others = λ p k c l ne.
          let low = c.low in
          let kl : k < length xs = omega arith in
          let pl : p < length xs = omega arith in
          before_at all (at_place xs p) (at_place xs k) (at_place (xs ++ e ∷ []) p) (at_place (xs ++ e ∷ []) k) (get_or_append_left xs (e ∷ []) (record { weight = 0; length = 0; output = 0; node = 0 }) p pl) (get_or_append_left xs (e ∷ []) (record { weight = 0; length = 0; output = 0; node = 0 }) k kl) (heap p k c kl);
      around = λ p k c d l. let low = d.low in absurd (omega arith);
    }

-- all but the top stand as before
pub drop_down : (all : List (List ℕ)) (xs ys : List Entry) → length ys < length xs → ((k : ℕ) → 0 < k → k < length ys → at_place ys k ≡ at_place xs k) → IsHeap all xs → IsHeapButDown all (at_place ys) (length ys) 0
drop_down all xs ys less same heap = record {
  others = λ p k c l ne.
      let low = c.low in
      let pos : 0 < p = omega arith in
      let pl : p < length ys = omega arith in
      let kp : 0 < k = omega arith in
      let kx : k < length xs = omega arith in
      before_at all (at_place xs p) (at_place xs k) (at_place ys p) (at_place ys k) (same p pos pl) (same k kp l) (heap p k c kx);
  around = λ p k c d l. let low = c.low in absurd (omega arith);
}

-- a slice of the whole, written back
pub put_back : (ys items : List Entry) (n : ℕ) → length ys ≡ length items → n ≡ length items → take n (ys ++ drop (length ys) items) ≡ ys
put_back ys items n e f =
    let none : drop (length ys) items ≡ [] = drop_all (length ys) items (omega arith) in
    ap (λ t. take n (ys ++ t)) none ∙ ap (take n) (append-nil ys) ∙ take_all n ys (omega arith)

pub exchanged : (xs ys : List Entry) (a b : ℕ) → a < length xs → b < length xs → ys ≡ swap xs a b → Exchanged (at_place xs) (at_place ys) a b
exchanged xs ys a b h k e = let s = swapped_from_swap xs ys a b (record { weight = 0; length = 0; output = 0; node = 0 }) h k e in record { first = s.0; second = s.1; others = s.2 }

pub child_of : (k : ℕ) → 0 < k → IsChild ((k - 1) / 2) k
child_of k h = record { low = omega arith; high = omega arith }

pub all_first : (all : List (List ℕ)) (xs : List Entry) (e : Entry) → IsHeap all xs → 0 < length xs → e ≡ get_or xs 0 e → All (Before all e) xs
all_first all xs e heap pos is k d l =
    let top : Before all (at_place xs 0) (at_place xs k) = top_first all (at_place xs) (length xs) heap (k + 1) k (omega arith) l in
    let z : Entry = record { weight = 0; length = 0; output = 0; node = 0 } in
    let a : e ≡ at_place xs 0 = is ∙ get_or_default xs 0 e (record { weight = 0; length = 0; output = 0; node = 0 }) pos in
    let b : get_or xs k d ≡ at_place xs k = get_or_default xs k d (record { weight = 0; length = 0; output = 0; node = 0 }) l in
    before_at all (at_place xs 0) (at_place xs k) e (get_or xs k d) a b top
