-- The steps of a search keep what it keeps, and its end is the least.
use Rattle.std.specs.Prelude.{◌≡◌, ◌⊎◌, ◌<◌, ℕ, ◌+◌, List, [], ◌∷◌, ◌++◌, Contains, length}
use Rattle.std.specs.List.Sorted.{IsPermutation}
use Rattle.std.proofs.Common.{zero, suc, inl, inr, subst, sym, refl, ap, arith}
use Rattle.std.proofs.lemmas.List.Elements.{All-contains}
use Rattle.std.proofs.lemmas.List.Sorted.{Contains-permutation, IsPermutation-sym}
use Rattle.weighted_relations.specs.Least.{Below}
use Rattle.weighted_relations.specs.Order.{below_refl, below_trans, below_after}
use Rattle.weighted_relations.specs.Searches.{Edges, Reach, here, on, Under}
use Rattle.weighted_relations.specs.SearchLaws.{answer, none, under_more}
use Rattle.weighted_relations.specs.SearchRuns.{Open, LeastWay, Done, Waits, Going, IsFirst}

pub contains_first : {X : Type 0} (x : X) (xs : List X) → Contains (x ∷ xs) x
contains_first x xs = (0, (let h : 0 < length (x ∷ xs) = omega arith in h), refl)

pub contains_later : {X : Type 0} (a : X) (xs : List X) (x : X) → Contains xs x → Contains (a ∷ xs) x
contains_later a xs x h = (suc h.0, (let l : suc h.0 < length (a ∷ xs) = omega (arith, h.1) in l), h.2)

-- an element of a list with one more in front
pub contains_cases : {X : Type 0} (a : X) (xs : List X) (x : X) → Contains (a ∷ xs) x → Contains xs x ⊎ (x ≡ a)
contains_cases a xs x (zero, l, e) = inr (sym e)
contains_cases a xs x (suc k, l, e) = inl (k, (let h : k < length xs = omega (arith, l) in h), e)

module _ {A : Type 0} (E : Edges A) (s : A) (S : A → Type 0) (queue : List (Open A)) (rest : List (Open A)) (e : Open A) (moves : IsPermutation queue (e ∷ rest)) (going : Going E s S queue) where
  -- what is queue is taken out, or stays
  taken : (m : A) (v : ℕ) (x : List ℕ) → Waits queue m v x → Waits rest m v x ⊎ (record { node = m; weight = v; output = x } ≡ e)
  taken m v x h = contains_cases e rest (record { node = m; weight = v; output = x }) (Contains-permutation queue (e ∷ rest) (record { node = m; weight = v; output = x }) moves h)

  was : Waits queue e.node e.weight e.output
  was = Contains-permutation (e ∷ rest) queue e (IsPermutation-sym queue (e ∷ rest) moves) (contains_first e rest)

  stayed : (m : A) (v : ℕ) (x : List ℕ) → Waits rest m v x → Waits queue m v x
  stayed m v x h = Contains-permutation (e ∷ rest) queue (record { node = m; weight = v; output = x }) (IsPermutation-sym queue (e ∷ rest) moves) (contains_later e rest (record { node = m; weight = v; output = x }) h)

  first_way : Reach E s e.node e.weight e.output
  first_way = going.kept.true_waiting e.node e.weight e.output was

  module _ (S' : A → Type 0) (queue' : List (Open A)) (grows : (n : A) → S n → S' n) (stays : (m : A) (v : ℕ) (x : List ℕ) → Waits rest m v x → Waits queue' m v x) (there : S' e.node) where
    settled_under : (w : ℕ) (y : List ℕ) → LeastWay E s e.node w y → (m : A) (v : ℕ) (x : List ℕ) → Under (Done E s S) m v x ⊎ Under (Waits queue) m v x → Under (Done E s S') m v x ⊎ Under (Waits queue') m v x
    settled_under w y way m v x =
        elim [
          | inl d ↦ inl (record { weight = d.weight; output = d.output; entry = record { settled = grows m d.entry.settled; least = d.entry.least }; below = d.below })
          | inr f ↦ elim (taken m f.weight f.output f.entry) [
            | inl k ↦ inr (record { weight = f.weight; output = f.output; entry = stays m f.weight f.output k; below = f.below })
            | inr k ↦
                let here' : m ≡ e.node = cc in
                let reach : Reach E s e.node f.weight f.output = subst (λ n. Reach E s n f.weight f.output) here' (going.kept.true_waiting m f.weight f.output f.entry) in
                let under : Under (Done E s S') e.node v x = record { weight = w; output = y; entry = record { settled = there; least = way }; below = below_trans w f.weight v y f.output x (way.least f.weight f.output reach) f.below } in
                inl (subst (λ n. Under (Done E s S') n v x) (sym here') under)
          ]
        ]

  -- an entry whose node is settled is dropped
  pub drop_going : S e.node → Going E s S rest
  drop_going there =
      let way = going.ways e.node there in
      let move : (m : A) (v : ℕ) (x : List ℕ) → Under (Done E s S) m v x ⊎ Under (Waits queue) m v x → Under (Done E s S) m v x ⊎ Under (Waits rest) m v x = settled_under S rest (λ n h. h) (λ m v x h. h) there way.0 way.1 way.2 in
      record {
        kept = record {
          start = move s 0 [] going.kept.start;
          edges = λ n m w u y z d k. move m (w + u) (y ++ z) (going.kept.edges n m w u y z d k);
          true_done = λ n w y d. d.least.way;
          true_waiting = λ n w y h. going.kept.true_waiting n w y (stayed n w y h);
        };
        ways = going.ways;
      }

  -- the first that waits is the least way to its node, where this is not settled
  pub first_least : (S e.node → ⊥) → IsFirst e queue → LeastWay E s e.node e.weight e.output
  first_least fresh first = record {
    way = first_way;
    least = answer E s (Done E s S) (Waits queue) going.kept e.node e.weight e.output (λ v x d. fresh d.settled) (λ n v x h. All-contains (λ (d : Open A). Below e.weight e.output d.weight d.output) queue (record { node = n; weight = v; output = x }) first h);
  }

  -- the first is settled, and what its edges lead to is settled or waits
  pub settle_going : (S e.node → ⊥) → IsFirst e queue → (S' : A → Type 0) (queue' : List (Open A))
      → (grows : (n : A) → S n → S' n) → S' e.node → ((n : A) → S' n → S n ⊎ (n ≡ e.node))
      → ((m : A) (v : ℕ) (x : List ℕ) → Waits rest m v x → Waits queue' m v x)
      → ((m : A) (u : ℕ) (z : List ℕ) → E e.node m u z → S' m ⊎ Under (Waits queue') m (e.weight + u) (e.output ++ z))
      → ((m : A) (v : ℕ) (x : List ℕ) → Waits queue' m v x → Waits rest m v x ⊎ ((u : ℕ) × (z : List ℕ) × E e.node m u z × (v ≡ e.weight + u) × (x ≡ e.output ++ z)))
      → Going E s S' queue'
  settle_going fresh first S' queue' grows there only stays covered sound =
      let way : LeastWay E s e.node e.weight e.output = first_least fresh first in
      let move : (m : A) (v : ℕ) (x : List ℕ) → Under (Done E s S) m v x ⊎ Under (Waits queue) m v x → Under (Done E s S') m v x ⊎ Under (Waits queue') m v x = settled_under S' queue' grows stays there e.weight e.output way in
      let ways : (n : A) → S' n → (w : ℕ) × (y : List ℕ) × LeastWay E s n w y = λ n h. elim (only n h) [
        | inl k ↦ going.ways n k
        | inr k ↦ (e.weight, e.output, subst (λ m. LeastWay E s m e.weight e.output) (sym k) way)
      ] in
      record {
        kept = record {
          start = move s 0 [] going.kept.start;
          edges = λ n m w u y z d k. elim (only n d.settled) [
            | inl h ↦ move m (w + u) (y ++ z) (going.kept.edges n m w u y z (record { settled = h; least = d.least }) k)
            | inr h ↦
                let edge : E e.node m u z = subst (λ a. E a m u z) h k in
                let reach : Reach E s e.node w y = subst (λ a. Reach E s a w y) h d.least.way in
                let below : Below (e.weight + u) (e.output ++ z) (w + u) (y ++ z) = below_after e.weight w u e.output y z (way.least w y reach) in
                elim (covered m u z edge) [
                  | inl g ↦
                      let to = ways m g in
                      inl (record { weight = to.0; output = to.1; entry = record { settled = g; least = to.2 }; below = to.2.least (w + u) (y ++ z) (on reach edge) })
                  | inr g ↦ inr (under_more (Waits queue') m (e.weight + u) (w + u) (e.output ++ z) (y ++ z) below g)
                ]
          ];
          true_done = λ n w y d. d.least.way;
          true_waiting = λ n w y h. elim (sound n w y h) [
            | inl k ↦ going.kept.true_waiting n w y (stayed n w y k)
            | inr k ↦ subst (λ t. Reach E s n t y) (sym k.3) (subst (λ t. Reach E s n (e.weight + k.0) t) (sym k.4) (on first_way k.2))
          ];
        };
        ways = ways;
      }

-- at the beginning
pub start_going : {A : Type 0} (E : Edges A) (s : A) (S : A → Type 0) → ((n : A) → S n → ⊥) → Going E s S (record { node = s; weight = 0; output = [] } ∷ [])
start_going {A} E s S empty =
    record {
      kept = record {
        start = inr (record { weight = 0; output = []; entry = contains_first (record { node = s; weight = 0; output = [] }) []; below = below_refl 0 [] });
        edges = λ n m w u y z d k. absurd (empty n d.settled);
        true_done = λ n w y d. d.least.way;
        true_waiting = λ n w y h. elim (contains_cases (record { node = s; weight = 0; output = [] }) [] (record { node = n; weight = w; output = y }) h) [
          | inl k ↦ absurd (omega (arith, k.1))
          | inr k ↦
              let a : n ≡ s = ap (λ (o : Open A). o.node) k in
              let b : w ≡ 0 = ap (λ (o : Open A). o.weight) k in
              let c : y ≡ [] = ap (λ (o : Open A). o.output) k in
              subst (λ t. Reach E s t w y) (sym a) (subst (λ t. Reach E s s t y) (sym b) (subst (λ t. Reach E s s 0 t) (sym c) here))
        ];
      };
      ways = λ n h. absurd (empty n h);
    }

-- where nothing waits, there is no way to a node that is not settled
pub end_going : {A : Type 0} (E : Edges A) (s : A) (S : A → Type 0) → Going E s S [] → (g : A) → (S g → ⊥) → (w : ℕ) (y : List ℕ) → Reach E s g w y → ⊥
end_going E s S going g fresh w y way = none E s (Done E s S) (Waits []) going.kept g (λ v x d. fresh d.settled) (λ n v x h. omega (arith, h.1)) w y way
