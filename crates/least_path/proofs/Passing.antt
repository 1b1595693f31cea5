-- Why a search may pass over nodes from which one edge alone leads on.
use Rattle.std.proofs.Common.{◌≡◌, ◌<◌, ◌≤◌, ◌⊎◌, ℕ, zero, suc, ◌+◌, List, [], ◌++◌, arith, refl, sym, ap, ◌∙◌, subst, inl, inr, append_assoc}
use Rattle.std.proofs.lemmas.List.{append-nil}
use Rattle.weighted_relations.specs.Least.{Below}
use Rattle.weighted_relations.specs.Order.{below_refl, below_after}
use Rattle.weighted_relations.specs.Searches.{Edges, Entries, Reach, here, on, Under, Kept}
use Rattle.weighted_relations.specs.SearchLaws.{under_more}
use Rattle.least_path.specs.Passing.{IsOnly, LedOn, Passed, Passes, none, then, Stays, UnderOn}

-- the same by other words
pub under_as : {A : Type 0} (F : Entries A) (n : A) (v w : ℕ) (x y : List ℕ) → v ≡ w → x ≡ y → Under F n v x → Under F n w y
under_as {A} F n v w x y e f u = subst (λ t. Under F n t y) e (subst (Under F n v) f u)

-- where nothing is passed over
pub stay_under : {A : Type 0} (F : Entries A) (n : A) (w : ℕ) (y : List ℕ) → Under F n w y → UnderOn Stays F n w y
stay_under {A} F n w y u = record { node = n; more = 0; text = []; on = (refl, refl, refl); under = under_as F n w (w + 0) y (y ++ []) (omega arith) (sym (append-nil y)) u }

pub unstay_under : {A : Type 0} (F : Entries A) (n : A) (w : ℕ) (y : List ℕ) → UnderOn Stays F n w y → Under F n w y
unstay_under {A} F n w y u =
    let weight : w + u.more ≡ w = (let e : u.more ≡ 0 = u.on.1 in omega arith) in
    subst (λ m. Under F m w y) u.on.0 (under_as F u.node (w + u.more) w (y ++ u.text) y weight (ap (λ t. y ++ t) u.on.2 ∙ append-nil y) u.under)

pub stay_led : {A : Type 0} (D : A → ℕ → List ℕ → Type 0) (n : A) (u : ℕ) (z : List ℕ) → D n u z → LedOn Stays D n u z
stay_led {A} D n u z h = record { first = n; weight = u; output = z; edge = h; more = 0; text = []; on = (refl, refl, refl); whole = omega arith; written = sym (append-nil z) }

pub stayed : {A : Type 0} (D : A → ℕ → List ℕ → Type 0) (n : A) (u : ℕ) (z : List ℕ) → LedOn Stays D n u z → D n u z
stayed {A} D n u z h =
    let weight : h.weight ≡ u = (let e : h.more ≡ 0 = h.on.1 in let f : u ≡ h.weight + h.more = h.whole in omega arith) in
    let output : h.output ≡ z = sym (append-nil h.output) ∙ ap (λ t. h.output ++ t) (sym h.on.2) ∙ sym h.written in
    subst (λ m. D m u z) (sym h.on.0) (subst (λ v. D h.first v z) weight (subst (D h.first h.weight) output h.edge))

-- by other edges, and at other entries
pub led_as : {A : Type 0} (On : Edges A) (D D' : A → ℕ → List ℕ → Type 0) → ((n : A) (u : ℕ) (z : List ℕ) → D n u z → D' n u z) → (n : A) (u : ℕ) (z : List ℕ) → LedOn On D n u z → LedOn On D' n u z
led_as {A} On D D' f n u z h = record { first = h.first; weight = h.weight; output = h.output; edge = f h.first h.weight h.output h.edge; more = h.more; text = h.text; on = h.on; whole = h.whole; written = h.written }

pub under_on_as : {A : Type 0} (On : Edges A) (F G : Entries A) → ((n : A) (w : ℕ) (y : List ℕ) → Under F n w y → Under G n w y) → (n : A) (w : ℕ) (y : List ℕ) → UnderOn On F n w y → UnderOn On G n w y
under_on_as {A} On F G f n w y u = record { node = u.node; more = u.more; text = u.text; on = u.on; under = f u.node (w + u.more) (y ++ u.text) u.under }

module _ {A : Type 0} (E : Edges A) where
  reach_as : (s n : A) (v w : ℕ) (x y : List ℕ) → v ≡ w → x ≡ y → Reach E s n v x → Reach E s n w y
  reach_as s n v w x y e f h = subst (λ t. Reach E s n t y) e (subst (Reach E s n v) f h)

  passed_as : (k : ℕ) (n o : A) (v w : ℕ) (x y : List ℕ) → v ≡ w → x ≡ y → Passed E k n o v x → Passed E k n o w y
  passed_as k n o v w x y e f h = subst (λ t. Passed E k n o t y) e (subst (Passed E k n o v) f h)

  pub stays_passed : (n : A) → Passes E n n 0 []
  stays_passed n = (0, (omega arith), none)

  -- one more at the end
  pub passed_more : {k : ℕ} {n o : A} {w : ℕ} {y : List ℕ} → Passed E k n o w y → (p : A) (u : ℕ) (z : List ℕ) → IsOnly E o p u z → Passed E (suc k) n p (w + u) (y ++ z)
  passed_more (none {n}) p u z only = passed_as 1 n p (u + 0) (0 + u) (z ++ []) z (omega arith) (append-nil z) (then only none)
  passed_more (then {k} {n} {o} {u = v} {w} {z = x} {y} first rest) p u z only =
      passed_as (suc (suc k)) n p (v + (w + u)) ((v + w) + u) (x ++ (y ++ z)) ((x ++ y) ++ z) (omega arith) (sym (append_assoc x y z)) (then first (passed_more rest p u z only))

  -- what is passed is a way
  pub reach_passed : {k : ℕ} {n o : A} {w : ℕ} {y : List ℕ} → Passed E k n o w y → (s : A) (v : ℕ) (x : List ℕ) → Reach E s n v x → Reach E s o (v + w) (x ++ y)
  reach_passed (none {n}) s v x way = reach_as s n v (v + 0) x (x ++ []) (omega arith) (sym (append-nil x)) way
  reach_passed (then {o} {u} {w} {z} {y} first rest) s v x way =
      reach_as s o ((v + u) + w) (v + (u + w)) ((x ++ z) ++ y) (x ++ (z ++ y)) (omega arith) (append_assoc x z y) (reach_passed rest s (v + u) (x ++ z) (on way first.edge))

  -- a way from a node with one edge goes along it
  pub reach_by : {s n o : A} {w u : ℕ} {y z : List ℕ} → IsOnly E s o u z → Reach E s n w y → (n ≡ s) ⊎ ((v : ℕ) × (x : List ℕ) × Reach E o n v x)
  reach_by {s} only here = inl refl
  reach_by {s} {n} {o} only (on {n = p} {u = t} {z = r} way edge) = elim (reach_by only way) [
    | inl same ↦ (let next = only.alone n t r (subst (λ q. E q n t r) same edge) in inr (0, [], subst (λ q. Reach E o q 0 []) (sym next.0) here))
    | inr h ↦ inr (h.0 + t, h.1 ++ r, on h.2 edge)
  ]

  -- A search whose edges lead to entries by passing over nodes is one over all nodes: a node that is passed over counts as done.
  module _ (s : A) (done waiting : Entries A) where
    abbrev pub Either : Entries A
    Either n w y = done n w y ⊎ waiting n w y

    -- one edge at least leads on alone, and some entry lies behind
    pub record IsOver (n : A) (w : ℕ) (y : List ℕ) : Type 0 where
      pub next : A
      pub first : ℕ
      pub output : List ℕ
      pub only : IsOnly E n next first output
      pub count : ℕ
      pub node : A
      pub more : ℕ
      pub text : List ℕ
      pub rest : Passed E count next node more text
      pub under : Under Either node ((w + first) + more) ((y ++ output) ++ text)

    abbrev pub AllDone : Entries A
    AllDone n w y = Reach E s n w y × (Under done n w y ⊎ IsOver n w y)

    pub not_all_done : (n : A) → ((w : ℕ) (y : List ℕ) → done n w y → ⊥) → ((o : A) (u : ℕ) (z : List ℕ) → E n o u z → ⊥) → (w : ℕ) (y : List ℕ) → AllDone n w y → ⊥
    not_all_done n never stops w y d = elim d.1 [ inl u ↦ never u.weight u.output u.entry | inr h ↦ stops h.next h.first h.output h.only.edge ]

    module _ (true_done : (n : A) (w : ℕ) (y : List ℕ) → done n w y → Reach E s n w y) where
      under_done : (n : A) (w : ℕ) (y : List ℕ) → Under done n w y → Under AllDone n w y
      under_done n w y u = record {
        weight = u.weight;
        output = u.output;
        entry = (true_done n u.weight u.output u.entry, inl (record { weight = u.weight; output = u.output; entry = u.entry; below = below_refl u.weight u.output }));
        below = u.below;
      }

      under_either : (n : A) (w : ℕ) (y : List ℕ) → Under Either n w y → Under AllDone n w y ⊎ Under waiting n w y
      under_either n w y u = elim u.entry [
        | inl d ↦ inl (under_done n w y (record { weight = u.weight; output = u.output; entry = d; below = u.below }))
        | inr h ↦ inr (record { weight = u.weight; output = u.output; entry = h; below = u.below })
      ]

      settle : {k : ℕ} {n o : A} {v : ℕ} {x : List ℕ} → Passed E k n o v x → (w : ℕ) (y : List ℕ) → Reach E s n w y → Under Either o (w + v) (y ++ x) → Under AllDone n w y ⊎ Under waiting n w y
      settle (none {n}) w y way u = under_either n w y (under_as Either n (w + 0) w (y ++ []) y (omega arith) (append-nil y) u)
      settle (then {k} {n} {p} {o} {u = f} {w = v} {z} {y = x} first rest) w y way u = inl (record {
        weight = w;
        output = y;
        entry = (
          way,
          inr (record {
            next = p;
            first = f;
            output = z;
            only = first;
            count = k;
            node = o;
            more = v;
            text = x;
            rest = rest;
            under = under_as Either o (w + (f + v)) ((w + f) + v) (y ++ (z ++ x)) ((y ++ z) ++ x) (omega arith) (sym (append_assoc y z x)) u;
          }),
        );
        below = below_refl w y;
      })

      pub passing_kept : Under done s 0 [] ⊎ Under waiting s 0 [] → ((n m : A) (w u : ℕ) (y z : List ℕ) → done n w y → E n m u z → (k : ℕ) × UnderOn (Passed E k) Either m (w + u) (y ++ z))
          → ((n : A) (w : ℕ) (y : List ℕ) → waiting n w y → Reach E s n w y) → Kept E s AllDone waiting
      passing_kept start edges true_waiting = record {
        start = elim start [ inl u ↦ inl (under_done s 0 [] u) | inr u ↦ inr u ];
        edges = λ n m w u y z d e. elim d.1 [
          | inl h ↦
              let f = edges n m h.weight u h.output z h.entry e in
              let least : Below (h.weight + u) (h.output ++ z) (w + u) (y ++ z) = below_after h.weight w u h.output y z h.below in
              elim (settle f.1.on (h.weight + u) (h.output ++ z) (on (true_done n h.weight h.output h.entry) e) f.1.under) [
                | inl k ↦ inl (under_more AllDone m (h.weight + u) (w + u) (h.output ++ z) (y ++ z) least k)
                | inr k ↦ inr (under_more waiting m (h.weight + u) (w + u) (h.output ++ z) (y ++ z) least k)
              ]
          | inr h ↦
              let is = h.only.alone m u z e in
              let weight : (w + h.first) + h.more ≡ (w + u) + h.more = ap (λ t. (w + t) + h.more) (sym is.1) in
              let text : (y ++ h.output) ++ h.text ≡ (y ++ z) ++ h.text = ap (λ t. (y ++ t) ++ h.text) (sym is.2) in
              settle (subst (λ t. Passed E h.count t h.node h.more h.text) (sym is.0) h.rest) (w + u) (y ++ z) (on d.0 e) (under_as Either h.node ((w + h.first) + h.more) ((w + u) + h.more) ((y ++ h.output) ++ h.text) ((y ++ z) ++ h.text) weight text h.under)
        ];
        true_done = λ n w y d. d.0;
        true_waiting = true_waiting;
      }
