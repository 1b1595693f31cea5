-- Why a search that has met the end has made so many calls.
use Rattle.std.proofs.Common.{◌≡◌, ◌≤◌, ℕ, zero, suc, ◌+◌, ◌-◌, List, [], ◌∷◌, Option, Some, None, Result, Ok, Err, IfOk, IfSome, slice_get, length, arith, refl, sym, ap, subst, inl, inr}
use Rattle.weighted_relations.specs.declared.Arc.{Arc}
use Rattle.weighted_relations.specs.Graphs.{label, stop, step}
use Rattle.weighted_relations.specs.Machines.{Machine, From, IsArc, final_of}
use Rattle.weighted_relations.specs.Relations.{IsInput}
use Rattle.state_tuples.specs.declared.tuples.Tuple.{Tuple}
use Rattle.state_tuples.specs.declared.tuples.TupleArc.{TupleArc}
use Rattle.state_tuples.specs.Calls.{IsCounted}
use Rattle.least_path.specs.declared.node.Node.{Node}
use Rattle.least_path.specs.declared.node.Node.TheVariants.{At, End}
use Rattle.least_path.specs.declared.reaching.Search.{Search}
use Rattle.least_path.specs.declared.relaxing.Relaxed.{Relaxed}
use Rattle.least_path.specs.Counting.{CallsForEach, HasRisen, ReadsAtLeast}
use Rattle.least_path.specs.Ending.{Every}
use Rattle.least_path.specs.Growths.{AlongMoves}
use Rattle.least_path.specs.Keeps.{Grown, IsEdge}
use Rattle.least_path.specs.Passing.{Stays}
use Rattle.least_path.specs.Paying.{IsPaid, ArePaid, Pays, Adds, IsAt}
use Rattle.least_path.specs.Relaxing.{Gained}
use Rattle.least_path.proofs.Passing.{stayed}

-- numbers that have risen
pub risen_self : (a : Option ℕ) → HasRisen 0 a a
risen_self None = tt
risen_self (Some n) = (n, refl, (omega arith))

pub risen_less : (j k : ℕ) (a b : Option ℕ) → k ≤ j → HasRisen j a b → HasRisen k a b
risen_less j k None b l h = tt
risen_less j k (Some n) b l h = (h.0, h.1, (omega (arith, l, h.2)))

pub risen_then : (j k : ℕ) (a b c : Option ℕ) → HasRisen j a b → HasRisen k b c → HasRisen (j + k) a c
risen_then j k None b c h i = tt
risen_then j k (Some n) b c h i =
    let later : HasRisen k (Some h.0) c = subst (λ o. HasRisen k o c) h.1 i in
    (later.0, later.1, (omega (arith, h.2, later.2)))

pub risen_call : (a b : Option ℕ) → IsCounted a b → HasRisen 1 a b
risen_call None b h = tt
risen_call (Some n) b h = (n + 1, h, (omega arith))

pub risen_later : (k : ℕ) (a b c : Option ℕ) → HasRisen k a b → HasRisen 0 b c → HasRisen k a c
risen_later k a b c h i = risen_less (k + 0) k a c (omega arith) (risen_then k 0 a b c h i)

-- what an answer has cost, with calls before
pub calls_before : {T E : Type 0} (m : Machine) (a b c : Option ℕ) (answer : Result (Option T) E) → HasRisen 0 a b → IfOk answer (λ o. IfSome o (λ _. CallsForEach m b c)) → IfOk answer (λ o. IfSome o (λ _. CallsForEach m a c))
calls_before m a b c (Ok (Some x)) h i = λ n reads. risen_less (0 + (n + 1)) (n + 1) a c (omega arith) (risen_then 0 (n + 1) a b c h (i n reads))
calls_before m a b c (Ok None) h i = tt
calls_before m a b c (Err e) h i = tt

module _ (m : Machine) (n : ℕ) (first : Option ℕ) where
  pub paid_later : (before after : Option ℕ) → HasRisen 0 before after → (v : Node) → IsPaid m n first before v → IsPaid m n first after v
  paid_later before after more End h = risen_later (n + 1) first before after h more
  paid_later before after more (At q t) h = λ x input. risen_later (n - length x) first before after (h x input) more

  -- a node at this state of the source is paid as another is
  pub paid_at : (now : Option ℕ) (q : ℕ) (t : Tuple) → IsPaid m n first now (At q t) → (v : Node) → IsAt q v → IsPaid m n first now v
  paid_at now q t h End e = absurd e
  paid_at now q t h (At r u) e = subst (λ s. (x : List ℕ) → IsInput (From m s) x → HasRisen (n - length x) first now) (sym e) h

  paid_added : (before after : Option ℕ) (D : Node → Type 0) (old new : List Node) → HasRisen 0 before after → Adds D old new → ((v : Node) → D v → IsPaid m n first after v) → ArePaid m n first before old → ArePaid m n first after new
  paid_added before after D old new more adds each h k v at = elim (adds k v at) [
    | inl i ↦ paid_later before after more v (h k v i)
    | inr d ↦ each v d
  ]

  -- what is read after an arc is read from where it leads with its label before
  input_before : (q place : ℕ) (a : Arc) → IsArc m.arcs q place a → (x : List ℕ) → IsInput (From m a.next) x → IsInput (From m q) (label a.input x)
  input_before q place a is x h = (label a.output h.0, a.weight + h.1, (place ∷ h.2.0, step is h.2.1))

  label_length : (i : ℕ) (x : List ℕ) → length (label i x) ≤ length x + 1
  label_length zero x = omega arith
  label_length (suc i) x = omega arith

  pub paid_along : (before after : Option ℕ) (q place : ℕ) (a : Arc) (t u : Tuple) → IsArc m.arcs q place a → HasRisen 1 before after → IsPaid m n first before (At q t) → IsPaid m n first after (At a.next u)
  paid_along before after q place a t u is call h x input =
      let one : HasRisen (n - length (label a.input x)) first before = h (label a.input x) (input_before q place a is x input) in
      let l = label_length a.input x in
      risen_less ((n - length (label a.input x)) + 1) (n - length x) first after (omega arith) (risen_then (n - length (label a.input x)) 1 first before after one call)

  pub paid_silently : (before after : Option ℕ) (q place : ℕ) (a : Arc) (t u : Tuple) → IsArc m.arcs q place a → a.input ≡ 0 → HasRisen 0 before after → IsPaid m n first before (At q t) → IsPaid m n first after (At a.next u)
  paid_silently before after q place a t u is silent more h x input =
      let same : label a.input x ≡ x = ap (λ i. label i x) silent in
      risen_later (n - length x) first before after (h x (subst (IsInput (From m q)) same (input_before q place a is x input))) more

  pub paid_end : (before after : Option ℕ) (q w : ℕ) (t : Tuple) → final_of m.finals q ≡ Some w → HasRisen 1 before after → IsPaid m n first before (At q t) → IsPaid m n first after End
  paid_end before after q w t final call h =
      risen_less ((n - 0) + 1) (n + 1) first after (omega arith) (risen_then (n - 0) 1 first before after (h [] ([], w, ([], stop final))) call)

-- the first node is paid without a call
pub paid_start : (m : Machine) (first : Option ℕ) (old new : List Node) → old ≡ [] → Adds (IsAt m.start) old new → (n : ℕ) → ReadsAtLeast m n → ArePaid m n first first new
paid_start m first old new none adds n reads k v at = elim (adds k v at) [
  | inl i ↦ (let empty : slice_get [] k ≡ Some v = subst (λ xs. slice_get xs k ≡ Some v) none i in cc)
  | inr d ↦ first_paid v d
] where
  first_paid : (v : Node) → IsAt m.start v → IsPaid m n first first v
  first_paid End e = absurd e
  first_paid (At q t) e = λ x input.
      let l : n ≤ length x = reads x (subst (λ s. IsInput (From m s) x) e input) in
      risen_less 0 (n - length x) first first (omega arith) (risen_self first)

module _ (m : Machine) (q : ℕ) (t : Tuple) where
  -- one after another
  pub pays_then : (a b c : Option ℕ) (s u v : List Node) → Pays m (At q t) a b s u → Pays m (At q t) b c u v → Pays m (At q t) a c s v
  pays_then a b c s u v h i = record {
    risen = risen_then 0 0 a b c h.risen i.risen;
    nodes = λ n first from old. i.nodes n first (paid_later m n first a b h.risen (At q t) from) (h.nodes n first from old);
  }

  pub pays_none : (a b : Option ℕ) (s : List Node) → HasRisen 0 a b → Pays m (At q t) a b s s
  pays_none a b s more = record { risen = more; nodes = λ n first from old k v at. paid_later m n first a b more v (old k v at) }

  -- where the source stays
  pub pays_staying : (a b : Option ℕ) (old new : List Node) → HasRisen 0 a b → Adds (IsAt q) old new → Pays m (At q t) a b old new
  pays_staying a b old new more adds = record {
    risen = more;
    nodes = λ n first from. paid_added m n first a b (IsAt q) old new more adds (paid_at m n first b q t (paid_later m n first a b more (At q t) from));
  }

  -- along an arc that reads
  pub pays_along : (a b : Option ℕ) (old new : List Node) (place : ℕ) (arc : Arc) → IsArc m.arcs q place arc → HasRisen 1 a b → Adds (IsAt arc.next) old new → Pays m (At q t) a b old new
  pays_along a b old new place arc is call adds =
      let more = risen_less 1 0 a b (omega arith) call in
      record {
        risen = more;
        nodes = λ n first from. paid_added m n first a b (IsAt arc.next) old new more adds (paid_at m n first b arc.next t (paid_along m n first a b q place arc t t is call from));
      }

  -- along one that reads nothing
  pub pays_silently : (a : Option ℕ) (old new : List Node) (place : ℕ) (arc : Arc) → IsArc m.arcs q place arc → arc.input ≡ 0 → Adds (IsAt arc.next) old new → Pays m (At q t) a a old new
  pays_silently a old new place arc is silent adds = record {
    risen = risen_self a;
    nodes = λ n first from. paid_added m n first a a (IsAt arc.next) old new (risen_self a) adds (paid_at m n first a arc.next t (paid_silently m n first a a q place arc t t is silent (risen_self a) from));
  }

  -- to the end
  pub pays_end : (a b : Option ℕ) (old new : List Node) (w : ℕ) → final_of m.finals q ≡ Some w → HasRisen 1 a b → Adds (λ v. v ≡ End) old new → Pays m (At q t) a b old new
  pays_end a b old new w final call adds =
      let more = risen_less 1 0 a b (omega arith) call in
      record {
        risen = more;
        nodes = λ n first from. paid_added m n first a b (λ v. v ≡ End) old new more adds (λ v e. subst (IsPaid m n first b) (sym e) (paid_end m n first a b q w t final call from));
      }

-- what one edge or the moves of a tuple add
is_at : (q : ℕ) (t : Tuple) (v : Node) → v ≡ At q t → IsAt q v
is_at q t v e = subst (IsAt q) (sym e) refl

pub adds_at : (q : ℕ) (t : Tuple) (old new : List Node) → Adds (λ v. v ≡ At q t) old new → Adds (IsAt q) old new
adds_at q t old new adds k v at = elim (adds k v at) [ inl i ↦ inl i | inr e ↦ inr (is_at q t v e) ]

pub adds_reached : (old new : Search) (node : Node) (w u : ℕ) (y z : List ℕ) → Grown old new w y (IsEdge node u z) → Adds (λ v. v ≡ node) old.nodes new.nodes
adds_reached old new node w u y z grown k v at = elim (grown.new_nodes k v at) [ inl i ↦ inl i | inr d ↦ inr d.2.0 ]

pub adds_moves : (old new : Search) (q : ℕ) (t : Tuple) (moves : List TupleArc) (w : ℕ) (y : List ℕ) → Grown old new w y (AlongMoves q t moves) → Adds (IsAt q) old.nodes new.nodes
adds_moves old new q t moves w y grown k v at = elim (grown.new_nodes k v at) [ inl i ↦ inl i | inr d ↦ inr (subst (IsAt q) (sym d.2.2) refl) ]

pub adds_met : (old new : Relaxed) (node : Node) (w u : ℕ) (y z : List ℕ) → Gained Stays Every old new w y (IsEdge node u z) → Adds (λ v. v ≡ node) old.nodes new.nodes
adds_met old new node w u y z gained k v at = elim (gained.new_nodes k v at) [ inl i ↦ inl i | inr d ↦ inr (stayed (IsEdge node u z) v d.0 d.1 d.2).0 ]

pub adds_then : (D : Node → Type 0) (a b c : List Node) → Adds D a b → Adds D b c → Adds D a c
adds_then D a b c h i k v at = elim (i k v at) [ inl j ↦ h k v j | inr d ↦ inr d ]
