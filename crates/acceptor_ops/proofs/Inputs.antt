-- The inputs of sets of states.
use Rattle.std.proofs.Common.{◌≡◌, ◌⊎◌, ◌↔◌, ℕ, zero, suc, ◌+◌, ◌<◌, ◌≤◌, List, [], ◌∷◌, length, get_or, Option, Some, None, refl, sym, ◌∙◌, subst, inl, inr, arith}
use Rattle.std.specs.Prelude.{IsSome}
use Rattle.std.specs.List.{Contains}
use Rattle.weighted_relations.specs.Graphs.{stop, step, label}
use Rattle.weighted_relations.specs.Machines.{Machine, Path, From, final_of, WellFormed}
use Rattle.fst_core.specs.declared.search.Follow.TheVariants.{EmptyInput}
use Rattle.fst_core.specs.Reach.{Leads, here, on, LedTo}
use Rattle.acceptor_ops.specs.Alike.{ArcTo, Classing, AreClasses}
use Rattle.acceptor_ops.specs.StateSets.{Takes, TakesAny, AnyFinal, Begins, IsKernel, IsActive, KernelOf, Filled, StepsBy}

-- an arc, and then what is taken
pub arc_takes : (m : Machine) (s l t : ℕ) (x : List ℕ) → ArcTo m s l t → Takes m t x → Takes m s (label l x)
arc_takes m s l t x e h =
    let after : From m e.arc.next x h.0 h.1 = subst (λ n. From m n x h.0 h.1) (sym e.next) h.2 in
    subst (λ n. Takes m s (label n x)) e.input (label e.arc.output h.0, e.arc.weight + h.1, (e.place ∷ after.0, step e.there after.1))

pub label_low : (l : ℕ) (x : List ℕ) → 1 ≤ l → label l x ≡ l ∷ x
label_low zero x h = absurd (omega (arith, h))
label_low (suc l) x h = refl

-- where empty arcs lead, no other inputs are taken
led_takes : (m : Machine) {s t : ℕ} → Leads m EmptyInput s t → (x : List ℕ) → Takes m t x → Takes m s x
led_takes m here x h = h
led_takes m (on {s} {t} k a lead there is) x h = led_takes m lead x (arc_takes m t 0 a.next x (record { place = k; arc = a; there = there; input = is; next = refl }) h)

ends_here : (m : Machine) (s : ℕ) (o : Option ℕ) → final_of m.finals s ≡ o → IsSome o → Takes m s []
ends_here m s None e h = absurd (cc)
ends_here m s (Some w) e h = ([], w, ([], stop e))

-- what is begun in a set is taken there
begins_takes : (m : Machine) (set x : List ℕ) → Begins m set x → TakesAny m set x
begins_takes m set [] h = record { state = h.state; among = h.among; takes = ends_here m h.state (final_of m.finals h.state) refl h.final }
begins_takes m set (l ∷ x) h = record { state = h.state; among = h.among; takes = subst (Takes m h.state) (label_low l x h.low) (arc_takes m h.state l h.next x h.leads h.takes) }

-- all contains what empty arcs lead to, and set those of all that are active
module _ (m : Machine) (all set : List ℕ) (closed : (s t : ℕ) → Contains all s → ArcTo m s 0 t → Contains all t) (active : (s : ℕ) → Contains set s ↔ (Contains all s × IsActive m s)) where
  begun : {s : ℕ} {ks x y : List ℕ} {w : ℕ} → Path m s ks x y w → Contains all s → Begins m set x
  begun (stop {s} {w} h) there =
      let final : IsSome (final_of m.finals s) = subst IsSome (sym h) refl in
      record { state = s; among = (active s).1 (there, inl final); final = final }
  begun (step {s} {k} {ks} {a} {x} {y} {w} h path) there = by a.input refl (λ e. begun path (closed s a.next there (record { place = k; arc = a; there = h; input = e; next = refl })))
    where
      by : (n : ℕ) → a.input ≡ n → (a.input ≡ 0 → Begins m set x) → Begins m set (label n x)
      by zero e more = more e
      by (suc n) e more =
          let lead : ArcTo m s (suc n) a.next = record { place = k; arc = a; there = h; input = e; next = refl } in
          let low : 1 ≤ suc n = omega arith in
          record { state = s; among = (active s).1 (there, inr (suc n, a.next, low, lead)); next = a.next; low = low; leads = lead; takes = (y, w, (ks, path)) }

  begun_any : (x : List ℕ) → TakesAny m all x → Begins m set x
  begun_any x h = begun h.takes.2.1 h.among

  active_among : (x : List ℕ) → TakesAny m set x → TakesAny m all x
  active_among x h = record { state = h.state; among = ((active h.state).0 h.among).0; takes = h.takes }

-- the kernel of what empty arcs lead to
pub kernel_of : (m : Machine) (seeds all set : List ℕ) → ((t : ℕ) → Contains all t ↔ LedTo m EmptyInput seeds t) → ((s : ℕ) → Contains all s → s < length m.arcs) → ((s : ℕ) → Contains set s ↔ (Contains all s × IsActive m s)) → KernelOf m seeds set
kernel_of m seeds all set led within active =
    let closed : (s t : ℕ) → Contains all s → ArcTo m s 0 t → Contains all t = λ s t h e.
    let from = (led s).0 h in
    (led t).1 (record { seed = from.seed; is = from.is; leads = subst (Leads m EmptyInput from.seed) e.next (on e.place e.arc from.leads e.there e.input) })
    in
    record {
      kernel = record {
        states = λ s h. within s ((active s).0 h).0;
        begins = λ x h. begun_any m all set closed active x (active_among m all set closed active x h);
      };
      same = λ x. (
        λ h.
            let from = (led h.state).0 ((active h.state).0 h.among).0 in
            record { state = from.seed; among = from.is; takes = led_takes m from.leads x h.takes },
        λ h. begins_takes m set x (begun_any m all set closed active x (record { state = h.state; among = (led h.state).1 (record { seed = h.state; is = h.among; leads = here }); takes = h.takes })),
      );
    }

-- a kernel takes nothing exactly where one of its states is final
pub kernel_ends : (m : Machine) (set : List ℕ) → IsKernel m set → TakesAny m set [] ↔ AnyFinal m set
kernel_ends m set kernel = (λ h. kernel.begins [] h, λ h. begins_takes m set [] h)

pub none_in_nil : (s : ℕ) → Contains [] s → ⊥
none_in_nil s h = let l : h.0 < 0 = h.1 in omega arith

pub cons_cases : (t : ℕ) (ts : List ℕ) (u : ℕ) → Contains (t ∷ ts) u → (t ≡ u) ⊎ Contains ts u
cons_cases t ts u h = by h.0 h.1 h.2
  where
    by : (k : ℕ) → k < length (t ∷ ts) → get_or (t ∷ ts) k u ≡ u → (t ≡ u) ⊎ Contains ts u
    by zero l e = inl e
    by (suc k) l e = inr (k, omega (arith, l), e)

-- the inputs of one state
pub takes_one : (m : Machine) (s : ℕ) (x : List ℕ) → TakesAny m (s ∷ []) x ↔ Takes m s x
takes_one m s x = (
  λ h. elim (cons_cases s [] h.state h.among) [ inl q ↦ subst (λ n. Takes m n x) (sym q) h.takes | inr q ↦ absurd (none_in_nil h.state q) ],
  λ h. record { state = s; among = (let l : 0 < 1 = omega arith in (0, l, refl)); takes = h },
)

pub place_of : (xs : List ℕ) (k s : ℕ) → k < length xs → get_or xs k s ≡ s → get_or xs k 0 ≡ s
place_of [] k s l h = absurd (omega (arith, l))
place_of (x ∷ xs) zero s l h = h
place_of (x ∷ xs) (suc k) s l h = place_of xs k s (omega (arith, l)) h

-- the kernel of a bucket is where each label of its class leads
pub steps_by : (m : Machine) (c : Classing) (set : List ℕ) (buckets : List (List ℕ)) (n : ℕ) (found : List ℕ) → AreClasses m c → IsKernel m set → Filled m c.classes c.count set (length set) buckets → KernelOf m (get_or buckets n []) found → StepsBy m c.classes set n found
steps_by m c set buckets n found classes kernel filled is = record {
  kernel = is.kernel;
  steps = λ l labels class. record {
    same = λ x. (
      λ h.
          let t = (is.same x).0 h in
          let from = filled.only n t.state t.among in
          let lead : ArcTo m from.0 l t.state = classes.alike from.0 from.1 l t.state from.3 labels (from.4 ∙ sym class) from.5 in
          record { state = from.0; among = from.2; takes = subst (Takes m from.0) (label_low l x labels.0) (arc_takes m from.0 l t.state x lead t.takes) },
      λ h.
          let b = kernel.begins (l ∷ x) h in
          let lead : ArcTo m (get_or set b.among.0 0) l b.next = subst (λ s. ArcTo m s l b.next) (sym (place_of set b.among.0 b.state b.among.1 b.among.2)) b.leads in
          (is.same x).1 (record { state = b.next; among = subst (λ v. Contains (get_or buckets v []) b.next) class (filled.all b.among.0 l b.next b.among.1 labels lead); takes = b.takes }),
    );
  };
}

pub targets_within : (m : Machine) (classes : List ℕ) (count : ℕ) (set : List ℕ) (k : ℕ) (buckets : List (List ℕ)) (n : ℕ) → WellFormed m → Filled m classes count set k buckets → (t : ℕ) → Contains (get_or buckets n []) t → t < length m.arcs
targets_within m classes count set k buckets n sound filled t h =
    let q = filled.only n t h in
    subst (λ v. v < length m.arcs) q.5.next (sound.arcs q.0 q.5.place q.5.arc q.5.there).next
