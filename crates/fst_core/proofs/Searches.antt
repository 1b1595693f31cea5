-- The steps of a search.
use Rattle.std.proofs.Common.{◌≡◌, ◌↔◌, ℕ, zero, suc, ◌+◌, ◌<◌, ◌≤◌, Bool, true, false, List, [], ◌∷◌, ◌++◌, length, get_or, Some, None, refl, sym, ◌∙◌, ap, subst, inl, inr, arith, length-append, append-nil, append_assoc, true≢false}
use Rattle.std.specs.Prelude.{slice_get, All}
use Rattle.std.specs.List.{Contains}
use Rattle.std.proofs.Math.ListN.{set}
use Rattle.std.proofs.lemmas.Bool.{cases_eq, cases_lt}
use Rattle.std.proofs.lemmas.List.{length-set, get_or-set_same, get_or-set_other, get_or_past}
use Rattle.std.proofs.lemmas.List.Elements.{Contains-append_left, Contains-append_cases, Contains-push, Contains-push_cases}
use Rattle.std.proofs.lemmas.Option.{slice_get_within, slice_get-get_or, get_or_from_slice_get}
use Rattle.weighted_relations.specs.declared.Arc.{Arc}
use Rattle.weighted_relations.specs.Machines.{Machine, IsArc}
use Rattle.fst_core.specs.declared.search.Follow.{Follow}
use Rattle.fst_core.proofs.Building.{last_or_before}
use Rattle.fst_core.specs.Reach.{IsFollowed, Leads, here, on, Found, LedTo, Added, FollowedTo, RunTo, Reached, unmarked, Marked}

mark_less : (marks : List Bool) (s : ℕ) → s < length marks → get_or marks s false ≡ false → unmarked (set marks s true) + 1 ≡ unmarked marks
mark_less [] s l h = absurd (omega (arith, l))
mark_less (true ∷ marks) zero l h = absurd (true≢false h)
mark_less (false ∷ marks) zero l h = omega arith
mark_less (true ∷ marks) (suc s) l h = mark_less marks s (omega (arith, l)) h
mark_less (false ∷ marks) (suc s) l h = let q : unmarked (set marks s true) + 1 ≡ unmarked marks = mark_less marks s (omega (arith, l)) h in let r : 1 + unmarked (set marks s true) + 1 ≡ 1 + unmarked marks = omega arith in r

all_unmarked : (marks : List Bool) → ((s : ℕ) → get_or marks s false ≡ false) → unmarked marks ≡ length marks
all_unmarked [] f = refl
all_unmarked (true ∷ marks) f = absurd (true≢false (f 0))
all_unmarked (false ∷ marks) f = let q : unmarked marks ≡ length marks = all_unmarked marks (λ s. f (suc s)) in let r : 1 + unmarked marks ≡ suc (length marks) = omega arith in r

none_in_nil : (s : ℕ) → Contains [] s → ⊥
none_in_nil s h = let l : h.0 < 0 = h.1 in omega arith

-- the places of elements
pub get_or_any : {A : Type 0} (xs : List A) (k : ℕ) (d e : A) → k < length xs → get_or xs k d ≡ get_or xs k e
get_or_any [] k d e l = absurd (omega (arith, l))
get_or_any (x ∷ xs) zero d e l = refl
get_or_any (x ∷ xs) (suc k) d e l = get_or_any xs k d e (omega (arith, l))

pub contains_from : {A : Type 0} (xs : List A) (i : ℕ) (x : A) → slice_get xs i ≡ Some x → Contains xs x
contains_from xs i x h = (i, slice_get_within xs i x h, get_or_from_slice_get xs i x x h)

pub contains_at : {A : Type 0} (xs : List A) (x : A) → Contains xs x → (i : ℕ) × (slice_get xs i ≡ Some x)
contains_at xs x h = (h.0, slice_get-get_or xs h.0 x h.1 ∙ ap Some h.2)

get_front : {A : Type 0} (xs ys : List A) (i : ℕ) (x : A) → i < length xs → slice_get (xs ++ ys) i ≡ Some x → slice_get xs i ≡ Some x
get_front [] ys i x l h = absurd (omega (arith, l))
get_front (y ∷ xs) ys zero x l h = h
get_front (y ∷ xs) ys (suc i) x l h = get_front xs ys i x (omega (arith, l)) h

-- marks
pub marked_none : (marks : List Bool) → ((s : ℕ) → get_or marks s false ≡ false) → Marked marks []
marked_none marks f = record { found = λ s h. absurd (true≢false (sym h ∙ f s)); marked = λ s h. absurd (none_in_nil s h); count = let q : unmarked marks ≡ length marks = all_unmarked marks f in omega arith }

pub marked_more : (marks : List Bool) (states : List ℕ) (s : ℕ) → s < length marks → get_or marks s false ≡ false → Marked marks states → Marked (set marks s true) (states ++ s ∷ [])
marked_more marks states s l h had = record {
  found = λ t x. elim (cases_eq t s) [
    | inl e ↦ subst (Contains (states ++ s ∷ [])) (sym e) (Contains-push states s)
    | inr ne ↦ Contains-append_left states (s ∷ []) t (had.found t (sym (get_or-set_other marks s t true false ne) ∙ x))
  ];
  marked = λ t x. elim (cases_eq t s) [
    | inl e ↦ ap (λ k. get_or (set marks s true) k false) e ∙ get_or-set_same marks s true false l
    | inr ne ↦ elim (Contains-push_cases states s t x) [
      | inl old ↦ get_or-set_other marks s t true false ne ∙ had.marked t old
      | inr e ↦ absurd (ne (sym e))
    ]
  ];
  count =
      let a : unmarked (set marks s true) + 1 ≡ unmarked marks = mark_less marks s l h in
      let b : length (states ++ s ∷ []) ≡ length states + 1 = length-append states (s ∷ []) in
      let c : length (set marks s true) ≡ length marks = length-set marks s true in
      let d : unmarked marks + length states ≡ length marks = had.count in
      omega arith;
}

pub marked_within : (marks : List Bool) (states : List ℕ) (s : ℕ) → Marked marks states → Contains states s → s < length marks
marked_within marks states s had h = elim (cases_lt s (length marks)) [
  | inl l ↦ l
  | inr l ↦ absurd (true≢false (sym (had.marked s h) ∙ get_or_past marks s false l))
]

pub marked_at : (marks : List Bool) (states : List ℕ) (i s : ℕ) → Marked marks states → slice_get states i ≡ Some s → s < length marks
marked_at marks states i s had h = marked_within marks states s had (contains_from states i s h)

pub marked_count : (marks : List Bool) (states : List ℕ) → Marked marks states → length states ≤ length marks
marked_count marks states had = let d : unmarked marks + length states ≡ length marks = had.count in omega arith

-- the arcs of a state, one at a time
module _ (m : Machine) (which : Follow) (old : Found) (s : ℕ) where
  pub follow_none : FollowedTo m which old s 0 old
  follow_none = record { same_size = refl; more = []; grown = sym (append-nil old.states); only = λ t h. absurd (none_in_nil t h); all = λ j a l h f. absurd (omega (arith, l)) }

  one_arc : (k : ℕ) (a b : Arc) → IsArc m.arcs s k a → IsArc m.arcs s k b → b ≡ a
  one_arc k a b h j = let e : Some a ≡ Some b = sym h ∙ j in cc

  pub follow_skip : (k : ℕ) (f : Found) (a : Arc) → FollowedTo m which old s k f → IsArc m.arcs s k a → (IsFollowed which a → ⊥) → FollowedTo m which old s (k + 1) f
  follow_skip k f a had there off = record {
    same_size = had.same_size;
    more = had.more;
    grown = had.grown;
    only = had.only;
    all = λ j b l h is. elim (cases_lt j k) [
      | inl low ↦ had.all j b low h is
      | inr high ↦
          let q : j ≡ k = omega arith in
          let same : b ≡ a = one_arc k a b there (subst (λ n. IsArc m.arcs s n b) q h) in
          absurd (off (subst (IsFollowed which) same is))
    ];
  }

  pub follow_more : (k : ℕ) (f g : Found) (a : Arc) → FollowedTo m which old s k f → IsArc m.arcs s k a → IsFollowed which a → Added f a.next g → FollowedTo m which old s (k + 1) g
  follow_more k f g a had there is add = by add
    where
      reaches : (h : Found) → ((t : ℕ) → Contains f.states t → Contains h.states t) → Contains h.states a.next → (j : ℕ) (b : Arc) → j < k + 1 → IsArc m.arcs s j b → IsFollowed which b → Contains h.states b.next
      reaches h keep new j b l at fol = elim (cases_lt j k) [
        | inl low ↦ keep b.next (had.all j b low at fol)
        | inr high ↦
            let q : j ≡ k = omega arith in
            let same : b ≡ a = one_arc k a b there (subst (λ n. IsArc m.arcs s n b) q at) in
            subst (λ (c : Arc). Contains h.states c.next) (sym same) new
      ]

      by : Added f a.next g → FollowedTo m which old s (k + 1) g
      by (inl h) = subst (FollowedTo m which old s (k + 1)) (sym h.1) (record { same_size = had.same_size; more = had.more; grown = had.grown; only = had.only; all = reaches f (λ t x. x) h.0 })
      by (inr h) = subst (FollowedTo m which old s (k + 1)) (sym h.1) (record {
        same_size = had.same_size;
        more = had.more ++ a.next ∷ [];
        grown = ap (λ v. v ++ a.next ∷ []) had.grown ∙ append_assoc old.states had.more (a.next ∷ []);
        only = λ t x. elim (Contains-push_cases had.more a.next t x) [ inl y ↦ had.only t y | inr e ↦ (k, a, there, is, e) ];
        all = reaches (record { size = f.size; states = f.states ++ a.next ∷ [] }) (λ t x. Contains-append_left f.states (a.next ∷ []) t x) (Contains-push f.states a.next);
      })

-- the states that were found, one at a time
module _ (m : Machine) (which : Follow) (old : Found) where
  pub run_none : RunTo m which old 0 old
  run_none = record { same_size = refl; kept = λ t h. h; only = λ t h. record { seed = t; is = h; leads = here }; all = λ i s j a l h e f. absurd (omega (arith, l)) }

  pub run_more : (f g : Found) (k s : ℕ) → RunTo m which old k f → slice_get f.states k ≡ Some s → FollowedTo m which f s (length (get_or m.arcs s [])) g → RunTo m which old (k + 1) g
  run_more f g k s had at step = record {
    same_size = step.same_size ∙ had.same_size;
    kept = λ t x. kept t (had.kept t x);
    only = λ t x. elim (Contains-append_cases f.states step.more t (subst (λ v. Contains v t) step.grown x)) [
      | inl y ↦ had.only t y
      | inr y ↦
          let q = step.only t y in
          let from : LedTo m which old.states s = had.only s (contains_from f.states k s at) in
          record { seed = from.seed; is = from.is; leads = subst (Leads m which from.seed) q.4 (on q.0 q.1 from.leads q.2 q.3) }
    ];
    all = λ i u j a l h e is.
        let size : k < length f.states = slice_get_within f.states k s at in
        let there : slice_get f.states i ≡ Some u = get_front f.states step.more i u (omega arith) (subst (λ v. slice_get v i ≡ Some u) step.grown h) in
        elim (cases_lt i k) [
          | inl low ↦ kept a.next (had.all i u j a low there e is)
          | inr high ↦
              let q : i ≡ k = omega arith in
              let z : Some u ≡ Some s = sym there ∙ ap (slice_get f.states) q ∙ at in
              let same : u ≡ s = cc in
              let here_arc : IsArc m.arcs s j a = subst (λ n. IsArc m.arcs n j a) same e in
              step.all j a (slice_get_within (get_or m.arcs s []) j a here_arc) here_arc is
        ];
  }
    where
      kept : (t : ℕ) → Contains f.states t → Contains g.states t
      kept t x = subst (λ v. Contains v t) (sym step.grown) (Contains-append_left f.states step.more t x)

  pub run_ended : (f : Found) (k : ℕ) → RunTo m which old k f → length f.states ≤ k → (t : ℕ) → Contains f.states t ↔ LedTo m which old.states t
  run_ended f k had l t = (had.only t, λ h. led h.leads (had.kept h.seed h.is))
    where
      led : {u v : ℕ} → Leads m which u v → Contains f.states u → Contains f.states v
      led here h = h
      led (on {t = v} j a way arc is) h =
          let at = contains_at f.states v (led way h) in
          let within : at.0 < length f.states = slice_get_within f.states at.0 v at.1 in
          had.all at.0 v j a (omega arith) at.1 arc is

-- what is led to from the start
pub reached_of : (m : Machine) (which : Follow) (n s : ℕ) (f g h : Found) → n ≡ length m.arcs → s ≡ m.start → f ≡ record { size = n; states = [] } → Added f s g → h.size ≡ g.size → ((t : ℕ) → Contains h.states t ↔ LedTo m which g.states t) → Reached m which h
reached_of m which n s f g h en es ef add size found =
    let is : g ≡ record { size = n; states = s ∷ [] } = by f ef add in
    record {
      count = size ∙ ap (λ (v : Found). v.size) is ∙ en;
      states = λ t. (
        λ x.
            let q : LedTo m which g.states t = (found t).0 x in
            let c : Contains (s ∷ []) q.seed = subst (λ (v : Found). Contains v.states q.seed) is q.is in
            subst (λ v. Leads m which v t) (one_seed q.seed c ∙ es) q.leads,
        λ way. (found t).1 (record { seed = m.start; is = subst (λ (v : Found). Contains v.states m.start) (sym is) (subst (Contains (s ∷ [])) es (Contains-push [] s)); leads = way }),
      );
    }
  where
    one_seed : (u : ℕ) → Contains (s ∷ []) u → u ≡ s
    one_seed u h = elim (Contains-push_cases [] s u h) [ inl x ↦ absurd (none_in_nil u x) | inr e ↦ sym e ]

    by : (v : Found) → v ≡ record { size = n; states = [] } → Added v s g → g ≡ record { size = n; states = s ∷ [] }
    by v e (inl x) = absurd (none_in_nil s (subst (λ (z : Found). Contains z.states s) e x.0))
    by v e (inr x) = x.1 ∙ ap (λ (z : Found). let r : Found = record { size = z.size; states = z.states ++ s ∷ [] } in r) e

pub none_past : (xs : List ℕ) (i : ℕ) → slice_get xs i ≡ None → length xs ≤ i
none_past xs i h = elim (cases_lt i (length xs)) [
  | inl l ↦ let e : None ≡ Some (get_or xs i 0) = sym h ∙ slice_get-get_or xs i 0 l in absurd (cc)
  | inr l ↦ l
]

-- one mark more
pub marks_more : (P : ℕ → Type 0) (marks : List Bool) (k : ℕ) (b : Bool) → length marks ≡ k → ((t : ℕ) → t < k → (get_or marks t false ≡ true) ↔ P t) → (b ≡ true) ↔ P k → (t : ℕ) → t < k + 1 → (get_or (marks ++ b ∷ []) t false ≡ true) ↔ P t
marks_more P marks k b count had new t l = elim (last_or_before marks b false t (omega arith)) [
  | inl q ↦ let i = had t (subst (λ n. t < n) count q.0) in (λ h. i.0 (sym q.1 ∙ h), λ p. q.1 ∙ i.1 p)
  | inr q ↦ let e : t ≡ k = q.0 ∙ count in (λ h. subst P (sym e) (new.0 (sym q.1 ∙ h)), λ p. q.1 ∙ new.1 (subst P e p))
]

-- each state that was found is one of those that are searched
pub all_within : (marks : List Bool) (states : List ℕ) → Marked marks states → All (λ s. s < length marks) states
all_within marks states had i d l = marked_at marks states i (get_or states i d) had (slice_get-get_or states i d l)

-- no other states are marked than those that are still to be cleared
pub record Clearing (size : ℕ) (marks : List Bool) (states : List ℕ) : Type 0 where
  pub count : length marks ≡ size
  pub only : (s : ℕ) → get_or marks s false ≡ true → Contains states s
  pub within : (s : ℕ) → Contains states s → s < length marks

pub clear_begun : (marks : List Bool) (states : List ℕ) (f : Found) → record { size = length marks; states = states } ≡ f → Marked marks states → Clearing f.size marks states
clear_begun marks states f e had = record { count = ap (λ (v : Found). v.size) e; only = had.found; within = λ s h. marked_within marks states s had h }

pub clear_within : (size : ℕ) (marks : List Bool) (states rest : List ℕ) (s : ℕ) → Clearing size marks states → states ≡ rest ++ s ∷ [] → s < length marks
clear_within size marks states rest s had e = had.within s (subst (λ v. Contains v s) (sym e) (Contains-push rest s))

pub clear_more : (size : ℕ) (marks : List Bool) (states rest : List ℕ) (s : ℕ) → Clearing size marks states → states ≡ rest ++ s ∷ [] → Clearing size (set marks s false) rest
clear_more size marks states rest s had e =
    let l : s < length marks = clear_within size marks states rest s had e in
    record {
      count = length-set marks s false ∙ had.count;
      only = λ t h. elim (cases_eq t s) [
        | inl same ↦ absurd (true≢false (sym h ∙ ap (λ k. get_or (set marks s false) k false) same ∙ get_or-set_same marks s false false l))
        | inr other ↦ elim (Contains-push_cases rest s t (subst (λ v. Contains v t) e (had.only t (sym (get_or-set_other marks s t false false other) ∙ h)))) [
          | inl there ↦ there
          | inr same ↦ absurd (other (sym same))
        ]
      ];
      within = λ t h. subst (λ n. t < n) (sym (length-set marks s false)) (had.within t (subst (λ v. Contains v t) (sym e) (Contains-append_left rest (s ∷ []) t h)));
    }

pub clear_ended : (size : ℕ) (marks : List Bool) → Clearing size marks [] → Marked marks []
clear_ended size marks had = marked_none marks (λ s. unset (get_or marks s false) (λ h. none_in_nil s (had.only s h)))
  where
    unset : (b : Bool) → (b ≡ true → ⊥) → b ≡ false
    unset true off = absurd (off refl)
    unset false off = refl

pub no_items : (xs : List ℕ) → length xs ≡ 0 → xs ≡ []
no_items [] e = refl
no_items (x ∷ xs) e = absurd (omega (arith, e))
