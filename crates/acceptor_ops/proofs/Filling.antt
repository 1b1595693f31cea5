-- The states that are active, those that are added to a search, and the buckets of a set, one state at a time.
use Rattle.std.proofs.Common.{◌≡◌, ◌⊎◌, ◌↔◌, ℕ, zero, suc, ◌+◌, ◌<◌, ◌≤◌, List, [], ◌∷◌, ◌++◌, map, length, get_or, Some, Vec, Global, refl, sym, ap, subst, ◌∙◌, inl, inr, arith}
use Rattle.std.specs.Prelude.{slice_get, IsSome, Any}
use Rattle.std.specs.List.{Contains}
use Rattle.std.proofs.Math.ListN.{set}
use Rattle.std.proofs.lemmas.Bool.{cases_eq, cases_lt}
use Rattle.std.proofs.lemmas.List.{length-set, get_or-set_same, get_or-set_other, get_or-map, map-set}
use Rattle.std.proofs.lemmas.List.Elements.{Contains-append_left, Contains-push, Contains-push_cases, Contains-get_or}
use Rattle.std.proofs.lemmas.Option.{slice_get_within, slice_get-get_or}
use Rattle.weighted_relations.specs.declared.Arc.{Arc}
use Rattle.weighted_relations.specs.Machines.{Machine, IsArc, final_of, WellFormed}
use Rattle.fst_core.specs.Reach.{Found, Added}
use Rattle.acceptor_ops.specs.Tables.{class_of}
use Rattle.acceptor_ops.specs.Alike.{Classing, AreClasses}
use Rattle.acceptor_ops.specs.StateSets.{IsActive, HasLabel, Filled, FitsClasses, RowFilled, with_element}
use Rattle.acceptor_ops.proofs.Inputs.{none_in_nil, place_of}

-- a final state or one with a labelled arc is active
pub active_of : (m : Machine) (s : ℕ) (row : List Arc) → row ≡ get_or m.arcs s [] → (IsSome (final_of m.finals s) ⊎ Any HasLabel row) ↔ IsActive m s
active_of m s row e = (
  elim [
    | inl h ↦ inl h
    | inr h ↦
        let at : slice_get row h.0 ≡ Some h.1 = slice_get-get_or row h.0 h.1 h.2 ∙ ap Some h.3 in
        inr (h.1.input, h.1.next, h.4, record { place = h.0; arc = h.1; there = ap (λ r. slice_get r h.0) (sym e) ∙ at; input = refl; next = refl })
  ],
  elim [
    | inl h ↦ inl h
    | inr h ↦
        let at : slice_get row h.3.place ≡ Some h.3.arc = ap (λ r. slice_get r h.3.place) e ∙ h.3.there in
        inr (h.3.place, h.3.arc, slice_get_within row h.3.place h.3.arc at, place_is row h.3.place h.3.arc at, subst (λ n. 1 ≤ n) (sym h.3.input) h.2)
  ],
)
  where
    place_is : (xs : List Arc) (k : ℕ) (x : Arc) → slice_get xs k ≡ Some x → get_or xs k x ≡ x
    place_is [] k x h = absurd (cc)
    place_is (y ∷ xs) zero x h = let q : y ≡ x = cc in q
    place_is (y ∷ xs) (suc k) x h = place_is xs k x h

-- the active ones of the first k states
pub record ActiveTo (m : Machine) (states : List ℕ) (k : ℕ) (kept : List ℕ) : Type 0 where
  pub only : (s : ℕ) → Contains kept s → Contains states s × IsActive m s
  pub all : (j : ℕ) → j < k → IsActive m (get_or states j 0) → Contains kept (get_or states j 0)

pub active_none : (m : Machine) (states : List ℕ) → ActiveTo m states 0 []
active_none m states = record { only = λ s h. absurd (none_in_nil s h); all = λ j l. absurd (omega (arith, l)) }

pub active_yes : (m : Machine) (states : List ℕ) (k : ℕ) (kept : List ℕ) → k < length states → ActiveTo m states k kept → IsActive m (get_or states k 0) → ActiveTo m states (k + 1) (kept ++ get_or states k 0 ∷ [])
active_yes m states k kept within had is = record {
  only = λ s h. elim (Contains-push_cases kept (get_or states k 0) s h) [
    | inl old ↦ had.only s old
    | inr e ↦ (subst (Contains states) e (Contains-get_or states k 0 within), subst (IsActive m) e is)
  ];
  all = λ j l h. elim (cases_lt j k) [
    | inl low ↦ Contains-append_left kept (get_or states k 0 ∷ []) (get_or states j 0) (had.all j low h)
    | inr high ↦ let q : k ≡ j = omega arith in subst (λ n. Contains (kept ++ get_or states k 0 ∷ []) (get_or states n 0)) q (Contains-push kept (get_or states k 0))
  ];
}

pub active_no : (m : Machine) (states : List ℕ) (k : ℕ) (kept : List ℕ) → ActiveTo m states k kept → (IsActive m (get_or states k 0) → ⊥) → ActiveTo m states (k + 1) kept
active_no m states k kept had none = record {
  only = had.only;
  all = λ j l h. elim (cases_lt j k) [
    | inl low ↦ had.all j low h
    | inr high ↦ let q : j ≡ k = omega arith in absurd (none (subst (λ n. IsActive m (get_or states n 0)) q h))
  ];
}

pub active_all : (m : Machine) (states : List ℕ) (k : ℕ) (kept : List ℕ) → length states ≤ k → ActiveTo m states k kept → (s : ℕ) → Contains kept s ↔ (Contains states s × IsActive m s)
active_all m states k kept l had s = (
  λ h. had.only s h,
  λ h.
      let at = place_of states h.0.0 s h.0.1 h.0.2 in
      subst (Contains kept) at (had.all h.0.0 (let w : h.0.0 < length states = h.0.1 in omega arith) (subst (IsActive m) (sym at) h.1)),
)

-- the first k of the seeds are found
pub record AddedTo (seeds : List ℕ) (n k : ℕ) (f : Found) : Type 0 where
  pub size : f.size ≡ n
  pub only : (t : ℕ) → Contains f.states t → Contains seeds t
  pub all : (j : ℕ) → j < k → Contains f.states (get_or seeds j 0)

pub added_none : (seeds : List ℕ) (size : ℕ) (f : Found) → f ≡ record { size = size; states = [] } → AddedTo seeds size 0 f
added_none seeds size f e = record {
  size = ap (λ (v : Found). v.size) e;
  only = λ t h. absurd (none_in_nil t (subst (λ (v : Found). Contains v.states t) e h));
  all = λ j l. absurd (omega (arith, l));
}

pub added_more : (seeds : List ℕ) (size k : ℕ) (f g : Found) → k < length seeds → AddedTo seeds size k f → Added f (get_or seeds k 0) g → AddedTo seeds size (k + 1) g
added_more seeds size k f g within had add = elim add [
  | inl old ↦ subst (AddedTo seeds size (k + 1)) (sym old.1) (record {
    size = had.size;
    only = had.only;
    all = λ j l. elim (cases_lt j k) [
      | inl low ↦ had.all j low
      | inr high ↦ let q : k ≡ j = omega arith in subst (λ n. Contains f.states (get_or seeds n 0)) q old.0
    ];
  })
  | inr new ↦ subst (AddedTo seeds size (k + 1)) (sym new.1) (record {
    size = had.size;
    only = λ t h. elim (Contains-push_cases f.states (get_or seeds k 0) t h) [
      | inl old ↦ had.only t old
      | inr e ↦ subst (Contains seeds) e (Contains-get_or seeds k 0 within)
    ];
    all = λ j l. elim (cases_lt j k) [
      | inl low ↦ Contains-append_left f.states (get_or seeds k 0 ∷ []) (get_or seeds j 0) (had.all j low)
      | inr high ↦ let q : k ≡ j = omega arith in subst (λ n. Contains (f.states ++ get_or seeds k 0 ∷ []) (get_or seeds n 0)) q (Contains-push f.states (get_or seeds k 0))
    ];
  })
]

pub added_all : (seeds : List ℕ) (size k : ℕ) (f : Found) → length seeds ≤ k → AddedTo seeds size k f → (t : ℕ) → Contains f.states t ↔ Contains seeds t
added_all seeds size k f l had t = (
  λ h. had.only t h,
  λ h. subst (Contains f.states) (place_of seeds h.0 t h.1 h.2) (had.all h.0 (let w : h.0 < length seeds = h.1 in omega arith)),
)

-- lists that are all empty
pub no_lists_more : (lists : List (List ℕ)) → ((c : ℕ) → get_or lists c [] ≡ []) → (c : ℕ) → get_or (lists ++ [] ∷ []) c [] ≡ []
no_lists_more [] none zero = refl
no_lists_more [] none (suc c) = refl
no_lists_more (l ∷ lists) none zero = none 0
no_lists_more (l ∷ lists) none (suc c) = no_lists_more lists (λ d. none (suc d)) c

-- one list of vectors is replaced by a longer one
pub element_added : (lists : List (Vec ℕ Global)) (c t : ℕ) (v w : Vec ℕ Global) → c < length lists → v ≡ get_or lists c v → w.items ≡ v.items ++ t ∷ [] → map (λ (v : Vec ℕ Global). v.items) (set lists c w) ≡ with_element (map (λ (v : Vec ℕ Global). v.items) lists) c t
element_added lists c t v w l e f =
    let row : v.items ≡ get_or (map (λ (v : Vec ℕ Global). v.items) lists) c [] = ap (λ (v : Vec ℕ Global). v.items) e ∙ sym (get_or-map (λ (v : Vec ℕ Global). v.items) lists c v [] l) in
    map-set (λ (v : Vec ℕ Global). v.items) lists c w ∙ ap (set (map (λ (v : Vec ℕ Global). v.items) lists) c) (f ∙ ap (λ r. r ++ t ∷ []) row)

-- what stands in a list after one more element
pub element_there : (lists : List (List ℕ)) (c t : ℕ) → c < length lists → Contains (get_or (with_element lists c t) c []) t
element_there lists c t l = subst (λ r. Contains r t) (sym (get_or-set_same lists c (get_or lists c [] ++ t ∷ []) [] l)) (Contains-push (get_or lists c []) t)

pub element_kept : (lists : List (List ℕ)) (c t d u : ℕ) → c < length lists → Contains (get_or lists d []) u → Contains (get_or (with_element lists c t) d []) u
element_kept lists c t d u l h = elim (cases_eq d c) [
  | inl e ↦
      subst (λ n. Contains (get_or (with_element lists c t) n []) u) (sym e)
      (subst (λ r. Contains r u) (sym (get_or-set_same lists c (get_or lists c [] ++ t ∷ []) [] l))
      (Contains-append_left (get_or lists c []) (t ∷ []) u (subst (λ n. Contains (get_or lists n []) u) e h)))
  | inr ne ↦ subst (λ r. Contains r u) (sym (get_or-set_other lists c d (get_or lists c [] ++ t ∷ []) [] ne)) h
]

pub element_only : (lists : List (List ℕ)) (c t d u : ℕ) → c < length lists → Contains (get_or (with_element lists c t) d []) u → Contains (get_or lists d []) u ⊎ ((c ≡ d) × (t ≡ u))
element_only lists c t d u l h = elim (cases_eq d c) [
  | inl e ↦
      let there : Contains (get_or lists c [] ++ t ∷ []) u = subst (λ r. Contains r u) (ap (λ n. get_or (with_element lists c t) n []) e ∙ get_or-set_same lists c (get_or lists c [] ++ t ∷ []) [] l) h in
      elim (Contains-push_cases (get_or lists c []) t u there) [
        | inl old ↦ inl (subst (λ n. Contains (get_or lists n []) u) (sym e) old)
        | inr q ↦ inr (sym e, q)
      ]
  | inr ne ↦ inl (subst (λ r. Contains r u) (get_or-set_other lists c d (get_or lists c [] ++ t ∷ []) [] ne) h)
]

-- one arc of a row after the other
pub one_arc : (row : List Arc) (k : ℕ) (a b : Arc) → slice_get row k ≡ Some a → slice_get row k ≡ Some b → b ≡ a
one_arc row k a b h j = let e : Some a ≡ Some b = sym h ∙ j in cc

pub row_none : (classes : List ℕ) (row : List Arc) (old : List (List ℕ)) → RowFilled classes row 0 old old
row_none classes row old = record { count = refl; kept = λ c t h. h; all = λ j a l. absurd (omega (arith, l)); only = λ c t h. inl h }

pub row_put : (classes : List ℕ) (row : List Arc) (k : ℕ) (old mid : List (List ℕ)) (a : Arc) → RowFilled classes row k old mid → slice_get row k ≡ Some a → HasLabel a → class_of classes a.input < length mid → RowFilled classes row (k + 1) old (with_element mid (class_of classes a.input) a.next)
row_put classes row k old mid a had there label within = record {
  count = length-set mid (class_of classes a.input) (get_or mid (class_of classes a.input) [] ++ a.next ∷ []) ∙ had.count;
  kept = λ c t h. element_kept mid (class_of classes a.input) a.next c t within (had.kept c t h);
  all = λ j b l h low. elim (cases_lt j k) [
    | inl below ↦ element_kept mid (class_of classes a.input) a.next (class_of classes b.input) b.next within (had.all j b below h low)
    | inr high ↦
        let q : j ≡ k = omega arith in
        let same : b ≡ a = one_arc row k a b there (subst (λ n. slice_get row n ≡ Some b) q h) in
        subst (λ (d : Arc). Contains (get_or (with_element mid (class_of classes a.input) a.next) (class_of classes d.input) []) d.next) (sym same) (element_there mid (class_of classes a.input) a.next within)
  ];
  only = λ c t h. elim (element_only mid (class_of classes a.input) a.next c t within h) [
    | inl before ↦ had.only c t before
    | inr q ↦ inr (k, a, there, label, q.0, q.1)
  ];
}

pub row_skip : (classes : List ℕ) (row : List Arc) (k : ℕ) (old mid : List (List ℕ)) (a : Arc) → RowFilled classes row k old mid → slice_get row k ≡ Some a → (HasLabel a → ⊥) → RowFilled classes row (k + 1) old mid
row_skip classes row k old mid a had there none = record {
  count = had.count;
  kept = had.kept;
  all = λ j b l h low. elim (cases_lt j k) [
    | inl below ↦ had.all j b below h low
    | inr high ↦
        let q : j ≡ k = omega arith in
        let same : b ≡ a = one_arc row k a b there (subst (λ n. slice_get row n ≡ Some b) q h) in
        absurd (none (subst HasLabel same low))
  ];
  only = had.only;
}

-- one state of a set after the other
pub filled_none : (m : Machine) (classes : List ℕ) (count : ℕ) (set : List ℕ) (buckets : List (List ℕ)) → length buckets ≡ count → ((c : ℕ) → get_or buckets c [] ≡ []) → Filled m classes count set 0 buckets
filled_none m classes count set buckets n none = record {
  count = n;
  all = λ i l t below. absurd (omega (arith, below));
  only = λ c t h. absurd (none_in_nil t (subst (λ r. Contains r t) (none c) h));
}

pub filled_more : (m : Machine) (classes : List ℕ) (count : ℕ) (set : List ℕ) (k : ℕ) (old new : List (List ℕ)) → WellFormed m → k < length set → Filled m classes count set k old → RowFilled classes (get_or m.arcs (get_or set k 0) []) (length (get_or m.arcs (get_or set k 0) [])) old new → Filled m classes count set (k + 1) new
filled_more m classes count set k old new sound within had add = record {
  count = add.count ∙ had.count;
  all = λ i l t below label lead. elim (cases_lt i k) [
    | inl low ↦ add.kept (class_of classes l) t (had.all i l t low label lead)
    | inr high ↦
        let q : i ≡ k = omega arith in
        let there : IsArc m.arcs (get_or set k 0) lead.place lead.arc = subst (λ n. IsArc m.arcs (get_or set n 0) lead.place lead.arc) q lead.there in
        let put = add.all lead.place lead.arc (slice_get_within (get_or m.arcs (get_or set k 0) []) lead.place lead.arc there) there (subst (λ n. 1 ≤ n) (sym lead.input) label.0) in
        subst (λ n. Contains (get_or new (class_of classes n) []) t) lead.input (subst (Contains (get_or new (class_of classes lead.arc.input) [])) lead.next put)
  ];
  only = λ c t h. elim (add.only c t h) [
    | inl before ↦ had.only c t before
    | inr q ↦
        let high : q.1.input ≤ 257 = (sound.arcs (get_or set k 0) q.0 q.1 q.2).input in
        (get_or set k 0, q.1.input, Contains-get_or set k 0 within, (q.3, high), q.4, record { place = q.0; arc = q.1; there = q.2; input = refl; next = q.5 })
  ];
}

pub fits : (m : Machine) (z : Classing) (s n : ℕ) (row : List Arc) → WellFormed m → AreClasses m z → row ≡ get_or m.arcs s [] → n ≡ z.count → (j : ℕ) (a : Arc) → slice_get row j ≡ Some a → FitsClasses z.classes n a
fits m z s n row sound classes e q j a h =
    let high : a.input ≤ 257 = (sound.arcs s j a (ap (λ r. slice_get r j) (sym e) ∙ h)).input in
    record { label = subst (λ v. a.input < v) (sym classes.length) (omega arith); class = subst (λ v. class_of z.classes a.input < v) (sym q) (classes.within a.input high) }
