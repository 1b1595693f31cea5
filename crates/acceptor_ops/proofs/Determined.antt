-- The automaton of sets of states accepts what the transducer takes.
use Rattle.std.proofs.Common.{◌≡◌, ◌↔◌, ℕ, zero, suc, ◌+◌, ◌<◌, ◌≤◌, Bool, true, false, List, [], ◌∷◌, ◌++◌, length, get_or, refl, sym, ap, subst, ◌∙◌, inl, inr, arith, length-append}
use Rattle.std.specs.Prelude.{All, IsTrue}
use Rattle.std.proofs.lemmas.Bool.{cases_lt}
use Rattle.std.proofs.lemmas.List.{get_or_append_left, get_or_push}
use Rattle.std.proofs.lemmas.List.Elements.{All-nil, All-cons, All-head, All-tail}
use Rattle.weighted_relations.specs.Relations.{IsLabel, IsInput}
use Rattle.weighted_relations.specs.Graphs.{stop, step, label}
use Rattle.weighted_relations.specs.Machines.{Machine, Path, Reads, WellFormed}
use Rattle.acceptor_ops.specs.Tables.{class_of, run_from, Accepts, IsTotal}
use Rattle.acceptor_ops.specs.Alike.{Classing, AreClasses}
use Rattle.acceptor_ops.specs.StateSets.{Takes, TakesAny, AnyFinal, IsKernel, KernelOf, Steps, StepsBy}
use Rattle.acceptor_ops.specs.Numbered.{AllKernels, RowOf, RowAdded, RowsMade, with_row}
use Rattle.state_table.specs.Numbers.{Keeps, Numbers}
use Rattle.state_table.proofs.Numbering.{keeps_refl, keeps_trans, keeps_more, kept_at, numbers_keeps, numbers_within, stored_at, fresh_at}
use Rattle.acceptor_ops.proofs.Inputs.{kernel_ends, takes_one}

-- a row, one class at a time
pub row_none : (m : Machine) (classes : List ℕ) (sets : List (List ℕ)) (k : ℕ) → AllKernels m sets → RowAdded m classes sets sets k 0 []
row_none m classes sets k kernels = record {
  keeps = keeps_refl sets;
  kernels = kernels;
  made = record { count = refl; within = λ c l. absurd (omega (arith, l)); steps = λ i h l. absurd (omega (arith, l)) };
}

all_kernels : (m : Machine) (old new : List (List ℕ)) (found : List ℕ) (number : ℕ) → AllKernels m old → IsKernel m found → Numbers old new found number → AllKernels m new
all_kernels m old new found number had closed add k l = elim (cases_lt k (length old)) [
  | inl low ↦ subst (IsKernel m) (sym (kept_at [] (numbers_keeps add) k low)) (had k low)
  | inr high ↦ subst (IsKernel m) (sym (fresh_at add [] k high l)) closed
]

pub row_more : (m : Machine) (classes : List ℕ) (old mid new : List (List ℕ)) (k n : ℕ) (row found : List ℕ) (number : ℕ) → k < length old → RowAdded m classes old mid k n row → StepsBy m classes (get_or mid k []) n found → Numbers mid new found number → RowAdded m classes old new k (n + 1) (row ++ number ∷ [])
row_more m classes old mid new k n row found number there had steps add =
    let bound : length old ≤ length mid = keeps_more had.keeps in
    let kept : Keeps mid new = numbers_keeps add in
    let more : length mid ≤ length new = keeps_more kept in
    let count : length row ≡ n = had.made.count in
    let same : get_or new k [] ≡ get_or mid k [] = kept_at [] kept k (omega arith) in
    record {
      keeps = keeps_trans had.keeps kept;
      kernels = all_kernels m mid new found number had.kernels steps.kernel add;
      made = record {
        count = length-append row (number ∷ []) ∙ ap (λ v. v + 1) count;
        within = λ i l. elim (cases_lt i n) [
          | inl low ↦
              let q : get_or row i 0 < length mid = had.made.within i low in
              let w : i < length row = omega arith in
              subst (λ v. v < length new) (sym (get_or_append_left row (number ∷ []) 0 i w)) (omega arith)
          | inr high ↦
              let e : length row ≡ i = omega arith in
              subst (λ v. v < length new) (sym (get_or_push row number 0 i e)) (numbers_within add)
        ];
        steps = λ l label h. elim (cases_lt (class_of classes l) n) [
          | inl low ↦
              let q : get_or row (class_of classes l) 0 < length mid = had.made.within (class_of classes l) low in
              let w : class_of classes l < length row = omega arith in
              subst (λ v. Steps m v l (get_or new (get_or (row ++ number ∷ []) (class_of classes l) 0) [])) (sym same)
              (subst (λ v. Steps m (get_or mid k []) l v) (sym (ap (λ v. get_or new v []) (get_or_append_left row (number ∷ []) 0 (class_of classes l) w) ∙ kept_at [] kept (get_or row (class_of classes l) 0) q))
              (had.made.steps l label low))
          | inr high ↦
              let e : length row ≡ class_of classes l = omega arith in
              let f : class_of classes l ≡ n = omega arith in
              subst (λ v. Steps m v l (get_or new (get_or (row ++ number ∷ []) (class_of classes l) 0) [])) (sym same)
              (subst (λ v. Steps m (get_or mid k []) l v) (sym (ap (λ v. get_or new v []) (get_or_push row number 0 (class_of classes l) e) ∙ stored_at add []))
              (steps.steps l label f))
        ];
      };
    }

row_kept : (m : Machine) (classes : List ℕ) (old new : List (List ℕ)) (k n : ℕ) (row : List ℕ) → k < length old → Keeps old new → RowOf m classes old k n row → RowOf m classes new k n row
row_kept m classes old new k n row l keeps had =
    let more : length old ≤ length new = keeps_more keeps in
    record {
      count = had.count;
      within = λ i j. let q : get_or row i 0 < length old = had.within i j in omega arith;
      steps = λ i h j. subst (λ v. Steps m v i (get_or new (get_or row (class_of classes i) 0) [])) (sym (kept_at [] keeps k l))
          (subst (Steps m (get_or old k []) i) (sym (kept_at [] keeps (get_or row (class_of classes i) 0) (had.within (class_of classes i) j))) (had.steps i h j));
    }

-- sets and rows while an automaton is built
pub record Building (m : Machine) (c : Classing) (from : ℕ) (sets : List (List ℕ)) (b : RowsMade) : Type 0 where
  pub kernels : AllKernels m sets
  pub count : length b.accepting ≡ length b.next
  pub more : length b.next ≤ length sets
  pub start : from < length sets
  pub begins : (x : List ℕ) → TakesAny m (get_or sets from []) x ↔ Takes m m.start x
  pub rows : (k : ℕ) → k < length b.next → RowOf m c.classes sets k c.count (get_or b.next k [])
  pub ends : (k : ℕ) → k < length b.next → (get_or b.accepting k false ≡ true) ↔ AnyFinal m (get_or sets k [])

pub building_none : (m : Machine) (c : Classing) (from : ℕ) (sets : List (List ℕ)) (found : List ℕ) (b : RowsMade) → KernelOf m (m.start ∷ []) found → Numbers [] sets found from → b ≡ record { next = []; accepting = [] } → Building m c from sets b
building_none m c from sets found b is add e =
    let none : (k : ℕ) → k < length b.next → ⊥ = λ k l. let q : length b.next ≡ 0 = ap (λ (v : RowsMade). length v.next) e in omega arith in
    record {
      kernels = all_kernels m [] sets found from (λ k l. absurd (omega (arith, l))) is.kernel add;
      count = ap (λ (v : RowsMade). length v.accepting) e ∙ sym (ap (λ (v : RowsMade). length v.next) e);
      more = let q : length b.next ≡ 0 = ap (λ (v : RowsMade). length v.next) e in omega arith;
      start = numbers_within add;
      begins = λ x.
          let one = takes_one m m.start x in (
            λ h. one.0 ((is.same x).0 (subst (λ v. TakesAny m v x) (stored_at add []) h)),
            λ h. subst (λ v. TakesAny m v x) (sym (stored_at add [])) ((is.same x).1 (one.1 h)),
          );
      rows = λ k l. absurd (none k l);
      ends = λ k l. absurd (none k l);
    }

pub building_more : (m : Machine) (c : Classing) (from k : ℕ) (sets new : List (List ℕ)) (b d : RowsMade) (row : List ℕ) (last : Bool) → Building m c from sets b → k ≡ length b.next → k < length sets → (IsTrue last ↔ AnyFinal m (get_or sets k [])) → RowAdded m c.classes sets new k c.count row → d ≡ with_row b row last → Building m c from new d
building_more m c from k sets new b d row last had e l ends add pushed =
    let more : length sets ≤ length new = keeps_more add.keeps in
    let start : from < length sets = had.start in
    let even : length b.accepting ≡ length b.next = had.count in
    let n : length (b.next ++ row ∷ []) ≡ length b.next + 1 = length-append b.next (row ∷ []) in
    let o : length (b.accepting ++ last ∷ []) ≡ length b.accepting + 1 = length-append b.accepting (last ∷ []) in
    subst (Building m c from new) (sym pushed) (record {
      kernels = add.kernels;
      count = omega arith;
      more = omega arith;
      start = omega arith;
      begins = λ x. subst (λ v. TakesAny m v x ↔ Takes m m.start x) (sym (kept_at [] add.keeps from start)) (had.begins x);
      rows = λ j i. elim (cases_lt j (length b.next)) [
        | inl low ↦
            let w : j < length sets = omega arith in
            subst (RowOf m c.classes new j c.count) (sym (get_or_append_left b.next (row ∷ []) [] j low)) (row_kept m c.classes sets new j c.count (get_or b.next j []) w add.keeps (had.rows j low))
        | inr high ↦
            let q : length b.next ≡ j = omega arith in
            let r : k ≡ j = omega arith in
            subst (RowOf m c.classes new j c.count) (sym (get_or_push b.next row [] j q)) (subst (λ v. RowOf m c.classes new v c.count row) r add.made)
      ];
      ends = λ j i. elim (cases_lt j (length b.next)) [
        | inl low ↦
            let w : j < length sets = omega arith in
            let u : j < length b.accepting = omega arith in
            subst (λ v. (v ≡ true) ↔ AnyFinal m (get_or new j [])) (sym (get_or_append_left b.accepting (last ∷ []) false j u))
            (subst (λ v. (get_or b.accepting j false ≡ true) ↔ AnyFinal m v) (sym (kept_at [] add.keeps j w)) (had.ends j low))
        | inr high ↦
            let q : length b.accepting ≡ j = omega arith in
            let r : k ≡ j = omega arith in
            let w : j < length sets = omega arith in
            subst (λ v. (v ≡ true) ↔ AnyFinal m (get_or new j [])) (sym (get_or_push b.accepting last false j q))
            (subst (λ v. (last ≡ true) ↔ AnyFinal m v) (sym (kept_at [] add.keeps j w)) (subst (λ v. (last ≡ true) ↔ AnyFinal m (get_or sets v [])) r ends))
      ];
    })

-- what is taken is a string of labels
label_labels : (n : ℕ) (x : List ℕ) → n ≤ 257 → All IsLabel x → All IsLabel (label n x)
label_labels zero x l h = h
label_labels (suc n) x l h = All-cons IsLabel (suc n) x (omega arith, l) h

pub path_labels : (m : Machine) → WellFormed m → {s : ℕ} {ks x y : List ℕ} {w : ℕ} → Path m s ks x y w → All IsLabel x
path_labels m sound (stop h) = All-nil IsLabel
path_labels m sound (step {s} {k} {ks} {a} {x} {y} {w} h path) = label_labels a.input x (sound.arcs s k a h).input (path_labels m sound path)

module _ (m : Machine) (c : Classing) (from : ℕ) (sets : List (List ℕ)) (b : RowsMade) (sound : WellFormed m) (classes : AreClasses m c) (had : Building m c from sets b) (done : length sets ≤ length b.next) where
  all : length b.next ≡ length sets
  all = let more : length b.next ≤ length sets = had.more in omega arith

  class_within : (l : ℕ) → IsLabel l → class_of c.classes l < c.count
  class_within l label = classes.within l label.1

  pub total : IsTotal (record { start = from; classes = c.classes; next = b.next; accepting = b.accepting })
  total = record {
    count = had.count;
    start = subst (λ n. from < n) (sym all) had.start;
    classes = classes.length;
    within = λ s l i label. subst (λ n. class_of c.classes l < n) (sym (had.rows s i).count) (class_within l label);
    steps = λ s l i label. subst (λ n. get_or (get_or b.next s []) (class_of c.classes l) 0 < n) (sym all) ((had.rows s i).within (class_of c.classes l) (class_within l label));
  }

  -- after the string, the state accepts
  After : ℕ → List ℕ → Type 0
  After s x = (All IsLabel x) × (get_or b.accepting (run_from (record { start = from; classes = c.classes; next = b.next; accepting = b.accepting }) s x) false ≡ true)

  taken : (x : List ℕ) (s : ℕ) → s < length sets → TakesAny m (get_or sets s []) x ↔ After s x
  unfolding After
  taken [] s l =
      let within : s < length b.next = subst (λ n. s < n) (sym all) l in
      let e = kernel_ends m (get_or sets s []) (had.kernels s l) in
      let f = had.ends s within in
      (λ h. (All-nil IsLabel, f.1 (e.0 h)), λ h. e.1 (f.0 h.1))
  taken (n ∷ x) s l =
      let within : s < length b.next = subst (λ n. s < n) (sym all) l in
      let row = had.rows s within in
      let next = get_or (get_or b.next s []) (class_of c.classes n) 0 in (
        λ h.
            let labels : All IsLabel (n ∷ x) = path_labels m sound h.takes.2.1 in
            let i : IsLabel n = All-head IsLabel n x labels in
            (labels, ((taken x next (row.within (class_of c.classes n) (class_within n i))).0 (((row.steps n i (class_within n i)).same x).1 h)).1),
        λ h.
            let i : IsLabel n = All-head IsLabel n x h.0 in
            ((row.steps n i (class_within n i)).same x).0 ((taken x next (row.within (class_of c.classes n) (class_within n i))).1 (All-tail IsLabel n x h.0, h.1)),
      )

  pub accepts : (x : List ℕ) → Accepts (record { start = from; classes = c.classes; next = b.next; accepting = b.accepting }) x ↔ IsInput (Reads m) x
  unfolding After
  accepts x =
      let t = taken x from had.start in
      let g = had.begins x in (
        λ h. g.0 (t.1 (h.labels, h.accepted)),
        λ h. let k = t.0 (g.1 h) in record { labels = k.0; accepted = k.1 },
      )
