-- A node's number, and how it stands.
use Rattle.std.proofs.Common.{◌≡◌, ◌≢◌, ◌<◌, ◌≤◌, ◌⊎◌, ℕ, ◌+◌, List, [], ◌∷◌, ◌++◌, Some, get_or, set, length, arith, refl, sym, ap, ◌∙◌, subst, inl, inr, length-append}
use Rattle.std.proofs.lemmas.Bool.{cases_lt, cases_eq}
use Rattle.std.proofs.lemmas.List.{get_or_append_left, get_or-append-add, get_or_past, get_or-set_same, get_or-set_other}
use Rattle.std.proofs.lemmas.List.Sums.{sum_by-append, sum_by-set}
use Rattle.std.proofs.lemmas.Option.{slice_get_within, slice_get-get_or, get_or_from_slice_get}
use Rattle.least_path.specs.declared.node.Node.{Node}
use Rattle.least_path.specs.declared.queue.Entry.{Entry}
use Rattle.least_path.specs.declared.standings.Standing.{Standing}
use Rattle.least_path.specs.declared.standings.Standing.TheVariants.{Unmet, Met, Settled}
use Rattle.state_table.specs.Numbers.{Distinct, Numbers}
use Rattle.state_table.proofs.Numbering.{numbers_keeps, numbers_next, numbers_known, keeps_more, kept_at, fresh_at}
use Rattle.least_path.specs.Notes.{Noted}
use Rattle.least_path.specs.Standings.{standing_of, settled_one, settled_count}

-- One more that is unmet changes nothing that is kept.
unmet_more : {T : Type 0} (unmet : T) (xs : List T) (k : ℕ) → get_or (xs ++ unmet ∷ []) k unmet ≡ get_or xs k unmet
unmet_more unmet xs k = elim (cases_lt k (length xs)) [
  | inl l ↦ get_or_append_left xs (unmet ∷ []) unmet k l
  | inr l ↦
      let past : get_or xs k unmet ≡ unmet = get_or_past xs k unmet (omega arith) in
      let all : length (xs ++ unmet ∷ []) ≡ length xs + 1 = length-append xs (unmet ∷ []) in
      elim (cases_eq k (length xs + 0)) [
        | inl e ↦ ap (λ j. get_or (xs ++ unmet ∷ []) j unmet) e ∙ get_or-append-add xs (unmet ∷ []) 0 unmet ∙ sym past
        | inr n ↦ get_or_past (xs ++ unmet ∷ []) k unmet (omega arith) ∙ sym past
      ]
]

pub noted_same : {T : Type 0} {unmet : T} {old new : List Node} {marks marks' : List T} {n : Node} {i : ℕ} → Noted unmet old new marks marks' n i → (k : ℕ) → get_or marks' k unmet ≡ get_or marks k unmet
noted_same {T} {unmet} {old} {new} {marks} {marks'} noted k = elim noted.added [
  | inl e ↦ ap (λ xs. get_or xs k unmet) e
  | inr e ↦ ap (λ xs. get_or xs k unmet) e ∙ unmet_more unmet marks k
]

pub noted_count : {old new : List Node} {standings standings' : List Standing} {n : Node} {i : ℕ} → Noted Unmet old new standings standings' n i → settled_count standings' ≡ settled_count standings
noted_count {old} {new} {standings} {standings'} noted = elim noted.added [
  | inl e ↦ ap settled_count e
  | inr e ↦
      let more : settled_count standings' ≡ settled_count (standings ++ Unmet ∷ []) = ap settled_count e in
      let sum : settled_count (standings ++ Unmet ∷ []) ≡ settled_count standings + 0 = sum_by-append settled_one standings (Unmet ∷ []) in
      omega arith
]

pub noted_within : {T : Type 0} {unmet : T} {old new : List Node} {marks marks' : List T} {n : Node} {i : ℕ} → Noted unmet old new marks marks' n i → i < length marks'
noted_within {T} {unmet} {old} {new} {marks} {marks'} {n} {i} noted = subst (λ k. i < k) (sym noted.even) (slice_get_within new i n noted.number)

-- a node that was numbered, by whether it is new
module _ {T : Type 0} (unmet : T) (old new : List Node) (marks : List T) (n : Node) (i : ℕ) (is : Numbers old new n i) (even : length marks ≡ length old) where
  noted : (marks' : List T) → length marks' ≡ length new → (marks' ≡ marks) ⊎ (marks' ≡ marks ++ unmet ∷ []) → Noted unmet old new marks marks' n i
  noted marks' even' kept = record {
    number = is.stored;
    even = even';
    stays = (numbers_keeps is).kept;
    only = λ k m h l. slice_get-get_or old k m l ∙ ap Some (sym (kept_at m (numbers_keeps is) k l) ∙ get_or_from_slice_get new k m m h);
    longer = keeps_more (numbers_keeps is);
    new_one = λ k m h l. sym (get_or_from_slice_get new k m m h) ∙ fresh_at is m k l (slice_get_within new k m h);
    added = kept;
  }

  pub noted_known : new ≡ old → Noted unmet old new marks marks n i
  noted_known same = noted marks (even ∙ ap length (sym same)) (inl refl)

  pub noted_new : (marks' : List T) → new ≡ old ++ n ∷ [] → marks' ≡ marks ++ unmet ∷ [] → Noted unmet old new marks marks' n i
  noted_new marks' next more =
      let a : length new ≡ length old + 1 = ap length next ∙ length-append old (n ∷ []) in
      let b : length marks' ≡ length marks + 1 = ap length more ∙ length-append marks (unmet ∷ []) in
      noted marks' (omega arith) (inr more)

  -- where the number is not the next, no node is new
  pub none_new : Distinct new → i ≢ length marks → new ≡ old
  none_new apart other = elim (cases_lt i (length old)) [
    | inl l ↦ numbers_known is apart l
    | inr m ↦ elim is.added [
      | inl e ↦ e
      | inr e ↦ absurd (other (let w : i < length new = slice_get_within new i n is.stored in let all : length new ≡ length old + 1 = ap length e ∙ length-append old (n ∷ []) in omega arith))
    ]
  ]

  pub next_new : i ≡ length marks → new ≡ old ++ n ∷ []
  next_new next = numbers_next is (next ∙ even)

-- what isn't unmet is within
pub met_within : (xs : List Standing) (k : ℕ) (s : Standing) → s ≢ Unmet → standing_of xs k ≡ s → k < length xs
met_within xs k s ne e = elim (cases_lt k (length xs)) [ inl l ↦ l | inr l ↦ absurd (ne (sym e ∙ get_or_past xs k Unmet (omega arith))) ]

pub one_none : (s : Standing) → s ≢ Settled → settled_one s ≡ 0
one_none Unmet ne = refl
one_none (Met b) ne = refl
one_none Settled ne = absurd (ne refl)

-- a node that wasn't settled stands otherwise
pub count_set : (xs : List Standing) (i : ℕ) (s : Standing) → i < length xs → standing_of xs i ≢ Settled → settled_count (set xs i s) ≡ settled_count xs + settled_one s
count_set xs i s l ne =
    let e : settled_count (set xs i s) + settled_one (standing_of xs i) ≡ settled_count xs + settled_one s = sum_by-set settled_one xs i s Unmet l in
    let z : settled_one (standing_of xs i) ≡ 0 = one_none (standing_of xs i) ne in
    omega arith

pub set_own : (xs : List Standing) (i : ℕ) (s : Standing) → i < length xs → standing_of (set xs i s) i ≡ s
set_own xs i s l = get_or-set_same xs i s Unmet l

pub set_other : (xs : List Standing) (i k : ℕ) (s : Standing) → k ≢ i → standing_of (set xs i s) k ≡ standing_of xs k
set_other xs i k s ne = get_or-set_other xs i k s Unmet ne

pub met_not_settled : (b : Entry) → Met b ≡ Settled → ⊥
met_not_settled b e = cc

one_small : (s : Standing) → settled_one s ≤ 1
one_small Unmet = omega arith
one_small (Met b) = omega arith
one_small Settled = omega arith

pub count_within : (xs : List Standing) → settled_count xs ≤ length xs
count_within [] = omega arith
count_within (s ∷ xs) = let h = count_within xs in let k = one_small s in let e : settled_count (s ∷ xs) ≡ (0 + settled_one s) + settled_count xs = sum_by-append settled_one (s ∷ []) xs in omega arith
