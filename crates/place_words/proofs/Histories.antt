-- The words after many steps, and the logs that tell of them.
use Rattle.std.proofs.Common.{◌≡◌, ◌≢◌, ◌⊎◌, ℕ, zero, suc, ◌+◌, ◌<◌, if◌then◌else◌, eqb, Bool, true, false, List, [], ◌∷◌, ◌++◌, length, get_or, set, sym, refl, ap, ◌∙◌, subst, ⊎_elim, inl, inr, arith, length-append, get_or-set_other, get_or-set_same, eq-eqb, ne_eqb}
use Rattle.std.specs.List.{All}
use Rattle.std.proofs.lemmas.List.Elements.{All-append}
use mathlib.Core.Logic.{dite}
use mathlib.Core.Option.{some}
use native.Mathlib.Decide.{ℕ_discrete}
use lib.ListN.{get_elem?}
use Rattle.atomic_table.proofs.Lists.{at_set}
use Rattle.place_words.specs.declared.view.View.{View}
use Rattle.place_words.specs.declared.view.Mode.{Mode}
use Rattle.place_words.specs.declared.view.Entry.{Entry}
use Rattle.place_words.specs.Steps.{after, word_told, word_there, moved}
use Rattle.place_words.specs.Alone.{replay, left_by, Replays}
use Rattle.place_words.specs.History.{Turn, played, left_by_all, log_of, History}
use Rattle.place_words.specs.Rule.{Lawful}

abbrev pub at_of : List ℕ → ℕ → ℕ
at_of ws i = get_or ws i 0

pub set_is : (ws : List ℕ) (k y i : ℕ) → k < length ws → at_of (set ws k y) i ≡ (if eqb i k then y else at_of ws i)
set_is ws k y i lt = dite (ℕ_discrete i k)
    (λ e. ap (at_of (set ws k y)) e ∙ get_or-set_same ws k y 0 lt ∙ sym (ap (λ (b : Bool). if b then y else at_of ws i) (eq-eqb i k e)))
    (λ ne. get_or-set_other ws k i y 0 ne ∙ sym (ap (λ (b : Bool). if b then y else at_of ws i) (ne_eqb i k ne)))

-- a word where an entry does not name it
pub skip : (i k a b : ℕ) → i ≢ k → (if eqb i k then a else b) ≡ b
skip i k a b ne = ap (λ (t : Bool). if t then a else b) (ne_eqb i k ne)

-- an entry of a log with one more stands in the log, or is the last
snoc_split : {A : Type 0} (xs before rest : List A) (e x : A) → xs ++ e ∷ [] ≡ before ++ x ∷ rest → ((others : List A) × (xs ≡ before ++ x ∷ others)) ⊎ ((before ≡ xs) × (e ≡ x))
snoc_split [] [] rest e x is = inr (refl, cc)
snoc_split [] (b ∷ before) rest e x is = let len = ap length is in let more = length-append before (x ∷ rest) in absurd (omega (arith, len, more))
snoc_split (y ∷ ys) [] rest e x is = let same : y ≡ x = cc in inl (ys, λ i. same i ∷ ys)
snoc_split (y ∷ ys) (b ∷ before) rest e x is = let same : y ≡ b = cc in let tails : ys ++ e ∷ [] ≡ before ++ x ∷ rest = cc in ⊎_elim
    (λ (t : (others : List _) × (ys ≡ before ++ x ∷ others)). inl (t.0, λ i. same i ∷ t.1 i))
    (λ (t : (before ≡ ys) × (e ≡ x)). inr ((λ i. sym same i ∷ t.0 i), t.1))
    (snoc_split ys before rest e x tails)

pub in_turn : {T : Type 0} (v v' : View T) (m : Mode) (e : Entry) → v' ≡ moved v m e → (v.seats ≡ 1 → Replays v.log) → (v.seats ≡ 1 → word_told e ≡ word_there (left_by v.log) e) → v'.seats ≡ 1 → Replays v'.log
in_turn {T} v v' m e is before found = subst (λ (u : View T). u.seats ≡ 1 → Replays u.log) (sym is) (λ one front rest x split. ⊎_elim
    (λ (t : (others : List Entry) × (v.log ≡ front ++ x ∷ others)). before one front t.0 x t.1)
    (λ (t : (front ≡ v.log) × (e ≡ x)). subst (λ (z : List Entry × Entry). word_told z.1 ≡ word_there (left_by z.0) z.1) (λ i. (sym t.0 i, t.1 i)) (found one))
    (snoc_split v.log front rest e x split))

-- the words ws' are those after the entry e of seat s, which tells the word that it found
abbrev pub Follows : ℕ → List ℕ → List ℕ → Entry → Type 0
Follows s ws ws' e = ((i : ℕ) → at_of ws' i ≡ after s (at_of ws) e i) × (word_told e ≡ word_there (at_of ws) e)

played_snoc : (f : ℕ → ℕ) (ts : List Turn) (t : Turn) → played f (ts ++ t ∷ []) ≡ after t.0 (played f ts) t.1
played_snoc f [] t = refl
played_snoc f (x ∷ xs) t = played_snoc (after x.0 f x.1) xs t

push_if : (b : Bool) (x : Entry) (l : List Entry) (e : Entry) → x ∷ (if b then l ++ e ∷ [] else l) ≡ (if b then x ∷ (l ++ e ∷ []) else x ∷ l)
push_if true x l e = refl
push_if false x l e = refl

log_snoc : (s : ℕ) (ts : List Turn) (t : Turn) → log_of s (ts ++ t ∷ []) ≡ (if eqb t.0 s then log_of s ts ++ t.1 ∷ [] else log_of s ts)
log_snoc s [] t = refl
log_snoc s (x ∷ xs) t = dite (ℕ_discrete x.0 s)
    (λ e. let b = eq-eqb x.0 s e in ap (λ (b : Bool). if b then x.1 ∷ log_of s (xs ++ t ∷ []) else log_of s (xs ++ t ∷ [])) b ∙ ap (λ (l : List Entry). x.1 ∷ l) (log_snoc s xs t)
    ∙ push_if (eqb t.0 s) x.1 (log_of s xs) t.1 ∙ sym (ap (λ (b : Bool). if eqb t.0 s then (if b then x.1 ∷ log_of s xs else log_of s xs) ++ t.1 ∷ [] else (if b then x.1 ∷ log_of s xs else log_of s xs)) b))
    (λ ne. let b = ne_eqb x.0 s ne in ap (λ (b : Bool). if b then x.1 ∷ log_of s (xs ++ t ∷ []) else log_of s (xs ++ t ∷ [])) b ∙ log_snoc s xs t
    ∙ sym (ap (λ (b : Bool). if eqb t.0 s then (if b then x.1 ∷ log_of s xs else log_of s xs) ++ t.1 ∷ [] else (if b then x.1 ∷ log_of s xs else log_of s xs)) b))

all_one : {A : Type 0} (P : A → Type 0) (x : A) → P x → All P (x ∷ [])
all_one P x h zero d lt = h
all_one P x h (suc k) d lt = absurd (omega arith)

-- where one seat takes all steps, they are its log
pub played_alone : (f : ℕ → ℕ) (ts : List Turn) → All (λ t. t.0 < 1) ts → played f ts ≡ replay 0 f (log_of 0 ts)
played_alone f [] one = refl
played_alone f (t ∷ ts) one = let zero_seat : t.0 ≡ 0 = (let low : t.0 < 1 = one 0 t (omega arith) in omega arith) in
    ap (λ (z : ℕ). played (after z f t.1) ts) zero_seat ∙ played_alone (after 0 f t.1) ts (λ k d lt. one (suc k) d (omega arith))
    ∙ sym (ap (λ (b : Bool). replay 0 f (if b then t.1 ∷ log_of 0 ts else log_of 0 ts)) (eq-eqb t.0 0 zero_seat))

module _ {T : Type 0} (right : T → List ℕ → Type 0) (tag : T) (n seats : ℕ) where
  -- one more step
  pub keeps_history : (ws : List ℕ) (vs : List (View T)) (r : Lawful right tag n seats ws vs) (id : ℕ) (v : View T) (m : Mode) (e : Entry) (ws' : List ℕ)
      → get_elem? vs id ≡ some v → v.from + 1 ≡ v.to → Follows v.from ws ws' e → History seats ws' (set vs id (moved v m e))
  keeps_history ws vs r id v m e ws' at alone trail = let h = r.history in let t : Turn = (v.from, e) in let range = (r.each id v at).range in
      let same : at_of ws ≡ left_by_all h.turns = λ i k. h.words k i in record {
        turns = h.turns ++ t ∷ [];
        dealt = All-append (λ (x : Turn). x.0 < seats) h.turns (t ∷ []) h.dealt (all_one (λ (x : Turn). x.0 < seats) t (omega (arith, range)));
        in_turn = λ before rest x split. ⊎_elim
            (λ (y : (others : List Turn) × (h.turns ≡ before ++ x ∷ others)). h.in_turn before y.0 x y.1)
            (λ (y : (before ≡ h.turns) × (t ≡ x)). subst (λ (z : List Turn × Turn). word_told z.1.1 ≡ word_there (left_by_all z.0) z.1.1) (λ i. (sym y.0 i, y.1 i)) (trail.1 ∙ ap (λ (f : ℕ → ℕ). word_there f e) same))
            (snoc_split h.turns before rest t x split);
        words = λ i. trail.0 i ∙ ap (λ (f : ℕ → ℕ). after v.from f e i) same ∙ sym (ap (λ (f : ℕ → ℕ). f i) (played_snoc (λ _. 0) h.turns t));
        logs = λ j u is s low high. ⊎_elim
            (λ (y : (j ≡ id) × (moved v m e ≡ u)). let from : v.from ≡ u.from = ap (λ (z : View T). z.from) y.1 in let to : v.to ≡ u.to = ap (λ (z : View T). z.to) y.1 in
            let mine : v.from ≡ s = omega arith in
            log_snoc s h.turns t ∙ ap (λ (b : Bool). if b then log_of s h.turns ++ e ∷ [] else log_of s h.turns) (eq-eqb v.from s mine)
            ∙ ap (λ (l : List Entry). l ++ e ∷ []) (h.logs id v at s (omega arith) (omega arith)) ∙ ap (λ (z : View T). z.log) y.1)
            (λ (y : (j ≢ id) × (get_elem? vs j ≡ some u)).
            log_snoc s h.turns t ∙ ap (λ (b : Bool). if b then log_of s h.turns ++ e ∷ [] else log_of s h.turns)
            (ne_eqb v.from s (λ mine. y.0 (r.apart j id u v s y.1 at (low, high) (omega arith, omega arith))))
            ∙ h.logs j u y.1 s low high)
            (at_set vs id j (moved v m e) u is);
      }
