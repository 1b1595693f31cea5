-- The outputs that letters make.
use Rattle.std.proofs.Common.{◌≡◌, ◌<◌, ◌≤◌, ℕ, zero, suc, ◌+◌, ◌-◌, List, [], ◌∷◌, ◌++◌, length, get_or, set, arith, refl, sym, ap, ◌∙◌, subst, inl, inr, length-append, append_assoc}
use Rattle.std.specs.Prelude.{reverse}
use Rattle.std.proofs.lemmas.Bool.{cases_lt}
use Rattle.std.proofs.lemmas.List.{get_or_append_left, get_or-append-add, append-nil, reverse-append}
use Rattle.least_path.specs.declared.outputs.Letter.{Letter}
use Rattle.least_path.specs.Texts.{texts_after, texts, IsMade, text_of, Grows}

one_more : List (List ℕ) → Letter → List ℕ
one_more known l = get_or known l.before [] ++ l.label ∷ []

-- one letter more
after_push : (known : List (List ℕ)) (letters : List Letter) (l : Letter) → texts_after known (letters ++ l ∷ []) ≡ texts_after known letters ++ (get_or (texts_after known letters) l.before [] ++ l.label ∷ []) ∷ []
after_push known [] l = refl
after_push known (a ∷ letters) l = after_push (known ++ (get_or known a.before [] ++ a.label ∷ []) ∷ []) letters l

after_length : (known : List (List ℕ)) (letters : List Letter) → length (texts_after known letters) ≡ length known + length letters
after_length known [] = omega arith
after_length known (a ∷ letters) =
    let h : length (texts_after (known ++ (get_or known a.before [] ++ a.label ∷ []) ∷ []) letters) ≡ length (known ++ (get_or known a.before [] ++ a.label ∷ []) ∷ []) + length letters = after_length (known ++ (get_or known a.before [] ++ a.label ∷ []) ∷ []) letters in
    let k : length (known ++ (get_or known a.before [] ++ a.label ∷ []) ∷ []) ≡ length known + 1 = length-append known ((get_or known a.before [] ++ a.label ∷ []) ∷ []) in
    omega arith

-- what was known stays
stays : (known : List (List ℕ)) (letters : List Letter) (k : ℕ) → k < length known → get_or (texts_after known letters) k [] ≡ get_or known k []
stays known [] k h = refl
stays known (a ∷ letters) k h =
    let x : List ℕ = get_or known a.before [] ++ a.label ∷ [] in
    let n : length (known ++ x ∷ []) ≡ length known + 1 = length-append known (x ∷ []) in
    stays (known ++ (get_or known a.before [] ++ a.label ∷ []) ∷ []) letters k (omega arith) ∙ get_or_append_left known ((get_or known a.before [] ++ a.label ∷ []) ∷ []) [] k h

-- each output is the one before it and its letter
each : (known : List (List ℕ)) (letters : List Letter) (i : ℕ) (d : Letter) → i < length letters → (get_or letters i d).before < length known + i
    → get_or (texts_after known letters) (length known + i) [] ≡ get_or (texts_after known letters) (get_or letters i d).before [] ++ (get_or letters i d).label ∷ []
each known [] i d h b = absurd (omega (arith, h))
each known (a ∷ letters) zero d h b =
    let x : List ℕ = get_or known a.before [] ++ a.label ∷ [] in
    let n : length (known ++ (get_or known a.before [] ++ a.label ∷ []) ∷ []) ≡ length known + 1 = length-append known ((get_or known a.before [] ++ a.label ∷ []) ∷ []) in
    let new : get_or (texts_after (known ++ (get_or known a.before [] ++ a.label ∷ []) ∷ []) letters) (length known + 0) [] ≡ get_or (known ++ (get_or known a.before [] ++ a.label ∷ []) ∷ []) (length known + 0) [] = stays (known ++ (get_or known a.before [] ++ a.label ∷ []) ∷ []) letters (length known + 0) (omega arith) in
    let at : get_or (known ++ (get_or known a.before [] ++ a.label ∷ []) ∷ []) (length known + 0) [] ≡ get_or known a.before [] ++ a.label ∷ [] = get_or-append-add known ((get_or known a.before [] ++ a.label ∷ []) ∷ []) 0 [] in
    let old : get_or (texts_after (known ++ (get_or known a.before [] ++ a.label ∷ []) ∷ []) letters) a.before [] ≡ get_or (known ++ (get_or known a.before [] ++ a.label ∷ []) ∷ []) a.before [] = stays (known ++ (get_or known a.before [] ++ a.label ∷ []) ∷ []) letters a.before (omega arith) in
    let was : get_or (known ++ (get_or known a.before [] ++ a.label ∷ []) ∷ []) a.before [] ≡ get_or known a.before [] = get_or_append_left known ((get_or known a.before [] ++ a.label ∷ []) ∷ []) [] a.before (omega arith) in
    new ∙ at ∙ ap (λ t. t ++ a.label ∷ []) (sym was ∙ sym old)
each known (a ∷ letters) (suc i) d h b =
    let n : length (known ++ (get_or known a.before [] ++ a.label ∷ []) ∷ []) ≡ length known + 1 = length-append known ((get_or known a.before [] ++ a.label ∷ []) ∷ []) in
    let same : length known + suc i ≡ length (known ++ (get_or known a.before [] ++ a.label ∷ []) ∷ []) + i = omega arith in
    let l : i < length letters = omega (arith, h) in
    let bb : (get_or letters i d).before < length (known ++ (get_or known a.before [] ++ a.label ∷ []) ∷ []) + i = omega (arith, b, n) in
    ap (λ t. get_or (texts_after (known ++ (get_or known a.before [] ++ a.label ∷ []) ∷ []) letters) t []) same ∙ each (known ++ (get_or known a.before [] ++ a.label ∷ []) ∷ []) letters i d l bb

pub texts_length : (letters : List Letter) → length (texts letters) ≡ length letters + 1
texts_length letters = let h : length (texts_after ([] ∷ []) letters) ≡ length {A = List ℕ} ([] ∷ []) + length letters = after_length ([] ∷ []) letters in omega arith

pub text_none : (letters : List Letter) → text_of (texts letters) 0 ≡ []
text_none letters = stays ([] ∷ []) letters 0 (omega arith)

-- the output of a number above 0
pub text_at : (letters : List Letter) → IsMade letters → (n : ℕ) (d : Letter) → 0 < n → n < length (texts letters) → text_of (texts letters) n ≡ text_of (texts letters) (get_or letters (n - 1) d).before ++ (get_or letters (n - 1) d).label ∷ []
text_at letters made n d pos h =
    let len : length (texts letters) ≡ length letters + 1 = texts_length letters in
    let i : n - 1 < length letters = omega arith in
    let b : (get_or letters (n - 1) d).before < (n - 1) + 1 = made (n - 1) d i in
    let same : n ≡ length {A = List ℕ} ([] ∷ []) + (n - 1) = omega arith in
    ap (text_of (texts letters)) same ∙ each ([] ∷ []) letters (n - 1) d i (omega (arith, b))

pub texts_push : (letters : List Letter) (l : Letter) → texts (letters ++ l ∷ []) ≡ texts letters ++ (text_of (texts letters) l.before ++ l.label ∷ []) ∷ []
texts_push letters l = after_push ([] ∷ []) letters l

pub grows_same : (old new : List (List ℕ)) → new ≡ old → Grows old new
grows_same old new e = record { more = []; is = e ∙ sym (append-nil old) }

pub grows_text : (old new : List (List ℕ)) → Grows old new → (k : ℕ) → k < length old → text_of new k ≡ text_of old k
grows_text old new g k h = ap (λ t. text_of t k) g.is ∙ get_or_append_left old g.more [] k h

pub grows_length : (old new : List (List ℕ)) → Grows old new → length old ≤ length new
grows_length old new g = let e : length new ≡ length old + length g.more = ap length g.is ∙ length-append old g.more in omega arith

pub grows_trans : (a b c : List (List ℕ)) → Grows a b → Grows b c → Grows a c
grows_trans a b c g h = record { more = g.more ++ h.more; is = h.is ∙ ap (λ t. t ++ h.more) g.is ∙ append_assoc a g.more h.more }

pub made_push : (letters : List Letter) (l : Letter) → IsMade letters → l.before < length (texts letters) → IsMade (letters ++ l ∷ [])
made_push letters l made h k d n = elim (cases_lt k (length letters)) [
  | inl m ↦ subst (λ (t : Letter). t.before < k + 1) (sym (get_or_append_left letters (l ∷ []) d k m)) (made k d m)
  | inr m ↦
      let len : length (texts letters) ≡ length letters + 1 = texts_length letters in
      let all : length (letters ++ l ∷ []) ≡ length letters + 1 = length-append letters (l ∷ []) in
      let same : k ≡ length letters + 0 = omega arith in
      let at : get_or (letters ++ l ∷ []) k d ≡ l = ap (λ t. get_or (letters ++ l ∷ []) t d) same ∙ get_or-append-add letters (l ∷ []) 0 d in
      subst (λ (t : Letter). t.before < k + 1) (sym at) (omega arith)
]

-- letters tell the same outputs with another link in one of them
module _ (d : Letter) where
  after_set : (known : List (List ℕ)) (letters : List Letter) (k : ℕ) (l : Letter) → l.before ≡ (get_or letters k d).before → l.label ≡ (get_or letters k d).label → texts_after known (set letters k l) ≡ texts_after known letters
  after_set known [] k l b e = refl
  after_set known (a ∷ letters) zero l b e = ap (λ n. texts_after (known ++ (get_or known n [] ++ l.label ∷ []) ∷ []) letters) b ∙ ap (λ n. texts_after (known ++ (get_or known a.before [] ++ n ∷ []) ∷ []) letters) e
  after_set known (a ∷ letters) (suc k) l b e = after_set (known ++ (get_or known a.before [] ++ a.label ∷ []) ∷ []) letters k l b e

  pub texts_set : (letters : List Letter) (k : ℕ) (l : Letter) → l.before ≡ (get_or letters k d).before → l.label ≡ (get_or letters k d).label → texts (set letters k l) ≡ texts letters
  texts_set letters k l b e = after_set ([] ∷ []) letters k l b e

pub push_number : (letters : List Letter) (l : Letter) → length letters + 1 < length (texts (letters ++ l ∷ []))
push_number letters l =
    let a = texts_length (letters ++ l ∷ []) in
    let b : length (letters ++ l ∷ []) ≡ length letters + 1 = length-append letters (l ∷ []) in
    omega arith

pub push_text : (letters : List Letter) (l : Letter) → text_of (texts (letters ++ l ∷ [])) (length letters + 1) ≡ text_of (texts letters) l.before ++ l.label ∷ []
push_text letters l =
    let len : length letters + 1 ≡ length (texts letters) + 0 = (let h = texts_length letters in omega arith) in
    ap (λ t. text_of t (length letters + 1)) (texts_push letters l) ∙ ap (λ n. text_of (texts letters ++ (text_of (texts letters) l.before ++ l.label ∷ []) ∷ []) n) len ∙ get_or-append-add (texts letters) ((text_of (texts letters) l.before ++ l.label ∷ []) ∷ []) 0 []

pub push_grows : (letters : List Letter) (l : Letter) → Grows (texts letters) (texts (letters ++ l ∷ []))
push_grows letters l = record { more = (text_of (texts letters) l.before ++ l.label ∷ []) ∷ []; is = texts_push letters l }

-- one letter before a walk's place
pub record Above (letters : List Letter) (at : ℕ) (d : Letter) : Type 0 where
  pub within : at - 1 < length letters
  pub before : (get_or letters (at - 1) d).before < at
  pub text : text_of (texts letters) at ≡ text_of (texts letters) (get_or letters (at - 1) d).before ++ (get_or letters (at - 1) d).label ∷ []

pub is_above : (letters : List Letter) → IsMade letters → (at : ℕ) (d : Letter) → 0 < at → at < length (texts letters) → Above letters at d
is_above letters made at d pos h =
    let len : length (texts letters) ≡ length letters + 1 = texts_length letters in
    let i : at - 1 < length letters = omega arith in
    let b : (get_or letters (at - 1) d).before < (at - 1) + 1 = made (at - 1) d i in
    record { within = i; before = omega (arith, b); text = text_at letters made at d pos h }

-- one label more, from the end
pub labels_more : (all before : List ℕ) (at : List ℕ) (n : ℕ) (labels new : List ℕ) → all ≡ at ++ reverse labels → at ≡ before ++ n ∷ [] → new ≡ labels ++ n ∷ [] → all ≡ before ++ reverse new
labels_more all before at n labels new rest is more =
    rest ∙ ap (λ t. t ++ reverse labels) is ∙ append_assoc before (n ∷ []) (reverse labels) ∙ ap (λ t. before ++ t) (sym (reverse-append labels (n ∷ []))) ∙ ap (λ t. before ++ reverse t) (sym more)
