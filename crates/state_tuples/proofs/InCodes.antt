-- Where the words of a code stand.
use Rattle.std.specs.Prelude.{◌≡◌, ◌<◌, ◌≤◌, ℕ, zero, suc, ◌+◌, ◌-◌, ◌*◌, ◌/◌, List, [], ◌∷◌, ◌++◌, Some, None, Option, drop, get_or, length, take, nat_eq, cond, ◌≢◌}
use Rattle.std.specs.List.{filter, flat_map}
use Rattle.std.proofs.Common.{refl, sym, ◌∙◌, ap, subst, arith, length-append, append_assoc, eq-eqb, inl, inr}
use Rattle.std.proofs.Math.Seq.{drop-append-add, drop-nil}
use Rattle.std.proofs.lemmas.List.{append-nil, drop_more, get_or-append-add, get_or-drop, get_or-take, get_or_default, length-drop, length-take-le, take-append-drop, take_at, take_all, take_more, take_more_set}
use Rattle.std.proofs.lemmas.Bool.{ne_eqb}
use Rattle.std.proofs.lemmas.Option.{slice_get-get_or}
use Rattle.std.proofs.lemmas.List.Elements.{filter-append, filter_more}
use Rattle.fst_core.proofs.Readers.{none_pass}
use Rattle.state_tuples.specs.declared.tuples.Tuple.{Tuple}
use Rattle.state_tuples.specs.declared.tuples.TupleArc.{TupleArc}
use Rattle.state_tuples.specs.Positions.{back, most_parts, padded}
use Rattle.state_tuples.specs.Codes.{IsArc, IsCodeOf, arc_width, arc_words, code_of, code_width, end_words, head_width, head_words, key, labels_word, no_arc}
use Rattle.state_tuples.specs.Orders.{InOrder}
use Rattle.state_tuples.proofs.Padded.{back_more}
use Rattle.state_tuples.proofs.Places.{length_padded}

-- states that fill a tuple are its states
fronts : (xs : List ℕ) → length xs ≡ most_parts → (n : ℕ) → n ≤ most_parts → take n (padded (back 0 xs n)) ≡ take n xs
fronts xs w zero l = refl
fronts xs w (suc n) l =
    let s : n + 1 ≡ suc n = omega arith in
    let ys = padded (back 0 xs n) in
    let v : length ys ≡ most_parts = length_padded (back 0 xs n) in
    subst (λ j. take j (padded (back 0 xs j)) ≡ take j xs) s
    (ap (take (n + 1)) (back_more xs n)
    ∙ (take_more_set ys n (get_or xs n 0) (omega arith)
    ∙ (ap (λ t. t ++ get_or xs n 0 ∷ []) (fronts xs w n (omega arith))
    ∙ sym (take_more xs n 0 (omega arith)))))

pub whole : (xs : List ℕ) → length xs ≡ most_parts → padded (back 0 xs most_parts) ≡ xs
whole xs w =
    let v : length (padded (back 0 xs most_parts)) ≡ most_parts = length_padded (back 0 xs most_parts) in
    sym (take_all most_parts (padded (back 0 xs most_parts)) (omega arith)) ∙ (fronts xs w most_parts (omega arith) ∙ take_all most_parts xs (omega arith))

-- how many words there are
pub arc_length : (a : TupleArc) → length (arc_words a) ≡ arc_width
arc_length a = (let v = length_padded (back 0 a.states most_parts) in omega arith)

flat_length : (arcs : List TupleArc) → length (flat_map arc_words arcs) ≡ arc_width * length arcs
flat_length [] = refl
flat_length (a ∷ arcs) =
    let e = length-append (arc_words a) (flat_map arc_words arcs) in
    let i = flat_length arcs in
    let s = arc_length a in omega arith

pub head_length : (n : ℕ) (t : Tuple) (end : Option ℕ) → length t.states ≡ most_parts → length (head_words n t end) ≡ head_width
head_length n t None h = (let e = length-append t.states (t.filters ∷ []) in let f = length-append (key t) (0 ∷ 0 ∷ []) in omega arith)
head_length n t (Some w) h = (let e = length-append t.states (t.filters ∷ []) in let f = length-append (key t) (1 ∷ w ∷ []) in omega arith)

pub code_length : (t : Tuple) (end : Option ℕ) (arcs : List TupleArc) → length t.states ≡ most_parts → length (code_of t end arcs) ≡ code_width (length arcs)
code_length t end arcs h =
    let e = length-append (head_words (length arcs) t end) (flat_map arc_words arcs) in
    let f = head_length (length arcs) t end h in
    let g = flat_length arcs in omega arith

-- from the place of an arc on stand this arc and those after it
flat_from : (arcs : List TupleArc) (k : ℕ) → drop (arc_width * k) (flat_map arc_words arcs) ≡ flat_map arc_words (drop k arcs)
flat_from arcs zero = refl
flat_from [] (suc k) = drop-nil (arc_width * suc k)
flat_from (a ∷ arcs) (suc k) =
    let s = arc_length a in
    ap (λ (n : ℕ). drop n (arc_words a ++ flat_map arc_words arcs)) (let e : arc_width * suc k ≡ length (arc_words a) + arc_width * k = omega arith in e)
    ∙ (drop-append-add (arc_words a) (flat_map arc_words arcs) (arc_width * k) ∙ flat_from arcs k)

pub code_from : (t : Tuple) (end : Option ℕ) (arcs : List TupleArc) (code : List ℕ) → IsCodeOf t end arcs code → (k : ℕ) → drop (code_width k) code ≡ flat_map arc_words (drop k arcs)
code_from t end arcs code is k =
    let head = head_words (length arcs) t end in
    let h = head_length (length arcs) t end is.is_tuple.states in
    ap (drop (code_width k)) is.is_code
    ∙ (ap (λ (n : ℕ). drop n (head ++ flat_map arc_words arcs)) (let e : code_width k ≡ length head + arc_width * k = omega arith in e)
    ∙ (drop-append-add head (flat_map arc_words arcs) (arc_width * k) ∙ flat_from arcs k))

pub arc_from : (t : Tuple) (end : Option ℕ) (arcs : List TupleArc) (code : List ℕ) → IsCodeOf t end arcs code → (k : ℕ) → k < length arcs
    → drop (code_width k) code ≡ arc_words (get_or arcs k no_arc) ++ flat_map arc_words (drop (k + 1) arcs)
arc_from t end arcs code is k lt = code_from t end arcs code is k ∙ ap (flat_map arc_words) (drop_more arcs k no_arc lt)

-- the words of an arc, one by one
pub labels_there : (t : Tuple) (end : Option ℕ) (arcs : List TupleArc) (code : List ℕ) → IsCodeOf t end arcs code → (k : ℕ) → k < length arcs
    → get_or code (code_width k) 0 ≡ labels_word (get_or arcs k no_arc)
labels_there t end arcs code is k lt =
    ap (λ (n : ℕ). get_or code n 0) (let e : code_width k ≡ code_width k + 0 = omega arith in e)
    ∙ (sym (get_or-drop (code_width k) code 0 0) ∙ ap (λ l. get_or l 0 0) (arc_from t end arcs code is k lt))

pub weight_there : (t : Tuple) (end : Option ℕ) (arcs : List TupleArc) (code : List ℕ) → IsCodeOf t end arcs code → (k : ℕ) → k < length arcs
    → get_or code (code_width k + 1) 0 ≡ (get_or arcs k no_arc).weight
weight_there t end arcs code is k lt = sym (get_or-drop (code_width k) code 1 0) ∙ ap (λ l. get_or l 1 0) (arc_from t end arcs code is k lt)

drop_further : {X : Type 0} (n m : ℕ) (xs : List X) → drop (n + m) xs ≡ drop m (drop n xs)
drop_further zero m xs = ap (λ (k : ℕ). drop k xs) (let e : 0 + m ≡ m = omega arith in e)
drop_further (suc n) m [] = drop-nil (suc n + m) ∙ sym (drop-nil m)
drop_further (suc n) m (x ∷ xs) = ap (λ (k : ℕ). drop k (x ∷ xs)) (let e : suc n + m ≡ suc (n + m) = omega arith in e) ∙ drop_further n m xs

pub states_there : (t : Tuple) (end : Option ℕ) (arcs : List TupleArc) (code : List ℕ) → IsCodeOf t end arcs code → (k : ℕ) → k < length arcs
    → take most_parts (drop (code_width k + 2) code) ≡ (get_or arcs k no_arc).states
states_there t end arcs code is k lt =
    let a = get_or arcs k no_arc in
    let ok : IsArc a = is.are_arcs k no_arc lt in
    let states = padded (back 0 a.states most_parts) in
    ap (take most_parts) (drop_further (code_width k) 2 code ∙ ap (drop 2) (arc_from t end arcs code is k lt))
    ∙ (take_at states (flat_map arc_words (drop (k + 1) arcs)) most_parts (length_padded (back 0 a.states most_parts)) ∙ whole a.states ok.states)

pub width_in : (t : Tuple) (end : Option ℕ) (arcs : List TupleArc) (code : List ℕ) → IsCodeOf t end arcs code → length code ≡ code_width (length arcs)
width_in t end arcs code is = ap length is.is_code ∙ code_length t end arcs is.is_tuple.states

pub count_in : (t : Tuple) (end : Option ℕ) (arcs : List TupleArc) (code : List ℕ) → IsCodeOf t end arcs code → (length code - head_width) / arc_width ≡ length arcs
count_in t end arcs code is = (let e = width_in t end arcs code is in omega arith)

-- what stands behind the states of the tuple
abbrev tail_of : Tuple → Option ℕ → List TupleArc → List ℕ
tail_of t end arcs = t.filters ∷ (end_words end ++ flat_map arc_words arcs)

from_states : (t : Tuple) (end : Option ℕ) (arcs : List TupleArc) (code : List ℕ) → IsCodeOf t end arcs code → drop 2 code ≡ t.states ++ tail_of t end arcs
from_states t end arcs code is =
    let flat = flat_map arc_words arcs in
    ap (drop 2) is.is_code
    ∙ (append_assoc (t.states ++ t.filters ∷ []) (end_words end) flat
    ∙ append_assoc t.states (t.filters ∷ []) (end_words end ++ flat))

pub cascade_there : (t : Tuple) (end : Option ℕ) (arcs : List TupleArc) (code : List ℕ) → IsCodeOf t end arcs code → get_or code 1 0 ≡ t.cascade
cascade_there t end arcs code is = ap (λ l. get_or l 1 0) is.is_code

pub tuple_states_there : (t : Tuple) (end : Option ℕ) (arcs : List TupleArc) (code : List ℕ) → IsCodeOf t end arcs code → take most_parts (drop 2 code) ≡ t.states
tuple_states_there t end arcs code is = ap (take most_parts) (from_states t end arcs code is) ∙ take_at t.states (tail_of t end arcs) most_parts is.is_tuple.states

behind : (t : Tuple) (end : Option ℕ) (arcs : List TupleArc) (code : List ℕ) → IsCodeOf t end arcs code → (k : ℕ) → get_or code (most_parts + 2 + k) 0 ≡ get_or (tail_of t end arcs) k 0
behind t end arcs code is k =
    let w = is.is_tuple.states in
    ap (λ (n : ℕ). get_or code n 0) (let e : most_parts + 2 + k ≡ 2 + (length t.states + k) = omega arith in e)
    ∙ (sym (get_or-drop 2 code (length t.states + k) 0)
    ∙ (ap (λ l. get_or l (length t.states + k) 0) (from_states t end arcs code is)
    ∙ get_or-append-add t.states (tail_of t end arcs) k 0))

pub filters_there : (t : Tuple) (end : Option ℕ) (arcs : List TupleArc) (code : List ℕ) → IsCodeOf t end arcs code → get_or code (most_parts + 2) 0 ≡ t.filters
filters_there t end arcs code is = behind t end arcs code is 0

-- whether there is a final weight, and it
pub end_told : (t : Tuple) (end : Option ℕ) (arcs : List TupleArc) (code : List ℕ) → IsCodeOf t end arcs code → get_or code (most_parts + 3) 0 ≡ get_or (end_words end) 0 0
end_told t None arcs code is = behind t None arcs code is 1
end_told t (Some w) arcs code is = behind t (Some w) arcs code is 1

pub end_weight : (t : Tuple) (end : Option ℕ) (arcs : List TupleArc) (code : List ℕ) → IsCodeOf t end arcs code → get_or code (most_parts + 4) 0 ≡ get_or (end_words end) 1 0
end_weight t None arcs code is = behind t None arcs code is 2
end_weight t (Some w) arcs code is = behind t (Some w) arcs code is 2

-- an arc whose words stand in the code is one of its arcs
pub arc_within : (t : Tuple) (end : Option ℕ) (arcs : List TupleArc) (code : List ℕ) → IsCodeOf t end arcs code → (k : ℕ) → code_width (k + 1) ≤ length code → k < length arcs
arc_within t end arcs code is k l = (let e = width_in t end arcs code is in omega arith)

-- arcs in order read labels in order
pub inputs_rise : (arcs : List TupleArc) → InOrder arcs → (i j : ℕ) → i < j → j < length arcs → (get_or arcs i no_arc).input ≤ (get_or arcs j no_arc).input
inputs_rise arcs h i j l lt =
    elim (h i j (get_or arcs i no_arc) (get_or arcs j no_arc) l (slice_get-get_or arcs i no_arc (omega arith)) (slice_get-get_or arcs j no_arc lt)) [
      | inl less ↦ omega arith
      | inr same ↦ (let e = same.0 in omega arith)
    ]

-- the arcs that read a label, among the first k
abbrev pub readers : List TupleArc → ℕ → ℕ → List TupleArc
readers arcs label k = filter (λ a. nat_eq a.input label) (take k arcs)

pub none_before : (arcs : List TupleArc) (label k : ℕ) → k ≤ length arcs → ((j : ℕ) → j < k → (get_or arcs j no_arc).input < label) → readers arcs label k ≡ []
none_before arcs label k l below = none_pass (λ a. nat_eq a.input label) (take k arcs) (λ j d lt.
    let n : length (take k arcs) ≡ k = length-take-le k arcs l in
    let here : j < k = omega arith in
    let less = below j here in
    let at : get_or (take k arcs) j d ≡ get_or arcs j no_arc = get_or-take k arcs j d here ∙ get_or_default arcs j d no_arc (omega arith) in
    ap (λ a. nat_eq a.input label) at ∙ ne_eqb (get_or arcs j no_arc).input label (λ e. omega arith))

pub none_after : (arcs : List TupleArc) (label k : ℕ) → k ≤ length arcs → ((j : ℕ) → k ≤ j → j < length arcs → (get_or arcs j no_arc).input ≢ label) → readers arcs label k ≡ filter (λ a. nat_eq a.input label) arcs
none_after arcs label k l other =
    let p = λ (a : TupleArc). nat_eq a.input label in
    let rest : filter p (drop k arcs) ≡ [] = none_pass p (drop k arcs) (λ j d lt.
    let n : length (drop k arcs) ≡ length arcs - k = length-drop k arcs in
    let at : get_or (drop k arcs) j d ≡ get_or arcs (k + j) no_arc = get_or-drop k arcs j d ∙ get_or_default arcs (k + j) d no_arc (omega arith) in
    ap p at ∙ ne_eqb (get_or arcs (k + j) no_arc).input label (other (k + j) (omega arith) (omega arith))) in
    sym (ap (filter p) (sym (take-append-drop k arcs)) ∙ (filter-append p (take k arcs) (drop k arcs) ∙ (ap (λ t. filter p (take k arcs) ++ t) rest ∙ append-nil (filter p (take k arcs)))))

pub one_more : (arcs : List TupleArc) (label k : ℕ) → k < length arcs → (get_or arcs k no_arc).input ≡ label → readers arcs label (k + 1) ≡ readers arcs label k ++ get_or arcs k no_arc ∷ []
one_more arcs label k lt same = filter_more (λ a. nat_eq a.input label) arcs k no_arc lt
    ∙ ap (λ b. readers arcs label k ++ cond b (get_or arcs k no_arc ∷ []) []) (eq-eqb (get_or arcs k no_arc).input label same)
