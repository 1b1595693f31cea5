-- A code is read in place, word by word.
use Rattle.std.specs.Prelude.{◌≡◌, ◌≢◌, ◌<◌, ◌≤◌, ℕ, zero, suc, ◌+◌, ◌^◌, List, [], ◌∷◌, ◌++◌, Option, Some, None, All, drop, filter, get_or, length, nat_eq, take, true}
use Rattle.std.specs.List.{flat_map}
use Rattle.std.proofs.Common.{inl, inr, refl, sym, ◌∙◌, ap, subst, arith, append_assoc, length-append}
use Rattle.std.proofs.Math.Nat.{pow-succ'}
use Rattle.std.proofs.lemmas.Bool.{cases_lt}
use Rattle.std.proofs.lemmas.List.{append-nil, get_or-drop, get_or_append_left, take-append-drop, take_all}
use Rattle.std.proofs.lemmas.List.Elements.{filter-append}
use Rattle.place_words.specs.declared.view.Entry.{Entry}
use Rattle.place_words.specs.declared.view.Entry.TheVariants.{Leave}
use Rattle.place_words.specs.declared.view.Mode.{Mode}
use Rattle.place_words.specs.declared.view.Mode.TheVariants.{Idle, Knocked, Reading, Writing}
use Rattle.place_words.specs.declared.view.Read.{Read}
use Rattle.place_words.specs.declared.view.View.{View}
use Rattle.place_words.specs.Places.{Agrees}
use Rattle.place_words.specs.Modes.{IsReading, place_or, seen_of}
use Rattle.place_words.specs.Steps.{left}
use Rattle.place_table.specs.Entries.{holds, logged, reads_of}
use Rattle.place_table.proofs.Agreeing.{agrees_before}
use Rattle.place_table.proofs.Runs.{reads_append}
use Rattle.state_tuples.specs.declared.tuples.Tuple.{Tuple}
use Rattle.state_tuples.specs.declared.tuples.TupleArc.{TupleArc}
use Rattle.state_tuples.specs.Cascades.{IsSound, end_of}
use Rattle.state_tuples.specs.Codes.{IsCodeOf, IsFirstReader, arc_width, arc_words, code_of, code_width, end_words, no_arc}
use Rattle.state_tuples.specs.Orders.{InOrder}
use Rattle.state_tuples.proofs.InCodes.{arc_from, arc_length, inputs_rise, none_after, one_more, readers}
use Rattle.shared_cascade.specs.declared.facts.Grammars.{Grammars}
use Rattle.shared_cascade.specs.Grammars.{HaveNumbers, cascades_of}
use Rattle.shared_cascade.specs.Held.{IsSeen, OfOne, OfSeen, ReadsOn, read_on}
use Rattle.shared_cascade.specs.RightCodes.{IsRight}
use Rattle.shared_cascade.proofs.Handing.{code_of_it}

module _ (g : Grammars) where
  pub of_code : (seen : List Read) (code : List ℕ) → IsRight (cascades_of g) code → Agrees seen code
      → (t : Tuple) (end : Option ℕ) (arcs : List TupleArc) → IsCodeOf t end arcs code → InOrder arcs → IsSeen g seen t end arcs
  of_code seen code right agrees t end arcs is order = record {
    right = subst (IsRight (cascades_of g)) is.is_code right;
    agrees = subst (Agrees seen) is.is_code agrees;
    is_code = record { is_tuple = is.is_tuple; are_arcs = is.are_arcs; is_code = refl };
    order = order;
  }

  -- a right code that has all words that were read is seen
  pub seen_here : HaveNumbers g → All IsSound (cascades_of g) → (seen : List Read) (code : List ℕ) → IsRight (cascades_of g) code → Agrees seen code
      → (t : Tuple) × (end : Option ℕ) × (arcs : List TupleArc) × IsSeen g seen t end arcs
  seen_here numbers sound seen code right agrees =
      let x = right.expansion in
      let is = code_of_it g numbers sound right.t right.c right.among right.known code x in
      (right.t, end_of right.c right.t, x.0, of_code seen code right agrees right.t (end_of right.c right.t) x.0 is x.1.order)

  pub before : (rs ss : List Read) (t : Tuple) (end : Option ℕ) (arcs : List TupleArc) → IsSeen g (rs ++ ss) t end arcs → IsSeen g rs t end arcs
  before rs ss t end arcs h = record { right = h.right; agrees = agrees_before rs ss (code_of t end arcs) h.agrees; is_code = h.is_code; order = h.order }

  -- what has all words that were read has those that were read first
  pub seen_before : (v v' : View Grammars) (rs : List Read) → v' ≡ read_on v rs → (t : Tuple) (end : Option ℕ) (arcs : List TupleArc) → IsSeen g (seen_of v'.mode) t end arcs → IsSeen g (seen_of v.mode) t end arcs
  seen_before v v' rs is t end arcs x = before (seen_of v.mode) rs t end arcs (subst (λ (u : View Grammars). IsSeen g (seen_of u.mode) t end arcs) is x)

  pub earlier : (v v' : View Grammars) (rs : List Read) → v' ≡ read_on v rs → (P : List TupleArc → Type 0) → OfSeen g (seen_of v.mode) P → OfSeen g (seen_of v'.mode) P
  earlier v v' rs is P h t end arcs x = h t end arcs (seen_before v v' rs is t end arcs x)

  -- what holds of each code that has these words holds of one, and it has those that were read before
  pub of_one : (v v' : View Grammars) (rs : List Read) → v' ≡ read_on v rs → (u : Tuple) (last : Option ℕ) (all : List TupleArc) → IsSeen g (seen_of v'.mode) u last all
      → (P : Option ℕ → List TupleArc → Type 0) → ((t : Tuple) (end : Option ℕ) (arcs : List TupleArc) → IsSeen g (seen_of v'.mode) t end arcs → P end arcs) → OfOne g (seen_of v.mode) P
  of_one v v' rs is u last all x P h = (
    code_of u last all,
    x.right,
    (seen_before v v' rs is u last all x).agrees,
    λ t end arcs code order. h t end arcs (of_code (seen_of v'.mode) (code_of u last all) x.right x.agrees t end arcs code order),
  )

module _ {T : Type 0} where
  pub more_read : (v : View T) (rs ss : List Read) → read_on (read_on v rs) ss ≡ read_on v (rs ++ ss)
  more_read v rs ss =
      let p : ℕ = place_or 0 v.mode in
      let a : (seen_of v.mode ++ rs) ++ ss ≡ seen_of v.mode ++ (rs ++ ss) = append_assoc (seen_of v.mode) rs ss in
      let b : (v.log ++ reads_of p rs) ++ reads_of p ss ≡ v.log ++ reads_of p (rs ++ ss) =
      append_assoc v.log (reads_of p rs) (reads_of p ss) ∙ ap (λ (l : List Entry). v.log ++ l) (sym (reads_append p rs ss)) in
      ap (λ (z : List Read × List Entry). record v { mode = Reading p z.0; log = z.1 }) (λ j. (a j, b j))

  -- reads after reads
  pub then_read : (u v w : View T) (rs ss : List Read) → v ≡ read_on u rs → w ≡ read_on v ss → w ≡ read_on u (rs ++ ss)
  then_read u v w rs ss f g = g ∙ (ap (λ x. read_on x ss) f ∙ more_read u rs ss)

  pub then_on : (u v w : View T) (n m k : ℕ) → n + m ≤ k → ReadsOn u v n → ReadsOn v w m → ReadsOn u w k
  then_on u v w n m k few f g = (f.0 ++ g.0, (let e = length-append f.0 g.0 in omega (arith, f.1, g.1)), then_read u v w f.0 g.0 f.2 g.2)

  -- what a seat adds that was held, has read on and has left
  pub left_held : (u : View T) (p w : ℕ) (es : List Entry) (rs ss : List Read) → left (read_on (holds u p es rs) ss) p w true ≡ logged u ((es ++ reads_of p ss) ++ Leave p w true ∷ [])
  left_held u p w es rs ss = ap (λ (l : List Entry). record u { mode = Idle; log = l })
      (ap (λ (l : List Entry). l ++ Leave p w true ∷ []) (append_assoc u.log es (reads_of p ss)) ∙ append_assoc u.log (es ++ reads_of p ss) (Leave p w true ∷ []))

-- the words of an arc
pub word_there : (t : Tuple) (end : Option ℕ) (arcs : List TupleArc) (code : List ℕ) → IsCodeOf t end arcs code → (k i : ℕ) → k < length arcs → i < arc_width
    → get_or code (code_width k + i) 0 ≡ get_or (arc_words (get_or arcs k no_arc)) i 0
word_there t end arcs code is k i lt small =
    let a = get_or arcs k no_arc in
    let rest = flat_map arc_words (drop (k + 1) arcs) in
    sym (get_or-drop (code_width k) code i 0) ∙ (ap (λ l. get_or l i 0) (arc_from t end arcs code is k lt) ∙ get_or_append_left (arc_words a) rest 0 i (let e = arc_length a in omega arith))

-- the arcs before the place `low` read lesser labels, and those from `high` on don't
pub record Between (arcs : List TupleArc) (label low high : ℕ) : Type 0 where
  pub below : (k : ℕ) → k < low → (get_or arcs k no_arc).input < label
  pub above : (k : ℕ) → high ≤ k → k < length arcs → label ≤ (get_or arcs k no_arc).input

pub all_between : (arcs : List TupleArc) (label count : ℕ) → count ≡ length arcs → Between arcs label 0 count
all_between arcs label count all = record { below = λ k lt. absurd (omega arith); above = λ k low lt. absurd (omega arith) }

module _ (arcs : List TupleArc) (order : InOrder arcs) (label low high m : ℕ) (h : Between arcs label low high) where
  pub upper_half : m < length arcs → (get_or arcs m no_arc).input < label → Between arcs label (m + 1) high
  upper_half lt less = record {
    below = λ k l. elim (cases_lt k m) [
      | inl before ↦ (let e = inputs_rise arcs order k m before lt in omega arith)
      | inr from ↦ (let e : m ≡ k = omega arith in subst (λ (j : ℕ). (get_or arcs j no_arc).input < label) e less)
    ];
    above = h.above;
  }

  pub lower_half : label ≤ (get_or arcs m no_arc).input → Between arcs label low m
  lower_half more = record {
    below = h.below;
    above = λ k l lt. elim (cases_lt m k) [
      | inl after ↦ (let e = inputs_rise arcs order m k after lt in omega arith)
      | inr upto ↦ (let e : m ≡ k = omega arith in subst (λ (j : ℕ). label ≤ (get_or arcs j no_arc).input) e more)
    ];
  }

pub found_first : (arcs : List TupleArc) (label low high : ℕ) → Between arcs label low high → high ≤ low → low ≤ length arcs → IsFirstReader arcs label low
found_first arcs label low high h all within = record { within = within; below = h.below; above = λ k l lt. h.above k (omega arith) lt }

-- half of what is left is left
pub halved : (j n m : ℕ) → n < 2 ^ suc j → m + m ≤ n → m < 2 ^ j
halved j n m lt half = (let e = pow-succ' 2 j in omega arith)

-- a seat that reads has read nothing more
no_more : (m : Mode) → IsReading m → m ≡ Reading (place_or 0 m) (seen_of m ++ [])
no_more (Reading p seen) h = ap (Reading p) (sym (append-nil seen))
no_more Idle h = absurd h
no_more (Knocked p) h = absurd h
no_more (Writing p stored) h = absurd h

pub read_none : {T : Type 0} (v : View T) → IsReading v.mode → v ≡ read_on v []
read_none v h = λ i. record v { mode = no_more v.mode h i; log = sym (append-nil v.log) i }

-- six words that are those of an arc
pub all_words : (all : List ℕ) (i : ℕ) (a : TupleArc) → length all ≡ 6 → i ≡ 6 → take i all ≡ take i (arc_words a) → all ≡ arc_words a
all_words all i a wide end same =
    let s = subst (λ (j : ℕ). take j all ≡ take j (arc_words a)) end same in
    sym (take_all 6 all (omega arith)) ∙ (s ∙ take_all 6 (arc_words a) (let e = arc_length a in omega arith))

-- half or less of what is left, where some is left
pub halving : (j n m : ℕ) → 0 < n → n < 2 ^ j → m + m ≤ n → (i : ℕ) × (j ≡ suc i) × (m < 2 ^ i)
halving zero n m some lt half = absurd (let e : 2 ^ 0 ≡ 1 = refl in omega arith)
halving (suc i) n m some lt half = (i, refl, halved i n m lt half)

-- an arc that reads the label is one more than those before it
pub fewer_put : (arcs : List TupleArc) (label k : ℕ) → k < length arcs → (get_or arcs k no_arc).input ≡ label → length (readers arcs label k) < length (filter (λ a. nat_eq a.input label) arcs)
fewer_put arcs label k lt same =
    let p = λ (a : TupleArc). nat_eq a.input label in
    let split = ap (filter p) (sym (take-append-drop (k + 1) arcs)) ∙ filter-append p (take (k + 1) arcs) (drop (k + 1) arcs) in
    let more = ap length (one_more arcs label k lt same) in
    let all = ap length split in
    let a = length-append (readers arcs label k) (get_or arcs k no_arc ∷ []) in
    let b = length-append (readers arcs label (k + 1)) (filter p (drop (k + 1) arcs)) in
    omega arith

-- from an arc that reads another label on, where none reads a lesser one, none reads the label
pub none_from : (arcs : List TupleArc) → InOrder arcs → (label k : ℕ) → k < length arcs → label ≤ (get_or arcs k no_arc).input → (get_or arcs k no_arc).input ≢ label → readers arcs label k ≡ filter (λ a. nat_eq a.input label) arcs
none_from arcs order label k lt high other = none_after arcs label k (omega arith) (λ j l m e. elim (cases_lt k j) [
  | inl after ↦ (let rise = inputs_rise arcs order k j after m in other (omega arith))
  | inr upto ↦ (let same : j ≡ k = omega arith in other (subst (λ (i : ℕ). (get_or arcs i no_arc).input ≡ label) same e))
])

-- the final weight by its two words
pub no_end : (end : Option ℕ) → get_or (end_words end) 0 0 ≡ 0 → None ≡ end
no_end None e = refl
no_end (Some w) e = absurd (cc)

pub an_end : (end : Option ℕ) (w : ℕ) → get_or (end_words end) 0 0 ≢ 0 → w ≡ get_or (end_words end) 1 0 → Some w ≡ end
an_end None w some e = absurd (some refl)
an_end (Some v) w some e = ap Some e
