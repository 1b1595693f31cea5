-- With one seat each word in the log is found as the log before it left it. So a look and a publishing tell what was left.
use Rattle.std.proofs.Common.{◌≡◌, ℕ, zero, suc, ◌+◌, ◌-◌, ◌<◌, if◌then◌else◌, Bool, true, false, List, [], ◌∷◌, ◌++◌, length, get_or, take, sym, refl, ap, ◌∙◌, subst, arith, append_assoc, eq-eqb, ne_eqb}
use Rattle.std.specs.Prelude.{All}
use Rattle.std.proofs.lemmas.List.{ext_get_or, get_or-take, length-take-le}
use mathlib.Core.Logic.{dite}
use native.Mathlib.Decide.{ℕ_discrete}
use Rattle.place_words.specs.declared.view.Read.{Read}
use Rattle.place_words.specs.declared.view.Entry.{Entry}
use Rattle.place_words.specs.declared.view.Entry.TheVariants.{Knock, Leave}
use Rattle.place_words.specs.Places.{state_index, state_of, word_index}
use Rattle.place_words.specs.Steps.{after, word_told, word_there}
use Rattle.place_words.specs.Alone.{replay, Replays, left_by}
use Rattle.place_words.specs.declared.view.View.{View}
use Rattle.place_table.specs.declared.answers.Found.{Found}
use Rattle.place_table.specs.declared.answers.Found.TheVariants.{Other, Claimed, Empty}
use Rattle.place_table.specs.declared.answers.Look.TheVariants.{Shown, Absent}
use Rattle.place_table.specs.Entries.{logged, reads_of, seen_from}
use Rattle.place_table.specs.Looks.{Tells, Passed, AllPassed, ShownLook, AbsentLook}
use Rattle.place_table.specs.Alone.{KeyLeft, CodeLeft, FoundLeft, LookAlone}
use Rattle.place_table.specs.Parts.{IsFree}
use Rattle.place_table.proofs.Looking.{seen_at, seen_length}
use Rattle.place_table.proofs.Runs.{one}

replay_append : (s : ℕ) (f : ℕ → ℕ) (a b : List Entry) → replay s f (a ++ b) ≡ replay s (replay s f a) b
replay_append s f [] b = refl
replay_append s f (e ∷ a) b = replay_append s (after s f e) a b

-- each of these entries tells the word that is there after those before it, where the words were f at first
abbrev pub FoundInTurn : (ℕ → ℕ) → List Entry → Type 0
FoundInTurn f [] = Unit {0}
FoundInTurn f (e ∷ es) = (word_told e ≡ word_there f e) × FoundInTurn (after 0 f e) es

pub turn_append : (f : ℕ → ℕ) (a b : List Entry) → FoundInTurn f (a ++ b) → FoundInTurn f a × FoundInTurn (replay 0 f a) b
turn_append f [] b h = (tt, h)
turn_append f (e ∷ a) b h = let r = turn_append (after 0 f e) a b h.1 in ((h.0, r.0), r.1)

-- so do those at the end of a lone seat's log
ends_in_turn : (before es : List Entry) → Replays (before ++ es) → FoundInTurn (left_by before) es
ends_in_turn before [] h = tt
ends_in_turn before (e ∷ es) h = (
  h before es e refl,
  subst (λ (f : ℕ → ℕ). FoundInTurn f es) (replay_append 0 (λ _. 0) before (e ∷ [])) (ends_in_turn (before ++ e ∷ []) es (subst Replays (sym (append_assoc before (e ∷ []) es)) h)),
)

-- and those that a call added to it
pub added_in_turn : {T : Type 0} (v v' : View T) (es : List Entry) → v' ≡ logged v es → (v'.seats ≡ 1 → Replays v'.log) → v.seats ≡ 1 → FoundInTurn (left_by v.log) es
added_in_turn v v' es is turn one_seat = ends_in_turn v.log es (subst (λ u. u.seats ≡ 1 → Replays u.log) is turn one_seat)

-- reads change no word, and find what is there
reads_leave : (f : ℕ → ℕ) (p : ℕ) (rs : List Read) → replay 0 f (reads_of p rs) ≡ f
reads_leave f p [] = refl
reads_leave f p (r ∷ rs) = reads_leave f p rs

reads_find : (f : ℕ → ℕ) (p : ℕ) (rs : List Read) → FoundInTurn f (reads_of p rs) → (k : ℕ) (d : Read) → k < length rs
    → (get_or rs k d).word ≡ f (word_index p (get_or rs k d).index)
reads_find f p [] h k d lt = absurd (omega arith)
reads_find f p (r ∷ rs) h zero d lt = h.0
reads_find f p (r ∷ rs) h (suc k) d lt = reads_find f p rs h.1 k d (omega arith)

-- a knock changes no word but the state word
knock_keeps : (f : ℕ → ℕ) (p w i : ℕ) → after 0 f (Knock p w) (word_index p i) ≡ f (word_index p i)
knock_keeps f p w i = ap (λ (b : Bool). if b then w + 1 else f (word_index p i)) (ne_eqb (word_index p i) (state_index p) (λ e. omega arith))

knock_adds : (f : ℕ → ℕ) (p w : ℕ) → after 0 f (Knock p w) (state_index p) ≡ w + 1
knock_adds f p w = ap (λ (b : Bool). if b then w + 1 else f (state_index p)) (eq-eqb (state_index p) (state_index p) refl)

-- and a leave undoes it
undone_at : (f : ℕ → ℕ) (p w w' : ℕ) (hit : Bool) → w ≡ f (state_index p) → w' ≡ w + 1 → (i : ℕ) → after 0 (after 0 f (Knock p w)) (Leave p w' hit) i ≡ f i
undone_at f p w w' hit found more i = dite (ℕ_discrete i (state_index p))
    (λ e. ap (λ (b : Bool). if b then w' - 1 else after 0 f (Knock p w) i) (eq-eqb i (state_index p) e) ∙ (let less : w' - 1 ≡ w = omega arith in less) ∙ found ∙ ap f (sym e))
    (λ ne. ap (λ (b : Bool). if b then w' - 1 else after 0 f (Knock p w) i) (ne_eqb i (state_index p) ne) ∙ ap (λ (b : Bool). if b then w + 1 else f i) (ne_eqb i (state_index p) ne))

-- a knock, reads and a leave: what they found, and that the words are as before
pub record Visit (f : ℕ → ℕ) (p w : ℕ) (rs : List Read) (es : List Entry) : Type 0 where
  pub found : w ≡ f (state_index p)
  pub read : (k : ℕ) (d : Read) → k < length rs → (get_or rs k d).word ≡ f (word_index p (get_or rs k d).index)
  pub still : replay 0 f es ≡ f

visit : (f : ℕ → ℕ) (p w w' : ℕ) (hit : Bool) (rs : List Read) (es : List Entry) → es ≡ Knock p w ∷ (reads_of p rs ++ Leave p w' hit ∷ []) → FoundInTurn f es → Visit f p w rs es
visit f p w w' hit rs es is turn = let t = subst (FoundInTurn f) is turn in let f1 : ℕ → ℕ = after 0 f (Knock p w) in
    let s = turn_append f1 (reads_of p rs) (Leave p w' hit ∷ []) t.1 in
    let more : w' ≡ w + 1 = s.1.0 ∙ ap (λ (h : ℕ → ℕ). h (state_index p)) (reads_leave f1 p rs) ∙ knock_adds f p w in record {
      found = t.0;
      read = λ k d lt. reads_find f1 p rs s.0 k d lt ∙ knock_keeps f p w (get_or rs k d).index;
      still = ap (replay 0 f) is ∙ replay_append 0 f1 (reads_of p rs) (Leave p w' hit ∷ []) ∙ ap (λ (h : ℕ → ℕ). after 0 h (Leave p w' hit)) (reads_leave f1 p rs)
          ∙ (λ j i. undone_at f p w w' hit t.0 more i j);
    }

-- reads that tell a key at a shown place
key_left : (f : ℕ → ℕ) (p w : ℕ) (rs : List Read) (key : List ℕ) → w ≡ f (state_index p) → state_of w ≡ 1 → Tells rs key
    → ((k : ℕ) (d : Read) → k < length rs → (get_or rs k d).word ≡ f (word_index p (get_or rs k d).index)) → KeyLeft f p key
key_left f p w rs key found shown told read = record {
  shown = ap state_of (sym found) ∙ shown;
  same = λ k lt. let t = told.1 k lt in let d : Read = one (k + 1) (get_or key k 0) in
      sym (subst (λ (r : Read). r.word ≡ f (word_index p r.index)) t.2 (read t.0 d t.1));
}

-- what was left at a way that was passed
abbrev pub WasLeft : (ℕ → ℕ) → ℕ → Found → Type 0
WasLeft f p (Other other) = KeyLeft f p other
WasLeft f p (Claimed s) = state_of (f (state_index p)) ≡ 2 + s
WasLeft f p Empty = state_of (f (state_index p)) ≡ 0

free_left : (f : ℕ → ℕ) (p : ℕ) (x : Found) → IsFree x → WasLeft f p x → FoundLeft f p x
free_left f p (Other other) free h = h
free_left f p (Claimed s) free h = free
free_left f p Empty free h = h

pub record Passing (f : ℕ → ℕ) (key : List ℕ) (p : ℕ) (x : Found) (es : List Entry) : Type 0 where
  pub left : WasLeft f p x
  pub without : ¬ KeyLeft f p key
  pub still : replay 0 f es ≡ f

passing : (f : ℕ → ℕ) (key : List ℕ) (p : ℕ) (x : Found) (es : List Entry) → length key ≡ 6 → Passed key p x es → FoundInTurn f es → Passing f key p x es
passing f key p (Other other) es six h turn = let v = visit f p h.0 h.1 false h.2 es h.6 turn in let mine = key_left f p h.0 h.2 other v.found h.3 h.4 v.read in record {
  left = mine;
  without = λ its. h.5 (ext_get_or 0 other key (h.4.0 ∙ sym six) (λ k lt. sym (mine.same k (omega (arith, h.4.0))) ∙ its.same k (omega (arith, h.4.0))));
  still = v.still;
}
passing f key p (Claimed s) es six h turn = let v = visit f p h.0 h.1 false [] es h.3 turn in let mine : state_of (f (state_index p)) ≡ 2 + s = ap state_of (sym v.found) ∙ h.2 in record {
  left = mine;
  without = λ its. let one : state_of (f (state_index p)) ≡ 1 = its.shown in omega arith;
  still = v.still;
}
passing f key p Empty es six h turn = let v = visit f p h.0 h.1 false [] es h.3 turn in let mine : state_of (f (state_index p)) ≡ 0 = ap state_of (sym v.found) ∙ h.2 in record {
  left = mine;
  without = λ its. let one : state_of (f (state_index p)) ≡ 1 = its.shown in omega arith;
  still = v.still;
}

pub record AllPassing (f : ℕ → ℕ) (key ps : List ℕ) (xs : List Found) (es : List Entry) : Type 0 where
  pub left : (k : ℕ) → k < length ps → WasLeft f (get_or ps k 0) (get_or xs k Empty)
  pub without : (k : ℕ) → k < length ps → ¬ KeyLeft f (get_or ps k 0) key
  pub still : replay 0 f es ≡ f

first_or : (f : ℕ → ℕ) (p : ℕ) (x : Found) (ps : List ℕ) (xs : List Found) (k : ℕ) → WasLeft f p x → ((k : ℕ) → k < length ps → WasLeft f (get_or ps k 0) (get_or xs k Empty))
    → k < length (p ∷ ps) → WasLeft f (get_or (p ∷ ps) k 0) (get_or (x ∷ xs) k Empty)
first_or f p x ps xs zero here there lt = here
first_or f p x ps xs (suc k) here there lt = there k (omega arith)

none_or : (f : ℕ → ℕ) (key : List ℕ) (p : ℕ) (ps : List ℕ) (k : ℕ) → (¬ KeyLeft f p key) → ((k : ℕ) → k < length ps → ¬ KeyLeft f (get_or ps k 0) key)
    → k < length (p ∷ ps) → ¬ KeyLeft f (get_or (p ∷ ps) k 0) key
none_or f key p ps zero here there lt = here
none_or f key p ps (suc k) here there lt = there k (omega arith)

all_passing : (f : ℕ → ℕ) (key ps : List ℕ) (xs : List Found) (es : List Entry) → length key ≡ 6 → AllPassed key ps xs es → FoundInTurn f es → AllPassing f key ps xs es
all_passing f key [] [] es six h turn = record { left = λ k lt. absurd (omega arith); without = λ k lt. absurd (omega arith); still = ap (replay 0 f) h }
all_passing f key (p ∷ ps) (x ∷ xs) es six h turn = let s = turn_append f h.0 h.1 (subst (FoundInTurn f) h.4 turn) in
    let first = passing f key p x h.0 six h.2 s.0 in
    let others = all_passing f key ps xs h.1 six h.3 (subst (λ (g : ℕ → ℕ). FoundInTurn g h.1) first.still s.1) in record {
      left = λ k lt. first_or f p x ps xs k first.left others.left lt;
      without = λ k lt. none_or f key p ps k first.without others.without lt;
      still = ap (replay 0 f) h.4 ∙ replay_append 0 f h.0 h.1 ∙ ap (λ (g : ℕ → ℕ). replay 0 g h.1) first.still ∙ others.still;
    }
all_passing f key [] (x ∷ xs) es six h turn = absurd h
all_passing f key (p ∷ ps) [] es six h turn = absurd h

passed_length : (key ps : List ℕ) (xs : List Found) (es : List Entry) → AllPassed key ps xs es → length xs ≡ length ps
passed_length key [] [] es h = refl
passed_length key (p ∷ ps) (x ∷ xs) es h = let e = passed_length key ps xs h.1 h.3 in omega arith
passed_length key [] (x ∷ xs) es h = absurd h
passed_length key (p ∷ ps) [] es h = absurd h

pub absent_alone : (f : ℕ → ℕ) (key ways into : List ℕ) (found : List Found) (n : ℕ) (es : List Entry) → length key ≡ 6 → AbsentLook key ways found n es → FoundInTurn f es → All IsFree (take n found)
    → LookAlone f key ways into (Absent found n)
absent_alone f key ways into found n es six h turn free k lt = let all = all_passing f key ways (take n found) es six h.passed turn in
    let at : get_or (take n found) k Empty ≡ get_or found k Empty = get_or-take n found k Empty (omega (arith, h.count)) in
    let len = passed_length key ways (take n found) es h.passed in (
      subst (FoundLeft f (get_or ways k 0)) at (free_left f (get_or ways k 0) (get_or (take n found) k Empty) (free k Empty (omega arith)) (all.left k lt)),
      all.without k lt,
    )

pub shown_alone : (f : ℕ → ℕ) (key ways into : List ℕ) (p n : ℕ) (es : List Entry) → length key ≡ 6 → ShownLook key ways p (seen_from 0 (take n into)) es → FoundInTurn f es → LookAlone f key ways into (Shown n)
shown_alone f key ways into p n es six h turn = let b = h.begins in let rs : List Read = seen_from 0 (take n into) in
    let whole : es ≡ (b.before ++ Knock p b.w ∷ reads_of p rs) ++ Leave p h.w true ∷ [] = h.entries ∙ ap (λ (l : List Entry). l ++ Leave p h.w true ∷ []) b.entries in
    let outer = turn_append f (b.before ++ Knock p b.w ∷ reads_of p rs) (Leave p h.w true ∷ []) (subst (FoundInTurn f) whole turn) in
    let inner = turn_append f b.before (Knock p b.w ∷ reads_of p rs) outer.0 in
    let all = all_passing f key (take b.k ways) b.found b.before six b.passed inner.0 in
    let there = subst (λ (g : ℕ → ℕ). FoundInTurn g (Knock p b.w ∷ reads_of p rs)) all.still inner.1 in
    let read = λ (k : ℕ) (d : Read) (lt : k < length rs). reads_find (after 0 f (Knock p b.w)) p rs there.1 k d lt ∙ knock_keeps f p b.w (get_or rs k d).index in
    let mine = key_left f p b.w rs key there.0 b.shown b.told read in
    let len = length-take-le b.k ways (omega (arith, b.within)) in (
      b.k,
      b.within,
      subst (λ (q : ℕ). KeyLeft f q key) (sym b.at) mine,
      subst (λ (q : ℕ). CodeLeft f q (take n into)) (sym b.at) (λ k lt.
          let at = seen_at 0 (take n into) k (one 0 0) lt in
          let is : get_or (take n into) k 0 ≡ f (word_index p (0 + k)) = subst (λ (r : Read). r.word ≡ f (word_index p r.index)) at (read k (one 0 0) (let e = seen_length 0 (take n into) in omega arith)) in
          ap (λ (z : ℕ). f (word_index p z)) (let e : k ≡ 0 + k = omega arith in e) ∙ sym is),
      λ j lt. subst (λ (q : ℕ). ¬ KeyLeft f q key) (get_or-take b.k ways j 0 lt) (all.without j (omega arith)),
    )
