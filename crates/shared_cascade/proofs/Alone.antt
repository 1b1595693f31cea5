-- Where one seat was opened, the table is empty at first, and later holds what that seat left there. So its first look finds nothing.
use Rattle.std.specs.Prelude.{◌≡◌, ◌≢◌, ◌<◌, ℕ, ◌+◌, ◌-◌, List, [], ◌∷◌, ◌++◌, Bool, true, false, Option, Some, None, if◌then◌else◌, take}
use Rattle.std.proofs.Common.{refl, sym, ◌∙◌, ap, subst, arith, append_assoc, inl, inr, eq-eqb, eqb, ne_eqb}
use mathlib.Core.Logic.{dite}
use native.Mathlib.Decide.{ℕ_discrete}
use Rattle.place_words.specs.declared.view.Entry.{Entry}
use Rattle.place_words.specs.declared.view.Entry.TheVariants.{Knock, Leave, Empty}
use Rattle.place_words.specs.declared.view.Mode.TheVariants.{Idle}
use Rattle.place_words.specs.declared.view.Read.{Read}
use Rattle.place_words.specs.Places.{state_index, state_of}
use Rattle.place_words.specs.Seats.{view_of}
use Rattle.place_words.specs.Steps.{after}
use Rattle.place_words.proofs.Histories.{skip}
use Rattle.place_table.specs.declared.answers.Found.{Found}
use Rattle.place_table.specs.declared.answers.Found.TheVariants.{Other, Claimed, Empty as Nothing}
use Rattle.place_table.specs.Entries.{reads_of}
use Rattle.place_table.specs.Looks.{AllPassed, Passed, ShownLook}
use Rattle.place_table.proofs.Alone.{FoundInTurn, added_in_turn}
use Rattle.state_tuples.specs.Cascades.{Cascaded}
use Rattle.shared_cascade.specs.declared.callers.Caller.{Caller}
use Rattle.shared_cascade.specs.declared.tallies.Outcome.{Outcome}
use Rattle.shared_cascade.specs.declared.tallies.Outcome.TheVariants.{Shown, Published, NoPlace, Wide}
use Rattle.shared_cascade.specs.declared.tallies.Tally.{Tally}
use Rattle.shared_cascade.specs.Callers.{log_of, seats_of}
use Rattle.shared_cascade.specs.Episodes.{Episode, Episodes}
use Rattle.shared_cascade.specs.Since.{AreParts, IsTally, counted}
use Rattle.shared_cascade.specs.Tallies.{no_tally, one_more, with_all, with_outcome}

-- the entries of a lone seat, from words on where no place is shown or claimed and nobody is counted
abbrev FromEmpty : List Entry → Type 0
FromEmpty es = (f : ℕ → ℕ) × ((p : ℕ) → f (state_index p) ≡ 0) × FoundInTurn f es

-- a word where an entry names it
named : (i k a b : ℕ) → i ≡ k → (if eqb i k then a else b) ≡ a
named i k a b same = ap (λ (t : Bool). if t then a else b) (eq-eqb i k same)

-- reads after a knock, and then the leave, which takes back what the knock added
left_again : (f : ℕ → ℕ) (p w : ℕ) (rs : List Read) (rest : List Entry) → f (state_index p) ≡ 1 → ((q : ℕ) → q ≢ p → f (state_index q) ≡ 0)
    → FoundInTurn f ((reads_of p rs ++ Leave p w false ∷ []) ++ rest) → FromEmpty rest
left_again f p w [] rest here there turn = (
  after 0 f (Leave p w false),
  λ q. dite (ℕ_discrete q p)
      (λ same. named (state_index q) (state_index p) (w - 1) (f (state_index q)) (ap state_index same) ∙ (let found : w ≡ f (state_index p) = turn.0 in omega (arith, here)))
      (λ other. skip (state_index q) (state_index p) (w - 1) (f (state_index q)) (λ e. other (omega arith)) ∙ there q other),
  turn.1,
)
left_again f p w (r ∷ rs) rest here there turn = left_again f p w rs rest here there turn.1

visited : (p w w' : ℕ) (rs : List Read) (es rest : List Entry) → es ≡ Knock p w ∷ (reads_of p rs ++ Leave p w' false ∷ []) → FromEmpty (es ++ rest) → FromEmpty rest
visited p w w' rs es rest is h = let (f, empty, turn) = subst (λ l. FromEmpty (l ++ rest)) is h in left_again (after 0 f (Knock p w)) p w' rs rest
    (named (state_index p) (state_index p) (w + 1) (f (state_index p)) refl ∙ (let none = empty p in let found : w ≡ f (state_index p) = turn.0 in omega arith))
    (λ q other. skip (state_index q) (state_index p) (w + 1) (f (state_index q)) (λ e. other (omega arith)) ∙ empty q)
    turn.1

passed : (key : List ℕ) (p : ℕ) (x : Found) (es rest : List Entry) → Passed key p x es → FromEmpty (es ++ rest) → FromEmpty rest
passed key p (Other other) es rest h = visited p h.0 h.1 h.2 es rest h.6
passed key p (Claimed s) es rest h = visited p h.0 h.1 [] es rest h.3
passed key p Nothing es rest h = visited p h.0 h.1 [] es rest h.3

joined : (a b es rest : List Entry) → es ≡ a ++ b → FromEmpty (es ++ rest) → FromEmpty (a ++ (b ++ rest))
joined a b es rest is = subst FromEmpty (ap (λ l. l ++ rest) is ∙ append_assoc a b rest)

all_passed : (key ps : List ℕ) (xs : List Found) (es rest : List Entry) → AllPassed key ps xs es → FromEmpty (es ++ rest) → FromEmpty rest
all_passed key [] [] es rest h = subst (λ l. FromEmpty (l ++ rest)) h
all_passed key (p ∷ ps) (x ∷ xs) es rest h = λ e. all_passed key ps xs h.1 rest h.3 (passed key p x h.0 (h.1 ++ rest) h.2 (joined h.0 h.1 es rest h.4 e))
all_passed key [] (x ∷ xs) es rest h = absurd h
all_passed key (p ∷ ps) [] es rest h = absurd h

-- no look is Shown then
none_shown : (key ways : List ℕ) (p : ℕ) (rs : List Read) (es rest : List Entry) → ShownLook key ways p rs es → FromEmpty (es ++ rest) → ⊥
none_shown key ways p rs es rest h e =
    let b = h.begins in
    let leave = Leave p h.w true ∷ [] in
    let knock = joined b.before (Knock p b.w ∷ reads_of p rs) h.begun (leave ++ rest) b.entries (joined h.begun leave es rest h.entries e) in
    let (f, empty, turn) = all_passed key (take b.k ways) b.found b.before ((Knock p b.w ∷ reads_of p rs) ++ (leave ++ rest)) b.passed knock in
    let none = empty p in let found : b.w ≡ f (state_index p) = turn.0 in let shown : state_of b.w ≡ 1 = b.shown in omega arith

module _ (cs : List Cascaded) (n : ℕ) where
  not_shown : (key : List ℕ) (o : Outcome) (es rest : List Entry) → Episode cs n key o es → FromEmpty (es ++ rest) → o ≢ Shown
  not_shown key Shown es rest h e same = absurd (none_shown key _ h.0 h.1 es rest h.2 e)
  not_shown key Published es rest h e same = absurd (cc)
  not_shown key NoPlace es rest h e same = absurd (cc)
  not_shown key Wide es rest h e same = absurd (cc)

-- an emptying leaves an empty place so
still_none : (b c : Bool) (w : ℕ) → w ≡ 0 → (if b then (if c then 0 else w) else w) ≡ 0
still_none true true w none = refl
still_none true false w none = none
still_none false c w none = none

module _ (cs : List Cascaded) (n : ℕ) where
  first_part : (xs : List (Option Outcome)) (o : Outcome) (os : List Outcome) (es rest : List Entry) → AreParts cs n xs es → counted xs ≡ o ∷ os → FromEmpty (es ++ rest) → o ≢ Shown
  first_part [] o os es rest h is e = absurd (cc)
  first_part (Some x ∷ xs) o os es rest (a, b, (key, inl episode), more, parts) is e = subst (λ y. y ≢ Shown) (let same : x ≡ o = cc in same) (not_shown cs n key x a (b ++ rest) episode (joined a b es rest parts e))
  first_part (Some x ∷ xs) o os es rest (a, b, (key, inr missed), more, parts) is e = λ same. absurd (let wide : x ≡ Wide = missed.0 in cc)
  first_part (None ∷ xs) o os es rest (a, b, (p, w, emptied), more, parts) is e =
      let (f, empty, turn) = subst (λ l. FromEmpty (l ++ (b ++ rest))) emptied (joined a b es rest parts e) in
      first_part xs o os b rest more is (after 0 f (Empty p w), λ q. still_none _ _ (f (state_index q)) (empty q), turn.1)

-- the whole log of a caller that is alone at its table
from_empty : (c : Caller) → seats_of c ≡ 1 → FromEmpty (log_of c)
from_empty c one = (λ _. 0, λ p. refl, added_in_turn (record (view_of c.seat) { log = [] }) (record (view_of c.seat) { mode = Idle }) (log_of c) refl c.seat.in_turn one)

-- Where one seat was opened and its log begins so, the first outcome isn't Shown.
module _ (c : Caller) (one : seats_of c ≡ 1) (cs : List Cascaded) (n : ℕ) where
  pub first_not_shown : (key : List ℕ) (o : Outcome) (es rest : List Entry) → Episode cs n key o es → log_of c ≡ es ++ rest → o ≢ Shown
  first_not_shown key o es rest h is = not_shown cs n key o es rest h (subst FromEmpty is (from_empty c one))

  pub first_of_episodes : (o : Outcome) (os : List Outcome) (es rest : List Entry) → Episodes cs n (o ∷ os) es → log_of c ≡ es ++ rest → o ≢ Shown
  first_of_episodes o os es rest h is = first_not_shown h.0 o h.1 (h.2 ++ rest) h.3 (is ∙ (ap (λ l. l ++ rest) h.5 ∙ append_assoc h.1 h.2 rest))

  -- the same of parts, of which some may be emptyings
  pub first_of_parts : (xs : List (Option Outcome)) (o : Outcome) (os : List Outcome) (es rest : List Entry) → AreParts cs n xs es → counted xs ≡ o ∷ os → log_of c ≡ es ++ rest → o ≢ Shown
  first_of_parts xs o os es rest h first is = first_part cs n xs o os es rest h first (subst FromEmpty is (from_empty c one))

above_none : (n : ℕ) → 0 < one_more n
above_none n = dite (ℕ_discrete n 18446744073709551615)
    (λ e. subst (λ (b : Bool). 0 < (if b then n else n + 1)) (sym (eq-eqb n 18446744073709551615 e)) (omega arith))
    (λ e. subst (λ (b : Bool). 0 < (if b then n else n + 1)) (sym (ne_eqb n 18446744073709551615 e)) (omega arith))

-- a number that is above 0 stays so
still_some : (number : Tally → ℕ) → ((o : Outcome) (t : Tally) → 0 < number t → 0 < number (with_outcome o t)) → (os : List Outcome) (t : Tally) → 0 < number t → 0 < number (with_all os t)
still_some number more [] t some = some
still_some number more (o ∷ os) t some = still_some number more os (with_outcome o t) (more o t some)

absent_more : (o : Outcome) (t : Tally) → 0 < t.absent → 0 < (with_outcome o t).absent
absent_more Shown t some = some
absent_more Published t some = above_none t.absent
absent_more NoPlace t some = above_none t.absent
absent_more Wide t some = above_none t.absent

looks_more : (o : Outcome) (t : Tally) → 0 < (with_outcome o t).looks
looks_more Shown t = above_none t.looks
looks_more Published t = above_none t.looks
looks_more NoPlace t = above_none t.looks
looks_more Wide t = above_none t.looks

first_absent : (o : Outcome) → o ≢ Shown → 0 < (with_outcome o no_tally).absent
first_absent Shown other = absurd (other refl)
first_absent Published other = above_none 0
first_absent NoPlace other = above_none 0
first_absent Wide other = above_none 0

pub absent_counted : (o : Outcome) (os : List Outcome) (t : Tally) → o ≢ Shown → t ≡ with_all (o ∷ os) no_tally → 0 < t.absent
absent_counted o os t other is = subst (λ (u : Tally). 0 < u.absent) (sym is) (still_some (λ u. u.absent) absent_more os (with_outcome o no_tally) (first_absent o other))

looks_counted : (o : Outcome) (os : List Outcome) (t : Tally) → t ≡ with_all (o ∷ os) no_tally → 0 < t.looks
looks_counted o os t is = subst (λ (u : Tally). 0 < u.looks) (sym is) (still_some (λ u. u.looks) (λ o u some. looks_more o u) os (with_outcome o no_tally) (looks_more o no_tally))

-- where no look was counted there was none
pub none_looked : (cs : List Cascaded) (n : ℕ) (os : List Outcome) (es : List Entry) (t : Tally) → Episodes cs n os es → t ≡ with_all os no_tally → t.looks ≡ 0 → es ≡ []
none_looked cs n [] es t h is none = h
none_looked cs n (o ∷ os) es t h is none = absurd (let some = looks_counted o os t is in omega arith)

-- where looks were counted, and the first outcome isn't Shown, one was absent
some_absent : (os : List Outcome) (t : Tally) → ((o : Outcome) (ps : List Outcome) → os ≡ o ∷ ps → o ≢ Shown) → t ≡ with_all os no_tally → 0 < t.looks → 0 < t.absent
some_absent [] t first is some = absurd (let none : t.looks ≡ 0 = ap (λ (u : Tally). u.looks) is in omega arith)
some_absent (o ∷ os) t first is some = absent_counted o os t (first o os refl) is

-- So it is of a tally of the first that a lone caller has done.
module _ (c : Caller) (one : seats_of c ≡ 1) (cs : List Cascaded) (n : ℕ) where
  pub looked_first : (os : List Outcome) (es rest : List Entry) (t : Tally) → Episodes cs n os es → t ≡ with_all os no_tally → log_of c ≡ es ++ rest → 0 < t.looks → 0 < t.absent
  looked_first os es rest t h is log = some_absent os t (λ o ps same. first_of_episodes c one cs n o ps es rest (subst (λ l. Episodes cs n l es) same h) log) is

  pub tallied_first : (es rest : List Entry) (t : Tally) → IsTally cs n es t → log_of c ≡ es ++ rest → 0 < t.looks → 0 < t.absent
  tallied_first es rest t h log = some_absent (counted h.parts) t (λ o ps same. first_of_parts c one cs n h.parts o ps es rest h.are same log) h.tally
