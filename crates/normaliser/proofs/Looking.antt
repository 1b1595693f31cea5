-- How many looks a search makes.
use Rattle.std.proofs.Common.{◌≡◌, ◌≢◌, ◌≤◌, ◌+◌, ◌++◌, ◌∷◌, ◌∙◌, ℕ, suc, List, [], Some, Option, None, Ok, Err, Result, IfOk, IfSome, length, arith, refl, subst, sym, ap}
use Rattle.least_path.specs.Counting.{CallsForEach, HasRisen, ReadsAtLeast}
use Rattle.place_table.proofs.Order.{some_way, ways_length}
use Rattle.place_table.specs.Ways.{way_count, ways}
use Rattle.place_table.specs.declared.answers.Publish.TheVariants.{NoPlace as IsNowhere, Published as IsAt}
use Rattle.place_words.specs.declared.view.Entry.{Entry}
use Rattle.shared_cascade.proofs.Counting.{Runs, all_passed, joined, quiet_publish, shown}
use Rattle.shared_cascade.specs.Callers.{cascades_in, log_of, looks_of, places_in}
use Rattle.shared_cascade.specs.Counts.{AreWhole, all_ended, left_after, looks_in}
use Rattle.shared_cascade.specs.Episodes.{Episode, Episodes, Missed}
use Rattle.shared_cascade.specs.declared.tallies.Outcome.{Outcome}
use Rattle.shared_cascade.specs.declared.tallies.Outcome.TheVariants.{NoPlace, Published, Shown, Wide}
use Rattle.state_tuples.specs.Cascades.{Cascaded}
use Rattle.shared_cascade.specs.Hands.{IsStill}
use Rattle.shared_cascade.specs.declared.callers.Caller.{Caller}
use Rattle.shared_cascade.specs.declared.hands.Hand.{Hand}
use Rattle.shared_cascade.specs.declared.shared.Shared.{Shared}
use Rattle.weighted_relations.specs.Machines.{Machine, Reads}
use Rattle.weighted_relations.specs.Relations.{Is, IsInput, Relation, Same}
use Rattle.normaliser.specs.Lines.{Answer, Classified, IsSearched, empty, found, long_line, no_path, nul_byte}
use Rattle.normaliser.specs.Words.{Words}
use Rattle.normaliser.specs.Words as words
use Rattle.normaliser.specs.Parts.{IsOutput, IsUnsearched}
use Rattle.normaliser.specs.Searches.{Did, HadMemory, LooksThrough, Searched}
use Rattle.normaliser.specs.declared.faults.LineFault.{LineFault}
use Rattle.normaliser.specs.declared.faults.LineFault.TheVariants.{NulByte, LongLine, NoPath, NotTokens, TooManyFields, NoWords, Memory}

-- the source of a line reads at least as many labels as the line has bytes
reads_line : (m : Machine) (labels line : List ℕ) → Same (Reads m) (Is labels) → labels ≡ line → ReadsAtLeast m (length line)
reads_line m labels line same is x input = subst (λ y. length line ≤ length y) (sym (((same x input.0 input.1).0 input.2).input ∙ is)) (omega arith)

-- a count that has risen
risen_by : (more a b : ℕ) → HasRisen more (Some a) (Some b) → a + more ≤ b
risen_by more a b h = (let is : b ≡ h.0 = (let some : Some b ≡ Some h.0 = h.1 in cc) in omega (arith, is, h.2))

pub looked_through : (s : Shared) (c d : Caller) (m : Machine) (labels line : List ℕ) → Same (Reads m) (Is labels) → labels ≡ line → CallsForEach m (Some (looks_of s c)) (Some (looks_of s d)) → LooksThrough s c d line
looked_through s c d m labels line same is calls = risen_by (length line + 1) (looks_of s c) (looks_of s d) (calls (length line) (reads_line m labels line same is))

-- the looks of a hand are those of its caller, at the table where it began
pub looked_still : {T E : Type 0} (x y : Hand) (m : Machine) (answer : Result (Option T) E) → IsStill x y
    → IfOk answer (λ o. IfSome o (λ _. CallsForEach m (Some (looks_of x.shared.now x.caller.now)) (Some (looks_of y.shared.now y.caller.now))))
    → IfOk answer (λ o. IfSome o (λ _. CallsForEach m (Some (looks_of x.shared.now x.caller.now)) (Some (looks_of x.shared.now y.caller.now))))
looked_still x y m answer still = subst (λ s. IfOk answer (λ o. IfSome o (λ _. CallsForEach m (Some (looks_of x.shared.now x.caller.now)) (Some (looks_of s y.caller.now))))) still.shared

-- more looks in more of a log
more_ended : (n m : ℕ) (a b : List Entry) → all_ended n m a ≤ all_ended n m (a ++ b)
more_ended n m [] b = omega arith
more_ended n m (e ∷ a) b = (let rest = more_ended n (left_after n m e) a b in omega (arith, rest))

looks_kept : (s : Shared) (c d : Caller) → Searched s c d → looks_of s c ≤ looks_of s d
looks_kept s c d h = subst (λ l. looks_of s c ≤ looks_in (way_count (places_in s)) l) (sym h.log) (more_ended (way_count (places_in s)) 0 (log_of c) h.entries)

pub looked_before : (s : Shared) (c m d : Caller) (line : List ℕ) → LooksThrough s c m line → Searched s m d → LooksThrough s c d line
looked_before s c m d line looks h = (let kept = looks_kept s m d h in omega (arith, looks, kept))

-- a fault other than want of memory ends all searches
pub did_search : (T U : Type 0) (s : Shared) (c d : Caller) (fault : LineFault) → Did s c d {T = T} (Err fault) → HadMemory {T = U} (Err fault) → Searched s c d
did_search T U s c d (NulByte at) h had = h
did_search T U s c d LongLine h had = h
did_search T U s c d NoPath h had = h
did_search T U s c d (NotTokens n) h had = h
did_search T U s c d (TooManyFields n) h had = h
did_search T U s c d (NoWords n) h had = h
did_search T U s c d Memory h had = absurd had

pub not_empty : (line : List ℕ) → length line ≡ 0 → IsSearched line → ⊥
not_empty line none searched = (let some = searched.some in omega (arith, some, none))

pub not_unsearched : (line : List ℕ) (fault : LineFault) → IsUnsearched line fault → IsSearched line → ⊥
not_unsearched line (NulByte at) h searched = searched.no_zero at h.zero
not_unsearched line LongLine h searched = (let short = searched.short in let long = h.1 in omega (arith, short, long))
not_unsearched line NoPath h searched = h
not_unsearched line (NotTokens n) h searched = h
not_unsearched line (TooManyFields n) h searched = h
not_unsearched line (NoWords n) h searched = h
not_unsearched line Memory h searched = h

-- no reading is none
pub not_read : (R : Relation) (line : List ℕ) → IsOutput R (λ x. x ≡ line) None → IsInput R line → ⊥
not_read R line none input = none line input.0 input.1 refl input.2

-- each episode makes a look
module _ (cs : List Cascaded) (n : ℕ) (some : 1 ≤ n) where
  missed_looks : (key : List ℕ) (es : List Entry) → Missed n key es → Runs (way_count n) 0 es 0 1
  missed_looks key es h = all_passed (way_count n) 0 key (ways key n) _ es h.2.passed (some_way key n some) (let count = ways_length key n (way_count n) in omega (arith, count))

  episode_looks : (key : List ℕ) (o : Outcome) (es : List Entry) → Episode cs n key o es → Runs (way_count n) 0 es 0 1
  episode_looks key Shown es h = shown (way_count n) key (ways key n) h.0 h.1 es (ways_length key n (way_count n)) h.2
  episode_looks key Published es h = subst (λ l. Runs (way_count n) 0 l 0 1) (sym h.4) (joined (way_count n) 0 h.0 h.1 (missed_looks key h.0 h.2) (quiet_publish (way_count n) 0 h.3.0 (ways key n) (IsAt h.3.3.0) h.1 h.3.3.1))
  episode_looks key NoPlace es h = subst (λ l. Runs (way_count n) 0 l 0 1) (sym h.4) (joined (way_count n) 0 h.0 h.1 (missed_looks key h.0 h.2) (quiet_publish (way_count n) 0 h.3.0 (ways key n) (IsNowhere h.3.3.0 h.3.3.1) h.1 h.3.3.2))
  episode_looks key Wide es h = missed_looks key es h.0

  episodes_look : (os : List Outcome) (es : List Entry) → Episodes cs n os es → Runs (way_count n) 0 es 0 (length os)
  episodes_look [] es h = subst (λ l. Runs (way_count n) 0 l 0 0) (sym h) (record { left = refl; ended = refl })
  episodes_look (o ∷ os) es h =
      let all = joined (way_count n) 0 h.1 h.2 (episode_looks h.0 o h.1 h.3) (episodes_look os h.2 h.4) in
      subst (λ l. Runs (way_count n) 0 l 0 (suc (length os))) (sym h.5) (subst (Runs (way_count n) 0 (h.1 ++ h.2) 0) (let one : 1 + length os ≡ suc (length os) = omega arith in one) all)

-- what came into the log has as many looks as it came to
pub searched_looks : (s : Shared) (c d : Caller) → AreWhole (way_count (places_in s)) (log_of c) → (h : Searched s c d) → looks_of s d ≡ looks_of s c + length h.outcomes
searched_looks s c d whole h =
    let n = way_count (places_in s) in
    let all = joined n 0 (log_of c) h.entries (record { left = whole; ended = refl }) (episodes_look (cascades_in s) (places_in s) s.table.words.sized.2 h.outcomes h.entries h.episodes) in
    subst (λ l. looks_in n l ≡ looks_of s c + length h.outcomes) (sym h.log) all.ended

-- a line that is searched, and not refused as without a path, has one
pub classified_input : (C : Relation) (line : List ℕ) (a : Answer) → Classified C line a → IsSearched line → a ≢ Err NoPath → IsInput C line
classified_input C line a (empty none) s other = absurd (let some = s.some in let e = ap length none in omega (arith, some, e))
classified_input C line a (nul_byte at z) s other = absurd (s.no_zero at z.zero)
classified_input C line a (long_line z long) s other = absurd (let short = s.short in omega (arith, long, short))
classified_input C line a (no_path again none) s other = absurd (other refl)
classified_input C line a (found y h) s other = let r = h.least.reads in (y, h.weight, subst (λ x. C x y h.weight) r.1 r.2)

-- so it is of what it says
pub words_input : (C V : Relation) (line : List ℕ) (a : Answer) → Words C V line a → IsSearched line → a ≢ Err NoPath → IsInput C line
words_input C V line a (words.empty none) s other = absurd (let some = s.some in let e = ap length none in omega (arith, some, e))
words_input C V line a (words.unclassified fault h) s other = classified_input C line (Err fault) h s other
words_input C V line a (words.not_tokens y n h whole none) s other = classified_input C line (Ok y) (found y h) s (λ e. absurd (let z : Ok y ≡ Err NoPath = e in cc))
words_input C V line a (words.said y tokens answer h text say) s other = classified_input C line (Ok y) (found y h) s (λ e. absurd (let z : Ok y ≡ Err NoPath = e in cc))
