-- From what a line call did to a caller to the part of its log that is counted.
use Rattle.std.proofs.Common.{◌≡◌, ◌≢◌, ◌≤◌, ◌+◌, ◌∙◌, ◌++◌, ℕ, List, Ok, Err, Result, true, false, length, ap, sym, subst, arith}
use Rattle.weighted_relations.specs.Relations.{IsInput, Relation}
use Rattle.normaliser.proofs.Searchings.{did_seat, seat_same, seat_still}
use Rattle.normaliser.proofs.Looking.{classified_input, searched_looks, words_input}
use Rattle.normaliser.specs.Lines.{Answer, IsSaid, IsSearched, Saying}
use Rattle.normaliser.specs.Loads.{classifier_of, verbaliser_of}
use Rattle.normaliser.specs.Searches.{Did, HadMemory, IsCallerOf, KeepsSeat, LooksThrough, LooksWhereRead, Searched}
use Rattle.normaliser.specs.declared.faults.LineFault.{LineFault}
use Rattle.normaliser.specs.declared.faults.LineFault.TheVariants.{NulByte, LongLine, NoPath, NotTokens, TooManyFields, NoWords, Memory}
use Rattle.normaliser.specs.declared.normalisers.Normaliser.{Normaliser}
use Rattle.normaliser.specs.declared.normalisers.Spoken.{Spoken}
use Rattle.shared_cascade.specs.Callers.{IsReady, log_of, seats_of}
use Rattle.shared_cascade.specs.Tallies.{no_tally, with_all}
use Rattle.shared_cascade.specs.declared.callers.Caller.{Caller}
use Rattle.shared_cascade.specs.declared.shared.Shared.{Shared}
use Rattle.shared_cascade.specs.declared.tallies.Tally.{Tally}
use Rattle.speak_core.specs.Parts.{IsPart, answer_in, is_short}
use Rattle.speak_core.specs.Plans.{says_in}
use Rattle.speak_core.specs.declared.requests.Mode.{Mode}
use Rattle.speak_core.specs.declared.requests.Mode.TheVariants.{Classify, Speak}
use Rattle.speak_core.proofs.Untold.{looks_counted}

searched : (s : Shared) (c d : Caller) (r : Result Spoken LineFault) → is_short r ≡ false → Did s c d r → Searched s c d
searched s c d (Ok x) other h = h
searched s c d (Err (NulByte at)) other h = h
searched s c d (Err LongLine) other h = h
searched s c d (Err NoPath) other h = h
searched s c d (Err (NotTokens n)) other h = h
searched s c d (Err (TooManyFields n)) other h = h
searched s c d (Err (NoWords n)) other h = h
searched s c d (Err Memory) other h = absurd (let both : true ≡ false = other in cc)

-- what a line says where memory wasn't wanting
pub heard_said : (P : Saying) (line : List ℕ) (r : Result Spoken LineFault) → is_short r ≡ false → IsSaid P line r → P line (answer_in r)
heard_said P line (Ok x) other h = h
heard_said P line (Err (NulByte at)) other h = h
heard_said P line (Err LongLine) other h = h
heard_said P line (Err NoPath) other h = h
heard_said P line (Err (NotTokens n)) other h = h
heard_said P line (Err (TooManyFields n)) other h = h
heard_said P line (Err (NoWords n)) other h = h
heard_said P line (Err Memory) other h = absurd (let both : true ≡ false = other in cc)

pub said_seat : (n : Normaliser) (c began said : Caller) (r : Result Spoken LineFault) → began.seat ≡ c.seat → Did n.shared began said r → KeepsSeat c said
said_seat n c began said r same did = seat_still c began said (seat_same c began same) (did_seat n.shared began said r did)

-- the tally of a caller was taken (from c to began), a line was said (to said), and the tally was taken again (to d)
pub heard_part : (n : Normaliser) (line : List ℕ) (c began said d : Caller) (r : Result Spoken LineFault) (t : Tally) → log_of began ≡ log_of c → began.tally ≡ no_tally → is_short r ≡ false → Did n.shared began said r
    → ((IsSearched line → ⊥) → said ≡ began) → t ≡ said.tally → log_of d ≡ log_of said → (seats_of c ≡ 1 → t.no_place ≡ 0) → IsPart n line c d t
heard_part n line c began said d r t same anew other did kept is after places =
    let s = searched n.shared began said r other did in
    record {
      outcomes = s.outcomes;
      entries = s.entries;
      episodes = s.episodes;
      log = after ∙ s.log ∙ ap (λ l. l ++ s.entries) same;
      counted = is ∙ s.tally ∙ ap (with_all s.outcomes) anew;
      unsearched = λ h. (let e = kept h in (is ∙ ap (λ (x : Caller). x.tally) e ∙ anew, after ∙ ap log_of e ∙ same));
      places = places;
    }

-- and through all of it the caller kept its seat
pub heard_seat : (n : Normaliser) (c began said d : Caller) (r : Result Spoken LineFault) → began.seat ≡ c.seat → Did n.shared began said r → d.seat ≡ said.seat → KeepsSeat c d
heard_seat n c began said d r same did after = seat_still c said d (said_seat n c began said r same did) (seat_same said d after)

-- so a tally that begins with them counts at least these
looks_told : (s : Shared) (c d : Caller) (line : List ℕ) (t : Tally) → IsReady s c → c.tally ≡ no_tally → Searched s c d → LooksThrough s c d line → t ≡ d.tally → IsSearched line → length line + 1 ≤ t.looks
looks_told s c d line t ready anew h looks is searches =
    let many = searched_looks s c d ready.whole h in
    let short = searches.short in
    let counted : t ≡ with_all h.outcomes no_tally = is ∙ h.tally ∙ ap (with_all h.outcomes) anew in
    subst (λ u. length line + 1 ≤ u.looks) (sym counted) (looks_counted h.outcomes no_tally (length line + 1) (omega (arith, short)) (omega (arith, many, looks)))

says_input : (mode : Mode) (C V : Relation) (line : List ℕ) (a : Answer) → says_in mode C V line a → IsSearched line → a ≢ Err NoPath → IsInput C line
says_input Classify C V line a h searches path = classified_input C line a h searches path
says_input Speak C V line a h searches path = words_input C V line a h searches path

-- where it has a path, the tally tells of a look for each of its bytes and one more
pub heard_looked : (n : Normaliser) (mode : Mode) (line : List ℕ) (began said : Caller) (r : Result Spoken LineFault) (t : Tally) → IsCallerOf n began → began.tally ≡ no_tally → is_short r ≡ false → IsSaid (says_in mode (classifier_of n) (verbaliser_of n)) line r
    → Did n.shared began said r → LooksWhereRead n began said line r → t ≡ said.tally → IsSearched line → answer_in r ≢ Err NoPath → length line + 1 ≤ t.looks
heard_looked n mode line began said r t ready anew other says did looks is searches path =
    looks_told n.shared began said line t ready anew (searched n.shared began said r other did)
    (looks searches (says_input mode (classifier_of n) (verbaliser_of n) line (answer_in r) (heard_said (says_in mode (classifier_of n) (verbaliser_of n)) line r other says) searches path) (had r other)) is searches
  where
    had : (r : Result Spoken LineFault) → is_short r ≡ false → HadMemory r
    had (Ok x) other = tt
    had (Err (NulByte at)) other = tt
    had (Err LongLine) other = tt
    had (Err NoPath) other = tt
    had (Err (NotTokens n)) other = tt
    had (Err (TooManyFields n)) other = tt
    had (Err (NoWords n)) other = tt
    had (Err Memory) other = (let both : true ≡ false = other in cc)
