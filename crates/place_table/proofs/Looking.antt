-- What the parts of a look add to a log.
use Rattle.std.proofs.Common.{◌≡◌, ◌≢◌, ℕ, zero, suc, ◌+◌, ◌<◌, ◌≤◌, List, [], ◌∷◌, ◌++◌, length, get_or, set, take, drop, sym, refl, ap, ◌∙◌, subst, arith, append_assoc}
use Rattle.std.specs.Prelude.{false}
use Rattle.std.proofs.lemmas.List.{append-nil, take_more_set, get_or-take, get_or-drop, ext_get_or, length-drop, length-take-le}
use Rattle.std.proofs.lemmas.List.Elements.{Contains-append_left}
use Rattle.place_words.specs.Places.{state_of}
use Rattle.place_words.specs.Modes.{seen_of}
use Rattle.place_words.specs.Steps.{left}
use Rattle.place_words.specs.declared.view.Read.{Read}
use Rattle.place_words.specs.declared.view.View.{View}
use Rattle.place_words.specs.declared.view.Mode.{Mode}
use Rattle.place_words.specs.declared.view.Mode.TheVariants.{Idle, Reading}
use Rattle.place_words.specs.declared.view.Entry.{Entry}
use Rattle.place_words.specs.declared.view.Entry.TheVariants.{Knock, Leave}
use Rattle.place_table.specs.declared.answers.Found.{Found}
use Rattle.place_table.specs.declared.answers.Found.TheVariants.{Other, Empty}
use Rattle.place_table.specs.Entries.{reads_of, seen_from, reading, logged}
use Rattle.place_table.specs.Looks.{Tells, Passed, AllPassed, Begun}
use Rattle.place_table.specs.Ways.{first_ways, way_at, ways, way_count}
use Rattle.place_table.specs.Entries.{holds}
use Rattle.place_table.specs.Looks.{AbsentLook, key_in}
use Rattle.place_table.proofs.Order.{ways_at, ways_length, ways_next, ways_take}
use Rattle.place_table.proofs.Runs.{one, reads_append}

pub seen_length : (i : ℕ) (xs : List ℕ) → length (seen_from i xs) ≡ length xs
seen_length i [] = refl
seen_length i (x ∷ xs) = let e = seen_length (i + 1) xs in omega arith

pub seen_at : (i : ℕ) (xs : List ℕ) (k : ℕ) (d : Read) → k < length xs → get_or (seen_from i xs) k d ≡ one (i + k) (get_or xs k 0)
seen_at i [] k d lt = absurd (omega arith)
seen_at i (x ∷ xs) zero d lt = ap (λ (z : ℕ). one z x) (let e : i ≡ i + 0 = omega arith in e)
seen_at i (x ∷ xs) (suc k) d lt = seen_at (i + 1) xs k d (omega arith) ∙ ap (λ (z : ℕ). one z (get_or xs k 0)) (let e : i + 1 + k ≡ i + suc k = omega arith in e)

pub tells : (xs key : List ℕ) → length xs ≡ 7 → length key ≡ 6 → ((k : ℕ) → k < 6 → get_or key k 0 ≡ get_or xs (k + 1) 0) → Tells (seen_from 0 xs) key
tells xs key seven six same = (
  six,
  λ k lt. (
    k + 1,
    omega (arith, seen_length 0 xs),
    seen_at 0 xs (k + 1) (one (k + 1) (get_or key k 0)) (omega arith)
        ∙ (λ i. one ((let e : 0 + (k + 1) ≡ k + 1 = omega arith in e) i) (sym (same k lt) i)),
  ),
)

-- a longer run in the log
pub more_log : {T : Type 0} (v : View T) (a b : List Entry) → logged (logged v a) b ≡ logged v (a ++ b)
more_log {T} v a b = ap (λ (l : List Entry). record v { mode = Idle; log = l }) (append_assoc v.log a b)

-- after reads and a leave
pub left_reading : {T : Type 0} (v : View T) (p w : ℕ) (rs : List Read) → left (reading v p rs) p w false ≡ logged v (reads_of p rs ++ Leave p w false ∷ [])
left_reading {T} v p w rs = ap (λ (l : List Entry). record v { mode = Idle; log = l }) (append_assoc v.log (reads_of p rs) (Leave p w false ∷ []))

pub hold_more : {T : Type 0} (v : View T) (p : ℕ) (a b : List Entry) (rs : List Read) → holds (logged v a) p b rs ≡ holds v p (a ++ b) rs
hold_more {T} v p a b rs = ap (λ (l : List Entry). record v { mode = Reading p rs; log = l }) (append_assoc v.log a b)

pub passed_more : (key ps : List ℕ) (fs : List Found) (es : List Entry) (p : ℕ) (f : Found) (b : List Entry) → AllPassed key ps fs es → Passed key p f b → AllPassed key (ps ++ p ∷ []) (fs ++ f ∷ []) (es ++ b)
passed_more key [] [] es p f b h x = (b, [], x, refl, ap (λ (l : List Entry). l ++ b) h ∙ sym (append-nil b))
passed_more key (q ∷ ps) (g ∷ fs) es p f b h x = (h.0, h.1 ++ b, h.2, passed_more key ps fs h.1 p f b h.3 x, ap (λ (l : List Entry). l ++ b) h.4 ∙ append_assoc h.0 h.1 b)
passed_more key [] (g ∷ fs) es p f b h x = absurd h
passed_more key (q ∷ ps) [] es p f b h x = absurd h

-- all that was seen, where nothing was seen before
pub read_first : {T : Type 0} (v : View T) (p : ℕ) (rs : List Read) → v.mode ≡ Reading p [] → reading v p rs ≡ holds v p (reads_of p rs) rs
read_first {T} v p rs is = ap (λ (m : Mode). record v { mode = Reading p (seen_of m ++ rs); log = v.log ++ reads_of p rs }) is

abbrev pub six : List ℕ → List ℕ
six xs = get_or xs 1 0 ∷ get_or xs 2 0 ∷ get_or xs 3 0 ∷ get_or xs 4 0 ∷ get_or xs 5 0 ∷ get_or xs 6 0 ∷ []

six_at : (xs : List ℕ) (k : ℕ) → k < 6 → get_or (get_or xs 1 0 ∷ get_or xs 2 0 ∷ get_or xs 3 0 ∷ get_or xs 4 0 ∷ get_or xs 5 0 ∷ get_or xs 6 0 ∷ []) k 0 ≡ get_or xs (k + 1) 0
six_at xs zero lt = refl
six_at xs (suc zero) lt = refl
six_at xs (suc (suc zero)) lt = refl
six_at xs (suc (suc (suc zero))) lt = refl
six_at xs (suc (suc (suc (suc zero)))) lt = refl
six_at xs (suc (suc (suc (suc (suc zero))))) lt = refl
six_at xs (suc (suc (suc (suc (suc (suc k)))))) lt = absurd (omega arith)

pub six_same : (xs : List ℕ) (k : ℕ) → k < 6 → get_or (get_or xs 1 0 ∷ get_or xs 2 0 ∷ get_or xs 3 0 ∷ get_or xs 4 0 ∷ get_or xs 5 0 ∷ get_or xs 6 0 ∷ []) k 0 ≡ get_or (take 7 xs) (k + 1) 0
six_same xs k lt = six_at xs k lt ∙ sym (get_or-take 7 xs (k + 1) 0 (omega arith))

pub passed_other : (key xs other : List ℕ) (p w' : ℕ) → length xs ≡ 7 → length other ≡ 6 → ((k : ℕ) → k < 6 → get_or other k 0 ≡ get_or xs (k + 1) 0) → other ≢ key
    → (w : ℕ) → state_of w ≡ 1 → Passed key p (Other other) (Knock p w ∷ (reads_of p (seen_from 0 xs) ++ Leave p w' false ∷ []))
passed_other key xs other p w' seven six same ne w is = (w, w', seen_from 0 xs, is, tells xs other seven six same, ne, refl)

pub begun : (key : List ℕ) (n i p : ℕ) (found : List Found) (before : List Entry) (w : ℕ) (rs : List Read) → i < way_count n → p ≡ way_at key n i → AllPassed key (first_ways key n i) (take i found) before
    → state_of w ≡ 1 → Tells rs key → Begun key (ways key n) p rs (before ++ Knock p w ∷ reads_of p rs)
begun key n i p found before w rs lt is passed shown told = record {
  k = i;
  found = take i found;
  before = before;
  w = w;
  within = let e = ways_length key n (way_count n) in omega arith;
  at = ways_at key n (way_count n) i lt ∙ sym is;
  passed = subst (λ (ps : List ℕ). AllPassed key ps (take i found) before) (sym (ways_take key n (way_count n) i (omega arith))) passed;
  shown = shown;
  told = told;
  entries = refl;
}

pub absent : (key : List ℕ) (n i count : ℕ) (found : List Found) (es : List Entry) → count ≡ way_count n → i ≡ count → AllPassed key (first_ways key n i) (take i found) es
    → ((k : ℕ) → i ≤ k → k < 4 → get_or found k Empty ≡ Empty) → AbsentLook key (ways key n) found count es
absent key n i count found es is end passed past = record {
  count = is ∙ sym (ways_length key n (way_count n));
  passed = subst (λ (z : ℕ × ℕ). AllPassed key (first_ways key n z.0) (take z.1 found) es) (let a : i ≡ way_count n = end ∙ is in λ j. (a j, end j)) passed;
  past = λ k low high. past k (omega arith) high;
}

pub passed_next : (key : List ℕ) (n i p : ℕ) (found : List Found) (f : Found) (es b : List Entry) → i < length found → p ≡ way_at key n i → AllPassed key (first_ways key n i) (take i found) es → Passed key p f b
    → AllPassed key (first_ways key n (i + 1)) (take (i + 1) (set found i f)) (es ++ b)
passed_next key n i p found f es b lt is passed one_more =
    let a = sym (ways_next key n i p is) in
    let c : take i found ++ f ∷ [] ≡ take (i + 1) (set found i f) = sym (take_more_set found i f lt) in
    subst (λ (z : List ℕ × List Found). AllPassed key z.0 z.1 (es ++ b)) (λ j. (a j, c j)) (passed_more key (first_ways key n i) (take i found) es p f b passed one_more)

-- the words of a list that tells a key
pub key_told : (xs key : List ℕ) → Tells (seen_from 0 xs) key → 7 ≤ length xs → key_in xs ≡ key
key_told xs key told long = ext_get_or 0 (key_in xs) key (let a = length-drop 1 xs in let b = length-take-le 6 (drop 1 xs) (omega arith) in b ∙ sym told.0)
    (λ k lt. let six : k < 6 = (let b = length-take-le 6 (drop 1 xs) (let a = length-drop 1 xs in omega arith) in omega arith) in
    let t = told.1 k six in let at : ℕ = t.0 in
    let here : get_or (seen_from 0 xs) at (one (k + 1) (get_or key k 0)) ≡ one (0 + at) (get_or xs at 0) = seen_at 0 xs at (one (k + 1) (get_or key k 0)) (let e = seen_length 0 xs in omega (arith, t.1)) in
    let both : one (k + 1) (get_or key k 0) ≡ one (0 + at) (get_or xs at 0) = sym t.2 ∙ here in
    let index : k + 1 ≡ 0 + at = ap (λ (r : Read). r.index) both in
    get_or-take 6 (drop 1 xs) k 0 six ∙ get_or-drop 1 xs k 0 ∙ ap (λ (z : ℕ). get_or xs z 0) (let e : 1 + k ≡ at = omega arith in e) ∙ sym (ap (λ (r : Read). r.word) both))

-- more is read
pub begun_more : (key ways : List ℕ) (p : ℕ) (rs ss : List Read) (es : List Entry) → Begun key ways p rs es → Begun key ways p (rs ++ ss) (es ++ reads_of p ss)
begun_more key ways p rs ss es b = record {
  k = b.k;
  found = b.found;
  before = b.before;
  w = b.w;
  within = b.within;
  at = b.at;
  passed = b.passed;
  shown = b.shown;
  told = (b.told.0, λ k lt. Contains-append_left rs ss (one (k + 1) (get_or key k 0)) (b.told.1 k lt));
  entries = ap (λ (l : List Entry). l ++ reads_of p ss) b.entries ∙ append_assoc b.before (Knock p b.w ∷ reads_of p rs) (reads_of p ss)
      ∙ ap (λ (l : List Entry). b.before ++ Knock p b.w ∷ l) (sym (reads_append p rs ss));
}

-- reads and a leave, where the place was held
pub left_there : {T : Type 0} (v : View T) (p : ℕ) (a b d : List Entry) (rs : List Read) → logged (holds v p a rs) (b ++ d) ≡ logged v ((a ++ b) ++ d)
left_there {T} v p a b d rs = ap (λ (l : List Entry). record v { mode = Idle; log = l }) (append_assoc v.log a (b ++ d) ∙ ap (λ (l : List Entry). v.log ++ l) (sym (append_assoc a b d)))
