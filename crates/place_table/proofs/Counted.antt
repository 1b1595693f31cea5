-- How many words a look reads.
use Rattle.std.proofs.Common.{◌≡◌, ℕ, suc, ◌+◌, ◌*◌, ◌<◌, ◌≤◌, List, [], ◌∷◌, ◌++◌, length, take, sym, refl, ap, ◌∙◌, subst, arith, Bool, true, false, if◌then◌else◌, ltb}
use Rattle.std.proofs.lemmas.Bool.{ltb-true}
use Rattle.std.proofs.lemmas.List.{append-nil, length-take-le}
use Rattle.place_words.specs.declared.view.Read.{Read}
use Rattle.place_words.specs.declared.view.Entry.{Entry}
use Rattle.place_words.specs.declared.view.Entry.TheVariants.{Knock, Leave, Read as ReadWord, TakeEmpty, TakeShown, Write, Show, Empty as Emptied}
use Rattle.place_table.specs.declared.answers.Found.{Found}
use Rattle.place_table.specs.declared.answers.Found.TheVariants.{Other, Claimed, Empty}
use Rattle.place_table.specs.Entries.{FewReads, read_run, reads_in, reads_of}
use Rattle.place_table.specs.Looks.{AllPassed, Begun, Passed}
use Rattle.place_table.specs.Parts.{AreFew}
use Rattle.place_table.specs.Ways.{way_count, ways}
use Rattle.place_table.proofs.Order.{ways_length}

pub few_append : (n m : ℕ) (a b : List Entry) → FewReads n m a → ((k : ℕ) → FewReads n k b) → FewReads n m (a ++ b)
few_append n m [] b h more = more m
few_append n m (e ∷ a) b h more = (h.0, few_append n (read_run m e) a b h.1 more)

pub few_reads : (n m p : ℕ) (rs : List Read) (rest : List Entry) → m + length rs ≤ n → ((k : ℕ) → FewReads n k rest) → FewReads n m (reads_of p rs ++ rest)
few_reads n m p [] rest few more = more m
few_reads n m p (r ∷ rs) rest few more = (omega arith, few_reads n (suc m) p rs rest (omega arith) more)

-- a way on which seven words are read at most
pub few_on_way : (p w w' : ℕ) (rs : List Read) → length rs ≤ 7 → AreFew (Knock p w ∷ (reads_of p rs ++ Leave p w' false ∷ []))
few_on_way p w w' rs few m = (omega arith, few_reads 7 0 p rs (Leave p w' false ∷ []) (omega arith) (λ k. (omega arith, tt)))

-- and where the seat stays
pub few_begun : (es : List Entry) (p w : ℕ) (rs : List Read) → AreFew es → length rs ≤ 7 → FewReads 7 0 (es ++ Knock p w ∷ reads_of p rs)
few_begun es p w rs before few = few_append 7 0 es (Knock p w ∷ reads_of p rs) (before 0) (λ k. (omega arith, subst (FewReads 7 0) (append-nil (reads_of p rs)) (few_reads 7 0 p rs [] (omega arith) (λ j. tt))))

pub few_both : (a b : List Entry) → AreFew a → AreFew b → AreFew (a ++ b)
few_both a b f g m = few_append 7 m a b (f m) g

few_split : (n m : ℕ) (a b : List Entry) → FewReads n m (a ++ b) → FewReads n m a × ((k : ℕ) × FewReads n k b)
few_split n m [] b h = (tt, (m, h))
few_split n m (e ∷ a) b h = let s = few_split n (read_run m e) a b h.1 in ((h.0, s.0), s.1)

-- how many words are read in one part and in another
pub reads_append : (a b : List Entry) → reads_in (a ++ b) ≡ reads_in a + reads_in b
reads_append [] b = (let e : reads_in b ≡ 0 + reads_in b = omega arith in e)
reads_append (ReadWord p i w ∷ a) b = (let e = reads_append a b in omega arith)
reads_append (Knock p w ∷ a) b = reads_append a b
reads_append (Leave p w hit ∷ a) b = reads_append a b
reads_append (TakeEmpty p w ∷ a) b = reads_append a b
reads_append (TakeShown p w ∷ a) b = reads_append a b
reads_append (Write p i w ∷ a) b = reads_append a b
reads_append (Show p w ∷ a) b = reads_append a b
reads_append (Emptied p w ∷ a) b = reads_append a b

pub reads_counted : (p : ℕ) (rs : List Read) → reads_in (reads_of p rs) ≡ length rs
reads_counted p [] = refl
reads_counted p (r ∷ rs) = (let e = reads_counted p rs in omega arith)

at_most : (n m p : ℕ) (rs : List Read) (rest : List Entry) → m ≤ n → FewReads n m (reads_of p rs ++ rest) → m + length rs ≤ n
at_most n m p [] rest low h = omega arith
at_most n m p (r ∷ rs) rest low h = (let e = at_most n (suc m) p rs rest h.0 h.1 in omega arith)

on_way : (m : ℕ) (key : List ℕ) (p : ℕ) (f : Found) (es : List Entry) → Passed key p f es → FewReads 7 m es → reads_in es ≤ 7
on_way m key p (Other other) es h few =
    let t = (subst (FewReads 7 m) h.6 few).1 in
    let bound = at_most 7 0 p h.2 (Leave p h.1 false ∷ []) (omega arith) t in
    let all = reads_append (reads_of p h.2) (Leave p h.1 false ∷ []) in
    let own = reads_counted p h.2 in
    subst (λ l. reads_in l ≤ 7) (sym h.6) (omega arith)
on_way m key p (Claimed s) es h few = subst (λ l. reads_in l ≤ 7) (sym h.3) (omega arith)
on_way m key p Empty es h few = subst (λ l. reads_in l ≤ 7) (sym h.3) (omega arith)

on_ways : (m : ℕ) (key ps : List ℕ) (fs : List Found) (es : List Entry) → AllPassed key ps fs es → FewReads 7 m es → reads_in es ≤ 7 * length ps
on_ways m key [] [] es h few = subst (λ l. reads_in l ≤ 0) (sym h) (omega arith)
on_ways m key (p ∷ ps) (f ∷ fs) es h few =
    let s = few_split 7 m h.0 h.1 (subst (FewReads 7 m) h.4 few) in
    let first = on_way m key p f h.0 h.2 s.0 in
    let others = on_ways s.1.0 key ps fs h.1 h.3 s.1.1 in
    let both = reads_append h.0 h.1 in
    subst (λ l. reads_in l ≤ 7 * suc (length ps)) (sym h.4) (omega arith)
on_ways m key [] (f ∷ fs) es h few = absurd h
on_ways m key (p ∷ ps) [] es h few = absurd h

four_at_most : (b : Bool) (n : ℕ) → ltb n 4 ≡ b → (if b then n else 4) ≤ 4
four_at_most true n e = (let l = ltb-true n 4 e in omega arith)
four_at_most false n e = omega arith

-- until it stays at a place, a look has read 28 words at most
pub begun_reads : (key : List ℕ) (n p : ℕ) (rs : List Read) (es : List Entry) → Begun key (ways key n) p rs es → FewReads 7 0 es → reads_in es ≤ 28
begun_reads key n p rs es b few =
    let s = few_split 7 0 b.before (Knock p b.w ∷ reads_of p rs) (subst (FewReads 7 0) b.entries few) in
    let before = on_ways 0 key (take b.k (ways key n)) b.found b.before b.passed s.0 in
    let taken = length-take-le b.k (ways key n) (let l = b.within in omega arith) in
    let here = at_most 7 0 p rs [] (omega arith) (subst (FewReads 7 0) (sym (append-nil (reads_of p rs))) s.1.1.1) in
    let both = reads_append b.before (Knock p b.w ∷ reads_of p rs) in
    let own = reads_counted p rs in
    let count = ways_length key n (way_count n) in
    let four = four_at_most (ltb n 4) n refl in
    let within = b.within in
    subst (λ l. reads_in l ≤ 28) (sym b.entries) (omega arith)
