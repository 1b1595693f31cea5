-- The looks of a log that grows by looks and publishings.
use Rattle.std.specs.Prelude.{◌≡◌, ◌<◌, ℕ, suc, ◌+◌, List, [], ◌∷◌, ◌++◌, true, false, cond, length, nat_eq, take}
use Rattle.std.proofs.Common.{refl, sym, subst, arith, eq-eqb, inl, inr}
use Rattle.std.proofs.lemmas.Bool.{ne_eqb}
use Rattle.std.proofs.lemmas.List.{length-take-le}
use Rattle.place_words.specs.declared.view.Entry.{Entry}
use Rattle.place_words.specs.declared.view.Entry.TheVariants.{Leave, Show}
use Rattle.place_words.specs.declared.view.Read.{Read}
use Rattle.place_table.specs.declared.answers.Found.{Found}
use Rattle.place_table.specs.declared.answers.Found.TheVariants.{Other, Claimed, Empty}
use Rattle.place_table.specs.declared.answers.Refusal.{Refusal}
use Rattle.place_table.specs.declared.answers.Publish.{Publish}
use Rattle.place_table.specs.declared.answers.Publish.TheVariants.{Published, NoPlace}
use Rattle.place_table.specs.Entries.{fills, reads_of, writes_from}
use Rattle.place_table.specs.Looks.{AllPassed, Passed, ShownLook}
use Rattle.place_table.specs.Publishings.{AllRefused, IsPublish, IsSecond, Refused, TwoRounds, tries_of}
use Rattle.shared_cascade.specs.Counts.{all_ended, all_left, ended_by, left_after}

-- what a run of entries does: after it m' ways of a look were left, and k looks ended
pub record Runs (n m : ℕ) (es : List Entry) (m' k : ℕ) : Type 0 where
  pub left : all_left n m es ≡ m'
  pub ended : all_ended n m es ≡ k

pub joined : (n m : ℕ) (a b : List Entry) {m' k m'' l : ℕ} → Runs n m a m' k → Runs n m' b m'' l → Runs n m (a ++ b) m'' (k + l)
joined n m a b {m'} {k} {m''} {l} f g = record { left = lefts m a m' f.left g.left; ended = ends m a m' k f.left f.ended g.ended }
  where
    lefts : (m : ℕ) (a : List Entry) (m' : ℕ) → all_left n m a ≡ m' → all_left n m' b ≡ m'' → all_left n m (a ++ b) ≡ m''
    lefts m [] m' e g = subst (λ i. all_left n i b ≡ m'') (sym e) g
    lefts m (x ∷ a) m' e g = lefts (left_after n m x) a m' e g

    ends : (m : ℕ) (a : List Entry) (m' k : ℕ) → all_left n m a ≡ m' → all_ended n m a ≡ k → all_ended n m' b ≡ l → all_ended n m (a ++ b) ≡ k + l
    ends m [] m' k e f g = subst (λ i. all_ended n i b ≡ k + l) (sym e) (let h : k ≡ 0 = sym f in omega arith)
    ends m (x ∷ a) m' k e f g =
        let more = ends (left_after n m x) a m' (all_ended n (left_after n m x) a) e refl g in
        omega (arith, more, f)

-- in the first no look ended
after_none : (n m : ℕ) (a b : List Entry) {m' m'' l : ℕ} → Runs n m a m' 0 → Runs n m' b m'' l → Runs n m (a ++ b) m'' l
after_none n m a b {m'} {m''} {l} f g = subst (λ j. Runs n m (a ++ b) m'' j) (let e : 0 + l ≡ l = omega arith in e) (joined n m a b f g)

-- an entry that is no leave
quiet : (n m : ℕ) (e : Entry) (es : List Entry) {m' k : ℕ} → left_after n m e ≡ m → ended_by n m e ≡ 0 → Runs n m es m' k → Runs n m (e ∷ es) m' k
quiet n m e es {m'} {k} l z r = record {
  left = subst (λ i. all_left n i es ≡ m') (sym l) r.left;
  ended = (let h : all_ended n (left_after n m e) es ≡ k = subst (λ i. all_ended n i es ≡ k) (sym l) r.ended in omega (arith, z, h));
}

nothing : (n m : ℕ) → Runs n m [] m 0
nothing n m = record { left = refl; ended = refl }

reads : (n m p : ℕ) (rs : List Read) → Runs n m (reads_of p rs) m 0
reads n m p [] = nothing n m
reads n m p (r ∷ rs) = quiet n m _ _ refl refl (reads n m p rs)

-- a way that was passed
abbrev after_leave : ℕ → ℕ → ℕ
after_leave n m = cond (nat_eq (suc m) n) 0 (suc m)

abbrev looked : ℕ → ℕ → ℕ
looked n m = cond (nat_eq (suc m) n) 1 0

left_way : (n m p w : ℕ) → Runs n m (Leave p w false ∷ []) (after_leave n m) (looked n m)
left_way n m p w = record { left = refl; ended = omega arith }

way_passed : (n m : ℕ) (key : List ℕ) (p : ℕ) (f : Found) (es : List Entry) → Passed key p f es → Runs n m es (after_leave n m) (looked n m)
way_passed n m key p (Other other) es h =
    subst (λ l. Runs n m l (after_leave n m) (looked n m)) (sym h.6)
    (quiet n m _ _ refl refl (after_none n m (reads_of p h.2) _ (reads n m p h.2) (left_way n m p h.1)))
way_passed n m key p (Claimed s) es h = subst (λ l. Runs n m l (after_leave n m) (looked n m)) (sym h.3) (quiet n m _ _ refl refl (left_way n m p h.1))
way_passed n m key p Empty es h = subst (λ l. Runs n m l (after_leave n m) (looked n m)) (sym h.3) (quiet n m _ _ refl refl (left_way n m p h.1))

-- some ways, and not all
some_passed : (n m : ℕ) (key ps : List ℕ) (fs : List Found) (es : List Entry) → AllPassed key ps fs es → m + length ps < n → Runs n m es (m + length ps) 0
some_passed n m key [] [] es h l = subst (λ t. Runs n m t (m + 0) 0) (sym h) (record { left = omega arith; ended = refl })
some_passed n m key [] (f ∷ fs) es h l = absurd h
some_passed n m key (p ∷ ps) [] es h l = absurd h
some_passed n m key (p ∷ ps) (f ∷ fs) es h l =
    let other : nat_eq (suc m) n ≡ false = ne_eqb (suc m) n (λ e. omega arith) in
    let one : Runs n m h.0 (suc m) 0 =
    subst (λ b. Runs n m h.0 (cond b 0 (suc m)) (cond b 1 0)) other (way_passed n m key p f h.0 h.2) in
    let rest : Runs n (suc m) h.1 (suc m + length ps) 0 = some_passed n (suc m) key ps fs h.1 h.3 (omega arith) in
    let e : suc m + length ps ≡ m + suc (length ps) = omega arith in
    subst (λ t. Runs n m t (m + suc (length ps)) 0) (sym h.4) (subst (λ j. Runs n m (h.0 ++ h.1) j 0) e (joined n m h.0 h.1 one rest))

-- all ways that were left of a look
pub all_passed : (n m : ℕ) (key ps : List ℕ) (fs : List Found) (es : List Entry) → AllPassed key ps fs es → 0 < length ps → m + length ps ≡ n → Runs n m es 0 1
all_passed n m key [] fs es h some l = absurd (omega arith)
all_passed n m key (p ∷ ps) [] es h some l = absurd h
all_passed n m key (p ∷ []) (f ∷ []) es h some l =
    let same : nat_eq (suc m) n ≡ true = eq-eqb (suc m) n (omega arith) in
    let one : Runs n m h.0 0 1 = subst (λ b. Runs n m h.0 (cond b 0 (suc m)) (cond b 1 0)) same (way_passed n m key p f h.0 h.2) in
    subst (λ t. Runs n m t 0 1) (sym h.4) (joined n m h.0 h.1 one (subst (λ t. Runs n 0 t 0 0) (sym h.3) (nothing n 0)))
all_passed n m key (p ∷ []) (f ∷ g ∷ fs) es h some l = absurd h.3
all_passed n m key (p ∷ q ∷ ps) (f ∷ fs) es h some l =
    let other : nat_eq (suc m) n ≡ false = ne_eqb (suc m) n (λ e. omega arith) in
    let one : Runs n m h.0 (suc m) 0 = subst (λ b. Runs n m h.0 (cond b 0 (suc m)) (cond b 1 0)) other (way_passed n m key p f h.0 h.2) in
    subst (λ t. Runs n m t 0 1) (sym h.4) (joined n m h.0 h.1 one (all_passed n (suc m) key (q ∷ ps) fs h.1 h.3 (omega arith) (omega arith)))

-- a look that is Shown
pub shown : (n : ℕ) (key ways : List ℕ) (p : ℕ) (rs : List Read) (es : List Entry) → length ways ≡ n → ShownLook key ways p rs es → Runs n 0 es 0 1
shown n key ways p rs es w h =
    let b = h.begins in
    let count : length (take b.k ways) ≡ b.k = length-take-le b.k ways (let l = b.within in omega arith) in
    let before : Runs n 0 b.before b.k 0 =
    subst (λ j. Runs n 0 b.before j 0) (let e : 0 + length (take b.k ways) ≡ b.k = omega arith in e)
    (some_passed n 0 key (take b.k ways) b.found b.before b.passed (let l = b.within in omega arith)) in
    let hit : Runs n b.k (Leave p h.w true ∷ []) 0 1 = record { left = refl; ended = refl } in
    let begun : Runs n 0 h.begun b.k 0 = subst (λ t. Runs n 0 t b.k 0) (sym b.entries) (joined n 0 b.before _ before (quiet n b.k _ _ refl refl (reads n b.k p rs))) in
    subst (λ t. Runs n 0 t 0 1) (sym h.entries) (joined n 0 h.begun _ begun hit)

-- a publishing
pub quiet_tries : (n m : ℕ) (ps ws : List ℕ) → Runs n m (tries_of ps ws) m 0
quiet_tries n m [] ws = nothing n m
quiet_tries n m (p ∷ ps) [] = nothing n m
quiet_tries n m (p ∷ ps) (w ∷ ws) = quiet n m _ _ refl refl (quiet_tries n m ps ws)

quiet_writes : (n m p i : ℕ) (xs : List ℕ) → Runs n m (writes_from p i xs) m 0
quiet_writes n m p i [] = nothing n m
quiet_writes n m p i (x ∷ xs) = quiet n m _ _ refl refl (quiet_writes n m p (i + 1) xs)

quiet_fills : (n m p : ℕ) (code : List ℕ) (w : ℕ) → Runs n m (fills p code w) m 0
quiet_fills n m p code w = joined n m (writes_from p 0 code) _ (quiet_writes n m p 0 code) (quiet n m (Show p w) [] refl refl (nothing n m))

quiet_refused : (n m p w : ℕ) (r : Refusal) (es : List Entry) → Refused p w r es → Runs n m es m 0
quiet_refused n m p w r es (inl h) = subst (λ t. Runs n m t m 0) (sym h.2) (nothing n m)
quiet_refused n m p w r es (inr h) = subst (λ t. Runs n m t m 0) (sym h.1.3) (quiet n m _ [] refl refl (nothing n m))

quiet_refusals : (n m : ℕ) (ps ws : List ℕ) (rs : List Refusal) (es : List Entry) → AllRefused ps ws rs es → Runs n m es m 0
quiet_refusals n m [] [] [] es h = subst (λ t. Runs n m t m 0) (sym h) (nothing n m)
quiet_refusals n m [] [] (r ∷ rs) es h = absurd h
quiet_refusals n m [] (w ∷ ws) rs es h = absurd h
quiet_refusals n m (p ∷ ps) [] rs es h = absurd h
quiet_refusals n m (p ∷ ps) (w ∷ ws) [] es h = absurd h
quiet_refusals n m (p ∷ ps) (w ∷ ws) (r ∷ rs) es h =
    subst (λ t. Runs n m t m 0) (sym h.4) (joined n m h.0 h.1 (quiet_refused n m p w r h.0 h.2) (quiet_refusals n m ps ws rs h.1 h.3))

quiet_second : (n m : ℕ) (code ways words : List ℕ) (answer : Publish) (es : List Entry) → IsSecond code ways words answer es → Runs n m es m 0
quiet_second n m code ways words (Published p) es h =
    subst (λ t. Runs n m t m 0) (sym h.entries) (joined n m h.before _ (quiet_refusals n m (take h.k ways) (take h.k words) h.refusals h.before h.refused) (quiet n m _ _ refl refl (quiet_fills n m p code h.w)))
quiet_second n m code ways words (NoPlace refusals k) es h = quiet_refusals n m ways words (take k refusals) es h.refused

quiet_rounds : (n m : ℕ) (code ways : List ℕ) (answer : Publish) (es : List Entry) → TwoRounds code ways answer es → Runs n m es m 0
quiet_rounds n m code ways answer es h =
    subst (λ t. Runs n m t m 0) (sym h.entries) (joined n m h.first h.second
    (subst (λ t. Runs n m t m 0) (sym h.full.entries) (quiet_tries n m ways h.words))
    (quiet_second n m code ways h.words answer h.second h.again))

pub quiet_publish : (n m : ℕ) (code ways : List ℕ) (answer : Publish) (es : List Entry) → IsPublish code ways answer es → Runs n m es m 0
quiet_publish n m code ways (Published p) es (inl h) =
    subst (λ t. Runs n m t m 0) (sym h.entries) (joined n m h.before _
    (subst (λ t. Runs n m t m 0) (sym h.full.entries) (quiet_tries n m (take h.k ways) h.words))
    (quiet n m _ _ refl refl (quiet_fills n m p code h.w)))
quiet_publish n m code ways (Published p) es (inr h) = quiet_rounds n m code ways (Published p) es h
quiet_publish n m code ways (NoPlace refusals k) es h = quiet_rounds n m code ways (NoPlace refusals k) es h
