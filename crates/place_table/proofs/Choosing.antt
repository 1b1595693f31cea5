-- Which place a lone seat takes.
use Rattle.std.proofs.Common.{◌≡◌, ◌≢◌, ℕ, zero, suc, ◌<◌, List, [], ◌∷◌, ◌++◌, length, get_or, take, sym, refl, ap, ◌∙◌, subst, arith, ⊎_elim, inl, inr, eqb, Bool, if◌then◌else◌, ne_eqb}
use Rattle.std.specs.Prelude.{All}
use Rattle.std.proofs.lemmas.List.{append-nil, get_or-take, length-take-le}
use Rattle.std.proofs.lemmas.List.Elements.{All-head, All-tail}
use Rattle.place_words.specs.declared.layout.TheConstants.{STATE}
use Rattle.place_words.specs.declared.view.Entry.{Entry}
use Rattle.place_words.specs.declared.view.Entry.TheVariants.{TakeEmpty, TakeShown}
use Rattle.place_words.specs.Places.{claim_of, state_index}
use Rattle.place_words.specs.Steps.{after}
use Rattle.place_words.specs.Alone.{replay}
use Rattle.place_table.specs.declared.answers.Refusal.{Refusal}
use Rattle.place_table.specs.declared.answers.Publish.{Publish}
use Rattle.place_table.specs.declared.answers.Publish.TheVariants.{Published, NoPlace}
use Rattle.place_table.specs.Entries.{fills}
use Rattle.place_table.specs.Publishings.{tries_of, AllRefused, IsSecond, NoneEmpty}
use Rattle.place_table.specs.Alone.{PublishAlone}
use Rattle.place_table.specs.Parts.{IsAtRest}
use Rattle.place_table.proofs.Alone.{turn_append, FoundInTurn}

-- a try that finds no empty place changes no word
untaken : (f : ℕ → ℕ) (p w : ℕ) → w ≢ 0 → after 0 f (TakeEmpty p w) ≡ f
untaken f p w full = λ j i. ap (λ (b : Bool). if b then (if eqb i (state_index p) then claim_of 0 else f i) else f i) (ne_eqb w 0 full) j

-- so tries find what was left at their ways
pub record Tried (f : ℕ → ℕ) (ps ws : List ℕ) : Type 0 where
  pub found : (k : ℕ) → k < length ps → get_or ws k 0 ≡ f (state_index (get_or ps k 0))
  pub still : replay 0 f (tries_of ps ws) ≡ f

first_or : (f : ℕ → ℕ) (p w : ℕ) (ps ws : List ℕ) (k : ℕ) → w ≡ f (state_index p) → ((k : ℕ) → k < length ps → get_or ws k 0 ≡ f (state_index (get_or ps k 0)))
    → k < length (p ∷ ps) → get_or (w ∷ ws) k 0 ≡ f (state_index (get_or (p ∷ ps) k 0))
first_or f p w ps ws zero here there lt = here
first_or f p w ps ws (suc k) here there lt = there k (omega arith)

tried : (f : ℕ → ℕ) (ps ws : List ℕ) → length ws ≡ length ps → All (λ w. w ≢ 0) ws → FoundInTurn f (tries_of ps ws) → Tried f ps ws
tried f [] [] same full turn = record { found = λ k lt. absurd (omega arith); still = refl }
tried f (p ∷ ps) (w ∷ ws) same full turn = let none = untaken f p w (All-head (λ w. w ≢ 0) w ws full) in
    let others = tried f ps ws (omega arith) (All-tail (λ w. w ≢ 0) w ws full) (subst (λ (h : ℕ → ℕ). FoundInTurn h (tries_of ps ws)) none turn.1) in record {
      found = λ k lt. first_or f p w ps ws k turn.0 others.found lt;
      still = ap (λ (h : ℕ → ℕ). replay 0 h (tries_of ps ws)) none ∙ others.still;
    }
tried f [] (w ∷ ws) same full turn = absurd (omega arith)
tried f (p ∷ ps) [] same full turn = absurd (omega arith)

resting : (w : ℕ) → w ≢ 0 → IsAtRest w → w ≡ STATE
resting w full rest = ⊎_elim (λ e. absurd (full e)) (λ e. e) rest

-- the words that were left at ways of which none is empty
all_shown : (f : ℕ → ℕ) (ps ws : List ℕ) (es : List Entry) → NoneEmpty ps ws es → All IsAtRest ws → FoundInTurn f es → (k : ℕ) → k < length ps → f (state_index (get_or ps k 0)) ≡ STATE
all_shown f ps ws es none rest turn k lt = let t = tried f ps ws none.count none.full (subst (FoundInTurn f) none.entries turn) in
    let some_word : k < length ws = omega (arith, none.count) in
    sym (t.found k lt) ∙ resting (get_or ws k 0) (none.full k 0 some_word) (rest k 0 some_word)

all_still : (f : ℕ → ℕ) (ps ws : List ℕ) (es : List Entry) → NoneEmpty ps ws es → FoundInTurn f es → replay 0 f es ≡ f
all_still f ps ws es none turn = ap (replay 0 f) none.entries ∙ (tried f ps ws none.count none.full (subst (FoundInTurn f) none.entries turn)).still

pub empty_chosen : (f : ℕ → ℕ) (ways : List ℕ) (k p : ℕ) (words : List ℕ) (es rest : List Entry) → k < length ways → get_or ways k 0 ≡ p → NoneEmpty (take k ways) words es → All IsAtRest words
    → FoundInTurn f (es ++ TakeEmpty p 0 ∷ rest) → PublishAlone f ways (Published p)
empty_chosen f ways k p words es rest lt at none resting turn = let s = turn_append f es (TakeEmpty p 0 ∷ rest) turn in
    let there : 0 ≡ f (state_index p) = s.1.0 ∙ ap (λ (h : ℕ → ℕ). h (state_index p)) (all_still f (take k ways) words es none s.0) in
    let len = length-take-le k ways (omega arith) in
    inl (k, (lt, ap (λ (q : ℕ). f (state_index q)) at ∙ sym there, λ j less. ap (λ (q : ℕ). f (state_index q)) (sym (get_or-take k ways j 0 less)) ∙ all_shown f (take k ways) words es none resting s.0 j (omega arith)), sym at)

-- where a code that no seat reads was left at the first way, that way is not refused
not_refused : (f : ℕ → ℕ) (p w : ℕ) (ps ws : List ℕ) (rs : List Refusal) (es rest : List Entry) → w ≡ STATE → f (state_index p) ≡ STATE → AllRefused (p ∷ ps) (w ∷ ws) rs es → FoundInTurn f (es ++ rest) → ⊥
not_refused f p w ps ws [] es rest shown left h turn = h
not_refused f p w ps ws (r ∷ rs) es rest shown left h turn = ⊎_elim (λ x. x.0 shown)
    (λ x. let t = turn_append f h.0 h.1 (subst (FoundInTurn f) h.4 (turn_append f es rest turn).0) in
    let found = subst (FoundInTurn f) x.1.3 t.0 in x.1.1 (found.0 ∙ left)) h.2

first_alone : (f : ℕ → ℕ) (code : List ℕ) (p w q : ℕ) (ps ws : List ℕ) (es : List Entry) (k : ℕ) (refusals : List Refusal) (before : List Entry) (x : ℕ) → w ≡ STATE → f (state_index p) ≡ STATE → get_or (p ∷ ps) k 0 ≡ q
    → AllRefused (take k (p ∷ ps)) (take k (w ∷ ws)) refusals before → FoundInTurn f (before ++ TakeShown q STATE ∷ fills q code x) → q ≡ p
first_alone f code p w q ps ws es zero refusals before x shown left at refused turn = sym at
first_alone f code p w q ps ws es (suc k) refusals before x shown left at refused turn = absurd (not_refused f p w (take k ps) (take k ws) refusals before (TakeShown q STATE ∷ fills q code x) shown left refused turn)

second_chosen : (f : ℕ → ℕ) (code ways words : List ℕ) (answer : Publish) (es : List Entry) → 0 < length ways → length words ≡ length ways → get_or words 0 0 ≡ STATE → f (state_index (get_or ways 0 0)) ≡ STATE
    → IsSecond code ways words answer es → FoundInTurn f es → ((j : ℕ) → j < length ways → f (state_index (get_or ways j 0)) ≡ STATE) → PublishAlone f ways answer
second_chosen f code [] words answer es some_way same shown left h turn all = absurd (omega arith)
second_chosen f code (p ∷ ps) [] answer es some_way same shown left h turn all = absurd (omega arith)
second_chosen f code (p ∷ ps) (w ∷ ws) (NoPlace refusals n) es some_way same shown left h turn all =
    not_refused f p w ps ws (take n refusals) es [] shown left h.refused (subst (FoundInTurn f) (sym (append-nil es)) turn)
second_chosen f code (p ∷ ps) (w ∷ ws) (Published q) es some_way same shown left h turn all = inr (all, first_alone f code p w q ps ws es h.k h.refusals h.before h.w shown left h.at h.refused (subst (FoundInTurn f) h.entries turn))

pub shown_chosen : (f : ℕ → ℕ) (code ways words : List ℕ) (answer : Publish) (first second : List Entry) → 0 < length ways → NoneEmpty ways words first → All IsAtRest words
    → IsSecond code ways words answer second → FoundInTurn f (first ++ second) → PublishAlone f ways answer
shown_chosen f code ways words answer first second some_way none resting h turn = let s = turn_append f first second turn in
    let all = all_shown f ways words first none resting s.0 in
    let t = tried f ways words none.count none.full (subst (FoundInTurn f) none.entries s.0) in
    second_chosen f code ways words answer second some_way none.count (t.found 0 some_way ∙ all 0 some_way) (all 0 some_way) h
    (subst (λ (g : ℕ → ℕ). FoundInTurn g second) (all_still f ways words first none s.0) s.1) all
