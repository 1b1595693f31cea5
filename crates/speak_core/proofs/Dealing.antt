-- The lines of a batch, dealt among workers.
use Rattle.std.proofs.Common.{◌≡◌, ◌<◌, ◌≤◌, ◌==◌, ℕ, ◌+◌, ◌-◌, ◌*◌, ◌%◌, ◌^◌, suc, All, List, [], ◌∷◌, ◌++◌, Bool, true, false, Bor, if◌then◌else◌, Some, get_or, inl, inr, slice_get, slice_index_or, slice_set, length, map, take, drop, refl, sym, ap, ◌∙◌, subst, append_assoc, append-nil, length-append, take-append-drop, arith}
use Rattle.std.proofs.lemmas.Nat.{mod_below}
use Rattle.std.proofs.lemmas.Bool.{cases_eq, cases_lt, le-ltb, lt-ltb, eq-eqb, ne_eqb}
use Rattle.std.proofs.lemmas.List.{get_or_default, nil_from_length, drop_all, drop_more, get_or-map, get_or_append_left, get_or_push, get_or-set_other, get_or-set_same, length-map, length-set, take_more, length-take-le}
use Rattle.std.proofs.lemmas.List.Elements.{All-append, All-from_get_or, All-from_recursion, All-get_or}
use Rattle.std.proofs.lemmas.Option.{get_or_from_slice_get, slice_get-get_or, slice_get_within}
use Rattle.std.specs.List.{AllZip}
use Rattle.std.specs.declared.alloc.Global.{Global}
use Rattle.std.specs.declared.collections.VecDeque.{VecDeque}
use Rattle.normaliser.specs.Lines.{Saying}
use Rattle.normaliser.specs.Searches.{IsCallerOf, KeepsSeat, places_of}
use Rattle.shared_cascade.specs.Callers.{cascades_in, log_of, number_in, seats_of}
use Rattle.shared_cascade.specs.Sweeps.{AreRounds}
use Rattle.speak_core.specs.Logs.{AreTallies, Grows, GrowsBySweep}
use Rattle.speak_core.proofs.Logging.{swept_on, tallies_append}
use Rattle.normaliser.specs.declared.normalisers.Normaliser.{Normaliser}
use Rattle.speak_core.specs.Crews.{AllHear, AreSeated, AreShares, BeginsWith, CanWork, Hears, HearsFront, HearsMore, IsCrewOf, IsShare, RunsOn, Takes, Worked, dealt, lines_of_share, rounds_of, seats_for}
use Rattle.speak_core.specs.Parts.{AnswersFront, answer_of, lines_of, says_of, tally_of}
use Rattle.speak_core.specs.Answers.{AllSaid}
use Rattle.speak_core.specs.Reports.{AllTallied, swept_sum}
use Rattle.shared_cascade.specs.declared.sweeping.Swept.{Swept}
use Rattle.speak_words.specs.Asked.{AreInBounds}
use Rattle.speak_words.specs.declared.asked.Settings.{Settings}
use Rattle.speak_core.specs.declared.batches.Heard.{Heard}
use Rattle.speak_core.specs.declared.crews.Crew.{Crew}
use Rattle.speak_core.specs.declared.shares.Done.{Done}
use Rattle.speak_core.specs.declared.shares.Share.{Share}
use Rattle.speak_core.specs.declared.speakers.Speaker.{Speaker}
use Rattle.shared_cascade.specs.declared.callers.Caller.{Caller}
use Rattle.shared_cascade.specs.declared.tallies.Tally.{Tally}

-- some lines are dealt, and then those after them
module _ {X : Type 0} (jobs worker : ℕ) where
  pub dealt-append : (before : ℕ) (xs ys : List X) → dealt jobs worker before (xs ++ ys) ≡ dealt jobs worker before xs ++ dealt jobs worker (before + length xs) ys
  dealt-append before [] ys = ap (λ n. dealt jobs worker n ys) (omega arith)
  dealt-append before (x ∷ xs) ys =
      let rest = dealt-append (before + 1) xs ys ∙ ap (λ n. dealt jobs worker (before + 1) xs ++ dealt jobs worker n ys) (omega arith) in
      go (before % jobs == worker) rest
    where
      go : (b : Bool) → dealt jobs worker (before + 1) (xs ++ ys) ≡ dealt jobs worker (before + 1) xs ++ dealt jobs worker (before + length (x ∷ xs)) ys
          → (if b then x ∷ dealt jobs worker (before + 1) (xs ++ ys) else dealt jobs worker (before + 1) (xs ++ ys)) ≡ (if b then x ∷ dealt jobs worker (before + 1) xs else dealt jobs worker (before + 1) xs) ++ dealt jobs worker (before + length (x ∷ xs)) ys
      go true rest = ap (λ l. x ∷ l) rest
      go false rest = rest

zip-append : {A B : Type 0} (R : A → B → Type 0) (xs ys : List A) (hs gs : List B) → AllZip R xs hs → AllZip R ys gs → AllZip R (xs ++ ys) (hs ++ gs)
zip-append R [] ys [] gs p q = q
zip-append R [] ys (h ∷ hs) gs p q = absurd p
zip-append R (x ∷ xs) ys [] gs p q = absurd p
zip-append R (x ∷ xs) ys (h ∷ hs) gs p q = (p.0, zip-append R xs ys hs gs p.1 q)

zip-length : {A B : Type 0} (R : A → B → Type 0) (xs : List A) (hs : List B) → AllZip R xs hs → length hs ≡ length xs
zip-length R [] [] p = refl
zip-length R [] (h ∷ hs) p = absurd p
zip-length R (x ∷ xs) [] p = absurd p
zip-length R (x ∷ xs) (h ∷ hs) p = ap suc (zip-length R xs hs p.1)

-- the worker's lines among the first of a batch were heard
abbrev pub HeardSoFar : Saying → Share → ℕ → List Heard → Type 0
HeardSoFar says share i heard = AllZip (Hears says) (dealt share.jobs share.worker (share.first - 1) (take i (lines_of share.lines.now))) heard

module _ (says : Saying) (share : Share) (i : ℕ) (heard : List Heard) (so_far : HeardSoFar says share i heard) where
  abbrev all : List (List ℕ)
  all = lines_of share.lines.now

  -- one line more was taken
  pub heard_more : (d : Bor (List ℕ)) (number : ℕ) (new : List Heard) → i < length share.lines.now → 1 ≤ share.first → number ≡ share.first + i
      → HearsMore says (dealt share.jobs share.worker (number - 1) ((get_or share.lines.now i d).now ∷ [])) heard new → HeardSoFar says share (i + 1) new
  heard_more d number new within some is m =
      let line = (get_or share.lines.now i d).now in
      let inside : i < length all = subst (λ n. i < n) (sym (length-map share.lines.now (λ (l : Bor (List ℕ)). l.now))) within in
      let fronts : take (i + 1) all ≡ take i all ++ line ∷ [] = take_more all i line inside ∙ ap (λ l. take i all ++ l ∷ []) (get_or-map (λ (l : Bor (List ℕ)). l.now) share.lines.now i d line within) in
      let count : length (take i all) ≡ i = length-take-le i all (omega (arith, inside)) in
      let place : number - 1 ≡ (share.first - 1) + length (take i all) = omega (arith, some, is, count) in
      let hand = dealt share.jobs share.worker in
      let parts : hand (share.first - 1) (take (i + 1) all) ≡ hand (share.first - 1) (take i all) ++ hand (number - 1) (line ∷ []) =
      ap (hand (share.first - 1)) fronts ∙ dealt-append share.jobs share.worker (share.first - 1) (take i all) (line ∷ []) ∙ ap (λ n. hand (share.first - 1) (take i all) ++ hand n (line ∷ [])) (sym place) in
      subst (λ l. AllZip (Hears says) l new) (sym parts) (subst (AllZip (Hears says) (hand (share.first - 1) (take i all) ++ hand (number - 1) (line ∷ []))) (sym m.is) (zip-append (Hears says) _ _ heard m.more so_far m.said))

  -- no more were
  pub heard_front : HearsFront says (lines_of_share share) heard
  heard_front = record {
    done = dealt share.jobs share.worker (share.first - 1) (take i all);
    left = dealt share.jobs share.worker ((share.first - 1) + length (take i all)) (drop i all);
    parts = ap (dealt share.jobs share.worker (share.first - 1)) (sym (take-append-drop i all)) ∙ dealt-append share.jobs share.worker (share.first - 1) (take i all) (drop i all);
    said = so_far;
  }

  -- where one of its lines wasn't, they are fewer than its lines
  pub unheard : (number : ℕ) → i < length share.lines.now → 1 ≤ share.first → number ≡ share.first + i → (number - 1) % share.jobs ≡ share.worker → length heard < length (lines_of_share share)
  unfolding heard_front
  unheard number within some is turn =
      let inside : i < length all = subst (λ n. i < n) (sym (length-map share.lines.now (λ (l : Bor (List ℕ)). l.now))) within in
      let count : length (take i all) ≡ i = length-take-le i all (omega (arith, inside)) in
      let place : (share.first - 1) + length (take i all) ≡ number - 1 = omega (arith, some, is, count) in
      let hand : ℕ → List (List ℕ) → List (List ℕ) = dealt share.jobs share.worker in
      let back : drop i all ≡ get_or all i [] ∷ drop (i + 1) all = drop_more all i [] inside in
      let mine : hand (number - 1) (drop i all) ≡ get_or all i [] ∷ hand (number - 1 + 1) (drop (i + 1) all) = ap (hand (number - 1)) back ∙ (rw (eq-eqb ((number - 1) % share.jobs) share.worker turn) refl) in
      let parts = ap length heard_front.parts ∙ length-append heard_front.done heard_front.left in
      let left : length heard_front.left ≡ suc (length (hand (number - 1 + 1) (drop (i + 1) all))) = ap (λ n. length (hand n (drop i all))) place ∙ ap length mine in
      let zipped = zip-length (Hears says) heard_front.done heard heard_front.said in
      omega (arith, parts, left, zipped)

-- the turn of a worker takes what its queue has first
module _ (says : Saying) (jobs before : ℕ) (x : List ℕ) (xs : List (List ℕ)) (h : Heard) (old new : List (VecDeque Heard Global)) (all : AllHear says jobs before (x ∷ xs) old) (t : Takes (before % jobs) h old new) where
  -- the line is dealt to the worker
  mine : (worker : ℕ) → worker ≡ before % jobs → dealt jobs worker before (x ∷ xs) ≡ x ∷ dealt jobs worker (before + 1) xs
  mine worker is = rw (eq-eqb (before % jobs) worker (sym is)) refl

  -- or to another
  not-mine : (worker : ℕ) → (worker ≡ before % jobs → ⊥) → dealt jobs worker before (x ∷ xs) ≡ dealt jobs worker (before + 1) xs
  not-mine worker other = rw (ne_eqb (before % jobs) worker (λ e. other (sym e))) refl

  record Rest : Type 0 where
    first : Hears says x h
    others : HearsFront says (dealt jobs (before % jobs) (before + 1) xs) t.after.items

  rest : Rest
  rest = go f.done f.parts f.said
    where
      f : HearsFront says (x ∷ dealt jobs (before % jobs) (before + 1) xs) (h ∷ t.after.items)
      f = subst (λ l. HearsFront says l (h ∷ t.after.items)) (mine (before % jobs) refl) (subst (HearsFront says (dealt jobs (before % jobs) before (x ∷ xs))) t.next (all (before % jobs) t.before t.at))

      go : (done : List (List ℕ)) → x ∷ dealt jobs (before % jobs) (before + 1) xs ≡ done ++ f.left → AllZip (Hears says) done (h ∷ t.after.items) → Rest
      go [] parts said = absurd said
      go (y ∷ ys) parts said =
          let head : x ≡ y = cc in
          let tail : dealt jobs (before % jobs) (before + 1) xs ≡ ys ++ f.left = cc in
          record { first = subst (λ l. Hears says l h) (sym head) said.0; others = record { done = ys; left = f.left; parts = tail; said = said.1 } }

  pub one_heard : Hears says x h
  one_heard = rest.first

  pub others_heard : AllHear says jobs (before + 1) xs new
  others_heard worker queue at = elim (cases_eq worker (before % jobs)) [
    | inl is ↦
        let within = slice_get_within old (before % jobs) t.before t.at in
        let there : slice_get new (before % jobs) ≡ Some queue = subst (λ k. slice_get new k ≡ Some queue) is at in
        let same : t.after ≡ queue = sym (get_or-set_same old (before % jobs) t.after queue within) ∙ get_or_from_slice_get (slice_set old (before % jobs) t.after) (before % jobs) queue queue (subst (λ l. slice_get l (before % jobs) ≡ Some queue) t.is there) in
        subst (λ k. HearsFront says (dealt jobs k (before + 1) xs) queue.items) (sym is) (subst (λ (q : VecDeque Heard Global). HearsFront says (dealt jobs (before % jobs) (before + 1) xs) q.items) same rest.others)
    | inr other ↦
        let far = subst (λ l. slice_get l worker ≡ Some queue) t.is at in
        let within : worker < length old = subst (λ n. worker < n) (length-set old (before % jobs) t.after) (slice_get_within (slice_set old (before % jobs) t.after) worker queue far) in
        let same : get_or old worker queue ≡ queue = sym (get_or-set_other old (before % jobs) worker t.after queue other) ∙ get_or_from_slice_get (slice_set old (before % jobs) t.after) worker queue queue far in
        let there : slice_get old worker ≡ Some queue = slice_get-get_or old worker queue within ∙ ap (λ q. Some q) same in
        subst (λ l. HearsFront says l queue.items) (not-mine worker other) (all worker queue there)
  ]

-- What each worker heard are its lines of those that were put together, so many lines coming before them, and what its queue has left.
abbrev pub AreTaken : ℕ → ℕ → List Heard → List (VecDeque Heard Global) → List (VecDeque Heard Global) → Type 0
AreTaken jobs before heard old new = (worker : ℕ) (queue : VecDeque Heard Global) → slice_get old worker ≡ Some queue → (now : VecDeque Heard Global) × (slice_get new worker ≡ Some now) × (queue.items ≡ dealt jobs worker before heard ++ now.items)

pub none_taken : (jobs before : ℕ) (heard : List Heard) (queues : List (VecDeque Heard Global)) → heard ≡ [] → AreTaken jobs before heard queues queues
none_taken jobs before heard queues none worker queue at = (queue, at, rw none refl)

pub more_taken : (jobs before turn : ℕ) (heard new : List Heard) (h : Heard) (first old now : List (VecDeque Heard Global)) → AreTaken jobs before heard first old → turn ≡ (before + length heard) % jobs → Takes turn h old now → new ≡ heard ++ h ∷ [] → AreTaken jobs before new first now
more_taken jobs before turn heard new h first old now so_far is t grown worker queue at =
    let l = so_far worker queue at in
    elim (cases_eq worker turn) [
      | inl mine ↦
          let there : slice_get old turn ≡ Some l.0 = subst (λ k. slice_get old k ≡ Some l.0) mine l.1 in
          let same : t.before ≡ l.0 = (let both : Some t.before ≡ Some l.0 = sym t.at ∙ there in cc) in
          let inside = slice_get_within old turn t.before t.at in
          let found : slice_get (slice_set old turn t.after) turn ≡ Some t.after = slice_get-get_or (slice_set old turn t.after) turn t.after (subst (λ n. turn < n) (sym (length-set old turn t.after)) inside) ∙ ap (λ q. Some q) (get_or-set_same old turn t.after t.after inside) in
          let one : dealt jobs worker (before + length heard) (h ∷ []) ≡ h ∷ [] = rw (eq-eqb ((before + length heard) % jobs) worker (sym (mine ∙ is))) refl in (
            t.after,
            subst (λ k. slice_get now k ≡ Some t.after) (sym mine) (subst (λ q. slice_get q turn ≡ Some t.after) (sym t.is) found),
            l.2 ∙ ap (λ (q : VecDeque Heard Global). dealt jobs worker before heard ++ q.items) (sym same) ∙ ap (λ x. dealt jobs worker before heard ++ x) t.next ∙ sym (append_assoc (dealt jobs worker before heard) (h ∷ []) t.after.items)
                ∙ ap (λ x. (dealt jobs worker before heard ++ x) ++ t.after.items) (sym one) ∙ ap (λ x. x ++ t.after.items) (sym (dealt-append jobs worker before heard (h ∷ []))) ∙ ap (λ x. dealt jobs worker before x ++ t.after.items) (sym grown),
          )
      | inr other ↦
          let inside : worker < length old = slice_get_within old worker l.0 l.1 in
          let far : slice_get (slice_set old turn t.after) worker ≡ Some l.0 = slice_get-get_or (slice_set old turn t.after) worker l.0 (subst (λ n. worker < n) (sym (length-set old turn t.after)) inside) ∙ ap (λ q. Some q) (get_or-set_other old turn worker t.after l.0 other ∙ get_or_from_slice_get old worker l.0 l.0 l.1) in
          let none : dealt jobs worker (before + length heard) (h ∷ []) ≡ [] = rw (ne_eqb ((before + length heard) % jobs) worker (λ e. other (sym (is ∙ e)))) refl in (
            l.0,
            subst (λ q. slice_get q worker ≡ Some l.0) (sym t.is) far,
            l.2 ∙ ap (λ x. x ++ l.0.items) (sym (append-nil (dealt jobs worker before heard)) ∙ ap (λ x. dealt jobs worker before heard ++ x) (sym none) ∙ sym (dealt-append jobs worker before heard (h ∷ [])) ∙ ap (dealt jobs worker before) (sym grown)),
          )
    ]

-- what was heard of some lines, said and tallied
pub heard_said : (says : Saying) (lines : List (List ℕ)) (heard : List Heard) → AllZip (Hears says) lines heard → AllSaid says lines (map answer_of heard) × AllTallied lines (map answer_of heard) (map tally_of heard)
heard_said says [] [] h = (tt, tt)
heard_said says [] (x ∷ heard) h = absurd h
heard_said says (line ∷ lines) [] h = absurd h
heard_said says (line ∷ lines) (x ∷ heard) h =
    let rest = heard_said says lines heard h.1 in
    ((h.0.0, rest.0), (h.0.1, rest.1))

-- The first lines of a batch were put together, and the queues have the others.
pub record Gathered (says : Saying) (jobs first : ℕ) (all : List (List ℕ)) (i : ℕ) (heard : List Heard) (queues : List (VecDeque Heard Global)) : Type 0 where
  pub done : AllZip (Hears says) (take i all) heard
  pub left : AllHear says jobs (first + i) (drop i all) queues

module _ (jobs first : ℕ) (batch : List (List ℕ)) where
  pub none_gathered : (queues : List (VecDeque Heard Global)) (says : Saying) → AllHear says jobs first batch queues → Gathered says jobs first batch 0 [] queues
  none_gathered queues says all = record { done = tt; left = subst (λ n. AllHear says jobs n batch queues) (let z : first ≡ first + 0 = omega arith in z) all }

  module _ (i : ℕ) (old : List Heard) (queues : List (VecDeque Heard Global)) (says : Saying) (so_far : Gathered says jobs first batch i old queues) where
    -- one line more
    pub more_gathered : (h : Heard) (new : List Heard) (queues' : List (VecDeque Heard Global)) (turn : ℕ) → i < length batch → turn ≡ (first + i) % jobs → Takes turn h queues queues' → new ≡ old ++ h ∷ []
        → Gathered says jobs first batch (i + 1) new queues'
    more_gathered h new queues' turn within is takes grown =
        let line = get_or batch i [] in
        let fronts : take (i + 1) batch ≡ take i batch ++ line ∷ [] = take_more batch i [] within in
        let backs : drop i batch ≡ line ∷ drop (i + 1) batch = drop_more batch i [] within in
        let all = subst (λ l. AllHear says jobs (first + i) l queues) backs so_far.left in
        let took = subst (λ n. Takes n h queues queues') is takes in
        let one = one_heard says jobs (first + i) line (drop (i + 1) batch) h queues queues' all took in
        record {
          done = subst (λ l. AllZip (Hears says) (take (i + 1) batch) l) (sym grown) (subst (λ l. AllZip (Hears says) l (old ++ h ∷ [])) (sym fronts) (zip-append (Hears says) (take i batch) (line ∷ []) old (h ∷ []) so_far.done (one, tt)));
          left = subst (λ n. AllHear says jobs n (drop (i + 1) batch) queues') (let z : first + i + 1 ≡ first + (i + 1) = omega arith in z) (others_heard says jobs (first + i) line (drop (i + 1) batch) h queues queues' all took);
        }

    -- no more lines
    pub gathered_front : (whole : Bool) → (whole ≡ true → length batch ≤ i) → AnswersFront says batch (map answer_of old) (map tally_of old) whole
    gathered_front whole end =
        let both = heard_said says (take i batch) old so_far.done in
        record {
          done = take i batch;
          left = drop i batch;
          parts = sym (take-append-drop i batch);
          said = both.0;
          tallied = both.1;
          whole = λ w. drop_all i batch (end w);
        }

-- one share more
pub shares_more : (jobs sweep first : ℕ) (lines : List (List ℕ)) (shares new : List Share) (share : Share) → AreShares jobs sweep first lines shares → new ≡ shares ++ share ∷ [] → IsShare jobs sweep first lines (length shares) share → AreShares jobs sweep first lines new
shares_more jobs sweep first lines shares new share all grown one worker d within = rw grown (elim (cases_lt worker (length shares)) [
  | inl before ↦ subst (IsShare jobs sweep first lines worker) (sym (get_or_append_left shares (share ∷ []) d worker before)) (all worker d before)
  | inr past ↦
      let count = length-append shares (share ∷ []) in
      let width = ap length grown in
      let last : worker ≡ length shares = omega (arith, past, within, count, width) in
      rw last (subst (IsShare jobs sweep first lines (length shares)) (sym (get_or_push shares share d (length shares) refl)) one)
])

module _ (n : Normaliser) (crew : Crew) (ready : IsCrewOf n crew) (first : ℕ) (lines : List (Bor (List ℕ))) (shares : List Share) (callers : map (λ (s : Share). s.caller) shares ≡ crew.callers.items) (dealt-so : AreShares crew.settings.jobs crew.settings.sweep first (lines_of lines) shares) where
  -- no more than 64 seats
  few_seats : seats_for crew.settings.jobs crew.settings.sweep ≤ 64
  few_seats = go (crew.settings.sweep == 0)
    where
      go : (b : Bool) → (if b then crew.settings.jobs else crew.settings.jobs + 1) ≤ 64
      go true = let few = ready.bounds.jobs.1 in omega (arith, few)
      go false = let few = ready.bounds.jobs.1 in omega (arith, few)

  pub can_work : 1 ≤ first → first + length lines < 2 ^ 64 → (i : ℕ) (x : Share) → i < length shares → x ≡ slice_index_or shares i x → CanWork n x
  can_work some fits i x within is =
      let s : IsShare crew.settings.jobs crew.settings.sweep first (lines_of lines) i x = subst (IsShare crew.settings.jobs crew.settings.sweep first (lines_of lines) i) (sym is) (dealt-so i x within) in
      let width : length shares ≡ length crew.callers.items = sym (length-map shares (λ (s : Share). s.caller)) ∙ ap length callers in
      let count : length x.lines.now ≡ length lines = sym (length-map x.lines.now (λ (l : Bor (List ℕ)). l.now)) ∙ ap length s.all ∙ length-map lines (λ (l : Bor (List ℕ)). l.now) in
      let caller : get_or (map (λ (s : Share). s.caller) shares) i x.caller ≡ x.caller = get_or-map (λ (s : Share). s.caller) shares i x x.caller within ∙ ap (λ (s : Share). s.caller) (sym is) in
      let all = subst (All (IsCallerOf n)) (sym callers) ready.callers in
      record {
        ready = subst (IsCallerOf n) caller (All-get_or (IsCallerOf n) (map (λ (s : Share). s.caller) shares) i x.caller (subst (λ k. i < k) (sym (length-map shares (λ (s : Share). s.caller))) within) all);
        first = let f = s.from in omega (arith, f, some);
        numbers = let f = s.from in omega (arith, f, fits, count);
        jobs = let j = s.of in let k = ready.bounds.jobs.0 in omega (arith, j, k);
        worker = let w = s.number in let m = ready.count in let few = few_seats in omega (arith, w, within, width, m, few);
      }

-- there is a seat, and the last one is the sweeper's where there is one
some_seats : (jobs sweep : ℕ) → 1 ≤ jobs → 1 ≤ seats_for jobs sweep
some_seats jobs sweep some = go (sweep == 0)
  where
    go : (b : Bool) → 1 ≤ (if b then jobs else jobs + 1)
    go true = some
    go false = omega (arith, some)

last_rounds : (jobs sweep : ℕ) → 1 ≤ jobs → rounds_of (seats_for jobs sweep - 1) jobs sweep ≡ sweep
last_rounds jobs sweep some = elim (cases_eq sweep 0) [
  | inl none ↦ rw (none, lt-ltb (jobs - 1) jobs (omega (arith, some))) refl
  | inr any ↦ (
      let seats : seats_for jobs sweep - 1 ≡ jobs = rw (ne_eqb sweep 0 any) (let e : jobs + 1 - 1 ≡ jobs = omega arith in e) in
      rw (seats, le-ltb jobs jobs (omega arith)) refl
      )
]

-- the caller of a share is the one that was handed
handed_at : (shares : List Share) (callers : List Caller) → map (λ (x : Share). x.caller) shares ≡ callers → (j : ℕ) (x : Share) → j < length shares → slice_index_or shares j x ≡ x → slice_get callers j ≡ Some x.caller
handed_at shares callers handed j x within is =
    subst (λ l. slice_get l j ≡ Some x.caller) handed
    (slice_get-get_or (map (λ (y : Share). y.caller) shares) j x.caller (subst (λ k. j < k) (sym (length-map shares (λ (y : Share). y.caller))) within) ∙ ap (λ q. Some q) (get_or-map (λ (y : Share). y.caller) shares j x x.caller within ∙ ap (λ (y : Share). y.caller) is))

-- each worker did its share
abbrev pub AllWorked : Speaker → List Share → List Done → Type 0
AllWorked s shares done = (i : ℕ) (d : Done) → i < length shares → (share : Share) × ((e : Share) → slice_index_or shares i e ≡ share) × Worked s share (slice_index_or done i d)

callers_ready : (P : Caller → Type 0) (all : List Done) → ((i : ℕ) (d : Done) → i < length all → P (get_or all i d).caller) → All P (map (λ (d : Done). d.caller) all)
callers_ready P [] each = All-from_recursion P [] tt
callers_ready P (x ∷ all) each =
    All-from_get_or P (map (λ (d : Done). d.caller) (x ∷ all)) x.caller (λ i within.
    let inside : i < length (x ∷ all) = subst (λ k. i < k) (length-map (x ∷ all) (λ (d : Done). d.caller)) within in
    subst P (sym (get_or-map (λ (d : Done). d.caller) (x ∷ all) i x x.caller inside)) (each i x inside))

module _ (s : Speaker) (shares : List Share) (all : List Done) (same : length all ≡ length shares) (worked : AllWorked s shares all) where
  -- the callers may be given lines again
  pub workers_ready : All (IsCallerOf s.normaliser) (map (λ (d : Done). d.caller) all)
  workers_ready = callers_ready (IsCallerOf s.normaliser) all (λ i d within. (worked i d (subst (λ k. i < k) same within)).2.ready)

  -- each heard its lines
  pub workers_heard : (jobs sweep first : ℕ) (batch : List (List ℕ)) → AreShares jobs sweep first batch shares → AllHear (says_of s) jobs (first - 1) batch (map (λ (d : Done). d.heard) all)
  workers_heard jobs sweep first batch dealt-so worker queue at =
      let inside : worker < length all = subst (λ k. worker < k) (length-map all (λ (d : Done). d.heard)) (slice_get_within (map (λ (d : Done). d.heard) all) worker queue at) in
      go all refl inside
    where
      go : (l : List Done) → l ≡ all → worker < length all → HearsFront (says_of s) (dealt jobs worker (first - 1) batch) queue.items
      go [] is inside = let none : 0 ≡ length all = ap length is in absurd (omega (arith, inside, none))
      go (x ∷ l) is inside =
          let within : worker < length shares = subst (λ k. worker < k) same inside in
          let w = worked worker x within in
          let one : IsShare jobs sweep first batch worker w.0 = subst (IsShare jobs sweep first batch worker) (w.1 w.0) (dealt-so worker w.0 within) in
          let found : (get_or all worker x).heard ≡ queue = sym (get_or-map (λ (d : Done). d.heard) all worker x queue inside) ∙ get_or_from_slice_get (map (λ (d : Done). d.heard) all) worker queue queue at in
          let hand : lines_of_share w.0 ≡ dealt jobs worker (first - 1) batch = rw (one.number, one.of, one.all, one.from) refl in
          subst (λ h. HearsFront (says_of s) h queue.items) hand (subst (λ (q : VecDeque Heard Global). HearsFront (says_of s) (lines_of_share w.0) q.items) found w.2.heard)

  -- each caller has the seat that it had
  pub seats_back : (callers : List Caller) (seats : ℕ) → map (λ (x : Share). x.caller) shares ≡ callers → AreSeated seats callers → AreSeated seats (map (λ (d : Done). d.caller) all)
  seats_back callers seats handed seated j c at = go all refl (subst (λ k. j < k) (length-map all (λ (d : Done). d.caller)) (slice_get_within (map (λ (d : Done). d.caller) all) j c at))
    where
      go : (l : List Done) → l ≡ all → j < length all → (number_in c ≡ j) × (seats_of c ≡ seats)
      go [] is inside = let none : 0 ≡ length all = ap length is in absurd (omega (arith, inside, none))
      go (x ∷ l) is inside =
          let within : j < length shares = subst (λ k. j < k) same inside in
          let w = worked j x within in
          let caller : (get_or all j x).caller ≡ c = sym (get_or-map (λ (d : Done). d.caller) all j x c inside) ∙ get_or_from_slice_get (map (λ (d : Done). d.caller) all) j c c at in
          let was = handed_at shares callers handed j w.0 within (w.1 w.0) in
          let kept : KeepsSeat w.0.caller c = subst (KeepsSeat w.0.caller) caller w.2.seat in
          let before = seated j w.0.caller was in
          (kept.number ∙ before.0, kept.seats ∙ before.1)

  -- and the crew is whole again
  pub crew_back : (old new : Crew) → IsCrewOf s.normaliser old → map (λ (x : Share). x.caller) shares ≡ old.callers.items → length shares ≡ length old.callers.items → new.settings ≡ old.settings → new.callers.items ≡ map (λ (d : Done). d.caller) all → IsCrewOf s.normaliser new
  crew_back old new ready handed count still is = record {
    callers = subst (All (IsCallerOf s.normaliser)) (sym is) workers_ready;
    count = ap length is ∙ length-map all (λ (d : Done). d.caller) ∙ same ∙ count ∙ ready.count ∙ ap (λ (t : Settings). seats_for t.jobs t.sweep) (sym still);
    seated = subst (λ (t : Settings). AreSeated (seats_for t.jobs t.sweep) new.callers.items) (sym still) (subst (AreSeated (seats_for old.settings.jobs old.settings.sweep)) (sym is) (seats_back old.callers.items (seats_for old.settings.jobs old.settings.sweep) handed ready.seated));
    bounds = subst AreInBounds (sym still) ready.bounds;
    places = ready.places ∙ ap (λ (t : Settings). t.places) (sym still);
  }

  -- the last of them swept the table, if that was wanted
  pub last_swept : (crew : Crew) → IsCrewOf s.normaliser crew → length shares ≡ length crew.callers.items → (first : ℕ) (batch : List (List ℕ)) → AreShares crew.settings.jobs crew.settings.sweep first batch shares
      → (w : Swept) → ((d : Done) → 0 < length all → w ≡ (slice_index_or all (length all - 1) d).swept) → swept_sum w ≡ crew.settings.places * crew.settings.sweep
  last_swept crew ready count first batch dealt-so w is = go all refl
    where
      seats : length all ≡ seats_for crew.settings.jobs crew.settings.sweep
      seats = same ∙ count ∙ ready.count

      some : 0 < length all
      some = let n = seats in let k = some_seats crew.settings.jobs crew.settings.sweep ready.bounds.jobs.0 in omega (arith, n, k)

      go : (l : List Done) → l ≡ all → swept_sum w ≡ crew.settings.places * crew.settings.sweep
      go [] none = let zero : 0 ≡ length all = ap length none in absurd (let few = some in omega (arith, few, zero))
      go (d ∷ l) head =
          let last = length all - 1 in
          let within : last < length shares = let few = some in omega (arith, few, same) in
          let one = worked last d within in
          let share : IsShare crew.settings.jobs crew.settings.sweep first batch last one.0 = subst (IsShare crew.settings.jobs crew.settings.sweep first batch last) (one.1 one.0) (dealt-so last one.0 within) in
          let rounds : one.0.rounds ≡ crew.settings.sweep = share.rounds ∙ ap (λ n. rounds_of (n - 1) crew.settings.jobs crew.settings.sweep) seats ∙ last_rounds crew.settings.jobs crew.settings.sweep ready.bounds.jobs.0 in
          ap swept_sum (is d some) ∙ one.2.swept ∙ (rw (ready.places, rounds) refl)

-- dealt of what is made of each
dealt-map : {A B : Type 0} (f : A → B) (jobs worker before : ℕ) (xs : List A) → map f (dealt jobs worker before xs) ≡ dealt jobs worker before (map f xs)
dealt-map f jobs worker before [] = refl
dealt-map f jobs worker before (x ∷ xs) = go (before % jobs == worker) (dealt-map f jobs worker (before + 1) xs)
  where
    go : (b : Bool) → map f (dealt jobs worker (before + 1) xs) ≡ dealt jobs worker (before + 1) (map f xs)
        → map f (if b then x ∷ dealt jobs worker (before + 1) xs else dealt jobs worker (before + 1) xs) ≡ (if b then f x ∷ dealt jobs worker (before + 1) (map f xs) else dealt jobs worker (before + 1) (map f xs))
    go true rest = ap (λ l. f x ∷ l) rest
    go false rest = rest

-- of as many as many are dealt
dealt-count : {A B : Type 0} (jobs worker before : ℕ) (xs : List A) (ys : List B) → length xs ≡ length ys → length (dealt jobs worker before xs) ≡ length (dealt jobs worker before ys)
dealt-count jobs worker before [] [] same = refl
dealt-count jobs worker before [] (y ∷ ys) same = absurd (omega (arith, same))
dealt-count jobs worker before (x ∷ xs) [] same = absurd (omega (arith, same))
dealt-count jobs worker before (x ∷ xs) (y ∷ ys) same = go (before % jobs == worker) (dealt-count jobs worker (before + 1) xs ys (omega (arith, same)))
  where
    go : (b : Bool) → length (dealt jobs worker (before + 1) xs) ≡ length (dealt jobs worker (before + 1) ys)
        → length (if b then x ∷ dealt jobs worker (before + 1) xs else dealt jobs worker (before + 1) xs) ≡ length (if b then y ∷ dealt jobs worker (before + 1) ys else dealt jobs worker (before + 1) ys)
    go true rest = ap suc rest
    go false rest = rest

-- the sweeper has no lines
dealt-none : {X : Type 0} (jobs worker before : ℕ) (xs : List X) → 1 ≤ jobs → jobs ≤ worker → dealt jobs worker before xs ≡ []
dealt-none jobs worker before [] some past = refl
dealt-none jobs worker before (x ∷ xs) some past = rw (ne_eqb (before % jobs) worker (λ e. let less : before % jobs < jobs = mod_below before jobs some in omega (arith, e, less, past))) (dealt-none jobs worker (before + 1) xs some past)

-- what all heard, put together, is what each of them heard
module _ (s : Speaker) (shares : List Share) (all : List Done) (same : length all ≡ length shares) (worked : AllWorked s shares all) (old : Crew) (ready : IsCrewOf s.normaliser old) (callers : map (λ (share : Share). share.caller) shares ≡ old.callers.items) (first : ℕ) (batch : List (List ℕ))
    (dealt-so : AreShares old.settings.jobs old.settings.sweep first batch shares) (heard : List Heard) (whole : length heard ≡ length batch)
    (from : (worker : ℕ) (queue : VecDeque Heard Global) → slice_get (map (λ (d : Done). d.heard) all) worker ≡ Some queue → BeginsWith (dealt old.settings.jobs worker (first - 1) heard) queue.items) where
  -- what the caller of a place has done
  record Did (j : ℕ) (c : Caller) : Type 0 where
    was : Caller
    there : slice_get old.callers.items j ≡ Some was
    kept : KeepsSeat was c
    middle : Caller
    grew : Grows s.normaliser was middle (dealt old.settings.jobs j (first - 1) (map tally_of heard))
    found : Swept
    swept : GrowsBySweep s.normaliser middle c (rounds_of j old.settings.jobs old.settings.sweep) found
    is_found : (d : Done) → found ≡ (slice_index_or all j d).swept

  did : (j : ℕ) (c : Caller) → slice_get (map (λ (d : Done). d.caller) all) j ≡ Some c → Did j c
  did j c at = go all refl (subst (λ k. j < k) (length-map all (λ (d : Done). d.caller)) (slice_get_within (map (λ (d : Done). d.caller) all) j c at))
    where
      go : (l : List Done) → l ≡ all → j < length all → Did j c
      go [] is inside = let none : 0 ≡ length all = ap length is in absurd (omega (arith, inside, none))
      go (x ∷ l) is inside =
          let jobs = old.settings.jobs in
          let within : j < length shares = subst (λ k. j < k) same inside in
          let w = worked j x within in
          let one : IsShare jobs old.settings.sweep first batch j w.0 = subst (IsShare jobs old.settings.sweep first batch j) (w.1 w.0) (dealt-so j w.0 within) in
          let done = get_or all j x in
          let caller : done.caller ≡ c = sym (get_or-map (λ (d : Done). d.caller) all j x c inside) ∙ get_or_from_slice_get (map (λ (d : Done). d.caller) all) j c c at in
          let queue : slice_get (map (λ (d : Done). d.heard) all) j ≡ Some done.heard = slice_get-get_or (map (λ (d : Done). d.heard) all) j done.heard (subst (λ k. j < k) (sym (length-map all (λ (d : Done). d.heard))) inside) ∙ ap (λ q. Some q) (get_or-map (λ (d : Done). d.heard) all j x done.heard inside) in
          let taken = from j done.heard queue in
          let hand : lines_of_share w.0 ≡ dealt jobs j (first - 1) batch = rw (one.number, one.of, one.all, one.from) refl in
          let counts = ap length hand ∙ sym (dealt-count jobs j (first - 1) heard batch whole) in
          let parts = ap length w.2.heard.parts ∙ length-append w.2.heard.done w.2.heard.left in
          let zipped = zip-length (Hears (says_of s)) w.2.heard.done done.heard.items w.2.heard.said in
          let width = ap length taken.1 ∙ length-append (dealt jobs j (first - 1) heard) taken.0 in
          let no_rest : taken.0 ≡ [] = nil_from_length taken.0 (omega (arith, counts, parts, zipped, width)) in
          let full : length done.heard.items ≡ length (lines_of_share w.0) = omega (arith, counts, parts, zipped, width) in
          let own : done.heard.items ≡ dealt jobs j (first - 1) heard = taken.1 ∙ ap (λ r. dealt jobs j (first - 1) heard ++ r) no_rest ∙ append-nil (dealt jobs j (first - 1) heard) in
          record {
            was = w.0.caller;
            there = handed_at shares old.callers.items callers j w.0 within (w.1 w.0);
            kept = subst (KeepsSeat w.0.caller) caller w.2.seat;
            middle = w.2.middle;
            grew = subst (Grows s.normaliser w.0.caller w.2.middle) (ap (map tally_of) own ∙ dealt-map tally_of jobs j (first - 1) heard) (w.2.grew full);
            found = done.swept;
            swept = subst (λ k. GrowsBySweep s.normaliser w.2.middle c k done.swept) (one.rounds) (subst (λ d. GrowsBySweep s.normaliser w.2.middle d w.0.rounds done.swept) caller w.2.by_sweep);
            is_found = λ d. ap (λ (e : Done). e.swept) (get_or_default all j x d inside);
          }

  some_done : (l : List Done) → 0 < length l → Done
  some_done [] some = absurd (omega (arith, some))
  some_done (x ∷ l) some = x

  -- the sweeper is the last
  last_is : old.settings.jobs < length all → length all - 1 ≡ old.settings.jobs
  last_is inside = go (old.settings.sweep == 0) (same ∙ sym (length-map shares (λ (share : Share). share.caller)) ∙ ap length callers ∙ ready.count)
    where
      go : (b : Bool) → length all ≡ (if b then old.settings.jobs else old.settings.jobs + 1) → length all - 1 ≡ old.settings.jobs
      go true e = absurd (omega (arith, e, inside))
      go false e = omega (arith, e)

  parts : (before : List Tally) → length before ≡ first - 1 → (j : ℕ) → dealt old.settings.jobs j 0 (before ++ map tally_of heard) ≡ dealt old.settings.jobs j 0 before ++ dealt old.settings.jobs j (first - 1) (map tally_of heard)
  parts before placed j = dealt-append old.settings.jobs j 0 before (map tally_of heard) ∙ ap (λ k. dealt old.settings.jobs j 0 before ++ dealt old.settings.jobs j k (map tally_of heard)) (let z : 0 + length before ≡ first - 1 = omega (arith, placed) in z)

  pub crew_ran : (new : Crew) (w : Swept) → new.settings ≡ old.settings → new.callers.items ≡ map (λ (d : Done). d.caller) all → ((d : Done) → 0 < length all → w ≡ (slice_index_or all (length all - 1) d).swept) → new.swept.done ≡ old.swept.done + w.done → new.swept.was ≡ old.swept.was + w.was
      → RunsOn s.normaliser old new first (map tally_of heard)
  crew_ran new w still is last done was before batches placed run = record {
    workers = λ j c less at.
        let less-so : j < old.settings.jobs = subst (λ (t : Settings). j < t.jobs) still less in
        let d = did j c (subst (λ l. slice_get l j ≡ Some c) is at) in
        let idle : rounds_of j old.settings.jobs old.settings.sweep ≡ 0 = rw (lt-ltb j old.settings.jobs less-so) refl in
        let none : d.swept.entries ≡ [] = subst (λ k. AreRounds (places_of s.normaliser) k d.swept.entries) idle d.swept.rounds in
        let log : log_of c ≡ log_of d.was ++ d.grew.entries = d.swept.log ∙ ap (λ l. log_of d.middle ++ l) none ∙ append-nil (log_of d.middle) ∙ d.grew.log in
        subst (λ (t : Settings). AreTallies (cascades_in s.normaliser.shared) (places_of s.normaliser) (dealt t.jobs j 0 (before ++ map tally_of heard)) (log_of c)) (sym still)
        (subst (λ ts. AreTallies (cascades_in s.normaliser.shared) (places_of s.normaliser) ts (log_of c)) (sym (parts before placed j)) (subst (AreTallies (cascades_in s.normaliser.shared) (places_of s.normaliser) _) (sym log)
        (tallies_append (cascades_in s.normaliser.shared) (places_of s.normaliser) (dealt old.settings.jobs j 0 before) (dealt old.settings.jobs j (first - 1) (map tally_of heard)) (log_of d.was) d.grew.entries (run.workers j d.was less-so d.there) d.grew.parts)));
    places = λ j c less at one.
        let less-so : j < old.settings.jobs = subst (λ (t : Settings). j < t.jobs) still less in
        let d = did j c (subst (λ l. slice_get l j ≡ Some c) is at) in
        let lone : seats_of d.was ≡ 1 = sym d.kept.seats ∙ one in
        subst (λ (t : Settings). All (λ (u : Tally). u.no_place ≡ 0) (dealt t.jobs j 0 (before ++ map tally_of heard))) (sym still)
        (subst (All (λ (u : Tally). u.no_place ≡ 0)) (sym (parts before placed j)) (All-append (λ (u : Tally). u.no_place ≡ 0) (dealt old.settings.jobs j 0 before) (dealt old.settings.jobs j (first - 1) (map tally_of heard)) (run.places j d.was less-so d.there lone) (d.grew.places lone)));
    sweeper = λ c at.
        let jobs = old.settings.jobs in
        let there : slice_get (map (λ (d : Done). d.caller) all) jobs ≡ Some c = subst (λ (t : Settings). slice_get (map (λ (d : Done). d.caller) all) t.jobs ≡ Some c) still (subst (λ l. slice_get l new.settings.jobs ≡ Some c) is at) in
        let d = did jobs c there in
        let inside : jobs < length all = subst (λ k. jobs < k) (length-map all (λ (x : Done). x.caller)) (slice_get_within (map (λ (x : Done). x.caller) all) jobs c there) in
        let lines_none : dealt jobs jobs (first - 1) (map tally_of heard) ≡ [] = dealt-none jobs jobs (first - 1) (map tally_of heard) ready.bounds.jobs.0 (omega arith) in
        let none : d.grew.entries ≡ [] = subst (λ ts. AreTallies (cascades_in s.normaliser.shared) (places_of s.normaliser) ts d.grew.entries) lines_none d.grew.parts in
        let log : log_of d.middle ≡ log_of d.was = d.grew.log ∙ ap (λ l. log_of d.was ++ l) none ∙ append-nil (log_of d.was) in
        let rounds : rounds_of jobs jobs old.settings.sweep ≡ old.settings.sweep = rw (le-ltb jobs jobs (omega arith)) refl in
        let any = some_done all (omega (arith, inside)) in
        let found : w ≡ d.found = last any (omega (arith, inside)) ∙ ap (λ k. (slice_index_or all k any).swept) (last_is inside) ∙ sym (d.is_found any) in
        let so_far = run.sweeper d.was d.there in
        let swept = swept_on s.normaliser d.was d.middle c (old.settings.sweep * batches) old.settings.sweep old.swept new.swept d.found log so_far.0 so_far.1 so_far.2 (subst (λ k. GrowsBySweep s.normaliser d.middle c k d.found) rounds d.swept) (done ∙ ap (λ x. old.swept.done + x.done) found) (was ∙ ap (λ x. old.swept.was + x.was) found) in
        let more : old.settings.sweep * batches + old.settings.sweep ≡ new.settings.sweep * (batches + 1) = (let z : old.settings.sweep * batches + old.settings.sweep ≡ old.settings.sweep * (batches + 1) = omega arith in z) ∙ ap (λ (t : Settings). t.sweep * (batches + 1)) (sym still) in
        (subst (λ k. AreRounds (places_of s.normaliser) k (log_of c)) more swept.0, swept.1, swept.2);
  }
