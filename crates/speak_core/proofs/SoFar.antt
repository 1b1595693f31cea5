-- How far the lines of an input were read, spoken and written.
use Rattle.std.proofs.Common.{◌≡◌, ℕ, ◌+◌, ◌-◌, ◌*◌, ◌<◌, ◌≤◌, ◌^◌, List, [], ◌++◌, None, Some, Option, IfSome, IsSomeAnd, Bool, true, false, ◌&&◌, length, take, refl, sym, ap, subst, ◌∙◌, append_assoc, append-nil, length-append, arith}
use Rattle.std.proofs.KnownBytes.{Appends-trans, Consumes-nil}
use Rattle.std.proofs.Math.Nat.{mul-le-mul}
use Rattle.std.proofs.Math.Seq.{take-append_seam}
use Rattle.std.specs.Io.KnownBytes.{Appends, Consumes, IsAtEnd}
use Rattle.norm_base.specs.Bytes.{AppendsPrefix}
use Rattle.norm_base.proofs.Front.{prefix_none}
use Rattle.normaliser.specs.Lines.{Answer, Saying}
use Rattle.shared_cascade.specs.declared.sweeping.Swept.{Swept}
use Rattle.shared_cascade.specs.declared.tallies.Tally.{Tally}
use Rattle.speak_words.specs.Asked.{AreInBounds}
use Rattle.speak_words.specs.declared.asked.Settings.{Settings}
use Rattle.text_lines.specs.Lines.{lines}
use Rattle.speak_core.specs.Answers.{AllSaid, written}
use Rattle.speak_core.specs.Crews.{HasRun, HasSwept, RunsAll}
use Rattle.normaliser.specs.declared.normalisers.Normaliser.{Normaliser}
use Rattle.speak_core.specs.declared.crews.Crew.{Crew}
use Rattle.speak_core.specs.Given.{GaveAtMost, GivesBatches, first_lines}
use Rattle.speak_core.specs.Intakes.{AreWhole, GaveWithin, Holds, IsIntake, line_feeds}
use Rattle.speak_core.specs.Loaded.{SaysOnce}
use Rattle.speak_core.specs.Parts.{Speaks, SpeaksBy, TellsSome}
use Rattle.speak_core.specs.Reports.{batches_of, swept_sum}
use Rattle.speak_core.specs.declared.intakes.Intake.{Intake}
use Rattle.speak_core.proofs.Intaking.{within_grow}
use Rattle.speak_core.proofs.Said.{Halves, faults_of_first, faults_then, halves, said_count, said_once, speaks_more, speaks_more_by, speaks_none, speaks_none_by, tallied_count, tells_none, words_of_first, words_then}
use Rattle.speak_core.proofs.Whole.{feeds_append, feeds_few, lines_few, whole_append, whole_none}

-- whole batches were handled: their lines were spoken, and beside each of them places were swept
pub record SoFar (P : Saying) (w : Bool) (s : Settings) (v : Swept) (t t' : Tally) (start left : Option (List ℕ)) (i : Intake) (count : ℕ) (is_read : Bool) (out out' err err' : Option (List ℕ)) (o o' e e' : ℕ) : Type 0 where
  pub handled : List ℕ
  pub batches : ℕ
  pub whole : AreWhole (1024 * batches) handled
  pub counted : count ≡ 1024 * batches
  pub swept : swept_sum v ≡ s.places * s.sweep * batches
  pub holds : Holds start left handled i
  pub within : GaveWithin (1024 * (batches + 1)) start left
  pub speaks : Speaks P w 1 t t' (lines handled) out out' err err' is_read
  pub out_kept : o' ≡ o
  pub err_kept : e' ≡ e

-- and the callers did what was told of the lines
pub record Ran (P : Saying) (N : Normaliser) (c : Crew) (w : Bool) (s : Settings) (v : Swept) (t t' : Tally) (start left : Option (List ℕ)) (i : Intake) (count : ℕ) (is_read : Bool) (out out' err err' : Option (List ℕ)) (o o' e e' : ℕ) : Type 0 where
  pub far : SoFar P w s v t t' start left i count is_read out out' err err' o o' e e'
  pub run : HasRun N c far.speaks.tallies far.batches

-- what stands in the sinks at an end, and what was given until then, of an input that is told
pub record Ends (P : Saying) (w : Bool) (start left : Option (List ℕ)) (out out' err err' : Option (List ℕ)) : Type 0 where
  pub words : IfSome start (λ input. (answers : List Answer) → AllSaid P (lines input) answers → AppendsPrefix out out' (written answers))
  pub faults : IfSome start (λ input. (answers : List Answer) → AllSaid P (lines input) answers → TellsSome w 1 (lines input) answers err err')
  pub given : IfSome start (λ input. IsSomeAnd left (λ now. (answers : List Answer) → AllSaid P (lines input) answers → GivesBatches answers input now out out'))

none_within : (n : ℕ) (start : Option (List ℕ)) → GaveWithin n start start
none_within n None = tt
none_within n (Some input) = omega arith

pub so_far_none : (P : Saying) (w : Bool) (s : Settings) (v : Swept) (t : Tally) (start : Option (List ℕ)) (i : Intake) (count : ℕ) (out err : Option (List ℕ)) (o e : ℕ) → i.bytes.items ≡ [] → i.given ≡ 0 → count ≡ 0 → swept_sum v ≡ 0 → SoFar P w s v t t start start i count true out out err err o o e e
so_far_none P w s v t start i count out err o e empty given none unswept = record {
  handled = [];
  batches = 0;
  whole = whole_none;
  counted = none;
  swept = unswept ∙ (let k : 0 ≡ s.places * s.sweep * 0 = omega arith in k);
  holds = record { given = subst (Consumes start start) (sym empty) (Consumes-nil start); all = (let a = ap length empty in omega (arith, a, given)) };
  within = none_within (1024 * (0 + 1)) start;
  speaks = speaks_none P w 1 t out err;
  out_kept = refl;
  err_kept = refl;
}

pub ran_none : (P : Saying) (N : Normaliser) (c : Crew) (w : Bool) (s : Settings) (v : Swept) (t : Tally) (start : Option (List ℕ)) (i : Intake) (count : ℕ) (out err : Option (List ℕ)) (o e : ℕ) → i.bytes.items ≡ [] → i.given ≡ 0 → count ≡ 0 → swept_sum v ≡ 0 → HasRun N c [] 0 → Ran P N c w s v t t start start i count true out out err err o o e e
unfolding so_far_none
ran_none P N c w s v t start i count out err o e empty given none unswept run =
    let x = speaks_none_by P w (λ ts. HasRun N c ts 0) run 1 t out err in
    record { far = record (so_far_none P w s v t start i count out err o e empty given none unswept) { speaks = x.0 }; run = x.1 }

-- an input that is told: these bytes were given, and this is left
known : (start left : Option (List ℕ)) (bytes : List ℕ) (Q : List ℕ → Type 0) → Consumes start left bytes → ((input now : List ℕ) → left ≡ Some now → input ≡ bytes ++ now → Q input) → IfSome start Q
known None left bytes Q c f = tt
known (Some input) None bytes Q c f = absurd c
known (Some input) (Some now) bytes Q c f = f input now refl c

known_until : (start left left' : Option (List ℕ)) (bytes : List ℕ) (n : ℕ) (Q : List ℕ → List ℕ → Type 0) → Consumes start left bytes → GaveWithin n start left'
    → ((input now last : List ℕ) → left ≡ Some now → input ≡ bytes ++ now → GaveAtMost (length (first_lines n input) + 65536) input last → Q input last) → IfSome start (λ input. IsSomeAnd left' (Q input))
known_until None left left' bytes n Q c w f = tt
known_until (Some input) None left' bytes n Q c w f = absurd c
known_until (Some input) (Some now) None bytes n Q c w f = absurd w
known_until (Some input) (Some now) (Some last) bytes n Q c w f = f input now last refl c w

-- the lines of a text and of what follows it: it is whole, or nothing follows
pub text_parts : (is_full : Bool) (text rest : List ℕ) (n : ℕ) (left : Option (List ℕ)) → (is_full ≡ true → AreWhole n text) → (is_full ≡ false → rest ≡ []) → (is_full ≡ false → IsAtEnd left) → (now : List ℕ) → left ≡ Some now → lines (text ++ (rest ++ now)) ≡ lines text ++ lines (rest ++ now)
text_parts true text rest n left whole all end now is = (whole refl).parts (rest ++ now)
text_parts false text rest n left whole all end now is =
    let none : now ≡ [] = subst (λ l. IsAtEnd l) is (end refl) in
    let nothing : rest ++ now ≡ [] = ap (λ r. r ++ now) (all refl) ∙ none in
    ap (λ m. lines (text ++ m)) nothing ∙ (ap lines (append-nil text) ∙ (sym (append-nil (lines text)) ∙ ap (λ m. lines text ++ lines m) (sym nothing)))

-- it has no more lines than a batch
pub text_few : (is_full : Bool) (bytes text rest : List ℕ) (n : ℕ) → (is_full ≡ true → AreWhole n text) → (is_full ≡ true → n ≡ 1024) → (is_full ≡ false → line_feeds bytes < 1024) → bytes ≡ text ++ rest → length (lines text) ≤ 1024
text_few true bytes text rest n whole full few parts = let a = (whole refl).number in let b = full refl in omega (arith, a, b)
text_few false bytes text rest n whole full few parts = let a = lines_few text in let b = ap line_feeds parts ∙ feeds_append text rest in let c = few refl in omega (arith, a, b, c)

module _ (P : Saying) (w : Bool) (s : Settings) (v : Swept) (t t' : Tally) (start left : Option (List ℕ)) (i : Intake) (n : ℕ) (r : Bool) (out mid err emid : Option (List ℕ)) (o o' e e' : ℕ) (sofar : SoFar P w s v t t' start left i n r out mid err emid o o' e e') where
  next : n + 1 ≡ 1 + length (lines sofar.handled)
  next = let c = sofar.counted in let k = sofar.whole.number in omega (arith, c, k)

  -- few lines were counted
  pub so_far_few : IsIntake i → n ≤ 2 ^ 28
  so_far_few is =
      let a = sofar.counted in let b = sofar.whole.ends in let c = feeds_few sofar.handled in let d = sofar.holds.all in let f = is.within in
      omega (arith, a, b, c, d, f)

  -- there is room to count the next sweep
  pub so_far_room : IsIntake i → AreInBounds s → swept_sum v + s.places * s.sweep < 2 ^ 64
  so_far_room is bounds =
      let b = sofar.batches in
      let small = so_far_few is in
      let beside : s.places * s.sweep ≤ 4096 * 10000 = mul-le-mul bounds.places.1 bounds.sweep in
      let few : b ≤ 2 ^ 28 = let c = sofar.counted in omega (arith, c, small) in
      let all : s.places * s.sweep * b ≤ 4096 * 10000 * 2 ^ 28 = mul-le-mul beside few in
      let found = sofar.swept in
      omega (arith, beside, all, found)

  -- more was written of an input of which this follows what was handled
  module _ (once : SaysOnce P) (out' err' : Option (List ℕ)) (input more : List ℕ) (is : input ≡ sofar.handled ++ more) (words : (a : List Answer) → AllSaid P (lines more) a → AppendsPrefix mid out' (written a)) where
    both : lines input ≡ lines sofar.handled ++ lines more
    both = ap lines is ∙ sofar.whole.parts more

    all_words : (all : List Answer) → AllSaid P (lines input) all → AppendsPrefix out out' (written all)
    all_words all said = words_then P w 1 (n + 1) t t' (lines sofar.handled) out mid out' err emid emid r sofar.speaks next once (lines more) words all (subst (λ l. AllSaid P l all) both said)

    all_faults : ((a : List Answer) → AllSaid P (lines more) a → TellsSome w (n + 1) (lines more) a emid err') → (all : List Answer) → AllSaid P (lines input) all → TellsSome w 1 (lines input) all err err'
    all_faults faults all said =
        subst (λ l. TellsSome w 1 l all err err') (sym both)
        (faults_then P w 1 (n + 1) t t' (lines sofar.handled) out mid mid err emid err' r sofar.speaks next once (lines more) faults all (subst (λ l. AllSaid P l all) both said))

    all_given : (last : List ℕ) → GaveAtMost (length (first_lines (1024 * (sofar.batches + 1)) input) + 65536) input last → (all : List Answer) → AllSaid P (lines input) all → GivesBatches all input last out out'
    all_given last bound all said =
        let h : Halves P (lines sofar.handled) (lines more) all = halves P (lines sofar.handled) (lines more) all (subst (λ l. AllSaid P l all) both said) in
        let count : length h.front ≡ 1024 * sofar.batches = said_count P (lines sofar.handled) h.front h.first ∙ sofar.whole.number in
        let front : take (1024 * sofar.batches) all ≡ h.front = ap (λ k. take k all) (sym count) ∙ (ap (take (length h.front)) h.parts ∙ take-append_seam h.front h.back) in
        let same = said_once P once (lines sofar.handled) sofar.speaks.answers h.front sofar.speaks.said h.first in
        let rest = words h.back h.second in
        record {
          batches = sofar.batches;
          whole = (let e = ap length h.parts ∙ length-append h.front h.back in omega (arith, e, count));
          words = record {
            more = rest.front.front;
            grown = subst (λ a. Appends out out' (written a ++ rest.front.front)) (sym front)
                (Appends-trans out mid out' (written h.front) rest.front.front (subst (λ a. Appends out mid (written a)) same sofar.speaks.words) rest.front.grown);
          };
          bound = bound;
        }

  -- nothing more was written
  pub far_ends : SaysOnce P → (left' : Option (List ℕ)) → GaveWithin (1024 * (sofar.batches + 1)) start left' → Ends P w start left' out mid err emid
  far_ends once left' within = record {
    words = known start left (sofar.handled ++ i.bytes.items) _ sofar.holds.given (λ input now at is. all_words once mid emid input (i.bytes.items ++ now) (is ∙ append_assoc sofar.handled i.bytes.items now) (λ a p. prefix_none mid (written a)));
    faults = known start left (sofar.handled ++ i.bytes.items) _ sofar.holds.given (λ input now at is. all_faults once mid emid input (i.bytes.items ++ now) (is ∙ append_assoc sofar.handled i.bytes.items now) (λ a p. prefix_none mid (written a)) (λ a p. tells_none P w (n + 1) (lines (i.bytes.items ++ now)) a emid p));
    given = known_until start left left' (sofar.handled ++ i.bytes.items) (1024 * (sofar.batches + 1)) _ sofar.holds.given within (λ input now last at is bound. all_given once mid emid input (i.bytes.items ++ now) (is ∙ append_assoc sofar.handled i.bytes.items now) (λ a p. prefix_none mid (written a)) last bound);
  }

  -- a text was read on, and its lines are spoken
  module _ (left' : Option (List ℕ)) (j : Intake) (holds : Holds start left' sofar.handled j) (within : GaveWithin (1024 * (sofar.batches + 1)) start left') (text rest : List ℕ) (taken : j.bytes.items ≡ text ++ rest) where
    split : (input now : List ℕ) → input ≡ (sofar.handled ++ j.bytes.items) ++ now → input ≡ sofar.handled ++ (text ++ (rest ++ now))
    split input now is = is ∙ (append_assoc sofar.handled j.bytes.items now ∙ ap (λ m. sofar.handled ++ m) (ap (λ m. m ++ now) taken ∙ append_assoc text rest now))

    module _ (parts : (now : List ℕ) → left' ≡ Some now → lines (text ++ (rest ++ now)) ≡ lines text ++ lines (rest ++ now)) (out' err' : Option (List ℕ)) (words : (a : List Answer) → AllSaid P (lines text) a → AppendsPrefix mid out' (written a)) (faults : (a : List Answer) → AllSaid P (lines text) a → TellsSome w (n + 1) (lines text) a emid err') where
      more_words : (now : List ℕ) → left' ≡ Some now → (a : List Answer) → AllSaid P (lines (text ++ (rest ++ now))) a → AppendsPrefix mid out' (written a)
      more_words now at a said = words_of_first P (lines text) (lines (rest ++ now)) mid out' words a (subst (λ l. AllSaid P l a) (parts now at) said)

      more_faults : (now : List ℕ) → left' ≡ Some now → (a : List Answer) → AllSaid P (lines (text ++ (rest ++ now))) a → TellsSome w (n + 1) (lines (text ++ (rest ++ now))) a emid err'
      more_faults now at a said = subst (λ l. TellsSome w (n + 1) l a emid err') (sym (parts now at)) (faults_of_first P w (n + 1) (lines text) (lines (rest ++ now)) emid err' faults a (subst (λ l. AllSaid P l a) (parts now at) said))

      pub text_ends : SaysOnce P → Ends P w start left' out out' err err'
      text_ends once = record {
        words = known start left' (sofar.handled ++ j.bytes.items) _ holds.given (λ input now at is. all_words once out' err' input (text ++ (rest ++ now)) (split input now is) (more_words now at));
        faults = known start left' (sofar.handled ++ j.bytes.items) _ holds.given (λ input now at is. all_faults once out' err' input (text ++ (rest ++ now)) (split input now is) (more_words now at) (more_faults now at));
        given = known_until start left' left' (sofar.handled ++ j.bytes.items) (1024 * (sofar.batches + 1)) _ holds.given within (λ input now last at is bound. all_given once out' err' input (text ++ (rest ++ now)) (split input now is) (more_words now at) last bound);
      }

    -- less of the input is left
    pub text_smaller : IsIntake i → (k : Intake) → IsIntake k → k.bytes.items ≡ rest → k.given ≡ j.given → AreWhole 1024 text → 2 ^ 28 + length k.bytes.items - k.given < 2 ^ 28 + length i.bytes.items - i.given
    text_smaller is k next left_over given one =
        let a = sofar.holds.all in let b = holds.all in let c = ap length taken ∙ length-append text rest in let d = ap length left_over in let f = one.ends in let g = feeds_few text in
        let h = is.within in let l = next.within in
        omega (arith, a, b, c, d, f, g, h, l, given)

    module _ (t'' : Tally) (q both_read : Bool) (out' err' : Option (List ℕ)) (o'' e'' : ℕ) (spoken : Speaks P w (n + 1) t' t'' (lines text) mid out' emid err' q) (read : both_read ≡ (r && q)) (kept : (o'' ≡ o') × (e'' ≡ e')) (v' : Swept) (on : swept_sum v' ≡ swept_sum v + s.places * s.sweep * batches_of (length (lines text))) (m : ℕ) (counts : m ≡ n + length (lines text)) where
      spoken_both : Speaks P w 1 t t'' (lines sofar.handled ++ lines text) out out' err err' both_read
      spoken_both = subst (Speaks P w 1 t t'' (lines sofar.handled ++ lines text) out out' err err') (sym read) (speaks_more P w 1 (n + 1) t t' (lines sofar.handled) out mid out' err emid err' r sofar.speaks next t'' (lines text) q spoken)

      -- with what the callers did
      module _ (N : Normaliser) (c c' : Crew) (run : HasRun N c sofar.speaks.tallies sofar.batches) (runs : RunsAll N c c' (n + 1) spoken.tallies) where
        placed : length sofar.speaks.tallies ≡ n + 1 - 1
        placed = (let a = tallied_count (lines sofar.handled) sofar.speaks.answers sofar.speaks.tallies sofar.speaks.tallied in let d = sofar.whole.number in let f = sofar.counted in omega (arith, a, d, f))

        run_on : (us : List Tally) → RunsAll N c c' (n + 1) us × (length us ≡ length (lines text)) → HasRun N c' (sofar.speaks.tallies ++ us) (sofar.batches + batches_of (length (lines text)))
        run_on us (ran, count) = subst (λ k. HasRun N c' (sofar.speaks.tallies ++ us) (sofar.batches + batches_of k)) count (ran sofar.speaks.tallies sofar.batches placed run)

        pub both_by : SpeaksBy (λ ts. HasRun N c' ts (sofar.batches + batches_of (length (lines text)))) P w 1 t t'' (lines sofar.handled ++ lines text) out out' err err' both_read
        both_by = subst (λ b. SpeaksBy (λ ts. HasRun N c' ts (sofar.batches + batches_of (length (lines text)))) P w 1 t t'' (lines sofar.handled ++ lines text) out out' err err' b) (sym read)
            (speaks_more_by P w 1 (n + 1) t t' (lines sofar.handled) out mid out' err emid err' r sofar.speaks next (λ us. RunsAll N c c' (n + 1) us × (length us ≡ length (lines text))) _ run_on t'' (lines text) q (spoken, (runs, tallied_count (lines text) spoken.answers spoken.tallies spoken.tallied)))

      -- it was a whole batch
      pub so_far_more : (k : Intake) → k.bytes.items ≡ rest → k.given ≡ j.given → AreWhole 1024 text → SoFar P w s v' t t'' start left' k m both_read out out' err err' o o'' e e''
      so_far_more k left_over given one =
          let b = sofar.batches in
          let again : 1024 * b + 1024 ≡ 1024 * (b + 1) = omega arith in
          let beside = s.places * s.sweep in
          let single : batches_of (length (lines text)) ≡ 1 = ap batches_of one.number in
          let more : beside * (b + 1) ≡ beside * b + beside * 1 = omega arith in
          record {
            handled = sofar.handled ++ text;
            batches = b + 1;
            whole = subst (λ (c : ℕ). AreWhole c (sofar.handled ++ text)) again (whole_append (1024 * b) 1024 sofar.handled text sofar.whole one);
            counted = (let c = sofar.counted in let d = one.number in omega (arith, counts, c, d));
            swept = on ∙ (ap (λ c. c + beside * batches_of (length (lines text))) sofar.swept ∙ (ap (λ c. beside * b + beside * c) single ∙ sym more));
            holds = record {
              given = subst (Consumes start left') (ap (λ x. sofar.handled ++ x) (taken ∙ ap (λ x. text ++ x) (sym left_over)) ∙ sym (append_assoc sofar.handled text k.bytes.items)) holds.given;
              all = (let a = holds.all in let c = ap length taken ∙ length-append text rest in let d = length-append sofar.handled text in let f = ap length left_over in omega (arith, a, c, d, f, given));
            };
            within = within_grow start left' (1024 * (b + 1)) (1024 * (b + 1 + 1)) (omega arith) within;
            speaks = subst (λ l. Speaks P w 1 t t'' l out out' err err' both_read) (sym (sofar.whole.parts text)) spoken_both;
            out_kept = kept.0 ∙ sofar.out_kept;
            err_kept = kept.1 ∙ sofar.err_kept;
          }

      pub ran_more : (N : Normaliser) (c c' : Crew) → HasRun N c sofar.speaks.tallies sofar.batches → RunsAll N c c' (n + 1) spoken.tallies → (k : Intake) → k.bytes.items ≡ rest → k.given ≡ j.given → AreWhole 1024 text → Ran P N c' w s v' t t'' start left' k m both_read out out' err err' o o'' e e''
      unfolding so_far_more
      ran_more N c c' run runs k left_over given one =
          let single : sofar.batches + batches_of (length (lines text)) ≡ sofar.batches + 1 = ap (λ c. sofar.batches + batches_of c) one.number in
          let x = subst (λ l. SpeaksBy (λ ts. HasRun N c' ts (sofar.batches + 1)) P w 1 t t'' l out out' err err' both_read) (sym (sofar.whole.parts text)) (subst (λ b. SpeaksBy (λ ts. HasRun N c' ts b) P w 1 t t'' (lines sofar.handled ++ lines text) out out' err err' both_read) single (both_by N c c' run runs)) in
          record { far = record (so_far_more k left_over given one) { speaks = x.0 }; run = x.1 }

      -- it was the last
      module _ (nothing : rest ≡ []) (end : IsAtEnd left') where
        whole_input : IfSome start (λ input. lines input ≡ lines sofar.handled ++ lines text)
        whole_input = known start left' (sofar.handled ++ j.bytes.items) _ holds.given (λ input now at is.
            let none : now ≡ [] = subst (λ l. IsAtEnd l) at end in
            let all : input ≡ sofar.handled ++ text = split input now is ∙ ap (λ m. sofar.handled ++ (text ++ m)) (ap (λ x. x ++ now) nothing ∙ none) ∙ ap (λ m. sofar.handled ++ m) (append-nil text) in
            ap lines all ∙ sofar.whole.parts text)

        of_whole : (Q : List (List ℕ) → Type 0) → Q (lines sofar.handled ++ lines text) → IfSome start (λ input. Q (lines input))
        of_whole Q h = go start whole_input
          where
            go : (o : Option (List ℕ)) → IfSome o (λ input. lines input ≡ lines sofar.handled ++ lines text) → IfSome o (λ input. Q (lines input))
            go None k = tt
            go (Some input) k = subst Q (sym k) h

        last_number : m ≡ length (lines sofar.handled ++ lines text)
        last_number = let a = length-append (lines sofar.handled) (lines text) in let b = sofar.counted in let c = sofar.whole.number in omega (arith, counts, a, b, c)

        pub last_count : IfSome start (λ input. m ≡ length (lines input))
        last_count = of_whole (λ l. m ≡ length l) last_number

        pub last_swept : length (lines text) ≤ 1024 → IfSome start (λ input. HasSwept s (length (lines input)) v')
        last_swept few =
            let b = sofar.batches in
            let k = length (lines text) in
            let beside = s.places * s.sweep in
            let size : length (lines sofar.handled ++ lines text) ≡ 1024 * b + k = length-append (lines sofar.handled) (lines text) ∙ ap (λ c. c + k) sofar.whole.number in
            let number : batches_of (1024 * b + k) ≡ b + batches_of k = omega arith in
            let apart : beside * (b + batches_of k) ≡ beside * b + beside * batches_of k = omega arith in
            of_whole (λ l. HasSwept s (length l) v')
            (on ∙ (ap (λ c. c + beside * batches_of k) sofar.swept ∙ (sym apart ∙ ap (λ c. beside * c) (sym (ap batches_of size ∙ number)))))

        pub last_ran : (N : Normaliser) (c c' : Crew) → HasRun N c sofar.speaks.tallies sofar.batches → RunsAll N c c' (n + 1) spoken.tallies → IfSome start (λ input. SpeaksBy (λ ts. HasRun N c' ts (batches_of (length (lines input)))) P w 1 t t'' (lines input) out out' err err' both_read)
        last_ran N c c' run runs =
            let b = sofar.batches in
            let k = length (lines text) in
            let size : length (lines sofar.handled ++ lines text) ≡ 1024 * b + k = length-append (lines sofar.handled) (lines text) ∙ ap (λ c. c + k) sofar.whole.number in
            let number : batches_of (1024 * b + k) ≡ b + batches_of k = omega arith in
            of_whole (λ l. SpeaksBy (λ ts. HasRun N c' ts (batches_of (length l))) P w 1 t t'' l out out' err err' both_read)
            (subst (λ m. SpeaksBy (λ ts. HasRun N c' ts m) P w 1 t t'' (lines sofar.handled ++ lines text) out out' err err' both_read) (sym (ap batches_of size ∙ number)) (both_by N c c' run runs))
