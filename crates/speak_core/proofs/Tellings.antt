-- A batch of lines that was answered, told and written.
use Rattle.std.proofs.Common.{◌≡◌, ◌<◌, ◌≤◌, ℕ, ◌+◌, List, [], ◌∷◌, ◌++◌, Bool, true, Bor, get_or, length, map, take, drop, refl, sym, ap, ◌∙◌, subst, append_assoc, append-nil, length-append, take-append-drop, arith}
use Rattle.std.proofs.lemmas.List.{get_or-map, length-map, length-take-le, map-append, take_more}
use Rattle.std.specs.Io.KnownBytes.{Appends}
use Rattle.std.specs.declared.option.Option.{Option}
use Rattle.norm_base.specs.Bytes.{AppendsPrefix}
use Rattle.norm_base.proofs.Front.{prefix_first}
use Rattle.normaliser.specs.Lines.{Answer, Saying}
use Rattle.shared_cascade.specs.declared.tallies.Tally.{Tally}
use Rattle.speak_core.specs.Answers.{AllSaid, all_read, line_text, told, words_text, written}
use Rattle.speak_core.specs.Reports.{AllTallied, with_tallies}
use Rattle.speak_core.specs.declared.batches.Heard.{Heard}
use Rattle.speak_core.specs.Loaded.{SaysOnce}
use Rattle.speak_core.specs.Parts.{AnswersFront, Speaks, SpeaksBy, TellsFront, TellsSome, answer_of, lines_of, tally_of}
use Rattle.speak_core.proofs.Untold.{untold_of, untold_tallied}
use Rattle.speak_core.proofs.Said.{halves, said_count, said_once, tallied_append, told_append, told_more, written_append, written_more}

-- no more answers than lines
pub answers_few : (P : Saying) (lines : List (Bor (List ℕ))) (all : List (Heard)) (whole : Bool) → AnswersFront P (lines_of lines) (map answer_of all) (map tally_of all) whole → length all ≤ length lines
answers_few P lines all whole a =
    let count = said_count P a.done (map answer_of all) a.said in
    let both = ap length a.parts ∙ length-append a.done a.left in
    let n = length-map all answer_of in
    let m = length-map lines (λ (l : Bor (List ℕ)). l.now) in
    omega (arith, count, both, n, m)

module _ (answers : List (Heard)) (i : ℕ) (answer : Heard) (within : i < length answers) (there : answer ≡ get_or answers i answer) where
  pub front_more : take (i + 1) (map answer_of answers) ≡ take i (map answer_of answers) ++ answer_of answer ∷ []
  front_more =
      let inside : i < length (map answer_of answers) = subst (λ n. i < n) (sym (length-map answers answer_of)) within in
      let at : answer_of answer ≡ get_or (map answer_of answers) i (answer_of answer) = ap answer_of there ∙ sym (get_or-map answer_of answers i answer (answer_of answer) within) in
      take_more (map answer_of answers) i (answer_of answer) inside ∙ ap (λ a. take i (map answer_of answers) ++ a ∷ []) (sym at)

  heard_more : take (i + 1) answers ≡ take i answers ++ answer ∷ []
  heard_more = take_more answers i answer within ∙ ap (λ y. take i answers ++ y ∷ []) (sym there)

  mapped_more : {X : Type 0} (f : Heard → X) → map f (take (i + 1) answers) ≡ map f (take i answers) ++ f answer ∷ []
  mapped_more f = ap (map f) heard_more ∙ map-append f (take i answers) (answer ∷ [])

  -- one line more was told
  pub tells_words : (words new : List ℕ) → words ≡ written (map answer_of (take i answers)) → new ≡ words ++ words_text (answer_of answer) → new ≡ written (map answer_of (take (i + 1) answers))
  tells_words words new so_far is = is ∙ (ap (λ t. t ++ words_text (answer_of answer)) so_far ∙ (sym (written_more (map answer_of (take i answers)) (answer_of answer)) ∙ ap written (sym (mapped_more answer_of))))

  pub tells_faults : (report : Bool) (first number : ℕ) (faults new : List ℕ) → number ≡ first + i → faults ≡ told report first (map answer_of (take i answers)) (map tally_of (take i answers)) → new ≡ faults ++ line_text report number (answer_of answer) (tally_of answer)
      → new ≡ told report first (map answer_of (take (i + 1) answers)) (map tally_of (take (i + 1) answers))
  tells_faults report first number faults new counted so_far is =
      let said = map answer_of (take i answers) in
      let ts = map tally_of (take i answers) in
      let n = length-map (take i answers) answer_of in
      let m = length-map (take i answers) tally_of in
      let k = length-take-le i answers (let h : i < length answers = within in omega (arith, h)) in
      let both : length ts ≡ length said = omega (arith, n, m) in
      let next : number ≡ first + length said = omega (arith, counted, n, k) in
      is ∙ (ap (λ t. t ++ line_text report number (answer_of answer) (tally_of answer)) so_far
      ∙ (sym (told_more report first number said (answer_of answer) ts (tally_of answer) both next)
      ∙ (ap (λ a. told report first a (ts ++ tally_of answer ∷ [])) (sym (mapped_more answer_of)) ∙ ap (told report first (map answer_of (take (i + 1) answers))) (sym (mapped_more tally_of)))))

module _ (report : Bool) (first : ℕ) (heard : List Heard) (i : ℕ) (words faults : List ℕ) (whole : Bool) (w : words ≡ written (map answer_of (take i heard))) (f : faults ≡ told report first (map answer_of (take i heard)) (map tally_of (take i heard))) where
  -- the lines before a place were told
  pub tells_front : (whole ≡ true → drop i heard ≡ []) → TellsFront report first heard words faults whole
  tells_front end = record { done = take i heard; left = drop i heard; parts = sym (take-append-drop i heard); all_words = w; all_faults = f; whole = end }

module _ (P : Saying) (report : Bool) (first : ℕ) (all : List (List ℕ)) (heard : List Heard) (words faults : List ℕ) (answered whole : Bool) (a : AnswersFront P all (map answer_of heard) (map tally_of heard) answered) (t : TellsFront report first heard words faults whole) where
  answers_are_parts : map answer_of heard ≡ map answer_of t.done ++ map answer_of t.left
  answers_are_parts = ap (map answer_of) t.parts ∙ map-append answer_of t.done t.left

  tallies_are_parts : map tally_of heard ≡ map tally_of t.done ++ map tally_of t.left
  tallies_are_parts = ap (map tally_of) t.parts ∙ map-append tally_of t.done t.left

  both_many : length (map tally_of t.done) ≡ length (map answer_of t.done)
  both_many = length-map t.done tally_of ∙ sym (length-map t.done answer_of)

  -- what the lines say begins with what was told
  record Begins (others : List Answer) : Type 0 where
    back : List Answer
    untold : AllSaid P a.left back
    all_heard : others ≡ map answer_of heard ++ back
    parts : others ≡ map answer_of t.done ++ (map answer_of t.left ++ back)

  begins : SaysOnce P → (others : List Answer) → AllSaid P all others → Begins others
  begins once others p =
      let h = halves P a.done a.left others (subst (λ l. AllSaid P l others) a.parts p) in
      let same : h.front ≡ map answer_of heard = said_once P once a.done h.front (map answer_of heard) h.first a.said in
      record {
        back = h.back;
        untold = h.second;
        all_heard = h.parts ∙ ap (λ l. l ++ h.back) same;
        parts = h.parts ∙ ap (λ l. l ++ h.back) (same ∙ answers_are_parts) ∙ append_assoc (map answer_of t.done) (map answer_of t.left) h.back;
      }

  pub batch_words : SaysOnce P → (old new : Option (List ℕ)) → AppendsPrefix old new words → (others : List Answer) → AllSaid P all others → AppendsPrefix old new (written others)
  batch_words once old new front others p =
      let b = begins once others p in
      subst (AppendsPrefix old new) (sym (ap written b.parts ∙ written_append (map answer_of t.done) (map answer_of t.left ++ b.back))) (prefix_first old new (written (map answer_of t.done)) (written (map answer_of t.left ++ b.back)) (subst (AppendsPrefix old new) t.all_words front))

  pub batch_faults : SaysOnce P → (old new : Option (List ℕ)) → AppendsPrefix old new faults → (others : List Answer) → AllSaid P all others → TellsSome report first all others old new
  batch_faults once old new front others p =
      let b = begins once others p in
      let said = map answer_of t.done in
      let ts = map tally_of t.done in
      let us = map tally_of t.left ++ untold_of a.left in
      let next = first + length said in
      let heard_tallies = map tally_of heard ++ untold_of a.left in
      let shape : heard_tallies ≡ ts ++ us = ap (λ l. l ++ untold_of a.left) tallies_are_parts ∙ append_assoc ts (map tally_of t.left) (untold_of a.left) in
      let filled = tallied_append a.done a.left (map answer_of heard) b.back (map tally_of heard) (untold_of a.left) a.tallied (untold_tallied a.left b.back (said_count P a.left b.back b.untold)) in
      record {
        tallies = ts ++ us;
        tallied = subst (AllTallied all others) shape (subst (λ o. AllTallied all o heard_tallies) (sym b.all_heard) (subst (λ l. AllTallied l (map answer_of heard ++ b.back) heard_tallies) (sym a.parts) filled));
        front = subst (AppendsPrefix old new) (sym (ap (λ o. told report first o (ts ++ us)) b.parts ∙ told_append report first next said (map answer_of t.left ++ b.back) ts us both_many refl))
            (prefix_first old new (told report first said ts) (told report next (map answer_of t.left ++ b.back) us) (subst (AppendsPrefix old new) t.all_faults front));
      }

  -- all of it was told

  pub lines_are : answered ≡ true → all ≡ a.done
  lines_are is_answered = a.parts ∙ ap (λ l. a.done ++ l) (a.whole is_answered) ∙ append-nil a.done

  pub faults_are : whole ≡ true → faults ≡ told report first (map answer_of heard) (map tally_of heard)
  faults_are is_whole =
      let same : heard ≡ t.done = t.parts ∙ ap (λ l. t.done ++ l) (t.whole is_whole) ∙ append-nil t.done in
      t.all_faults ∙ ap (λ l. told report first (map answer_of l) (map tally_of l)) (sym same)

  pub batch_speaks : answered ≡ true → whole ≡ true → (out out' err err' : Option (List ℕ)) (r : Bool) (total total' : Tally) → Appends out out' words → Appends err err' faults → total' ≡ with_tallies total (map tally_of heard) → r ≡ all_read (map answer_of heard)
      → Speaks P report first total total' all out out' err err' r
  batch_speaks is_answered is_whole out out' err err' r total total' wrote told_all counted is_read =
      let same : heard ≡ t.done = t.parts ∙ ap (λ l. t.done ++ l) (t.whole is_whole) ∙ append-nil t.done in
      record {
        answers = map answer_of heard;
        said = subst (λ l. AllSaid P l (map answer_of heard)) (sym (lines_are is_answered)) a.said;
        tallies = map tally_of heard;
        tallied = subst (λ l. AllTallied l (map answer_of heard) (map tally_of heard)) (sym (lines_are is_answered)) a.tallied;
        words = subst (Appends out out') (t.all_words ∙ ap (λ l. written (map answer_of l)) (sym same)) wrote;
        faults = subst (Appends err err') (faults_are is_whole) told_all;
        total = counted;
        read = is_read;
      }

  pub batch_ran : (Ran : List Tally → Type 0) → answered ≡ true → whole ≡ true → (out out' err err' : Option (List ℕ)) (r : Bool) (total total' : Tally) → Appends out out' words → Appends err err' faults → total' ≡ with_tallies total (map tally_of heard) → r ≡ all_read (map answer_of heard) → Ran (map tally_of heard)
      → SpeaksBy Ran P report first total total' all out out' err err' r
  unfolding batch_speaks
  batch_ran Ran is_answered is_whole out out' err err' r total total' wrote told_all counted is_read ran = (batch_speaks is_answered is_whole out out' err err' r total total' wrote told_all counted is_read, ran)
