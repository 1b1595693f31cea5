-- What lines say, summed up batch by batch.
use Rattle.std.proofs.Common.{◌≡◌, ◌<◌, ◌≤◌, ◌==◌, ℕ, suc, ◌+◌, ◌-◌, ◌*◌, List, [], ◌∷◌, ◌++◌, Bool, true, None, Ok, Err, Bor, cond, Vec, Global, get_or, length, map, take, refl, sym, ap, ◌∙◌, subst, append_assoc, append-nil, arith}
use Rattle.std.proofs.KnownBytes.{Appends-nil, Appends-trans}
use Rattle.std.proofs.Math.Dec.{eqb-suc-zero}
use Rattle.std.proofs.lemmas.List.{length-map, map-append, take_all}
use Rattle.std.proofs.lemmas.List.Sums.{sum_by-cons}
use Rattle.std.specs.Io.KnownBytes.{Appends}
use Rattle.std.specs.List.{count_by}
use Rattle.std.specs.Option.{is_none}
use Rattle.std.specs.declared.option.Option.{Option}
use Rattle.norm_base.specs.Bytes.{AppendsPrefix}
use Rattle.normaliser.specs.Lines.{Answer, Saying}
use Rattle.sample_lines.proofs.Batches.{length-sampled, sampled-none, sampled-then, state-none, state-then}
use Rattle.sample_lines.specs.Lines.{sampled}
use Rattle.sample_lines.specs.Summary.{Said, Totals, summary_text, totals_of}
use Rattle.speak_core.specs.Answers.{AllSaid, Tells, all_read, told}
use Rattle.shared_cascade.specs.Tallies.{no_tally}
use Rattle.shared_cascade.specs.declared.sweeping.Swept.{Swept}
use Rattle.shared_cascade.specs.declared.tallies.Tally.{Tally}
use Rattle.speak_core.specs.Reports.{AllTallied, Reporting, batches_of, end_text, if_wanted, reporting_of, swept_sum, with_tallies}
use Rattle.speak_core.specs.declared.batches.Heard.{Heard}
use Rattle.speak_core.specs.Crews.{HasRun, HasSwept, RunsOn}
use Rattle.speak_core.specs.declared.crews.Crew.{Crew}
use Rattle.normaliser.specs.declared.normalisers.Normaliser.{Normaliser}
use Rattle.speak_core.specs.Loaded.{SaysOnce}
use Rattle.speak_words.specs.declared.asked.Settings.{Settings}
use Rattle.speak_core.specs.Outputs.{said_of, sample_lines, summary_of}
use Rattle.speak_core.specs.Parts.{AnswersFront, AppendsSome, Speaks, SumsUp, SumsUpBy, TellsFront, TellsSome, Writes, answer_of, lines_of, tally_of}
use Rattle.speak_core.proofs.Said.{faults_of_first, faults_then, said_append, said_count, said_once, tallied_append, tallied_count, tells_none, told_append, told_until, told_whole, with_append}
use Rattle.speak_core.proofs.Tellings.{answers_few, batch_faults, faults_are, front_more, lines_are}

-- no line is refused where none is counted as refused
none_refused : (answers : List Answer) → (count_by is_none (map said_of answers) == 0) ≡ all_read answers
none_refused [] = refl
none_refused (Ok words ∷ answers) = none_refused answers
none_refused (Err fault ∷ answers) =
    let others = count_by is_none (map said_of answers) in
    let all = sum_by-cons (λ (said : Said). cond (is_none said) 1 0) None (map said_of answers) in
    let one : 1 + others ≡ suc others = omega arith in
    ap (λ (n : ℕ). n == 0) (all ∙ one) ∙ eqb-suc-zero others

-- one answer more was added to totals
pub adds_more : (answers : List (Heard)) (i : ℕ) (answer : Heard) (within : i < length answers) (there : answer ≡ get_or answers i answer) (said : Said) (old mid new : Totals) → said ≡ said_of (answer_of answer)
    → ((before : List Said) → old ≡ totals_of before → mid ≡ totals_of (before ++ map said_of (take i (map answer_of answers)))) → ((before : List Said) → mid ≡ totals_of before → new ≡ totals_of (before ++ said ∷ []))
    → (before : List Said) → old ≡ totals_of before → new ≡ totals_of (before ++ map said_of (take (i + 1) (map answer_of answers)))
adds_more answers i answer within there said old mid new is_said so_far step before is =
    let front = take i (map answer_of answers) in
    let more : map said_of (take (i + 1) (map answer_of answers)) ≡ map said_of front ++ said ∷ [] =
    ap (map said_of) (front_more answers i answer within there) ∙ map-append said_of front (answer_of answer ∷ []) ∙ ap (λ s. map said_of front ++ s ∷ []) (sym is_said) in
    step (before ++ map said_of front) (so_far before is) ∙ ap totals_of (append_assoc before (map said_of front) (said ∷ []) ∙ ap (λ l. before ++ l) (sym more))

-- all of them were
pub adds_all : (answers : List (Heard)) (i : ℕ) → length answers ≤ i → (old new : Totals) → ((before : List Said) → old ≡ totals_of before → new ≡ totals_of (before ++ map said_of (take i (map answer_of answers))))
    → (before : List Said) → old ≡ totals_of before → new ≡ totals_of (before ++ map said_of (map answer_of answers))
adds_all answers i end old new so_far before is =
    let n = length-map answers answer_of in
    so_far before is ∙ ap (λ l. totals_of (before ++ map said_of l)) (take_all i (map answer_of answers) (omega (arith, n, end)))

-- the lines of a sample, counted
pub sample_counted : (n count start : ℕ) → n ≡ count → n ≡ length (sample_lines count start)
sample_counted n count start is = let k = length-sampled count start in omega (arith, is, k)

-- and what was swept beside them
pub sample_swept : (settings : Settings) (count start : ℕ) (swept : Swept) → HasSwept settings count swept → swept_sum swept ≡ (reporting_of settings).beside * batches_of (length (sample_lines count start))
sample_swept settings count start swept has = has ∙ ap (λ n. settings.places * settings.sweep * batches_of n) (sample_counted count count start refl)

module _ (P : Saying) where
  -- lines that were summed up were spoken, to an output of which nothing is known
  spoken : (w : Bool) (n : ℕ) (t t' : Tally) (xs : List (List ℕ)) (old new : Totals) (err err' : Option (List ℕ)) (s : SumsUp P w n t t' xs old new err err') → Speaks P w n t t' xs None None err err' (all_read s.answers)
  spoken w n t t' xs old new err err' s = record { answers = s.answers; said = s.said; tallies = s.tallies; tallied = s.tallied; words = tt; faults = s.faults; total = s.total; read = refl }

  sums_none : (w : Bool) (n : ℕ) (t : Tally) (old new : Totals) (err : Option (List ℕ)) → new ≡ old → SumsUp P w n t t [] old new err err
  sums_none w n t old new err same = record { answers = []; said = tt; added = λ before is. same ∙ is ∙ ap totals_of (sym (append-nil before)); tallies = []; tallied = tt; faults = Appends-nil err; total = refl }

  -- some lines, and then those after them
  sums_more : (w : Bool) (n m : ℕ) (t t' t'' : Tally) (xs ys : List (List ℕ)) (old mid new : Totals) (err emid err' : Option (List ℕ)) → SumsUp P w n t t' xs old mid err emid → m ≡ n + length xs → SumsUp P w m t' t'' ys mid new emid err' → SumsUp P w n t t'' (xs ++ ys) old new err err'
  sums_more w n m t t' t'' xs ys old mid new err emid err' s next u =
      let said = said_count P xs s.answers s.said in
      let counts = tallied_count xs s.answers s.tallies s.tallied ∙ sym said in
      let after : m ≡ n + length s.answers = omega (arith, next, said) in
      record {
        answers = s.answers ++ u.answers;
        said = said_append P xs ys s.answers u.answers s.said u.said;
        tallies = s.tallies ++ u.tallies;
        tallied = tallied_append xs ys s.answers u.answers s.tallies u.tallies s.tallied u.tallied;
        total = u.total ∙ ap (λ x. with_tallies x u.tallies) s.total ∙ sym (with_append t s.tallies u.tallies);
        faults = subst (Appends err err') (sym (told_append w n m s.answers u.answers s.tallies u.tallies counts after)) (Appends-trans err emid err' (told w n s.answers s.tallies) (told w m u.answers u.tallies) s.faults u.faults);
        added = λ before is.
            u.added (before ++ map said_of s.answers) (s.added before is)
            ∙ ap totals_of (append_assoc before (map said_of s.answers) (map said_of u.answers) ∙ ap (λ l. before ++ l) (sym (map-append said_of s.answers u.answers)));
      }

  sums_none_by : (Ran : List Tally → Type 0) → Ran [] → (w : Bool) (n : ℕ) (t : Tally) (old new : Totals) (err : Option (List ℕ)) → new ≡ old → SumsUpBy Ran P w n t t [] old new err err
  unfolding sums_none
  sums_none_by Ran ran w n t old new err same = (sums_none w n t old new err same, ran)

  sums_more_by : (Ran More : List Tally → Type 0) (w : Bool) (n m : ℕ) (t t' t'' : Tally) (xs ys : List (List ℕ)) (old mid new : Totals) (err emid err' : Option (List ℕ)) (s : SumsUp P w n t t' xs old mid err emid) → ((us : List Tally) → Ran us → More (s.tallies ++ us)) → m ≡ n + length xs → SumsUpBy Ran P w m t' t'' ys mid new emid err' → SumsUpBy More P w n t t'' (xs ++ ys) old new err err'
  unfolding sums_more
  sums_more_by Ran More w n m t t' t'' xs ys old mid new err emid err' s f next u = (sums_more w n m t t' t'' xs ys old mid new err emid err' s next u.0, f u.0.tallies u.1)

  -- no more answers than lines of a batch
  pub few_answers : (batch : List (Vec ℕ Global)) (lines : List (Bor (List ℕ))) (answers : List (Heard)) (whole : Bool) → lines_of lines ≡ map (λ line. line.items) batch → AnswersFront P (lines_of lines) (map answer_of answers) (map tally_of answers) whole → length answers ≤ length batch
  few_answers batch lines answers whole same a =
      let few = answers_few P lines answers whole a in
      let both = ap length same in
      let n = length-map lines (λ (l : Bor (List ℕ)). l.now) in
      let m = length-map batch (λ (l : Vec ℕ Global). l.items) in
      omega (arith, few, both, n, m)

  -- as many lines of a batch as were asked for
  pub batch_count : (batch : List (Vec ℕ Global)) (n x : ℕ) → map (λ line. line.items) batch ≡ (sampled n x).value → length batch ≡ n
  batch_count batch n x lines =
      let both = ap length lines in
      let m = length-map batch (λ (l : Vec ℕ Global). l.items) in
      let k = length-sampled n x in
      omega (arith, both, m, k)

  module _ (w : Bool) (first : ℕ) (all lines : List (List ℕ)) (heard : List Heard) (words faults : List ℕ) (answered whole : Bool) (same : lines ≡ all) (a : AnswersFront P lines (map answer_of heard) (map tally_of heard) answered) (t : TellsFront w first heard words faults whole) where
    of_all : AnswersFront P all (map answer_of heard) (map tally_of heard) answered
    of_all = subst (λ l. AnswersFront P l (map answer_of heard) (map tally_of heard) answered) same a

    -- the faults of a batch that were told are a front of all
    pub batch_front : SaysOnce P → (err err' : Option (List ℕ)) → AppendsPrefix err err' faults → (others : List Answer) → AllSaid P all others → TellsSome w first all others err err'
    batch_front once err err' front others said = batch_faults P w first all heard words faults answered whole of_all t once err err' front others said

    -- a batch was summed up
    pub batch_sums : answered ≡ true → whole ≡ true → (old new : Totals) (err err' : Option (List ℕ)) (total total' : Tally) → Appends err err' faults → ((before : List Said) → old ≡ totals_of before → new ≡ totals_of (before ++ map said_of (map answer_of heard)))
        → total' ≡ with_tallies total (map tally_of heard) → SumsUp P w first total total' all old new err err'
    batch_sums is_answered is_whole old new err err' total total' told_all added counted =
        let lines_same = lines_are P w first all heard words faults answered whole of_all t is_answered in
        record {
          answers = map answer_of heard;
          said = subst (λ l. AllSaid P l (map answer_of heard)) (sym lines_same) of_all.said;
          added = added;
          tallies = map tally_of heard;
          tallied = subst (λ l. AllTallied l (map answer_of heard) (map tally_of heard)) (sym lines_same) of_all.tallied;
          faults = subst (Appends err err') (faults_are P w first all heard words faults answered whole of_all t is_whole) told_all;
          total = counted;
        }

    pub batch_sums_by : (Ran : List Tally → Type 0) → answered ≡ true → whole ≡ true → (old new : Totals) (err err' : Option (List ℕ)) (total total' : Tally) → Appends err err' faults → ((before : List Said) → old ≡ totals_of before → new ≡ totals_of (before ++ map said_of (map answer_of heard)))
        → total' ≡ with_tallies total (map tally_of heard) → Ran (map tally_of heard) → SumsUpBy Ran P w first total total' all old new err err'
    unfolding batch_sums
    batch_sums_by Ran is_answered is_whole old new err err' total total' told_all added counted ran = (batch_sums is_answered is_whole old new err err' total total' told_all added counted, ran)

  -- the first lines of a sample were summed up, and the next one is made of this state
  pub record SummedTo (w : Bool) (t t' : Tally) (start done state : ℕ) (now : Totals) (err err' : Option (List ℕ)) (e e' : ℕ) : Type 0 where
    pub sums : SumsUp P w 1 t t' (sampled done start).value (totals_of []) now err err'
    pub goes_on : state ≡ (sampled done start).state
    pub kept : e' ≡ e

  -- and the callers did what was told of the lines
  pub record SummedBy (N : Normaliser) (c : Crew) (w : Bool) (t t' : Tally) (start done state : ℕ) (now : Totals) (err err' : Option (List ℕ)) (e e' : ℕ) : Type 0 where
    pub far : SummedTo w t t' start done state now err err' e e'
    pub run : HasRun N c far.sums.tallies (batches_of done)

  pub summed_none_by : (N : Normaliser) (c : Crew) → HasRun N c [] 0 → (w : Bool) (t : Tally) (start : ℕ) (now : Totals) (err : Option (List ℕ)) (e : ℕ) → now ≡ totals_of [] → SummedBy N c w t t start 0 start now err err e e
  summed_none_by N c run w t start now err e is =
      let x = subst (λ l. SumsUpBy (λ ts. HasRun N c ts 0) P w 1 t t l (totals_of []) now err err) (sym (sampled-none start)) (sums_none_by (λ ts. HasRun N c ts 0) run w 1 t (totals_of []) now err is) in
      record { far = record { sums = x.0; goes_on = sym (state-none start); kept = refl }; run = x.1 }

  module _ (w : Bool) (t t' : Tally) (start done state : ℕ) (now : Totals) (err emid : Option (List ℕ)) (e e' : ℕ) (sofar : SummedTo w t t' start done state now err emid e e') where
    abbrev first : List (List ℕ)
    first = (sampled done start).value

    count_first : (n : ℕ) → n ≡ done + 1 → n ≡ 1 + length first
    count_first n is = let c = length-sampled done start in omega (arith, is, c)

    -- as many lines are counted
    pub summed_count : now.lines ≡ done
    summed_count =
        let counted = ap (λ (u : Totals). u.lines) (sofar.sums.added [] refl) in
        let n = length-map sofar.sums.answers said_of in
        let m = said_count P first sofar.sums.answers sofar.sums.said in
        let k = length-sampled done start in
        omega (arith, counted, n, m, k)

    -- n lines more
    lines_more : (n : ℕ) → (sampled (done + n) start).value ≡ first ++ (sampled n state).value
    lines_more n = sampled-then done n start ∙ ap (λ s. first ++ (sampled n s).value) (sym sofar.goes_on)

    -- one batch more
    pub summed_more : (t'' : Tally) (size n next : ℕ) (batch : List (List ℕ)) (new : Totals) (err' : Option (List ℕ)) (e'' : ℕ) → batch ≡ (sampled size state).value → next ≡ (sampled size state).state → n ≡ done + 1
        → SumsUp P w n t' t'' batch now new emid err' → e'' ≡ e' → SummedTo w t t'' start (done + size) next new err err' e e''
    summed_more t'' size n next batch new err' e'' lines goes_on numbered summed kept = record {
      sums = subst (λ l. SumsUp P w 1 t t'' l (totals_of []) new err err') (ap (λ l. first ++ l) lines ∙ sym (lines_more size)) (sums_more w 1 n t t' t'' first batch (totals_of []) now new err emid err' sofar.sums (count_first n numbered) summed);
      goes_on = goes_on ∙ ap (λ s. (sampled size s).state) sofar.goes_on ∙ sym (state-then done size start);
      kept = kept ∙ sofar.kept;
    }

    pub summed_more_by : (N : Normaliser) (c c' : Crew) → HasRun N c sofar.sums.tallies (batches_of done) → (t'' : Tally) (size n next : ℕ) (batch : List (List ℕ)) (new : Totals) (err' : Option (List ℕ)) (e'' : ℕ) → batch ≡ (sampled size state).value → next ≡ (sampled size state).state → n ≡ done + 1
        → SumsUpBy (RunsOn N c c' n) P w n t' t'' batch now new emid err' → e'' ≡ e' → batches_of (done + size) ≡ batches_of done + 1 → SummedBy N c' w t t'' start (done + size) next new err err' e e''
    summed_more_by N c c' run t'' size n next batch new err' e'' lines goes_on numbered summed kept one =
        let placed : length sofar.sums.tallies ≡ n - 1 = (let a = tallied_count first sofar.sums.answers sofar.sums.tallies sofar.sums.tallied in let k = length-sampled done start in omega (arith, a, k, numbered)) in
        let both = sums_more_by (RunsOn N c c' n) (λ ts. HasRun N c' ts (batches_of (done + size))) w 1 n t t' t'' first batch (totals_of []) now new err emid err' sofar.sums (λ us runs. subst (HasRun N c' (sofar.sums.tallies ++ us)) (sym one) (runs sofar.sums.tallies (batches_of done) placed run)) (count_first n numbered) summed in
        let x = subst (λ l. SumsUpBy (λ ts. HasRun N c' ts (batches_of (done + size))) P w 1 t t'' l (totals_of []) new err err') (ap (λ l. first ++ l) lines ∙ sym (lines_more size)) both in
        record { far = record (summed_more t'' size n next batch new err' e'' lines goes_on numbered summed.0 kept) { sums = x.0 }; run = x.1 }

    -- where a batch is cut off, a front of all faults is written
    faults_more : SaysOnce P → (n : ℕ) → n ≡ done + 1 → (rest : ℕ) (err' : Option (List ℕ)) → ((a : List Answer) → AllSaid P (sampled rest state).value a → TellsSome w n (sampled rest state).value a emid err')
        → (all : List Answer) → AllSaid P (sampled (done + rest) start).value all → TellsSome w 1 (sampled (done + rest) start).value all err err'
    faults_more once n numbered rest err' front all said =
        subst (λ l. TellsSome w 1 l all err err') (sym (lines_more rest))
        (faults_then P w 1 n t t' first None None None err emid err' (all_read sofar.sums.answers) (spoken w 1 t t' first (totals_of []) now err emid sofar.sums) (count_first n numbered) once (sampled rest state).value front all (subst (λ l. AllSaid P l all) (lines_more rest) said))

    pub summed_cut : SaysOnce P → (count size n : ℕ) (batch : List (List ℕ)) (err' : Option (List ℕ)) → done + size ≤ count → batch ≡ (sampled size state).value → n ≡ done + 1 → ((a : List Answer) → AllSaid P batch a → TellsSome w n batch a emid err')
        → (all : List Answer) → AllSaid P (sample_lines count start) all → TellsSome w 1 (sample_lines count start) all err err'
    summed_cut once count size n batch err' fits lines numbered front all said =
        let left = count - (done + size) in
        let whole : count ≡ done + (size + left) = omega (arith, fits) in
        let after = (sampled left (sampled size state).state).value in
        let split : (sampled (size + left) state).value ≡ batch ++ after = sampled-then size left state ∙ ap (λ l. l ++ after) (sym lines) in
        subst (λ k. TellsSome w 1 (sampled k start).value all err err') (sym whole)
        (faults_more once n numbered (size + left) err'
        (λ a p. subst (λ l. TellsSome w n l a emid err') (sym split) (faults_of_first P w n batch after emid err' front a (subst (λ l. AllSaid P l a) split p)))
        all (subst (λ k. AllSaid P (sampled k start).value all) whole said))

    -- what was written so far is a front of all faults
    pub summed_front : SaysOnce P → (count : ℕ) → done ≤ count → (all : List Answer) → AllSaid P (sample_lines count start) all → TellsSome w 1 (sample_lines count start) all err emid
    summed_front once count fits all said =
        let whole : count ≡ done + (count - done) = omega (arith, fits) in
        subst (λ k. TellsSome w 1 (sampled k start).value all err emid) (sym whole)
        (faults_more once (done + 1) refl (count - done) emid (λ a p. tells_none P w (done + 1) (sampled (count - done) state).value a emid p) all (subst (λ k. AllSaid P (sampled k start).value all) whole said))

    -- at the end all lines are summed up
    pub summed_all_by : (N : Normaliser) (c : Crew) → HasRun N c sofar.sums.tallies (batches_of done) → (count : ℕ) → done ≡ count → SumsUpBy (λ ts. HasRun N c ts (batches_of count)) P w 1 t t' (sample_lines count start) (totals_of []) now err emid
    summed_all_by N c run count end = subst (λ k. SumsUpBy (λ ts. HasRun N c ts (batches_of k)) P w 1 t t' (sampled k start).value (totals_of []) now err emid) end (sofar.sums, run)

  -- where the total is cut off, a front of all is told
  pub summed_until : (w : Reporting) (t : Tally) (all : List (List ℕ)) (old now : Totals) (err emid err' : Option (List ℕ)) → SumsUp P w.wanted 1 no_tally t all old now err emid → SaysOnce P → (n : ℕ) → n ≡ length all → (swept : Swept) → swept_sum swept ≡ w.beside * batches_of (length all)
      → AppendsPrefix emid err' (if_wanted w.wanted (end_text w.beside n t swept))
      → (answers : List Answer) → AllSaid P all answers → AppendsSome (Tells w all answers) err err'
  summed_until w t all old now err emid err' s once n counted swept sums last answers said =
      subst (λ a. AppendsSome (Tells w all a) err err') (said_once P once all s.answers answers s.said said) (told_until P w t all s.answers s.said s.tallies s.tallied s.total err emid err' s.faults n counted swept sums last)

  -- lines that were summed up from no lines on, by what is known of the report
  pub sums_anew : (w v : Bool) (u t : Tally) (all : List (List ℕ)) (old new : Totals) (err err' : Option (List ℕ)) → v ≡ w → u ≡ no_tally → SumsUp P v 1 u t all old new err err' → SumsUp P w 1 no_tally t all old new err err'
  sums_anew w v u t all old new err err' wanted none h = subst (λ b. SumsUp P b 1 no_tally t all old new err err') wanted (subst (λ x. SumsUp P v 1 x t all old new err err') none h)

  module _ (w : Reporting) (t : Tally) (all : List (List ℕ)) (now : Totals) (err emid err' : Option (List ℕ)) (s : SumsUp P w.wanted 1 no_tally t all (totals_of []) now err emid) (text : List ℕ) (is_text : text ≡ summary_text now) where
    totals : now ≡ totals_of (map said_of s.answers)
    totals = s.added [] refl

    -- the summary's text is that of what the lines say
    pub summed_writes : (out out' : Option (List ℕ)) (r : Bool) → Appends out out' text → r ≡ (now.refused == 0) → (n : ℕ) → n ≡ length all → (swept : Swept) → swept_sum swept ≡ w.beside * batches_of (length all) → Appends emid err' (if_wanted w.wanted (end_text w.beside n t swept)) → Writes P w all summary_of out out' err err' r
    summed_writes out out' r wrote read n counted swept sums last = record {
      answers = s.answers;
      said = s.said;
      output = subst (Appends out out') (is_text ∙ ap summary_text totals) wrote;
      faults = told_whole P w t all s.answers s.said s.tallies s.tallied s.total err emid err' s.faults n counted swept sums last;
      read = read ∙ ap (λ (u : Totals). u.refused == 0) totals ∙ none_refused s.answers;
    }

    pub summed_output : SaysOnce P → (out out' : Option (List ℕ)) → AppendsPrefix out out' text → (answers : List Answer) → AllSaid P all answers → AppendsPrefix out out' (summary_of answers)
    summed_output once out out' front answers said = subst (AppendsPrefix out out') (is_text ∙ ap summary_text totals ∙ ap summary_of (said_once P once all s.answers answers s.said said)) front
