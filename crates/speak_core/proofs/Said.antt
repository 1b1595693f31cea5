-- What lines say: each says one thing, and more lines say more.
use Rattle.std.proofs.Common.{◌≡◌, ℕ, ◌+◌, ◌*◌, suc, List, [], ◌∷◌, ◌++◌, Bool, true, ◌&&◌, length, refl, sym, ap, ◌∙◌, subst, append_assoc, append-nil, arith}
use Rattle.std.proofs.KnownBytes.{Appends-nil, Appends-trans}
use Rattle.std.proofs.lemmas.List.Folds.{list_all-append}
use Rattle.std.specs.Io.KnownBytes.{Appends}
use Rattle.std.specs.declared.option.Option.{Option}
use Rattle.norm_base.specs.Bytes.{AppendsPrefix}
use Rattle.norm_base.proofs.Front.{prefix_first, prefix_none, prefix_then}
use Rattle.normaliser.specs.Lines.{Answer, Saying}
use Rattle.normaliser.proofs.Alike.{classified_alike, words_alike}
use Rattle.normaliser.proofs.Once.{classified_once, words_once}
use Rattle.weighted_relations.specs.RelationLaws.{same_sym}
use Rattle.weighted_relations.specs.Relations.{Relation, Same}
use Rattle.speak_core.specs.Answers.{AllSaid, Tells, all_read, is_read, line_text, told, told_all, words_text, written}
use Rattle.shared_cascade.specs.Tallies.{no_tally}
use Rattle.shared_cascade.specs.declared.sweeping.Swept.{Swept}
use Rattle.shared_cascade.specs.declared.tallies.Tally.{Tally}
use Rattle.speak_core.specs.Reports.{AllTallied, Reporting, batches_of, end_text, if_wanted, swept_sum, with_tallies, with_tally}
use Rattle.speak_core.specs.Loaded.{SaySame, SaysOnce}
use Rattle.speak_core.specs.Parts.{AppendsOne, AppendsSome, Speaks, SpeaksBy, TellsSome, says_of}
use Rattle.speak_core.specs.Plans.{says_in}
use Rattle.speak_core.specs.declared.requests.Mode.{Mode}
use Rattle.speak_core.specs.declared.requests.Mode.TheVariants.{Classify, Speak}
use Rattle.speak_core.specs.declared.speakers.Speaker.{Speaker}
use Rattle.speak_core.proofs.Untold.{untold_of, untold_tallied}

-- a line says one thing
pub says_once : (mode : Mode) (C V : Relation) → SaysOnce (says_in mode C V)
says_once Classify C V line a b p q = classified_once line C a b p q
says_once Speak C V line a b p q = words_once C V line a b p q

pub speaker_once : (s : Speaker) → SaysOnce (says_of s)
speaker_once s = says_once s.mode _ _

-- relations with the same readings say the same
pub says_alike : (mode : Mode) (C D V W : Relation) → Same C D → Same V W → SaySame (says_in mode C V) (says_in mode D W)
says_alike Classify C D V W f g line a = (classified_alike C D f line a, classified_alike D C (same_sym C D f) line a)
says_alike Speak C D V W f g line a = (words_alike C D V W f g line a, words_alike D C W V (same_sym C D f) (same_sym V W g) line a)

pub written_append : (a b : List Answer) → written (a ++ b) ≡ written a ++ written b
written_append [] b = refl
written_append (c ∷ a) b = ap (λ t. words_text c ++ t) (written_append a b) ∙ sym (append_assoc (words_text c) (written a) (written b))

pub told_append : (r : Bool) (n m : ℕ) (a b : List Answer) (ts us : List Tally) → length ts ≡ length a → m ≡ n + length a → told r n (a ++ b) (ts ++ us) ≡ told r n a ts ++ told r m b us
told_append r n m [] b [] us l e = let f : n ≡ m = omega (arith, e) in ap (λ k. told r k b us) f
told_append r n m [] b (t ∷ ts) us l e = absurd (omega (arith, l))
told_append r n m (c ∷ a) b [] us l e = absurd (omega (arith, l))
told_append r n m (c ∷ a) b (t ∷ ts) us l e =
    ap (λ x. line_text r n c t ++ x) (told_append r (n + 1) m a b ts us (omega (arith, l)) (omega (arith, e))) ∙ sym (append_assoc (line_text r n c t) (told r (n + 1) a ts) (told r m b us))

-- tallies

pub tallied_count : (xs : List (List ℕ)) (answers : List Answer) (ts : List Tally) → AllTallied xs answers ts → length ts ≡ length xs
tallied_count [] [] [] p = refl
tallied_count [] [] (t ∷ ts) p = absurd p
tallied_count [] (a ∷ answers) ts p = absurd p
tallied_count (x ∷ xs) [] ts p = absurd p
tallied_count (x ∷ xs) (a ∷ answers) [] p = absurd p
tallied_count (x ∷ xs) (a ∷ answers) (t ∷ ts) p = ap suc (tallied_count xs answers ts p.1)

pub tallied_append : (xs ys : List (List ℕ)) (a b : List Answer) (ts us : List Tally) → AllTallied xs a ts → AllTallied ys b us → AllTallied (xs ++ ys) (a ++ b) (ts ++ us)
tallied_append [] ys [] b [] us p q = q
tallied_append [] ys [] b (t ∷ ts) us p q = absurd p
tallied_append [] ys (c ∷ a) b ts us p q = absurd p
tallied_append (x ∷ xs) ys [] b ts us p q = absurd p
tallied_append (x ∷ xs) ys (c ∷ a) b [] us p q = absurd p
tallied_append (x ∷ xs) ys (c ∷ a) b (t ∷ ts) us p q = (p.0, tallied_append xs ys a b ts us p.1 q)

pub with_append : (t : Tally) (ts us : List Tally) → with_tallies t (ts ++ us) ≡ with_tallies (with_tallies t ts) us
with_append t [] us = refl
with_append t (u ∷ ts) us = with_append (with_tally t u) ts us

pub written_more : (a : List Answer) (c : Answer) → written (a ++ c ∷ []) ≡ written a ++ words_text c
written_more a c = written_append a (c ∷ []) ∙ ap (λ t. written a ++ t) (append-nil (words_text c))

pub told_more : (r : Bool) (n m : ℕ) (a : List Answer) (c : Answer) (ts : List Tally) (u : Tally) → length ts ≡ length a → m ≡ n + length a → told r n (a ++ c ∷ []) (ts ++ u ∷ []) ≡ told r n a ts ++ line_text r m c u
told_more r n m a c ts u l e = told_append r n m a (c ∷ []) ts (u ∷ []) l e ∙ ap (λ t. told r n a ts ++ t) (append-nil (line_text r m c u))

pub all_said_to : (P Q : Saying) → ((line : List ℕ) (a : Answer) → P line a → Q line a) → (all : List (List ℕ)) (answers : List Answer) → AllSaid P all answers → AllSaid Q all answers
all_said_to P Q f [] [] p = tt
all_said_to P Q f [] (a ∷ answers) p = absurd p
all_said_to P Q f (line ∷ more) [] p = absurd p
all_said_to P Q f (line ∷ more) (a ∷ answers) p = (f line a p.0, all_said_to P Q f more answers p.1)

module _ (P : Saying) where
  pub said_append : (xs ys : List (List ℕ)) (a b : List Answer) → AllSaid P xs a → AllSaid P ys b → AllSaid P (xs ++ ys) (a ++ b)
  said_append [] ys [] b p q = q
  said_append [] ys (c ∷ a) b p q = absurd p
  said_append (x ∷ xs) ys [] b p q = absurd p
  said_append (x ∷ xs) ys (c ∷ a) b p q = (p.0, said_append xs ys a b p.1 q)

  pub said_count : (xs : List (List ℕ)) (a : List Answer) → AllSaid P xs a → length a ≡ length xs
  said_count [] [] p = refl
  said_count [] (c ∷ a) p = absurd p
  said_count (x ∷ xs) [] p = absurd p
  said_count (x ∷ xs) (c ∷ a) p = ap suc (said_count xs a p.1)

  -- where a line says one thing, so do lines
  pub said_once : SaysOnce P → (xs : List (List ℕ)) (a b : List Answer) → AllSaid P xs a → AllSaid P xs b → a ≡ b
  said_once once [] [] [] p q = refl
  said_once once [] [] (d ∷ b) p q = absurd q
  said_once once [] (c ∷ a) b p q = absurd p
  said_once once (x ∷ xs) [] b p q = absurd p
  said_once once (x ∷ xs) (c ∷ a) [] p q = absurd q
  said_once once (x ∷ xs) (c ∷ a) (d ∷ b) p q =
      let head : c ≡ d = once x c d p.0 q.0 in
      let tail : a ≡ b = said_once once xs a b p.1 q.1 in
      cc

  -- what some lines say, and then what those after them say
  pub record Halves (xs ys : List (List ℕ)) (all : List Answer) : Type 0 where
    pub front : List Answer
    pub back : List Answer
    pub parts : all ≡ front ++ back
    pub first : AllSaid P xs front
    pub second : AllSaid P ys back

  pub halves : (xs ys : List (List ℕ)) (all : List Answer) → AllSaid P (xs ++ ys) all → Halves xs ys all
  halves [] ys all p = record { front = []; back = all; parts = refl; first = tt; second = p }
  halves (x ∷ xs) ys [] p = absurd p
  halves (x ∷ xs) ys (c ∷ all) p =
      let h = halves xs ys all p.1 in
      record { front = c ∷ h.front; back = h.back; parts = ap (λ t. c ∷ t) h.parts; first = (p.0, h.first); second = h.second }

  -- a front of what lines say is written, if only the first of them were heard
  pub words_of_first : (xs ys : List (List ℕ)) (old new : Option (List ℕ)) → ((a : List Answer) → AllSaid P xs a → AppendsPrefix old new (written a)) → (all : List Answer) → AllSaid P (xs ++ ys) all → AppendsPrefix old new (written all)
  words_of_first xs ys old new front all p =
      let h = halves xs ys all p in
      subst (AppendsPrefix old new) (sym (ap written h.parts ∙ written_append h.front h.back)) (prefix_first old new (written h.front) (written h.back) (front h.front h.first))

  module _ (r : Bool) where
    pub faults_of_first : (n : ℕ) (xs ys : List (List ℕ)) (old new : Option (List ℕ)) → ((a : List Answer) → AllSaid P xs a → TellsSome r n xs a old new) → (all : List Answer) → AllSaid P (xs ++ ys) all → TellsSome r n (xs ++ ys) all old new
    faults_of_first n xs ys old new front all p =
        let h = halves xs ys all p in
        let f = front h.front h.first in
        let count = tallied_count xs h.front f.tallies f.tallied ∙ sym (said_count xs h.front h.first) in
        record {
          tallies = f.tallies ++ untold_of ys;
          tallied = subst (λ a. AllTallied (xs ++ ys) a (f.tallies ++ untold_of ys)) (sym h.parts) (tallied_append xs ys h.front h.back f.tallies (untold_of ys) f.tallied (untold_tallied ys h.back (said_count ys h.back h.second)));
          front = subst (AppendsPrefix old new) (sym (ap (λ a. told r n a (f.tallies ++ untold_of ys)) h.parts ∙ told_append r n (n + length h.front) h.front h.back f.tallies (untold_of ys) count refl))
              (prefix_first old new (told r n h.front f.tallies) (told r (n + length h.front) h.back (untold_of ys)) f.front);
        }

    -- where nothing was told
    pub tells_none : (n : ℕ) (xs : List (List ℕ)) (answers : List Answer) (old : Option (List ℕ)) → AllSaid P xs answers → TellsSome r n xs answers old old
    tells_none n xs answers old said = record { tallies = untold_of xs; tallied = untold_tallied xs answers (said_count xs answers said); front = prefix_none old (told r n answers (untold_of xs)) }

    -- no lines were spoken
    pub speaks_none : (n : ℕ) (t : Tally) (out err : Option (List ℕ)) → Speaks P r n t t [] out out err err true
    speaks_none n t out err = record { answers = []; said = tt; tallies = []; tallied = tt; words = Appends-nil out; faults = Appends-nil err; total = refl; read = refl }

    pub speaks_none_by : (Ran : List Tally → Type 0) → Ran [] → (n : ℕ) (t : Tally) (out err : Option (List ℕ)) → SpeaksBy Ran P r n t t [] out out err err true
    unfolding speaks_none
    speaks_none_by Ran ran n t out err = (speaks_none n t out err, ran)

  -- some lines, and then those after them
  module _ (w : Bool) (n m : ℕ) (t t' : Tally) (xs : List (List ℕ)) (out mid out' err emid err' : Option (List ℕ)) (r : Bool) (spoken : Speaks P w n t t' xs out mid err emid r) (next : m ≡ n + length xs) where
    counts : (a : List Answer) → AllSaid P xs a → length spoken.tallies ≡ length a
    counts a p = tallied_count xs spoken.answers spoken.tallies spoken.tallied ∙ sym (said_count xs a p)

    after : (a : List Answer) → AllSaid P xs a → m ≡ n + length a
    after a p = let c = said_count xs a p in omega (arith, next, c)

    pub speaks_more : (t'' : Tally) (ys : List (List ℕ)) (q : Bool) → Speaks P w m t' t'' ys mid out' emid err' q → Speaks P w n t t'' (xs ++ ys) out out' err err' (r && q)
    speaks_more t'' ys q more = record {
      tallies = spoken.tallies ++ more.tallies;
      tallied = tallied_append xs ys spoken.answers more.answers spoken.tallies more.tallies spoken.tallied more.tallied;
      total = more.total ∙ ap (λ u. with_tallies u more.tallies) spoken.total ∙ sym (with_append t spoken.tallies more.tallies);
      answers = spoken.answers ++ more.answers;
      said = said_append xs ys spoken.answers more.answers spoken.said more.said;
      words = subst (Appends out out') (sym (written_append spoken.answers more.answers)) (Appends-trans out mid out' (written spoken.answers) (written more.answers) spoken.words more.words);
      faults = subst (Appends err err') (sym (told_append w n m spoken.answers more.answers spoken.tallies more.tallies (counts spoken.answers spoken.said) (after spoken.answers spoken.said)))
          (Appends-trans err emid err' (told w n spoken.answers spoken.tallies) (told w m more.answers more.tallies) spoken.faults more.faults);
      read = ap (λ b. b && q) spoken.read ∙ ap (λ b. all_read spoken.answers && b) more.read ∙ sym (list_all-append is_read spoken.answers more.answers);
    }

    pub speaks_more_by : (Ran More : List Tally → Type 0) → ((us : List Tally) → Ran us → More (spoken.tallies ++ us)) → (t'' : Tally) (ys : List (List ℕ)) (q : Bool) → SpeaksBy Ran P w m t' t'' ys mid out' emid err' q → SpeaksBy More P w n t t'' (xs ++ ys) out out' err err' (r && q)
    unfolding speaks_more
    speaks_more_by Ran More f t'' ys q more = (speaks_more t'' ys q more.0, f more.0.tallies more.1)

    -- a front of what all lines say is written
    pub words_then : SaysOnce P → (ys : List (List ℕ)) → ((a : List Answer) → AllSaid P ys a → AppendsPrefix mid out' (written a)) → (all : List Answer) → AllSaid P (xs ++ ys) all → AppendsPrefix out out' (written all)
    words_then once ys front all p =
        let h = halves xs ys all p in
        let wrote = subst (λ a. Appends out mid (written a)) (said_once once xs spoken.answers h.front spoken.said h.first) spoken.words in
        subst (AppendsPrefix out out') (sym (ap written h.parts ∙ written_append h.front h.back)) (prefix_then out mid out' (written h.front) (written h.back) wrote (front h.back h.second))

    pub faults_then : SaysOnce P → (ys : List (List ℕ)) → ((a : List Answer) → AllSaid P ys a → TellsSome w m ys a emid err') → (all : List Answer) → AllSaid P (xs ++ ys) all → TellsSome w n (xs ++ ys) all err err'
    faults_then once ys front all p =
        let h = halves xs ys all p in
        let ts = spoken.tallies in
        let f = front h.back h.second in
        let same = said_once once xs spoken.answers h.front spoken.said h.first in
        let wrote = subst (λ a. Appends err emid (told w n a ts)) same spoken.faults in
        record {
          tallies = ts ++ f.tallies;
          tallied = subst (λ a. AllTallied (xs ++ ys) a (ts ++ f.tallies)) (sym h.parts) (tallied_append xs ys h.front h.back ts f.tallies (subst (λ a. AllTallied xs a ts) same spoken.tallied) f.tallied);
          front = subst (AppendsPrefix err err') (sym (ap (λ a. told w n a (ts ++ f.tallies)) h.parts ∙ told_append w n m h.front h.back ts f.tallies (counts h.front h.first) (after h.front h.first)))
              (prefix_then err emid err' (told w n h.front ts) (told w m h.back f.tallies) wrote f.front);
        }

-- after the last line the total is told, and what was swept
module _ (P : Saying) (w : Reporting) (t : Tally) (all : List (List ℕ)) (answers : List Answer) (said : AllSaid P all answers) (tallies : List Tally) (tallied : AllTallied all answers tallies) (total : t ≡ with_tallies no_tally tallies) (old mid new : Option (List ℕ)) (faults : Appends old mid (told w.wanted 1 answers tallies)) (n : ℕ) (counted : n ≡ length all) (swept : Swept) (sums : swept_sum swept ≡ w.beside * batches_of (length all)) where
  total_is : if_wanted w.wanted (end_text w.beside n t swept) ≡ if_wanted w.wanted (end_text w.beside (length answers) (with_tallies no_tally tallies) swept)
  total_is = ap (λ k. if_wanted w.wanted (end_text w.beside k t swept)) (counted ∙ sym (said_count P all answers said)) ∙ ap (λ u. if_wanted w.wanted (end_text w.beside (length answers) u swept)) total

  pub told_by : Appends mid new (if_wanted w.wanted (end_text w.beside n t swept)) → Appends old new (told_all w answers tallies swept)
  told_by last = subst (λ x. Appends old new (told w.wanted 1 answers tallies ++ x)) total_is (Appends-trans old mid new (told w.wanted 1 answers tallies) (if_wanted w.wanted (end_text w.beside n t swept)) faults last)

  pub told_whole : Appends mid new (if_wanted w.wanted (end_text w.beside n t swept)) → AppendsOne (Tells w all answers) old new
  told_whole last = record {
    text = told_all w answers tallies swept;
    is = record { tallies = tallies; tallied = tallied; swept = swept; sums = sums; is = refl };
    whole = told_by last;
  }

  pub told_until : AppendsPrefix mid new (if_wanted w.wanted (end_text w.beside n t swept)) → AppendsSome (Tells w all answers) old new
  told_until last = record {
    text = told_all w answers tallies swept;
    is = record { tallies = tallies; tallied = tallied; swept = swept; sums = sums; is = refl };
    front = subst (λ x. AppendsPrefix old new (told w.wanted 1 answers tallies ++ x)) total_is (prefix_then old mid new (told w.wanted 1 answers tallies) (if_wanted w.wanted (end_text w.beside n t swept)) faults last);
  }

-- a sweep that emptied all places that it came by
all_emptied : Reporting → List (List ℕ) → Swept
all_emptied w all = record { done = w.beside * batches_of (length all); was = 0 }

emptied_sums : (w : Reporting) (all : List (List ℕ)) → swept_sum (all_emptied w all) ≡ w.beside * batches_of (length all)
unfolding all_emptied
emptied_sums w all = omega arith

-- what was told before the total
pub some_front : (w : Reporting) (all : List (List ℕ)) (answers : List Answer) (old new : Option (List ℕ)) → TellsSome w.wanted 1 all answers old new → AppendsSome (Tells w all answers) old new
some_front w all answers old new s = record {
  text = told_all w answers s.tallies (all_emptied w all);
  is = record { tallies = s.tallies; tallied = s.tallied; swept = all_emptied w all; sums = emptied_sums w all; is = refl };
  front = prefix_first old new (told w.wanted 1 answers s.tallies) (if_wanted w.wanted (end_text w.beside (length answers) (with_tallies no_tally s.tallies) (all_emptied w all))) s.front;
}

-- where nothing was told
pub some_none : (w : Reporting) (all : List (List ℕ)) (answers : List Answer) (old : Option (List ℕ)) → length answers ≡ length all → AppendsSome (Tells w all answers) old old
some_none w all answers old same = record {
  text = told_all w answers (untold_of all) (all_emptied w all);
  is = record { tallies = untold_of all; tallied = untold_tallied all answers same; swept = all_emptied w all; sums = emptied_sums w all; is = refl };
  front = prefix_none old (told_all w answers (untold_of all) (all_emptied w all));
}
