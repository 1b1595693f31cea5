-- From one line of a setup to the next, and from the lines to the setup.
use Rattle.std.proofs.Common.{◌≡◌, ℕ, ◌+◌, ◌≤◌, ◌<◌, List, [], ◌∷◌, ◌++◌, true, false, length, length-append, Option, None, Some, Ok, Err, Result, IfOk, IfErr, IfSome, refl, sym, ap, ◌∙◌, subst, arith, append_assoc, append-nil}
use Rattle.text_lines.specs.Lines.{lines}
use Rattle.speak_setup.specs.Setups.{Entry, Gives, AllGive, AreFree, IsAfter, IsSetup, SetupNames, SetupText, is_setup, is_bad_line, is_repeated, is_missing, same_key, values, most, first_missing, needed, names_of, outcome_of}
use Rattle.speak_setup.specs.Parts.{ReadsPart, AddsLine, AddsGiven, IsRefused, IsLineFault, IsComplete, IsIncomplete, found_values}
use Rattle.speak_setup.specs.declared.found.Found.{Found}
use Rattle.speak_setup.specs.declared.key.Key.{Key}
use Rattle.speak_setup.specs.declared.key.Key.TheVariants.{TokenizerGrammar, TokenizerRule, VerbalizerGrammar, VerbalizerRule}
use Rattle.speak_setup.specs.declared.setup.Need.{Need}
use Rattle.speak_setup.specs.declared.setup.Setup.{Setup}
use Rattle.speak_setup.specs.declared.setup.SetupFault.{SetupFault}
use Rattle.speak_setup.specs.declared.setup.SetupFault.TheVariants.{BadLine, Repeated, Missing, Memory}
use Rattle.speak_setup.proofs.Once.{values_append, setup_once}

data WhichKey (a b : Key) : Type 0 where
  same : a ≡ b → same_key a b ≡ true → WhichKey a b
  other : (a ≡ b → ⊥) → same_key a b ≡ false → WhichKey a b

which_key : (a b : Key) → WhichKey a b
which_key TokenizerGrammar TokenizerGrammar = same refl refl
which_key TokenizerGrammar TokenizerRule = other (λ e. cc) refl
which_key TokenizerGrammar VerbalizerGrammar = other (λ e. cc) refl
which_key TokenizerGrammar VerbalizerRule = other (λ e. cc) refl
which_key TokenizerRule TokenizerGrammar = other (λ e. cc) refl
which_key TokenizerRule TokenizerRule = same refl refl
which_key TokenizerRule VerbalizerGrammar = other (λ e. cc) refl
which_key TokenizerRule VerbalizerRule = other (λ e. cc) refl
which_key VerbalizerGrammar TokenizerGrammar = other (λ e. cc) refl
which_key VerbalizerGrammar TokenizerRule = other (λ e. cc) refl
which_key VerbalizerGrammar VerbalizerGrammar = same refl refl
which_key VerbalizerGrammar VerbalizerRule = other (λ e. cc) refl
which_key VerbalizerRule TokenizerGrammar = other (λ e. cc) refl
which_key VerbalizerRule TokenizerRule = other (λ e. cc) refl
which_key VerbalizerRule VerbalizerGrammar = other (λ e. cc) refl
which_key VerbalizerRule VerbalizerRule = same refl refl

give_append : (front : List (List ℕ)) (given : List (Option Entry)) (line : List ℕ) (here : Option Entry) → AllGive front given → Gives line here → AllGive (front ++ line ∷ []) (given ++ here ∷ [])
give_append [] [] line here g h = (h, tt)
give_append [] (x ∷ given) line here g h = absurd g
give_append (l ∷ front) [] line here g h = absurd g
give_append (l ∷ front) (x ∷ given) line here g h = (g.0, give_append front given line here g.1 h)

none_most : (key : Key) → 0 ≤ most key
none_most key = omega arith

pub part_none : (text : List ℕ) (found : Found) → ((key : Key) → found_values found key ≡ []) → ReadsPart text text 0 found
part_none text found none = record { front = []; given = []; parts = refl; are_free = record { gives = tt; fit = none_most }; counted = refl; fewer = omega arith; found_values = none }

value_added : (old new : Found) (given : List (Option Entry)) (here : Option Entry) → AddsGiven old new here → ((key : Key) → found_values old key ≡ values given key) → (key : Key) → found_values new key ≡ values (given ++ here ∷ []) key
value_added old new given None adds is key = adds key ∙ is key ∙ sym (values_append given (None ∷ []) key ∙ append-nil (values given key))
value_added old new given (Some e) adds is key = by (which_key e.key key) where
  by : WhichKey e.key key → found_values new key ≡ values (given ++ Some e ∷ []) key
  by (same k t) =
      let whole : values (given ++ Some e ∷ []) key ≡ values given key ++ e.value ∷ [] = values_append given (Some e ∷ []) key ∙ rw t refl in
      let added : found_values new key ≡ found_values old key ++ e.value ∷ [] = subst (λ l. found_values new l ≡ found_values old l ++ e.value ∷ []) k adds.0.added in
      added ∙ ap (λ l. l ++ e.value ∷ []) (is key) ∙ sym whole
  by (other k t) =
      let whole : values (given ++ Some e ∷ []) key ≡ values given key = values_append given (Some e ∷ []) key ∙ rw t (append-nil (values given key)) in
      adds.0.others key (λ l. k (sym l)) ∙ is key ∙ sym whole

fit_more : (old : Found) (new : Found) (given : List (Option Entry)) (here : Option Entry) → AddsGiven old new here → ((key : Key) → found_values old key ≡ values given key) → ((key : Key) → length (values given key) ≤ most key) → (key : Key) → length (values (given ++ here ∷ []) key) ≤ most key
fit_more old new given None adds is fit key = rw (values_append given (None ∷ []) key, append-nil (values given key)) (fit key)
fit_more old new given (Some e) adds is fit key = by (which_key e.key key) where
  by : WhichKey e.key key → length (values (given ++ Some e ∷ []) key) ≤ most key
  by (same k t) =
      let whole : values (given ++ Some e ∷ []) key ≡ values given key ++ e.value ∷ [] = values_append given (Some e ∷ []) key ∙ rw t refl in
      let l : length (values (given ++ Some e ∷ []) key) ≡ length (values given key) + 1 = ap length whole ∙ length-append (values given key) (e.value ∷ []) in
      let room : length (found_values old key) < most key = subst (λ m. length (found_values old m) < most m) k adds.1 in
      let n : length (found_values old key) ≡ length (values given key) = ap length (is key) in
      omega (arith, l, room, n)
  by (other k t) =
      let whole : values (given ++ Some e ∷ []) key ≡ values given key = values_append given (Some e ∷ []) key ∙ rw t (append-nil (values given key)) in
      subst (λ v. length v ≤ most key) (sym whole) (fit key)

-- the lines before a line, the line, and what follows it
lines_on : (text line rest after : List ℕ) (front : List (List ℕ)) → lines text ≡ front ++ lines rest → lines rest ≡ line ∷ lines after → lines text ≡ front ++ line ∷ lines after
lines_on text line rest after front parts first = parts ∙ ap (λ l. front ++ l) first

pub part_more : (text line rest after : List ℕ) (n : ℕ) (old new : Found) → ReadsPart text rest n old → lines rest ≡ line ∷ lines after → length after < length rest → AddsLine old new line → ReadsPart text after (n + 1) new
part_more text line rest after n old new p first less adds = record {
  front = p.front ++ line ∷ [];
  given = p.given ++ adds.given ∷ [];
  parts = lines_on text line rest after p.front p.parts first ∙ sym (append_assoc p.front (line ∷ []) (lines after));
  are_free = record {
    gives = give_append p.front p.given line adds.given p.are_free.gives adds.gives;
    fit = fit_more old new p.given adds.given adds.adds p.found_values p.are_free.fit;
  };
  counted = (let l = length-append p.front (line ∷ []) in omega (arith, p.counted, l));
  fewer = (let f : n + length rest ≤ length text = p.fewer in omega (arith, f, less));
  found_values = value_added old new p.given adds.given adds.adds p.found_values;
}

after_part : (text line rest after : List ℕ) (n number : ℕ) (old : Found) (p : ReadsPart text rest n old) → lines rest ≡ line ∷ lines after → number ≡ n + 1 → IsAfter (lines text) number p.given line
after_part text line rest after n number old p first is = record {
  front = p.front;
  rest = lines after;
  parts = lines_on text line rest after p.front p.parts first;
  counted = is ∙ ap (λ m. m + 1) p.counted;
  are_free = p.are_free;
}

pub line_fault : (text line rest after : List ℕ) (n : ℕ) (old : Found) (fault : SetupFault) → ReadsPart text rest n old → lines rest ≡ line ∷ lines after → IsRefused old line (n + 1) fault → IsLineFault text fault
line_fault text line rest after n old (BadLine number) p first r = record { given = p.given; line = line; is_after = after_part text line rest after n number old p first r.0; bad = r.1 }
line_fault text line rest after n old (Repeated number) p first r =
    let e = r.1 in
    let full : most e.key ≤ length (found_values old e.key) = r.3 in
    let same : length (found_values old e.key) ≡ length (values p.given e.key) = ap length (p.found_values e.key) in
    let fit : length (values p.given e.key) ≤ most e.key = p.are_free.fit e.key in
    record { given = p.given; line = line; is_after = after_part text line rest after n number old p first r.0; entry = e; gives = r.2; full = omega (arith, full, same, fit) }
line_fault text line rest after n old (Missing key) p first r = absurd r
line_fault text line rest after n old Memory p first r = tt

pub all_read : (text rest : List ℕ) (n : ℕ) (found : Found) → rest ≡ [] → ReadsPart text rest n found → (number : ℕ) × ReadsPart text [] number found
all_read text rest n found is p = (n, subst (λ r. ReadsPart text r n found) is p)

missing_same : (keys : List Key) (f g : Key → List (List ℕ)) → ((key : Key) → f key ≡ g key) → first_missing keys f ≡ first_missing keys g
missing_same [] f g is = refl
missing_same (key ∷ keys) f g is = rw (is key, missing_same keys f g is) refl

free_all : (text : List ℕ) (n : ℕ) (found : Found) (p : ReadsPart text [] n found) → AreFree (lines text) p.given
free_all text n found p = subst (λ l. AreFree l p.given) (sym (p.parts ∙ append-nil p.front)) p.are_free

complete_setup : (need : Need) (text : List ℕ) (n : ℕ) (found : Found) (names : SetupNames) → ReadsPart text [] n found → IsComplete need (found_values found) names → IsSetup need (lines text) names
complete_setup need text n found names p c = record {
  given = p.given;
  are_free = free_all text n found p;
  complete = missing_same (needed need) (values p.given) (found_values found) (λ key. sym (p.found_values key)) ∙ c.complete;
  tokenizer = sym (p.found_values TokenizerGrammar) ∙ c.tokenizer;
  tokenizer_rules = sym (p.found_values TokenizerRule) ∙ c.tokenizer_rules;
  verbalizer = sym (p.found_values VerbalizerGrammar) ∙ c.verbalizer;
  verbalizer_rules = sym (p.found_values VerbalizerRule) ∙ c.verbalizer_rules;
}

incomplete_setup : (need : Need) (text : List ℕ) (n : ℕ) (found : Found) (fault : SetupFault) → ReadsPart text [] n found → IsIncomplete need (found_values found) fault → IfSome (outcome_of (Err fault)) (SetupText need text)
incomplete_setup need text n found (Missing key) p c = is_missing key (record {
  given = p.given;
  are_free = free_all text n found p;
  key = c.0;
  missing = missing_same (needed need) (values p.given) (found_values found) (λ k. sym (p.found_values k)) ∙ c.1;
  is_text = c.2;
})
incomplete_setup need text n found Memory p c = tt
incomplete_setup need text n found (BadLine number) p c = absurd c
incomplete_setup need text n found (Repeated number) p c = absurd c

-- what the lines come to
pub read_all : (need : Need) (text : List ℕ) (found : Found) (r : Result Setup SetupFault) → (number : ℕ) × ReadsPart text [] number found → IfOk r (λ setup. IsComplete need (found_values found) (names_of setup)) → IfErr r (λ fault. IsIncomplete need (found_values found) fault)
    → IfSome (outcome_of r) (SetupText need text)
read_all need text found (Ok s) p complete incomplete = is_setup (names_of s) (complete_setup need text p.0 found (names_of s) p.1 complete)
read_all need text found (Err fault) p complete incomplete = incomplete_setup need text p.0 found fault p.1 incomplete

pub read_fault : (need : Need) (text : List ℕ) (fault : SetupFault) → IsLineFault text fault → IfSome (outcome_of (Err fault)) (SetupText need text)
read_fault need text (BadLine number) f = is_bad_line number f
read_fault need text (Repeated number) f = is_repeated number f
read_fault need text (Missing key) f = absurd f
read_fault need text Memory f = tt

only_one : (need : Need) (text : List ℕ) (o : Option (Result SetupNames SetupFault)) → IfSome o (SetupText need text) → IfSome o (λ outcome. (other : Result SetupNames SetupFault) → SetupText need text other → other ≡ outcome)
only_one need text None h = tt
only_one need text (Some outcome) h = λ other o. setup_once need text other outcome o h

pub read_only : (need : Need) (text : List ℕ) (r : Result Setup SetupFault) → IfSome (outcome_of r) (SetupText need text) → IfSome (outcome_of r) (λ outcome. (other : Result SetupNames SetupFault) → SetupText need text other → other ≡ outcome)
read_only need text r h = only_one need text (outcome_of r) h
