-- A text is one setup at most, or has one first fault.
use Rattle.std.proofs.Common.{◌≡◌, ℕ, ◌+◌, ◌≤◌, List, [], ◌∷◌, ◌++◌, Bool, true, false, ◌⊎◌, inl, inr, length, length-append, Option, None, Some, Ok, Err, Result, refl, sym, ap, ◌∙◌, subst, arith}
use Rattle.std.specs.Option.{option_to_list}
use Rattle.text_lines.specs.Lines.{lines}
use Rattle.speak_setup.specs.Forms.{key_text}
use Rattle.speak_setup.specs.Setups.{Entry, Gives, AllGive, AreFree, IsAfter, IsBadLine, IsRepeated, IsMissing, IsSetup, SetupNames, SetupText, is_setup, is_bad_line, is_repeated, is_missing, same_key, values, most, first_missing, needed}
use Rattle.speak_setup.specs.declared.key.Key.{Key}
use Rattle.speak_setup.specs.declared.key.Key.TheVariants.{TokenizerGrammar, TokenizerRule, VerbalizerGrammar, VerbalizerRule}
use Rattle.speak_setup.specs.declared.setup.Need.{Need}
use Rattle.speak_setup.specs.declared.setup.SetupFault.{SetupFault}
use Rattle.speak_setup.specs.declared.setup.SetupFault.TheVariants.{BadLine, Repeated, Missing}
use Rattle.speak_setup.proofs.Fronts.{gives_nothing, entry_once}

abbrev entry_of : Key → List ℕ → Entry
entry_of key value = record { key = key; value = value }

same_entry : (k l : Key) (v w : List ℕ) → k ≡ l → v ≡ w → entry_of k v ≡ entry_of l w
same_entry k l v w p q = ap (λ m. entry_of m v) p ∙ ap (entry_of l) q

pub gives_once : (line : List ℕ) (a b : Option Entry) → Gives line a → Gives line b → a ≡ b
gives_once line None None g h = refl
gives_once line None (Some e) g h = absurd (gives_nothing line e.key e.value g h)
gives_once line (Some e) None g h = absurd (gives_nothing line e.key e.value h g)
gives_once line (Some e) (Some f) g h =
    let same = entry_once line e.key f.key e.value f.value g h in
    ap Some (same_entry e.key f.key e.value f.value same.key same.value)

pub all_once : (all : List (List ℕ)) (a b : List (Option Entry)) → AllGive all a → AllGive all b → a ≡ b
all_once [] [] [] g h = refl
all_once [] [] (y ∷ b) g h = absurd h
all_once [] (x ∷ a) b g h = absurd g
all_once (line ∷ all) [] b g h = absurd g
all_once (line ∷ all) (x ∷ a) [] g h = absurd h
all_once (line ∷ all) (x ∷ a) (y ∷ b) g h =
    let head : x ≡ y = gives_once line x y g.0 h.0 in
    let tail : a ≡ b = all_once all a b g.1 h.1 in
    cc

pub same_key_itself : (k : Key) → same_key k k ≡ true
same_key_itself TokenizerGrammar = refl
same_key_itself TokenizerRule = refl
same_key_itself VerbalizerGrammar = refl
same_key_itself VerbalizerRule = refl

pub values_append : (a b : List (Option Entry)) (key : Key) → values (a ++ b) key ≡ values a key ++ values b key
values_append [] b key = refl
values_append (None ∷ a) b key = values_append a b key
values_append (Some e ∷ a) b key = by (same_key e.key key) refl (values_append a b key) where
  by : (t : Bool) → same_key e.key key ≡ t → values (a ++ b) key ≡ values a key ++ values b key → values (Some e ∷ (a ++ b)) key ≡ values (Some e ∷ a) key ++ values b key
  by true is more = rw is (ap (λ l. e.value ∷ l) more)
  by false is more = rw is more

-- the lines before a line, the line itself and those after it
pub record Around (front : List (List ℕ)) (line : List ℕ) (rest : List (List ℕ)) (given : List (Option Entry)) : Type 0 where
  pub before : List (Option Entry)
  pub here : Option Entry
  pub after : List (Option Entry)
  pub parts : given ≡ before ++ here ∷ after
  pub gives_before : AllGive front before
  pub gives_here : Gives line here

around : (front : List (List ℕ)) (line : List ℕ) (rest : List (List ℕ)) (given : List (Option Entry)) → AllGive (front ++ line ∷ rest) given → Around front line rest given
around [] line rest [] g = absurd g
around [] line rest (x ∷ given) g = record { before = []; here = x; after = given; parts = refl; gives_before = tt; gives_here = g.0 }
around (l ∷ front) line rest [] g = absurd g
around (l ∷ front) line rest (x ∷ given) g =
    let a = around front line rest given g.1 in
    record { before = x ∷ a.before; here = a.here; after = a.after; parts = ap (λ m. x ∷ m) a.parts; gives_before = (g.0, a.gives_before); gives_here = a.gives_here }

-- a line after such lines is at fault
abbrev pub IsFault : List (Option Entry) → List ℕ → Type 0
IsFault given line = ((any : Option Entry) → Gives line any → ⊥) ⊎ ((entry : Entry) × Gives line (Some entry) × (length (values given entry.key) ≡ most entry.key))

past_most : (before after : List (Option Entry)) (entry : Entry) → length (values before entry.key) ≡ most entry.key → length (values (before ++ Some entry ∷ after) entry.key) ≤ most entry.key → ⊥
past_most before after entry full fit =
    let e : values (before ++ Some entry ∷ after) entry.key ≡ values before entry.key ++ entry.value ∷ values after entry.key = values_append before (Some entry ∷ after) entry.key ∙ rw (same_key_itself entry.key) refl in
    let l : length (values (before ++ Some entry ∷ after) entry.key) ≡ length (values before entry.key) + length (entry.value ∷ values after entry.key) = ap length e ∙ length-append (values before entry.key) (entry.value ∷ values after entry.key) in
    omega (arith, full, fit, l)

no_fault : (front : List (List ℕ)) (line : List ℕ) (rest : List (List ℕ)) (given all : List (Option Entry)) → AreFree front given → IsFault given line → AreFree (front ++ line ∷ rest) all → ⊥
no_fault front line rest given all free (inl bad) whole = let a = around front line rest all whole.gives in bad a.here a.gives_here
no_fault front line rest given all free (inr full) whole =
    let a = around front line rest all whole.gives in
    let same : a.before ≡ given = all_once front a.before given a.gives_before free.gives in
    let here : a.here ≡ Some full.0 = gives_once line a.here (Some full.0) a.gives_here full.1 in
    let parts : all ≡ given ++ Some full.0 ∷ a.after = a.parts ∙ ap (λ b. b ++ a.here ∷ a.after) same ∙ ap (λ h. given ++ h ∷ a.after) here in
    past_most given a.after full.0 full.2 (subst (λ g. length (values g full.0.key) ≤ most full.0.key) parts (whole.fit full.0.key))

-- two lines of one list
data Compared (f g : List (List ℕ)) (l m : List ℕ) : Type 0 where
  same : f ≡ g → l ≡ m → Compared f g l m
  earlier : (more : List (List ℕ)) → g ≡ f ++ l ∷ more → Compared f g l m
  later : (more : List (List ℕ)) → f ≡ g ++ m ∷ more → Compared f g l m

compare_more : (x y : List ℕ) (f g : List (List ℕ)) (l m : List ℕ) → x ≡ y → Compared f g l m → Compared (x ∷ f) (y ∷ g) l m
compare_more x y f g l m e (same p q) = same (cc) q
compare_more x y f g l m e (earlier more p) = earlier more (cc)
compare_more x y f g l m e (later more p) = later more (cc)

compare_lines : (f g r s : List (List ℕ)) (l m : List ℕ) → f ++ l ∷ r ≡ g ++ m ∷ s → Compared f g l m
compare_lines [] [] r s l m e = same refl (cc)
compare_lines [] (y ∷ g) r s l m e = earlier g (let h : y ≡ l = cc in cc)
compare_lines (x ∷ f) [] r s l m e = later f (let h : x ≡ m = cc in cc)
compare_lines (x ∷ f) (y ∷ g) r s l m e = compare_more x y f g l m (cc) (compare_lines f g r s l m (cc))

pub record SameFault (n k : ℕ) (given other : List (Option Entry)) (l m : List ℕ) : Type 0 where
  pub number : n ≡ k
  pub given_same : given ≡ other
  pub line : l ≡ m

fault_once : (all : List (List ℕ)) (n k : ℕ) (given other : List (Option Entry)) (l m : List ℕ) → IsAfter all n given l → IsFault given l → IsAfter all k other m → IsFault other m → SameFault n k given other l m
fault_once all n k given other l m a fault b fault' = by (compare_lines a.front b.front a.rest b.rest l m (sym a.parts ∙ b.parts)) where
  by : Compared a.front b.front l m → SameFault n k given other l m
  by (same p q) = record {
    number = a.counted ∙ ap (λ f. length f + 1) p ∙ sym b.counted;
    given_same = all_once b.front given other (subst (λ f. AllGive f given) p a.are_free.gives) b.are_free.gives;
    line = q;
  }
  by (earlier more p) = absurd (no_fault a.front l more given other a.are_free fault (subst (λ f. AreFree f other) p b.are_free))
  by (later more p) = absurd (no_fault b.front m more other given b.are_free fault' (subst (λ f. AreFree f given) p a.are_free))

-- lines that are free of faults have no first fault
free_fault : (all : List (List ℕ)) (n : ℕ) (given whole : List (Option Entry)) (l : List ℕ) → AreFree all whole → IsAfter all n given l → IsFault given l → ⊥
free_fault all n given whole l free a fault = no_fault a.front l a.rest given whole a.are_free fault (subst (λ f. AreFree f whole) a.parts free)

bad_fault : (all : List (List ℕ)) (n : ℕ) (b : IsBadLine all n) → IsFault b.given b.line
bad_fault all n b = inl b.bad

full_fault : (all : List (List ℕ)) (n : ℕ) (r : IsRepeated all n) → IsFault r.given r.line
full_fault all n r = inr (r.entry, r.gives, r.full)

not_both : (all : List (List ℕ)) (n k : ℕ) → IsBadLine all n → IsRepeated all k → ⊥
not_both all n k b r =
    let same = fault_once all n k b.given r.given b.line r.line b.is_after (bad_fault all n b) r.is_after (full_fault all k r) in
    b.bad (Some r.entry) (subst (λ l. Gives l (Some r.entry)) (sym same.line) r.gives)

one_option : (a b : Option (List ℕ)) → option_to_list a ≡ option_to_list b → a ≡ b
one_option None None e = refl
one_option None (Some y) e = absurd (let other : [] ≡ y ∷ [] = e in cc)
one_option (Some x) None e = absurd (let other : x ∷ [] ≡ [] = e in cc)
one_option (Some x) (Some y) e = (let f : x ∷ [] ≡ y ∷ [] = e in cc)

names_once : (t u : List ℕ) (r s : List (List ℕ)) (v w : Option (List ℕ)) (p q : List (List ℕ)) → t ≡ u → r ≡ s → v ≡ w → p ≡ q
    → record { tokenizer = t; tokenizer_rules = r; verbalizer = v; verbalizer_rules = p } ≡ (let n : SetupNames = record { tokenizer = u; tokenizer_rules = s; verbalizer = w; verbalizer_rules = q } in n)
names_once t u r s v w p q a b c d = cc

setup_once_names : (need : Need) (all : List (List ℕ)) (a b : SetupNames) → IsSetup need all a → IsSetup need all b → a ≡ b
setup_once_names need all a b p q =
    let g : p.given ≡ q.given = all_once all p.given q.given p.are_free.gives q.are_free.gives in
    let t : a.tokenizer ∷ [] ≡ b.tokenizer ∷ [] = sym p.tokenizer ∙ ap (λ v. values v TokenizerGrammar) g ∙ q.tokenizer in
    let one : a.tokenizer ≡ b.tokenizer = cc in
    names_once a.tokenizer b.tokenizer a.tokenizer_rules b.tokenizer_rules a.verbalizer b.verbalizer a.verbalizer_rules b.verbalizer_rules one
    (sym p.tokenizer_rules ∙ ap (λ v. values v TokenizerRule) g ∙ q.tokenizer_rules)
    (one_option a.verbalizer b.verbalizer (sym p.verbalizer ∙ ap (λ v. values v VerbalizerGrammar) g ∙ q.verbalizer))
    (sym p.verbalizer_rules ∙ ap (λ v. values v VerbalizerRule) g ∙ q.verbalizer_rules)

missing_or_not : (need : Need) (all : List (List ℕ)) (names : SetupNames) (key : List ℕ) → IsSetup need all names → IsMissing need all key → ⊥
missing_or_not need all names key s m =
    let g : s.given ≡ m.given = all_once all s.given m.given s.are_free.gives m.are_free.gives in
    let e : None ≡ Some m.key = sym s.complete ∙ ap (λ v. first_missing (needed need) (values v)) g ∙ m.missing in
    cc

missing_once : (need : Need) (all : List (List ℕ)) (a b : List ℕ) → IsMissing need all a → IsMissing need all b → a ≡ b
missing_once need all a b p q =
    let g : p.given ≡ q.given = all_once all p.given q.given p.are_free.gives q.are_free.gives in
    let e : Some p.key ≡ Some q.key = sym p.missing ∙ ap (λ v. first_missing (needed need) (values v)) g ∙ q.missing in
    let k : p.key ≡ q.key = cc in
    p.is_text ∙ ap key_text k ∙ sym q.is_text

-- a text is one thing at most
pub setup_once : (need : Need) (text : List ℕ) (a b : Result SetupNames SetupFault) → SetupText need text a → SetupText need text b → a ≡ b
setup_once need text a b (is_setup n p) (is_setup m q) = ap Ok (setup_once_names need (lines text) n m p q)
setup_once need text a b (is_setup n p) (is_bad_line k q) = absurd (free_fault (lines text) k q.given p.given q.line p.are_free q.is_after (bad_fault (lines text) k q))
setup_once need text a b (is_setup n p) (is_repeated k q) = absurd (free_fault (lines text) k q.given p.given q.line p.are_free q.is_after (full_fault (lines text) k q))
setup_once need text a b (is_setup n p) (is_missing m q) = absurd (missing_or_not need (lines text) n m p q)
setup_once need text a b (is_bad_line k q) (is_setup n p) = absurd (free_fault (lines text) k q.given p.given q.line p.are_free q.is_after (bad_fault (lines text) k q))
setup_once need text a b (is_bad_line k p) (is_bad_line n q) = ap (λ v. Err (BadLine v)) (fault_once (lines text) k n p.given q.given p.line q.line p.is_after (bad_fault (lines text) k p) q.is_after (bad_fault (lines text) n q)).number
setup_once need text a b (is_bad_line k p) (is_repeated n q) = absurd (not_both (lines text) k n p q)
setup_once need text a b (is_bad_line k q) (is_missing m p) = absurd (free_fault (lines text) k q.given p.given q.line p.are_free q.is_after (bad_fault (lines text) k q))
setup_once need text a b (is_repeated k q) (is_setup n p) = absurd (free_fault (lines text) k q.given p.given q.line p.are_free q.is_after (full_fault (lines text) k q))
setup_once need text a b (is_repeated k p) (is_bad_line n q) = absurd (not_both (lines text) n k q p)
setup_once need text a b (is_repeated k p) (is_repeated n q) = ap (λ v. Err (Repeated v)) (fault_once (lines text) k n p.given q.given p.line q.line p.is_after (full_fault (lines text) k p) q.is_after (full_fault (lines text) n q)).number
setup_once need text a b (is_repeated k q) (is_missing m p) = absurd (free_fault (lines text) k q.given p.given q.line p.are_free q.is_after (full_fault (lines text) k q))
setup_once need text a b (is_missing m q) (is_setup n p) = absurd (missing_or_not need (lines text) n m p q)
setup_once need text a b (is_missing m p) (is_bad_line k q) = absurd (free_fault (lines text) k q.given p.given q.line p.are_free q.is_after (bad_fault (lines text) k q))
setup_once need text a b (is_missing m p) (is_repeated k q) = absurd (free_fault (lines text) k q.given p.given q.line p.are_free q.is_after (full_fault (lines text) k q))
setup_once need text a b (is_missing m p) (is_missing n q) = ap (λ v. Err (Missing v)) (missing_once need (lines text) m n p q)
