-- What is read can be written, and holds no byte 0.
use Rattle.std.proofs.Common.{◌≡◌, ◌∙◌, ap, subst, refl, arith, ℕ, zero, suc, ◌≤◌, Bool, true, false, ◌||◌, nat_eq, List, [], ◌∷◌, codes, Option, Some, None, if◌then◌else◌}
use Rattle.std.specs.List.{All, AllByRecursion}
use Rattle.std.proofs.lemmas.List.Elements.{All-nil, All-cons, All-head, All-tail}
use Rattle.std.specs.Str.{bytes_eq}
use Rattle.text_forms.specs.Steps.{Many, none, more}
use Rattle.token_record.specs.Fields.{Fields, no_fields, valued, braced}
use Rattle.token_record.specs.Grammar.{Block, closed, value, braces}
use Rattle.text_forms.specs.Bytes.{is_wordy}
use Rattle.token_record.specs.Lexemes.{Word, Value, in_quotes, bare, StringByte, escaped, is_plain}
use Rattle.token_record.specs.Meaning.{TokenTree, spoken, silent, class_of, is_silent, telling, is_keep, keeps, without_keep, told, token_tree, token_trees}
use Rattle.token_record.specs.declared.tokens.Token.{Token}
use Rattle.token_record.specs.Texts.{TokenAt, TokenText}
use Rattle.token_record.specs.Writable.{IsWord, HasNoZero, AreNamed, depth, IsWritable, AreBytes, TokenHasNoZero}

wordy_some : (b : ℕ) → is_wordy b ≡ true → 1 ≤ b
wordy_some zero h = absurd (let e : false ≡ true = h in cc)
wordy_some (suc b) h = omega arith

all_some : (w : List ℕ) → AllByRecursion (λ b. is_wordy b ≡ true) w → HasNoZero w
all_some [] h = All-nil (λ b. 1 ≤ b)
all_some (b ∷ w) h = All-cons (λ b. 1 ≤ b) b w (wordy_some b h.0) (all_some w h.1)

plain_some : (b : ℕ) → is_plain b ≡ true → 1 ≤ b
plain_some zero h = absurd (let e : false ≡ true = h in cc)
plain_some (suc b) h = omega arith

quoting_some : (b : ℕ) → (nat_eq b 34 || nat_eq b 92) ≡ true → 1 ≤ b
quoting_some zero h = absurd (let e : false ≡ true = h in cc)
quoting_some (suc b) h = omega arith

chosen : (t : Bool) (y : ℕ) (a : List ℕ) (o : Option (ℕ × List ℕ)) (b : ℕ) (c : List ℕ) → (t ≡ true → 1 ≤ y) → (o ≡ Some (b, c) → 1 ≤ b) → (if t then Some (y, a) else o) ≡ Some (b, c) → 1 ≤ b
chosen true y a o b c h k e =
    let f : (y, a) ≡ (b, c) = cc in
    subst (λ z. 1 ≤ z) (ap (λ (p : ℕ × List ℕ). p.0) f) (h refl)
chosen false y a o b c h k e = k e

none_some : (b : ℕ) (c : List ℕ) → StringByte [] b c → 1 ≤ b
none_some b c e = absurd (cc)

escaped_some : (a : List ℕ) (b : ℕ) (c : List ℕ) → escaped a ≡ Some (b, c) → 1 ≤ b
escaped_some [] b c e = none_some b c e
escaped_some (y ∷ a) b c e = chosen (nat_eq y 34 || nat_eq y 92) y a None b c (quoting_some y) (none_some b c) e

behind_some : (t : Bool) (a : List ℕ) (b : ℕ) (c : List ℕ) → (if t then escaped a else None) ≡ Some (b, c) → 1 ≤ b
behind_some true a b c e = escaped_some a b c e
behind_some false a b c e = none_some b c e

byte_some : (a : List ℕ) (b : ℕ) (c : List ℕ) → StringByte a b c → 1 ≤ b
byte_some [] b c e = none_some b c e
byte_some (y ∷ a) b c e = chosen (is_plain y) y a (if nat_eq y 92 then escaped a else None) b c (plain_some y) (behind_some (nat_eq y 92) a b c) e

string_some : {a v d : List ℕ} → Many StringByte a v d → HasNoZero v
string_some none = All-nil (λ b. 1 ≤ b)
string_some (more {a} {b} {x} {xs} p m) = All-cons (λ b. 1 ≤ b) x xs (byte_some a x b p) (string_some m)

value_some : {a v c : List ℕ} → Value a v c → HasNoZero v
value_some (in_quotes q s m) = string_some m
value_some {v} (bare b) = all_some v b.run.all

word_is : {a n c : List ℕ} → Word a n c → IsWord n
word_is w = record { starts = w.starts; all = w.run.all }

block_named : {room : ℕ} {a c : List ℕ} {fs : Fields} → Block room a fs c → AreNamed fs
block_named (closed s) = tt
block_named (value w s p q) = (word_is w, value_some p, block_named q)
block_named (braces w s l p q) = (word_is w, block_named p, block_named q)

block_shallow : {room : ℕ} {a c : List ℕ} {fs : Fields} → Block room a fs c → depth fs ≤ room
block_shallow (closed s) = omega arith
block_shallow (value w s p q) = block_shallow q
block_shallow (braces w s l p q) = let i = block_shallow p in let o = block_shallow q in omega (arith, i, o, l)

telling_named : (fs : Fields) → AreNamed fs → AreNamed (telling fs)
telling_named no_fields h = tt
telling_named (valued n v fs) h = elim (bytes_eq n (codes "name")) as (λ t. AreNamed (if t then valued n v (telling fs) else telling fs)) [
  | true ↦ (h.0, h.1, telling_named fs h.2)
  | false ↦ telling_named fs h.2
]
telling_named (braced n inner fs) h = (h.0, h.1, telling_named fs h.2)

telling_shallow : (fs : Fields) → depth (telling fs) ≤ depth fs
telling_shallow no_fields = omega arith
telling_shallow (valued n v fs) = elim (bytes_eq n (codes "name")) as (λ t. depth (if t then valued n v (telling fs) else telling fs) ≤ depth fs) [
  | true ↦ telling_shallow fs
  | false ↦ telling_shallow fs
]
telling_shallow (braced n inner fs) = let i = telling_shallow fs in omega (arith, i)

without_named : (fs : Fields) → AreNamed fs → AreNamed (without_keep fs)
without_named no_fields h = tt
without_named (valued n v fs) h = elim (is_keep n v) as (λ t. AreNamed (if t then without_keep fs else valued n v (without_keep fs))) [
  | true ↦ without_named fs h.2
  | false ↦ (h.0, h.1, without_named fs h.2)
]
without_named (braced n inner fs) h = (h.0, h.1, without_named fs h.2)

without_shallow : (fs : Fields) → depth (without_keep fs) ≤ depth fs
without_shallow no_fields = omega arith
without_shallow (valued n v fs) = elim (is_keep n v) as (λ t. depth (if t then without_keep fs else valued n v (without_keep fs)) ≤ depth fs) [
  | true ↦ without_shallow fs
  | false ↦ without_shallow fs
]
without_shallow (braced n inner fs) = let i = without_shallow fs in omega (arith, i)

without_case : (n v : List ℕ) (fs : Fields) (t : Bool) → is_keep n v ≡ t → keeps (without_keep fs) ≡ false → keeps (if t then without_keep fs else valued n v (without_keep fs)) ≡ false
without_case n v fs true e h = h
without_case n v fs false e h = ap (λ b. b || keeps (without_keep fs)) e ∙ h

without_unkept : (fs : Fields) → keeps (without_keep fs) ≡ false
without_unkept no_fields = refl
without_unkept (valued n v fs) = without_case n v fs (is_keep n v) refl (without_unkept fs)
without_unkept (braced n inner fs) = without_unkept fs

told_writable : (fs : Fields) (t : TokenTree) → AreNamed fs → depth fs ≤ 15 → told fs ≡ Some t → IsWritable t
told_writable no_fields t h l e = absurd (cc)
told_writable (valued n v no_fields) t h l e = let f : spoken v ≡ t = cc in subst IsWritable f h.1
told_writable (valued n v (valued m w fs)) t h l e = absurd (cc)
told_writable (valued n v (braced m inner fs)) t h l e = absurd (cc)
told_writable (braced n inner no_fields) t h l e =
    let f : class_of n (keeps inner) (without_keep inner) ≡ t = cc in
    let i = without_shallow inner in
    subst IsWritable f (record { class_word = h.0; named = without_named inner h.1; shallow = omega (arith, l, i); unkept = without_unkept inner })
told_writable (braced n inner (valued m w fs)) t h l e = absurd (cc)
told_writable (braced n inner (braced m in2 fs)) t h l e = absurd (cc)

meaning_writable : (b : Bool) (fs : Fields) (t : TokenTree) → AreNamed fs → depth fs ≤ 15 → (if b then Some silent else told (telling fs)) ≡ Some t → IsWritable t
meaning_writable true fs t h l e = let f : silent ≡ t = cc in subst IsWritable f tt
meaning_writable false fs t h l e = let i = telling_shallow fs in told_writable (telling fs) t (telling_named fs h) (omega (arith, i, l)) e

token_writable : {a c : List ℕ} {t : TokenTree} → TokenAt a t c → IsWritable t
token_writable {t} p = meaning_writable (is_silent p.fields) p.fields t (block_named p.block) (block_shallow p.block) p.means

tokens_writable : {a d : List ℕ} {ts : List TokenTree} → Many TokenAt a ts d → AllByRecursion IsWritable ts
tokens_writable none = tt
tokens_writable (more p m) = (token_writable p, tokens_writable m)

each : (P : TokenTree → Type 0) (ts : List TokenTree) → AllByRecursion P ts → All P ts
each P [] h = All-nil P
each P (t ∷ ts) h = All-cons P t ts h.0 (each P ts h.1)

-- what holds of each token
each_token : (P : TokenTree → Type 0) (ts : List Token) → AllByRecursion P (token_trees ts) → All (λ t. P (token_tree t)) ts
each_token P [] h = All-nil (λ t. P (token_tree t))
each_token P (t ∷ ts) h = All-cons (λ t. P (token_tree t)) t ts h.0 (each_token P ts h.1)

pub each_tree : (P : TokenTree → Type 0) (ts : List Token) → All (λ t. P (token_tree t)) ts → AllByRecursion P (token_trees ts)
each_tree P [] h = tt
each_tree P (t ∷ ts) h = (All-head (λ t. P (token_tree t)) t ts h, each_tree P ts (All-tail (λ t. P (token_tree t)) t ts h))

word_no_zero : (w : List ℕ) → IsWord w → HasNoZero w
word_no_zero w h = all_some w h.all

named_no_zero : (fs : Fields) → AreNamed fs → AreBytes fs
named_no_zero no_fields h = tt
named_no_zero (valued n v fs) h = (word_no_zero n h.0, h.1, named_no_zero fs h.2)
named_no_zero (braced n inner fs) h = (word_no_zero n h.0, named_no_zero inner h.1, named_no_zero fs h.2)

token_no_zero : (t : TokenTree) → IsWritable t → TokenHasNoZero t
token_no_zero (spoken v) h = h
token_no_zero silent h = tt
token_no_zero (class_of n keep fs) h = (word_no_zero n h.class_word, named_no_zero fs h.named)

-- the tokens of a text can be written
pub trees_writable : (text : List ℕ) (ts : List TokenTree) → TokenText ts text → All IsWritable ts
trees_writable text ts p = each IsWritable ts (tokens_writable p.list)

-- the tokens of a text hold no byte 0
pub trees_no_zero : (text : List ℕ) (ts : List TokenTree) → TokenText ts text → All TokenHasNoZero ts
trees_no_zero text ts p = λ k d l. token_no_zero _ (trees_writable text ts p k d l)

pub text_writable : (text : List ℕ) (ts : List Token) → TokenText (token_trees ts) text → All (λ t. IsWritable (token_tree t)) ts
text_writable text ts p = each_token IsWritable ts (tokens_writable p.list)

-- tokens that can be written hold no byte 0
pub tokens_no_zero : (ts : List Token) → All (λ t. IsWritable (token_tree t)) ts → All (λ t. TokenHasNoZero (token_tree t)) ts
tokens_no_zero ts h = λ k d l. token_no_zero _ (h k d l)
