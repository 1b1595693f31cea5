-- The written form is read as the tokens that it is written of.
use Rattle.std.proofs.Common.{◌≡◌, ◌∙◌, sym, ap, subst, refl, arith, ℕ, ◌-◌, ◌<◌, ◌≤◌, Bool, true, false, ◌&&◌, ◌||◌, nat_eq, List, [], ◌∷◌, ◌++◌, append_assoc, length, codes, Some, None, if◌then◌else◌}
use Rattle.std.specs.List.{AllByRecursion, flat_map}
use Rattle.std.proofs.lemmas.List.Elements.{All-head, All-tail}
use Rattle.text_forms.specs.Bytes.{Stops, is_blank, is_letter, is_wordy}
use Rattle.text_forms.specs.Steps.{Many, none, more}
use Rattle.token_record.specs.Fields.{Fields, no_fields, valued, braced}
use Rattle.token_record.specs.Grammar.{Block, closed, value, braces}
use Rattle.token_record.specs.Lexemes.{unblanked, Word, Value, in_quotes, bare, StringByte, string_byte, escaped, is_plain, starts_word}
use Rattle.token_record.specs.Meaning.{TokenTree, spoken, silent, class_of, is_keep, keeps, without_keep}
use Rattle.token_record.specs.Texts.{TokenAt, TokenText}
use Rattle.token_record.specs.Writable.{IsWord, HasNoZero, AreNamed, depth, IsClass, IsWritable}
use Rattle.token_record.specs.Written.{escape, quoted, written_fields, written_keep, written_token, written}

letter_unblank : (b : ℕ) → (is_letter b || nat_eq b 95) ≡ true → is_blank b ≡ false
letter_unblank b h = grind (arith, h)

word_unblank : (w r : List ℕ) → starts_word w ≡ true → unblanked (w ++ r) ≡ w ++ r
word_unblank [] r h = absurd (let e : false ≡ true = h in cc)
word_unblank (b ∷ w) r h = ap (λ t. if t then unblanked (w ++ r) else b ∷ (w ++ r)) (letter_unblank b h)

word_reads : (w r : List ℕ) → IsWord w → Stops is_wordy r → Word (32 ∷ (w ++ r)) w r
word_reads w r h s = record {
  run = record { split = word_unblank w r h.starts; all = h.all; ends = s };
  starts = h.starts;
}

plain_of : (b : ℕ) → 0 < b → (nat_eq b 34 || nat_eq b 92) ≡ false → is_plain b ≡ true
plain_of b l h = grind (arith, l, h)

escape_case : (b : ℕ) (x : List ℕ) (t : Bool) → 0 < b → (nat_eq b 34 || nat_eq b 92) ≡ t → string_byte ((if t then 92 ∷ b ∷ [] else b ∷ []) ++ x) ≡ Some (b, x)
escape_case b x true l h = ap (λ t. if t then Some (b, x) else None) h
escape_case b x false l h = ap (λ t. if t then Some (b, x) else if nat_eq b 92 then escaped x else None) (plain_of b l h)

string_reads : (v r : List ℕ) → HasNoZero v → Many StringByte (flat_map escape v ++ 34 ∷ r) v (34 ∷ r)
string_reads [] r h = none
string_reads (b ∷ v) r h =
    subst (λ a. Many StringByte a (b ∷ v) (34 ∷ r)) (sym (append_assoc (escape b) (flat_map escape v) (34 ∷ r)))
    (more (escape_case b (flat_map escape v ++ 34 ∷ r) (nat_eq b 34 || nat_eq b 92) (let l : 1 ≤ b = All-head (λ b. 1 ≤ b) b v h in omega (arith, l)) refl) (string_reads v r (All-tail (λ b. 1 ≤ b) b v h)))

value_reads : (v r : List ℕ) → HasNoZero v → Value (32 ∷ (quoted v ++ r)) v r
value_reads v r h =
    in_quotes ((flat_map escape v ++ 34 ∷ []) ++ r) refl
    (subst (λ a. Many StringByte a v (34 ∷ r)) (sym (append_assoc (flat_map escape v) (34 ∷ []) r)) (string_reads v r h))

-- fields before other fields
abbrev followed : Fields → Fields → Fields
followed no_fields gs = gs
followed (valued n v fs) gs = valued n v (followed fs gs)
followed (braced n inner fs) gs = braced n inner (followed fs gs)

followed_none : (fs : Fields) → followed fs no_fields ≡ fs
followed_none no_fields = refl
followed_none (valued n v fs) = ap (valued n v) (followed_none fs)
followed_none (braced n inner fs) = ap (braced n inner) (followed_none fs)

valued_text : (n q w r : List ℕ) → (codes " " ++ n ++ codes ": " ++ q ++ w) ++ r ≡ 32 ∷ (n ++ (58 ∷ 32 ∷ (q ++ (w ++ r))))
valued_text n q w r = simp append_assoc

braced_text : (n i w r : List ℕ) → (codes " " ++ n ++ codes " {" ++ i ++ codes " }" ++ w) ++ r ≡ 32 ∷ (n ++ (32 ∷ 123 ∷ (i ++ (32 ∷ 125 ∷ (w ++ r)))))
braced_text n i w r = simp append_assoc

fields_read : (fs : Fields) → AreNamed fs → (room : ℕ) → depth fs ≤ room → (gs : Fields) (r c : List ℕ) → Block room r gs c → Block room (written_fields fs ++ r) (followed fs gs) c
fields_read no_fields h room l gs r c p = p
fields_read (valued n v fs) h room l gs r c p =
    subst (λ a. Block room a (valued n v (followed fs gs)) c) (sym (valued_text n (quoted v) (written_fields fs) r))
    (value (word_reads n (58 ∷ 32 ∷ (quoted v ++ (written_fields fs ++ r))) h.0 refl) refl (value_reads v (written_fields fs ++ r) h.1) (fields_read fs h.2 room l gs r c p))
fields_read (braced n inner fs) h room l gs r c p =
    let rest = written_fields fs ++ r in
    subst (λ a. Block room a (braced n inner (followed fs gs)) c) (sym (braced_text n (written_fields inner) (written_fields fs) r))
    (braces (word_reads n (32 ∷ 123 ∷ (written_fields inner ++ (32 ∷ 125 ∷ rest))) h.0 refl) refl (omega (arith, l))
    (subst (λ fs. Block (room - 1) (written_fields inner ++ (32 ∷ 125 ∷ rest)) fs rest) (followed_none inner) (fields_read inner h.1 (room - 1) (omega (arith, l)) no_fields (32 ∷ 125 ∷ rest) rest (closed refl)))
    (fields_read fs h.2 room (omega (arith, l)) gs r c p))

-- whether all bytes are letters, digits and '_'
abbrev all_wordy : List ℕ → Bool
all_wordy [] = true
all_wordy (b ∷ w) = is_wordy b && all_wordy w

and_both : (s t : Bool) → (s && t) ≡ true → (s ≡ true) × (t ≡ true)
and_both true true h = (refl, refl)
and_both true false h = absurd (let e : false ≡ true = h in cc)
and_both false t h = absurd (let e : false ≡ true = h in cc)

wordy_bytes : (w : List ℕ) → all_wordy w ≡ true → AllByRecursion (λ b. is_wordy b ≡ true) w
wordy_bytes [] h = tt
wordy_bytes (b ∷ w) h = let o = and_both (is_wordy b) (all_wordy w) h in (o.0, wordy_bytes w o.1)

word_of : (w : List ℕ) → starts_word w ≡ true → all_wordy w ≡ true → IsWord w
word_of w h k = record { starts = h; all = wordy_bytes w k }

bare_reads : (w r : List ℕ) → IsWord w → Stops is_wordy r → 0 < length w → Value (32 ∷ (w ++ r)) w r
bare_reads w r h s l = bare (record { run = record { split = word_unblank w r h.starts; all = h.all; ends = s }; some = l })

-- the field that says that those before it keep their order, or none
abbrev keep_fields : Bool → Fields
keep_fields true = valued (codes "preserve_order") (codes "true") no_fields
keep_fields false = no_fields

keep_reads : (keep : Bool) (r : List ℕ) → Block 14 (written_keep keep ++ (32 ∷ 125 ∷ r)) (keep_fields keep) r
keep_reads true r =
    value (word_reads (codes "preserve_order") (58 ∷ 32 ∷ (codes "true" ++ (32 ∷ 125 ∷ r))) (word_of (codes "preserve_order") refl refl) refl) refl
    (bare_reads (codes "true") (32 ∷ 125 ∷ r) (word_of (codes "true") refl refl) refl (omega arith)) (closed refl)
keep_reads false r = closed refl

or_parts : (s t : Bool) → (s || t) ≡ false → (s ≡ false) × (t ≡ false)
or_parts false false h = (refl, refl)
or_parts false true h = absurd (let e : true ≡ false = h in cc)
or_parts true t h = absurd (let e : true ≡ false = h in cc)

keeps_behind : (keep : Bool) → keeps (keep_fields keep) ≡ keep
keeps_behind true = refl
keeps_behind false = refl

without_behind : (keep : Bool) → without_keep (keep_fields keep) ≡ no_fields
without_behind true = refl
without_behind false = refl

kept : (fs : Fields) (keep : Bool) → keeps fs ≡ false → keeps (followed fs (keep_fields keep)) ≡ keep
kept no_fields keep h = keeps_behind keep
kept (valued n v fs) keep h =
    let o = or_parts (is_keep n v) (keeps fs) h in
    ap (λ b. b || keeps (followed fs (keep_fields keep))) o.0 ∙ kept fs keep o.1
kept (braced n inner fs) keep h = kept fs keep h

left : (fs : Fields) (keep : Bool) → keeps fs ≡ false → without_keep (followed fs (keep_fields keep)) ≡ fs
left no_fields keep h = without_behind keep
left (valued n v fs) keep h =
    let o = or_parts (is_keep n v) (keeps fs) h in
    ap (λ b. if b then without_keep (followed fs (keep_fields keep)) else valued n v (without_keep (followed fs (keep_fields keep)))) o.0 ∙ ap (valued n v) (left fs keep o.1)
left (braced n inner fs) keep h = ap (braced n inner) (left fs keep h)

spoken_text : (q r : List ℕ) → codes " name: " ++ q ++ codes " }" ++ r ≡ 32 ∷ (codes "name" ++ (58 ∷ 32 ∷ (q ++ (32 ∷ 125 ∷ r))))
spoken_text q r = simp append_assoc

spoken_reads : (v r : List ℕ) → HasNoZero v → TokenAt (written_token (spoken v) ++ r) (spoken v) r
spoken_reads v r h = record {
  inner = codes " name: " ++ quoted v ++ codes " }" ++ r;
  fields = valued (codes "name") v no_fields;
  opens = record { after = codes " { name: " ++ quoted v ++ codes " }" ++ r; head = refl; brace = refl };
  block = subst (λ a. Block 15 a (valued (codes "name") v no_fields) r) (sym (spoken_text (quoted v) r))
      (value (word_reads (codes "name") (58 ∷ 32 ∷ (quoted v ++ (32 ∷ 125 ∷ r))) (word_of (codes "name") refl refl) refl) refl (value_reads v (32 ∷ 125 ∷ r) h) (closed refl));
  means = refl;
}

silent_reads : (r : List ℕ) → TokenAt (written_token silent ++ r) silent r
silent_reads r = record {
  inner = codes " type: PUNCT }" ++ r;
  fields = valued (codes "type") (codes "PUNCT") no_fields;
  opens = record { after = codes " { type: PUNCT }" ++ r; head = refl; brace = refl };
  block = value (word_reads (codes "type") (codes ": PUNCT }" ++ r) (word_of (codes "type") refl refl) refl) refl
      (bare_reads (codes "PUNCT") (codes " }" ++ r) (word_of (codes "PUNCT") refl refl) refl (omega arith)) (closed refl);
  means = refl;
}

class_text : (n w k r : List ℕ) → codes " " ++ n ++ codes " {" ++ w ++ k ++ codes " } }" ++ r ≡ 32 ∷ (n ++ (32 ∷ 123 ∷ (w ++ (k ++ (32 ∷ 125 ∷ 32 ∷ 125 ∷ r)))))
class_text n w k r = simp append_assoc

class_reads : (n : List ℕ) (keep : Bool) (fs : Fields) (r : List ℕ) → IsClass n fs → TokenAt (written_token (class_of n keep fs) ++ r) (class_of n keep fs) r
class_reads n keep fs r h =
    let inner = followed fs (keep_fields keep) in
    let behind = written_keep keep ++ (32 ∷ 125 ∷ 32 ∷ 125 ∷ r) in
    record {
      inner = codes " " ++ n ++ codes " {" ++ written_fields fs ++ written_keep keep ++ codes " } }" ++ r;
      fields = braced n inner no_fields;
      opens = record { after = codes " { " ++ n ++ codes " {" ++ written_fields fs ++ written_keep keep ++ codes " } }" ++ r; head = refl; brace = refl };
      block = subst (λ a. Block 15 a (braced n inner no_fields) r) (sym (class_text n (written_fields fs) (written_keep keep) r))
          (braces (word_reads n (32 ∷ 123 ∷ (written_fields fs ++ behind)) h.class_word refl) refl (omega arith)
          (fields_read fs h.named 14 (let l = h.shallow in omega (arith, l)) (keep_fields keep) behind (32 ∷ 125 ∷ r) (keep_reads keep (32 ∷ 125 ∷ r)))
          (closed refl));
      means = ap Some (ap (λ b. class_of n b (without_keep inner)) (kept fs keep h.unkept) ∙ ap (class_of n keep) (left fs keep h.unkept));
    }

token_reads : (t : TokenTree) (r : List ℕ) → IsWritable t → TokenAt (written_token t ++ r) t r
token_reads (spoken v) r h = spoken_reads v r h
token_reads silent r h = silent_reads r
token_reads (class_of n keep fs) r h = class_reads n keep fs r h

spaced : (a : List ℕ) (t : TokenTree) (c : List ℕ) → TokenAt a t c → TokenAt (32 ∷ a) t c
spaced a t c p = record { inner = p.inner; fields = p.fields; opens = record { after = p.opens.after; head = p.opens.head; brace = p.opens.brace }; block = p.block; means = p.means }

others_read : (ts : List TokenTree) → AllByRecursion IsWritable ts → Many TokenAt (flat_map (λ t. codes " " ++ written_token t) ts) ts []
others_read [] h = none
others_read (t ∷ ts) h =
    let rest = flat_map (λ t. codes " " ++ written_token t) ts in
    more (spaced (written_token t ++ rest) t rest (token_reads t rest h.0)) (others_read ts h.1)

tokens_read : (ts : List TokenTree) → AllByRecursion IsWritable ts → Many TokenAt (written ts) ts []
tokens_read [] h = none
tokens_read (t ∷ ts) h = more (token_reads t (flat_map (λ t. codes " " ++ written_token t) ts) h.0) (others_read ts h.1)

-- the written form is token text of its tokens
pub written_reads : (ts : List TokenTree) → AllByRecursion IsWritable ts → TokenText ts (written ts)
written_reads ts h = record { rest = []; list = tokens_read ts h; blank = refl }
