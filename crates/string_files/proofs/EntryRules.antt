-- Entries of string files are sound, and a file whose entries so far are too large is too large.
use Rattle.std.proofs.Common.{◌≡◌, ◌∙◌, refl, sym, ap, subst, arith, ℕ, ◌+◌, ◌<◌, ◌≤◌, List, [], ◌∷◌, ◌++◌, Bool, true, false, append_assoc, length}
use Rattle.std.specs.Prelude.{◌&&◌, ◌==◌, nat_lt, nat_le, is_some, IfSome, Some, None, Ok, Err}
use Rattle.std.specs.declared.option.Option.{Option}
use Rattle.std.specs.Option.{option_map}
use Rattle.std.proofs.lemmas.Bool.{and_parts, ltb-false}
use Rattle.weighted_relations.specs.Expressions.{Expression, text, cross, weighted, union, members, sizes, size as size_of}
use Rattle.checked_expressions.specs.Sound.{are_labels, meets_kinds}
use Rattle.string_files.specs.Fields.{fields, onto_first, are_bytes, weight_field, weight_with, digits_of, after_digits, limited}
use Rattle.string_files.specs.StringFiles.{Entries, bad_line, entries, entry_of, line_entry, with_entry, entries_from}
use Rattle.checked_expressions.specs.Nodes.{Checked, fit, unfit, sized, text_of, cross_of}
use Rattle.string_files.specs.Lexicons.{bad_pair, union_of, from_entries, GivesLexicon}
use Rattle.checked_expressions.specs.declared.fault.KindFault.{KindFault}
use Rattle.checked_expressions.specs.declared.fault.KindFault.TheVariants.{TooLarge}
use Rattle.string_files.specs.declared.fault.LexiconFault.{LexiconFault}
use Rattle.std.proofs.Common.{map, Global}
use Rattle.std.specs.declared.rc.Rc.{Rc}
use Rattle.std.proofs.lemmas.List.{map-append}
use Rattle.checked_expressions.specs.declared.value.Value.{Value}
use Rattle.checked_expressions.specs.Answers.{shared_of}
use Rattle.string_files.specs.declared.entries.Entry.{Entry}
use Rattle.string_files.specs.declared.entries.Entry.TheVariants.{Both, Pair, Weighing}
use Rattle.string_files.specs.Entries.{said_by, with_fit, pair_of, made_of, OversizedBy, before}
use Rattle.checked_expressions.proofs.ListRules.{too_large, sizes_append}
use Rattle.string_files.proofs.Cuts.{some-field}

-- Fields of bytes

abbrev all_bytes : List (List ℕ) → Bool
all_bytes [] = true
all_bytes (x ∷ xs) = are_bytes x && all_bytes xs

onto_bytes : (b : ℕ) (ls : List (List ℕ)) → nat_le 1 b ≡ true → nat_le b 255 ≡ true → all_bytes ls ≡ true → all_bytes (onto_first b ls) ≡ true
onto_bytes b [] low high h = rw (low, high) refl
onto_bytes b (l ∷ ls) low high h = let both = and_parts (are_bytes l) (all_bytes ls) h in rw (low, high, both.0, both.1) refl

byte_parts : (b : ℕ) (bs : List ℕ) → are_bytes (b ∷ bs) ≡ true → (nat_le 1 b ≡ true) × (nat_le b 255 ≡ true) × (are_bytes bs ≡ true)
byte_parts b bs h =
    let both = and_parts (nat_le 1 b && nat_le b 255) (are_bytes bs) h in
    let ends = and_parts (nat_le 1 b) (nat_le b 255) both.0 in
    (ends.0, ends.1, both.1)

fields_cons : (b : ℕ) (line : List ℕ) (t : Bool) → (b == 9) ≡ t → nat_le 1 b ≡ true → nat_le b 255 ≡ true → all_bytes (fields line) ≡ true → all_bytes (fields (b ∷ line)) ≡ true
fields_cons b line true e low high h = rw e h
fields_cons b line false e low high h = rw e (onto_bytes b (fields line) low high h)

fields_bytes : (line : List ℕ) → are_bytes line ≡ true → all_bytes (fields line) ≡ true
fields_bytes [] h = refl
fields_bytes (b ∷ line) h = let p = byte_parts b line h in fields_cons b line (b == 9) refl p.0 p.1 (fields_bytes line p.2)

label_of_byte : (b : ℕ) → nat_le b 255 ≡ true → nat_le b 257 ≡ true
label_of_byte b h = grind (arith, h)

pub bytes_labels : (bs : List ℕ) → are_bytes bs ≡ true → are_labels bs ≡ true
bytes_labels [] h = refl
bytes_labels (b ∷ bs) h = let p = byte_parts b bs h in rw (p.0, label_of_byte b p.1, bytes_labels bs p.2) refl

-- A line's entry is sound

weight_small_at : (v w : ℕ) (t : Bool) → nat_lt v 4294967296 ≡ t → limited (Some v) ≡ Some w → nat_lt w 4294967296 ≡ true
weight_small_at v w true e h = let same : Some v ≡ Some w = sym (rw e refl) ∙ h in let is : v ≡ w = cc in subst (λ n. nat_lt n 4294967296 ≡ true) is e
weight_small_at v w false e h = let no : None ≡ Some w = sym (rw e refl) ∙ h in let bad : ⊥ = cc in absurd bad

weight_small_by : (o : Option ℕ) (w : ℕ) → limited o ≡ Some w → nat_lt w 4294967296 ≡ true
weight_small_by None w h = let no : ⊥ = cc in absurd no
weight_small_by (Some v) w h = weight_small_at v w (nat_lt v 4294967296) refl h

pair_sound : (a b : List ℕ) → are_bytes a ≡ true → are_bytes b ≡ true → meets_kinds (cross (text a) (text b)) ≡ true
pair_sound a b h k = rw (bytes_labels a h, bytes_labels b k) refl

weighing_sound : (a b : List ℕ) (o : Option ℕ) (e : Expression) → are_bytes a ≡ true → are_bytes b ≡ true → ((w : ℕ) → o ≡ Some w → nat_lt w 4294967296 ≡ true) → option_map (weighted (cross (text a) (text b))) o ≡ Some e → meets_kinds e ≡ true
weighing_sound a b None e h k small is = let no : ⊥ = cc in absurd no
weighing_sound a b (Some w) e h k small is =
    let same : weighted (cross (text a) (text b)) w ≡ e = cc in
    subst (λ x. meets_kinds x ≡ true) same (rw (bytes_labels a h, bytes_labels b k, small w refl) refl)

entry_sound : (fs : List (List ℕ)) (e : Expression) → all_bytes fs ≡ true → entry_of fs ≡ Some e → meets_kinds e ≡ true
entry_sound [] e h is = let no : ⊥ = cc in absurd no
entry_sound (a ∷ []) e h is =
    let same : text a ≡ e = cc in
    subst (λ x. meets_kinds x ≡ true) same (bytes_labels a (and_parts (are_bytes a) true h).0)
entry_sound (a ∷ b ∷ []) e h is =
    let p = and_parts (are_bytes a) (are_bytes b && true) h in
    let q = and_parts (are_bytes b) true p.1 in
    let same : cross (text a) (text b) ≡ e = cc in
    subst (λ x. meets_kinds x ≡ true) same (pair_sound a b p.0 q.0)
entry_sound (a ∷ b ∷ w ∷ []) e h is =
    let p = and_parts (are_bytes a) (are_bytes b && (are_bytes w && true)) h in
    let q = and_parts (are_bytes b) (are_bytes w && true) p.1 in
    weighing_sound a b (weight_field w) e p.0 q.0 (λ v g. weight_small_by (weight_with (digits_of w) (after_digits w)) v g) is
entry_sound (a ∷ b ∷ w ∷ x ∷ rest) e h is = let no : ⊥ = cc in absurd no

line_sound_by : (line : List ℕ) (e : Expression) (t : Bool) → are_bytes line ≡ t → line_entry line ≡ Some e → meets_kinds e ≡ true
line_sound_by line e true k h = entry_sound (fields line) e (fields_bytes line k) (sym (rw k refl) ∙ h)
line_sound_by line e false k h = let no : None ≡ Some e = sym (rw k refl) ∙ h in let bad : ⊥ = cc in absurd bad

pub line_sound : (line : List ℕ) (e : Expression) → line_entry line ≡ Some e → meets_kinds e ≡ true
line_sound line e h = line_sound_by line e (are_bytes line) refl h

-- Taking an entry's nodes

-- what holds of a part within the limit, and of the whole past it, holds
grown_by : (e g : Expression) (f : Expression → Checked) (t : Bool) → nat_lt (size_of e) 4194304 ≡ t → f e ≡ sized g → size_of e ≤ size_of g → with_fit (sized e) f ≡ sized g
grown_by e g f true k h le = rw k h
grown_by e g f false k h le =
    let past = ltb-false (size_of e) 4194304 k in
    let big : 4194304 ≤ size_of g = omega (arith, past, le) in
    rw k (sym (too_large g big))

grown : (e g : Expression) (f : Expression → Checked) → f e ≡ sized g → size_of e ≤ size_of g → with_fit (sized e) f ≡ sized g
grown e g f h le = grown_by e g f (nat_lt (size_of e) 4194304) refl h le

text_sized : (a : List ℕ) → are_labels a ≡ true → text_of a ≡ sized (text a)
text_sized a h = rw h refl

pair_sized : (a b : List ℕ) → are_labels a ≡ true → are_labels b ≡ true → pair_of a b ≡ sized (cross (text a) (text b))
pair_sized a b h k =
    ap (λ t. with_fit t (λ x. with_fit (text_of b) (λ y. cross_of x y))) (text_sized a h)
    ∙ grown (text a) (cross (text a) (text b)) (λ x. with_fit (text_of b) (λ y. cross_of x y))
    (ap (λ t. with_fit t (λ y. cross_of (text a) y)) (text_sized b k) ∙ grown (text b) (cross (text a) (text b)) (λ y. cross_of (text a) y) refl (omega arith))
    (omega arith)

pub made_is : (x : Entry) → meets_kinds (said_by x) ≡ true → made_of x ≡ sized (said_by x)
made_is (Both a) h = text_sized a.now h
made_is (Pair a b) h =
    let p = and_parts (are_labels a.now && are_labels b.now && true) true h in
    let q = and_parts (are_labels a.now && are_labels b.now) true p.0 in
    let r = and_parts (are_labels a.now) (are_labels b.now) q.0 in
    pair_sized a.now b.now r.0 r.1
made_is (Weighing a b w) h =
    let o = and_parts (meets_kinds (cross (text a.now) (text b.now))) (nat_lt w 4294967296) h in
    let p = and_parts (are_labels a.now && are_labels b.now && true) true o.0 in
    let q = and_parts (are_labels a.now && are_labels b.now) true p.0 in
    let r = and_parts (are_labels a.now) (are_labels b.now) q.0 in
    ap (λ t. with_fit t (λ e. sized (weighted e w))) (pair_sized a.now b.now r.0 r.1)
    ∙ grown (cross (text a.now) (text b.now)) (weighted (cross (text a.now) (text b.now)) w) (λ e. sized (weighted e w)) refl (omega arith)

-- Entries in turn

pub step_empty : (n : ℕ) (line : List ℕ) (ls : List (List ℕ)) → line ≡ [] → entries_from n (line ∷ ls) ≡ entries_from (n + 1) ls
step_empty n [] ls e = refl
step_empty n (b ∷ bs) ls e = let no : ⊥ = cc in absurd no

pub step_entry : (n : ℕ) (line : List ℕ) (ls : List (List ℕ)) → 0 < length line → entries_from n (line ∷ ls) ≡ with_entry n (line_entry line) (entries_from (n + 1) ls)
step_entry n [] ls h = absurd (omega (arith, h))
step_entry n (b ∷ bs) ls h = refl

before_entry : (vs : List Expression) (n : ℕ) (e : Expression) (r : Entries) → before vs (with_entry n (Some e) r) ≡ before (vs ++ e ∷ []) r
before_entry vs n e (bad_line m) = refl
before_entry vs n e (entries es) = ap entries (sym (append_assoc vs (e ∷ []) es))

pub entry_on : (vs : List Expression) (n : ℕ) (line : List ℕ) (ls : List (List ℕ)) (e : Expression) (all : Entries) → 0 < length line → line_entry line ≡ Some e → before vs (entries_from n (line ∷ ls)) ≡ all → before (vs ++ e ∷ []) (entries_from (n + 1) ls) ≡ all
entry_on vs n line ls e all h is g =
    sym (before_entry vs n e (entries_from (n + 1) ls)) ∙ ap (λ o. before vs (with_entry n o (entries_from (n + 1) ls))) (sym is) ∙ ap (before vs) (sym (step_entry n line ls h)) ∙ g

pub empty_on : (vs : List Expression) (n : ℕ) (line : List ℕ) (ls : List (List ℕ)) (all : Entries) → line ≡ [] → before vs (entries_from n (line ∷ ls)) ≡ all → before vs (entries_from (n + 1) ls) ≡ all
empty_on vs n line ls all e g = ap (before vs) (sym (step_empty n line ls e)) ∙ g

pub bad_on : (vs : List Expression) (n : ℕ) (line : List ℕ) (ls : List (List ℕ)) (all : Entries) → 0 < length line → line_entry line ≡ None → before vs (entries_from n (line ∷ ls)) ≡ all → all ≡ bad_line n
bad_on vs n line ls all h is g = sym g ∙ ap (before vs) (step_entry n line ls h) ∙ ap (λ o. before vs (with_entry n o (entries_from (n + 1) ls))) is

pub oversized_is : (fault : LexiconFault) (vs : List Expression) (r all : Entries) → 4194304 ≤ 1 + sizes (members vs) → before vs r ≡ all → OversizedBy r fault → GivesLexicon (Err fault) (from_entries all)
oversized_is fault vs (bad_line n) all h g o = subst (λ f. GivesLexicon (Err f) (from_entries all)) (sym o) (ap from_entries (sym g))
oversized_is fault vs (entries es) all h g o =
    let more = sizes_append vs es in
    let big : 4194304 ≤ size_of (union (members (vs ++ es))) = omega (arith, h, more) in
    subst (λ f. GivesLexicon (Err f) (from_entries all)) (sym o) (ap from_entries (sym g) ∙ ap union_of (too_large (union (members (vs ++ es))) big))

four_by : (fs : List (List ℕ)) (a b c x : List ℕ) (xs : List (List ℕ)) → fs ≡ a ∷ b ∷ c ∷ x ∷ xs → entry_of fs ≡ None
four_by fs a b c x xs e = ap entry_of e

-- four fields are no entry
pub four_fields : {B : Type 0} (now : B → List ℕ) (line a b c r r' : List ℕ) (o : Option B) → are_bytes line ≡ true → fields line ≡ a ∷ fields r → fields r ≡ b ∷ fields r' → is_some o ≡ true → IfSome o (λ v. fields r' ≡ c ∷ fields (now v)) → None ≡ line_entry line
four_fields now line a b c r r' None k e f g h = let no : ⊥ = cc in absurd no
four_fields now line a b c r r' (Some v) k e f g h =
    let some = some-field (now v) in
    let all : fields line ≡ a ∷ b ∷ c ∷ some.0 ∷ some.1 = e ∙ ap (λ l. a ∷ l) (f ∙ ap (λ l. b ∷ l) (h ∙ ap (λ l. c ∷ l) some.2)) in
    sym (rw k (four_by (fields line) a b c some.0 some.1 all))

refused_by : (e : Expression) (why : KindFault) (t : Bool) → nat_lt (size_of e) 4194304 ≡ t → sized e ≡ unfit why → 4194304 ≤ size_of e
refused_by e why true k h = let no : fit e ≡ unfit why = sym (rw k refl) ∙ h in let bad : ⊥ = cc in absurd bad
refused_by e why false k h = ltb-false (size_of e) 4194304 k

taken_by : (e v : Expression) (t : Bool) → nat_lt (size_of e) 4194304 ≡ t → sized e ≡ fit v → e ≡ v
taken_by e v true k h = let same : fit e ≡ fit v = sym (rw k refl) ∙ h in cc
taken_by e v false k h = let no : unfit TooLarge ≡ fit v = sym (rw k refl) ∙ h in let bad : ⊥ = cc in absurd bad

-- an entry that is unfit is too large by itself
pub entry_large : (x : Entry) (line : List ℕ) (why : KindFault) → line_entry line ≡ Some (said_by x) → made_of x ≡ unfit why → 4194304 ≤ size_of (said_by x)
entry_large x line why is h = refused_by (said_by x) why (nat_lt (size_of (said_by x)) 4194304) refl (sym (made_is x (line_sound line (said_by x) is)) ∙ h)

-- an entry's value has its expression
pub entry_same : (x : Entry) (line : List ℕ) (v : Expression) → line_entry line ≡ Some (said_by x) → made_of x ≡ fit v → said_by x ≡ v
entry_same x line v is h = taken_by (said_by x) v (nat_lt (size_of (said_by x)) 4194304) refl (sym (made_is x (line_sound line (said_by x) is)) ∙ h)

pub pushed : (vs vs' : List (Rc Value Global)) (v : Rc Value Global) (e : Expression) → vs' ≡ vs ++ v ∷ [] → e ≡ shared_of v → map shared_of vs' ≡ map shared_of vs ++ e ∷ []
pushed vs vs' v e items same = ap (map shared_of) items ∙ map-append shared_of vs (v ∷ []) ∙ ap (λ x. map shared_of vs ++ x ∷ []) (sym same)

pub sizes_push : (es : List Expression) (e : Expression) → sizes (members (es ++ e ∷ [])) ≡ sizes (members es) + size_of e
sizes_push es e = let all = sizes_append es (e ∷ []) in omega (arith, all)
