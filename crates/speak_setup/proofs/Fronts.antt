-- Fronts of a text whose bytes pass a test, and the keys that a text begins with.
use Rattle.std.proofs.Common.{◌≡◌, ℕ, zero, suc, List, [], ◌∷◌, ◌++◌, Bool, true, false, ◌&&◌, ◌<◌, slice_index, length, take, drop, refl, sym, ap, ◌∙◌, subst, arith, take-append-drop, append-nil, nat_eq, ◌==◌, Option, None, Some, IfNone, is_some}
use Rattle.std.specs.Cmp.Lexicographic.{pointwise, same_text}
use Rattle.std.proofs.lemmas.Bool.{eq-eqb}
use Rattle.std.proofs.lemmas.List.{append_cancel_left}
use Rattle.std.proofs.lemmas.List.Sums.{list_all-from_AllPass}
use Rattle.std.specs.List.{AllPass, list_all}
use Rattle.speak_setup.specs.Forms.{AreBlank, IsValue, IsQuoted, IsAssigned, IsEntry, IsSkipped, SaysNothing, is_blank, is_value_byte, key_text}
use Rattle.speak_setup.specs.Parts.{IsFrontLen, Splits, begins}
use Rattle.speak_setup.specs.Setups.{Entry, Gives}
use Rattle.speak_setup.specs.declared.key.Key.{Key}
use Rattle.speak_setup.specs.declared.key.Key.TheVariants.{TokenizerGrammar, TokenizerRule, VerbalizerGrammar, VerbalizerRule}

begins_at : (test : ℕ → Bool) (text : List ℕ) (n : ℕ) → (n < length text → test (slice_index text n) ≡ false) → begins test (drop n text) ≡ false
begins_at test [] zero end = refl
begins_at test [] (suc n) end = refl
begins_at test (b ∷ bytes) zero end = end (omega arith)
begins_at test (b ∷ bytes) (suc n) end = begins_at test bytes n (λ h. end (omega (arith, h)))

pub splits : (test : ℕ → Bool) (text front rest : List ℕ) (n : ℕ) → IsFrontLen test text n → front ≡ take n text → rest ≡ drop n text → Splits test text front rest
splits test text front rest n len f r = record {
  parts = sym (rw (f, r) (take-append-drop n text));
  pass = subst (AllPass test) (sym f) len.pass;
  end = subst (λ l. begins test l ≡ false) (sym r) (begins_at test text n len.end);
}

-- two equal texts, each of a front and a rest, have these equal
pub record Same (a b r s : List ℕ) : Type 0 where
  pub front : a ≡ b
  pub rest : r ≡ s

both : (a b : Bool) → (a && b) ≡ true → (a ≡ true) × (b ≡ true)
both true b h = (refl, h)
both false b h = absurd (let other : false ≡ true = h in cc)

apart : (test : ℕ → Bool) (b : ℕ) (bytes r : List ℕ) → test b ≡ true → begins test r ≡ false → r ≡ b ∷ bytes → ⊥
apart test b bytes r pass end e =
    let f : test b ≡ false = subst (λ t. begins test t ≡ false) e end in
    let other : true ≡ false = sym pass ∙ f in
    cc

same_front : (test : ℕ → Bool) (a b r s : List ℕ) → list_all test a ≡ true → list_all test b ≡ true → begins test r ≡ false → begins test s ≡ false → a ++ r ≡ b ++ s → Same a b r s
same_front test [] [] r s p q f g e = record { front = refl; rest = e }
same_front test [] (y ∷ b) r s p q f g e = absurd (apart test y (b ++ s) r (both _ _ q).0 f e)
same_front test (x ∷ a) [] r s p q f g e = absurd (apart test x (a ++ r) s (both _ _ p).0 g (sym e))
same_front test (x ∷ a) (y ∷ b) r s p q f g e =
    let head : x ≡ y = cc in
    let tail : a ++ r ≡ b ++ s = cc in
    let same = same_front test a b r s (both _ _ p).1 (both _ _ q).1 f g tail in
    let front : a ≡ b = same.front in
    record { front = cc; rest = same.rest }

-- there is one longest front
pub one_front : (test : ℕ → Bool) (text a b r s : List ℕ) → Splits test text a r → AllPass test b → begins test s ≡ false → text ≡ b ++ s → Same a b r s
one_front test text a b r s split pass end e =
    same_front test a b r s (list_all-from_AllPass test a split.pass) (list_all-from_AllPass test b pass) split.end end (sym split.parts ∙ e)

not_same : (a b : ℕ) → (a == b) ≡ false → a ≡ b → ⊥
not_same a b apart e = (let same : true ≡ false = sym (eq-eqb a b e) ∙ apart in cc)

pub record SameKey (a b : Key) (r s : List ℕ) : Type 0 where
  pub key : a ≡ b
  pub rest : r ≡ s

-- a text begins with one key at most
pub one_key : (a b : Key) (r s : List ℕ) → key_text a ++ r ≡ key_text b ++ s → SameKey a b r s
one_key TokenizerGrammar TokenizerGrammar r s e = record { key = refl; rest = append_cancel_left (key_text TokenizerGrammar) r s e }
one_key TokenizerGrammar TokenizerRule r s e = absurd (not_same 103 114 refl (ap (λ l. slice_index l 10) e))
one_key TokenizerGrammar VerbalizerGrammar r s e = absurd (not_same 116 118 refl (ap (λ l. slice_index l 0) e))
one_key TokenizerGrammar VerbalizerRule r s e = absurd (not_same 116 118 refl (ap (λ l. slice_index l 0) e))
one_key TokenizerRule TokenizerGrammar r s e = absurd (not_same 114 103 refl (ap (λ l. slice_index l 10) e))
one_key TokenizerRule TokenizerRule r s e = record { key = refl; rest = append_cancel_left (key_text TokenizerRule) r s e }
one_key TokenizerRule VerbalizerGrammar r s e = absurd (not_same 116 118 refl (ap (λ l. slice_index l 0) e))
one_key TokenizerRule VerbalizerRule r s e = absurd (not_same 116 118 refl (ap (λ l. slice_index l 0) e))
one_key VerbalizerGrammar TokenizerGrammar r s e = absurd (not_same 118 116 refl (ap (λ l. slice_index l 0) e))
one_key VerbalizerGrammar TokenizerRule r s e = absurd (not_same 118 116 refl (ap (λ l. slice_index l 0) e))
one_key VerbalizerGrammar VerbalizerGrammar r s e = record { key = refl; rest = append_cancel_left (key_text VerbalizerGrammar) r s e }
one_key VerbalizerGrammar VerbalizerRule r s e = absurd (not_same 103 114 refl (ap (λ l. slice_index l 11) e))
one_key VerbalizerRule TokenizerGrammar r s e = absurd (not_same 118 116 refl (ap (λ l. slice_index l 0) e))
one_key VerbalizerRule TokenizerRule r s e = absurd (not_same 118 116 refl (ap (λ l. slice_index l 0) e))
one_key VerbalizerRule VerbalizerGrammar r s e = absurd (not_same 114 103 refl (ap (λ l. slice_index l 11) e))
one_key VerbalizerRule VerbalizerRule r s e = record { key = refl; rest = append_cancel_left (key_text VerbalizerRule) r s e }

pub take_front : (xs ys : List ℕ) → take (length xs) (xs ++ ys) ≡ xs
take_front [] ys = refl
take_front (x ∷ xs) ys = ap (λ l. x ∷ l) (take_front xs ys)

-- a text that begins with these bytes
pub begins_with : (text front after : List ℕ) → pointwise nat_eq (take (length front) text) front ≡ true → after ≡ drop (length front) text → text ≡ front ++ after
begins_with text front after same e =
    let f : take (length front) text ≡ front = same_text _ _ (sym same) in
    sym (take-append-drop (length front) text) ∙ ap (λ l. l ++ drop (length front) text) f ∙ ap (λ l. front ++ l) (sym e)

-- the value that stands in quotes, and what follows it
pub quoted_split : (text rest v r value : List ℕ) → text ≡ 34 ∷ rest → Splits is_value_byte rest v r → (q : IsQuoted text value) → Same v value r (34 ∷ q.last)
quoted_split text rest v r value is split q =
    let both : 34 ∷ rest ≡ 34 ∷ (value ++ 34 ∷ q.last) = sym is ∙ q.parts in
    let e : rest ≡ value ++ 34 ∷ q.last = cc in
    one_front is_value_byte rest v value r (34 ∷ q.last) split q.is_value.bytes refl e

-- what follows spaces and tabs alone
pub after_all : (text blanks rest : List ℕ) → Splits is_blank text blanks rest → AreBlank text → rest ≡ []
after_all text blanks rest split blank = (one_front is_blank text blanks text rest [] split blank refl (sym (append-nil text))).rest

-- what stands after the key, and after spaces and tabs
pub colon_at : (text rest blanks r : List ℕ) (key k : Key) (value : List ℕ) → text ≡ key_text key ++ rest → Splits is_blank rest blanks r → (a : IsAssigned text k value) → SameKey key k r (58 ∷ (a.after ++ a.quoted))
colon_at text rest blanks r key k value is split a =
    let same = one_key key k rest (a.between ++ 58 ∷ (a.after ++ a.quoted)) (sym is ∙ a.parts) in
    record { key = same.key; rest = (one_front is_blank rest blanks a.between r (58 ∷ (a.after ++ a.quoted)) split a.blank_between refl same.rest).rest }

quote_next : (quoted value : List ℕ) → IsQuoted quoted value → begins is_blank quoted ≡ false
quote_next quoted value q = subst (λ l. begins is_blank l ≡ false) (sym q.parts) refl

pub quoted_at : (r rest blanks s : List ℕ) (after quoted value : List ℕ) → r ≡ 58 ∷ rest → r ≡ 58 ∷ (after ++ quoted) → AreBlank after → IsQuoted quoted value → Splits is_blank rest blanks s → IsQuoted s value
quoted_at r rest blanks s after quoted value is next blank q split =
    let both : 58 ∷ rest ≡ 58 ∷ (after ++ quoted) = sym is ∙ next in
    let e : rest ≡ after ++ quoted = cc in
    let same = one_front is_blank rest blanks after s quoted split blank (quote_next quoted value q) e in
    subst (λ l. IsQuoted l value) (sym same.rest) q

-- what is known of a text that isn't quoted so
pub quoted_value : (text rest v r value : List ℕ) → text ≡ 34 ∷ rest → Splits is_value_byte rest v r → IsQuoted text value → IsValue v
quoted_value text rest v r value is split q = subst IsValue (sym (quoted_split text rest v r value is split q).front) q.is_value

pub quoted_last : (text rest v r value last blanks after : List ℕ) → text ≡ 34 ∷ rest → Splits is_value_byte rest v r → IsQuoted text value → r ≡ 34 ∷ last → Splits is_blank last blanks after → after ≡ []
quoted_last text rest v r value last blanks after is split q end next =
    let both : 34 ∷ last ≡ 34 ∷ q.last = sym end ∙ (quoted_split text rest v r value is split q).rest in
    let same : q.last ≡ last = cc in
    after_all last blanks after next (subst AreBlank same q.blank_last)

-- what a text that begins with no space or tab gives is what the line gives that ends in it
key_next : (text : List ℕ) (key : Key) (value : List ℕ) → IsAssigned text key value → begins is_blank text ≡ false
key_next text TokenizerGrammar value a = subst (λ l. begins is_blank l ≡ false) (sym a.parts) refl
key_next text TokenizerRule value a = subst (λ l. begins is_blank l ≡ false) (sym a.parts) refl
key_next text VerbalizerGrammar value a = subst (λ l. begins is_blank l ≡ false) (sym a.parts) refl
key_next text VerbalizerRule value a = subst (λ l. begins is_blank l ≡ false) (sym a.parts) refl

pub entry_at : (line blanks text : List ℕ) (key : Key) (value : List ℕ) → Splits is_blank line blanks text → IsEntry line key value → IsAssigned text key value
entry_at line blanks text key value split e =
    let same = one_front is_blank line blanks e.before text e.rest split e.blank_before (key_next e.rest key value e.is_assigned) e.parts in
    subst (λ l. IsAssigned l key value) (sym same.rest) e.is_assigned

nothing_next : (rest : List ℕ) → SaysNothing rest → begins is_blank rest ≡ false
nothing_next [] n = refl
nothing_next (b ∷ bytes) n = subst (λ (c : ℕ). is_blank c ≡ false) (sym n) refl

pub skipped_at : (line blanks text : List ℕ) → Splits is_blank line blanks text → IsSkipped line → SaysNothing text
skipped_at line blanks text split s =
    let same = one_front is_blank line blanks s.blanks text s.rest split s.blank (nothing_next s.rest s.nothing) s.parts in
    subst SaysNothing (sym same.rest) s.nothing

-- an answer of none says so much
pub if_none : {T : Type 0} (r : Option T) (P : Type 0) → P → IfNone r P
if_none None P p = p
if_none (Some x) P p = tt

pub of_none : {T : Type 0} (r : Option T) (P : Type 0) → is_some r ≡ false → IfNone r P → P
of_none None P other p = p
of_none (Some x) P other p = absurd (let e : true ≡ false = other in cc)

pub some_of : (l : List ℕ) → (length l == 0) ≡ false → l ≡ [] → ⊥
some_of [] other e = (let f : true ≡ false = other in cc)
some_of (b ∷ l) other e = cc

pub nothing_if : (text : List ℕ) → (text ≡ [] → ⊥) → ((rest : List ℕ) → text ≡ 35 ∷ rest → ⊥) → SaysNothing text → ⊥
nothing_if [] some other n = some refl
nothing_if (b ∷ bytes) some other n = other bytes (ap (λ c. c ∷ bytes) n)

-- a line gives one thing at most
pub gives_nothing : (line : List ℕ) (key : Key) (value : List ℕ) → IsSkipped line → IsEntry line key value → ⊥
gives_nothing line key value s e =
    let same = same_front is_blank s.blanks e.before s.rest e.rest (list_all-from_AllPass is_blank s.blanks s.blank) (list_all-from_AllPass is_blank e.before e.blank_before) (nothing_next s.rest s.nothing) (key_next e.rest key value e.is_assigned) (sym s.parts ∙ e.parts) in
    no_comment e.rest key value (subst SaysNothing same.rest s.nothing) e.is_assigned where
      no_comment : (rest : List ℕ) (k : Key) (v : List ℕ) → SaysNothing rest → IsAssigned rest k v → ⊥
      no_comment rest TokenizerGrammar v n a = not_same 116 35 refl (subst SaysNothing a.parts n)
      no_comment rest TokenizerRule v n a = not_same 116 35 refl (subst SaysNothing a.parts n)
      no_comment rest VerbalizerGrammar v n a = not_same 118 35 refl (subst SaysNothing a.parts n)
      no_comment rest VerbalizerRule v n a = not_same 118 35 refl (subst SaysNothing a.parts n)

pub bad_line : (line blanks text : List ℕ) → Splits is_blank line blanks text → (text ≡ [] → ⊥) → ((rest : List ℕ) → text ≡ 35 ∷ rest → ⊥) → ((key : Key) (value : List ℕ) → IsAssigned text key value → ⊥)
    → (any : Option Entry) → Gives line any → ⊥
bad_line line blanks text split some other none None s = nothing_if text some other (skipped_at line blanks text split s)
bad_line line blanks text split some other none (Some entry) e = none entry.key entry.value (entry_at line blanks text entry.key entry.value split e)

pub record SameEntry (a b : Key) (v w : List ℕ) : Type 0 where
  pub key : a ≡ b
  pub value : v ≡ w

assigned_once : (text : List ℕ) (a b : Key) (v w : List ℕ) → IsAssigned text a v → IsAssigned text b w → SameEntry a b v w
assigned_once text a b v w p q =
    let one = p.is_quoted in
    let colon = colon_at text (p.between ++ 58 ∷ (p.after ++ p.quoted)) p.between (58 ∷ (p.after ++ p.quoted)) a b w p.parts (record { parts = refl; pass = p.blank_between; end = refl }) q in
    let two = quoted_at (58 ∷ (p.after ++ p.quoted)) (p.after ++ p.quoted) p.after p.quoted q.after q.quoted w refl colon.rest q.blank_after q.is_quoted (record { parts = refl; pass = p.blank_after; end = quote_next p.quoted v one }) in
    record { key = colon.key; value = (quoted_split p.quoted (v ++ 34 ∷ one.last) v (34 ∷ one.last) w one.parts (record { parts = refl; pass = one.is_value.bytes; end = refl }) two).front }

pub entry_once : (line : List ℕ) (a b : Key) (v w : List ℕ) → IsEntry line a v → IsEntry line b w → SameEntry a b v w
entry_once line a b v w p q =
    assigned_once p.rest a b v w p.is_assigned (entry_at line p.before p.rest b w (record { parts = p.parts; pass = p.blank_before; end = key_next p.rest a v p.is_assigned }) q)
