-- A line says one thing.
use Rattle.std.proofs.Common.{◌≡◌, ℕ, zero, suc, ◌<◌, ◌≤◌, Option, None, Some, Ok, Err, inl, inr, slice_get, arith, List, [], ◌∷◌, filter, length, refl, ap, ◌∙◌, subst}
use Rattle.std.proofs.lemmas.Bool.{cases_lt}
use Rattle.weighted_relations.specs.Least.{Least}
use Rattle.weighted_relations.specs.Order.{least_unique}
use Rattle.weighted_relations.specs.Relations.{Relation}
use Rattle.token_record.proofs.Once.{text_once}
use Rattle.token_record.specs.Meaning.{TokenTree}
use Rattle.token_record.specs.Texts.{TokenText, Whole}
use Rattle.field_orders.specs.Orders.{Orders}
use Rattle.normaliser.specs.Lines.{Answer, Classified, IsClassifiedAs, IsFirstZero, IsSearched, empty, nul_byte, long_line, no_path, found}
use Rattle.normaliser.specs.Words.{AllSay, HasNoWords, HasTooMany, IsFirst, NoneIs, Says, TokensSay, Words, is_some, its_own, none, least, spaced, too_many_fields, no_words, words, unclassified, not_tokens, said}
use Rattle.normaliser.specs.Words as says
use Rattle.normaliser.specs.declared.faults.LineFault.{LineFault}
use Rattle.normaliser.specs.declared.faults.LineFault.TheVariants.{NulByte, NotTokens, TooManyFields, NoWords}

abbrev output : Option (ℕ × List ℕ) → List ℕ
output None = []
output (Some reading) = reading.1

-- what a line is classified as

module _ (line : List ℕ) where
  empty_zero : line ≡ [] → (at : ℕ) → slice_get line at ≡ Some 0 → ⊥
  empty_zero e at z = (let h : slice_get {X = ℕ} [] at ≡ Some 0 = subst (λ l. slice_get l at ≡ Some 0) e z in cc)

  empty_long : line ≡ [] → 16384 < length line → ⊥
  empty_long e l = let h : 16384 < 0 = subst (λ t. 16384 < length t) e l in omega (arith, h)

  empty_searched : line ≡ [] → IsSearched line → ⊥
  empty_searched e s = let h : 0 < 0 = subst (λ t. 0 < length t) e s.some in omega (arith, h)

  long_searched : 16384 < length line → IsSearched line → ⊥
  long_searched l s = let h : length line ≤ 16384 = s.short in omega (arith, l, h)

  one_first_zero : (at place : ℕ) → IsFirstZero line at → IsFirstZero line place → at ≡ place
  one_first_zero at place z o =
      elim (cases_lt at place) [
        | inl low ↦ absurd (o.first at low z.zero)
        | inr high ↦ elim (cases_lt place at) [
          | inl low ↦ absurd (z.first place low o.zero)
          | inr same ↦ omega (arith, high, same)
        ]
      ]

  -- a reading, and none
  module _ (C : Relation) where
    classified_output : (y z : List ℕ) → IsClassifiedAs C line y → IsClassifiedAs C line z → y ≡ z
    classified_output y z c d =
        let e : Some (c.weight, y) ≡ Some (d.weight, z) = least_unique C (λ x. x ≡ line) (Some (c.weight, y)) (Some (d.weight, z)) c.least d.least in
        ap output e

    lost_and_found : (y : List ℕ) → Least C (λ x. x ≡ line) None → IsClassifiedAs C line y → ⊥
    lost_and_found y n c = let r = c.least.reads in n r.0 y c.weight r.1 r.2

    pub classified_once : (a b : Answer) → Classified C line a → Classified C line b → a ≡ b
    classified_once a b (empty e) (empty f) = refl
    classified_once a b (empty e) (nul_byte at z) = absurd (empty_zero e at z.zero)
    classified_once a b (empty e) (long_line h l) = absurd (empty_long e l)
    classified_once a b (empty e) (no_path s n) = absurd (empty_searched e s)
    classified_once a b (empty e) (found y c) = absurd (empty_searched e c.searched)
    classified_once a b (nul_byte at z) (empty e) = absurd (empty_zero e at z.zero)
    classified_once a b (nul_byte at z) (nul_byte place o) = ap (λ i. Err (NulByte i)) (one_first_zero at place z o)
    classified_once a b (nul_byte at z) (long_line h l) = absurd (h at z.zero)
    classified_once a b (nul_byte at z) (no_path s n) = absurd (s.no_zero at z.zero)
    classified_once a b (nul_byte at z) (found y c) = absurd (c.searched.no_zero at z.zero)
    classified_once a b (long_line h l) (empty e) = absurd (empty_long e l)
    classified_once a b (long_line h l) (nul_byte at z) = absurd (h at z.zero)
    classified_once a b (long_line h l) (long_line g k) = refl
    classified_once a b (long_line h l) (no_path s n) = absurd (long_searched l s)
    classified_once a b (long_line h l) (found y c) = absurd (long_searched l c.searched)
    classified_once a b (no_path s n) (empty e) = absurd (empty_searched e s)
    classified_once a b (no_path s n) (nul_byte at z) = absurd (s.no_zero at z.zero)
    classified_once a b (no_path s n) (long_line h l) = absurd (long_searched l s)
    classified_once a b (no_path s n) (no_path t m) = refl
    classified_once a b (no_path s n) (found y c) = absurd (lost_and_found y n c)
    classified_once a b (found y c) (empty e) = absurd (empty_searched e c.searched)
    classified_once a b (found y c) (nul_byte at z) = absurd (c.searched.no_zero at z.zero)
    classified_once a b (found y c) (long_line h l) = absurd (long_searched l c.searched)
    classified_once a b (found y c) (no_path s n) = absurd (lost_and_found y n c)
    classified_once a b (found y c) (found z d) = ap (λ v. Ok v) (classified_output y z c d)

-- what tokens say

one_first : (P : TokenTree → Type 0) (tokens : List TokenTree) (m n : ℕ) → IsFirst P tokens m → IsFirst P tokens n → m ≡ n
one_first P tokens m n f g =
    elim (cases_lt f.place g.place) [
      | inl low ↦ absurd (g.first f.place f.token low f.there f.is)
      | inr high ↦ elim (cases_lt g.place f.place) [
        | inl low ↦ absurd (f.first g.place g.token low g.there g.is)
        | inr same ↦ let e = f.counted in let h = g.counted in omega (arith, high, same, e, h)
      ]
    ]

module _ (V : Relation) where
  says_once : (token : TokenTree) (a b : List ℕ) → Says V token a → Says V token b → a ≡ b
  says_once token a b (its_own own) (its_own same) = refl
  says_once token a b none none = refl
  says_once token a b (least {class} {keep} {fields} w y h) (least v z g) = ap output (least_unique V (Orders class keep fields) (Some (w, y)) (Some (v, z)) h g)

  no_words_says : (token : TokenTree) (a : List ℕ) → HasNoWords V token → Says V token a → ⊥
  no_words_says token a h (its_own own) = h
  no_words_says token a h none = h
  no_words_says token a h (least w y g) = let r = g.reads in h r.0 y w r.1 r.2

  all_say_once : (tokens : List TokenTree) (a b : List (List ℕ)) → AllSay V tokens a → AllSay V tokens b → a ≡ b
  all_say_once [] [] [] p q = refl
  all_say_once [] [] (y ∷ b) p q = absurd q
  all_say_once [] (x ∷ a) b p q = absurd p
  all_say_once (t ∷ ts) [] b p q = absurd p
  all_say_once (t ∷ ts) (x ∷ a) [] p q = absurd q
  all_say_once (t ∷ ts) (x ∷ a) (y ∷ b) p q = ap (λ v. v ∷ a) (says_once t x y p.0 q.0) ∙ ap (λ v. y ∷ v) (all_say_once ts a b p.1 q.1)

  -- each token of those that say something has words
  pub none_without : (tokens : List TokenTree) (all : List (List ℕ)) → AllSay V tokens all → NoneIs (HasNoWords V) tokens
  none_without [] all p k token at h = absurd (let e : slice_get {X = TokenTree} [] k ≡ Some token = at in cc)
  none_without (t ∷ ts) [] p k token at h = absurd p
  none_without (t ∷ ts) (x ∷ all) p zero token at h = let same : token ≡ t = cc in no_words_says t x (subst (HasNoWords V) same h) p.0
  none_without (t ∷ ts) (x ∷ all) p (suc k) token at h = none_without ts all p.1 k token at h

  tokens_say_once : (tokens : List TokenTree) (a b : Answer) → TokensSay V tokens a → TokensSay V tokens b → a ≡ b
  tokens_say_once tokens a b (too_many_fields n f) (too_many_fields m g) = ap (λ k. Err (TooManyFields k)) (one_first HasTooMany tokens n m f g)
  tokens_say_once tokens a b (too_many_fields n f) (no_words m free g) = absurd (free f.place f.token f.there f.is)
  tokens_say_once tokens a b (too_many_fields n f) (words all free s) = absurd (free f.place f.token f.there f.is)
  tokens_say_once tokens a b (no_words n free f) (too_many_fields m g) = absurd (free g.place g.token g.there g.is)
  tokens_say_once tokens a b (no_words n free f) (no_words m clear g) = ap (λ k. Err (NoWords k)) (one_first (HasNoWords V) tokens n m f g)
  tokens_say_once tokens a b (no_words n free f) (words all clear s) = absurd (none_without tokens all s f.place f.token f.there f.is)
  tokens_say_once tokens a b (words all free s) (too_many_fields m g) = absurd (free g.place g.token g.there g.is)
  tokens_say_once tokens a b (words all free s) (no_words m clear g) = absurd (none_without tokens all s g.place g.token g.there g.is)
  tokens_say_once tokens a b (words all free s) (words more clear r) = ap (λ v. Ok (spaced (filter is_some v))) (all_say_once tokens all more s r)

-- what a line says

whole_once : (text : List ℕ) (m n : ℕ) → Whole text m → Whole text n → m ≡ n
whole_once text m n f g =
    let a = g.most f.tokens f.rest f.list in
    let b = f.most g.tokens g.rest g.list in
    let c = f.count in
    let d = g.count in
    omega (arith, a, b, c, d)

module _ (C V : Relation) (line : List ℕ) where
  never_refused : (y : List ℕ) (fault : LineFault) → IsClassifiedAs C line y → Classified C line (Err fault) → ⊥
  never_refused y fault c d = let e : Ok y ≡ Err fault = classified_once line C (Ok y) (Err fault) (found y c) d in cc

  -- an output is no two lists of tokens, which say one thing
  said_once : (y z : List ℕ) (ts us : List TokenTree) (a b : Answer) → y ≡ z → TokenText ts y → TokenText us z → TokensSay V ts a → TokensSay V us b → a ≡ b
  said_once y z ts us a b e t u p q =
      let same : ts ≡ us = text_once z us ts u (subst (TokenText ts) e t) in
      tokens_say_once V us a b (subst (λ v. TokensSay V v a) same p) q

  pub words_once : (a b : Answer) → Words C V line a → Words C V line b → a ≡ b
  words_once a b (says.empty e) (says.empty f) = refl
  words_once a b (says.empty e) (unclassified g d) = classified_once line C a b (empty e) d
  words_once a b (says.empty e) (not_tokens z m d v nor) = absurd (empty_searched line e d.searched)
  words_once a b (says.empty e) (said z us s d u q) = absurd (empty_searched line e d.searched)
  words_once a b (unclassified f c) (says.empty g) = classified_once line C a b c (empty g)
  words_once a b (unclassified f c) (unclassified g d) = classified_once line C a b c d
  words_once a b (unclassified f c) (not_tokens z m d v nor) = absurd (never_refused z f d c)
  words_once a b (unclassified f c) (said z us s d u q) = absurd (never_refused z f d c)
  words_once a b (not_tokens y n c w neither) (says.empty g) = absurd (empty_searched line g c.searched)
  words_once a b (not_tokens y n c w neither) (unclassified g d) = absurd (never_refused y g c d)
  words_once a b (not_tokens y n c w neither) (not_tokens z m d v nor) =
      ap (λ k. Err (NotTokens k)) (whole_once z n m (subst (λ x. Whole x n) (classified_output line C y z c d) w) v)
  words_once a b (not_tokens y n c w neither) (said z us s d u q) = absurd (neither us (subst (TokenText us) (classified_output line C z y d c) u))
  words_once a b (said y ts r c t p) (says.empty g) = absurd (empty_searched line g c.searched)
  words_once a b (said y ts r c t p) (unclassified g d) = absurd (never_refused y g c d)
  words_once a b (said y ts r c t p) (not_tokens z m d v nor) = absurd (nor ts (subst (TokenText ts) (classified_output line C y z c d) t))
  words_once a b (said y ts r c t p) (said z us s d u q) = said_once y z ts us r s (classified_output line C y z c d) t u p q
