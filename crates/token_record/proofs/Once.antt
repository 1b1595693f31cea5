-- A text is the tokens that it is, and no others.
use Rattle.std.proofs.Common.{◌≡◌, ◌∙◌, sym, ap, subst, refl, ℕ, List, ◌∷◌, ◌++◌, codes, Some}
use Rattle.text_forms.specs.Answers.{Takes}
use Rattle.text_forms.specs.Steps.{Many, none, more}
use Rattle.text_forms.proofs.Runs.{run_once}
use Rattle.token_record.specs.Fields.{Fields, valued, braced}
use Rattle.token_record.specs.Grammar.{Block, closed, value, braces}
use Rattle.text_forms.specs.Bytes.{is_wordy}
use Rattle.token_record.specs.Lexemes.{unblanked, Sign, Word, Bare, Closed, Value, in_quotes, bare, StringByte}
use Rattle.token_record.specs.Meaning.{TokenTree, meaning}
use Rattle.token_record.specs.Texts.{TokenAt, TokenText}
use Rattle.token_record.proofs.Fronts.{byte_takes, quote_misses, bare_sign, value_only, word_takes, word_sign}
use Rattle.token_record.proofs.Leading.{same_rest, word_misses_field, value_leads, brace_leads}
use Rattle.token_record.proofs.Wholes.{blank_none}
use Rattle.token_record.specs.Answers.{Leads}

-- steps that are determined by what they begin at, from one place to places where none begins
pub many_once : {A X : Type 0} (P : List A → X → List A → Type 0) → ((a : List A) (x : X) (b : List A) (y : X) (c : List A) → P a x b → P a y c → (y ≡ x) × (c ≡ b)) → {a b c : List A} {xs ys : List X} → ((x : X) (d : List A) → P b x d → ⊥) → ((x : X) (d : List A) → P c x d → ⊥) → Many P a xs b → Many P a ys c → (ys ≡ xs) × (c ≡ b)
many_once P one s t none none = (refl, refl)
many_once P one s t none (more {b} {x} p m) = absurd (s x b p)
many_once P one s t (more {b} {x} p m) none = absurd (t x b p)
many_once P one s t (more {a} {b} {x} p m) (more {b = d} {c} {x = y} {xs = ys} q n) =
    let o = one a x b y d p q in
    let r = many_once P one s t m (subst (λ v. Many P v ys c) o.1 n) in
    (ap (λ v. v ∷ ys) o.0 ∙ ap (λ v. x ∷ v) r.0, r.1)

closed_once : (a v c u d : List ℕ) → Closed a v c → Closed a u d → (u ≡ v) × (d ≡ c)
closed_once a v c u d m n =
    let o = many_once StringByte (λ a x b y c p. (byte_takes a x b p).only y c) (quote_misses c) (quote_misses d) m n in
    let f : 34 ∷ d ≡ 34 ∷ c = o.1 in
    (o.0, cc)

bare_only : (a v c u d : List ℕ) → Bare a v c → Value a u d → (u ≡ v) × (d ≡ c)
bare_only a v c u d b (in_quotes q s m) = absurd (bare_sign a v c 34 q b s refl)
bare_only a v c u d b (bare e) = run_once is_wordy (unblanked a) v c u d b.run e.run

value_takes : (a v c : List ℕ) → Value a v c → Takes (Value a) v c
value_takes a v c (in_quotes q s m) = record {
  found = in_quotes q s m;
  only = λ u d. value_only a q v c u d s (record { found = m; only = λ w e. closed_once q v c w e m });
}
value_takes a v c (bare b) = record { found = bare b; only = λ u d. bare_only a v c u d b }

word_once : (a n c : List ℕ) → Word a n c → Takes (Word a) n c
word_once a n c w = word_takes a (unblanked a) n c refl w.run w.starts

leads_takes : (room : ℕ) (a b c : List ℕ) (f : Fields → Fields) (fs : Fields) → Leads room a f b → Takes (Block room b) fs c → Takes (Block room a) (f fs) c
leads_takes room a b c f fs l t = record {
  found = l.on fs c t.found;
  only = λ hs d p.
      let m = l.back hs d p in
      let o = t.only m.0 d m.2 in
      (m.1 ∙ ap f o.0, o.1);
}

pub block_once : {room : ℕ} {a c : List ℕ} {fs : Fields} → Block room a fs c → Takes (Block room a) fs c
block_once {room} {a} {c} (closed s) = record {
  found = closed s;
  only = λ hs d p. let o = word_misses_field room a (λ n b w. word_sign a n b 125 c w s refl) hs d p in (o.0, same_rest 125 a c d s o.1);
}
block_once {room} {a} {c} (value {n} {b} {r} {v} {d} {fs} w s p q) =
    leads_takes room a d c (valued n v) fs (value_leads room a n b r v d (word_once a n b w) s (value_takes r v d p)) (block_once q)
block_once {room} {a} {c} (braces {n} {b} {r} {d} {inner} {fs} w s l p q) =
    leads_takes room a d c (braced n inner) fs (brace_leads room a n b r d inner l (word_once a n b w) s (block_once p)) (block_once q)

token_once : (a : List ℕ) (t : TokenTree) (c : List ℕ) (u : TokenTree) (d : List ℕ) → TokenAt a t c → TokenAt a u d → (u ≡ t) × (d ≡ c)
token_once a t c u d p q =
    let e : codes "tokens" ++ p.opens.after ≡ codes "tokens" ++ q.opens.after = sym p.opens.head ∙ q.opens.head in
    let f : q.opens.after ≡ p.opens.after = cc in
    let g = same_rest 123 p.opens.after p.inner q.inner p.opens.brace (subst (λ v. Sign 123 v q.inner) f q.opens.brace) in
    let o = (block_once p.block).only q.fields d (subst (λ v. Block 15 v q.fields d) g q.block) in
    let h : Some u ≡ Some t = sym q.means ∙ ap meaning o.0 ∙ p.means in
    (cc, o.1)

-- a text is these tokens alone
pub text_once : (text : List ℕ) (ts us : List TokenTree) → TokenText ts text → TokenText us text → us ≡ ts
text_once text ts us p q = (many_once TokenAt token_once (blank_none p.rest p.blank) (blank_none q.rest q.blank) p.list q.list).0
