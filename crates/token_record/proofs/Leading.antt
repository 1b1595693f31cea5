-- Fields one after another.
use Rattle.std.proofs.Common.{◌≡◌, ◌∙◌, sym, ap, subst, refl, ℕ, ◌-◌, ◌≤◌, List, [], ◌∷◌, ◌++◌, map, nat_eq, false, Option, Some, None}
use Rattle.std.specs.Borrow.{Bor}
use Rattle.std.proofs.lemmas.Bool.{eqb-false}
use Rattle.text_forms.specs.Answers.{Takes}
use Rattle.token_record.specs.Answers.{Leads, NoField, FieldAnswers, Valued, Braced}
use Rattle.token_record.specs.Fields.{Fields, no_fields, valued, braced, chain, field_of}
use Rattle.token_record.specs.Grammar.{Block, closed, value, braces}
use Rattle.token_record.specs.Lexemes.{Sign, Word, Value}
use Rattle.token_record.specs.declared.tokens.Field.{Field}
use Rattle.token_record.proofs.Fronts.{word_sign}

pub chain_push : (xs : List Field) (x : Field) (t : Fields) → chain (map field_of (xs ++ x ∷ [])) t ≡ chain (map field_of xs) (field_of x t)
chain_push [] x t = refl
chain_push (y ∷ xs) x t = ap (field_of y) (chain_push xs x t)

pub leads_begin : (room : ℕ) (a : List ℕ) (xs : List Field) → xs ≡ [] → Leads room a (chain (map field_of xs)) a
leads_begin room a [] e = record { on = λ fs c p. p; back = λ hs c p. (hs, refl, p) }
leads_begin room a (x ∷ xs) e = absurd (cc)

pub leads_push : (room : ℕ) (a b c : List ℕ) (xs ys : List Field) (x : Field) → ys ≡ xs ++ x ∷ [] → Leads room a (chain (map field_of xs)) b → Leads room b (field_of x) c → Leads room a (chain (map field_of ys)) c
leads_push room a b c xs ys x e k l =
    subst (λ zs. Leads room a (chain (map field_of zs)) c) (sym e) (record {
      on = λ fs d p. subst (λ v. Block room a v d) (sym (chain_push xs x fs)) (k.on (field_of x fs) d (l.on fs d p));
      back = λ hs d p.
          let m = k.back hs d p in
          let n = l.back m.0 d m.2 in
          (n.0, m.1 ∙ ap (chain (map field_of xs)) n.1 ∙ sym (chain_push xs x n.0), n.2);
    })

pub same_rest : (n : ℕ) (b c d : List ℕ) → Sign n b c → Sign n b d → d ≡ c
same_rest n b c d s t = let e : n ∷ c ≡ n ∷ d = sym s ∙ t in cc

other_sign : (n m : ℕ) (b c d : List ℕ) → nat_eq n m ≡ false → Sign n b c → Sign m b d → ⊥
other_sign n m b c d h s t =
    let e : n ∷ c ≡ m ∷ d = sym s ∙ t in
    let f : n ≡ m = cc in
    eqb-false n m h f

pub block_takes : (room : ℕ) (a b c : List ℕ) (f : Fields → Fields) → Leads room a f b → NoField room b → Sign 125 b c → Takes (Block room a) (f no_fields) c
block_takes room a b c f k n s = record {
  found = k.on no_fields c (closed s);
  only = λ hs d p.
      let m = k.back hs d p in
      let o = n m.0 d m.2 in
      (m.1 ∙ ap f o.0, same_rest 125 b c d s o.1);
}

pub block_misses : (room : ℕ) (a b : List ℕ) (f : Fields → Fields) → Leads room a f b → NoField room b → ((c : List ℕ) → Sign 125 b c → ⊥) → (hs : Fields) (d : List ℕ) → Block room a hs d → ⊥
block_misses room a b f k n s hs d p =
    let m = k.back hs d p in
    let o = n m.0 d m.2 in
    s d o.1

-- what follows a name
data Behind (room : ℕ) (n b : List ℕ) : Fields → List ℕ → Type 0 where
  a_value : {v r d c : List ℕ} {fs : Fields} → Sign 58 b r → Value r v d → Block room d fs c → Behind room n b (valued n v fs) c
  a_brace : {r d c : List ℕ} {inner fs : Fields} → Sign 123 b r → 1 ≤ room → Block (room - 1) r inner d → Block room d fs c → Behind room n b (braced n inner fs) c

behind : {room : ℕ} {a n b c : List ℕ} {hs : Fields} → Takes (Word a) n b → Block room a hs c → Behind room n b hs c
behind {a} {n} {b} {c} t (closed s) = absurd (word_sign a n b 125 c t.found s refl)
behind {room} {n} {b} {c} t (value {n = m} {b = e} {r} {v} {fs} w s p q) =
    let o = t.only m e w in
    subst (λ z. Behind room n b (valued z v fs) c) (sym o.0) (a_value (subst (λ z. Sign 58 z r) o.1 s) p q)
behind {room} {n} {b} {c} t (braces {n = m} {b = e} {r} {inner} {fs} w s l p q) =
    let o = t.only m e w in
    subst (λ z. Behind room n b (braced z inner fs) c) (sym o.0) (a_brace (subst (λ z. Sign 123 z r) o.1 s) l p q)

value_back : {room : ℕ} {n b c : List ℕ} {hs : Fields} (r v d : List ℕ) → Sign 58 b r → Takes (Value r) v d → Behind room n b hs c → (fs : Fields) × (hs ≡ valued n v fs) × Block room d fs c
value_back {room} {n} {b} {c} r v d s t (a_value {v = u} {r = q} {d = e} {fs} z p k) =
    let f : q ≡ r = same_rest 58 b r q s z in
    let o = t.only u e (subst (λ y. Value y u e) f p) in
    (fs, ap (λ y. valued n y fs) o.0, subst (λ y. Block room y fs c) o.1 k)
value_back {b} r v d s t (a_brace {r = q} z l p k) = absurd (other_sign 58 123 b r q refl s z)

pub value_leads : (room : ℕ) (a n b r v d : List ℕ) → Takes (Word a) n b → Sign 58 b r → Takes (Value r) v d → Leads room a (valued n v) d
value_leads room a n b r v d t s u = record {
  on = λ fs c p. value t.found s u.found p;
  back = λ hs c p. value_back r v d s u (behind t p);
}

value_none : {room : ℕ} {n b c : List ℕ} {hs : Fields} (r : List ℕ) → Sign 58 b r → ((v d : List ℕ) → Value r v d → ⊥) → Behind room n b hs c → ⊥
value_none {b} r s t (a_value {v = u} {r = q} {d = e} z p k) = t u e (subst (λ y. Value y u e) (same_rest 58 b r q s z) p)
value_none {b} r s t (a_brace {r = q} z l p k) = other_sign 58 123 b r q refl s z

pub value_misses : (room : ℕ) (a n b r : List ℕ) → Takes (Word a) n b → Sign 58 b r → ((v d : List ℕ) → Value r v d → ⊥) → NoField room a
value_misses room a n b r t s u = λ hs c p. absurd (value_none r s u (behind t p))

brace_back : {room : ℕ} {n b c : List ℕ} {hs : Fields} (r d : List ℕ) (inner : Fields) → Sign 123 b r → Takes (Block (room - 1) r) inner d → Behind room n b hs c → (fs : Fields) × (hs ≡ braced n inner fs) × Block room d fs c
brace_back {b} r d inner s t (a_value {r = q} z p k) = absurd (other_sign 123 58 b r q refl s z)
brace_back {room} {n} {b} {c} r d inner s t (a_brace {r = q} {d = e} {inner = u} {fs} z l p k) =
    let f : q ≡ r = same_rest 123 b r q s z in
    let o = t.only u e (subst (λ y. Block (room - 1) y u e) f p) in
    (fs, ap (λ y. braced n y fs) o.0, subst (λ y. Block room y fs c) o.1 k)

pub brace_leads : (room : ℕ) (a n b r d : List ℕ) (inner : Fields) → 1 ≤ room → Takes (Word a) n b → Sign 123 b r → Takes (Block (room - 1) r) inner d → Leads room a (braced n inner) d
brace_leads room a n b r d inner l t s u = record {
  on = λ fs c p. braces t.found s l u.found p;
  back = λ hs c p. brace_back r d inner s u (behind t p);
}

brace_none : {room : ℕ} {n b c : List ℕ} {hs : Fields} (r : List ℕ) → Sign 123 b r → (1 ≤ room → (u : Fields) (d : List ℕ) → Block (room - 1) r u d → ⊥) → Behind room n b hs c → ⊥
brace_none {b} r s t (a_value {r = q} z p k) = other_sign 123 58 b r q refl s z
brace_none {room} {b} r s t (a_brace {r = q} {d = e} {inner = u} z l p k) = t l u e (subst (λ y. Block (room - 1) y u e) (same_rest 123 b r q s z) p)

pub brace_misses : (room : ℕ) (a n b r : List ℕ) → Takes (Word a) n b → Sign 123 b r → (1 ≤ room → (u : Fields) (d : List ℕ) → Block (room - 1) r u d → ⊥) → NoField room a
brace_misses room a n b r t s u = λ hs c p. absurd (brace_none r s u (behind t p))

sign_none : {room : ℕ} {n b c : List ℕ} {hs : Fields} → ((r : List ℕ) → Sign 58 b r → ⊥) → ((r : List ℕ) → Sign 123 b r → ⊥) → Behind room n b hs c → ⊥
sign_none f g (a_value {r = q} z p k) = f q z
sign_none f g (a_brace {r = q} z l p k) = g q z

pub sign_misses : (room : ℕ) (a n b : List ℕ) → Takes (Word a) n b → ((r : List ℕ) → Sign 58 b r → ⊥) → ((r : List ℕ) → Sign 123 b r → ⊥) → NoField room a
sign_misses room a n b t f g = λ hs c p. absurd (sign_none f g (behind t p))

no_word : {room : ℕ} {a c : List ℕ} {hs : Fields} → ((n b : List ℕ) → Word a n b → ⊥) → Block room a hs c → (hs ≡ no_fields) × Sign 125 a c
no_word f (closed s) = (refl, s)
no_word f (value {n} {b} w s p q) = absurd (f n b w)
no_word f (braces {n} {b} w s l p q) = absurd (f n b w)

pub word_misses_field : (room : ℕ) (a : List ℕ) → ((n b : List ℕ) → Word a n b → ⊥) → NoField room a
word_misses_field room a f = λ hs c p. no_word f p

pub valued_answers : (room : ℕ) (a n b r : List ℕ) (o : Option (Field × Bor (List ℕ))) → Takes (Word a) n b → Sign 58 b r → Valued n r o → FieldAnswers (λ x. x.0) (λ x. x.1.now) room a o
valued_answers room a n b r (Some x) t s v = subst (λ f. Leads room a f x.1.now) (sym v.1) (value_leads room a n b r v.0 x.1.now t s v.2)
valued_answers room a n b r None t s v = value_misses room a n b r t s v

pub braced_answers : (room : ℕ) (a n b r : List ℕ) (o : Option (Field × Bor (List ℕ))) → 1 ≤ room → Takes (Word a) n b → Sign 123 b r → Braced n room r o → FieldAnswers (λ x. x.0) (λ x. x.1.now) room a o
braced_answers room a n b r (Some x) l t s v = subst (λ f. Leads room a f x.1.now) (sym v.1) (brace_leads room a n b r x.1.now v.0 l t s v.2)
braced_answers room a n b r None l t s v = brace_misses room a n b r t s (λ m. v)
