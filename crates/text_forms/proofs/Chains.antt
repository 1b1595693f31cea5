-- The longest list of steps.
use Rattle.std.proofs.Common.{◌≡◌, ◌∙◌, sym, ap, subst, refl, arith, ℕ, ◌+◌, List, [], ◌∷◌, ◌++◌, length, append_assoc, ◌⊎◌, inl, inr}
use Rattle.std.proofs.lemmas.List.{length-append}
use Rattle.text_forms.specs.Steps.{Many, none, more, Longest}
use Rattle.text_forms.specs.Answers.{Takes}

-- the steps so far, and what each list of steps has to do with them
pub record Stands {A X : Type 0} (P : List A → X → List A → Type 0) (a : List A) (xs : List X) (rest : List A) : Type 0 where
  pub list : Many P a xs rest
  pub only : (ys : List X) (d : List A) → Many P a ys d → ((z : X) × (zs : List X) × (xs ≡ ys ++ z ∷ zs) × Many P d (z ∷ zs) rest) ⊎ ((zs : List X) × (ys ≡ xs ++ zs) × Many P rest zs d)

pub stands_begin : {A X : Type 0} (P : List A → X → List A → Type 0) (a : List A) → Stands P a [] a
stands_begin P a = record { list = none; only = λ ys d p. inr (ys, refl, p) }

many_snoc : {A X : Type 0} {P : List A → X → List A → Type 0} {a b c : List A} {x : X} {xs : List X} → Many P a xs b → P b x c → Many P a (xs ++ x ∷ []) c
many_snoc none q = more q none
many_snoc (more p m) q = more p (many_snoc m q)

pub nothing_after : {X : Type 0} (xs : List X) → xs ++ [] ≡ xs
nothing_after [] = refl
nothing_after (x ∷ xs) = ap (λ v. x ∷ v) (nothing_after xs)

after_here : {A X : Type 0} (P : List A → X → List A → Type 0) (xs : List X) (x : X) (rest after : List A) {zs : List X} {d : List A} (ys : List X) → Takes (P rest) x after → ys ≡ xs ++ zs → Many P rest zs d → ((z : X) × (ws : List X) × (xs ++ x ∷ [] ≡ ys ++ z ∷ ws) × Many P d (z ∷ ws) after) ⊎ ((ws : List X) × (ys ≡ (xs ++ x ∷ []) ++ ws) × Many P after ws d)
after_here P xs x rest after ys t e none = inl (x, [], ap (λ v. v ++ x ∷ []) (sym (e ∙ nothing_after xs)), more t.found none)
after_here P xs x rest after ys t e (more {b} {c} {x = y} {xs = ws} p q) =
    let u = t.only y b p in
    inr (ws, e ∙ ap (λ v. xs ++ v ∷ ws) u.0 ∙ sym (append_assoc xs (x ∷ []) ws), subst (λ v. Many P v ws c) u.1 q)

pub stands_step : {A X : Type 0} (P : List A → X → List A → Type 0) (a : List A) (xs : List X) (x : X) (rest after : List A) → Takes (P rest) x after → Stands P a xs rest → Stands P a (xs ++ x ∷ []) after
stands_step P a xs x rest after t k = record {
  list = many_snoc k.list t.found;
  only = λ ys d p. elim (k.only ys d p) [
    | inl h ↦ inl (h.0, h.1 ++ x ∷ [], ap (λ v. v ++ x ∷ []) h.2 ∙ append_assoc ys (h.0 ∷ h.1) (x ∷ []), many_snoc h.3 t.found)
    | inr h ↦ after_here P xs x rest after ys t h.1 h.2
  ];
}

stuck_here : {A X : Type 0} (P : List A → X → List A → Type 0) (xs : List X) (rest : List A) {zs : List X} {d : List A} (ys : List X) → ((x : X) (c : List A) → P rest x c → ⊥) → ys ≡ xs ++ zs → Many P rest zs d → (ws : List X) × (xs ≡ ys ++ ws) × Many P d ws rest
stuck_here P xs rest ys n e none = ([], sym (nothing_after ys ∙ e ∙ nothing_after xs), none)
stuck_here P xs rest ys n e (more {b} {x = y} p q) = absurd (n y b p)

pub stands_end : {A X : Type 0} (P : List A → X → List A → Type 0) (a : List A) (xs : List X) (rest : List A) → ((x : X) (c : List A) → P rest x c → ⊥) → Stands P a xs rest → Longest P a xs rest
stands_end P a xs rest n k = record {
  list = k.list;
  only = λ ys d p. elim (k.only ys d p) [
    | inl h ↦ (h.0 ∷ h.1, h.2, h.3)
    | inr h ↦ stuck_here P xs rest ys n h.1 h.2
  ];
}

many_stuck : {A X : Type 0} {P : List A → X → List A → Type 0} {b : List A} {zs : List X} {d : List A} → ((x : X) (c : List A) → P b x c → ⊥) → Many P b zs d → (zs ≡ []) × (d ≡ b)
many_stuck n none = (refl, refl)
many_stuck n (more {b} {x} p q) = absurd (n x b p)

-- a list of steps to where none begins is the longest
pub ended_by : {A X : Type 0} (P : List A → X → List A → Type 0) (a : List A) (xs ys : List X) (rest d : List A) → ((x : X) (c : List A) → P d x c → ⊥) → Longest P a xs rest → Many P a ys d → (ys ≡ xs) × (d ≡ rest)
ended_by P a xs ys rest d n l p =
    let m = l.only ys d p in
    let k = many_stuck n m.2 in
    (sym (m.1 ∙ ap (λ v. ys ++ v) k.0 ∙ nothing_after ys), sym k.1)

many_nothing : {A X : Type 0} {P : List A → X → List A → Type 0} {zs : List X} {a b : List A} → length zs ≡ 0 → Many P a zs b → (zs ≡ []) × (a ≡ b)
many_nothing h none = (refl, refl)
many_nothing h (more p q) = absurd (omega (arith, h))

-- there is one longest list
pub longest_once : {A X : Type 0} {P : List A → X → List A → Type 0} {a r s : List A} {xs ys : List X} → Longest P a xs r → Longest P a ys s → (ys ≡ xs) × (s ≡ r)
longest_once {r} {s} {xs} {ys} l m =
    let f = l.only ys s m.list in
    let g = m.only xs r l.list in
    let e : length xs ≡ length ys + length f.0 = ap length f.1 ∙ length-append ys f.0 in
    let h : length ys ≡ length xs + length g.0 = ap length g.1 ∙ length-append xs g.0 in
    let z : length f.0 ≡ 0 = omega (arith, e, h) in
    let w : length g.0 ≡ 0 = omega (arith, e, h) in
    let k = many_nothing z f.2 in
    let j = many_nothing w g.2 in
    (g.1 ∙ ap (λ v. xs ++ v) j.0 ∙ nothing_after xs, k.1)
