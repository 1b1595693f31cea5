-- One thing after another at the front of a list.
use Rattle.std.proofs.Common.{◌≡◌, ◌∙◌, ap, subst, List, ◌∷◌}
use Rattle.text_forms.specs.Answers.{Takes}

-- P is F and then G
pub record Then {T R S U V : Type 0} (P : V → S → Type 0) (F : T → R → Type 0) (G : R → U → S → Type 0) (make : T → U → V) : Type 0 where
  pub build : (t : T) (b : R) (u : U) (c : S) → F t b → G b u c → P (make t u) c
  pub split : (v : V) (c : S) → P v c → (t : T) × (b : R) × (u : U) × F t b × G b u c × (v ≡ make t u)

pub then_takes : {T R S U V : Type 0} {P : V → S → Type 0} {F : T → R → Type 0} {t : T} {b : R} {u : U} {c : S} (G : R → U → S → Type 0) (make : T → U → V) → Then P F G make → Takes F t b → Takes (G b) u c → Takes P (make t u) c
then_takes {t} {b} {u} {c} G make s f g = record {
  found = s.build t b u c f.found g.found;
  only = λ v d p.
      let m = s.split v d p in
      let n = f.only m.0 m.1 m.3 in
      let k = g.only m.2 d (subst (λ w. G w m.2 d) n.1 m.4) in
      (m.5 ∙ ap (λ w. make w m.2) n.0 ∙ ap (make t) k.0, k.1);
}

-- P is Q under another value
pub record Made {T S V : Type 0} (P : V → S → Type 0) (Q : T → S → Type 0) (make : T → V) : Type 0 where
  pub build : (t : T) (c : S) → Q t c → P (make t) c
  pub split : (v : V) (c : S) → P v c → (t : T) × Q t c × (v ≡ make t)

pub made_takes : {T S V : Type 0} {P : V → S → Type 0} {Q : T → S → Type 0} {t : T} {c : S} (make : T → V) → Made P Q make → Takes Q t c → Takes P (make t) c
made_takes {t} {c} make s q = record {
  found = s.build t c q.found;
  only = λ v d p.
      let m = s.split v d p in
      let n = q.only m.0 d m.1 in
      (m.2 ∙ ap make n.0, n.1);
}

-- P is Q
pub record Same {V S : Type 0} (P Q : V → S → Type 0) : Type 0 where
  pub build : (v : V) (c : S) → Q v c → P v c
  pub split : (v : V) (c : S) → P v c → Q v c

pub same_takes : {V S : Type 0} {P Q : V → S → Type 0} {v : V} {c : S} → Same P Q → Takes Q v c → Takes P v c
same_takes {v} {c} s q = record { found = s.build v c q.found; only = λ u d p. q.only u d (s.split u d p) }

-- what follows has to be x
pub takes_before : {T A : Type 0} {P : T → List A → Type 0} {t : T} {left : List A} (x : A) (rest : List A) → left ≡ x ∷ rest → Takes P t left → Takes (λ u c. P u (x ∷ c)) t rest
takes_before {P} {t} x rest h p = record {
  found = subst (P t) h p.found;
  only = λ u d q. let m = p.only u (x ∷ d) q in (m.0, let e : x ∷ d ≡ x ∷ rest = m.1 ∙ h in cc);
}

-- another name for what was taken
pub takes_as : {T R : Type 0} {P : T → R → Type 0} {t u : T} {b : R} → t ≡ u → Takes P t b → Takes P u b
takes_as {P} {b} h p = subst (λ v. Takes P v b) h p
