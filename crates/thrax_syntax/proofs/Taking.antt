-- Faults where one thing comes after another.
use Rattle.std.proofs.Common.{◌≡◌, sym, subst, List, ◌∷◌}
use Rattle.std.specs.Prelude.{Result, Ok, Err, IsErrAnd}
use Rattle.text_forms.specs.Answers.{Takes}
use Rattle.text_forms.proofs.Taking.{Then, Made, Same, same_takes}
use Rattle.thrax_syntax.specs.Outcomes.{Gives, Misses}
use Rattle.thrax_syntax.specs.declared.stop.Stop.{Stop}
use Rattle.thrax_syntax.specs.declared.stop.Stop.TheVariants.{Syntax, Memory}

pub then_first : {T R S U V : Type 0} {P : V → S → Type 0} {F : T → R → Type 0} (G : R → U → S → Type 0) (make : T → U → V) (e : Stop) → Then P F G make → Misses F e → Misses P e
then_first G make Memory s f = tt
then_first G make Syntax s f = λ v d p. let m = s.split v d p in f m.0 m.1 m.3

pub then_misses : {T R S U V : Type 0} {P : V → S → Type 0} {F : T → R → Type 0} {t : T} {b : R} (G : R → U → S → Type 0) (make : T → U → V) (e : Stop) → Then P F G make → Takes F t b → Misses (G b) e → Misses P e
then_misses G make Memory s f g = tt
then_misses G make Syntax s f g = λ v d p.
    let m = s.split v d p in
    let n = f.only m.0 m.1 m.3 in
    g m.2 d (subst (λ w. G w m.2 d) n.1 m.4)

pub made_misses : {T S V : Type 0} {P : V → S → Type 0} {Q : T → S → Type 0} (make : T → V) (e : Stop) → Made P Q make → Misses Q e → Misses P e
made_misses make Memory s q = tt
made_misses make Syntax s q = λ v d p. let m = s.split v d p in q m.0 d m.1

pub same_gives : {X V S : Type 0} {P Q : V → S → Type 0} (value : X → V) (rest : X → S) (r : Result X Stop) → Same P Q → Gives value rest Q r → Gives value rest P r
same_gives value rest (Ok x) s q = same_takes s q
same_gives value rest (Err Memory) s q = tt
same_gives value rest (Err Syntax) s q = λ u d p. q u d (s.split u d p)

pub takes_stuck : {T A : Type 0} {P : T → List A → Type 0} {t : T} {left : List A} (x : A) → ((c : List A) → left ≡ x ∷ c → ⊥) → Takes P t left → Misses (λ u c. P u (x ∷ c)) Syntax
takes_stuck x n p = λ u d q. n d (sym (p.only u (x ∷ d) q).1)

pub misses_before : {T A : Type 0} (P : T → List A → Type 0) (x : A) (e : Stop) → Misses P e → Misses (λ u c. P u (x ∷ c)) e
misses_before P x Memory p = tt
misses_before P x Syntax p = λ u d q. p u (x ∷ d) q

-- an exit with a fault
pub gives_stop : {X T R : Type 0} (P : T → R → Type 0) (e : Stop) (value : X → T) (rest : X → R) (r : Result X Stop) → IsErrAnd r (λ y. y ≡ e) → Misses P e → Gives value rest P r
gives_stop P e value rest (Ok x) h m = absurd h
gives_stop P e value rest (Err y) h m = subst (Misses P) (sym h) m
