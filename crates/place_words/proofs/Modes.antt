-- What follows from what a seat is at.
use Rattle.std.proofs.Common.{◌≡◌, ℕ, ◌<◌, ◌≤◌, if◌then◌else◌, eqb, Bool, true, false, List, [], length, sym, refl, ap, ◌∙◌, subst, arith, eq-eqb, ne_eqb}
use mathlib.Core.Logic.{dite}
use mathlib.Core.Option.{some-ne-none}
use native.Mathlib.Decide.{ℕ_discrete}
use Rattle.place_words.specs.declared.view.Read.{Read}
use Rattle.place_words.specs.declared.view.View.{View}
use Rattle.place_words.specs.declared.view.Mode.{Mode}
use Rattle.place_words.specs.declared.view.Mode.TheVariants.{Idle, Knocked, Reading, Writing}
use Rattle.place_words.specs.Places.{state_word, state_of}
use Rattle.place_words.specs.Modes.{counted_at, stored_of, seen_of, IsAt, IsReading, IsWriting, place_or, stored_or}
use Rattle.place_words.specs.Steps.{knocked}
use Rattle.place_words.specs.Rule.{Stands}

one_if : (b : Bool) → (if b then 1 else 0) ≤ 1
one_if true = omega arith
one_if false = omega arith

pub counted_once : (p : ℕ) (m : Mode) → counted_at p m ≤ 1
counted_once p Idle = omega arith
counted_once p (Knocked q) = one_if (eqb q p)
counted_once p (Reading q seen) = one_if (eqb q p)
counted_once p (Writing q stored) = omega arith

pub counted_where : (p q : ℕ) (m : Mode) → IsAt m → place_or p m ≡ p → counted_at q m ≡ (if eqb p q then 1 else 0)
counted_where p q Idle at is = absurd at
counted_where p q (Knocked x) at is = ap (λ (z : ℕ). if eqb z q then 1 else 0) is
counted_where p q (Reading x seen) at is = ap (λ (z : ℕ). if eqb z q then 1 else 0) is
counted_where p q (Writing x stored) at is = absurd at

pub not_writing : (q : ℕ) (stored : List ℕ) (m : Mode) → IsAt m → m ≡ Writing q stored → ⊥
not_writing q stored Idle at is = at
not_writing q stored (Knocked x) at is = cc
not_writing q stored (Reading x seen) at is = cc
not_writing q stored (Writing x s) at is = at

pub counted_reading : (p : ℕ) (m : Mode) (seen : List Read) → m ≡ Reading p seen → counted_at p m ≡ 1
counted_reading p m seen is = ap (counted_at p) is ∙ ap (λ (b : Bool). if b then 1 else 0) (eq-eqb p p refl)

pub counted_knock : (b : Bool) (p q : ℕ) → counted_at q (if b then Reading p [] else Knocked p) ≡ (if eqb p q then 1 else 0)
counted_knock true p q = refl
counted_knock false p q = refl

pub knock_stands : (ws : List ℕ) (n s p x : ℕ) → p < n → state_word ws p ≡ x → Stands ws n s (if eqb (state_of x) 1 then Reading p [] else Knocked p)
knock_stands ws n s p x lt is = dite (ℕ_discrete (state_of x) 1)
    (λ e. subst (λ b. Stands ws n s (if b then Reading p [] else Knocked p)) (sym (eq-eqb (state_of x) 1 e)) (lt, ap state_of is ∙ e, λ k r at. absurd (some-ne-none r (sym at))))
    (λ ne. subst (λ b. Stands ws n s (if b then Reading p [] else Knocked p)) (sym (ne_eqb (state_of x) 1 ne)) lt)

knock_place : (b : Bool) (p d : ℕ) → (place_or p (if b then Reading p [] else Knocked p) ≡ p) × (stored_or d (if b then Reading p [] else Knocked p) ≡ d)
knock_place true p d = (refl, refl)
knock_place false p d = (refl, refl)

pub knocked_place : {T : Type 0} (v v' : View T) (p d w : ℕ) → v' ≡ knocked v p w → (place_or p v'.mode ≡ p) × (stored_or d v'.mode ≡ d)
knocked_place {T} v v' p d w is = subst (λ (u : View T). (place_or p u.mode ≡ p) × (stored_or d u.mode ≡ d)) (sym is) (knock_place (eqb (state_of w) 1) p d)

pub is_reading : (p : ℕ) (m : Mode) → IsReading m → place_or p m ≡ p → m ≡ Reading p (seen_of m)
is_reading p Idle r e = absurd r
is_reading p (Knocked q) r e = absurd r
is_reading p (Reading q seen) r e = ap (λ (z : ℕ). Reading z seen) e
is_reading p (Writing q stored) r e = absurd r

pub is_writing : (p : ℕ) (m : Mode) → IsWriting m → place_or p m ≡ p → m ≡ Writing p (stored_of m)
is_writing p Idle r e = absurd r
is_writing p (Knocked q) r e = absurd r
is_writing p (Reading q seen) r e = absurd r
is_writing p (Writing q stored) r e = ap (λ (z : ℕ). Writing z stored) e

pub stored_is : (d : ℕ) (m : Mode) → IsWriting m → stored_or d m ≡ d → length (stored_of m) ≡ d
stored_is d Idle r e = absurd r
stored_is d (Knocked q) r e = absurd r
stored_is d (Reading q seen) r e = absurd r
stored_is d (Writing q stored) r e = e

pub took_place : (b : Bool) (p : ℕ) (m : Mode) → m ≡ (if b then Writing p [] else Idle) → (place_or p m ≡ p) × (stored_or 0 m ≡ 0)
took_place true p m is = (ap (place_or p) is, ap (stored_or 0) is)
took_place false p m is = (ap (place_or p) is, ap (stored_or 0) is)
