-- Tallies that lines may have of which nothing is told.
use Rattle.std.proofs.Common.{◌≡◌, ◌≤◌, ◌<◌, ◌+◌, ◌^◌, ◌⊎◌, ℕ, zero, suc, List, [], ◌∷◌, Some, None, inl, inr, length, replicate, refl, sym, subst, arith}
use Rattle.std.proofs.lemmas.Bool.{cases_eq, cases_lt, eq-eqb, ne_eqb}
use Rattle.std.proofs.lemmas.List.{length-replicate}
use Rattle.normaliser.specs.Lines.{Answer, HasNoZero, IsSearched}
use Rattle.shared_cascade.specs.Tallies.{no_tally, one_more, with_all, with_outcome}
use Rattle.shared_cascade.specs.declared.tallies.Outcome.{Outcome}
use Rattle.shared_cascade.specs.declared.tallies.Outcome.TheVariants.{NoPlace, Published, Shown, Wide}
use Rattle.shared_cascade.specs.declared.tallies.Tally.{Tally}
use Rattle.speak_core.specs.Reports.{AllTallied, IsTallyOf}

looked_once : (o : Outcome) (t : Tally) → (with_outcome o t).looks ≡ one_more t.looks
looked_once Shown t = refl
looked_once Published t = refl
looked_once NoPlace t = refl
looked_once Wide t = refl

one_look : (n m k : ℕ) → m < 2 ^ 64 → m ≤ n + suc k → m ≤ one_more n + k
one_look n m k small few = elim (cases_eq n 18446744073709551615) [
  | inl e ↦ rw (eq-eqb n 18446744073709551615 e) (omega (arith, e, small))
  | inr e ↦ rw (ne_eqb n 18446744073709551615 e) (omega (arith, few))
]

-- each outcome is that of a look
pub looks_counted : (os : List Outcome) (t : Tally) (m : ℕ) → m < 2 ^ 64 → m ≤ t.looks + length os → m ≤ (with_all os t).looks
looks_counted [] t m small few = omega (arith, few)
looks_counted (o ∷ os) t m small few = looks_counted os (with_outcome o t) m small (subst (λ k. m ≤ k + length os) (sym (looked_once o t)) (one_look t.looks m (length os) small few))

no_zero : (line : List ℕ) → HasNoZero line ⊎ (HasNoZero line → ⊥)
no_zero [] = inl (λ k e. absurd (let z : None ≡ Some 0 = e in cc))
no_zero (zero ∷ line) = inr (λ h. h 0 refl)
no_zero (suc b ∷ line) = elim (no_zero line) [ inl h ↦ inl (others h) | inr h ↦ inr (λ g. h (λ k e. g (suc k) e)) ]
  where
    others : HasNoZero line → HasNoZero (suc b ∷ line)
    others h zero e = (let z : suc b ≡ 0 = cc in omega (arith, z))
    others h (suc k) e = h k e

-- whether a line is searched
searched_or : (line : List ℕ) → IsSearched line ⊎ (IsSearched line → ⊥)
searched_or line = elim (no_zero line) [
  | inr h ↦ inr (λ s. h s.no_zero)
  | inl h ↦ elim (cases_lt 0 (length line)) [
    | inr none ↦ inr (λ s. let some = s.some in omega (arith, none, some))
    | inl some ↦ elim (cases_lt 16384 (length line)) [
      | inl long ↦ inr (λ s. let short = s.short in omega (arith, long, short))
      | inr short ↦ inl (record { some = some; no_zero = h; short = short })
    ]
  ]
]

-- a tally that a line may have whatever it says
record Untold (line : List ℕ) : Type 0 where
  tally : Tally
  is : (answer : Answer) → IsTallyOf line answer tally

untold : (line : List ℕ) → Untold line
untold line = elim (searched_or line) [
  | inl s ↦ record { tally = with_all outcomes no_tally; is = λ answer. record { outcomes = outcomes; counted = refl; unsearched = λ not. absurd (not s); looked = λ again read. enough s } }
  | inr not ↦ record { tally = no_tally; is = λ answer. record { outcomes = []; counted = refl; unsearched = λ again. refl; looked = λ s read. absurd (not s) } }
]
  where
    outcomes : List Outcome
    outcomes = replicate (length line + 1) Wide

    enough : IsSearched line → length line + 1 ≤ (with_all outcomes no_tally).looks
    enough s = (
        let short = s.short in
        let count = length-replicate (length line + 1) Wide in
        looks_counted outcomes no_tally (length line + 1) (omega (arith, short)) (omega (arith, count)))

-- lines of which nothing was told
pub untold_of : List (List ℕ) → List Tally
untold_of [] = []
untold_of (x ∷ xs) = (untold x).tally ∷ untold_of xs

pub untold_tallied : (xs : List (List ℕ)) (answers : List Answer) → length answers ≡ length xs → AllTallied xs answers (untold_of xs)
unfolding untold_of
untold_tallied [] [] same = tt
untold_tallied [] (a ∷ answers) same = absurd (omega (arith, same))
untold_tallied (x ∷ xs) [] same = absurd (omega (arith, same))
untold_tallied (x ∷ xs) (a ∷ answers) same = ((untold x).is a, untold_tallied xs answers (omega (arith, same)))
