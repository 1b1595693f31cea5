-- The final weight and the arcs of the first states of a set.
use Rattle.std.specs.Prelude.{◌≡◌, ◌↔◌, ℕ, ◌+◌, ◌<◌, ◌≤◌, List, [], ◌++◌, Option, Some, None, length, get_or}
use Rattle.std.specs.List.{Contains}
use Rattle.std.proofs.Common.{sym, ◌∙◌, ap, subst, inl, inr, arith}
use Rattle.std.proofs.lemmas.Bool.{cases_lt}
use Rattle.std.proofs.lemmas.List.{get_or_default}
use Rattle.std.proofs.lemmas.List.Elements.{Contains-append_left, Contains-append_right, Contains-append_cases, Contains-get_or}
use Rattle.weighted_relations.specs.declared.Arc.{Arc}
use Rattle.weighted_relations.specs.Machines.{Machine, final_of}
use Rattle.merged_arcs.specs.Merged.{EndOf, Joins, IsArcOf}

-- an element at its place, at the default 0
pub at_place : (set : List ℕ) (s : ℕ) (h : Contains set s) → get_or set h.0 0 ≡ s
at_place set s h = get_or_default set h.0 0 s h.1 ∙ h.2

-- the final weight of the first n
pub record EndTo (a : Machine) (set : List ℕ) (n : ℕ) (last : Option ℕ) : Type 0 where
  pub sound : (w : ℕ) → last ≡ Some w → (s : ℕ) × Contains set s × (final_of a.finals s ≡ Some w)
  pub found : (j w : ℕ) → j < n → final_of a.finals (get_or set j 0) ≡ Some w → last ≡ Some w

pub end_none : (a : Machine) (set : List ℕ) → EndTo a set 0 None
end_none a set = record { sound = λ w e. absurd (cc); found = λ j w l e. absurd (omega (arith, l)) }

pub end_more : (a : Machine) (set : List ℕ) (n : ℕ) (last new : Option ℕ) → n < length set → EndTo a set n last → Joins last (final_of a.finals (get_or set n 0)) new → EndTo a set (n + 1) new
end_more a set n last new within had joins = record {
  sound = λ w e. elim (joins.sound w e) [
    | inl h ↦ had.sound w h
    | inr h ↦ (get_or set n 0, Contains-get_or set n 0 within, h)
  ];
  found = λ j w l e. elim (cases_lt j n) [
    | inl low ↦ joins.first w (had.found j w low e)
    | inr high ↦ let q : j ≡ n = omega arith in joins.second w (ap (λ i. final_of a.finals (get_or set i 0)) (sym q) ∙ e)
  ];
}

pub end_all : (a : Machine) (set : List ℕ) (n : ℕ) (last : Option ℕ) → length set ≤ n → EndTo a set n last → EndOf a set last
end_all a set n last l had = record {
  sound = had.sound;
  found = λ s w h e. had.found h.0 w (let k : h.0 < length set = h.1 in omega arith) (ap (final_of a.finals) (at_place set s h) ∙ e);
}

-- the arcs of the first n
pub record ArcsTo (a : Machine) (set : List ℕ) (n : ℕ) (arcs : List Arc) : Type 0 where
  pub sound : (y : Arc) → Contains arcs y → IsArcOf a set y
  pub found : (j : ℕ) (y : Arc) → j < n → Contains (get_or a.arcs (get_or set j 0) []) y → Contains arcs y

pub arcs_none : (a : Machine) (set : List ℕ) → ArcsTo a set 0 []
arcs_none a set = record { sound = λ y h. absurd (omega (arith, h.1)); found = λ j y l h. absurd (omega (arith, l)) }

pub arcs_more : (a : Machine) (set : List ℕ) (n : ℕ) (arcs row : List Arc) → n < length set → ArcsTo a set n arcs → row ≡ get_or a.arcs (get_or set n 0) [] → ArcsTo a set (n + 1) (arcs ++ row)
arcs_more a set n arcs row within had is = record {
  sound = λ y h. elim (Contains-append_cases arcs row y h) [
    | inl k ↦ had.sound y k
    | inr k ↦ (get_or set n 0, Contains-get_or set n 0 within, subst (λ v. Contains v y) is k)
  ];
  found = λ j y l h. elim (cases_lt j n) [
    | inl low ↦ Contains-append_left arcs row y (had.found j y low h)
    | inr high ↦
        let q : j ≡ n = omega arith in
        Contains-append_right arcs row y (subst (λ v. Contains v y) (ap (λ i. get_or a.arcs (get_or set i 0) []) q ∙ sym is) h)
  ];
}

pub arcs_all : (a : Machine) (set : List ℕ) (n : ℕ) (arcs : List Arc) → length set ≤ n → ArcsTo a set n arcs → (y : Arc) → Contains arcs y ↔ IsArcOf a set y
arcs_all a set n arcs l had y = (
  λ h. had.sound y h,
  λ h. had.found h.1.0 y (let k : h.1.0 < length set = h.1.1 in omega arith) (subst (λ s. Contains (get_or a.arcs s []) y) (sym (at_place set h.0 h.1)) h.2),
)
