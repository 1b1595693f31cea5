-- States that are looked up, and their numbers.
use Rattle.std.proofs.Common.{◌≡◌, ◌∙◌, inl, inr, sym, ap, subst, refl, arith, ℕ, ◌<◌, List, [], ◌∷◌, ◌++◌, length, Some, get_or}
use Rattle.std.specs.Prelude.{slice_get}
use Rattle.std.proofs.lemmas.List.{length_push, get_or_push}
use Rattle.std.proofs.lemmas.Option.{slice_get-get_or, slice_get_within}
use Rattle.state_table.specs.Numbers.{Distinct, Keeps, Numbers}
use Rattle.state_table.proofs.Numbering.{keeps_more, keeps_push, numbers_keeps, numbers_known, pushed_cases}
use Rattle.field_orders.specs.declared.states.State.{State}
use Rattle.field_orders.specs.Sources.{AreMet}

-- a state that is put last has the next number
pub put_last : (old : List State) (s : State) → Numbers old (old ++ s ∷ []) s (length old)
put_last old s = record {
  stored = slice_get-get_or (old ++ s ∷ []) (length old) s (let p = length_push old s in omega (arith, p)) ∙ ap Some (get_or_push old s s (length old) refl);
  added = inr refl;
}

pub put_is : (was old new : List State) (s u : State) (n : ℕ) → old ≡ was → new ≡ old ++ s ∷ [] → s ≡ u → n ≡ length old → Numbers was new u n
put_is was old new s u n a b c d = subst (λ v. Numbers v new u n) a (subst (λ z. Numbers old new z n) c (subst (λ v. Numbers old v s n) (sym b) (subst (Numbers old (old ++ s ∷ []) s) (sym d) (put_last old s))))

-- what was met is so while both lists grow
pub met_more : (all more met new : List State) (ns : List ℕ) → Keeps all more → Keeps met new → AreMet all met ns → AreMet more new ns
met_more all more met new ns f g h = record {
  few = (let p = keeps_more g in let q = h.few in omega (arith, p, q));
  each = λ i n s at is.
      let l : i < length met = (let p = slice_get_within ns i n at in let q = h.few in omega (arith, p, q)) in
      let was = slice_get-get_or met i s l in
      let same : slice_get met i ≡ Some s = was ∙ sym (g.kept i (get_or met i s) was) ∙ is in
      f.kept n s (h.each i n s at same);
}

-- one more, at the next place
pub met_next : (all met : List State) (ns : List ℕ) (n : ℕ) (s : State) → AreMet all met ns → slice_get met (length ns) ≡ Some s → slice_get all n ≡ Some s → AreMet all met (ns ++ n ∷ [])
met_next all met ns n s h at is = record {
  few = (let p = slice_get_within met (length ns) s at in let q = length_push ns n in omega (arith, p, q));
  each = λ i m u there here. elim (pushed_cases ns n i m there) [
    | inl e ↦ h.each i m u e here
    | inr e ↦ subst (λ k. slice_get all k ≡ Some u) (sym e.0) (is ∙ sym at ∙ ap (slice_get met) (sym e.1) ∙ here)
  ];
}

-- one that was looked up before has its number
pub met_again : (all met new : List State) (ns : List ℕ) (s : State) (i n : ℕ) → AreMet all met ns → Distinct new → Numbers met new s i → slice_get ns i ≡ Some n → Numbers all all s n
met_again all met new ns s i n h d is at =
    let l : i < length met = (let p = slice_get_within ns i n at in let q = h.few in omega (arith, p, q)) in
    record { stored = h.each i n s at (ap (λ v. slice_get v i) (sym (numbers_known is d l)) ∙ is.stored); added = inl refl }

-- a state was looked up, and given the next number where it had none
pub met_put : (all more met new : List State) (ns : List ℕ) (s u : State) (i : ℕ) → more ≡ all ++ u ∷ [] → AreMet all met ns → Numbers met new s i → AreMet more new ns
met_put all more met new ns s u i e h is = subst (λ v. AreMet v new ns) (sym e) (met_more all (all ++ u ∷ []) met new ns (keeps_push all u) (numbers_keeps is) h)
