-- The rules of a linked file, one after another.
use Rattle.std.proofs.Common.{◌≡◌, ◌+◌, ◌<◌, ℕ, suc, List, [], ◌∷◌, ◌++◌, Ok, Err, Result, length, take, drop, get_or, refl, sym, ap, ◌∙◌}
use Rattle.std.proofs.lemmas.List.{take_more, drop_more, take-append-drop}
use Rattle.weighted_relations.specs.Expressions.{Expression}
use Rattle.thrax_link.specs.Exports.{expression_named}
use Rattle.speak_core.specs.Accepted.{checked, with_first, named}
use Rattle.speak_core.specs.Loaded.{TellsText}
use Rattle.speak_core.specs.declared.stop.Stop.{Stop}
use Rattle.speak_core.specs.declared.stop.Stop.TheVariants as stop

-- names

module _ (file : List ℕ) (exports : List (List ℕ × Expression)) where
  -- what the first rule and those after it come to, where none is refused
  record Parted (first : List ℕ) (names : List (List ℕ)) (es : List Expression) : Type 0 where
    e : Expression
    rest : List Expression
    all : es ≡ e ∷ rest
    is_first : checked file first (expression_named exports first) ≡ Ok e
    are_rest : named file exports names ≡ Ok rest

  parted : (first : List ℕ) (names : List (List ℕ)) (es : List Expression) → named file exports (first ∷ names) ≡ Ok es → Parted first names es
  parted first names es had = go (checked file first (expression_named exports first)) refl (named file exports names) refl where
    go : (c : Result Expression (List ℕ)) → checked file first (expression_named exports first) ≡ c → (r : Result (List Expression) (List ℕ)) → named file exports names ≡ r → Parted first names es
    go (Err text) is r of = absurd (let both : Err text ≡ Ok es = sym (ap (λ c. with_first c (named file exports names)) is) ∙ had in cc)
    go (Ok f) is (Err text) of = absurd (let both : Err text ≡ Ok es = sym (ap (λ c. with_first c (named file exports names)) is ∙ ap (λ r. with_first (Ok f) r) of) ∙ had in cc)
    go (Ok f) is (Ok fs) of =
        let both : Ok (f ∷ fs) ≡ Ok es = sym (ap (λ c. with_first c (named file exports names)) is ∙ ap (λ r. with_first (Ok f) r) of) ∙ had in
        record { e = f; rest = fs; all = (let same : es ≡ f ∷ fs = cc in same); is_first = is; are_rest = of }

  -- the first rule, and then what those after it come to
  then_rest : (first : List ℕ) (names : List (List ℕ)) (e : Expression) (r : Result (List Expression) (List ℕ)) → checked file first (expression_named exports first) ≡ Ok e → named file exports names ≡ r → named file exports (first ∷ names) ≡ with_first (Ok e) r
  then_rest first names e r is of = ap (λ c. with_first c (named file exports names)) is ∙ ap (λ t. with_first (Ok e) t) of

  pub named_more : (names : List (List ℕ)) (name : List ℕ) (es : List Expression) (e : Expression) → named file exports names ≡ Ok es → checked file name (expression_named exports name) ≡ Ok e → named file exports (names ++ name ∷ []) ≡ Ok (es ++ e ∷ [])
  named_more [] name [] e had one = ap (λ c. with_first c (Ok [])) one
  named_more [] name (f ∷ es) e had one = absurd (let both : Ok [] ≡ Ok (f ∷ es) = had in cc)
  named_more (first ∷ names) name es e had one =
      let p = parted first names es had in
      then_rest first (names ++ name ∷ []) p.e (Ok (p.rest ++ e ∷ [])) p.is_first (named_more names name p.rest e p.are_rest one) ∙ ap (λ l. Ok (l ++ e ∷ [])) (sym p.all)

  pub named_until : (names : List (List ℕ)) (name : List ℕ) (rest : List (List ℕ)) (es : List Expression) (text : List ℕ) → named file exports names ≡ Ok es → checked file name (expression_named exports name) ≡ Err text → named file exports (names ++ name ∷ rest) ≡ Err text
  named_until [] name rest es text had one = ap (λ c. with_first c (named file exports rest)) one
  named_until (first ∷ names) name rest es text had one =
      let p = parted first names es had in
      then_rest first (names ++ name ∷ rest) p.e (Err text) p.is_first (named_until names name rest p.rest text p.are_rest one)

  pub named_count : (names : List (List ℕ)) (es : List Expression) → named file exports names ≡ Ok es → length names ≡ length es
  named_count [] [] had = refl
  named_count [] (e ∷ es) had = absurd (let both : Ok [] ≡ Ok (e ∷ es) = had in cc)
  named_count (first ∷ names) es had =
      let p = parted first names es had in
      ap suc (named_count names p.rest p.are_rest) ∙ ap length (sym p.all)

-- elements in order

module _ {X : Type 0} (xs : List X) (i : ℕ) (x : X) (within : i < length xs) (there : x ≡ get_or xs i x) where
  pub front_more : take (i + 1) xs ≡ take i xs ++ x ∷ []
  front_more = take_more xs i x within ∙ ap (λ y. take i xs ++ y ∷ []) (sym there)

  pub parts_at : take i xs ++ x ∷ drop (i + 1) xs ≡ xs
  parts_at = ap (λ y. take i xs ++ y ∷ drop (i + 1) xs) there ∙ (ap (λ t. take i xs ++ t) (sym (drop_more xs i x within)) ∙ take-append-drop i xs)

module _ (file : List ℕ) (exports : List (List ℕ × Expression)) (names : List (List ℕ)) (i : ℕ) (name : List ℕ) (es : List Expression) (within : i < length names) (there : name ≡ get_or names i name) (had : named file exports (take i names) ≡ Ok es) where
  pub find_step : (e : Expression) → checked file name (expression_named exports name) ≡ Ok e → named file exports (take (i + 1) names) ≡ Ok (es ++ e ∷ [])
  find_step e one = ap (named file exports) (front_more names i name within there) ∙ named_more file exports (take i names) name es e had one

  -- the refusal of a rule is that of all
  pub find_stop : (s : Stop) → TellsText (checked file name (expression_named exports name)) s → TellsText (named file exports names) s
  find_stop stop.Words h = h
  find_stop (stop.Refused text) h = sym (ap (named file exports) (parts_at names i name within there)) ∙ named_until file exports (take i names) name (drop (i + 1) names) es text.items had h
  find_stop stop.Outside h = h
  find_stop stop.Memory h = tt
  find_stop stop.TooLong h = h
