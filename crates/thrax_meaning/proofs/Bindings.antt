-- Parameters with one argument more.
use Rattle.std.proofs.Common.{◌≡◌, ◌∙◌, refl, sym, ap, arith, ℕ, List, [], ◌∷◌, ◌++◌, ◌<◌, ◌≤◌, length, get_or, Global}
use Rattle.std.specs.Prelude.{map, min}
use Rattle.std.specs.declared.rc.Rc.{Rc}
use Rattle.std.proofs.lemmas.List.{map-append, length-map}
use Rattle.weighted_relations.specs.Expressions.{Expression}
use Rattle.thrax_meaning.specs.Meaning.{bind}
use Rattle.checked_expressions.specs.Answers.{shared_of}
use Rattle.thrax_meaning.specs.Tables.{local_of}
use Rattle.thrax_meaning.specs.declared.table.Bound.{Bound}
use Rattle.checked_expressions.specs.declared.value.Value.{Value}

bind_push : (ps : List (List ℕ)) (es : List Expression) (e : Expression) (d : List ℕ) → length es < length ps → bind ps (es ++ e ∷ []) ≡ bind ps es ++ record { named = get_or ps (length es) d; stands_for = e } ∷ []
bind_push [] es e d h = absurd (omega (arith, h))
bind_push (p ∷ ps) [] e d h = refl
bind_push (p ∷ ps) (x ∷ es) e d h = ap (λ v. record { named = p; stands_for = x } ∷ v) (bind_push ps es e d (omega (arith, h)))

bind_full : (ps : List (List ℕ)) (es : List Expression) (e : Expression) → length ps ≤ length es → bind ps (es ++ e ∷ []) ≡ bind ps es
bind_full [] [] e h = refl
bind_full [] (x ∷ es) e h = refl
bind_full (p ∷ ps) [] e h = absurd (omega (arith, h))
bind_full (p ∷ ps) (x ∷ es) e h = ap (λ v. record { named = p; stands_for = x } ∷ v) (bind_full ps es e (omega (arith, h)))

bind_length : (ps : List (List ℕ)) (es : List Expression) → length (bind ps es) ≡ min (length es) (length ps)
bind_length ps [] = omega arith
bind_length [] (e ∷ es) = omega arith
bind_length (p ∷ ps) (e ∷ es) = let more = bind_length ps es in omega (arith, more)

bound_length : (ps : List (List ℕ)) (vs : List (Rc Value Global)) (bs : List Bound) → bind ps (map shared_of vs) ≡ map local_of bs → length bs ≡ min (length (map shared_of vs)) (length ps)
bound_length ps vs bs h = sym (length-map bs local_of) ∙ ap length (sym h) ∙ bind_length ps (map shared_of vs)

pub more_full : (ps : List (List ℕ)) (vs : List (Rc Value Global)) (v : Rc Value Global) (bs : List Bound) → bind ps (map shared_of vs) ≡ map local_of bs → length ps ≤ length bs → bind ps (map shared_of (vs ++ v ∷ [])) ≡ map local_of bs
more_full ps vs v bs h full =
    let long = bound_length ps vs bs h in
    ap (bind ps) (map-append shared_of vs (v ∷ [])) ∙ bind_full ps (map shared_of vs) (shared_of v) (omega (arith, long, full)) ∙ h

pub more_bound : (ps : List (List ℕ)) (vs : List (Rc Value Global)) (v : Rc Value Global) (bs bs' : List Bound) (i : ℕ) (n p : List ℕ) → bind ps (map shared_of vs) ≡ map local_of bs → i ≡ length bs → i < length ps → p ≡ get_or ps i p → n ≡ p → bs' ≡ bs ++ record { name = n; value = v } ∷ [] → bind ps (map shared_of (vs ++ v ∷ [])) ≡ map local_of bs'
more_bound ps vs v bs bs' i n p h e short is same items =
    let long = bound_length ps vs bs h in
    let at : length (map shared_of vs) ≡ i = omega (arith, long, e, short) in
    ap (bind ps) (map-append shared_of vs (v ∷ [])) ∙ bind_push ps (map shared_of vs) (shared_of v) p (omega (arith, at, short))
    ∙ ap (λ k. bind ps (map shared_of vs) ++ record { named = get_or ps k p; stands_for = shared_of v } ∷ []) at
    ∙ ap (λ m. bind ps (map shared_of vs) ++ record { named = m; stands_for = shared_of v } ∷ []) (sym is ∙ sym same)
    ∙ ap (λ ls. ls ++ record { named = n; stands_for = shared_of v } ∷ []) h ∙ sym (map-append local_of bs (record { name = n; value = v } ∷ [])) ∙ ap (map local_of) (sym items)
