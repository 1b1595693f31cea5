-- Lists that are mapped, kept in part and joined.
use Rattle.std.specs.Prelude.{◌≡◌, Bool, true, false, cond, List, [], ◌∷◌, ◌++◌, Option, Some, None, map, option_map, All}
use Rattle.std.specs.List.{Contains, filter, flat_map, filter_map, cons_option}
use Rattle.std.proofs.Common.{zero, suc, refl, sym, ◌∙◌, ap, arith}
use Rattle.std.proofs.lemmas.List.{map-append}
use Rattle.std.proofs.lemmas.List.Elements.{filter-append, All-head, All-tail, All-nil, All-cons, All-append}

-- what one element alone contains
pub only_one : {X : Type 0} (v d : X) → Contains (v ∷ []) d → v ≡ d
only_one v d (zero, l, e) = e
only_one v d (suc k, l, e) = absurd (omega arith)

-- all that is kept passes the test, or none of it
pub passed_alike : {W Y : Type 0} (p : Y → Bool) (h : W → Option Y) (b : Bool) → ((w : W) (y : Y) → h w ≡ Some y → p y ≡ b) → (ws : List W) → filter p (filter_map h ws) ≡ cond b (filter_map h ws) []
passed_alike p h true e [] = refl
passed_alike p h false e [] = refl
passed_alike {W} {Y} p h b e (w ∷ ws) = by (h w) refl b (λ y n. e w y n) (passed_alike p h b e ws)
  where
    by : (o : Option Y) → h w ≡ o → (b : Bool) → ((y : Y) → h w ≡ Some y → p y ≡ b) → filter p (filter_map h ws) ≡ cond b (filter_map h ws) [] → filter p (cons_option o (filter_map h ws)) ≡ cond b (cons_option o (filter_map h ws)) []
    by None n b e more = more
    by (Some y) n true e more = ap (λ t. cond t (y ∷ filter p (filter_map h ws)) (filter p (filter_map h ws))) (e y n) ∙ ap (λ t. y ∷ t) more
    by (Some y) n false e more = ap (λ t. cond t (y ∷ filter p (filter_map h ws)) (filter p (filter_map h ws))) (e y n) ∙ more

-- lists of elements that pass, joined
pub passed_each : {X Z Y : Type 0} (Q : X → Type 0) (p : Y → Bool) (e : X → Y) (e' : Z → Y) (f : X → List Z) (g : Y → List Y) → ((x : X) → Q x → filter p (map e' (f x)) ≡ cond (p (e x)) (g (e x)) []) → (xs : List X) → All Q xs → filter p (map e' (flat_map f xs)) ≡ flat_map g (filter p (map e xs))
passed_each Q p e e' f g each [] h = refl
passed_each Q p e e' f g each (x ∷ xs) h =
    let more = passed_each Q p e e' f g each xs (All-tail Q x xs h) in
    ap (filter p) (map-append e' (f x) (flat_map f xs))
    ∙ (filter-append p (map e' (f x)) (map e' (flat_map f xs))
    ∙ (ap (λ t. t ++ filter p (map e' (flat_map f xs))) (each x (All-head Q x xs h))
    ∙ (ap (λ t. cond (p (e x)) (g (e x)) [] ++ t) more ∙ by (p (e x)))))
  where
    by : (b : Bool) → cond b (g (e x)) [] ++ flat_map g (filter p (map e xs)) ≡ flat_map g (cond b (e x ∷ filter p (map e xs)) (filter p (map e xs)))
    by true = refl
    by false = refl

as_flat : {X Y : Type 0} (h : X → Option Y) (xs : List X) → flat_map (λ x. cons_option (h x) []) xs ≡ filter_map h xs
as_flat h [] = refl
as_flat {X} {Y} h (x ∷ xs) = ap (λ t. cons_option (h x) [] ++ t) (as_flat h xs) ∙ put (h x)
  where
    put : (o : Option Y) → cons_option o [] ++ filter_map h xs ≡ cons_option o (filter_map h xs)
    put None = refl
    put (Some y) = refl

-- what is kept of the elements that pass
pub passed_kept : {X Z Y : Type 0} (Q : X → Type 0) (p : Y → Bool) (e : X → Y) (e' : Z → Y) (h : X → Option Z) (g : Y → Option Y) → ((x : X) → Q x → option_map e' (h x) ≡ g (e x)) → ((y z : Y) → g y ≡ Some z → p z ≡ p y) → (xs : List X) → All Q xs → filter p (map e' (filter_map h xs)) ≡ filter_map g (filter p (map e xs))
passed_kept {X} {Z} {Y} Q p e e' h g same input xs q =
    ap (λ t. filter p (map e' t)) (sym (as_flat h xs)) ∙ (passed_each Q p e e' (λ x. cons_option (h x) []) (λ y. cons_option (g y) []) each xs q ∙ as_flat g (filter p (map e xs)))
  where
    one : (o : Option Z) → filter p (map e' (cons_option o [])) ≡ filter p (cons_option (option_map e' o) [])
    one None = refl
    one (Some z) = refl

    alike : (o : Option Y) (b : Bool) → ((z : Y) → o ≡ Some z → p z ≡ b) → filter p (cons_option o []) ≡ cond b (cons_option o []) []
    alike None true n = refl
    alike None false n = refl
    alike (Some z) true n = ap (λ t. cond t (z ∷ []) []) (n z refl)
    alike (Some z) false n = ap (λ t. cond t (z ∷ []) []) (n z refl)

    each : (x : X) → Q x → filter p (map e' (cons_option (h x) [])) ≡ cond (p (e x)) (cons_option (g (e x)) []) []
    each x q = one (h x) ∙ (ap (λ o. filter p (cons_option o [])) (same x q) ∙ alike (g (e x)) (p (e x)) (λ z n. input (e x) z n))

-- what holds of all that is kept, and of all lists that are joined
pub all_kept : {W X : Type 0} (Q : W → Type 0) (P : X → Type 0) (h : W → Option X) → ((w : W) (x : X) → Q w → h w ≡ Some x → P x) → (ws : List W) → All Q ws → All P (filter_map h ws)
all_kept Q P h e [] q = All-nil P
all_kept {W} {X} Q P h e (w ∷ ws) q = by (h w) refl (all_kept Q P h e ws (All-tail Q w ws q))
  where
    by : (o : Option X) → h w ≡ o → All P (filter_map h ws) → All P (cons_option o (filter_map h ws))
    by None n more = more
    by (Some x) n more = All-cons P x (filter_map h ws) (e w x (All-head Q w ws q) n) more

pub all_flat : {W X : Type 0} (Q : W → Type 0) (P : X → Type 0) (f : W → List X) → ((w : W) → Q w → All P (f w)) → (ws : List W) → All Q ws → All P (flat_map f ws)
all_flat Q P f e [] q = All-nil P
all_flat Q P f e (w ∷ ws) q = All-append P (f w) (flat_map f ws) (e w (All-head Q w ws q)) (all_flat Q P f e ws (All-tail Q w ws q))
