-- The scopes that tables stand for, with one entry or one file more.
use Rattle.std.proofs.Common.{◌≡◌, ◌∙◌, refl, sym, ap, arith, ℕ, ◌+◌, List, [], ◌∷◌, ◌++◌, ◌<◌, ◌≤◌, take, length, get_or, true, false, length-append, append_assoc, zero, suc}
use Rattle.std.specs.Prelude.{if◌then◌else◌, Some}
use Rattle.std.specs.Str.{bytes_eq}
use Rattle.std.proofs.lemmas.List.{take_more, append-nil}
use Rattle.norm_base.specs.Files.{Files}
use Rattle.thrax_meaning.specs.Meaning.{Scope, empty, bound, found}
use Rattle.thrax_meaning.specs.declared.table.Entry.{Entry}
use Rattle.thrax_meaning.specs.Tables.{scope_of, scope_after, scopes_of, scopes_after, weights, meaning_of, weight, kind_weight}

pub get_or-append-left : (xs ys : List Scope) (k : ℕ) (d : Scope) → k < length xs → get_or (xs ++ ys) k d ≡ get_or xs k d
get_or-append-left [] ys k d h = absurd (omega (arith, h))
get_or-append-left (x ∷ xs) ys zero d h = refl
get_or-append-left (x ∷ xs) ys (suc k) d h = get_or-append-left xs ys k d (omega (arith, h))

pub get_or-append-last : (xs : List Scope) (x d : Scope) → get_or (xs ++ x ∷ []) (length xs) d ≡ x
get_or-append-last [] x d = refl
get_or-append-last (y ∷ ys) x d = get_or-append-last ys x d

get_or-past : (xs : List Scope) (k : ℕ) (d : Scope) → length xs ≤ k → get_or xs k d ≡ d
get_or-past [] k d h = refl
get_or-past (x ∷ xs) zero d h = absurd (omega (arith, h))
get_or-past (x ∷ xs) (suc k) d h = get_or-past xs k d (omega (arith, h))

after_push : (f : Files) (done : List Scope) (s : Scope) (es : List Entry) (e : Entry) → scope_after f done s (es ++ e ∷ []) ≡ bound e.name (meaning_of f done (scope_after f done s es) e.kind) (scope_after f done s es)
after_push f done s [] e = refl
after_push f done s (d ∷ ds) e = after_push f done (bound d.name (meaning_of f done s d.kind) s) ds e

pub scope_push : (f : Files) (done : List Scope) (es : List Entry) (e : Entry) → scope_of f done (es ++ e ∷ []) ≡ bound e.name (meaning_of f done (scope_of f done es) e.kind) (scope_of f done es)
scope_push f done es e = after_push f done empty es e

weight_push : (es : List Entry) (e : Entry) → weight (es ++ e ∷ []) ≡ weight es + kind_weight e.kind
weight_push [] e = omega arith
weight_push (d ∷ ds) e = let more = weight_push ds e in omega (arith, more)

-- the first entries with the next one
next : (xs : List Entry) (i : ℕ) (x : Entry) → i < length xs → x ≡ get_or xs i x → take (i + 1) xs ≡ take i xs ++ x ∷ []
next xs i x h e = take_more xs i x h ∙ ap (λ v. take i xs ++ v ∷ []) (sym e)

found_next : (f : Files) (done : List Scope) (xs : List Entry) (i : ℕ) (x : Entry) (n : List ℕ) → i < length xs → x ≡ get_or xs i x
    → found (scope_of f done (take (i + 1) xs)) n ≡ (if bytes_eq x.name n then Some (meaning_of f done (scope_of f done (take i xs)) x.kind) else found (scope_of f done (take i xs)) n)
found_next f done xs i x n h e = ap (λ v. found (scope_of f done v) n) (next xs i x h e) ∙ ap (λ s. found s n) (scope_push f done (take i xs) x)

pub found_here : (f : Files) (done : List Scope) (xs : List Entry) (i at : ℕ) (x : Entry) (n : List ℕ) → i + 1 ≡ at → i < length xs → x ≡ get_or xs i x → bytes_eq x.name n ≡ true → found (scope_of f done (take at xs)) n ≡ Some (meaning_of f done (scope_of f done (take i xs)) x.kind)
found_here f done xs i at x n p h e q =
    ap (λ k. found (scope_of f done (take k xs)) n) (sym p) ∙ found_next f done xs i x n h e ∙ ap (λ b. if b then Some (meaning_of f done (scope_of f done (take i xs)) x.kind) else found (scope_of f done (take i xs)) n) q

pub found_before : (f : Files) (done : List Scope) (xs : List Entry) (i at : ℕ) (x : Entry) (n : List ℕ) → i + 1 ≡ at → i < length xs → x ≡ get_or xs i x → bytes_eq x.name n ≡ false → found (scope_of f done (take at xs)) n ≡ found (scope_of f done (take i xs)) n
found_before f done xs i at x n p h e q =
    ap (λ k. found (scope_of f done (take k xs)) n) (sym p) ∙ found_next f done xs i x n h e ∙ ap (λ b. if b then Some (meaning_of f done (scope_of f done (take i xs)) x.kind) else found (scope_of f done (take i xs)) n) q

pub weight_next : (xs : List Entry) (i at : ℕ) (x : Entry) → i + 1 ≡ at → i < length xs → x ≡ get_or xs i x → weight (take at xs) ≡ weight (take i xs) + kind_weight x.kind
weight_next xs i at x p h e = ap (λ k. weight (take k xs)) (sym p) ∙ ap weight (next xs i x h e) ∙ weight_push (take i xs) x

prefix_kept : (f : Files) (done : List Scope) (ts : List (List Entry)) (k : ℕ) → k < length done → get_or (scopes_after f done ts) k empty ≡ get_or done k empty
prefix_kept f done [] k h = refl
prefix_kept f done (t ∷ ts) k h =
    prefix_kept f (done ++ scope_of f done t ∷ []) ts k (let long = length-append done (scope_of f done t ∷ []) in omega (arith, long, h)) ∙ get_or-append-left done (scope_of f done t ∷ []) k empty h

pub scopes_length : (f : Files) (done : List Scope) (ts : List (List Entry)) → length (scopes_after f done ts) ≡ length done + length ts
scopes_length f done [] = omega arith
scopes_length f done (t ∷ ts) =
    let more = scopes_length f (done ++ scope_of f done t ∷ []) ts in
    let long = length-append done (scope_of f done t ∷ []) in omega (arith, more, long)

scopes_at_from : (f : Files) (done : List Scope) (ts : List (List Entry)) (i : ℕ) (t : List Entry) → i < length ts → t ≡ get_or ts i t → get_or (scopes_after f done ts) (length done + i) empty ≡ scope_of f (scopes_after f done (take i ts)) t
scopes_at_from f done [] i t h e = absurd (omega (arith, h))
scopes_at_from f done (u ∷ us) zero t h e =
    let long = length-append done (scope_of f done u ∷ []) in
    ap (λ k. get_or (scopes_after f (done ++ scope_of f done u ∷ []) us) k empty) (omega arith)
    ∙ prefix_kept f (done ++ scope_of f done u ∷ []) us (length done) (omega (arith, long))
    ∙ get_or-append-last done (scope_of f done u) empty
    ∙ ap (λ v. scope_of f done v) (sym e)
scopes_at_from f done (u ∷ us) (suc i) t h e =
    let long = length-append done (scope_of f done u ∷ []) in
    ap (λ k. get_or (scopes_after f (done ++ scope_of f done u ∷ []) us) k empty) (omega (arith, long))
    ∙ scopes_at_from f (done ++ scope_of f done u ∷ []) us i t (omega (arith, h)) e

pub scopes_at : (f : Files) (ts : List (List Entry)) (i : ℕ) (t : List Entry) → i < length ts → t ≡ get_or ts i t → get_or (scopes_of f ts) i empty ≡ scope_of f (scopes_of f (take i ts)) t
scopes_at f ts i t h e = ap (λ k. get_or (scopes_of f ts) k empty) (omega arith) ∙ scopes_at_from f [] ts i t h e

pub scopes_past : (f : Files) (ts : List (List Entry)) (i : ℕ) → length ts ≤ i → get_or (scopes_of f ts) i empty ≡ empty
scopes_past f ts i h = let long = scopes_length f [] ts in get_or-past (scopes_of f ts) i empty (omega (arith, long, h))

pub weights_at : (ts : List (List Entry)) (i : ℕ) (t : List Entry) → i < length ts → t ≡ get_or ts i t → weights (take i ts) + weight t ≤ weights ts
weights_at [] i t h e = absurd (omega (arith, h))
weights_at (u ∷ us) zero t h e = let same : weight t ≡ weight u = ap weight e in omega (arith, same)
weights_at (u ∷ us) (suc i) t h e = let more = weights_at us i t (omega (arith, h)) e in omega (arith, more)

-- one file more
pub scopes_push : (f : Files) (done : List Scope) (ts : List (List Entry)) (t : List Entry) → scopes_after f done (ts ++ t ∷ []) ≡ scopes_after f done ts ++ scope_of f (scopes_after f done ts) t ∷ []
scopes_push f done [] t = refl
scopes_push f done (u ∷ us) t = scopes_push f (done ++ scope_of f done u ∷ []) us t

scopes_extend : (f : Files) (done : List Scope) (ts : List (List Entry)) → (rest : List Scope) × (scopes_after f done ts ≡ done ++ rest)
scopes_extend f done [] = ([], sym (append-nil done))
scopes_extend f done (t ∷ ts) =
    let more = scopes_extend f (done ++ scope_of f done t ∷ []) ts in
    (scope_of f done t ∷ more.0, more.1 ∙ append_assoc done (scope_of f done t ∷ []) more.0)

-- the scopes of more files go on from those of fewer
pub scopes_grow_after : (f : Files) (done : List Scope) (ts more : List (List Entry)) → (rest : List Scope) × (scopes_after f done (ts ++ more) ≡ scopes_after f done ts ++ rest)
scopes_grow_after f done [] more = scopes_extend f done more
scopes_grow_after f done (t ∷ ts) more = scopes_grow_after f (done ++ scope_of f done t ∷ []) ts more
