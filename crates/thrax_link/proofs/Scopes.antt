-- An open file keeps its scope as more files are finished.
use Rattle.std.proofs.Common.{◌≡◌, ◌∙◌, refl, sym, ap, subst, arith, ℕ, ◌≤◌, List, [], ◌∷◌, ◌++◌, length}
use Rattle.norm_base.specs.Files.{Files}
use Rattle.thrax_meaning.specs.Meaning.{Scope, empty, bound, file}
use Rattle.thrax_meaning.specs.Tables.{meaning_of, scope_after, scope_of, scopes_of, scope_over}
use Rattle.thrax_meaning.specs.declared.table.Entry.{Entry}
use Rattle.thrax_meaning.specs.declared.table.Kind.{Kind}
use Rattle.thrax_meaning.specs.declared.table.Kind.TheVariants as kind
use Rattle.thrax_meaning.proofs.Scopes.{get_or-append-left, scopes_length, scopes_grow_after}
use Rattle.thrax_link.specs.Progress.{IsWithin, KindWithin}

pub within_push : (n : ℕ) (es : List Entry) (e : Entry) → IsWithin n es → KindWithin n e.kind → IsWithin n (es ++ e ∷ [])
within_push n [] e h k = (k, tt)
within_push n (d ∷ ds) e h k = (h.0, within_push n ds e h.1 k)

-- what a table means stays as more files are finished
meaning_stays : (f : Files) (done more : List Scope) (s : Scope) (k : Kind) → KindWithin (length done) k → meaning_of f (done ++ more) s k ≡ meaning_of f done s k
meaning_stays f done more s (kind.Value exported v) h = refl
meaning_stays f done more s (kind.Function d) h = refl
meaning_stays f done more s (kind.File k) h = ap file (get_or-append-left done more k empty h)

scope_stays : (f : Files) (done more : List Scope) (s : Scope) (es : List Entry) → IsWithin (length done) es → scope_after f (done ++ more) s es ≡ scope_after f done s es
scope_stays f done more s [] h = refl
scope_stays f done more s (e ∷ es) h =
    ap (λ m. scope_after f (done ++ more) (bound e.name m s) es) (meaning_stays f done more s e.kind h.0) ∙ scope_stays f done more (bound e.name (meaning_of f done s e.kind) s) es h.1

-- an open file keeps its scope as more files are finished
pub scope_kept : (f : Files) (ts more : List (List Entry)) (es : List Entry) → IsWithin (length ts) es → scope_over f (ts ++ more) es ≡ scope_over f ts es
scope_kept f ts more es h =
    let grown = scopes_grow_after f [] ts more in
    ap (λ v. scope_of f v es) grown.1 ∙ scope_stays f (scopes_of f ts) grown.0 empty es (subst (λ n. IsWithin n es) (sym (scopes_length f [] ts ∙ omega arith)) h)

kind_grown : (n m : ℕ) (k : Kind) → n ≤ m → KindWithin n k → KindWithin m k
kind_grown n m (kind.Value exported v) le h = tt
kind_grown n m (kind.Function d) le h = tt
kind_grown n m (kind.File k) le h = omega (arith, le, h)

pub within_grown : (n m : ℕ) (es : List Entry) → n ≤ m → IsWithin n es → IsWithin m es
within_grown n m [] le h = tt
within_grown n m (e ∷ es) le h = (kind_grown n m e.kind le h.0, within_grown n m es le h.1)
