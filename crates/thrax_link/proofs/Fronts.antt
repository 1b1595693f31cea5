-- Lists from their fronts.
use Rattle.std.proofs.Common.{◌≡◌, ◌∙◌, refl, sym, ap, arith, List, [], ◌∷◌, ◌++◌, length, true, false, append_assoc}
use Rattle.std.specs.Prelude.{drop, ℕ}
use Rattle.std.proofs.lemmas.List.{append-nil, map-append}
use Rattle.norm_base.specs.Files.{Files}
use Rattle.thrax_meaning.specs.Meaning.{Scope, empty, bound}
use Rattle.thrax_meaning.specs.Tables.{meaning_of, scope_after, scope_of}
use Rattle.thrax_meaning.specs.declared.table.Entry.{Entry}
use Rattle.thrax_meaning.specs.declared.table.Kind.{Kind}
use Rattle.thrax_meaning.specs.declared.table.Kind.TheVariants as kind
use Rattle.thrax_link.specs.Exports.{export_term, exports_of, exported_as, exported_entries}
use Rattle.thrax_link.specs.declared.grammar.Export.{Export}
use Rattle.thrax_link.specs.Linking.{exports}

-- nothing is left where what is left stays when its first leaves
pub gone : {X : Type 0} (old new : List X) → old ≡ new → new ≡ drop 1 old → old ≡ []
gone [] new e f = refl
gone (x ∷ xs) new e f = absurd (let long = ap length (e ∙ f) in omega (arith, long))

pub exported_push : (es : List Entry) (e : Entry) → exported_entries (es ++ e ∷ []) ≡ exported_entries es ++ exported_as e.name e.kind
exported_push [] e = append-nil (exported_as e.name e.kind)
exported_push (d ∷ ds) e = ap (λ v. exported_as d.name d.kind ++ v) (exported_push ds e) ∙ sym (append_assoc (exported_as d.name d.kind) (exported_entries ds) (exported_as e.name e.kind))

exports_bound : (f : Files) (done : List Scope) (s : Scope) (name : List ℕ) (k : Kind) → exports (bound name (meaning_of f done s k) s) ≡ exports s ++ exported_as name k
exports_bound f done s name (kind.Value true v) = refl
exports_bound f done s name (kind.Value false v) = sym (append-nil (exports s))
exports_bound f done s name (kind.Function d) = sym (append-nil (exports s))
exports_bound f done s name (kind.File k) = sym (append-nil (exports s))

exports_after : (f : Files) (done : List Scope) (s : Scope) (es : List Entry) → exports (scope_after f done s es) ≡ exports s ++ exported_entries es
exports_after f done s [] = sym (append-nil (exports s))
exports_after f done s (e ∷ es) =
    exports_after f done (bound e.name (meaning_of f done s e.kind) s) es ∙ ap (λ v. v ++ exported_entries es) (exports_bound f done s e.name e.kind) ∙ append_assoc (exports s) (exported_as e.name e.kind) (exported_entries es)

-- what a scope exports is what its table exports
pub exports_scope : (f : Files) (done : List Scope) (es : List Entry) → exports (scope_of f done es) ≡ exported_entries es
exports_scope f done es = exports_after f done empty es

pub exports_more : (es : List Entry) (e : Entry) (xs xs' : List Export) (x : Export) → exports_of xs ≡ exported_entries es → exported_as e.name e.kind ≡ export_term x ∷ [] → xs' ≡ xs ++ x ∷ [] → exports_of xs' ≡ exported_entries (es ++ e ∷ [])
exports_more es e xs xs' x h k items =
    ap exports_of items ∙ map-append export_term xs (x ∷ []) ∙ ap (λ v. v ++ export_term x ∷ []) h ∙ ap (λ v. exported_entries es ++ v) (sym k) ∙ sym (exported_push es e)

pub exports_same : (es : List Entry) (e : Entry) (xs : List Export) → exports_of xs ≡ exported_entries es → exported_as e.name e.kind ≡ [] → exports_of xs ≡ exported_entries (es ++ e ∷ [])
exports_same es e xs h k = h ∙ sym (append-nil (exported_entries es)) ∙ ap (λ v. exported_entries es ++ v) (sym k) ∙ sym (exported_push es e)
