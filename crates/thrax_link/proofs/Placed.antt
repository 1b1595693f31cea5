-- Where files are found by their names.
use Rattle.std.proofs.Common.{◌≡◌, ◌∙◌, refl, sym, ap, arith, ℕ, zero, suc, ◌<◌, List, [], ◌∷◌, length, get_or, Bool, true, false, None, Some}
use Rattle.std.specs.Prelude.{if◌then◌else◌, MatchOption}
use Rattle.std.specs.declared.option.Option.{Option}
use Rattle.std.specs.Option.{option_map, option_or}
use Rattle.std.specs.Str.{bytes_eq}
use Rattle.norm_base.specs.Files.{Files}
use Rattle.thrax_meaning.proofs.Index.{some_later}
use Rattle.thrax_meaning.specs.Index.{newest}
use Rattle.thrax_meaning.specs.Meaning.{Scope, empty}
use Rattle.thrax_meaning.specs.Tables.{scopes_of}
use Rattle.thrax_link.specs.Linking.{Finished, finished_names}
use Rattle.thrax_link.specs.Progress.{finished_onto, finished_of, scope_at}
use Rattle.thrax_link.specs.declared.done.Done.{Done}
use Rattle.thrax_meaning.proofs.Scopes.{scopes_length}

first : (later : Option ℕ) (b : Bool) (s : Scope) (ss : List Scope) (before : Option Scope) → option_or (option_map (λ k. get_or ss k empty) later) (if b then Some s else before)
    ≡ option_or (option_map (λ k. get_or (s ∷ ss) k empty) (option_or (option_map suc later) (if b then Some 0 else None))) before
first None true s ss before = refl
first None false s ss before = refl
first (Some k) b s ss before = refl

scope_found : (done : List Finished) (names : List (List ℕ)) (ss : List Scope) (q : List ℕ) → length names ≡ length ss
    → finished_names (finished_onto done names ss) q ≡ option_or (option_map (λ k. get_or ss k empty) (newest names q)) (finished_names done q)
scope_found done [] ss q l = refl
scope_found done (n ∷ names) [] q l = absurd (omega (arith, l))
scope_found done (n ∷ names) (s ∷ ss) q l =
    scope_found (record { name = n; names = s } ∷ done) names ss q (omega (arith, l)) ∙ first (newest names q) (bytes_eq n q) s ss (finished_names done q)

newest_within : (names : List (List ℕ)) (q : List ℕ) (k : ℕ) → newest names q ≡ Some k → k < length names
newest_within [] q k e = absurd (let no : None ≡ Some k = e in cc)
newest_within (n ∷ names) q zero e = omega arith
newest_within (n ∷ names) q (suc k) e = let less = newest_within names q k (some_later (newest names q) (bytes_eq n q) k e) in omega (arith, less)

named : (files : Files) (d : Done) (q : List ℕ) (r : Option ℕ) → length d.names.items ≡ length d.tables.items → r ≡ newest d.names.items q
    → finished_names (finished_of files d) q ≡ option_or (option_map (scope_at files d.tables.items) r) None
named files d q r l e =
    scope_found [] d.names.items (scopes_of files d.tables.items) q (l ∙ sym (scopes_length files [] d.tables.items ∙ omega arith))
    ∙ ap (λ o. option_or (option_map (scope_at files d.tables.items) o) None) (sym e)

pub found_place : (files : Files) (d : Done) (q : List ℕ) (r : Option ℕ) → length d.names.items ≡ length d.tables.items → r ≡ newest d.names.items q
    → MatchOption r (finished_names (finished_of files d) q ≡ None) (λ k. (k < length d.tables.items) × (finished_names (finished_of files d) q ≡ Some (scope_at files d.tables.items k)))
found_place files d q None l e = named files d q None l e
found_place files d q (Some k) l e = let less = newest_within d.names.items q k (sym e) in (omega (arith, less, l), named files d q (Some k) l e)
