-- The rows of a tree as lists.
use Rattle.std.proofs.Common.{◌≡◌, ◌<◌, ◌++◌, ◌∷◌, [], ℕ, List, Option, Vec, Global, map, length, get_or, set, sym, ap, ◌∙◌}
use Rattle.std.proofs.lemmas.List.{map-set, get_or-map, map-append}
use Rattle.weighted_relations.specs.declared.Arc.{Arc}
use Rattle.fst_core.specs.States.{States}

abbrev pub rows_of : List (Vec Arc Global) → List (List Arc)
rows_of rows = map (λ (v : Vec Arc Global). v.items) rows

abbrev pub states : List (List Arc) → List (Option ℕ) → States
states arcs finals = record { arcs = arcs; finals = finals }

-- the row of a state
pub row_is : (rows : List (Vec Arc Global)) (s : ℕ) (v : Vec Arc Global) → s < length rows → v ≡ get_or rows s v → v.items ≡ get_or (rows_of rows) s []
row_is rows s v l e = ap (λ (v : Vec Arc Global). v.items) e ∙ sym (get_or-map (λ (v : Vec Arc Global). v.items) rows s v [] l)

-- one row is changed, and one row comes after the others
pub rows_grown : (rows : List (Vec Arc Global)) (s : ℕ) (v w u : Vec Arc Global) (f : List Arc → List Arc) (all : List (Vec Arc Global)) (more : List Arc) → s < length rows → v ≡ get_or rows s v → w.items ≡ f v.items → all ≡ set rows s w ++ u ∷ [] → u.items ≡ more → rows_of all ≡ set (rows_of rows) s (f (get_or (rows_of rows) s [])) ++ more ∷ []
rows_grown rows s v w u f all more l e g h k =
    ap rows_of h ∙ map-append (λ (v : Vec Arc Global). v.items) (set rows s w) (u ∷ [])
    ∙ ap (λ z. z ++ u.items ∷ []) (map-set (λ (v : Vec Arc Global). v.items) rows s w ∙ ap (set (rows_of rows) s) (g ∙ ap f (row_is rows s v l e)))
    ∙ ap (λ z. set (rows_of rows) s (f (get_or (rows_of rows) s [])) ++ z ∷ []) k
