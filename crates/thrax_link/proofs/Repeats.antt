-- Names that come a second time.
use Rattle.std.proofs.Common.{◌≡◌, ◌∙◌, refl, sym, ap, ℕ, ◌+◌, ◌<◌, List, [], ◌∷◌, ◌++◌, length, get_or, take, append_assoc, true, false, Some}
use Rattle.std.specs.Prelude.{map, drop, if◌then◌else◌}
use Rattle.std.proofs.lemmas.List.{drop_more, take_more}
use Rattle.thrax_syntax.specs.Trees.{local_term}
use Rattle.thrax_syntax.specs.declared.tree.Local.{Local}
use Rattle.thrax_link.specs.Linking.{repeated, is_among}

abbrev pub names : List Local → List (List ℕ)
names ds = map (λ l. l.name) (map local_term ds)

pub repeats_later : (before rest : List (List ℕ)) (n : List ℕ) → is_among n before ≡ false → repeated before (n ∷ rest) ≡ repeated (before ++ n ∷ []) rest
repeats_later before rest n h = ap (λ b. if b then Some n else repeated (before ++ n ∷ []) rest) h

pub repeats_here : (before rest : List (List ℕ)) (n : List ℕ) → is_among n before ≡ true → repeated before (n ∷ rest) ≡ Some n
repeats_here before rest n h = ap (λ b. if b then Some n else repeated (before ++ n ∷ []) rest) h

pub params_here : (ps rest : List (List ℕ)) (i : ℕ) (n : List ℕ) → i < length ps → n ≡ get_or ps i n → drop i ps ++ rest ≡ n ∷ (drop (i + 1) ps ++ rest)
params_here ps rest i n h e = ap (λ v. v ++ rest) (drop_more ps i n h) ∙ ap (λ v. v ∷ (drop (i + 1) ps ++ rest)) (sym e)

pub params_taken : (ps : List (List ℕ)) (i : ℕ) (n : List ℕ) → i < length ps → n ≡ get_or ps i n → take i ps ++ n ∷ [] ≡ take (i + 1) ps
params_taken ps i n h e = ap (λ v. take i ps ++ v ∷ []) e ∙ sym (take_more ps i n h)

pub locals_here : (ds : List Local) (i : ℕ) (d : Local) → i < length ds → d ≡ get_or ds i d → names (drop i ds) ≡ d.name ∷ names (drop (i + 1) ds)
locals_here ds i d h e = ap names (drop_more ds i d h) ∙ ap (λ (v : Local). v.name ∷ names (drop (i + 1) ds)) (sym e)

names_snoc : (ds : List Local) (d : Local) → names (ds ++ d ∷ []) ≡ names ds ++ d.name ∷ []
names_snoc [] d = refl
names_snoc (c ∷ cs) d = ap (λ v. c.name ∷ v) (names_snoc cs d)

pub locals_taken : (ps : List (List ℕ)) (ds : List Local) (i : ℕ) (d : Local) → i < length ds → d ≡ get_or ds i d → (ps ++ names (take i ds)) ++ d.name ∷ [] ≡ ps ++ names (take (i + 1) ds)
locals_taken ps ds i d h e =
    append_assoc ps (names (take i ds)) (d.name ∷ []) ∙ ap (λ v. ps ++ v) (sym (names_snoc (take i ds) d) ∙ ap (λ (v : Local). names (take i ds ++ v ∷ [])) e ∙ ap names (sym (take_more ds i d h)))
