-- Trees taken so far, and those to come.
use Rattle.std.proofs.lemmas.List.{drop_more, append-nil}
use Rattle.std.proofs.Math.ListN.{drop_of_length-le}
use Rattle.std.proofs.Common.{◌≡◌, ◌∙◌, refl, sym, ap, ℕ, suc, ◌+◌, ◌<◌, ◌≤◌, List, [], ◌∷◌, ◌++◌, length, get_or, append_assoc}
use Rattle.std.specs.Prelude.{map, drop}
use Rattle.norm_base.specs.Files.{Files}
use Rattle.weighted_relations.specs.Expressions.{Expression}
use Rattle.thrax_syntax.specs.declared.tree.Tree.{Tree}
use Rattle.thrax_syntax.specs.Trees.{terms, tree_term}
use Rattle.thrax_meaning.specs.Meaning.{Scope, Local, taken, refused, AllTaken, all_taken, one_refused, meant, meant_each, onto, count, arguments}
use Rattle.thrax_meaning.specs.declared.why.Why.{Why}

-- what has been taken, before the rest
abbrev pub front : List Expression → AllTaken → AllTaken
front es (one_refused why) = one_refused why
front es (all_taken us) = all_taken (es ++ us)

abbrev pub each : Files → Scope → List Local → List Tree → AllTaken
each f s l parts = meant_each f s l (terms (map tree_term parts))

pub count_is : (parts : List Tree) → count (terms (map tree_term parts)) ≡ length parts
count_is [] = refl
count_is (p ∷ ps) = ap suc (count_is ps)

pub arguments_length : (f : Files) (s : Scope) (l : List Local) (parts : List Tree) → length (arguments f s l (terms (map tree_term parts))) ≡ length parts
arguments_length f s l [] = refl
arguments_length f s l (p ∷ ps) = ap suc (arguments_length f s l ps)

front_onto : (es : List Expression) (e : Expression) (a : AllTaken) → front es (onto (taken e) a) ≡ front (es ++ e ∷ []) a
front_onto es e (one_refused why) = refl
front_onto es e (all_taken us) = ap all_taken (sym (append_assoc es (e ∷ []) us))

here : (f : Files) (s : Scope) (l : List Local) (parts : List Tree) (i : ℕ) (x : Tree) → i < length parts → x ≡ get_or parts i x → each f s l (drop i parts) ≡ onto (meant f s l (tree_term x)) (each f s l (drop (i + 1) parts))
here f s l parts i x within e = ap (each f s l) (drop_more parts i x within) ∙ ap (λ v. onto (meant f s l (tree_term v)) (each f s l (drop (i + 1) parts))) (sym e)

pub each_more : (f : Files) (s : Scope) (l : List Local) (parts : List Tree) (i : ℕ) (x : Tree) (es : List Expression) (e : Expression) (all : AllTaken) → i < length parts → x ≡ get_or parts i x → meant f s l (tree_term x) ≡ taken e → front es (each f s l (drop i parts)) ≡ all → front (es ++ e ∷ []) (each f s l (drop (i + 1) parts)) ≡ all
each_more f s l parts i x es e all within is g h =
    sym (front_onto es e (each f s l (drop (i + 1) parts))) ∙ ap (λ v. front es (onto v (each f s l (drop (i + 1) parts)))) (sym g) ∙ ap (front es) (sym (here f s l parts i x within is)) ∙ h

pub each_refused : (f : Files) (s : Scope) (l : List Local) (parts : List Tree) (i : ℕ) (x : Tree) (es : List Expression) (why : Why) (all : AllTaken) → i < length parts → x ≡ get_or parts i x → meant f s l (tree_term x) ≡ refused why → front es (each f s l (drop i parts)) ≡ all → all ≡ one_refused why
each_refused f s l parts i x es why all within is g h =
    sym h ∙ ap (front es) (here f s l parts i x within is) ∙ ap (λ v. front es (onto v (each f s l (drop (i + 1) parts)))) g

pub each_done : (f : Files) (s : Scope) (l : List Local) (parts : List Tree) (i : ℕ) (es : List Expression) (all : AllTaken) → length parts ≤ i → front es (each f s l (drop i parts)) ≡ all → all ≡ all_taken es
each_done f s l parts i es all past h =
    sym h ∙ ap (λ v. front es (each f s l v)) (drop_of_length-le parts past) ∙ ap all_taken (append-nil es)
