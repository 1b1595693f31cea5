-- What calls of built-in functions mean, by how many arguments they have.
use Rattle.std.proofs.Common.{◌≡◌, ◌≢◌, ◌∙◌, refl, sym, ap, arith, suc, ◌<◌, ◌≤◌, List, [], ◌∷◌, length, true, false}
use Rattle.std.specs.Prelude.{nat_lt}
use Rattle.norm_base.specs.Files.{Files}
use Rattle.thrax_syntax.specs.declared.tree.Tree.{Tree}
use Rattle.thrax_meaning.specs.declared.why.Why.TheVariants.{Arity}
use Rattle.thrax_meaning.specs.declared.built_ins.BuiltIn.TheVariants.{Optimize, Invert, Project, StringFile, CDRewrite}
use Rattle.thrax_meaning.specs.Meaning.{Scope, Local, refused, built_in_call}
use Rattle.thrax_meaning.specs.Calls.{given, rewritten}
use Rattle.thrax_meaning.proofs.Fronts.{arguments_length}

pub rewrite_some : (f : Files) (s : Scope) (l : List Local) (args : List Tree) (a b c d : Tree) (options : List Tree) → args ≡ a ∷ b ∷ c ∷ d ∷ options → length options ≤ 2
    → built_in_call f CDRewrite (given f s l args) ≡ rewritten f s l a b c d options
rewrite_some f s l args a b c d options e h =
    let few : nat_lt 2 (length (given f s l options)) ≡ false = let n = arguments_length f s l options in grind (arith, n, h) in
    ap (λ v. built_in_call f CDRewrite (given f s l v)) e ∙ rw few refl

pub rewrite_many : (f : Files) (s : Scope) (l : List Local) (args : List Tree) (a b c d : Tree) (options : List Tree) → args ≡ a ∷ b ∷ c ∷ d ∷ options → 2 < length options
    → built_in_call f CDRewrite (given f s l args) ≡ refused (Arity 6 (length args))
rewrite_many f s l args a b c d options e h =
    let n = arguments_length f s l options in
    let many : nat_lt 2 (length (given f s l options)) ≡ true = grind (arith, n, h) in
    ap (λ v. built_in_call f CDRewrite (given f s l v)) e ∙ rw many (ap (λ k. refused (Arity 6 (suc (suc (suc (suc k)))))) n ∙ ap (λ v. refused (Arity 6 (length v))) (sym e))

pub rewrite_few : (f : Files) (s : Scope) (l : List Local) (args : List Tree) → length args < 4 → built_in_call f CDRewrite (given f s l args) ≡ refused (Arity 4 (length args))
rewrite_few f s l [] h = refl
rewrite_few f s l (a ∷ []) h = refl
rewrite_few f s l (a ∷ b ∷ []) h = refl
rewrite_few f s l (a ∷ b ∷ c ∷ []) h = refl
rewrite_few f s l (a ∷ b ∷ c ∷ d ∷ options) h = absurd (omega (arith, h))

pub optimize_other : (f : Files) (s : Scope) (l : List Local) (args : List Tree) → length args ≢ 1 → built_in_call f Optimize (given f s l args) ≡ refused (Arity 1 (length args))
optimize_other f s l [] h = refl
optimize_other f s l (x ∷ []) h = absurd (h refl)
optimize_other f s l (x ∷ y ∷ rest) h = ap (λ k. refused (Arity 1 (suc (suc k)))) (arguments_length f s l rest)

pub invert_other : (f : Files) (s : Scope) (l : List Local) (args : List Tree) → length args ≢ 1 → built_in_call f Invert (given f s l args) ≡ refused (Arity 1 (length args))
invert_other f s l [] h = refl
invert_other f s l (x ∷ []) h = absurd (h refl)
invert_other f s l (x ∷ y ∷ rest) h = ap (λ k. refused (Arity 1 (suc (suc k)))) (arguments_length f s l rest)

pub string_other : (f : Files) (s : Scope) (l : List Local) (args : List Tree) → length args ≢ 1 → built_in_call f StringFile (given f s l args) ≡ refused (Arity 1 (length args))
string_other f s l [] h = refl
string_other f s l (x ∷ []) h = absurd (h refl)
string_other f s l (x ∷ y ∷ rest) h = ap (λ k. refused (Arity 1 (suc (suc k)))) (arguments_length f s l rest)

pub project_other : (f : Files) (s : Scope) (l : List Local) (args : List Tree) → length args ≢ 2 → built_in_call f Project (given f s l args) ≡ refused (Arity 2 (length args))
project_other f s l [] h = refl
project_other f s l (x ∷ []) h = refl
project_other f s l (x ∷ y ∷ []) h = absurd (h refl)
project_other f s l (x ∷ y ∷ z ∷ rest) h = ap (λ k. refused (Arity 2 (suc (suc (suc k))))) (arguments_length f s l rest)
