-- What is said of values is said of the union and the concatenation of them.
use Rattle.std.proofs.Common.{◌≡◌, ◌∙◌, refl, sym, ap, arith, rules, ℕ, zero, suc, ◌+◌, ◌*◌, ◌-◌, ◌<◌, ◌≤◌, List, [], ◌∷◌, ◌++◌, Bool, true, Vec, Global}
use Rattle.std.specs.Prelude.{map, min, replicate}
use Rattle.std.specs.declared.rc.Rc.{Rc}
use Rattle.weighted_relations.specs.Expressions.{Expression, union, concat, members, sizes, size as size_of, is_acceptor, is_weighted, is_marked, are_acceptors, some_weighted, some_marked}
use Rattle.core_expressions.specs.declared.expressions.Expr.{Expr}
use Rattle.core_expressions.specs.declared.expressions.Expr.TheVariants as variants
use Rattle.core_expressions.specs.Views.{expression_of}
use Rattle.core_expressions.specs.ViewLaws.{of_union, of_concat}
use Rattle.checked_expressions.specs.declared.value.Value.{Value}
use Rattle.checked_expressions.specs.Answers.{shared_of}
use Rattle.std.proofs.Math.Nat.{suc-mul}
use Rattle.checked_expressions.specs.Nodes.{unfit, sized, maybe, times}
use Rattle.checked_expressions.specs.declared.fault.KindFault.TheVariants.{TooLarge}
use Rattle.checked_expressions.specs.Sound.{meets_kinds, meet_kinds}

values_sound : (vs : List (Rc Value Global)) → meet_kinds (members (map shared_of vs)) ≡ true
values_sound [] = refl
values_sound (v ∷ vs) = rw (v.value.sound, values_sound vs) refl

pub union_value : (es : Vec Expr Global) (vs xs : List (Rc Value Global)) (total : ℕ) (a w m : Bool) → map expression_of es.items ≡ map shared_of vs → xs ≡ vs
    → total ≡ min (sizes (members (map shared_of xs))) 4194304 → total + 1 < 4194304 → a ≡ are_acceptors (members (map shared_of xs)) → w ≡ some_weighted (members (map shared_of xs)) → m ≡ some_marked (members (map shared_of xs))
    → (total + 1 ≡ size_of (expression_of (variants.Union es))) × (a ≡ is_acceptor (expression_of (variants.Union es))) × (w ≡ is_weighted (expression_of (variants.Union es))) × (m ≡ is_marked (expression_of (variants.Union es))) × (meets_kinds (expression_of (variants.Union es)) ≡ true)
union_value es vs xs total a w m f q g b i j k =
    let e : expression_of (variants.Union es) ≡ union (members (map shared_of xs)) = of_union es ∙ ap (λ l. union (members l)) f ∙ ap (λ l. union (members (map shared_of l))) (sym q) in
    ((let s = ap size_of e in omega (arith, s, g, b)), i ∙ sym (ap is_acceptor e), j ∙ sym (ap is_weighted e), k ∙ sym (ap is_marked e), ap meets_kinds e ∙ values_sound xs)

pub concat_value : (es : Vec Expr Global) (vs xs : List (Rc Value Global)) (total : ℕ) (a w m : Bool) → map expression_of es.items ≡ map shared_of vs → xs ≡ vs
    → total ≡ min (sizes (members (map shared_of xs))) 4194304 → total + 1 < 4194304 → a ≡ are_acceptors (members (map shared_of xs)) → w ≡ some_weighted (members (map shared_of xs)) → m ≡ some_marked (members (map shared_of xs))
    → (total + 1 ≡ size_of (expression_of (variants.Concat es))) × (a ≡ is_acceptor (expression_of (variants.Concat es))) × (w ≡ is_weighted (expression_of (variants.Concat es))) × (m ≡ is_marked (expression_of (variants.Concat es))) × (meets_kinds (expression_of (variants.Concat es)) ≡ true)
concat_value es vs xs total a w m f q g b i j k =
    let e : expression_of (variants.Concat es) ≡ concat (members (map shared_of xs)) = of_concat es ∙ ap (λ l. concat (members l)) f ∙ ap (λ l. concat (members (map shared_of l))) (sym q) in
    ((let s = ap size_of e in omega (arith, s, g, b)), i ∙ sym (ap is_acceptor e), j ∙ sym (ap is_weighted e), k ∙ sym (ap is_marked e), ap meets_kinds e ∙ values_sound xs)

pub sizes_append : (xs ys : List Expression) → sizes (members (xs ++ ys)) ≡ sizes (members xs) + sizes (members ys)
sizes_append [] ys = omega arith
sizes_append (x ∷ xs) ys = let more = sizes_append xs ys in omega (arith, more)

sizes_replicate : (k : ℕ) (x : Expression) → sizes (members (replicate k x)) ≡ k * size_of x
sizes_replicate zero x = omega arith
sizes_replicate (suc k) x = let more = sizes_replicate k x in omega (arith, more, suc-mul k (size_of x))

pub too_large : (e : Expression) → 4194304 ≤ size_of e → sized e ≡ unfit TooLarge
too_large e h = search (rules, h)

pub times_size : (e : Expression) (m n : ℕ) → size_of (times e m n) ≡ m * size_of e + (n - m) * (size_of e + 2) + 1
times_size e m n =
    let all = sizes_append (replicate m e) (replicate (n - m) (maybe e)) in
    let first = sizes_replicate m e in
    let second = sizes_replicate (n - m) (maybe e) ∙ ap (λ k. (n - m) * k) (let h : size_of (maybe e) ≡ size_of e + 2 = omega arith in h) in
    omega (arith, all, first, second)

pub times_too_large : (e : Expression) (m n size : ℕ) → size ≡ m * size_of e + (n - m) * (size_of e + 2) + 1 → 4194304 ≤ size → sized (times e m n) ≡ unfit TooLarge
times_too_large e m n size g h =
    let all = times_size e m n in
    let big : 4194304 ≤ size_of (times e m n) = omega (arith, all, g, h) in
    too_large (times e m n) big
