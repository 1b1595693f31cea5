-- What is said of the members of a union or a concatenation, in the words for lists.
use Rattle.std.specs.Prelude.{◌≡◌, ℕ, ◌+◌, List, [], ◌∷◌, map, ◌||◌, nat_lt}
use Rattle.std.specs.List.{list_any, sum_by}
use Rattle.std.proofs.Common.{refl, ap, sym, ◌∙◌}
use Rattle.std.proofs.lemmas.List.Sums.{sum_by-cons}
use Rattle.weighted_relations.specs.Expressions.{Expression, members, is_marked, some_marked, holds_mark, size, sizes, literals, all_literals}

pub holds_mark_any : (labels : List ℕ) → holds_mark labels ≡ list_any (λ n. nat_lt 255 n) labels
holds_mark_any [] = refl
holds_mark_any (n ∷ labels) = ap (λ b. nat_lt 255 n || b) (holds_mark_any labels)

pub some_marked_any : {A : Type 0} (f : A → Expression) (xs : List A) → some_marked (members (map f xs)) ≡ list_any (λ x. is_marked (f x)) xs
some_marked_any f [] = refl
some_marked_any f (x ∷ xs) = ap (λ b. is_marked (f x) || b) (some_marked_any f xs)

pub sizes_sum : {A : Type 0} (f : A → Expression) (xs : List A) → sizes (members (map f xs)) ≡ sum_by (λ x. size (f x)) xs
sizes_sum f [] = refl
sizes_sum f (x ∷ xs) = ap (λ n. size (f x) + n) (sizes_sum f xs) ∙ sym (sum_by-cons (λ y. size (f y)) x xs)

pub literals_sum : {A : Type 0} (f : A → Expression) (xs : List A) → all_literals (members (map f xs)) ≡ sum_by (λ x. literals (f x)) xs
literals_sum f [] = refl
literals_sum f (x ∷ xs) = ap (λ n. literals (f x) + n) (literals_sum f xs) ∙ sym (sum_by-cons (λ y. literals (f y)) x xs)
