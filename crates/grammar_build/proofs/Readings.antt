-- A transducer made of those of the parts has the readings of the expression.
use Rattle.std.proofs.Common.{◌≡◌, ◌↔◌, ◌∙◌, sym, ap, subst, refl, [], inl, ℕ, List, Vec, Global, Box, map}
use Rattle.fst_core.specs.Sides.{Projected as BuiltSide}
use Rattle.weighted_relations.specs.Machines.{Machine, Reads}
use Rattle.weighted_relations.specs.Relations.{Relation, Same, Is, Weighted, AllOf, Starred, Crossed, Inverted, Without, Composed, IsAcceptor, IsUnmarked, IsInput}
use Rattle.weighted_relations.specs.RelationLaws.{same_refl, same_trans, same_weighted, same_starred, same_crossed, same_inverted, same_acceptor, same_without, same_composed, same_unmarked, input_accepted}
use Rattle.weighted_relations.specs.Expressions.{Expression, Projected, text, weighted, union, concat, star, cross, compose, minus, invert, project, rewrite, members, Rel, RelAny, MeetsKinds}
use Rattle.weighted_relations.specs.ExpressionLaws.{Alike, alike_all, same_projected}
use Rattle.weighted_relations.specs.KindLaws.{acceptor_kind, unmarked_kind}
use Rattle.core_expressions.specs.declared.expressions.Side.{Side}
use Rattle.core_expressions.specs.declared.expressions.Side.TheVariants as side
use Rattle.core_expressions.specs.declared.expressions.Expr.{Expr}
use Rattle.core_expressions.specs.declared.expressions.Expr.TheVariants as variants
use Rattle.core_expressions.specs.Views.{expression_of, rewrite_of, side_of, manner_of, expression_step, rewrite_step}
use Rattle.core_expressions.specs.ViewLaws.{of_text, of_weighted, of_union, of_concat, of_star, of_cross, of_compose, of_minus, of_invert, of_project}
use Rattle.acceptor_ops.specs.Tables.{Table, Except, Accepts as Takes}
use Rattle.weighted_relations.specs.Rewriting.{Rewritten}
use Rattle.core_expressions.specs.declared.expressions.RewriteOf.{RewriteOf, fold_out-RewriteOf}
use Rattle.core_expressions.specs.declared.expressions.Mode.{Mode}
use Rattle.core_expressions.specs.declared.expressions.Mode.TheVariants as mode
use Rattle.rewrite_rules.specs.Manners.{manner_of as built_manner}
use Rattle.grammar_build.specs.Sides.{side2_of, rule_of}
use Rattle.grammar_build.specs.Empties.{RewritesEmptyText}
use Rattle.rewrite_rules.proofs.Rewritings.{same_rewritten, input_to}

reads_as : (e : Expr) (s : Expression) (m : Machine) (R : Relation) → expression_of e ≡ s → Same R (Rel s) → Same (Reads m) R → Same (Reads m) (Rel (expression_of e))
reads_as e s m R p f g = subst (λ v. Same (Reads m) (Rel v)) (sym p) (same_trans (Reads m) R (Rel s) g f)

pub text_reads : (e : Expr) (labels : Vec ℕ Global) (xs : List ℕ) (m : Machine) → e ≡ variants.Text labels → xs ≡ labels.items → Same (Reads m) (Is xs) → Same (Reads m) (Rel (expression_of e))
text_reads e labels xs m p q = reads_as e (text xs) m (Is xs) (ap expression_of p ∙ of_text labels ∙ ap text (sym q)) (same_refl (Is xs))

pub weighted_reads : (e : Expr) (b : Box Expr Global) (v : ℕ) (x : Expr) (n m : Machine) → e ≡ variants.Weighted b v → x ≡ b.value → Same (Reads n) (Rel (expression_of x)) → Same (Reads m) (Weighted v (Reads n)) → Same (Reads m) (Rel (expression_of e))
weighted_reads e b v x n m p q f = reads_as e (weighted (expression_of x) v) m (Weighted v (Reads n)) (ap expression_of p ∙ of_weighted b v ∙ ap (λ z. weighted (expression_of z) v) (sym q)) (same_weighted v (Reads n) (Rel (expression_of x)) f)

pub union_reads : (e : Expr) (parts : Vec Expr Global) (xs : List Expr) (m : Machine) → e ≡ variants.Union parts → xs ≡ parts.items → Same (Reads m) (RelAny (members (map expression_of xs))) → Same (Reads m) (Rel (expression_of e))
union_reads e parts xs m p q = reads_as e (union (members (map expression_of xs))) m (RelAny (members (map expression_of xs))) (ap expression_of p ∙ of_union parts ∙ ap (λ z. union (members (map expression_of z))) (sym q)) (same_refl (RelAny (members (map expression_of xs))))

pub concat_reads : (e : Expr) (parts : Vec Expr Global) (xs : List Expr) (all ms : List Machine) (m : Machine) → e ≡ variants.Concat parts → xs ≡ parts.items → ms ≡ all → Alike all (map expression_of xs) → Same (Reads m) (AllOf Reads ms) → Same (Reads m) (Rel (expression_of e))
concat_reads e parts xs all ms m p q r f = reads_as e (concat (members (map expression_of xs))) m (AllOf Reads ms) (ap expression_of p ∙ of_concat parts ∙ ap (λ z. concat (members (map expression_of z))) (sym q)) (alike_all ms (map expression_of xs) (subst (λ z. Alike z (map expression_of xs)) (sym r) f))

pub star_reads : (e : Expr) (b : Box Expr Global) (x : Expr) (n m : Machine) → e ≡ variants.Star b → x ≡ b.value → Same (Reads n) (Rel (expression_of x)) → Same (Reads m) (Starred (Reads n)) → Same (Reads m) (Rel (expression_of e))
star_reads e b x n m p q f = reads_as e (star (expression_of x)) m (Starred (Reads n)) (ap expression_of p ∙ of_star b ∙ ap (λ z. star (expression_of z)) (sym q)) (same_starred (Reads n) (Rel (expression_of x)) f)

of_sides : (e : Expr) (a b : Box Expr Global) (x y : Expr) → e ≡ variants.Cross a b → x ≡ a.value → y ≡ b.value → expression_of e ≡ cross (expression_of x) (expression_of y)
of_sides e a b x y p q r = ap expression_of p ∙ of_cross a b ∙ ap (λ z. cross (expression_of z) (expression_of b.value)) (sym q) ∙ ap (λ z. cross (expression_of x) (expression_of z)) (sym r)

pub cross_reads : (e : Expr) (a b : Box Expr Global) (x y : Expr) (n1 n2 m : Machine) → e ≡ variants.Cross a b → x ≡ a.value → y ≡ b.value → Same (Reads n1) (Rel (expression_of x)) → Same (Reads n2) (Rel (expression_of y)) → Same (Reads m) (Crossed (Reads n1) (Reads n2)) → Same (Reads m) (Rel (expression_of e))
cross_reads e a b x y n1 n2 m p q r f g = reads_as e (cross (expression_of x) (expression_of y)) m (Crossed (Reads n1) (Reads n2)) (of_sides e a b x y p q r) (same_crossed (Reads n1) (Reads n2) (Rel (expression_of x)) (Rel (expression_of y)) f g)

-- both sides of a cross product are acceptors
pub inputs_accept : (e : Expr) (a b : Box Expr Global) (x y : Expr) (n : Machine) → e ≡ variants.Cross a b → x ≡ a.value → y ≡ b.value → MeetsKinds (expression_of e) → Same (Reads n) (Rel (expression_of x)) → IsAcceptor (Reads n)
inputs_accept e a b x y n p q r h f =
    let kinds = subst (λ v. MeetsKinds v) (of_sides e a b x y p q r) h in
    same_acceptor (Reads n) (Rel (expression_of x)) f (acceptor_kind (expression_of x) kinds.0 kinds.2)

pub outputs_accept : (e : Expr) (a b : Box Expr Global) (x y : Expr) (n : Machine) → e ≡ variants.Cross a b → x ≡ a.value → y ≡ b.value → MeetsKinds (expression_of e) → Same (Reads n) (Rel (expression_of y)) → IsAcceptor (Reads n)
outputs_accept e a b x y n p q r h f =
    let kinds = subst (λ v. MeetsKinds v) (of_sides e a b x y p q r) h in
    same_acceptor (Reads n) (Rel (expression_of y)) f (acceptor_kind (expression_of y) kinds.1 kinds.3)

pub invert_reads : (e : Expr) (b : Box Expr Global) (x : Expr) (n m : Machine) → e ≡ variants.Invert b → x ≡ b.value → Same (Reads n) (Rel (expression_of x)) → Same (Reads m) (Inverted (Reads n)) → Same (Reads m) (Rel (expression_of e))
invert_reads e b x n m p q f = reads_as e (invert (expression_of x)) m (Inverted (Reads n)) (ap expression_of p ∙ of_invert b ∙ ap (λ z. invert (expression_of z)) (sym q)) (same_inverted (Reads n) (Rel (expression_of x)) f)

-- a side means the same for expressions and for transducers
same_side : (s : Side) (R : Relation) → Same (BuiltSide (side2_of s) R) (Projected (side_of s) R)
same_side side.Input R = same_refl (BuiltSide (side2_of side.Input) R)
same_side side.Output R = same_refl (BuiltSide (side2_of side.Output) R)

pub project_reads : (e : Expr) (b : Box Expr Global) (s : Side) (x : Expr) (n m : Machine) → e ≡ variants.Project b s → x ≡ b.value → Same (Reads n) (Rel (expression_of x)) → Same (Reads m) (BuiltSide (side2_of s) (Reads n)) → Same (Reads m) (Rel (expression_of e))
project_reads e b s x n m p q f = reads_as e (project (expression_of x) (side_of s)) m (BuiltSide (side2_of s) (Reads n)) (ap expression_of p ∙ of_project b s ∙ ap (λ z. project (expression_of z) (side_of s)) (sym q)) (same_trans (BuiltSide (side2_of s) (Reads n)) (Projected (side_of s) (Reads n)) (Projected (side_of s) (Rel (expression_of x))) (same_side s (Reads n)) (same_projected (side_of s) (Reads n) (Rel (expression_of x)) f))

-- the readings of one acceptor that an automaton of the strings of another doesn't accept
except_without : (R S : Relation) (d : Table) → IsAcceptor S → ((z : List ℕ) → Takes d z ↔ IsInput S z) → Same (Except R (Takes d)) (Without R S)
except_without R S d f g x y w = (
  λ h. record { reads = h.reads; other = λ k. h.other ((g x).1 ((input_accepted S f x).1 k)) },
  λ h. record { reads = h.reads; other = λ k. h.other ((input_accepted S f x).0 ((g x).0 k)) },
)

of_difference : (e : Expr) (a b : Box Expr Global) (x y : Expr) → e ≡ variants.Minus a b → x ≡ a.value → y ≡ b.value → expression_of e ≡ minus (expression_of x) (expression_of y)
of_difference e a b x y p q r = ap expression_of p ∙ of_minus a b ∙ ap (λ z. minus (expression_of z) (expression_of b.value)) (sym q) ∙ ap (λ z. minus (expression_of x) (expression_of z)) (sym r)

pub minus_reads : (e : Expr) (a b : Box Expr Global) (x y : Expr) (n1 n2 m : Machine) (d : Table) → e ≡ variants.Minus a b → x ≡ a.value → y ≡ b.value → MeetsKinds (expression_of e) → Same (Reads n1) (Rel (expression_of x)) → Same (Reads n2) (Rel (expression_of y)) → ((z : List ℕ) → Takes d z ↔ IsInput (Reads n2) z) → Same (Reads m) (Except (Reads n1) (Takes d)) → Same (Reads m) (Rel (expression_of e))
minus_reads e a b x y n1 n2 m d p q r h f g k l =
    let is = of_difference e a b x y p q r in
    let kinds = subst (λ v. MeetsKinds v) is h in
    let strings = same_acceptor (Reads n2) (Rel (expression_of y)) g (acceptor_kind (expression_of y) kinds.1 kinds.3.acceptor) in
    reads_as e (minus (expression_of x) (expression_of y)) m (Except (Reads n1) (Takes d)) is
    (same_trans (Except (Reads n1) (Takes d)) (Without (Reads n1) (Reads n2)) (Without (Rel (expression_of x)) (Rel (expression_of y))) (except_without (Reads n1) (Reads n2) d strings k) (same_without (Reads n1) (Reads n2) (Rel (expression_of x)) (Rel (expression_of y)) f g)) l

of_composition : (e : Expr) (a b : Box Expr Global) (x y : Expr) → e ≡ variants.Compose a b → x ≡ a.value → y ≡ b.value → expression_of e ≡ compose (expression_of x) (expression_of y)
of_composition e a b x y p q r = ap expression_of p ∙ of_compose a b ∙ ap (λ z. compose (expression_of z) (expression_of b.value)) (sym q) ∙ ap (λ z. compose (expression_of x) (expression_of z)) (sym r)

pub compose_reads : (e : Expr) (a b : Box Expr Global) (x y : Expr) (n1 n2 m : Machine) → e ≡ variants.Compose a b → x ≡ a.value → y ≡ b.value → Same (Reads n1) (Rel (expression_of x)) → Same (Reads n2) (Rel (expression_of y)) → Same (Reads m) (Composed (Reads n1) (Reads n2)) → Same (Reads m) (Rel (expression_of e))
compose_reads e a b x y n1 n2 m p q r f g = reads_as e (compose (expression_of x) (expression_of y)) m (Composed (Reads n1) (Reads n2)) (of_composition e a b x y p q r) (same_composed (Reads n1) (Reads n2) (Rel (expression_of x)) (Rel (expression_of y)) f g)

-- a mode means the same for expressions and for rewrite rules
same_mode : (s : Mode) → built_manner (rule_of s) ≡ manner_of s
same_mode mode.Obligatory = refl
same_mode mode.Optional = refl

-- what a rewrite stands for
rewrite_parts : (r : RewriteOf) → rewrite_of r ≡ rewrite (expression_of r.tau) (expression_of r.left) (expression_of r.right) (expression_of r.sigma) (manner_of r.mode)
rewrite_parts r = fold_out-RewriteOf Expression Expression expression_step rewrite_step r

-- what the parts of a rewrite read meets what is asked of them
module _ (r : RewriteOf) (kinds : MeetsKinds (rewrite_of r)) where
  parts_kinds : MeetsKinds (rewrite (expression_of r.tau) (expression_of r.left) (expression_of r.right) (expression_of r.sigma) (manner_of r.mode))
  parts_kinds = subst (λ e. MeetsKinds e) (rewrite_parts r) kinds

  pub left_accepts : (n : Machine) → Same (Reads n) (Rel (expression_of r.left)) → IsAcceptor (Reads n)
  left_accepts n f = same_acceptor (Reads n) (Rel (expression_of r.left)) f (acceptor_kind (expression_of r.left) parts_kinds.1 parts_kinds.4.acceptor)

  pub right_accepts : (n : Machine) → Same (Reads n) (Rel (expression_of r.right)) → IsAcceptor (Reads n)
  right_accepts n f = same_acceptor (Reads n) (Rel (expression_of r.right)) f (acceptor_kind (expression_of r.right) parts_kinds.2 parts_kinds.5.acceptor)

  pub sigma_accepts : (n : Machine) → Same (Reads n) (Rel (expression_of r.sigma)) → IsAcceptor (Reads n)
  sigma_accepts n f = same_acceptor (Reads n) (Rel (expression_of r.sigma)) f (acceptor_kind (expression_of r.sigma) parts_kinds.3 parts_kinds.6.acceptor)

  pub tau_is_unmarked : (n : Machine) → Same (Reads n) (Rel (expression_of r.tau)) → IsUnmarked (Reads n)
  tau_is_unmarked n f = same_unmarked (Reads n) (Rel (expression_of r.tau)) f (unmarked_kind (expression_of r.tau) parts_kinds.0 parts_kinds.7)

  pub sigma_is_unmarked : (n : Machine) → Same (Reads n) (Rel (expression_of r.sigma)) → IsUnmarked (Reads n)
  sigma_is_unmarked n f = same_unmarked (Reads n) (Rel (expression_of r.sigma)) f (unmarked_kind (expression_of r.sigma) parts_kinds.3 parts_kinds.8)

pub rewrite_reads : (r : RewriteOf) (n1 n2 n3 n4 m : Machine) → Same (Reads n1) (Rel (expression_of r.tau)) → Same (Reads n2) (Rel (expression_of r.left)) → Same (Reads n3) (Rel (expression_of r.right)) → Same (Reads n4) (Rel (expression_of r.sigma)) → Same (Reads m) (Rewritten (Reads n1) (Reads n2) (Reads n3) (Reads n4) (built_manner (rule_of r.mode))) → Same (Reads m) (Rel (rewrite_of r))
rewrite_reads r n1 n2 n3 n4 m f g h k q =
    let same = same_trans (Reads m) (Rewritten (Reads n1) (Reads n2) (Reads n3) (Reads n4) (manner_of r.mode)) (Rewritten (Rel (expression_of r.tau)) (Rel (expression_of r.left)) (Rel (expression_of r.right)) (Rel (expression_of r.sigma)) (manner_of r.mode))
    (subst (λ v. Same (Reads m) (Rewritten (Reads n1) (Reads n2) (Reads n3) (Reads n4) v)) (same_mode r.mode) q)
    (same_rewritten (Reads n1) (Reads n2) (Reads n3) (Reads n4) (Rel (expression_of r.tau)) (Rel (expression_of r.left)) (Rel (expression_of r.right)) (Rel (expression_of r.sigma)) (manner_of r.mode) f g h k) in
    subst (λ e. Same (Reads m) (Rel e)) (sym (rewrite_parts r)) same

-- tau reads the empty text
pub tau_empty : (r : RewriteOf) (n : Machine) → Same (Reads n) (Rel (expression_of r.tau)) → IsInput (Reads n) [] → RewritesEmptyText (rewrite_of r)
tau_empty r n f h = subst (λ e. RewritesEmptyText e) (sym (rewrite_parts r)) (inl (input_to (Reads n) (Rel (expression_of r.tau)) f [] h))
