use Rattle.std.proofs.Common.{◌≡◌, ◌≤◌, ◌∷◌, ◌++◌, ◌∙◌, [], ℕ, List, drop, length, sym, ap, subst, append_assoc}
use Rattle.std.specs.List.Sorted.{IsPermutation}
use Rattle.std.proofs.lemmas.List.{drop-append-le}
use Rattle.std.proofs.lemmas.List.Sorted.{IsPermutation-sym, IsPermutation-middle, IsPermutation-to_front}
use Rattle.least_path.proofs.lists.Lists.put.Goals as goal

put_now : (i : ℕ) (now next : List ℕ) (k : ℕ) (now' : List ℕ) → i ≤ length now → now' ≡ now ++ k ∷ [] → IsPermutation (k ∷ (drop i now ++ next)) (drop i now' ++ next)
put_now i now next k now' h more =
    let left : drop i now' ≡ drop i now ++ k ∷ [] = ap (drop i) more ∙ drop-append-le i now (k ∷ []) h in
    let all : drop i now' ++ next ≡ drop i now ++ k ∷ next = ap (λ t. t ++ next) left ∙ append_assoc (drop i now) (k ∷ []) next in
    subst (IsPermutation (k ∷ (drop i now ++ next))) (sym all) (IsPermutation-sym (drop i now ++ k ∷ next) (k ∷ (drop i now ++ next)) (IsPermutation-middle (drop i now) k next))

put_next : (left next : List ℕ) (k : ℕ) (next' : List ℕ) → next' ≡ next ++ k ∷ [] → IsPermutation (k ∷ (left ++ next)) (left ++ next')
put_next left next k next' more =
    let all : left ++ next' ≡ (left ++ next) ++ k ∷ [] = ap (λ t. left ++ t) more ∙ sym (append_assoc left next (k ∷ [])) in
    subst (IsPermutation (k ∷ (left ++ next))) (sym all) (IsPermutation-sym ((left ++ next) ++ k ∷ []) (k ∷ (left ++ next)) (IsPermutation-to_front (left ++ next) k))

pub returns-in_ok-push-in-Now : goal.returns-in_ok-push-in-Now
returns-in_ok-push-in-Now c =
    let i = c.self.inside.taken in
    let now = c.self.inside.now.items in
    let next = c.self.inside.next.items in
    let h : IsPermutation (c.args.number ∷ (drop c.self.inside.taken c.self.inside.now.items ++ c.self.inside.next.items)) (drop c.self.inside.taken c.push.new.self.items ++ c.self.inside.next.items) = put_now i now next c.args.number c.push.new.self.items c.self.invariant c.in_ok-push-in-Now.ensures.items in
    subst (λ v. IsPermutation (c.args.number ∷ v) (drop c.self.inside.taken c.push.new.self.items ++ c.self.inside.next.items)) c.self.view_is h

pub returns-in_ok-push-in-Next : goal.returns-in_ok-push-in-Next
returns-in_ok-push-in-Next c =
    let left = drop c.self.inside.taken c.self.inside.now.items in
    let next = c.self.inside.next.items in
    let h : IsPermutation (c.args.number ∷ (drop c.self.inside.taken c.self.inside.now.items ++ c.self.inside.next.items)) (drop c.self.inside.taken c.self.inside.now.items ++ c.push-in-Next.new.self.items) = put_next left next c.args.number c.push-in-Next.new.self.items c.in_ok-push-in-Next.ensures.items in
    subst (λ v. IsPermutation (c.args.number ∷ v) (drop c.self.inside.taken c.self.inside.now.items ++ c.push-in-Next.new.self.items)) c.self.view_is h
