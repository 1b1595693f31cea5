-- Pairs and sets that are equal are one.
use Rattle.std.specs.Prelude.{◌≡◌, ◌&&◌, ℕ, List, Bool, true, false, nat_eq}
use Rattle.std.proofs.Common.{refl, sym, ap, ◌∙◌, true≢false}
use Rattle.std.proofs.lemmas.Bool.{eqb-true}
use Rattle.std.specs.Cmp.Lexicographic.{same_text, pointwise}

both : (b c : Bool) → (b && c) ≡ true → (b ≡ true) × (c ≡ true)
both true c h = (refl, h)
both false c h = absurd (true≢false (sym h))

pub same_pair : (p q : ℕ × ℕ) → (nat_eq p.0 q.0 && nat_eq p.1 q.1) ≡ true → p ≡ q
same_pair p q h =
    let r = both (nat_eq p.0 q.0) (nat_eq p.1 q.1) h in
    let e : p.0 ≡ q.0 = eqb-true p.0 q.0 r.0 in
    let f : p.1 ≡ q.1 = eqb-true p.1 q.1 r.1 in
    ap (λ n. let z : ℕ × ℕ = (n, p.1) in z) e ∙ ap (λ n. let z : ℕ × ℕ = (q.0, n) in z) f

pub same_set : (s t : List ℕ) → pointwise nat_eq s t ≡ true → s ≡ t
same_set s t h = same_text s t (sym h)
