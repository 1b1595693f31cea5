-- Why the laws of expanders hold of one cascade.
use Rattle.std.specs.Prelude.{◌≡◌, ◌<◌, zero, suc, [], ◌∷◌, All}
use Rattle.std.proofs.Common.{refl, ◌∙◌, ap, arith}
use Rattle.state_tuples.specs.Cascades.{Cascaded, IsSound}
use Rattle.state_tuples.specs.Calls.{HaveOwnNumbers}

pub own_numbers : (c : Cascaded) → HaveOwnNumbers (c ∷ [])
own_numbers c zero zero a b f g e = refl
own_numbers c zero (suc j) a b f g e = absurd (cc)
own_numbers c (suc i) j a b f g e = absurd (cc)

pub stays : (c d : Cascaded) → d ≡ c → d ∷ [] ≡ c ∷ []
stays c d e = ap (λ t. t ∷ []) e

pub on_self : (c : Cascaded) → c ≡ c
on_self c = refl

pub on_again : (c d e : Cascaded) → d ≡ c → e ≡ d → e ≡ c
on_again c d e f g = g ∙ f

pub sound : (c : Cascaded) → IsSound c → All IsSound (c ∷ [])
sound c h zero d l = h
sound c h (suc k) d l = absurd (let e : suc k < 1 = l in omega arith)
