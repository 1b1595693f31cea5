use Rattle.std.proofs.Common.{◌≡◌, ◌+◌, ℕ, List, ◌++◌, Bor, IfSome, IfNone, None, Some, true, false, length, take, drop, nat_eq, sym, ap, ◌∙◌}
use Rattle.std.specs.Prelude.{MatchOption, Option}
use Rattle.std.specs.Cmp.Lexicographic.{pointwise, other_text}
use Rattle.speak_setup.proofs.Fronts.{begins_with, take_front}
use Rattle.speak_setup.proofs.line.after_text.Goals as goal

-- what is told of the bytes after a front, or that there is no such front
abbrev Strips : List ℕ → List ℕ → Option (Bor (List ℕ)) → Type 0
Strips text front r = MatchOption r (pointwise nat_eq (take (length front) text) front ≡ false) (λ x. (pointwise nat_eq (take (length front) text) front ≡ true) × (x.now ≡ drop (length front) text) × (length x.now + length front ≡ length text))

found : (text front : List ℕ) (r : Option (Bor (List ℕ))) → Strips text front r → IfSome r (λ rest. text ≡ front ++ rest.now)
found text front None h = tt
found text front (Some x) h = begins_with text front x.now h.0 h.1

none : (text front : List ℕ) (r : Option (Bor (List ℕ))) → Strips text front r → IfNone r ((rest : List ℕ) → text ≡ front ++ rest → ⊥)
none text front None h = λ rest e. other_text _ _ (sym h) (ap (take (length front)) e ∙ take_front front rest)
none text front (Some x) h = tt

pub returns-clause-found : goal.returns-clause-found
returns-clause-found c = found c.args.text.now c.args.front.now c.strip_prefix.result c.strip_prefix.ensures.cases

pub returns-clause-none : goal.returns-clause-none
returns-clause-none c = none c.args.text.now c.args.front.now c.strip_prefix.result c.strip_prefix.ensures.cases
