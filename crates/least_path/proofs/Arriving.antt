-- Nodes that get numbers as they come, of which the end is known.
use Rattle.std.specs.Prelude.{◌≡◌, ◌≢◌, ◌<◌, ◌+◌, ℕ, List, [], ◌∷◌, ◌++◌, Option, Some, None, length, slice_get}
use Rattle.std.proofs.Common.{refl, sym, ap, ◌∙◌, inl, inr, subst, arith}
use Rattle.std.proofs.lemmas.List.{length_push, get_or_push}
use Rattle.std.proofs.lemmas.Option.{slice_get-get_or, slice_get_within}
use Rattle.state_table.proofs.Numbering.{keeps_push, pushed_cases}
use Rattle.least_path.specs.declared.node.Node.{Node}
use Rattle.least_path.specs.declared.node.Node.TheVariants.{End}
use Rattle.least_path.specs.declared.marks.Mark.{Mark}
use Rattle.least_path.specs.declared.marks.Mark.TheVariants.{Unmet}
use Rattle.state_table.specs.Numbers.{Numbers}
use Rattle.least_path.specs.Notes.{Arrived, HasOneEnd, IsNumberOfEnd, Noted}
use Rattle.least_path.proofs.Noting.{noted_known as known, noted_new as fresh}

pub one_end : (nodes : List Node) (end : Option ℕ) → IsNumberOfEnd nodes end → HasOneEnd nodes
one_end nodes end is i j h k = (let both : Some i ≡ Some j = sym ((is i).0 h) ∙ (is j).0 k in cc)

pushed_last : (nodes : List Node) (n : Node) → slice_get (nodes ++ n ∷ []) (length nodes) ≡ Some n
pushed_last nodes n = slice_get-get_or (nodes ++ n ∷ []) (length nodes) n (let p : length (nodes ++ n ∷ []) ≡ length nodes + 1 = length_push nodes n in omega arith) ∙ ap Some (get_or_push nodes n n (length nodes) refl)

pub place_pushed : (nodes new : List Node) (end : Option ℕ) (n : Node) → n ≢ End → IsNumberOfEnd nodes end → new ≡ nodes ++ n ∷ [] → IsNumberOfEnd new end
place_pushed nodes new end n other is more = subst (λ xs. IsNumberOfEnd xs end) (sym more) (λ k. (
  λ h. elim (pushed_cases nodes n k End h) [ inl g ↦ (is k).0 g | inr g ↦ absurd (other (sym g.0)) ],
  λ e. (keeps_push nodes n).kept k End ((is k).1 e),
))

pub end_pushed : (nodes new : List Node) (end : Option ℕ) (n : ℕ) → IsNumberOfEnd nodes end → end ≡ None → new ≡ nodes ++ End ∷ [] → n ≡ length nodes → IsNumberOfEnd new (Some n)
end_pushed nodes new end n is none more next = subst (λ xs. IsNumberOfEnd xs (Some n)) (sym more) (λ k. (
  λ h. elim (pushed_cases nodes End k End h) [
    | inl g ↦ (let e : None ≡ Some k = sym none ∙ (is k).0 g in cc)
    | inr g ↦ ap Some (next ∙ sym g.1)
  ],
  λ e. (let same : n ≡ k = cc in subst (λ j. slice_get (nodes ++ End ∷ []) j ≡ Some End) (sym next ∙ same) (pushed_last nodes End)),
))

pub arrived_known : (nodes : List Node) (n : Node) (k : ℕ) → slice_get nodes k ≡ Some n → Arrived nodes nodes n k
arrived_known nodes n k h = record { stored = h; added = inl (slice_get_within nodes k n h, refl) }

pub arrived_pushed : (nodes new : List Node) (n : Node) (k : ℕ) → new ≡ nodes ++ n ∷ [] → k ≡ length nodes → Arrived nodes new n k
arrived_pushed nodes new n k more next = record {
  stored = ap (λ t. slice_get t k) more ∙ ap (slice_get (nodes ++ n ∷ [])) next ∙ pushed_last nodes n;
  added = inr (next, more);
}

-- what is kept beside the nodes
module _ (old new : List Node) (marks : List Mark) (n : Node) (i : ℕ) (is : Arrived old new n i) (even : length marks ≡ length old) where
  numbers : Numbers old new n i
  numbers = record { stored = is.stored; added = elim is.added [ inl e ↦ inl e.1 | inr e ↦ inr e.1 ] }

  pub noted_known : i ≢ length marks → Noted Unmet old new marks marks n i
  noted_known other = elim is.added [
    | inl e ↦ known Unmet old new marks n i numbers even e.1
    | inr e ↦ absurd (other (e.0 ∙ sym even))
  ]

  pub noted_new : i ≡ length marks → (marks' : List Mark) → marks' ≡ marks ++ Unmet ∷ [] → Noted Unmet old new marks marks' n i
  noted_new next marks' more = elim is.added [
    | inl e ↦ absurd (let l : i < length old = e.0 in omega arith)
    | inr e ↦ fresh Unmet old new marks n i numbers even marks' e.1 more
  ]
