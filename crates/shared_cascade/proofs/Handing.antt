-- What a visit puts into a caller's hands is what an expander owes.
use Rattle.std.specs.Prelude.{◌≡◌, ◌<◌, ℕ, zero, suc, List, Some, All, Contains, Option, filter, get_or, nat_eq, slice_get}
use Rattle.std.proofs.Common.{sym, ◌∙◌, ap, subst, arith}
use Rattle.std.proofs.lemmas.List.{get_or_default}
use Rattle.std.proofs.lemmas.Option.{slice_get-get_or}
use Rattle.state_tuples.specs.declared.tuples.Tuple.{Tuple}
use Rattle.state_tuples.specs.declared.tuples.TupleArc.{TupleArc}
use Rattle.state_tuples.specs.Calls.{AreArcsOn, HaveOwnNumbers, IsEndOf, IsKnown}
use Rattle.state_tuples.specs.Cascades.{Cascaded, IsOf, IsSound, end_of, moves_of}
use Rattle.state_tuples.specs.Codes.{IsCodeOf, IsExpansionCode, IsOrderedCode}
use Rattle.state_tuples.specs.Orders.{Ordered, moves_on}
use Rattle.state_tuples.proofs.CodedExpansions.{is_code, ordered_kept}
use Rattle.shared_cascade.specs.declared.facts.Grammars.{Grammars}
use Rattle.shared_cascade.specs.Grammars.{HaveNumbers, cascades_of}

-- one of some cascades, at its place
at_place : (cs : List Cascaded) (c : Cascaded) (h : Contains cs c) → slice_get cs h.0 ≡ Some c
at_place cs c h = slice_get-get_or cs h.0 c h.1 ∙ ap Some h.2

pub one_cascade : (cs : List Cascaded) → HaveOwnNumbers cs → (t : Tuple) (c d : Cascaded) → Contains cs c → Contains cs d → IsOf c t → IsOf d t → c ≡ d
one_cascade cs own t c d h g known other =
    let same : h.0 ≡ g.0 = own h.0 g.0 c d (at_place cs c h) (at_place cs d g) (sym known.number ∙ other.number) in
    sym h.2 ∙ (ap (λ k. get_or cs k c) same ∙ (get_or_default cs g.0 c d g.1 ∙ g.2))

-- the cascade that a known tuple names is one of which it is
pub of_the_named : (cs : List Cascaded) (t : Tuple) (d : Cascaded) → ((c : Cascaded) → Contains cs c → t.cascade ≡ c.number → d ≡ c) → IsKnown cs t → IsOf d t
of_the_named cs t d named known = subst (λ c. IsOf c t) (sym (named known.0 known.1 known.2.number)) known.2

pub small_number : (g : Grammars) → HaveNumbers g → (c : Cascaded) → Contains (cascades_of g) c → c.number < 4294967296
small_number g h c (zero, l, e) = (let n = ap (λ x. x.number) e in omega (arith, h.0))
small_number g h c (suc zero, l, e) = (let n = ap (λ x. x.number) e in omega (arith, h.1))
small_number g h c (suc (suc k), l, e) = absurd (omega arith)

pub sound_one : (cs : List Cascaded) → All IsSound cs → (c : Cascaded) → Contains cs c → IsSound c
sound_one cs h c (k, l, e) = subst IsSound e (h k c l)

module _ (g : Grammars) (numbers : HaveNumbers g) (sound : All IsSound (cascades_of g)) (t : Tuple) (c : Cascaded) (among : Contains (cascades_of g) c) (known : IsOf c t) where
  pub code_of_it : (code : List ℕ) (x : IsExpansionCode c t code) → IsCodeOf t (end_of c t) x.0 code
  code_of_it code x = is_code c (sound_one (cascades_of g) sound c among) (small_number g numbers c among) t known code x

  pub ordered_code : (code : List ℕ) → IsExpansionCode c t code → IsOrderedCode code
  ordered_code code x = (t, end_of c t, x.0, code_of_it code x, x.1.order)

  pub arcs_owed : HaveOwnNumbers (cascades_of g) → (label : ℕ) (arcs into : List TupleArc) → Ordered (moves_of c t) arcs → into ≡ filter (λ a. nat_eq a.input label) arcs → AreArcsOn (cascades_of g) t label into
  arcs_owed own label arcs into ordered is d there other =
      let same : c ≡ d = one_cascade (cascades_of g) own t c d among there known other in
      subst (λ e. Ordered (moves_on e t label) into) same
      (subst (Ordered (moves_on c t label)) (sym is) (ordered_kept (λ a. nat_eq a.input label) (moves_of c t) arcs ordered))

  pub end_owed : HaveOwnNumbers (cascades_of g) → (last : Option ℕ) → last ≡ end_of c t → IsEndOf (cascades_of g) t last
  end_owed own last is d there other =
      let same : c ≡ d = one_cascade (cascades_of g) own t c d among there known other in
      is ∙ ap (λ e. end_of e t) same
