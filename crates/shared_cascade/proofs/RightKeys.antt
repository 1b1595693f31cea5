-- The key of a right code names its tuple.
use Rattle.std.specs.Prelude.{◌≡◌, ◌≤◌, ℕ, List, [], ◌∷◌, ◌++◌, Option, Contains, length, take}
use Rattle.std.specs.List.{flat_map}
use Rattle.std.proofs.Common.{sym, ◌∙◌, ap, subst, arith, append_assoc, length-append}
use Rattle.std.proofs.lemmas.List.{take_at}
use Rattle.place_table.specs.Looks.{key_in}
use Rattle.state_tuples.specs.declared.tuples.Tuple.{Tuple}
use Rattle.state_tuples.specs.declared.tuples.TupleArc.{TupleArc}
use Rattle.state_tuples.specs.Cascades.{Cascaded, IsOf, end_of, moves_of}
use Rattle.state_tuples.specs.Orders.{Ordered}
use Rattle.state_tuples.specs.Codes.{IsExpansionCode, arc_words, code_of, end_words, key, most_words}
use Rattle.state_tuples.specs.Positions.{most_parts}
use Rattle.state_tuples.proofs.CodedExpansions.{one_key}
use Rattle.shared_cascade.specs.RightCodes.{IsRight}

pub code_key : (t : Tuple) (end : Option ℕ) (arcs : List TupleArc) → length t.states ≡ most_parts → key_in (code_of t end arcs) ≡ key t
code_key t end arcs w =
    let n : length (key t) ≡ 6 = (let e = length-append t.states (t.filters ∷ []) in omega arith) in
    ap (take 6) (append_assoc (key t) (end_words end) (flat_map arc_words arcs)) ∙ take_at (key t) (end_words end ++ flat_map arc_words arcs) 6 n

-- a right code with the key of a tuple is that of its expansion
pub record Named (cs : List Cascaded) (t : Tuple) (code : List ℕ) : Type 0 where
  pub c : Cascaded
  pub among : Contains cs c
  pub known : IsOf c t
  pub expansion : IsExpansionCode c t code

pub named : (cs : List Cascaded) (t : Tuple) (code : List ℕ) → length t.states ≡ most_parts → IsRight cs code → key_in code ≡ key t → Named cs t code
named cs t code w right same =
    let x = right.expansion in
    let own : key_in code ≡ key right.t = ap key_in x.2 ∙ code_key right.t _ x.0 right.known.width in
    let is : right.t ≡ t = one_key right.t t right.known.width w (sym own ∙ same) in
    record {
      c = right.c;
      among = right.among;
      known = subst (IsOf right.c) is right.known;
      expansion = subst (λ u. IsExpansionCode right.c u code) is x;
    }

-- the code of an expansion that was made
pub record Written (cs : List Cascaded) (t : Tuple) (code : List ℕ) : Type 0 where
  pub right : IsRight cs code
  pub own : key_in code ≡ key t

pub written : (cs : List Cascaded) (c : Cascaded) (t : Tuple) (end : Option ℕ) (arcs : List TupleArc) (code : List ℕ)
    → Contains cs c → IsOf c t → Ordered (moves_of c t) arcs → end ≡ end_of c t → code ≡ code_of t end arcs → length code ≤ most_words → Written cs t code
written cs c t end arcs code among known ordered last is room = record {
  right = record {
    c = c;
    t = t;
    among = among;
    known = known;
    expansion = (arcs, ordered, is ∙ ap (λ e. code_of t e arcs) last);
    room = room;
  };
  own = ap key_in is ∙ code_key t end arcs known.width;
}
