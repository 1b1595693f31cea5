-- The least reading at the inputs of a source is the least one at the texts that it stands for.
use Rattle.std.proofs.Common.{◌≡◌, ◌↔◌, ◌∙◌, ℕ, List, None, Some, Option, Vec, refl, sym}
use Rattle.std.specs.declared.alloc.Global.{Global}
use Rattle.weighted_relations.specs.Least.{Least}
use Rattle.weighted_relations.specs.Machines.{Machine, Reads}
use Rattle.weighted_relations.specs.Relations.{Is, IsInput, Relation, Same}
use Rattle.token_record.specs.Fields.{fields_of}
use Rattle.token_record.specs.declared.tokens.Record.{Record}
use Rattle.field_orders.specs.Orders.{Orders, OrdersOf}
use Rattle.normaliser.specs.Parts.{IsOutput}

module _ (R : Relation) (X Y : List ℕ → Type 0) (same : (x : List ℕ) → X x ↔ Y x) where
  least_at : (answer : Option (ℕ × List ℕ)) → Least R X answer → Least R Y answer
  least_at None h = λ x y w e r. h x y w ((same x).1 e) r
  least_at (Some reading) h = record {
    reads = (let r = h.reads in (r.0, (same r.0).0 r.1, r.2));
    least = λ x z v e r. h.least x z v ((same x).1 e) r;
  }

  output_at : (output : Option (Vec ℕ Global)) → IsOutput R X output → IsOutput R Y output
  output_at None h = least_at None h
  output_at (Some output) h = (h.0, least_at (Some (h.0, output.items)) h.1)

-- the source of a line
pub output_at_line : (R : Relation) (m : Machine) (labels line : List ℕ) → Same (Reads m) (Is labels) → labels ≡ line → (output : Option (Vec ℕ Global)) → IsOutput R (IsInput (Reads m)) output → IsOutput R (λ x. x ≡ line) output
output_at_line R m labels line same is = output_at R (IsInput (Reads m)) (λ x. x ≡ line) (λ x. (
  λ (y, w, r). ((same x y w).0 r).input ∙ is,
  λ e. (labels, 0, (same x labels 0).1 (record { input = e ∙ sym is; output = refl; weight = refl })),
))

-- the source of a record
pub output_at_orders : (R : Relation) (m : Machine) (r : Record) → Same (Reads m) (OrdersOf r) → (output : Option (Vec ℕ Global)) → IsOutput R (IsInput (Reads m)) output → IsOutput R (Orders r.class r.keep (fields_of r.fields.items)) output
output_at_orders R m r same = output_at R (IsInput (Reads m)) (Orders r.class r.keep (fields_of r.fields.items)) (λ x. (
  λ (y, w, s). ((same x y w).0 s).orders,
  λ o. (x, 0, (same x x 0).1 (record { same = refl; weight = refl; orders = o })),
))
