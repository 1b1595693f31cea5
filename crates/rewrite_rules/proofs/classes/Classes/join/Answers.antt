use Rattle.std.proofs.Common.{◌<◌, ℕ, List, Vec, Global, map, length, sym, ap, subst, ◌∙◌}
use Rattle.std.proofs.lemmas.List.{length-map}
use Rattle.acceptor_ops.proofs.Filling.{element_added}
use Rattle.rewrite_rules.specs.Classes.{Classing, joined}
use Rattle.rewrite_rules.proofs.classes.Classes.join.Goals as goal

classing : List ℕ → List (List ℕ) → Classing
classing of members = record { of = of; members = members }

pub returns : goal.returns
returns c =
    let l : c.args.class < length c.self.inside.members.items = subst (λ n. c.args.class < n) (ap (λ (k : Classing). length k.members) (sym c.self.view_is) ∙ length-map c.self.inside.members.items (λ (v : Vec ℕ Global). v.items)) c.requires.class in
    record {
      value =
          ap (λ r. let k : Classing = record { of = c.push.new.self.items; members = r } in k) (element_added c.self.inside.members.items c.args.class c.args.byte c.index_mut.result.now c.push-2.new.self l c.index_mut.ensures.value c.in_ok-push-2.ensures.items)
          ∙ ap (λ r. let k : Classing = record { of = r; members = Rattle.acceptor_ops.specs.StateSets.with_element (map (λ (v : Vec ℕ Global). v.items) c.self.inside.members.items) c.args.class c.args.byte } in k) c.in_ok-push.ensures.items
          ∙ ap (λ k. joined k c.args.class c.args.byte) c.self.view_is;
    }
