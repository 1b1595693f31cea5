use Rattle.std.proofs.Common.{◌<◌, ℕ, Vec, Global, length, sym, ap, subst, ◌∙◌}
use Rattle.std.proofs.lemmas.List.{length-map}
use Rattle.acceptor_ops.specs.StateSets.{with_element}
use Rattle.acceptor_ops.proofs.Filling.{element_added}
use Rattle.acceptor_ops.proofs.buckets.Buckets.put.Goals as goal

pub returns : goal.returns
returns c =
    let l : c.args.bucket < length c.self.inside.lists.items = subst (λ n. c.args.bucket < n) (ap length (sym c.self.view_is) ∙ length-map c.self.inside.lists.items (λ (v : Vec ℕ Global). v.items)) c.requires.within in
    record {
      value =
          element_added c.self.inside.lists.items c.args.bucket c.args.state c.index_mut.result.now c.push.new.self l c.index_mut.ensures.value c.in_ok-push.ensures.items
          ∙ ap (λ b. with_element b c.args.bucket c.args.state) c.self.view_is;
    }
