use Rattle.std.proofs.Common.{◌≡◌, ◌<◌, ◌++◌, ◌∷◌, [], List, Vec, Global, length, get_or, set, sym, ap, subst, ◌∙◌}
use Rattle.std.proofs.lemmas.List.{length-map}
use Rattle.weighted_relations.specs.declared.Arc.{Arc}
use Rattle.fst_core.specs.States.{States}
use Rattle.lexicon_trees.specs.Growing.{grown, head_of}
use Rattle.lexicon_trees.proofs.RowsHeld.{rows_of, states, row_is, rows_grown}
use Rattle.lexicon_trees.proofs.trees.Tree.lead_round.Goals as goal

pub returns : goal.returns
returns c =
    let l : c.args.state < length c.self.inside.arcs.items = subst (λ n. c.args.state < n) (ap (λ (b : States). length b.arcs) (sym c.self.view_is) ∙ length-map c.self.inside.arcs.items (λ (v : Vec Arc Global). v.items)) c.requires.state in
    let row = λ (r : List Arc). set r 0 c.args.arc in
    let first : c.push.new.self.items ≡ head_of (get_or (rows_of c.self.inside.arcs.items) c.args.state []) = c.in_ok-push.ensures.items ∙ ap (λ z. z ++ c.replace_first.result ∷ []) c.new-row.ensures.items ∙ c.replace_first.ensures.first ∙ ap head_of (row_is c.self.inside.arcs.items c.args.state c.index_mut.result.now l c.index_mut.ensures.value) in
    let rows = rows_grown c.self.inside.arcs.items c.args.state c.index_mut.result.now c.replace_first.new.row c.push.new.self row c.push-2.new.self.items (head_of (get_or (rows_of c.self.inside.arcs.items) c.args.state [])) l c.index_mut.ensures.value c.replace_first.ensures.after c.in_ok-push-2.ensures.items first in
    record {
      value =
          ap (λ r. states r c.push-3.new.self.items) rows
          ∙ ap (λ z. states (set (rows_of c.self.inside.arcs.items) c.args.state (row (get_or (rows_of c.self.inside.arcs.items) c.args.state [])) ++ head_of (get_or (rows_of c.self.inside.arcs.items) c.args.state []) ∷ []) z) c.in_ok-push-3.ensures.items
          ∙ ap (λ (b : States). grown b c.args.state (row (get_or b.arcs c.args.state [])) (head_of (get_or b.arcs c.args.state [])) c.args.last) c.self.view_is;
    }
