use Rattle.std.proofs.Common.{◌<◌, ◌++◌, ◌∷◌, [], List, Vec, Global, length, get_or, set, sym, ap, subst, ◌∙◌}
use Rattle.std.specs.List.{insert}
use Rattle.std.proofs.lemmas.List.{length-map}
use Rattle.weighted_relations.specs.declared.Arc.{Arc}
use Rattle.fst_core.specs.States.{States}
use Rattle.lexicon_trees.specs.Growing.{grown}
use Rattle.lexicon_trees.proofs.RowsHeld.{rows_of, states, rows_grown}
use Rattle.lexicon_trees.proofs.trees.Tree.branch.Goals as goal

pub returns : goal.returns
returns c =
    let l : c.args.state < length c.self.inside.arcs.items = subst (λ n. c.args.state < n) (ap (λ (b : States). length b.arcs) (sym c.self.view_is) ∙ length-map c.self.inside.arcs.items (λ (v : Vec Arc Global). v.items)) c.requires.state in
    let row = λ (r : List Arc). insert r c.args.place c.args.arc in
    let rows = rows_grown c.self.inside.arcs.items c.args.state c.index_mut.result.now c.insert.new.self c.new.result row c.push.new.self.items [] l c.index_mut.ensures.value c.in_ok-insert.ensures.items c.in_ok-push.ensures.items c.new.ensures.items in
    record {
      value =
          ap (λ r. states r c.push-2.new.self.items) rows
          ∙ ap (λ z. states (set (rows_of c.self.inside.arcs.items) c.args.state (row (get_or (rows_of c.self.inside.arcs.items) c.args.state [])) ++ [] ∷ []) z) c.in_ok-push-2.ensures.items
          ∙ ap (λ (b : States). grown b c.args.state (row (get_or b.arcs c.args.state [])) [] c.args.last) c.self.view_is;
    }
