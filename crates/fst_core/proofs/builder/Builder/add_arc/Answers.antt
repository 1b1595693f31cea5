use Rattle.std.proofs.Common.{◌≡◌, ◌<◌, ◌++◌, ◌∷◌, [], ℕ, List, Option, Vec, Global, map, length, get_or, sym, ap, subst, ◌∙◌}
use Rattle.std.proofs.Math.ListN.{set}
use Rattle.std.proofs.lemmas.List.{map-set, get_or-map, length-map}
use Rattle.weighted_relations.specs.declared.Arc.{Arc}
use Rattle.fst_core.specs.States.{States, with_arc}
use Rattle.fst_core.proofs.builder.Builder.add_arc.Goals as goal

states : List (List Arc) → List (Option ℕ) → States
states arcs finals = record { arcs = arcs; finals = finals }

-- one row of vectors is replaced by a longer one
pushed : (rows : List (Vec Arc Global)) (s : ℕ) (a : Arc) (v w : Vec Arc Global) → s < length rows → v ≡ get_or rows s v → w.items ≡ v.items ++ a ∷ [] → map (λ (v : Vec Arc Global). v.items) (set rows s w) ≡ set (map (λ (v : Vec Arc Global). v.items) rows) s (get_or (map (λ (v : Vec Arc Global). v.items) rows) s [] ++ a ∷ [])
pushed rows s a v w l e f =
    let row : v.items ≡ get_or (map (λ (v : Vec Arc Global). v.items) rows) s [] = ap (λ (v : Vec Arc Global). v.items) e ∙ sym (get_or-map (λ (v : Vec Arc Global). v.items) rows s v [] l) in
    map-set (λ (v : Vec Arc Global). v.items) rows s w ∙ ap (set (map (λ (v : Vec Arc Global). v.items) rows) s) (f ∙ ap (λ r. r ++ a ∷ []) row)

pub returns : goal.returns
returns c =
    let l : c.args.state < length c.self.inside.arcs.items = subst (λ n. c.args.state < n) (ap (λ (b : States). length b.arcs) (sym c.self.view_is) ∙ length-map c.self.inside.arcs.items (λ (v : Vec Arc Global). v.items)) c.requires.state in
    record {
      value =
          ap (λ r. let b : States = record { arcs = r; finals = c.self.inside.finals.items } in b) (pushed c.self.inside.arcs.items c.args.state c.args.arc c.index_mut.result.now c.push.new.self l c.index_mut.ensures.value c.in_ok-push.ensures.items)
          ∙ ap (λ b. with_arc b c.args.state c.args.arc) c.self.view_is;
    }
