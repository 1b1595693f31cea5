-- What a step from a way adds.
use Rattle.std.specs.Prelude.{◌≡◌, ◌<◌, ◌≤◌, ◌^◌, ℕ, ◌+◌, List, [], ◌∷◌, ◌++◌, Some, length, get_or, slice_get}
use Rattle.std.proofs.Common.{refl, sym, ◌∙◌, ap, subst, arith, append-nil}
use Rattle.std.proofs.lemmas.List.Elements.{Contains-push}
use Rattle.std.proofs.lemmas.Option.{slice_get-get_or}
use Rattle.weighted_relations.specs.declared.Arc.{Arc}
use Rattle.weighted_relations.specs.Graphs.{label}
use Rattle.weighted_relations.specs.Machines.{Machine, IsArc, WellFormed, final_of}
use Rattle.state_table.specs.Numbers.{Keeps}
use Rattle.reading_first.specs.declared.parts.Part.{Part}
use Rattle.reading_first.specs.declared.parts.Part.TheVariants.{At, Ended}
use Rattle.reading_first.specs.declared.expands.Way.{Way}
use Rattle.reading_first.specs.Ways.{Silent, Move, reads, ends}
use Rattle.reading_first.specs.Shapes.{PartFits, Fit, IsMove, Says}
use Rattle.reading_first.specs.Expanding.{TextOf, Written, Growing, Expanding, IsFollowed, IsFound}
use Rattle.reading_first.proofs.Following.{push_reading, push_end}

-- a way at its place
pub record AtWay (m : Machine) (e : Growing) (parts : List Part) (d j at : ℕ) (w : Way) : Type 0 where
  pub had : Expanding m e parts d j
  pub there : slice_get e.ways at ≡ Some w
  pub within : w.state < length m.arcs
  pub light : w.weight < 2 ^ 54

pub way_there : {m : Machine} {now e : Growing} {parts : List Part} {d j : ℕ} (at : ℕ) (w : Way) → e ≡ now → at < length now.ways → Expanding m now parts d j → w ≡ get_or e.ways at w → AtWay m e parts d j at w
way_there {m} {now} {e} {parts} {d} {j} at w is l had same =
    let h : Expanding m e parts d j = subst (λ x. Expanding m x parts d j) (sym is) had in
    let n : at < length e.ways = subst (λ (x : Growing). at < length x.ways) (sym is) l in
    let t : slice_get e.ways at ≡ Some w = slice_get-get_or e.ways at w n ∙ ap Some (sym same) in
    let q = h.are at w t in
    record { had = h; there = t; within = q.within; light = q.light }

pub place_there : {now e : Growing} (at : ℕ) (w : Way) → e ≡ now → at < length now.ways → w ≡ get_or e.ways at w → slice_get now.ways at ≡ Some w
place_there {now} {e} at w is l same = subst (λ (x : Growing). slice_get x.ways at ≡ Some w) is (slice_get-get_or e.ways at w (subst (λ (x : Growing). at < length x.ways) (sym is) l) ∙ ap Some (sym same))

abbrev pub nowhere : Arc
nowhere = record { input = 0; output = 0; weight = 0; next = 0 }

pub arc_there : (m : Machine) (row : List Arc) (s j : ℕ) → row ≡ get_or m.arcs s [] → j < length (get_or m.arcs s []) → IsArc m.arcs s j (get_or row j nowhere)
arc_there m row s j is l = subst (λ r. slice_get r j ≡ Some (get_or row j nowhere)) is (slice_get-get_or row j nowhere (subst (λ r. j < length r) (sym is) l))

module _ (m : Machine) (e : Growing) (parts parts' : List Part) (d j first next : ℕ) (w : Way) (wf : WellFormed m) (q : AtWay m e parts d j d w) (small : first ≤ 257) (keeps : Keeps parts parts') where
  -- an arc that reads
  pub reading_step : (a : Arc) → IsArc m.arcs w.state j a → (a.input ≡ 0 → ⊥) → w.weight + a.weight < 2 ^ 54 → ((m : Machine) → Fit m parts → ((n : ℕ) → PartFits m n (At a.next)) → Fit m parts') → ((u : List ℕ) → TextOf e.ways d u → Written parts' first next (u ++ label a.output []) (At a.next)) → Expanding m (record { from = e.from; ways = e.ways; row = e.row ++ record { input = a.input; output = first; weight = w.weight + a.weight; next = next } ∷ [] }) parts' d (j + 1)
  reading_step a arc some light fit written =
      let x : Arc = record { input = a.input; output = first; weight = w.weight + a.weight; next = next } in
      let is = q.had.are d w q.there in
      let f = wf.arcs w.state j a arc in
      let t = written is.text is.told in
      let says : Says parts' x a.input (is.text ++ label a.output []) (w.weight + a.weight) (At a.next) = record { reads = refl; costs = refl; rest = t.rest; writes = t.is; leads = t.leads } in
      let move : IsMove m e.from parts' x = record { input = a.input; text = is.text ++ label a.output []; weight = w.weight + a.weight; to = At a.next; move = reads j is.places is.is arc some; says = says } in
      let fits : Fit m parts' = fit m q.had.fit (λ n. f.next) in
      let new : IsFollowed (record { from = e.from; ways = e.ways; row = e.row ++ x ∷ [] }) parts' d w a = record {
        silent = λ z. absurd (some z);
        reads = λ s. record { text = is.text; told = is.told; has = record { arc = x; is = Contains-push e.row x; says = says } };
      } in
      push_reading m e parts parts' d j x q.had keeps fits move (record { input = f.input; output = small; weight = light }) w a q.there arc new

  -- an end
  pub end_step : (f : ℕ) → 0 < d → length (get_or m.arcs w.state []) ≤ j → final_of m.finals w.state ≡ Some f → w.weight + f < 2 ^ 54 → ((m : Machine) → Fit m parts → ((n : ℕ) → PartFits m n Ended) → Fit m parts') → ((u : List ℕ) → TextOf e.ways d u → Written parts' first next (u ++ label 0 []) Ended) → Expanding m (record { from = e.from; ways = e.ways; row = e.row ++ record { input = 0; output = first; weight = w.weight + f; next = next } ∷ [] }) parts' (d + 1) 0
  end_step f some all end light fit written =
      let x : Arc = record { input = 0; output = first; weight = w.weight + f; next = next } in
      let is = q.had.are d w q.there in
      let t = written is.text is.told in
      let says : Says parts' x 0 (is.text ++ label 0 []) (w.weight + f) Ended = record { reads = refl; costs = refl; rest = t.rest; writes = t.is; leads = t.leads } in
      let p = is.some some in
      let way : Silent m e.from (p.0 ∷ p.1) is.text w.weight w.state = subst (λ ks. Silent m e.from ks is.text w.weight w.state) p.2 is.is in
      let went : Move m e.from 0 (is.text ++ []) (w.weight + f) Ended = subst (λ u. Move m e.from 0 u (w.weight + f) Ended) (sym (append-nil is.text)) (ends p.0 p.1 way end) in
      let move : IsMove m e.from parts' x = record { input = 0; text = is.text ++ []; weight = w.weight + f; to = Ended; move = went; says = says } in
      let fits : Fit m parts' = fit m q.had.fit (λ n. tt) in
      let zero : 0 ≤ 257 = omega arith in
      push_end m e parts parts' d j x q.had keeps fits move (record { input = zero; output = small; weight = light }) w q.there all (λ l g h.
      let same : f ≡ g = (let n : Some f ≡ Some g = sym end ∙ h in cc) in
      subst (λ v. IsFound (record { from = e.from; ways = e.ways; row = e.row ++ x ∷ [] }) parts' d 0 0 (w.weight + v) Ended) same
      (record { text = is.text; told = is.told; has = record { arc = x; is = Contains-push e.row x; says = says } }))
