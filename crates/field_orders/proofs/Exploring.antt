-- An acceptor whose states are those of a source.
use Rattle.std.proofs.Common.{All, ◌≡◌, ◌∙◌, inl, inr, sym, ap, subst, refl, arith, ℕ, zero, suc, ◌+◌, ◌≤◌, ◌<◌, ◌^◌, List, [], ◌∷◌, ◌++◌, length, Option, Some, None, get_or, length-append, Bool, lit<}
use Rattle.std.specs.Prelude.{drop}
use Rattle.std.proofs.lemmas.Bool.{cases_lt}
use Rattle.std.proofs.lemmas.Option.{slice_get_within, slice_get-get_or}
use Rattle.std.proofs.lemmas.List.Elements.{All-nil, All-cons}
use Rattle.weighted_relations.specs.declared.Arc.{Arc}
use Rattle.weighted_relations.specs.Graphs.{GraphPath, GraphReads, label, stop, step}
use Rattle.weighted_relations.specs.Machines.{Machine, Path, Reads, IsArc, final_of, WellFormed}
use Rattle.weighted_relations.specs.Relations.{Same, IsByte, IsUnmarked}
use Rattle.fst_core.specs.States.{States, with_state, as_machine, no_states}
use Rattle.fst_core.specs.Placed.{label_arc}
use Rattle.fst_core.specs.Top.{top_of}
use Rattle.fst_core.proofs.Building.{last_or_before}
use Rattle.fst_core.proofs.Fits.{no_arc, no_end}
use Rattle.fst_core.proofs.Tops.{built_top}
use Rattle.state_table.specs.Numbers.{Keeps}
use Rattle.state_table.proofs.Numbering.{kept_within}
use Rattle.field_orders.specs.declared.states.State.{State}
use Rattle.field_orders.specs.Remainders.{Written, Rest, nothing, byte, fields, bytes_then, field_at, arc_at, arc_count, final_at}
use Rattle.field_orders.specs.Sources.{Means, at_end, at_byte, at_text, at_fields, ArcSays, RowSays, Source, IsSource, IsMore, IsState, HasArcs, graph_of, whole}
use Rattle.field_orders.proofs.Writings.{arc_of, is_arc}
use Rattle.field_orders.proofs.Rows.{means_end, means_byte, means_text, means_fields, means_within, arc_kept}
use Rattle.field_orders.proofs.Stating.{means_kept}

-- a state stands for one node
pub means_one : (t : List Written) (s : List State) (k : ℕ) {r u : Rest} → Means t s k r → Means t s k u → u ≡ r
means_one t s k (at_end f) m = means_end t s k f m
means_one t s k (at_byte {b} {n} f h) m = let q = means_byte t s k b n f m in q.1 ∙ ap (byte b) (means_one t s n h q.2)
means_one t s k (at_text {p} {i} {n} f a b h) m = let q = means_text t s k p i n f m in q.is ∙ ap (λ z. bytes_then (drop i (field_at t p).text) z) (means_one t s n h q.means)
means_one t s k (at_fields {j} {n} {ks} f a h) m = let q = means_fields t s k (j ∷ ks) n f m in q.is ∙ ap (fields (j ∷ ks)) (means_one t s n h q.means)

-- the first states, with the arcs and final weights of their nodes
pub record Explored (s : Source) (b : States) : Type 0 where
  pub even : length b.finals ≡ length b.arcs
  pub few : length b.arcs ≤ length s.states
  pub rows : (k : ℕ) (r : Rest) → k < length b.arcs → IsState s k r → RowSays s.table s.keep s.states (get_or b.arcs k []) r
  pub ends : (k : ℕ) (r : Rest) → k < length b.arcs → IsState s k r → final_of b.finals k ≡ final_at r

pub explored_none : (s : Source) (b : States) → b ≡ no_states → Explored s b
explored_none s b e = subst (Explored s) (sym e) (record { even = refl; few = omega arith; rows = λ k r l m. absurd (omega (arith, l)); ends = λ k r l m. absurd (omega (arith, l)) })

row_kept : (t : List Written) (keep : Bool) (old new : List State) (row : List Arc) (r : Rest) → Keeps old new → RowSays t keep old row r → RowSays t keep new row r
row_kept t keep old new row r k h = record { count = h.count; each = λ j a e. arc_kept t old new a (arc_at t r j) k (h.each j a e) }

-- one more state
pub explored_more : (old new : Source) (b c : States) (row : List Arc) (last : Option ℕ) → IsSource old → IsMore old new → Explored old b → length b.arcs < length old.states → c ≡ with_state b row last
    → HasArcs old new (length b.arcs) row → ((r : Rest) → IsState new (length b.arcs) r → final_at r ≡ last) → Explored new c
explored_more old new b c row last source more h l same arcs ends = subst (Explored new) (sym same) (subst (λ z. Explored z (with_state b row last)) (sym more.is) (record {
  even = length-append b.finals (last ∷ []) ∙ ap (λ z. z + 1) h.even ∙ sym (length-append b.arcs (row ∷ []));
  few = (let q = length-append b.arcs (row ∷ []) in let v : length b.arcs < length new.states = kept_within more.keeps (length b.arcs) l in omega (arith, q, v));
  rows = λ k r m i.
      let was : IsState old k r = back k r m i in
      elim (last_or_before b.arcs row [] k (let q = length-append b.arcs (row ∷ []) in omega (arith, q, m))) [
        | inl q ↦ subst (λ z. RowSays old.table old.keep new.states z r) (sym q.1) (row_kept old.table old.keep old.states new.states (get_or b.arcs k []) r more.keeps (h.rows k r q.0 was))
        | inr q ↦ subst (λ z. RowSays old.table old.keep new.states z r) (sym q.1) (here row r (arcs r (subst (λ z. IsState old z r) q.0 was)))
      ];
  ends = λ k r m i.
      elim (last_or_before b.finals last None k (let e = h.even in let q = length-append b.arcs (row ∷ []) in omega (arith, q, m, e))) [
        | inl q ↦ q.1 ∙ h.ends k r (let e = h.even in let z = q.0 in omega (arith, e, z)) (back k r m i)
        | inr q ↦ q.1 ∙ sym (ends r (subst (λ z. IsState new z r) (q.0 ∙ h.even) (there k r i)))
      ];
})) where
  there : (k : ℕ) (r : Rest) → Means old.table new.states k r → IsState new k r
  there k r i = subst (λ z. Means z new.states k r) (sym (ap (λ (z : Source). z.table) more.is)) i

  here : (z : List Arc) (r : Rest) → RowSays new.table new.keep new.states z r → RowSays old.table old.keep new.states z r
  here z r v = subst (λ t. RowSays t old.keep new.states z r) (ap (λ (y : Source). y.table) more.is) (subst (λ g. RowSays new.table g new.states z r) (ap (λ (y : Source). y.keep) more.is) v)

  back : (k : ℕ) (r : Rest) → k < length (b.arcs ++ row ∷ []) → Means old.table new.states k r → IsState old k r
  back k r m i =
      let q = length-append b.arcs (row ∷ []) in
      let a = source.meant k (omega (arith, q, m, l)) in
      subst (IsState old k) (sym (means_one old.table new.states k (means_kept old.table old.states new.states more.keeps a.1) i)) a.1

final_some : (r : Rest) (w : ℕ) → final_at r ≡ Some w → w ≡ 0
final_some nothing w e = cc
final_some (byte b r) w e = absurd (cc)
final_some (fields ks r) w e = absurd (cc)

label_bytes : (n : ℕ) (x : List ℕ) → n ≤ 255 → All IsByte x → All IsByte (label n x)
label_bytes zero x l h = h
label_bytes (suc n) x l h = All-cons IsByte (suc n) x (omega arith, omega (arith, l)) h

module _ (s : Source) (b : States) (source : IsSource s) (h : Explored s b) (all : length s.states ≤ length b.arcs) where
  arc_says : (k j : ℕ) (a : Arc) → IsArc b.arcs k j a → (r : Rest) × ArcSays s.table s.states a (arc_at s.table r j)
  arc_says k j a e = elim (cases_lt k (length b.arcs)) [
    | inl l ↦ let f = h.few in let m = source.meant k (omega (arith, l, f)) in (m.0, (h.rows k m.0 l m.1).each j a e)
    | inr l ↦ absurd (no_arc b.arcs k j a l e)
  ]

  end_says : (k w : ℕ) → final_of b.finals k ≡ Some w → w ≡ 0
  end_says k w e = elim (cases_lt k (length b.finals)) [
    | inl l ↦ let f = h.few in let v = h.even in let m = source.meant k (omega (arith, l, f, v)) in final_some m.0 w (sym (h.ends k m.0 (omega (arith, l, v)) m.1) ∙ e)
    | inr l ↦ absurd (no_end b.finals k w l e)
  ]

  small : 0 < 2 ^ 54
  small = lit< tt

  pub explored_sound : WellFormed (as_machine s.start b)
  explored_sound = record {
    finals = h.even;
    start = (let l = means_within s.table s.states s.start source.first in omega (arith, l, all));
    arcs = λ k j a e.
        let q = arc_says k j a e in
        let n = means_within s.table s.states a.next q.1.next in
        let i = q.1.small in
        let o : a.output ≡ a.input = q.1.output ∙ sym q.1.input in
        let w = q.1.weight in
        record { input = omega (arith, i); output = omega (arith, i, o); weight = subst (λ z. z < 2 ^ 54) (sym w) small; next = omega (arith, n, all) };
    weights = λ k w e. subst (λ z. z < 2 ^ 54) (sym (end_says k w e)) small;
  }

  pub explored_top : (m : Machine) → m ≡ as_machine s.start b → top_of m ≤ 0
  explored_top m e = built_top 0 s.start m b e (record { arcs = λ k j a i. let w = (arc_says k j a i).1.weight in omega (arith, w); ends = λ k w i. let z = end_says k w i in omega (arith, z) })

  -- no reading holds a mark
  bytes_read : {k : ℕ} {ks x y : List ℕ} {w : ℕ} → Path (as_machine s.start b) k ks x y w → All IsByte x × All IsByte y
  bytes_read (stop e) = (All-nil IsByte, All-nil IsByte)
  bytes_read {k} (step {k = j} {ks} {a} {x} {y} e p) =
      let q = arc_says k j a e in
      let o : a.output ≡ a.input = q.1.output ∙ sym q.1.input in
      let r = bytes_read p in
      (label_bytes a.input x q.1.small r.0, label_bytes a.output y (subst (λ n. n ≤ 255) (sym o) q.1.small) r.1)

  pub explored_unmarked : (m : Machine) → m ≡ as_machine s.start b → IsUnmarked (Reads m)
  explored_unmarked m e = subst (λ z. IsUnmarked (Reads z)) (sym e) (λ x y w h. bytes_read h.1)

  up : {k : ℕ} {ks x y : List ℕ} {w : ℕ} (r : Rest) → Path (as_machine s.start b) k ks x y w → IsState s k r → GraphPath (graph_of s) r ks x y w
  up {k} {w} r (stop e) m = stop (sym (h.ends k r (let l = means_within s.table s.states k m in omega (arith, l, all)) m) ∙ e)
  up {k} r (step {k = j} {ks} {a} {x} {y} {w} e p) m =
      let row = h.rows k r (let l = means_within s.table s.states k m in omega (arith, l, all)) m in
      let l : j < arc_count s.keep r = subst (λ n. j < n) row.count (slice_get_within (get_or b.arcs k []) j a e) in
      let says = row.each j a e in
      let path = step {k = j} {a = arc_at s.table r j} (arc_of s.table s.keep r j l) (up (arc_at s.table r j).1 p says.next) in
      subst (λ n. GraphPath (graph_of s) r (j ∷ ks) (label n x) (label a.output y) (a.weight + w)) (sym says.input)
      (subst (λ n. GraphPath (graph_of s) r (j ∷ ks) (label (arc_at s.table r j).0 x) (label n y) (a.weight + w)) (sym says.output)
      (subst (λ n. GraphPath (graph_of s) r (j ∷ ks) (label (arc_at s.table r j).0 x) (label (arc_at s.table r j).0 y) (n + w)) (sym says.weight) path))

  down : {r : Rest} {ks x y : List ℕ} {w : ℕ} (k : ℕ) → GraphPath (graph_of s) r ks x y w → IsState s k r → Path (as_machine s.start b) k ks x y w
  down {r} {w} k (stop e) m = stop (h.ends k r (let l = means_within s.table s.states k m in omega (arith, l, all)) m ∙ e)
  down {r} k (step {k = j} {ks} {a} {x} {y} {w} e p) m =
      let row = h.rows k r (let l = means_within s.table s.states k m in omega (arith, l, all)) m in
      let i = is_arc s.table s.keep r j a e in
      let c : Arc = get_or (get_or b.arcs k []) j (label_arc 0 0) in
      let at : IsArc b.arcs k j c = slice_get-get_or (get_or b.arcs k []) j (label_arc 0 0) (subst (λ n. j < n) (sym row.count) i.0) in
      let says = row.each j c at in
      let path = step {k = j} {a = c} at (down c.next p (subst (IsState s c.next) (sym (ap (λ (z : ℕ × Rest). z.1) i.1)) says.next)) in
      let o : c.output ≡ a.0 = says.output ∙ sym (ap (λ (z : ℕ × Rest). z.0) i.1) in
      let n : c.input ≡ a.0 = says.input ∙ sym (ap (λ (z : ℕ × Rest). z.0) i.1) in
      subst (λ v. Path (as_machine s.start b) k (j ∷ ks) (label v x) (label a.0 y) (0 + w)) n
      (subst (λ v. Path (as_machine s.start b) k (j ∷ ks) (label c.input x) (label v y) (0 + w)) o
      (subst (λ v. Path (as_machine s.start b) k (j ∷ ks) (label c.input x) (label c.output y) (v + w)) says.weight path))

  -- it has the readings of the graph
  pub explored_reads : (m : Machine) → m ≡ as_machine s.start b → Same (Reads m) (GraphReads (graph_of s))
  explored_reads m e = subst (λ z. Same (Reads z) (GraphReads (graph_of s))) (sym e) (λ x y w. (λ g. (g.0, up (whole s) g.1 source.first), λ g. (g.0, down s.start g.1 source.first)))

pub more_within : (old new : Source) (k : ℕ) → IsMore old new → k < length old.states → k < length new.states
more_within old new k more l = kept_within more.keeps k l

pub row_within : (s : Source) (k : ℕ) (row : List Arc) (u : Source) → IsSource s → k < length s.states → HasArcs s u k row → (j : ℕ) (d : Arc) → j < length row → (get_or row j d).next < length u.states
row_within s k row u source l h j d m =
    let q = source.meant k l in
    means_within u.table u.states (get_or row j d).next ((h q.0 q.1).each j (get_or row j d) (slice_get-get_or row j d m)).next
