-- A transducer with the arcs of its states in another order has the same readings.
use Rattle.std.proofs.Common.{◌≡◌, ℕ, List, [], ◌∷◌, Some, refl, sym, ◌∙◌, subst, IsPermutation}
use Rattle.std.specs.Prelude.{get_or, slice_get, Contains}
use Rattle.std.proofs.lemmas.List.Sorted.{Contains-permutation, IsPermutation-sym}
use Rattle.fst_core.proofs.Searches.{contains_from, contains_at}
use Rattle.weighted_relations.specs.declared.Arc.{Arc}
use Rattle.weighted_relations.specs.Graphs.{GraphPath, stop, step}
use Rattle.weighted_relations.specs.Machines.{Machine, From, Reads, graph}
use Rattle.weighted_relations.specs.Relations.{Same}
use Rattle.fst_core.specs.Sorted.{IsReordered}

-- the rows of one are in the other, and so are the final weights
record Within (a b : Machine) : Type 0 where
  rows : (s : ℕ) (x : Arc) → Contains (get_or a.arcs s []) x → Contains (get_or b.arcs s []) x
  ends : (s w : ℕ) → (graph a).final s ≡ Some w → (graph b).final s ≡ Some w

path_within : (a b : Machine) → Within a b → {s w : ℕ} {ks x y : List ℕ} → GraphPath (graph a) s ks x y w → From b s x y w
path_within a b h (stop {s} {w} end) = ([], stop (h.ends s w end))
path_within a b h (step {s} {k} {ks} {a = arc} {x} {y} {w} is rest) =
    let there = h.rows s arc (contains_from (get_or a.arcs s []) k arc is) in
    let more = path_within a b h rest in
    let at = contains_at (get_or b.arcs s []) arc there in
    (at.0 ∷ more.0, step at.1 more.1)

pub reordered_reads : (a b : Machine) → IsReordered a b → Same (Reads b) (Reads a)
reordered_reads a b h x y w = (
  λ r. subst (λ s. From a s x y w) h.start (path_within b a back r.1),
  λ r. subst (λ s. From b s x y w) (sym h.start) (path_within a b to r.1),
) where
  to : Within a b
  to = record { rows = λ s arc c. Contains-permutation (get_or a.arcs s []) (get_or b.arcs s []) arc (h.rows s) c; ends = λ s w e. h.ends s ∙ e }

  back : Within b a
  back = record { rows = λ s arc c. Contains-permutation (get_or b.arcs s []) (get_or a.arcs s []) arc (IsPermutation-sym (get_or a.arcs s []) (get_or b.arcs s []) (h.rows s)) c; ends = λ s w e. sym (h.ends s) ∙ e }
