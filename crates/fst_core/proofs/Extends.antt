-- States that are added leave what was read from the others as it was.
use Rattle.std.proofs.Common.{◌≡◌, ℕ, ◌<◌, List, [], ◌∷◌, length, get_or, Option, Some, None, sym, ◌∙◌, ap}
use Rattle.std.specs.Prelude.{slice_get}
use Rattle.std.proofs.lemmas.List.{get_or_append_left}
use Rattle.fst_core.specs.declared.builder.Kept.{Kept}
use Rattle.weighted_relations.specs.declared.Arc.{Arc}
use Rattle.weighted_relations.specs.Relations.{Same}
use Rattle.weighted_relations.specs.Graphs.{stop, step}
use Rattle.weighted_relations.specs.Machines.{Machine, Path, From, final_of}
use Rattle.fst_core.specs.States.{States, Adds, with_state, as_machine}
use Rattle.fst_core.proofs.Fits.{Fit}

-- the states b, and more
pub record Extends (b c : States) : Type 0 where
  pub rows : (s : ℕ) → s < length b.arcs → get_or c.arcs s [] ≡ get_or b.arcs s []
  pub ends : (s : ℕ) → s < length b.arcs → final_of c.finals s ≡ final_of b.finals s

pub adds_extends : (b c : States) (p : Machine) (n : ℕ) (i o : Kept) (exit : Option ℕ) → Adds b c p n i o exit → Extends b c
adds_extends b c p n i o exit adds = record { rows = adds.old_arcs; ends = adds.old_finals }

pub push_extends : (b : States) (row : List Arc) (last : Option ℕ) → length b.finals ≡ length b.arcs → Extends b (with_state b row last)
push_extends b row last even = record {
  rows = λ s l. get_or_append_left b.arcs (row ∷ []) [] s l;
  ends = λ s l. get_or_append_left b.finals (last ∷ []) None s (rw even l);
}

module _ (b c : States) (t u : ℕ) (fit : Fit (length b.arcs) b) (extends : Extends b c) where
  on : {s : ℕ} {ks x y : List ℕ} {w : ℕ} → Path (as_machine t b) s ks x y w → s < length b.arcs → Path (as_machine u c) s ks x y w
  on (stop {s} h) l = stop (extends.ends s l ∙ h)
  on (step {s} {k} {a} h path) l = step (ap (λ r. slice_get r k) (extends.rows s l) ∙ h) (on path (fit.arcs s k a h).next)

  back : {s : ℕ} {ks x y : List ℕ} {w : ℕ} → Path (as_machine u c) s ks x y w → s < length b.arcs → Path (as_machine t b) s ks x y w
  back (stop {s} h) l = stop (sym (extends.ends s l) ∙ h)
  back (step {s} {k} {a} h path) l =
      let there : slice_get (get_or b.arcs s []) k ≡ Some a = ap (λ r. slice_get r k) (sym (extends.rows s l)) ∙ h in
      step there (back path (fit.arcs s k a there).next)

  pub extended_reads : (s : ℕ) → s < length b.arcs → Same (From (as_machine u c) s) (From (as_machine t b) s)
  extended_reads s l x y w = (λ h. (h.0, back h.1 l), λ h. (h.0, on h.1 l))
