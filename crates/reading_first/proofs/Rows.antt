-- The rows of parts.
use Rattle.std.specs.Prelude.{◌≡◌, ◌<◌, ◌≤◌, ◌^◌, ℕ, zero, suc, List, [], ◌∷◌, Option, Some, None, length, slice_get}
use Rattle.std.specs.List.{Contains}
use Rattle.std.proofs.Common.{refl, sym, ◌∙◌, ap, subst, inl, inr, arith}
use Rattle.std.proofs.lemmas.Option.{slice_get_within}
use Rattle.weighted_relations.specs.declared.Arc.{Arc}
use Rattle.weighted_relations.specs.Machines.{Machine, WellFormed, final_of}
use Rattle.state_table.specs.Numbers.{Distinct, Keeps, Numbers}
use Rattle.state_table.proofs.Numbering.{keeps_refl, numbers_keeps}
use Rattle.reading_first.specs.declared.parts.Part.{Part}
use Rattle.reading_first.specs.declared.parts.Part.TheVariants.{At, Writes, Ended}
use Rattle.reading_first.specs.Shapes.{Fit, PartFits, IsForced, Moves, RowOf, RowMade, IsSmall, writing}
use Rattle.reading_first.specs.Expanding.{Growing, Expanding}
use Rattle.reading_first.proofs.Chains.{fit_added, before_within}
use Rattle.reading_first.proofs.Following.{all_moves, says_kept, move_kept}

the_one : {X : Type 0} (x y : X) → Contains (x ∷ []) y → x ≡ y
the_one x y (zero, l, e) = e
the_one x y (suc k, l, e) = absurd (omega (arith, l))

-- where nothing is chosen
pub stays_made : (m : Machine) (old new : List Part) (q : ℕ) (a : Arc) (next : ℕ) (row : List Arc) → WellFormed m → Fit m old → IsForced m q a → Distinct new → Numbers old new (At a.next) next → row ≡ record { input = 0; output = a.output; weight = a.weight; next = next } ∷ [] → RowMade m old new (At q) row None
stays_made m old new q a next row wf fit forced distinct add is =
    let f = wf.arcs q 0 a (ap (λ r. slice_get r 0) forced.arc) in
    let x : Arc = record { input = 0; output = a.output; weight = a.weight; next = next } in
    let zero : 0 ≤ 257 = omega arith in
    let small : IsSmall x = record { input = zero; output = f.output; weight = f.weight } in
    record {
      is = inl (record { was = a; forced = forced; arc = x; alone = is; input = refl; output = refl; weight = refl; next = add.stored; end = refl });
      small = λ y h. subst IsSmall (the_one x y (subst (λ r. Contains r y) is h)) small;
      light = λ w h. absurd (cc);
      keeps = numbers_keeps add;
      fit = fit_added m old new (At a.next) next fit distinct add f.next;
    }

-- where ways were followed
pub moves_made : (m : Machine) (old new : List Part) (q : ℕ) (e : Growing) (row : List Arc) (last : Option ℕ) → WellFormed m → Expanding m e new (length e.ways) 0 → e.from ≡ q → row ≡ e.row → last ≡ final_of m.finals q → Keeps old new → RowMade m old new (At q) row last
moves_made m old new q e row last wf had from is end keeps =
    let all : length e.ways ≤ length e.ways = omega arith in
    let moves : Moves m e.from new e.row last = all_moves m e new (length e.ways) had all last (end ∙ ap (final_of m.finals) (sym from)) in
    record {
      is = inr (subst (λ s. Moves m s new row last) from (subst (λ r. Moves m e.from new r last) (sym is) moves));
      small = λ x h. had.small x (subst (λ r. Contains r x) is h);
      light = λ w h. wf.weights q w (sym end ∙ h);
      keeps = keeps;
      fit = had.fit;
    }

pub writes_made : (m : Machine) (parts : List Part) (l k : ℕ) (row : List Arc) → Fit m parts → PartFits m (length parts) (Writes l k) → row ≡ writing l k ∷ [] → RowMade m parts parts (Writes l k) row None
writes_made m parts l k row fit fits is =
    let zero : 0 ≤ 257 = omega arith in
    let light : 0 < 2 ^ 54 = omega arith in
    let small : IsSmall (writing l k) = record { input = zero; output = fits.1; weight = light } in
    record {
      is = (is, refl);
      small = λ y h. subst IsSmall (the_one (writing l k) y (subst (λ r. Contains r y) is h)) small;
      light = λ w h. absurd (cc);
      keeps = keeps_refl parts;
      fit = fit;
    }

pub ended_made : (m : Machine) (parts : List Part) (row : List Arc) → Fit m parts → row ≡ [] → RowMade m parts parts Ended row (Some 0)
ended_made m parts row fit is = record {
  is = (is, refl);
  small = λ y h. absurd (let l = (subst (λ r. Contains r y) is h).1 in omega (arith, l));
  light = λ w h. (let e : 0 ≡ w = (let f : Some 0 ≡ Some w = h in cc) in let n : w < 2 ^ 54 = omega arith in n);
  keeps = keeps_refl parts;
  fit = fit;
}

-- more parts
pub row_kept : (m : Machine) (old new : List Part) (p : Part) (row : List Arc) (last : Option ℕ) → Keeps old new → RowOf m old p row last → RowOf m new p row last
row_kept m old new (At q) row last keeps r = elim r [
  | inl st ↦ inl (record { was = st.was; forced = st.forced; arc = st.arc; alone = st.alone; input = st.input; output = st.output; weight = st.weight; next = keeps.kept st.arc.next (At st.was.next) st.next; end = st.end })
  | inr mv ↦ inr (record {
    sound = λ x h. move_kept m q old new x keeps (mv.sound x h);
    found = λ i t v p g.
        let f = mv.found i t v p g in
        record { arc = f.arc; is = f.is; says = says_kept old new f.arc i t v p keeps f.says };
    end = mv.end;
  })
]
row_kept m old new (Writes l k) row last keeps r = r
row_kept m old new Ended row last keeps r = r

-- where the arcs of a row lead
pub row_within : (m : Machine) (parts : List Part) (p : Part) (row : List Arc) (last : Option ℕ) → PartFits m (length parts) p → RowOf m parts p row last → (x : Arc) → Contains row x → x.next < length parts
row_within m parts (At q) row last fits r x h = elim r [
  | inl st ↦ subst (λ (y : Arc). y.next < length parts) (the_one st.arc x (subst (λ r. Contains r x) st.alone h)) (slice_get_within parts st.arc.next (At st.was.next) st.next)
  | inr mv ↦ let g = mv.sound x h in before_within parts x.next g.says.rest g.to g.says.leads
]
row_within m parts (Writes l k) row last fits r x h = subst (λ (y : Arc). y.next < length parts) (the_one (writing l k) x (subst (λ r. Contains r x) r.0 h)) fits.2
row_within m parts Ended row last fits r x h = absurd (let l = (subst (λ r. Contains r x) r.0 h).1 in omega (arith, l))
