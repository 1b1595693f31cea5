-- A tree with a state more is a tree.
use Rattle.std.proofs.Common.{◌≡◌, ◌⊎◌, ◌<◌, ◌≤◌, ◌+◌, ℕ, List, [], ◌∷◌, ◌++◌, length, get_or, set, Option, Some, None, sym, ap, subst, ◌∙◌, inl, inr, arith, append-nil, get_or-set_same, get_or-set_other}
use Rattle.std.specs.Prelude.{slice_get}
use Rattle.std.proofs.lemmas.Bool.{cases_lt}
use Rattle.std.proofs.lemmas.List.{get_or_past, get_or_append_left, get_or_push, length-set, length_push}
use Rattle.weighted_relations.specs.declared.Arc.{Arc}
use Rattle.weighted_relations.specs.Graphs.{label}
use Rattle.weighted_relations.specs.Machines.{IsArc, final_of}
use Rattle.fst_core.specs.States.{States}
use Rattle.fst_core.specs.Top.{Under}
use Rattle.fst_core.specs.Turned.{InRow}
use Rattle.fst_core.proofs.Fits.{no_arc}
use Rattle.lexicon_trees.specs.Shapes.{IsOrdered}
use Rattle.lexicon_trees.specs.Growing.{TreeReads, Comes, on, Place, first_place, place_of, place_after, ArcLeads, IsTree, grown, Led, Ended}
use Rattle.lexicon_trees.proofs.TreePlaces.{end_within, comes_place, ends_at, read_at, comes_map}

-- Among the arcs of a state there is one more, and some may go on from where it leads.
pub record Branches (old row more : List Arc) (a : Arc) : Type 0 where
  pub only : (k : ℕ) (b : Arc) → slice_get row k ≡ Some b → InRow old b ⊎ (b ≡ a)
  pub there : InRow row a
  pub kept : (k : ℕ) (b : Arc) → slice_get old k ≡ Some b → InRow row b ⊎ InRow more b
  pub further : (k : ℕ) (b : Arc) → slice_get more k ≡ Some b → InRow old b × (a.input ≡ 0) × (a.output ≡ 0)
  pub ordered : IsOrdered row
  pub more_ordered : IsOrdered more

three : (s t n : ℕ) → s < n → (t ≡ s) ⊎ (((t ≡ s → ⊥) × (t < n)) ⊎ ((t ≡ n) ⊎ (n < t)))
three s t n l = elim (cases_lt t s) [
  | inl m ↦ inr (inl ((λ e. absurd (omega (arith, m, e))), omega (arith, m, l)))
  | inr m ↦ elim (cases_lt s t) [
    | inr o ↦ inl (omega (arith, m, o))
    | inl o ↦ elim (cases_lt t n) [
      | inl p ↦ inr (inl ((λ e. absurd (omega (arith, o, e))), p))
      | inr p ↦ elim (cases_lt n t) [
        | inl q ↦ inr (inr (inr q))
        | inr q ↦ inr (inr (inl (omega (arith, p, q))))
      ]
    ]
  ]
]

module _ (b : States) (tree : IsTree b) (s : ℕ) (row more : List Arc) (last : Option ℕ) (a : Arc) (l : s < length b.arcs) (next : a.next ≡ length b.arcs) (light : a.weight ≡ 0) (low_input : a.input ≤ 257) (low_output : a.output ≤ 257) (branches : Branches (get_or b.arcs s []) row more a) where
  row_at : get_or (grown b s row more last).arcs s [] ≡ row
  row_at = get_or_append_left (set b.arcs s row) (more ∷ []) [] s (rw (length-set b.arcs s row) l) ∙ get_or-set_same b.arcs s row [] l

  row_other : (t : ℕ) → (t ≡ s → ⊥) → t < length b.arcs → get_or (grown b s row more last).arcs t [] ≡ get_or b.arcs t []
  row_other t ne m = get_or_append_left (set b.arcs s row) (more ∷ []) [] t (rw (length-set b.arcs s row) m) ∙ get_or-set_other b.arcs s t row [] ne

  row_new : get_or (grown b s row more last).arcs (length b.arcs) [] ≡ more
  row_new = get_or_push (set b.arcs s row) more [] (length b.arcs) (length-set b.arcs s row)

  arc_count : length (grown b s row more last).arcs ≡ length b.arcs + 1
  arc_count = length_push (set b.arcs s row) more ∙ ap (λ n. n + 1) (length-set b.arcs s row)

  place_count : length (tree.places ++ place_after (place_of tree.places s) a ∷ []) ≡ length b.arcs + 1
  place_count = length_push tree.places (place_after (place_of tree.places s) a) ∙ ap (λ n. n + 1) tree.count

  place_old : (t : ℕ) → t < length b.arcs → place_of (tree.places ++ place_after (place_of tree.places s) a ∷ []) t ≡ place_of tree.places t
  place_old t m = get_or_append_left tree.places (place_after (place_of tree.places s) a ∷ []) first_place t (rw tree.count m)

  place_new : place_of (tree.places ++ place_after (place_of tree.places s) a ∷ []) (length b.arcs) ≡ place_after (place_of tree.places s) a
  place_new = get_or_push tree.places (place_after (place_of tree.places s) a) first_place (length b.arcs) tree.count

  -- an arc of old leads on as it did, from a state at the same place
  lifted : (t u k : ℕ) (d : Arc) → IsArc b.arcs t k d → place_of (tree.places ++ place_after (place_of tree.places s) a ∷ []) u ≡ place_of tree.places t → ArcLeads (tree.places ++ place_after (place_of tree.places s) a ∷ []) u d
  lifted t u k d h e =
      let q = tree.arcs t k d h in
      let inside : d.next < length b.arcs = omega (arith, q.next, tree.count) in
      record {
        input = q.input;
        output = q.output;
        weight = q.weight;
        next = omega (arith, inside, place_count);
        place = place_old d.next inside ∙ q.place ∙ ap (λ p. place_after p d) (sym e);
      }

  new_leads : ArcLeads (tree.places ++ place_after (place_of tree.places s) a ∷ []) s a
  new_leads = record {
    input = low_input;
    output = low_output;
    weight = light;
    next = omega (arith, next, place_count);
    place = ap (place_of (tree.places ++ place_after (place_of tree.places s) a ∷ [])) next ∙ place_new ∙ ap (λ p. place_after p a) (sym (place_old s l));
  }

  same_place : a.input ≡ 0 → a.output ≡ 0 → place_of (tree.places ++ place_after (place_of tree.places s) a ∷ []) (length b.arcs) ≡ place_of tree.places s
  same_place e f =
      place_new ∙ ap (λ n. let p : Place = ((place_of tree.places s).0 ++ label n [], (place_of tree.places s).1 ++ label a.output []) in p) e ∙ ap (λ n. let p : Place = ((place_of tree.places s).0 ++ [], (place_of tree.places s).1 ++ label n []) in p) f
      ∙ ap (λ z. let p : Place = (z, (place_of tree.places s).1 ++ []) in p) (append-nil (place_of tree.places s).0) ∙ ap (λ z. let p : Place = ((place_of tree.places s).0, z) in p) (append-nil (place_of tree.places s).1)

  leads : (t k : ℕ) (d : Arc) → IsArc (grown b s row more last).arcs t k d → ArcLeads (tree.places ++ place_after (place_of tree.places s) a ∷ []) t d
  leads t k d h = elim (three s t (length b.arcs) l) [
    | inl e ↦
        let in_row : slice_get row k ≡ Some d = ap (λ z. slice_get z k) (sym row_at ∙ ap (λ z. get_or (grown b s row more last).arcs z []) (sym e)) ∙ h in
        subst (λ z. ArcLeads (tree.places ++ place_after (place_of tree.places s) a ∷ []) z d) (sym e) (elim (branches.only k d in_row) [
          | inl q ↦ lifted s s q.0 d q.1 (place_old s l)
          | inr q ↦ subst (ArcLeads (tree.places ++ place_after (place_of tree.places s) a ∷ []) s) (sym q) new_leads
        ])
    | inr r ↦ elim r [
      | inl m ↦ lifted t t k d (ap (λ z. slice_get z k) (sym (row_other t m.0 m.1)) ∙ h) (place_old t m.1)
      | inr r ↦ elim r [
        | inl e ↦
            let in_more : slice_get more k ≡ Some d = ap (λ z. slice_get z k) (sym row_new ∙ ap (λ z. get_or (grown b s row more last).arcs z []) (sym e)) ∙ h in
            let q = branches.further k d in_more in
            lifted s t q.0.0 d q.0.1 (ap (place_of (tree.places ++ place_after (place_of tree.places s) a ∷ [])) e ∙ same_place q.1 q.2)
        | inr m ↦ absurd (no_arc (grown b s row more last).arcs t k d (omega (arith, m, arc_count)) h)
      ]
    ]
  ]

  at_row : (k : ℕ) (d : Arc) → slice_get row k ≡ Some d → IsArc (grown b s row more last).arcs s k d
  at_row k d h = ap (λ z. slice_get z k) row_at ∙ h

  at_more : (k : ℕ) (d : Arc) → slice_get more k ≡ Some d → IsArc (grown b s row more last).arcs a.next k d
  at_more k d h = ap (λ z. slice_get z k) (ap (λ z. get_or (grown b s row more last).arcs z []) next ∙ row_new) ∙ h

  to_new : (x y : List ℕ) → Comes (grown b s row more last).arcs s x y → Comes (grown b s row more last).arcs a.next (x ++ label a.input []) (y ++ label a.output [])
  to_new x y before = on branches.there.0 a before (at_row branches.there.0 a branches.there.1)

  round : (x y : List ℕ) (k : ℕ) (d : Arc) → slice_get more k ≡ Some d → Comes (grown b s row more last).arcs s x y → Comes (grown b s row more last).arcs d.next (x ++ label d.input []) (y ++ label d.output [])
  round x y k d h before =
      let q = branches.further k d h in
      let e : x ++ label a.input [] ≡ x = ap (λ n. x ++ label n []) q.1 ∙ append-nil x in
      let f : y ++ label a.output [] ≡ y = ap (λ n. y ++ label n []) q.2 ∙ append-nil y in
      let first : Comes (grown b s row more last).arcs a.next x y = subst (λ z. Comes (grown b s row more last).arcs a.next x z) f (subst (λ z. Comes (grown b s row more last).arcs a.next z (y ++ label a.output [])) e (to_new x y before)) in
      on k d first (at_more k d h)

  kept_arc : (t k : ℕ) (d : Arc) (x y : List ℕ) → IsArc b.arcs t k d → Comes (grown b s row more last).arcs t x y → Comes (grown b s row more last).arcs d.next (x ++ label d.input []) (y ++ label d.output [])
  kept_arc t k d x y h before = elim (three s t (length b.arcs) l) [
    | inl e ↦
        let there : slice_get (get_or b.arcs s []) k ≡ Some d = ap (λ z. slice_get (get_or b.arcs z []) k) (sym e) ∙ h in
        let from : Comes (grown b s row more last).arcs s x y = subst (λ z. Comes (grown b s row more last).arcs z x y) e before in
        elim (branches.kept k d there) [
          | inl q ↦ on q.0 d from (at_row q.0 d q.1)
          | inr q ↦ round x y q.0 d q.1 from
        ]
    | inr r ↦ elim r [
      | inl m ↦ on k d before (ap (λ z. slice_get z k) (row_other t m.0 m.1) ∙ h)
      | inr r ↦ elim r [
        | inl e ↦ absurd (no_arc b.arcs t k d (omega (arith, e)) h)
        | inr m ↦ absurd (no_arc b.arcs t k d (omega (arith, m)) h)
      ]
    ]
  ]

  pub grown_kept : (t : ℕ) (x y : List ℕ) → Comes b.arcs t x y → Comes (grown b s row more last).arcs t x y
  grown_kept t x y before = comes_map b.arcs (grown b s row more last).arcs kept_arc before

  pub grown_there : (x y : List ℕ) → Comes b.arcs s x y → Comes (grown b s row more last).arcs (length b.arcs) (x ++ label a.input []) (y ++ label a.output [])
  grown_there x y before = subst (λ z. Comes (grown b s row more last).arcs z (x ++ label a.input []) (y ++ label a.output [])) next (to_new x y (grown_kept s x y before))

  comes_as : (t : ℕ) (p q : Place) → p ≡ q → Comes (grown b s row more last).arcs t p.0 p.1 → Comes (grown b s row more last).arcs t q.0 q.1
  comes_as t p q e h = subst (λ (z : Place). Comes (grown b s row more last).arcs t z.0 z.1) e h

  comes : (t : ℕ) → t < length b.arcs + 1 → Comes (grown b s row more last).arcs t (place_of (tree.places ++ place_after (place_of tree.places s) a ∷ []) t).0 (place_of (tree.places ++ place_after (place_of tree.places s) a ∷ []) t).1
  comes t m = elim (cases_lt t (length b.arcs)) [
    | inl n ↦ comes_as t (place_of tree.places t) (place_of (tree.places ++ place_after (place_of tree.places s) a ∷ []) t) (sym (place_old t n)) (grown_kept t (place_of tree.places t).0 (place_of tree.places t).1 (tree.comes t n))
    | inr n ↦
        let e : length b.arcs ≡ t = omega (arith, m, n) in
        comes_as t (place_after (place_of tree.places s) a) (place_of (tree.places ++ place_after (place_of tree.places s) a ∷ []) t)
        (sym place_new ∙ ap (place_of (tree.places ++ place_after (place_of tree.places s) a ∷ [])) e)
        (subst (λ z. Comes (grown b s row more last).arcs z ((place_of tree.places s).0 ++ label a.input []) ((place_of tree.places s).1 ++ label a.output [])) e
        (grown_there (place_of tree.places s).0 (place_of tree.places s).1 (tree.comes s l)))
  ]

  orders : (t : ℕ) → IsOrdered (get_or (grown b s row more last).arcs t [])
  orders t = elim (three s t (length b.arcs) l) [
    | inl e ↦ subst IsOrdered (sym (ap (λ z. get_or (grown b s row more last).arcs z []) e ∙ row_at)) branches.ordered
    | inr r ↦ elim r [
      | inl m ↦ subst IsOrdered (sym (row_other t m.0 m.1)) (tree.ordered t)
      | inr r ↦ elim r [
        | inl e ↦ subst IsOrdered (sym (ap (λ z. get_or (grown b s row more last).arcs z []) e ∙ row_new)) branches.more_ordered
        | inr m ↦ subst IsOrdered (sym (get_or_past (grown b s row more last).arcs t [] (omega (arith, m, arc_count)))) (record { before = λ j k d e n f g. absurd (cc) })
      ]
    ]
  ]

  end_count : length (b.finals ++ last ∷ []) ≡ length b.arcs + 1
  end_count = length_push b.finals last ∙ ap (λ n. n + 1) tree.ends

  pub grown_tree : IsTree (grown b s row more last)
  grown_tree = record {
    places = tree.places ++ place_after (place_of tree.places s) a ∷ [];
    count = place_count ∙ sym arc_count;
    ends = end_count ∙ sym arc_count;
    some = omega (arith, arc_count);
    root = place_old 0 tree.some ∙ tree.root;
    arcs = leads;
    comes = λ t m. comes t (omega (arith, m, arc_count));
    ordered = orders;
  }

  end_old : (t : ℕ) → t < length b.arcs → final_of (b.finals ++ last ∷ []) t ≡ final_of b.finals t
  end_old t m = get_or_append_left b.finals (last ∷ []) None t (rw tree.ends m)

  end_new : final_of (b.finals ++ last ∷ []) (length b.arcs) ≡ last
  end_new = get_or_push b.finals last None (length b.arcs) tree.ends

  -- what ends in the new state, or in one that was there
  end_cases : (x y : List ℕ) (w : ℕ) → TreeReads (grown b s row more last) x y w → TreeReads b x y w ⊎ ((last ≡ Some w) × (x ≡ (place_of tree.places s).0 ++ label a.input []) × (y ≡ (place_of tree.places s).1 ++ label a.output []))
  unfolding grown_tree
  end_cases x y w h =
      let e = ends_at (grown b s row more last) grown_tree x y w h in
      elim (cases_lt e.state (length b.arcs)) [
        | inl m ↦ inl (read_at b tree x y w (record {
          state = e.state;
          final = sym (end_old e.state m) ∙ e.final;
          input = e.input ∙ ap (λ (p : Place). p.0) (place_old e.state m);
          output = e.output ∙ ap (λ (p : Place). p.1) (place_old e.state m);
        }))
        | inr m ↦
            let inside : e.state < length (b.finals ++ last ∷ []) = end_within (b.finals ++ last ∷ []) e.state w e.final in
            let at : e.state ≡ length b.arcs = omega (arith, m, inside, end_count) in
            inr (
              sym end_new ∙ ap (final_of (b.finals ++ last ∷ [])) (sym at) ∙ e.final,
              e.input ∙ ap (λ z. (place_of (tree.places ++ place_after (place_of tree.places s) a ∷ []) z).0) at ∙ ap (λ (p : Place). p.0) place_new,
              e.output ∙ ap (λ z. (place_of (tree.places ++ place_after (place_of tree.places s) a ∷ []) z).1) at ∙ ap (λ (p : Place). p.1) place_new,
            )
      ]

  end_kept : (x y : List ℕ) (w : ℕ) → TreeReads b x y w → TreeReads (grown b s row more last) x y w
  unfolding grown_tree
  end_kept x y w h =
      let e = ends_at b tree x y w h in
      let m : e.state < length b.arcs = subst (λ n. e.state < n) tree.ends (end_within b.finals e.state w e.final) in
      read_at (grown b s row more last) grown_tree x y w (record {
        state = e.state;
        final = end_old e.state m ∙ e.final;
        input = e.input ∙ ap (λ (p : Place). p.0) (sym (place_old e.state m));
        output = e.output ∙ ap (λ (p : Place). p.1) (sym (place_old e.state m));
      })

  end_there : (w : ℕ) → last ≡ Some w → TreeReads (grown b s row more last) ((place_of tree.places s).0 ++ label a.input []) ((place_of tree.places s).1 ++ label a.output []) w
  unfolding grown_tree
  end_there w e = read_at (grown b s row more last) grown_tree ((place_of tree.places s).0 ++ label a.input []) ((place_of tree.places s).1 ++ label a.output []) w (record {
    state = length b.arcs;
    final = end_new ∙ e;
    input = ap (λ (p : Place). p.0) (sym place_new);
    output = ap (λ (p : Place). p.1) (sym place_new);
  })

  grown_under : (t : ℕ) → ((w : ℕ) → last ≡ Some w → w ≤ t) → Under t b → Under t (grown b s row more last)
  grown_under t f u = record {
    arcs = λ z k d h. let q = (leads z k d h).weight in omega (arith, q);
    ends = λ z w h. elim (cases_lt z (length b.arcs)) [
      | inl m ↦ u.ends z w (sym (end_old z m) ∙ h)
      | inr m ↦
          let inside : z < length (b.finals ++ last ∷ []) = end_within (b.finals ++ last ∷ []) z w h in
          let at : z ≡ length b.arcs = omega (arith, m, inside, end_count) in
          f w (sym end_new ∙ ap (final_of (b.finals ++ last ∷ [])) (sym at) ∙ h)
    ];
  }

  -- labels lead to the new state, where nothing ends
  pub grown_led : last ≡ None → Led b (grown b s row more last) s (label a.input []) (label a.output []) (length b.arcs)
  grown_led none = record {
    tree = grown_tree;
    within = omega (arith, arc_count);
    same = λ x y w. (λ h. elim (end_cases x y w h) [ inl q ↦ q | inr q ↦ (let no : None ≡ Some w = sym none ∙ q.0 in absurd (cc)) ], end_kept x y w);
    kept = grown_kept;
    there = grown_there;
    under = λ t u. grown_under t (λ w e. (let no : None ≡ Some w = sym none ∙ e in absurd (cc))) u;
  }

  -- what comes to the state ends in the new one
  pub grown_ended : (w : ℕ) → last ≡ Some w → a.input ≡ 0 → a.output ≡ 0 → Ended b (grown b s row more last) s w
  grown_ended w is e f = record {
    tree = grown_tree;
    reads = λ x y before u v z.
        let p = comes_place b tree before in
        let first : (place_of tree.places s).0 ++ label a.input [] ≡ x = ap (λ n. (place_of tree.places s).0 ++ label n []) e ∙ append-nil (place_of tree.places s).0 ∙ sym p.0 in
        let second : (place_of tree.places s).1 ++ label a.output [] ≡ y = ap (λ n. (place_of tree.places s).1 ++ label n []) f ∙ append-nil (place_of tree.places s).1 ∙ sym p.1 in (
          λ h. elim (end_cases u v z h) [
            | inl q ↦ inl q
            | inr q ↦ inr (record { reads = q.1 ∙ first; writes = q.2 ∙ second; weighs = (let same : Some w ≡ Some z = sym is ∙ q.0 in cc) })
          ],
          λ h. elim h [
            | inl q ↦ end_kept u v z q
            | inr q ↦
                let r = end_there z (is ∙ ap Some (sym q.weighs)) in
                subst (λ i. TreeReads (grown b s row more last) i v z) (first ∙ sym q.reads) (subst (λ i. TreeReads (grown b s row more last) ((place_of tree.places s).0 ++ label a.input []) i z) (second ∙ sym q.writes) r)
          ],
        );
    under = λ t u m. grown_under t (λ z g. (let same : w ≡ z = (let both : Some w ≡ Some z = sym is ∙ g in cc) in omega (arith, same, m))) u;
  }
