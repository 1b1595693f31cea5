-- What the steps of a tree that grows come to.
use Rattle.std.proofs.Common.{◌≡◌, ◌⊎◌, ◌<◌, ◌≤◌, ◌+◌, ◌^◌, ℕ, zero, suc, List, [], ◌∷◌, ◌++◌, length, get_or, set, take, Option, Some, None, Vec, Global, max, refl, sym, ap, subst, ◌∙◌, inl, inr, arith, append-nil, append_assoc, get_or-set_same, get_or-set_other}
use Rattle.std.specs.Prelude.{slice_get, All, fold}
use Rattle.std.specs.List.{insert}
use Rattle.std.proofs.lemmas.Bool.{cases_lt, cases_eq}
use Rattle.std.proofs.lemmas.Option.{slice_get_within, slice_get-get_or, get_or_from_slice_get}
use Rattle.std.proofs.lemmas.List.{length-set, take_more, take_all, length-map, get_or_read}
use Rattle.weighted_relations.specs.declared.Arc.{Arc}
use Rattle.weighted_relations.specs.Graphs.{label}
use Rattle.weighted_relations.specs.Relations.{Same, Either, Nothing, AnyOf, IsLabel}
use Rattle.weighted_relations.specs.RelationLaws.{same_refl, same_trans, same_either}
use Rattle.weighted_relations.specs.Machines.{Machine, IsArc, Reads, WellFormed, final_of}
use Rattle.fst_core.specs.States.{States, as_machine}
use Rattle.fst_core.specs.Top.{Under, greatest, top_of}
use Rattle.fst_core.specs.Turned.{InRow}
use Rattle.fst_core.proofs.Tops.{top_under}
use Rattle.lexicon_trees.specs.declared.entries.Entry.{Entry}
use Rattle.lexicon_trees.specs.declared.trees.Way.{Way}
use Rattle.lexicon_trees.specs.declared.trees.Way.TheVariants.{Copied, Read, Written}
use Rattle.lexicon_trees.specs.Entries.{One, ReadsEntry, IsEntry}
use Rattle.lexicon_trees.specs.Shapes.{Before, IsOrdered}
use Rattle.lexicon_trees.specs.Growing.{TreeReads, Comes, here, on, place_of, first_place, IsTree, one_state, grown, head_of, Led, Ended, Added, LeadsTo, FitsAt, read_of, written_of, all_read, all_written}
use Rattle.lexicon_trees.proofs.RowEdits.{inserted, kept_in, only_in, insert_ordered, as_before}
use Rattle.lexicon_trees.proofs.RowsHeld.{rows_of, states, row_is}
use Rattle.lexicon_trees.proofs.TreePlaces.{comes_place, ends_at, read_at}
use Rattle.lexicon_trees.proofs.Growth.{Branches, grown_led, grown_ended}

-- the row of a state, as the code has it
pub row_there : (rows : List (Vec Arc Global)) (finals : List (Option ℕ)) (b : States) (s : ℕ) (v : Vec Arc Global) (r : List Arc) → states (rows_of rows) finals ≡ b → s < length b.arcs → v ≡ get_or rows s v → r ≡ v.items → r ≡ get_or b.arcs s []
row_there rows finals b s v r e l f g =
    let m : s < length rows = subst (λ n. s < n) (ap (λ (c : States). length c.arcs) (sym e) ∙ length-map rows (λ (v : Vec Arc Global). v.items)) l in
    g ∙ row_is rows s v m f ∙ ap (λ (c : States). get_or c.arcs s []) e

-- the final weight of a state, as the code has it
pub final_there : (rows : List (List Arc)) (finals : List (Option ℕ)) (b : States) (s : ℕ) (o : Option ℕ) → states rows finals ≡ b → length b.finals ≡ length b.arcs → s < length b.arcs → o ≡ get_or finals s o → final_of b.finals s ≡ o
final_there rows finals b s o e count l f =
    let same : finals ≡ b.finals = ap (λ (c : States). c.finals) e in
    let m : s < length finals = subst (λ n. s < n) (sym (ap length same ∙ count)) l in
    ap (λ z. final_of z s) (sym same) ∙ sym (get_or_read finals s o m f None)

-- Steps

comes_as : (arcs : List (List Arc)) (s t : ℕ) (x y x' y' : List ℕ) → s ≡ t → x ≡ x' → y ≡ y' → Comes arcs s x y → Comes arcs t x' y'
comes_as arcs s t x y x' y' e f g h = subst (λ z. Comes arcs z x' y') e (subst (λ z. Comes arcs s z y') f (subst (λ z. Comes arcs s x z) g h))

pub found_led : (b : States) (s i o next : ℕ) (row : List Arc) → IsTree b → row ≡ get_or b.arcs s [] → LeadsTo row i o next → Led b b s (label i []) (label o []) next
found_led b s i o next row tree e h =
    let there : IsArc b.arcs s h.place h.arc = ap (λ z. slice_get z h.place) (sym e) ∙ h.there in
    let leads = tree.arcs s h.place h.arc there in
    record {
      tree = tree;
      within = omega (arith, leads.next, tree.count, h.leads);
      same = same_refl (TreeReads b);
      kept = λ t u v c. c;
      there = λ u v c. comes_as b.arcs h.arc.next next (u ++ label h.arc.input []) (v ++ label h.arc.output []) (u ++ label i []) (v ++ label o []) h.leads (ap (λ n. u ++ label n []) h.input) (ap (λ n. v ++ label n []) h.output) (on h.place h.arc c there);
      under = λ t u. u;
    }

branch_made : (row : List Arc) (a : Arc) (place : ℕ) → IsOrdered row → FitsAt row a.input a.output place → Branches row (insert row place a) [] a
branch_made row a place h fits = record {
  only = λ k d e. only_in row place a k d fits.within e;
  there = inserted row place a fits.within;
  kept = λ k d e. inl (kept_in row place a k d fits.within e);
  further = λ k d e. absurd (cc);
  ordered = insert_ordered row place a h fits;
  more_ordered = record { before = λ j k c d l e f. absurd (cc) };
}

pub branch_led : (b new : States) (s i o next place : ℕ) (row : List Arc) → IsTree b → s < length b.arcs → i ≤ 257 → o ≤ 257 → next ≡ length b.arcs → row ≡ get_or b.arcs s [] → FitsAt row i o place → new ≡ grown b s (insert (get_or b.arcs s []) place (record { input = i; output = o; weight = 0; next = next })) [] None → Led b new s (label i []) (label o []) next
branch_led b new s i o next place row tree l li lo e f fits g =
    let a : Arc = record { input = i; output = o; weight = 0; next = next } in
    let fits_row : FitsAt (get_or b.arcs s []) i o place = subst (λ r. FitsAt r i o place) f fits in
    let led = grown_led b tree s (insert (get_or b.arcs s []) place a) [] None a l e refl li lo (branch_made (get_or b.arcs s []) a place (tree.ordered s) fits_row) refl in
    subst (λ n. Led b new s (label i []) (label o []) n) (sym e) (subst (λ z. Led b z s (label i []) (label o []) (length b.arcs)) (sym g) led)

pub branch_ended : (b new : States) (s w next place : ℕ) (row : List Arc) → IsTree b → s < length b.arcs → next ≡ length b.arcs → row ≡ get_or b.arcs s [] → FitsAt row 0 0 place → new ≡ grown b s (insert (get_or b.arcs s []) place (record { input = 0; output = 0; weight = 0; next = next })) [] (Some w) → Ended b new s w
branch_ended b new s w next place row tree l e f fits g =
    let a : Arc = record { input = 0; output = 0; weight = 0; next = next } in
    let fits_row : FitsAt (get_or b.arcs s []) 0 0 place = subst (λ r. FitsAt r 0 0 place) f fits in
    let ended = grown_ended b tree s (insert (get_or b.arcs s []) place a) [] (Some w) a l e refl (omega arith) (omega arith) (branch_made (get_or b.arcs s []) a place (tree.ordered s) fits_row) w refl refl refl in
    subst (λ z. Ended b z s w) (sym g) ended

-- an arc without labels comes before all others
first_empty : (x : Arc) (rest : List Arc) (next : ℕ) → IsOrdered (x ∷ rest) → LeadsTo (x ∷ rest) 0 0 next → (x.input ≡ 0) × (x.output ≡ 0)
first_empty x rest next h leads = elim (cases_lt 0 leads.place) [
  | inl l ↦
      let b = h.before 0 leads.place x leads.arc l refl leads.there in
      absurd (elim b [ inl m ↦ omega (arith, m, leads.input) | inr m ↦ omega (arith, m.1, leads.output) ])
  | inr l ↦
      let at : leads.place ≡ 0 = omega (arith, l) in
      let same : x ≡ leads.arc = (let both : Some x ≡ Some leads.arc = ap (slice_get (x ∷ rest)) (sym at) ∙ leads.there in cc) in
      (ap (λ (z : Arc). z.input) same ∙ leads.input, ap (λ (z : Arc). z.output) same ∙ leads.output)
]

round_only : (x : Arc) (rest : List Arc) (a : Arc) (k : ℕ) (d : Arc) → slice_get (a ∷ rest) k ≡ Some d → InRow (x ∷ rest) d ⊎ (d ≡ a)
round_only x rest a zero d e = inr (let same : a ≡ d = cc in sym same)
round_only x rest a (suc k) d e = inl (suc k, e)

round_kept : (x : Arc) (rest : List Arc) (a : Arc) (k : ℕ) (d : Arc) → slice_get (x ∷ rest) k ≡ Some d → InRow (a ∷ rest) d ⊎ InRow (x ∷ []) d
round_kept x rest a zero d e = inr (0, e)
round_kept x rest a (suc k) d e = inl (suc k, e)

round_before : (x : Arc) (rest : List Arc) (a : Arc) → IsOrdered (x ∷ rest) → x.input ≡ a.input → x.output ≡ a.output → (j k : ℕ) (c d : Arc) → j < k → slice_get (a ∷ rest) j ≡ Some c → slice_get (a ∷ rest) k ≡ Some d → Before c.input c.output d.input d.output
round_before x rest a h f g zero zero c d l m n = absurd (omega (arith, l))
round_before x rest a h f g zero (suc k) c d l m n =
    let same : a ≡ c = cc in
    as_before x.input x.output c.input c.output d.input d.output (f ∙ ap (λ (z : Arc). z.input) same) (g ∙ ap (λ (z : Arc). z.output) same) (h.before 0 (suc k) x d l refl n)
round_before x rest a h f g (suc j) zero c d l m n = absurd (omega (arith, l))
round_before x rest a h f g (suc j) (suc k) c d l m n = h.before (suc j) (suc k) c d l m n

one_before : (x : Arc) (j k : ℕ) (c d : Arc) → j < k → slice_get (x ∷ []) k ≡ Some d → ⊥
one_before x j zero c d l n = omega (arith, l)
one_before x j (suc k) c d l n = absurd (cc)

round_made : (row : List Arc) (a : Arc) (next : ℕ) → IsOrdered row → LeadsTo row 0 0 next → a.input ≡ 0 → a.output ≡ 0 → Branches row (set row 0 a) (head_of row) a
round_made [] a next h leads e f = absurd (let no = leads.there in cc)
round_made (x ∷ rest) a next h leads e f =
    let p = first_empty x rest next h leads in
    record {
      only = round_only x rest a;
      there = (0, refl);
      kept = round_kept x rest a;
      further = λ k d g. (
        elim (cases_lt 0 k) [
          | inl l ↦ absurd (one_before x 0 k d d l g)
          | inr l ↦ (0, ap (slice_get (x ∷ [])) (let at : 0 ≡ k = omega (arith, l) in at) ∙ g)
        ],
        e,
        f,
      );
      ordered = record { before = round_before x rest a h (p.0 ∙ sym e) (p.1 ∙ sym f) };
      more_ordered = record { before = λ j k c d l m n. absurd (one_before x j k c d l n) };
    }

pub round_ended : (b new : States) (s w next old : ℕ) (row : List Arc) → IsTree b → s < length b.arcs → next ≡ length b.arcs → row ≡ get_or b.arcs s [] → LeadsTo row 0 0 old → new ≡ grown b s (set (get_or b.arcs s []) 0 (record { input = 0; output = 0; weight = 0; next = next })) (head_of (get_or b.arcs s [])) (Some w) → Ended b new s w
round_ended b new s w next old row tree l e f leads g =
    let a : Arc = record { input = 0; output = 0; weight = 0; next = next } in
    let leads_row : LeadsTo (get_or b.arcs s []) 0 0 old = subst (λ r. LeadsTo r 0 0 old) f leads in
    let ended = grown_ended b tree s (set (get_or b.arcs s []) 0 a) (head_of (get_or b.arcs s [])) (Some w) a l e refl (omega arith) (omega arith) (round_made (get_or b.arcs s []) a old (tree.ordered s) leads_row refl refl) w refl refl refl in
    subst (λ z. Ended b z s w) (sym g) ended

-- Ends

pub ended_same : (b : States) (s w : ℕ) → IsTree b → final_of b.finals s ≡ Some w → Ended b b s w
ended_same b s w tree e = record {
  tree = tree;
  reads = λ x y before u v z. (
    λ h. inl h,
    λ h. elim h [
      | inl q ↦ q
      | inr q ↦
          let p = comes_place b tree before in
          read_at b tree u v z (record { state = s; final = e ∙ ap Some (sym q.weighs); input = q.reads ∙ p.0; output = q.writes ∙ p.1 })
    ],
  );
  under = λ t u l. u;
}

module _ (b : States) (s w : ℕ) (tree : IsTree b) (l : s < length b.arcs) (none : final_of b.finals s ≡ None) where
  ended_tree : IsTree (record { arcs = b.arcs; finals = set b.finals s (Some w) })
  ended_tree = record {
    places = tree.places;
    count = tree.count;
    ends = length-set b.finals s (Some w) ∙ tree.ends;
    some = tree.some;
    root = tree.root;
    arcs = tree.arcs;
    comes = tree.comes;
    ordered = tree.ordered;
  }

  end_here : final_of (set b.finals s (Some w)) s ≡ Some w
  end_here = get_or-set_same b.finals s (Some w) None (rw tree.ends l)

  end_other : (t : ℕ) → (t ≡ s → ⊥) → final_of (set b.finals s (Some w)) t ≡ final_of b.finals t
  end_other t ne = get_or-set_other b.finals s t (Some w) None ne

  ended_to : (x y : List ℕ) → Comes b.arcs s x y → (u v : List ℕ) (z : ℕ) → TreeReads (record { arcs = b.arcs; finals = set b.finals s (Some w) }) u v z → TreeReads b u v z ⊎ One x y w u v z
  unfolding ended_tree
  ended_to x y before u v z h =
      let e = ends_at (record { arcs = b.arcs; finals = set b.finals s (Some w) }) ended_tree u v z h in
      elim (cases_eq e.state s) [
        | inl q ↦
            let p = comes_place b tree before in
            inr (record {
              reads = e.input ∙ ap (λ n. (place_of tree.places n).0) q ∙ sym p.0;
              writes = e.output ∙ ap (λ n. (place_of tree.places n).1) q ∙ sym p.1;
              weighs = (let same : Some w ≡ Some z = sym end_here ∙ ap (final_of (set b.finals s (Some w))) (sym q) ∙ e.final in cc);
            })
        | inr q ↦ inl (read_at b tree u v z (record { state = e.state; final = sym (end_other e.state q) ∙ e.final; input = e.input; output = e.output }))
      ]

  ended_from : (x y : List ℕ) → Comes b.arcs s x y → (u v : List ℕ) (z : ℕ) → TreeReads b u v z ⊎ One x y w u v z → TreeReads (record { arcs = b.arcs; finals = set b.finals s (Some w) }) u v z
  unfolding ended_tree
  ended_from x y before u v z h = elim h [
    | inl q ↦
        let e = ends_at b tree u v z q in
        elim (cases_eq e.state s) [
          | inl r ↦ absurd (let no : None ≡ Some z = sym none ∙ ap (final_of b.finals) (sym r) ∙ e.final in cc)
          | inr r ↦ read_at (record { arcs = b.arcs; finals = set b.finals s (Some w) }) ended_tree u v z (record { state = e.state; final = end_other e.state r ∙ e.final; input = e.input; output = e.output })
        ]
    | inr q ↦
        let p = comes_place b tree before in
        read_at (record { arcs = b.arcs; finals = set b.finals s (Some w) }) ended_tree u v z (record { state = s; final = end_here ∙ ap Some (sym q.weighs); input = q.reads ∙ p.0; output = q.writes ∙ p.1 })
  ]

  pub ended_first : Ended b (record { arcs = b.arcs; finals = set b.finals s (Some w) }) s w
  ended_first = record {
    tree = ended_tree;
    reads = λ x y before u v z. (ended_to x y before u v z, ended_from x y before u v z);
    under = λ t u m. record {
      arcs = u.arcs;
      ends = λ z v e. elim (cases_eq z s) [
        | inl q ↦ (let same : w ≡ v = (let both : Some w ≡ Some v = sym end_here ∙ ap (final_of (set b.finals s (Some w))) (sym q) ∙ e in cc) in omega (arith, same, m))
        | inr q ↦ u.ends z v (sym (end_other z q) ∙ e)
      ];
    };
  }

-- Walks

read_none : (way : Way) → all_read way [] ≡ []
read_none Copied = refl
read_none Read = refl
read_none Written = refl

written_none : (way : Way) → all_written way [] ≡ []
written_none Copied = refl
written_none Read = refl
written_none Written = refl

one_label : (n : ℕ) → IsLabel n → label n [] ≡ n ∷ []
one_label zero h = absurd (omega (arith, h.0))
one_label (suc n) h = refl

read_more : (way : Way) (x : List ℕ) (n : ℕ) → IsLabel n → all_read way x ++ label (read_of way n) [] ≡ all_read way (x ++ n ∷ [])
read_more Copied x n h = ap (λ z. x ++ z) (one_label n h)
read_more Read x n h = ap (λ z. x ++ z) (one_label n h)
read_more Written x n h = refl

written_more : (way : Way) (x : List ℕ) (n : ℕ) → IsLabel n → all_written way x ++ label (written_of way n) [] ≡ all_written way (x ++ n ∷ [])
written_more Copied x n h = ap (λ z. x ++ z) (one_label n h)
written_more Read x n h = refl
written_more Written x n h = ap (λ z. x ++ z) (one_label n h)

led_as : (b c : States) (s : ℕ) (x y x' y' : List ℕ) (t : ℕ) → x ≡ x' → y ≡ y' → Led b c s x y t → Led b c s x' y' t
led_as b c s x y x' y' t e f h = subst (λ z. Led b c s z y' t) e (subst (λ z. Led b c s x z t) f h)

pub led_join : (b c d : States) (s : ℕ) (x y x' y' : List ℕ) (t n : ℕ) → Led b c s x y t → Led c d t x' y' n → Led b d s (x ++ x') (y ++ y') n
led_join b c d s x y x' y' t n f g = record {
  tree = g.tree;
  within = g.within;
  same = same_trans (TreeReads d) (TreeReads c) (TreeReads b) g.same f.same;
  kept = λ r u v h. g.kept r u v (f.kept r u v h);
  there = λ u v h. comes_as d.arcs n n ((u ++ x) ++ x') ((v ++ y) ++ y') (u ++ (x ++ x')) (v ++ (y ++ y')) refl (append_assoc u x x') (append_assoc v y y') (g.there (u ++ x) (v ++ y) (f.there u v h));
  under = λ r u. g.under r (f.under r u);
}

pub led_none : (b : States) (s : ℕ) (way : Way) → IsTree b → s < length b.arcs → Led b b s (all_read way []) (all_written way []) s
led_none b s way tree l = led_as b b s [] [] (all_read way []) (all_written way []) s (sym (read_none way)) (sym (written_none way)) (record {
  tree = tree;
  within = l;
  same = same_refl (TreeReads b);
  kept = λ t u v h. h;
  there = λ u v h. comes_as b.arcs s s u v (u ++ []) (v ++ []) refl (sym (append-nil u)) (sym (append-nil v)) h;
  under = λ t u. u;
})

pub led_more : (b c d : States) (s t n i x m k : ℕ) (way : Way) (labels : List ℕ) → All IsLabel labels → i < length labels → x ≡ get_or labels i 0 → m ≡ read_of way x → k ≡ written_of way x → Led b c s (all_read way (take i labels)) (all_written way (take i labels)) t → Led c d t (label m []) (label k []) n → Led b d s (all_read way (take (i + 1) labels)) (all_written way (take (i + 1) labels)) n
led_more b c d s t n i x m k way labels all l e em ek f g =
    let is_label : IsLabel x = subst IsLabel (sym e) (all i 0 l) in
    let more : take i labels ++ x ∷ [] ≡ take (i + 1) labels = ap (λ z. take i labels ++ z ∷ []) e ∙ sym (take_more labels i 0 l) in
    led_as b d s (all_read way (take i labels) ++ label m []) (all_written way (take i labels) ++ label k []) (all_read way (take (i + 1) labels)) (all_written way (take (i + 1) labels)) n
    (ap (λ z. all_read way (take i labels) ++ label z []) em ∙ read_more way (take i labels) x is_label ∙ ap (all_read way) more)
    (ap (λ z. all_written way (take i labels) ++ label z []) ek ∙ written_more way (take i labels) x is_label ∙ ap (all_written way) more)
    (led_join b c d s (all_read way (take i labels)) (all_written way (take i labels)) (label m []) (label k []) t n f g)

-- Entries

pub added_here : (b c d : States) (x y : List ℕ) (t : ℕ) (e : Entry) → Led b c 0 x y t → x ≡ e.input.items → y ≡ e.output.items → Ended c d t e.weight → Added b d e
added_here b c d x y t e f p q g =
    let comes : Comes c.arcs t x y = f.there [] [] here in
    let reads = g.reads x y comes in
    record {
      tree = g.tree;
      reads = subst (λ z. Same (TreeReads d) (Either (TreeReads b) (One z e.output.items e.weight))) p (subst (λ z. Same (TreeReads d) (Either (TreeReads b) (One x z e.weight))) q
          (same_trans (TreeReads d) (Either (TreeReads c) (One x y e.weight)) (Either (TreeReads b) (One x y e.weight)) reads (same_either (TreeReads c) (One x y e.weight) (TreeReads b) (One x y e.weight) f.same (same_refl (One x y e.weight)))));
      under = λ r u l. g.under r (f.under r u) l;
    }

-- no entry

no_arcs : (s k : ℕ) (a : Arc) → IsArc ([] ∷ []) s k a → ⊥
no_arcs zero k a e = cc
no_arcs (suc s) k a e = cc

no_ends : (s w : ℕ) → final_of (None ∷ []) s ≡ Some w → ⊥
no_ends zero w e = cc
no_ends (suc s) w e = cc

pub first_tree : IsTree one_state
first_tree = record {
  places = first_place ∷ [];
  count = refl;
  ends = refl;
  some = omega arith;
  root = refl;
  arcs = λ s k a e. absurd (no_arcs s k a e);
  comes = λ s l. (let e : s ≡ 0 = omega (arith, l) in subst (λ z. Comes ([] ∷ []) z (place_of (first_place ∷ []) z).0 (place_of (first_place ∷ []) z).1) (sym e) here);
  ordered = λ s. record { before = λ j k a b l e f. absurd (no_arcs s j a e) };
}

pub first_reads : Same (TreeReads one_state) Nothing
first_reads x y w = (λ h. (let e = ends_at one_state first_tree x y w h in no_ends e.state w e.final), λ h. absurd h)

pub first_under : (t : ℕ) → Under t one_state
first_under t = record { arcs = λ s k a e. absurd (no_arcs s k a e); ends = λ s w e. absurd (no_ends s w e) }

-- Weights

module _ {A : Type 0} (f : A → ℕ) where
  fold_above : (xs : List A) (s : ℕ) → s ≤ fold (λ t x. max t (f x)) s xs
  fold_above [] s = omega arith
  fold_above (x ∷ xs) s = let q : max s (f x) ≤ fold (λ t x. max t (f x)) (max s (f x)) xs = fold_above xs (max s (f x)) in omega arith

  fold_each : (xs : List A) (s k : ℕ) (x : A) → slice_get xs k ≡ Some x → f x ≤ fold (λ t x. max t (f x)) s xs
  fold_each [] s k x h = absurd (cc)
  fold_each (y ∷ xs) s zero x h =
      let e : f y ≡ f x = (let same : y ≡ x = cc in ap f same) in
      let q : max s (f y) ≤ fold (λ t x. max t (f x)) (max s (f y)) xs = fold_above xs (max s (f y)) in
      omega arith
  fold_each (y ∷ xs) s (suc k) x h = fold_each xs (max s (f y)) k x h

  fold_below : (xs : List A) (s t : ℕ) → s < t → ((k : ℕ) (x : A) → slice_get xs k ≡ Some x → f x < t) → fold (λ t x. max t (f x)) s xs < t
  fold_below [] s t l h = l
  fold_below (x ∷ xs) s t l h = fold_below xs (max s (f x)) t (let q : f x < t = h 0 x refl in omega arith) (λ k y e. h (suc k) y e)

pub weight_under : (es : List Entry) (i : ℕ) (e : Entry) → i < length es → e ≡ get_or es i e → e.weight ≤ greatest (λ (z : Entry). z.weight) es
weight_under es i e l g = fold_each (λ (z : Entry). z.weight) es 0 i e (slice_get-get_or es i e l ∙ ap Some (sym g))

pub weights_below : (es : List Entry) → All IsEntry es → greatest (λ (z : Entry). z.weight) es < 2 ^ 54
weights_below es h = fold_below (λ (z : Entry). z.weight) es 0 (2 ^ 54) (omega arith) (λ k e g. (subst (λ z. z.weight < 2 ^ 54) (get_or_from_slice_get es k e e g) (h k e (slice_get_within es k e g)).weight))

pub tree_sound : (b : States) (t : ℕ) → IsTree b → Under t b → t < 2 ^ 54 → WellFormed (as_machine 0 b)
tree_sound b t tree under l = record {
  finals = tree.ends;
  start = tree.some;
  arcs = λ s k a e. (let q = tree.arcs s k a e in record { input = q.input; output = q.output; weight = omega (arith, q.weight); next = omega (arith, q.next, tree.count) });
  weights = λ s w e. omega (arith, under.ends s w e, l);
}

pub all_entries : (es : List Entry) (i : ℕ) (b : States) (m : Machine) → length es ≤ i → m ≡ as_machine 0 b → Same (TreeReads b) (AnyOf ReadsEntry (take i es)) → Same (Reads m) (AnyOf ReadsEntry es)
all_entries es i b m l e h = subst (λ n. Same (Reads n) (AnyOf ReadsEntry es)) (sym e) (subst (λ z. Same (TreeReads b) (AnyOf ReadsEntry z)) (take_all i es l) h)

pub tree_top : (b : States) (m : Machine) (t : ℕ) → m ≡ as_machine 0 b → Under t b → top_of m ≤ t
tree_top b m t e h = subst (λ n. top_of n ≤ t) (sym e) (top_under (as_machine 0 b) t h)
