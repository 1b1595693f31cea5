-- Classes of labels by their steps.
use Rattle.std.proofs.Common.{◌≡◌, ℕ, zero, suc, ◌+◌, ◌<◌, List, [], ◌∷◌, ◌++◌, length, get_or, Some, refl, sym, ap, subst, ◌∙◌, inl, inr, arith}
use Rattle.std.specs.Prelude.{slice_get}
use Rattle.std.specs.List.{Contains}
use Rattle.std.proofs.lemmas.Bool.{cases_lt}
use Rattle.std.proofs.lemmas.List.{length-set, length_push, get_or_append_left, get_or_push}
use Rattle.std.proofs.lemmas.Option.{slice_get_within}
use Rattle.weighted_relations.specs.declared.Arc.{Arc}
use Rattle.weighted_relations.specs.Machines.{Machine, IsArc}
use Rattle.state_table.specs.Numbers.{Numbers}
use Rattle.state_table.proofs.Numbering.{keeps_refl, keeps_trans, numbers_keeps}
use Rattle.acceptor_ops.specs.StateSets.{with_element}
use Rattle.acceptor_ops.specs.Alike.{Classing, ArcTo, AreClasses, Step, StepsTo, AreSteps, RowNoted, AreNumbered}
use Rattle.acceptor_ops.proofs.Inputs.{none_in_nil}
use Rattle.acceptor_ops.proofs.Filling.{one_arc, element_there, element_kept, element_only}

-- one arc of a row after the other
pub noted_none : (s : ℕ) (row : List Arc) (pairs : List Step) (lists : List (List ℕ)) → RowNoted s row 0 pairs lists pairs lists
noted_none s row pairs lists = record {
  keeps = keeps_refl pairs;
  count = refl;
  kept = λ l n h. h;
  all = λ j a l. absurd (omega (arith, l));
  only = λ l n h. inl h;
}

pub noted_more : (s : ℕ) (row : List Arc) (k : ℕ) (old mid new : List Step) (lists more : List (List ℕ)) (a : Arc) (n : ℕ) → RowNoted s row k old lists mid more → slice_get row k ≡ Some a → a.input < length more → Numbers mid new (s, a.next) n → RowNoted s row (k + 1) old lists new (with_element more a.input n)
noted_more s row k old mid new lists more a n had there within add = record {
  keeps = keeps_trans had.keeps (numbers_keeps add);
  count = length-set more a.input (get_or more a.input [] ++ n ∷ []) ∙ had.count;
  kept = λ l i h. element_kept more a.input n l i within (had.kept l i h);
  all = λ j b l h. elim (cases_lt j k) [
    | inl low ↦ let r = had.all j b low h in (r.0, element_kept more a.input n b.input r.0 within r.1, (numbers_keeps add).kept r.0 (s, b.next) r.2)
    | inr high ↦
        let q : j ≡ k = omega arith in
        let same : b ≡ a = one_arc row k a b there (subst (λ i. slice_get row i ≡ Some b) q h) in
        subst (λ (d : Arc). (i : ℕ) × Contains (get_or (with_element more a.input n) d.input []) i × (slice_get new i ≡ Some (s, d.next))) (sym same) (n, element_there more a.input n within, add.stored)
  ];
  only = λ l i h. elim (element_only more a.input n l i within h) [
    | inl before ↦ elim (had.only l i before) [
      | inl first ↦ inl first
      | inr r ↦ inr (r.0, r.1, r.2, r.3, (numbers_keeps add).kept i (s, r.1.next) r.4)
    ]
    | inr q ↦ inr (k, a, there, q.0, ap (slice_get new) (sym q.1) ∙ add.stored)
  ];
}

-- one state after the other
pub steps_none : (m : Machine) (lists : List (List ℕ)) → length lists ≡ 258 → ((l : ℕ) → get_or lists l [] ≡ []) → StepsTo m 0 [] lists
steps_none m lists count none = record {
  count = count;
  each = λ l. record {
    all = λ s t low. absurd (omega (arith, low));
    only = λ n h. absurd (none_in_nil n (subst (λ v. Contains v n) (none l) h));
  };
}

pub steps_more : (m : Machine) (k : ℕ) (old new : List Step) (lists more : List (List ℕ)) → StepsTo m k old lists → RowNoted k (get_or m.arcs k []) (length (get_or m.arcs k [])) old lists new more → StepsTo m (k + 1) new more
steps_more m k old new lists more had add = record {
  count = add.count ∙ had.count;
  each = λ l. record {
    all = λ s t low lead. elim (cases_lt s k) [
      | inl below ↦ let r = (had.each l).all s t below lead in (r.0, add.kept l r.0 r.1, add.keeps.kept r.0 (s, t) r.2)
      | inr high ↦
          let q : s ≡ k = omega arith in
          let there : IsArc m.arcs k lead.place lead.arc = subst (λ n. IsArc m.arcs n lead.place lead.arc) q lead.there in
          let r = add.all lead.place lead.arc (slice_get_within (get_or m.arcs k []) lead.place lead.arc there) there in
          let at : slice_get new r.0 ≡ Some (s, t) = subst (λ n. slice_get new r.0 ≡ Some (n, t)) (sym q) (subst (λ n. slice_get new r.0 ≡ Some (k, n)) lead.next r.2) in
          (r.0, subst (λ n. Contains (get_or more n []) r.0) lead.input r.1, at)
    ];
    only = λ n h. elim (add.only l n h) [
      | inl before ↦ let r = (had.each l).only n before in (r.0, r.1, r.2, add.keeps.kept n (r.0, r.1) r.3)
      | inr r ↦ (k, r.1.next, record { place = r.0; arc = r.1; there = r.2; input = r.3; next = refl }, r.4)
    ];
  };
}

-- the classes of the first k lists, by the numbers that the lists have
pub record NumberedTo (lists : List (List ℕ)) (k : ℕ) (keys : List (List ℕ)) (of : List ℕ) : Type 0 where
  pub length : length of ≡ k
  pub at : (l : ℕ) → l < k → slice_get keys (get_or of l 0) ≡ Some (get_or lists l [])

pub numbered_none : (lists keys : List (List ℕ)) → NumberedTo lists 0 keys []
numbered_none lists keys = record { length = refl; at = λ l h. absurd (omega (arith, h)) }

pub numbered_more : (lists : List (List ℕ)) (k : ℕ) (old new : List (List ℕ)) (of : List ℕ) (n : ℕ) → NumberedTo lists k old of → Numbers old new (get_or lists k []) n → NumberedTo lists (k + 1) new (of ++ n ∷ [])
numbered_more lists k old new of n had add =
    let count : length of ≡ k = had.length in
    record {
      length = length_push of n ∙ ap (λ i. i + 1) count;
      at = λ l h. elim (cases_lt l k) [
        | inl low ↦ ap (slice_get new) (get_or_append_left of (n ∷ []) 0 l (omega arith)) ∙ (numbers_keeps add).kept (get_or of l 0) (get_or lists l []) (had.at l low)
        | inr high ↦
            let q : l ≡ k = omega arith in
            ap (slice_get new) (get_or_push of n 0 l (omega arith)) ∙ add.stored ∙ ap (λ i. Some (get_or lists i [])) (sym q)
      ];
    }

pub numbered : (lists : List (List ℕ)) (k : ℕ) (keys : List (List ℕ)) (of : List ℕ) → NumberedTo lists k keys of → AreNumbered lists k (record { classes = of; count = length keys })
numbered lists k keys of had = record {
  length = had.length;
  within = λ l h. slice_get_within keys (get_or of l 0) (get_or lists l []) (had.at l h);
  alike = λ l r h j e. let q : Some (get_or lists l []) ≡ Some (get_or lists r []) = sym (had.at l h) ∙ ap (slice_get keys) e ∙ had.at r j in cc;
}

row_within : (arcs : List (List Arc)) (s i : ℕ) (a : Arc) → slice_get (get_or arcs s []) i ≡ Some a → s < length arcs
row_within [] s i a h = absurd (cc)
row_within (row ∷ arcs) zero i a h = omega arith
row_within (row ∷ arcs) (suc s) i a h = let l : s < length arcs = row_within arcs s i a h in omega arith

same_step : (pairs : List Step) (n : ℕ) (p q : Step) → slice_get pairs n ≡ Some p → slice_get pairs n ≡ Some q → p ≡ q
same_step pairs n p q h j = let e : Some p ≡ Some q = sym h ∙ j in cc

-- labels of one class have the same steps
pub are_classes : (m : Machine) (lists : List (List ℕ)) (c : Classing) → AreSteps m lists → AreNumbered lists (length lists) c → AreClasses m c
are_classes m lists c steps classes =
    let count : length lists ≡ 258 = steps.1.count in
    record {
      length = classes.length ∙ count;
      within = λ l h. classes.within l (omega arith);
      alike = λ s l r t i j e lead.
          let same : get_or lists l [] ≡ get_or lists r [] = classes.alike l r (omega (arith, i.1)) (omega (arith, j.1)) e in
          let from = (steps.1.each l).all s t (row_within m.arcs s lead.place lead.arc lead.there) lead in
          let to = (steps.1.each r).only from.0 (subst (λ v. Contains v from.0) same from.1) in
          let q = same_step steps.0 from.0 (to.0, to.1) (s, t) to.3 from.2 in
          subst (λ n. ArcTo m n r t) (ap (λ (v : Step). v.0) q) (subst (ArcTo m to.0 r) (ap (λ (v : Step). v.1) q) to.2);
    }
