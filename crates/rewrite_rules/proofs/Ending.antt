-- The paths that were begun lead to the readings of the transducer.
use Rattle.std.proofs.Common.{◌≡◌, ◌⊎◌, ℕ, zero, suc, ◌+◌, ◌<◌, ◌≤◌, List, [], ◌∷◌, ◌++◌, length, get_or, Option, Some, None, refl, sym, ap, subst, ◌∙◌, inl, inr, arith, append_assoc, append-nil, add_assoc, zero-add}
use Rattle.std.specs.Prelude.{slice_get, All, IfSome, ◌^◌}
use Rattle.std.proofs.lemmas.Bool.{cases_lt}
use Rattle.std.proofs.lemmas.List.Elements.{All-nil, All-cons, All-append, All-push, All-pop}
use Rattle.std.proofs.lemmas.Option.{slice_get_within}
use Rattle.weighted_relations.specs.declared.Arc.{Arc}
use Rattle.weighted_relations.specs.Graphs.{label, stop, step}
use Rattle.weighted_relations.specs.Relations.{Relation, Same, Either, AnyOf, IsLabel}
use Rattle.weighted_relations.specs.RelationLaws.{any_push, same_trans, same_sym}
use Rattle.weighted_relations.specs.Machines.{Machine, Path, Reads, IsArc, final_of, WellFormed}
use Rattle.lexicon_trees.specs.declared.entries.Entry.{Entry}
use Rattle.lexicon_trees.specs.Entries.{One, ReadsEntry, IsEntry}
use Rattle.rewrite_rules.specs.Begun.{Continued, ReadsFrom, ReadsOn, IsWithin, IsBegun, IsArcOn, IsEnd, IsEndOn, Branched}
use Rattle.rewrite_rules.specs.declared.few_readings.Begun.{Begun}

pub label_after : (x0 : List ℕ) (n : ℕ) (x : List ℕ) → x0 ++ label n x ≡ (x0 ++ label n []) ++ x
label_after x0 zero x = ap (λ v. v ++ x) (sym (append-nil x0))
label_after x0 (suc n) x = sym (append_assoc x0 (suc n ∷ []) x)

label_labels : (n : ℕ) → n ≤ 257 → All IsLabel (label n [])
label_labels zero h = All-nil IsLabel
label_labels (suc n) h = All-cons IsLabel (suc n) [] (omega arith, h) (All-nil IsLabel)

-- what a path reads that goes on by one of the first k arcs of a state
pub record ByArc (m : Machine) (x0 y0 : List ℕ) (w0 : ℕ) (row : List Arc) (k : ℕ) (x y : List ℕ) (w : ℕ) : Type 0 where
  pub place : ℕ
  pub arc : Arc
  pub low : place < k
  pub there : slice_get row place ≡ Some arc
  pub goes : Continued m (x0 ++ label arc.input []) (y0 ++ label arc.output []) (w0 + arc.weight) arc.next x y w

abbrev pub Ended : List ℕ → List ℕ → ℕ → Option ℕ → Relation
Ended x0 y0 w0 None x y w = ⊥
Ended x0 y0 w0 (Some v) x y w = One x0 y0 (w0 + v) x y w

module _ (m : Machine) (x0 y0 : List ℕ) (w0 s : ℕ) where
  ended : (o : Option ℕ) → final_of m.finals s ≡ o → (v : ℕ) → final_of m.finals s ≡ Some v → Ended x0 y0 w0 o (x0 ++ []) (y0 ++ []) (w0 + v)
  ended None e v h = absurd (cc)
  ended (Some u) e v h = let q : v ≡ u = (let k : Some v ≡ Some u = sym h ∙ e in cc) in record { reads = append-nil x0; writes = append-nil y0; weighs = ap (λ n. w0 + n) q }

  -- a path ends here, or goes on by an arc
  path_cases : {ks x y : List ℕ} {w : ℕ} → Path m s ks x y w → Ended x0 y0 w0 (final_of m.finals s) (x0 ++ x) (y0 ++ y) (w0 + w) ⊎ ByArc m x0 y0 w0 (get_or m.arcs s []) (length (get_or m.arcs s [])) (x0 ++ x) (y0 ++ y) (w0 + w)
  path_cases (stop {w} h) = inl (ended (final_of m.finals s) refl w h)
  path_cases (step {k} {ks} {a} {x} {y} {w} h rest) = inr (record {
    place = k;
    arc = a;
    low = slice_get_within (get_or m.arcs s []) k a h;
    there = h;
    goes = record {
      input = x;
      output = y;
      more = w;
      reads = label_after x0 a.input x;
      writes = label_after y0 a.output y;
      weighs = sym (add_assoc w0 a.weight w);
      rest = (ks, rest);
    };
  })

  from_end : (o : Option ℕ) → final_of m.finals s ≡ o → (x y : List ℕ) (w : ℕ) → Ended x0 y0 w0 o x y w → Continued m x0 y0 w0 s x y w
  from_end None e x y w h = absurd h
  from_end (Some v) e x y w h = record {
    input = [];
    output = [];
    more = v;
    reads = h.reads ∙ sym (append-nil x0);
    writes = h.writes ∙ sym (append-nil y0);
    weighs = h.weighs;
    rest = ([], stop e);
  }

  from_arc : (k : ℕ) (x y : List ℕ) (w : ℕ) → ByArc m x0 y0 w0 (get_or m.arcs s []) k x y w → Continued m x0 y0 w0 s x y w
  from_arc k x y w h = record {
    input = label h.arc.input h.goes.input;
    output = label h.arc.output h.goes.output;
    more = h.arc.weight + h.goes.more;
    reads = h.goes.reads ∙ sym (label_after x0 h.arc.input h.goes.input);
    writes = h.goes.writes ∙ sym (label_after y0 h.arc.output h.goes.output);
    weighs = h.goes.weighs ∙ add_assoc w0 h.arc.weight h.goes.more;
    rest = (h.place ∷ h.goes.rest.0, step h.there h.goes.rest.1);
  }

  -- so a path reads what the path that ends and those that go on do
  pub continued : Same (Continued m x0 y0 w0 s) (Either (Ended x0 y0 w0 (final_of m.finals s)) (ByArc m x0 y0 w0 (get_or m.arcs s []) (length (get_or m.arcs s []))))
  continued x y w = (
    λ h. subst (λ v. Either (Ended x0 y0 w0 (final_of m.finals s)) (ByArc m x0 y0 w0 (get_or m.arcs s []) (length (get_or m.arcs s []))) x y v) (sym h.weighs)
        (subst (λ v. Either (Ended x0 y0 w0 (final_of m.finals s)) (ByArc m x0 y0 w0 (get_or m.arcs s []) (length (get_or m.arcs s []))) x v (w0 + h.more)) (sym h.writes)
        (subst (λ v. Either (Ended x0 y0 w0 (final_of m.finals s)) (ByArc m x0 y0 w0 (get_or m.arcs s []) (length (get_or m.arcs s []))) v (y0 ++ h.output) (w0 + h.more)) (sym h.reads)
        (path_cases h.rest.1))),
    elim [ inl h ↦ from_end (final_of m.finals s) refl x y w h | inr h ↦ from_arc (length (get_or m.arcs s [])) x y w h ],
  )

-- one more path
pub one_more : (m : Machine) (begun : List Begun) (b : Begun) (P Q T : Relation) → Same (AnyOf (ReadsOn m) begun) (Either P Q) → Same (ReadsOn m b) T → Same (AnyOf (ReadsOn m) (begun ++ b ∷ [])) (Either P (Either Q T))
one_more m begun b P Q T had is x y w = (
  λ h. elim ((any_push (ReadsOn m) begun b x y w).0 h) [
    | inl k ↦ elim ((had x y w).0 k) [ inl p ↦ inl p | inr q ↦ inr (inl q) ]
    | inr k ↦ inr (inr ((is x y w).0 k))
  ],
  λ h. (any_push (ReadsOn m) begun b x y w).1 (elim h [
    | inl p ↦ inl ((had x y w).1 (inl p))
    | inr k ↦ elim k [ inl q ↦ inl ((had x y w).1 (inr q)) | inr t ↦ inr ((is x y w).1 t) ]
  ]),
)

pub either_same : (P Q T : Relation) → Same Q T → Same (Either P Q) (Either P T)
either_same P Q T f x y w = (elim [ inl h ↦ inl h | inr h ↦ inr ((f x y w).0 h) ], elim [ inl h ↦ inl h | inr h ↦ inr ((f x y w).1 h) ])

read_as : (m : Machine) (b : Begun) (o : Option ℕ) → b.state ≡ o → Same (ReadsOn m b) (ReadsFrom m b.so_far o)
read_as m b o e x y w = (λ h. subst (λ v. ReadsFrom m b.so_far v x y w) e h, λ h. subst (λ v. ReadsFrom m b.so_far v x y w) (sym e) h)

-- the path that goes on by an arc reads what may follow it
pub arc_reads : (m : Machine) (e : Entry) (a : Arc) (b : Begun) → IsArcOn e a b → Same (ReadsOn m b) (Continued m (e.input.items ++ label a.input []) (e.output.items ++ label a.output []) (e.weight + a.weight) a.next)
arc_reads m e a b is =
    let same : Same (ReadsFrom m b.so_far (Some a.next)) (Continued m (e.input.items ++ label a.input []) (e.output.items ++ label a.output []) (e.weight + a.weight) a.next) = λ x y w. (
      λ h. subst (λ n. Continued m (e.input.items ++ label a.input []) (e.output.items ++ label a.output []) n a.next x y w) is.weight
          (subst (λ v. Continued m (e.input.items ++ label a.input []) v b.so_far.weight a.next x y w) is.output
          (subst (λ v. Continued m v b.so_far.output.items b.so_far.weight a.next x y w) is.input h)),
      λ h. subst (λ v. Continued m v b.so_far.output.items b.so_far.weight a.next x y w) (sym is.input)
          (subst (λ v. Continued m (e.input.items ++ label a.input []) v b.so_far.weight a.next x y w) (sym is.output)
          (subst (λ n. Continued m (e.input.items ++ label a.input []) (e.output.items ++ label a.output []) n a.next x y w) (sym is.weight) h)),
    ) in
    same_trans (ReadsOn m b) (ReadsFrom m b.so_far (Some a.next)) (Continued m (e.input.items ++ label a.input []) (e.output.items ++ label a.output []) (e.weight + a.weight) a.next) (read_as m b (Some a.next) is.state) same

pub arc_begun : (m : Machine) (s k : ℕ) (e : Entry) (a : Arc) (b : Begun) → WellFormed m → IsArc m.arcs s k a → All IsLabel e.input.items → All IsLabel e.output.items → IsArcOn e a b → IsBegun m b
arc_begun m s k e a b sound there input output is =
    let fits = sound.arcs s k a there in
    record {
      input = subst (All IsLabel) (sym is.input) (All-append IsLabel e.input.items (label a.input []) input (label_labels a.input fits.input));
      output = subst (All IsLabel) (sym is.output) (All-append IsLabel e.output.items (label a.output []) output (label_labels a.output fits.output));
      within = subst (IsWithin m) (sym is.state) fits.next;
    }

-- the path that ends reads what it has read
end_reads : (m : Machine) (e : Entry) (v : ℕ) (b : Begun) → IsEnd e v b → Same (ReadsOn m b) (One e.input.items e.output.items (e.weight + v))
end_reads m e v b is x y w = (
  λ h.
      let r = (read_as m b None is.state x y w).0 h in
      record { reads = r.reads ∙ is.input; writes = r.writes ∙ is.output; weighs = r.weighs ∙ is.weight },
  λ h. (read_as m b None is.state x y w).1 (record { reads = h.reads ∙ sym is.input; writes = h.writes ∙ sym is.output; weighs = h.weighs ∙ sym is.weight }),
)

pub ended_reads : (m : Machine) (e : Entry) (o : Option ℕ) (old new : List Begun) → IsEndOn e o old new → Same (AnyOf (ReadsOn m) new) (Either (AnyOf (ReadsOn m) old) (Ended e.input.items e.output.items e.weight o))
ended_reads m e None old new is x y w = (
  λ h. inl (subst (λ v. AnyOf (ReadsOn m) v x y w) is h),
  elim [ inl h ↦ subst (λ v. AnyOf (ReadsOn m) v x y w) (sym is) h | inr h ↦ absurd h ],
)
ended_reads m e (Some v) old new (b, is, at) x y w = (
  λ h. elim ((any_push (ReadsOn m) old b x y w).0 (subst (λ v. AnyOf (ReadsOn m) v x y w) at h)) [ inl k ↦ inl k | inr k ↦ inr ((end_reads m e v b is x y w).0 k) ],
  λ h. subst (λ v. AnyOf (ReadsOn m) v x y w) (sym at) ((any_push (ReadsOn m) old b x y w).1 (elim h [ inl k ↦ inl k | inr k ↦ inr ((end_reads m e v b is x y w).1 k) ])),
)

pub ended_begun : (m : Machine) (e : Entry) (o : Option ℕ) (old new : List Begun) → All IsLabel e.input.items → All IsLabel e.output.items → IsEndOn e o old new → All (IsBegun m) old → All (IsBegun m) new
ended_begun m e None old new input output is h = subst (All (IsBegun m)) (sym is) h
ended_begun m e (Some v) old new input output (b, is, at) h =
    subst (All (IsBegun m)) (sym at) (All-push (IsBegun m) old b h (record {
      input = subst (All IsLabel) (sym is.input) input;
      output = subst (All IsLabel) (sym is.output) output;
      within = subst (IsWithin m) (sym is.state) tt;
    }))

-- the paths after the one that ends here, and those by the first k arcs
pub record BranchedTo (m : Machine) (s : ℕ) (e : Entry) (k : ℕ) (old new : List Begun) : Type 0 where
  pub reads : Same (AnyOf (ReadsOn m) new) (Either (AnyOf (ReadsOn m) old) (Either (Ended e.input.items e.output.items e.weight (final_of m.finals s)) (ByArc m e.input.items e.output.items e.weight (get_or m.arcs s []) k)))
  pub begun : All (IsBegun m) old → All (IsBegun m) new

module _ (m : Machine) (s : ℕ) (e : Entry) (input : All IsLabel e.input.items) (output : All IsLabel e.output.items) where
  abbrev Ends : Relation
  Ends = Ended e.input.items e.output.items e.weight (final_of m.finals s)

  abbrev Goes : ℕ → Relation
  Goes = ByArc m e.input.items e.output.items e.weight (get_or m.arcs s [])

  no_arc : Same Ends (Either Ends (Goes 0))
  no_arc x y w = (λ h. inl h, elim [ inl h ↦ h | inr h ↦ absurd (let l : h.place < 0 = h.low in omega arith) ])

  pub branched_none : (old new : List Begun) → IsEndOn e (final_of m.finals s) old new → BranchedTo m s e 0 old new
  branched_none old new is = record {
    reads = same_trans (AnyOf (ReadsOn m) new) (Either (AnyOf (ReadsOn m) old) Ends) (Either (AnyOf (ReadsOn m) old) (Either Ends (Goes 0))) (ended_reads m e (final_of m.finals s) old new is) (either_same (AnyOf (ReadsOn m) old) Ends (Either Ends (Goes 0)) no_arc);
    begun = ended_begun m e (final_of m.finals s) old new input output is;
  }

  module _ (k : ℕ) (a : Arc) (there : slice_get (get_or m.arcs s []) k ≡ Some a) where
    abbrev Next : Relation
    Next = Continued m (e.input.items ++ label a.input []) (e.output.items ++ label a.output []) (e.weight + a.weight) a.next

    one_arc : Same (Either (Either Ends (Goes k)) Next) (Either Ends (Goes (k + 1)))
    one_arc x y w = (
      elim [
        | inl h ↦ elim h [ inl i ↦ inl i | inr i ↦ inr (record { place = i.place; arc = i.arc; low = (let l : i.place < k = i.low in omega arith); there = i.there; goes = i.goes }) ]
        | inr h ↦ inr (record { place = k; arc = a; low = omega arith; there = there; goes = h })
      ],
      elim [
        | inl h ↦ inl (inl h)
        | inr h ↦ elim (cases_lt h.place k) [
          | inl l ↦ inl (inr (record { place = h.place; arc = h.arc; low = l; there = h.there; goes = h.goes }))
          | inr l ↦
              let q : h.place ≡ k = (let r : h.place < k + 1 = h.low in omega arith) in
              let same : Some h.arc ≡ Some a = sym h.there ∙ ap (slice_get (get_or m.arcs s [])) q ∙ there in
              let is : h.arc ≡ a = cc in
              inr (subst (λ (b : Arc). Continued m (e.input.items ++ label b.input []) (e.output.items ++ label b.output []) (e.weight + b.weight) b.next x y w) is h.goes)
        ]
      ],
    )

    pub branched_more : (old mid : List Begun) (b : Begun) → WellFormed m → BranchedTo m s e k old mid → IsArcOn e a b → BranchedTo m s e (k + 1) old (mid ++ b ∷ [])
    branched_more old mid b sound had is = record {
      reads = same_trans (AnyOf (ReadsOn m) (mid ++ b ∷ [])) (Either (AnyOf (ReadsOn m) old) (Either (Either Ends (Goes k)) Next)) (Either (AnyOf (ReadsOn m) old) (Either Ends (Goes (k + 1))))
          (one_more m mid b (AnyOf (ReadsOn m) old) (Either Ends (Goes k)) Next had.reads (arc_reads m e a b is))
          (either_same (AnyOf (ReadsOn m) old) (Either (Either Ends (Goes k)) Next) (Either Ends (Goes (k + 1))) one_arc);
      begun = λ h. All-push (IsBegun m) mid b (had.begun h) (arc_begun m s k e a b sound there input output is);
    }

  pub branched : (k : ℕ) (old new : List Begun) → k ≡ length (get_or m.arcs s []) → BranchedTo m s e k old new → Branched m s e old new
  branched k old new q had = record {
    reads = same_trans (AnyOf (ReadsOn m) new) (Either (AnyOf (ReadsOn m) old) (Either Ends (Goes (length (get_or m.arcs s []))))) (Either (AnyOf (ReadsOn m) old) (Continued m e.input.items e.output.items e.weight s))
        (subst (λ n. Same (AnyOf (ReadsOn m) new) (Either (AnyOf (ReadsOn m) old) (Either Ends (Goes n)))) q had.reads)
        (either_same (AnyOf (ReadsOn m) old) (Either Ends (Goes (length (get_or m.arcs s [])))) (Continued m e.input.items e.output.items e.weight s) (same_sym (Continued m e.input.items e.output.items e.weight s) (Either Ends (Goes (length (get_or m.arcs s [])))) (continued m e.input.items e.output.items e.weight s)));
    begun = had.begun;
  }

-- the readings of the transducer are those found, and those that the paths lead to
pub record Following (m : Machine) (begun : List Begun) (found : List Entry) : Type 0 where
  pub reads : Same (Reads m) (Either (AnyOf ReadsEntry found) (AnyOf (ReadsOn m) begun))
  pub are : All (IsBegun m) begun
  pub entries : All IsEntry found

pub following_first : (m : Machine) (b : Begun) → b.state ≡ Some m.start → b.so_far.input.items ≡ [] → b.so_far.output.items ≡ [] → b.so_far.weight ≡ 0 → IsBegun m b → Following m (b ∷ []) []
following_first m b state input output weight is = record {
  reads = λ x y w. (
    λ h. inr (inl ((read_as m b (Some m.start) state x y w).1 (record {
      input = x;
      output = y;
      more = w;
      reads = ap (λ v. v ++ x) (sym input);
      writes = ap (λ v. v ++ y) (sym output);
      weighs = sym (zero-add w) ∙ ap (λ n. n + w) (sym weight);
      rest = h;
    }))),
    elim [
      | inl h ↦ absurd h
      | inr h ↦ elim h [
        | inl k ↦ back x y w ((read_as m b (Some m.start) state x y w).0 k)
        | inr k ↦ absurd k
      ]
    ],
  );
  are = All-cons (IsBegun m) b [] is (All-nil (IsBegun m));
  entries = All-nil IsEntry;
}
  where
    back : (x y : List ℕ) (w : ℕ) → Continued m b.so_far.input.items b.so_far.output.items b.so_far.weight m.start x y w → Reads m x y w
    back x y w h =
        subst (λ v. Reads m x y v) (sym (h.weighs ∙ ap (λ n. n + h.more) weight ∙ zero-add h.more))
        (subst (λ v. Reads m x v h.more) (sym (h.writes ∙ ap (λ v. v ++ h.output) output))
        (subst (λ v. Reads m v h.output h.more) (sym (h.reads ∙ ap (λ v. v ++ h.input) input)) h.rest))

module _ (m : Machine) (begun rest : List Begun) (path : Begun) (found : List Entry) (at : begun ≡ rest ++ path ∷ []) (had : Following m begun found) where
  pub last_begun : IsBegun m path
  last_begun = (All-pop (IsBegun m) begun rest (Some path) at had.are).1

  rest_begun : All (IsBegun m) rest
  rest_begun = (All-pop (IsBegun m) begun rest (Some path) at had.are).0

  last_reads : Same (AnyOf (ReadsOn m) begun) (Either (AnyOf (ReadsOn m) rest) (ReadsOn m path))
  last_reads = subst (λ v. Same (AnyOf (ReadsOn m) v) (Either (AnyOf (ReadsOn m) rest) (ReadsOn m path))) (sym at) (any_push (ReadsOn m) rest path)

  -- the last path goes on
  pub following_on : (s : ℕ) (new : List Begun) → path.state ≡ Some s → Branched m s path.so_far rest new → Following m new found
  following_on s new state add =
      let one : Same (AnyOf (ReadsOn m) begun) (AnyOf (ReadsOn m) new) = same_trans (AnyOf (ReadsOn m) begun) (Either (AnyOf (ReadsOn m) rest) (ReadsOn m path)) (AnyOf (ReadsOn m) new) last_reads
      (same_trans (Either (AnyOf (ReadsOn m) rest) (ReadsOn m path)) (Either (AnyOf (ReadsOn m) rest) (ReadsFrom m path.so_far (Some s))) (AnyOf (ReadsOn m) new)
      (either_same (AnyOf (ReadsOn m) rest) (ReadsOn m path) (ReadsFrom m path.so_far (Some s)) (read_as m path (Some s) state)) (same_sym (AnyOf (ReadsOn m) new) (Either (AnyOf (ReadsOn m) rest) (ReadsFrom m path.so_far (Some s))) add.reads)) in
      record {
        reads = same_trans (Reads m) (Either (AnyOf ReadsEntry found) (AnyOf (ReadsOn m) begun)) (Either (AnyOf ReadsEntry found) (AnyOf (ReadsOn m) new)) had.reads (either_same (AnyOf ReadsEntry found) (AnyOf (ReadsOn m) begun) (AnyOf (ReadsOn m) new) one);
        are = add.begun rest_begun;
        entries = had.entries;
      }

  -- the last path has ended
  pub following_end : path.state ≡ None → path.so_far.weight < 2 ^ 54 → Following m rest (found ++ path.so_far ∷ [])
  following_end state weight = record {
    reads = λ x y w. (
      λ h. elim ((had.reads x y w).0 h) [
        | inl k ↦ inl ((any_push ReadsEntry found path.so_far x y w).1 (inl k))
        | inr k ↦ elim ((last_reads x y w).0 k) [
          | inl i ↦ inr i
          | inr i ↦ inl ((any_push ReadsEntry found path.so_far x y w).1 (inr ((read_as m path None state x y w).0 i)))
        ]
      ],
      λ h. (had.reads x y w).1 (elim h [
        | inl k ↦ elim ((any_push ReadsEntry found path.so_far x y w).0 k) [ inl i ↦ inl i | inr i ↦ inr ((last_reads x y w).1 (inr ((read_as m path None state x y w).1 i))) ]
        | inr k ↦ inr ((last_reads x y w).1 (inl k))
      ]),
    );
    are = rest_begun;
    entries = All-push IsEntry found path.so_far had.entries (record { input = last_begun.input; output = last_begun.output; weight = weight });
  }

pub following_done : (m : Machine) (begun : List Begun) (found : List Entry) → begun ≡ [] → Following m begun found → Same (Reads m) (AnyOf ReadsEntry found)
following_done m begun found none had x y w = (
  λ h. elim ((had.reads x y w).0 h) [ inl k ↦ k | inr k ↦ absurd (subst (λ v. AnyOf (ReadsOn m) v x y w) none k) ],
  λ h. (had.reads x y w).1 (inl h),
)

pub last_low : (o : Option ℕ) → ((w : ℕ) → o ≡ Some w → w < 2 ^ 54) → IfSome o (λ w. w < 2 ^ 54)
last_low None h = tt
last_low (Some w) h = h w refl
