-- Members of a union as entries of a lexicon.
use Rattle.std.proofs.Common.{◌≡◌, ◌↔◌, ◌⊎◌, ◌∙◌, refl, sym, subst, inl, inr, arith, ℕ, ◌+◌, ◌<◌, ◌≤◌, ◌^◌, max, List, [], ◌∷◌, ◌++◌, map, take, length}
use Rattle.std.specs.Prelude.{All, fold}
use Rattle.std.specs.List.{sum_by}
use Rattle.std.proofs.lemmas.List.{take_all}
use Rattle.std.proofs.lemmas.List.Sums.{sum_by_push, sum_by-cons}
use Rattle.std.proofs.lemmas.List.Elements.{All-push, All-same}
use Rattle.fst_core.specs.Top.{top_of, greatest}
use Rattle.weighted_relations.specs.Machines.{Machine, Reads}
use Rattle.weighted_relations.specs.Relations.{Relation, Same, Either, AnyOf, IsLabel, Is, Weighted, Crossed}
use Rattle.weighted_relations.specs.RelationLaws.{same_trans, any_push}
use Rattle.weighted_relations.specs.Expressions.{Expression, text, weighted, cross, members, Rel, RelAny, MeetsKinds, literals, all_literals}
use Rattle.lexicon_trees.specs.declared.entries.Entry.{Entry}
use Rattle.lexicon_trees.specs.Entries.{One, ReadsEntry, IsEntry}
use Rattle.core_expressions.specs.declared.expressions.Expr.{Expr}
use Rattle.core_expressions.specs.Views.{expression_of}
use Rattle.grammar_build.specs.Empties.{RewritesEmptyText, OneRewritesEmptyText}
use Rattle.grammar_build.specs.Parts.{weight_of, IsEntryOf, Parted}
use Rattle.grammar_build.proofs.Parts.{one_push}

-- Entries

one_as : (input output input' output' : List ℕ) (weight weight' : ℕ) → input ≡ input' → output ≡ output' → weight ≡ weight' → Same (One input output weight) (One input' output' weight')
one_as input output input' output' weight weight' e f g x y w = (
  λ h. record { reads = h.reads ∙ e; writes = h.writes ∙ f; weighs = h.weighs ∙ g },
  λ h. record { reads = h.reads ∙ sym e; writes = h.writes ∙ sym f; weighs = h.weighs ∙ sym g },
)

text_as : (xs : List ℕ) → Same (One xs xs 0) (Is xs)
text_as xs x y w = (λ h. record { input = h.reads; output = h.writes; weight = h.weighs }, λ h. record { reads = h.input; writes = h.output; weighs = h.weight })

pair_as : (xs ys : List ℕ) → Same (One xs ys 0) (Crossed (Is xs) (Is ys))
pair_as xs ys x y w = (
  λ h. record { w1 = 0; w2 = 0; weight = omega (arith, h.weighs); first = record { input = h.reads; output = h.reads; weight = refl }; second = record { input = h.writes; output = h.writes; weight = refl } },
  λ h. record { reads = h.first.input; writes = h.second.input; weighs = omega (arith, h.weight, h.first.weight, h.second.weight) },
)

more_as : (input output : List ℕ) (weight v : ℕ) → Same (One input output (weight + v)) (Weighted v (One input output weight))
more_as input output weight v x y w = (
  λ h. record { before = weight; weight = h.weighs; reads = record { reads = h.reads; writes = h.writes; weighs = refl } },
  λ h. record { reads = h.reads.reads; writes = h.reads.writes; weighs = omega (arith, h.weight, h.reads.weighs) },
)

weighted_as : (v : ℕ) (R S : Relation) → Same R S → Same (Weighted v R) (Weighted v S)
weighted_as v R S f x y w = (
  λ h. record { before = h.before; weight = h.weight; reads = (f x y h.before).0 h.reads },
  λ h. record { before = h.before; weight = h.weight; reads = (f x y h.before).1 h.reads },
)

labels_of : (s : Expression) (xs : List ℕ) → s ≡ text xs → MeetsKinds s → All IsLabel xs
labels_of s xs e h = subst (λ z. MeetsKinds z) e h

pub text_entry : (s : Expression) (xs : List ℕ) (entry : Entry) → s ≡ text xs → MeetsKinds s → entry.input.items ≡ xs → entry.output.items ≡ xs → entry.weight ≡ 0 → IsEntryOf entry s
text_entry s xs entry e h f g k = subst (IsEntryOf entry) (sym e) (record {
  sound = record {
    input = All-same IsLabel entry.input.items xs f (labels_of s xs e h);
    output = All-same IsLabel entry.output.items xs g (labels_of s xs e h);
    weight = omega (arith, k);
  };
  reads = same_trans (ReadsEntry entry) (One xs xs 0) (Is xs) (one_as entry.input.items entry.output.items xs xs entry.weight 0 f g k) (text_as xs);
  weight = omega (arith, k);
  complete = λ z. z;
})

pub pair_entry : (s t : Expression) (xs ys : List ℕ) (entry : Entry) → s ≡ text xs → t ≡ text ys → MeetsKinds s → MeetsKinds t → entry.input.items ≡ xs → entry.output.items ≡ ys → entry.weight ≡ 0 → IsEntryOf entry (cross s t)
pair_entry s t xs ys entry e d h i f g k = subst (λ z. IsEntryOf entry (cross z t)) (sym e) (subst (λ z. IsEntryOf entry (cross (text xs) z)) (sym d) (record {
  sound = record {
    input = All-same IsLabel entry.input.items xs f (labels_of s xs e h);
    output = All-same IsLabel entry.output.items ys g (labels_of t ys d i);
    weight = omega (arith, k);
  };
  reads = same_trans (ReadsEntry entry) (One xs ys 0) (Crossed (Is xs) (Is ys)) (one_as entry.input.items entry.output.items xs ys entry.weight 0 f g k) (pair_as xs ys);
  weight = omega (arith, k);
  complete = λ z. elim z [ inl q ↦ q | inr q ↦ q ];
}))

pub weighted_entry : (s t : Expression) (v : ℕ) (old new : Entry) → s ≡ weighted t v → literals s < 2 ^ 54 → IsEntryOf old t → new.input.items ≡ old.input.items → new.output.items ≡ old.output.items → new.weight ≡ old.weight + v → IsEntryOf new s
weighted_entry s t v old new e l h f g k =
    let small : literals t + v < 2 ^ 54 = subst (λ z. literals z < 2 ^ 54) e l in
    subst (IsEntryOf new) (sym e) (record {
      sound = record {
        input = All-same IsLabel new.input.items old.input.items f h.sound.input;
        output = All-same IsLabel new.output.items old.output.items g h.sound.output;
        weight = omega (arith, k, h.weight, small);
      };
      reads = same_trans (ReadsEntry new) (One old.input.items old.output.items (old.weight + v)) (Weighted v (Rel t))
          (one_as new.input.items new.output.items old.input.items old.output.items new.weight (old.weight + v) f g k)
          (same_trans (One old.input.items old.output.items (old.weight + v)) (Weighted v (ReadsEntry old)) (Weighted v (Rel t)) (more_as old.input.items old.output.items old.weight v) (weighted_as v (ReadsEntry old) (Rel t) h.reads));
      weight = omega (arith, k, h.weight);
      complete = h.complete;
    })

-- Members

rel_push : (es : List Expression) (e : Expression) (x y : List ℕ) (w : ℕ) → RelAny (members (es ++ e ∷ [])) x y w ↔ (RelAny (members es) x y w ⊎ Rel e x y w)
rel_push [] e x y w = (elim [ inl h ↦ inr h | inr h ↦ inl h ], elim [ inl h ↦ absurd h | inr h ↦ inl h ])
rel_push (u ∷ us) e x y w = (
  elim [ inl h ↦ inl (inl h) | inr h ↦ elim ((rel_push us e x y w).0 h) [ inl k ↦ inl (inr k) | inr k ↦ inr k ] ],
  elim [ inl h ↦ elim h [ inl k ↦ inl k | inr k ↦ inr ((rel_push us e x y w).1 (inl k)) ] | inr h ↦ inr ((rel_push us e x y w).1 (inr h)) ],
)

literals_push : (es : List Expression) (e : Expression) → all_literals (members (es ++ e ∷ [])) ≡ all_literals (members es) + literals e
literals_push [] e = omega arith
literals_push (u ∷ us) e = omega (arith, literals_push us e)

none_push : (es : List Expression) (e : Expression) → (OneRewritesEmptyText (members es) → ⊥) → (RewritesEmptyText e → ⊥) → OneRewritesEmptyText (members (es ++ e ∷ [])) → ⊥
none_push es e f g h = elim (one_push es e h) [ inl k ↦ f k | inr k ↦ g k ]

pub parted_entry : (es : List Expression) (e : Expression) (entries more : List Entry) (others : List Machine) (entry : Entry) → more ≡ entries ++ entry ∷ [] → IsEntryOf entry e → Parted es entries others → Parted (es ++ e ∷ []) more others
parted_entry es e entries more others entry f h p = subst (λ z. Parted (es ++ e ∷ []) z others) (sym f) (record {
  sound = All-push IsEntry entries entry p.sound h.sound;
  reads = λ x y w.
      let a = any_push ReadsEntry entries entry x y w in
      let b = rel_push es e x y w in
      let q = p.reads x y w in
      let r = h.reads x y w in (
        elim [
          | inl k ↦ elim (a.0 k) [ inl m ↦ b.1 (inl (q.0 (inl m))) | inr m ↦ b.1 (inr (r.0 m)) ]
          | inr k ↦ b.1 (inl (q.0 (inr k)))
        ],
        λ k. elim (b.0 k) [
          | inl m ↦ elim (q.1 m) [ inl n ↦ inl (a.1 (inl n)) | inr n ↦ inr n ]
          | inr m ↦ inl (a.1 (inr (r.1 m)))
        ],
      );
  top = omega (arith, p.top, h.weight, literals_push es e, sum_by_push weight_of entries entry);
  complete = none_push es e p.complete h.complete;
})

pub parted_other : (es : List Expression) (e : Expression) (entries : List Entry) (others more : List Machine) (m : Machine) → more ≡ others ++ m ∷ [] → Same (Reads m) (Rel e) → top_of m ≤ literals e → (RewritesEmptyText e → ⊥) → Parted es entries others → Parted (es ++ e ∷ []) entries more
parted_other es e entries others more m f same top no_text p = subst (λ z. Parted (es ++ e ∷ []) entries z) (sym f) (record {
  sound = p.sound;
  reads = λ x y w.
      let a = any_push Reads others m x y w in
      let b = rel_push es e x y w in
      let q = p.reads x y w in
      let r = same x y w in (
        elim [
          | inl k ↦ b.1 (inl (q.0 (inl k)))
          | inr k ↦ elim (a.0 k) [ inl n ↦ b.1 (inl (q.0 (inr n))) | inr n ↦ b.1 (inr (r.0 n)) ]
        ],
        λ k. elim (b.0 k) [
          | inl n ↦ elim (q.1 n) [ inl o ↦ inl o | inr o ↦ inr (a.1 (inl o)) ]
          | inr n ↦ inr (a.1 (inr (r.1 n)))
        ],
      );
  top = omega (arith, p.top, top, literals_push es e, sum_by_push top_of others m);
  complete = none_push es e p.complete no_text;
})

pub united_all : (parts : List Expr) (i : ℕ) (entries given : List Entry) (others : List Machine) (m : Machine) → length parts ≤ i → given ≡ entries → Parted (map expression_of (take i parts)) entries others → Same (Reads m) (Either (AnyOf ReadsEntry given) (AnyOf Reads others)) → Same (Reads m) (RelAny (members (map expression_of parts)))
united_all parts i entries given others m l e p h =
    let all = subst (λ z. Parted (map expression_of z) entries others) (take_all i parts l) p in
    same_trans (Reads m) (Either (AnyOf ReadsEntry entries) (AnyOf Reads others)) (RelAny (members (map expression_of parts))) (subst (λ z. Same (Reads m) (Either (AnyOf ReadsEntry z) (AnyOf Reads others))) e h) all.reads

-- The lexicon beside the others

fold_within : (es : List Entry) (s : ℕ) → fold (λ t e. max t (weight_of e)) s es ≤ s + sum_by weight_of es
fold_within [] s = omega arith
fold_within (e ∷ es) s =
    let q : fold (λ t e. max t (weight_of e)) (max s (weight_of e)) es ≤ max s (weight_of e) + sum_by weight_of es = fold_within es (max s (weight_of e)) in
    omega (arith, q, sum_by-cons weight_of e es)

pub greatest_within : (es : List Entry) → greatest (λ (e : Entry). e.weight) es ≤ sum_by weight_of es
greatest_within es = omega (arith, fold_within es 0)

pub united_reads : (entries : List Entry) (others all : List Machine) (tree m : Machine) → all ≡ others ++ tree ∷ [] → Same (Reads tree) (AnyOf ReadsEntry entries) → Same (Reads m) (AnyOf Reads all) → Same (Reads m) (Either (AnyOf ReadsEntry entries) (AnyOf Reads others))
united_reads entries others all tree m e f g x y w =
    let a = any_push Reads others tree x y w in
    let q = f x y w in
    let r = (subst (λ z. Same (Reads m) (AnyOf Reads z)) e g) x y w in (
      λ h. elim (a.0 (r.0 h)) [ inl k ↦ inr k | inr k ↦ inl (q.0 k) ],
      elim [ inl k ↦ r.1 (a.1 (inr (q.1 k))) | inr k ↦ r.1 (a.1 (inl k)) ],
    )

pub united_top : (entries : List Entry) (others all : List Machine) (tree m : Machine) → all ≡ others ++ tree ∷ [] → top_of tree ≤ greatest (λ (e : Entry). e.weight) entries → top_of m ≤ sum_by top_of all → top_of m ≤ sum_by weight_of entries + sum_by top_of others
united_top entries others all tree m e f g =
    let sum : top_of m ≤ sum_by top_of (others ++ tree ∷ []) = subst (λ z. top_of m ≤ sum_by top_of z) e g in
    omega (arith, sum, f, greatest_within entries, sum_by_push top_of others tree)
