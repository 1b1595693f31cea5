-- Arcs that say different things.
use Rattle.std.specs.Prelude.{◌≡◌, ℕ, ◌+◌, ◌<◌, ◌≤◌, List, [], ◌∷◌, ◌++◌, Some, length, get_or, slice_get}
use Rattle.std.specs.List.{Contains}
use Rattle.std.proofs.Common.{refl, sym, ◌∙◌, ap, subst, inl, inr, arith}
use Rattle.std.proofs.lemmas.Bool.{cases_lt}
use Rattle.std.proofs.lemmas.Option.{slice_get_within, get_or_from_slice_get}
use Rattle.weighted_relations.specs.declared.Arc.{Arc}
use Rattle.state_table.specs.Numbers.{Distinct, Numbers}
use Rattle.state_table.proofs.Numbering.{keeps_push, pushed_cases, numbers_next}
use Rattle.merged_arcs.specs.declared.apart.Saying.{Saying}
use Rattle.merged_arcs.specs.Merged.{Alike, AllApart, StandTogether, Run, said, none}

pub alike_sym : (x y : Arc) → Alike x y → Alike y x
alike_sym x y e = record { input = sym e.input; output = sym e.output; weight = sym e.weight }

pub alike_trans : (x y z : Arc) → Alike x y → Alike y z → Alike x z
alike_trans x y z e f = record { input = e.input ∙ f.input; output = e.output ∙ f.output; weight = e.weight ∙ f.weight }

pub apart_none : AllApart []
apart_none i j x y h k e = absurd (let l : i < 0 = slice_get_within [] i x h in omega (arith, l))

-- an arc that is like none of the row
pub apart_more : (row : List Arc) (x : Arc) → AllApart row → ((y : Arc) → Contains row y → Alike y x → ⊥) → AllApart (row ++ x ∷ [])
apart_more row x apart new i j y z h k e = elim (pushed_cases row x i y h) [
  | inl f ↦ elim (pushed_cases row x j z k) [
    | inl g ↦ apart i j y z f g e
    | inr g ↦ absurd (new y (there i y f) (subst (Alike y) g.0 e))
  ]
  | inr f ↦ elim (pushed_cases row x j z k) [
    | inl g ↦ absurd (new z (there j z g) (alike_sym x z (subst (λ v. Alike v z) f.0 e)))
    | inr g ↦ f.1 ∙ sym g.1
  ]
] where
  there : (n : ℕ) (a : Arc) → slice_get row n ≡ Some a → Contains row a
  there n a g = (n, slice_get_within row n a g, get_or_from_slice_get row n a a g)

-- no arc before the place is like one from there on
abbrev pub Parted : List Arc → ℕ → Type 0
Parted arcs n = (i j : ℕ) → i < n → n ≤ j → j < length arcs → Alike (get_or arcs i none) (get_or arcs j none) → ⊥

pub parted_none : (arcs : List Arc) → Parted arcs 0
parted_none arcs i j l = absurd (omega (arith, l))

pub parted_more : (arcs : List Arc) (n e : ℕ) → StandTogether arcs → Parted arcs n → Run arcs n e → (e < length arcs → Alike (get_or arcs n none) (get_or arcs e none) → ⊥) → Parted arcs e
parted_more arcs n e together parted run whole i j l m k s =
    let some : n < e = run.some in
    elim (cases_lt i n) [
      | inl low ↦
          let p : i ≤ n = omega arith in
          let q : n ≤ j = omega arith in
          let r : n < length arcs = omega arith in
          parted i n low (omega arith) r (together i n j p q k s)
      | inr high ↦
          let p : n ≤ e = omega arith in
          let r : e < length arcs = omega arith in
          whole r (together n e j p m k (alike_trans (get_or arcs n none) (get_or arcs i none) (get_or arcs j none) (run.alike i high l) s))
    ]

-- the sayings of the first n arcs, each once
pub record SaidTo (row : List Arc) (n : ℕ) (keys : List Saying) : Type 0 where
  pub count : length keys ≡ n
  pub each : (i : ℕ) (x : Arc) → i < n → slice_get row i ≡ Some x → slice_get keys i ≡ Some (said x)

pub said_none : (row : List Arc) → SaidTo row 0 []
said_none row = record { count = refl; each = λ i x l. absurd (omega (arith, l)) }

pub said_more : (row : List Arc) (n number : ℕ) (old new : List Saying) (y : Arc) → SaidTo row n old → slice_get row n ≡ Some y → Numbers old new (said y) number → number ≡ n → SaidTo row (n + 1) new
said_more row n number old new y had here is at =
    let next : new ≡ old ++ said y ∷ [] = numbers_next is (at ∙ sym had.count) in
    record {
      count = ap length next ∙ pushed old (said y) ∙ ap (λ v. v + 1) had.count;
      each = λ i x l h. elim (cases_lt i n) [
        | inl low ↦ subst (λ v. slice_get v i ≡ Some (said x)) (sym next) ((keeps_push old (said y)).kept i (said x) (had.each i x low h))
        | inr high ↦
            let e : i ≡ n = omega arith in
            let same : Some y ≡ Some x = sym here ∙ ap (slice_get row) (sym e) ∙ h in
            let f : y ≡ x = cc in
            ap (slice_get new) (e ∙ sym at) ∙ is.stored ∙ ap (λ z. Some (said z)) f
      ];
    }
  where
    pushed : (xs : List Saying) (x : Saying) → length (xs ++ x ∷ []) ≡ length xs + 1
    pushed [] x = refl
    pushed (z ∷ xs) x = let e : length (xs ++ x ∷ []) ≡ length xs + 1 = pushed xs x in omega arith

pub said_apart : (row : List Arc) (keys : List Saying) (n : ℕ) → length row ≤ n → Distinct keys → SaidTo row n keys → AllApart row
said_apart row keys n all distinct had i j x y h k e =
    let l : i < length row = slice_get_within row i x h in
    let m : j < length row = slice_get_within row j y k in
    let p = had.each i x (omega arith) h in
    let q = had.each j y (omega arith) k in
    let same : said x ≡ said y = ap (λ v. let z : Saying = record { input = v; output = x.output; weight = x.weight } in z) e.input
    ∙ ap (λ v. let z : Saying = record { input = y.input; output = v; weight = x.weight } in z) e.output
    ∙ ap (λ v. let z : Saying = record { input = y.input; output = y.output; weight = v } in z) e.weight in
    distinct i j (said y) (p ∙ ap Some same) q
