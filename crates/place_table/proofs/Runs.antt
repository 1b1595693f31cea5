-- Runs of entries, one after another.
use Rattle.std.proofs.Common.{◌≡◌, ℕ, ◌+◌, ◌<◌, ◌≤◌, List, [], ◌∷◌, ◌++◌, length, set, take, drop, sym, refl, ap, ◌∙◌, arith, append_assoc}
use Rattle.std.proofs.lemmas.List.{take_more_set, drop-append-le, length-take-le, length-drop}
use Rattle.std.proofs.lemmas.List.Elements.{All-push, All-same}
use Rattle.std.specs.Prelude.{All}
use Rattle.place_words.specs.Modes.{seen_of}
use Rattle.place_words.specs.Steps.{saw}
use Rattle.place_words.specs.declared.view.Read.{Read}
use Rattle.place_words.specs.declared.view.View.{View}
use Rattle.place_words.specs.declared.view.Mode.TheVariants.{Reading}
use Rattle.place_words.specs.declared.view.Entry.{Entry}
use Rattle.place_words.specs.declared.view.Entry.TheVariants.{Read as ReadWord}
use Rattle.place_table.specs.Entries.{reads_of, seen_from, reading}

-- one more element of a list that is filled from the front
pub All_next : {X : Type 0} (P : X → Type 0) (xs : List X) (i : ℕ) (x : X) → i < length xs → All P (take i xs) → P x → All P (take (i + 1) (set xs i x))
All_next P xs i x lt before here = All-same P (take (i + 1) (set xs i x)) (take i xs ++ x ∷ []) (take_more_set xs i x lt) (All-push P (take i xs) x before here)

abbrev pub one : ℕ → ℕ → Read
one i x = record { index = i; word = x }

pub seen_append : (i : ℕ) (xs ys : List ℕ) → seen_from i (xs ++ ys) ≡ seen_from i xs ++ seen_from (i + length xs) ys
seen_append i [] ys = ap (λ (z : ℕ). seen_from z ys) (let e : i ≡ i + 0 = omega arith in e)
seen_append i (x ∷ xs) ys = ap (λ (l : List Read). one i x ∷ l)
    (seen_append (i + 1) xs ys ∙ ap (λ (z : ℕ). seen_from (i + 1) xs ++ seen_from z ys) (let e : i + 1 + length xs ≡ i + length (x ∷ xs) = omega arith in e))

pub reads_append : (p : ℕ) (rs ss : List Read) → reads_of p (rs ++ ss) ≡ reads_of p rs ++ reads_of p ss
reads_append p [] ss = refl
reads_append p (r ∷ rs) ss = ap (λ (l : List Entry). ReadWord p r.index r.word ∷ l) (reads_append p rs ss)

pub reading_more : {T : Type 0} (v : View T) (p i w : ℕ) (rs : List Read) → saw (reading v p rs) p i w ≡ reading v p (rs ++ one i w ∷ [])
reading_more {T} v p i w rs = ap (λ (z : List Read × List Entry). record v { mode = Reading p z.0; log = z.1 })
    (let a : (seen_of v.mode ++ rs) ++ one i w ∷ [] ≡ seen_of v.mode ++ (rs ++ one i w ∷ []) = append_assoc (seen_of v.mode) rs (one i w ∷ []) in
    let b : (v.log ++ reads_of p rs) ++ ReadWord p i w ∷ [] ≡ v.log ++ reads_of p (rs ++ one i w ∷ []) =
    append_assoc v.log (reads_of p rs) (ReadWord p i w ∷ []) ∙ ap (λ (l : List Entry). v.log ++ l) (sym (reads_append p rs (one i w ∷ []))) in λ j. (a j, b j))

pub slice_more : (from i w : ℕ) (xs : List ℕ) → from ≤ i → i < length xs → drop from (take (i + 1) (set xs i w)) ≡ drop from (take i xs) ++ w ∷ []
slice_more from i w xs low high = ap (λ (l : List ℕ). drop from l) (take_more_set xs i w high)
    ∙ drop-append-le from (take i xs) (w ∷ []) (let e = length-take-le i xs (omega arith) in omega arith)

pub seen_more : (from i w : ℕ) (xs : List ℕ) → from ≤ i → i < length xs
    → seen_from from (drop from (take i xs)) ++ one i w ∷ [] ≡ seen_from from (drop from (take (i + 1) (set xs i w)))
seen_more from i w xs low high = let ys : List ℕ = drop from (take i xs) in
    let len : from + length ys ≡ i = omega (arith, length-drop from (take i xs), length-take-le i xs (omega arith)) in
    ap (λ (z : ℕ). seen_from from ys ++ one z w ∷ []) (sym len) ∙ sym (seen_append from ys (w ∷ [])) ∙ ap (seen_from from) (sym (slice_more from i w xs low high))
