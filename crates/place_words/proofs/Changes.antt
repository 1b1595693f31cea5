-- Which words a step changes, and at which places.
use Rattle.std.proofs.Common.{◌≡◌, ◌≢◌, ◌⊎◌, ℕ, ◌+◌, ◌-◌, ◌*◌, ◌<◌, if◌then◌else◌, eqb, Bool, true, false, List, get_or, inl, inr, refl, sym, ap, ◌∙◌, subst, ⊎_elim, arith}
use Rattle.std.proofs.lemmas.List.{get_or_past}
use mathlib.Core.Logic.{dite}
use native.Mathlib.Decide.{ℕ_discrete, dec_le}
use Rattle.place_words.specs.declared.view.View.{View}
use Rattle.place_words.specs.declared.view.Mode.{Mode}
use Rattle.place_words.specs.declared.view.Mode.TheVariants.{Idle, Knocked, Reading, Writing}
use Rattle.place_words.specs.declared.view.Entry.{Entry}
use Rattle.place_words.specs.declared.view.Entry.TheVariants.{Knock, Leave, Read as ReadWord, TakeEmpty, TakeShown, Write, Show, Empty}
use Rattle.place_words.specs.Places.{state_word, word_at, state_of}
use Rattle.place_words.specs.Modes.{place_or, stored_of}
use Rattle.place_words.specs.Steps.{after, Moves, Stepped}
use Rattle.place_words.specs.Rule.{Stands}
use Rattle.place_words.proofs.Histories.{skip}
use Rattle.place_words.specs.Laws.{ReadersKeep, WritersClaim, WritersAlone, PlacesWithin}

skip_if : (t : Bool) (i k a b : ℕ) → i ≢ k → (if t then (if eqb i k then a else b) else b) ≡ b
skip_if true i k a b ne = skip i k a b ne
skip_if false i k a b ne = refl

within : (ws : List ℕ) (n s : ℕ) (m : Mode) → Stands ws n s m → m ≢ Idle → place_or 0 m < n
within ws n s Idle g ne = absurd (ne refl)
within ws n s (Knocked p) g ne = g
within ws n s (Reading p seen) g ne = g.0
within ws n s (Writing p stored) g ne = g.0

module _ {T : Type 0} (right : T → List ℕ → Type 0) where
  -- a step leaves the word i of place p as it was, or stores it
  changes : (s : ℕ) (f : ℕ → ℕ) (e : Entry) (p i : ℕ) → i < 2048 → (m : Mode) (v : View T) → Moves right v e m
      → (after s f e (2049 * p + 1 + i) ≡ f (2049 * p + 1 + i)) ⊎ ((x : ℕ) × (e ≡ Write p i x))
  changes s f (Knock q w) p i lt m v mv = inl (skip (2049 * p + 1 + i) (2049 * q) (w + 1) (f (2049 * p + 1 + i)) (λ x. omega arith))
  changes s f (Leave q w hit) p i lt m v mv = inl (skip (2049 * p + 1 + i) (2049 * q) (w - 1) (f (2049 * p + 1 + i)) (λ x. omega arith))
  changes s f (ReadWord q k w) p i lt m v mv = inl refl
  changes s f (TakeEmpty q w) p i lt m v mv = inl (skip_if (eqb w 0) (2049 * p + 1 + i) (2049 * q) ((2 + s) * 4294967296) (f (2049 * p + 1 + i)) (λ x. omega arith))
  changes s f (TakeShown q w) p i lt m v mv = inl (skip_if (eqb w 4294967296) (2049 * p + 1 + i) (2049 * q) ((2 + s) * 4294967296) (f (2049 * p + 1 + i)) (λ x. omega arith))
  changes s f (Write q k x) p i lt m v mv = dite (ℕ_discrete (2049 * p + 1 + i) (2049 * q + 1 + k))
      (λ same. let low : k < 2048 = mv.2 in let place : q ≡ p = omega (arith, same, low, lt) in let index : k ≡ i = omega (arith, same, low, lt) in inr (x, λ j. Write (place j) (index j) x))
      (λ ne. inl (skip (2049 * p + 1 + i) (2049 * q + 1 + k) x (f (2049 * p + 1 + i)) ne))
  changes s f (Show q w) p i lt m v mv = inl (skip (2049 * p + 1 + i) (2049 * q) (w - (1 + s) * 4294967296) (f (2049 * p + 1 + i)) (λ x. omega arith))
  changes s f (Empty q w) p i lt m v mv = inl (skip_if (eqb w 4294967296) (2049 * p + 1 + i) (2049 * q) 0 (f (2049 * p + 1 + i)) (λ x. omega arith))

  changed_by : (n id : ℕ) (ws ws' : List ℕ) (vs vs' : List (View T)) (s : Stepped right n id ws vs ws' vs') (p i : ℕ) → i < 2048
      → (word_at ws' p i ≡ word_at ws p i) ⊎ ((x : ℕ) × (s.entry ≡ Write p i x))
  changed_by n id ws ws' vs vs' s p i low = ⊎_elim (λ e. inl (s.words (2049 * p + 1 + i) ∙ e)) (λ write. inr write)
      (changes s.mine.from (λ k. get_or ws k 0) s.entry p i low s.next s.mine s.moves)

  pub writers_claim : WritersClaim right
  writers_claim tag n seats id ws ws' vs vs' r s p i x is =
      let moves : Moves right s.mine (Write p i x) s.next = subst (λ (e : Entry). Moves right s.mine e s.next) is s.moves in
      let g : Stands ws n s.mine.from (Writing p (stored_of s.mine.mode)) = subst (Stands ws n s.mine.from) moves.0 ((r.each id s.mine s.at).stands) in g.1

  pub writers_alone : WritersAlone right
  writers_alone n id ws ws' vs vs' s p i low changed = ⊎_elim (λ same. absurd (changed same)) (λ write. write) (changed_by n id ws ws' vs vs' s p i low)

  pub readers_keep : ReadersKeep right
  readers_keep tag n seats id ws ws' vs vs' r s j u p seen ne at reading i low =
      let g : Stands ws n u.from (Reading p seen) = subst (Stands ws n u.from) reading ((r.each j u at).stands) in
      ⊎_elim (λ same. same)
      (λ (write : (x : ℕ) × (s.entry ≡ Write p i x)). let claimed = writers_claim tag n seats id ws ws' vs vs' r s p i write.0 write.1 in
      let shown : state_of (state_word ws p) ≡ 1 = g.1 in absurd (omega (arith, shown, claimed)))
      (changed_by n id ws ws' vs vs' s p i low)

  pub places_within : PlacesWithin right
  places_within tag n seats ws vs r = (
    λ p stated. dite (dec_le (p + 1) n)
        (λ inside. omega arith)
        (λ outside. absurd (stated (ap state_of (get_or_past ws (2049 * p) 0 (let w = r.all_words in omega arith))))),
    λ j v at away. within ws n v.from v.mode ((r.each j v at).stands) away,
  )
