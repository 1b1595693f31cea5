-- Lexemes at the front of a text.
use Rattle.std.proofs.Common.{◌≡◌, ◌∙◌, sym, ap, subst, refl, arith, ℕ, ◌<◌, true, false, nat_eq, List, [], ◌∷◌, ◌++◌, length, Option, Some, None}
use Rattle.std.proofs.lemmas.Bool.{eqb-true}
use Rattle.text_forms.specs.Answers.{Takes, Next}
use Rattle.text_forms.specs.Bytes.{Run, is_wordy}
use Rattle.text_forms.specs.Steps.{Many}
use Rattle.text_forms.proofs.Chains.{Stands, stands_end, ended_by}
use Rattle.text_forms.proofs.Runs.{run_once}
use Rattle.token_record.specs.Lexemes.{unblanked, Sign, Word, Bare, Closed, Value, in_quotes, bare, StringByte, string_byte, starts_word}

wordy_run : (a t w c : List ℕ) → t ≡ unblanked a → Run is_wordy t w c → Run is_wordy (unblanked a) w c
wordy_run a t w c e r = subst (λ v. Run is_wordy v w c) e r

some_in : (w : List ℕ) → nat_eq (length w) 0 ≡ false → 0 < length w
some_in [] h = absurd (let e : true ≡ false = h in cc)
some_in (b ∷ w) h = omega arith

pub bare_takes : (a t w c : List ℕ) → t ≡ unblanked a → Run is_wordy t w c → nat_eq (length w) 0 ≡ false → Takes (Bare a) w c
bare_takes a t w c e r h = record {
  found = record { run = wordy_run a t w c e r; some = some_in w h };
  only = λ u d b. run_once is_wordy (unblanked a) w c u d (wordy_run a t w c e r) b.run;
}

pub bare_misses : (a t w c : List ℕ) → t ≡ unblanked a → Run is_wordy t w c → nat_eq (length w) 0 ≡ true → (u d : List ℕ) → Bare a u d → ⊥
bare_misses a t w c e r h u d b =
    let o = run_once is_wordy (unblanked a) w c u d (wordy_run a t w c e r) b.run in
    let l : length w ≡ 0 = eqb-true (length w) 0 h in
    let m : length u ≡ length w = ap length o.0 in
    let s = b.some in
    omega (arith, l, m, s)

pub word_takes : (a t w c : List ℕ) → t ≡ unblanked a → Run is_wordy t w c → starts_word w ≡ true → Takes (Word a) w c
word_takes a t w c e r h = record {
  found = record { run = wordy_run a t w c e r; starts = h };
  only = λ u d b. run_once is_wordy (unblanked a) w c u d (wordy_run a t w c e r) b.run;
}

pub word_misses : (a t w c : List ℕ) → t ≡ unblanked a → Run is_wordy t w c → starts_word w ≡ false → (u d : List ℕ) → Word a u d → ⊥
word_misses a t w c e r h u d b =
    let o = run_once is_wordy (unblanked a) w c u d (wordy_run a t w c e r) b.run in
    let f : true ≡ false = sym b.starts ∙ ap starts_word o.0 ∙ h in cc

pub byte_takes : (a : List ℕ) (b : ℕ) (c : List ℕ) → string_byte a ≡ Some (b, c) → Takes (StringByte a) b c
byte_takes a b c e = record {
  found = e;
  only = λ u d f.
      let g : Some (u, d) ≡ Some (b, c) = sym f ∙ e in
      let h : (u, d) ≡ (b, c) = cc in
      (ap (λ (p : ℕ × List ℕ). p.0) h, ap (λ (p : ℕ × List ℕ). p.1) h);
}

pub byte_misses : (a : List ℕ) → string_byte a ≡ None → (x : ℕ) (c : List ℕ) → StringByte a x c → ⊥
byte_misses a e x c f = let g : StringByte [] x c = sym e ∙ f in cc

pub quote_misses : (d : List ℕ) (x : ℕ) (c : List ℕ) → StringByte (34 ∷ d) x c → ⊥
quote_misses d x c f = let g : StringByte [] x c = f in cc

closed_only : (text v rest : List ℕ) → string_byte rest ≡ None → Stands StringByte text v rest → (u d : List ℕ) → Closed text u d → (u ≡ v) × (34 ∷ d ≡ rest)
closed_only text v rest n s u d m =
    ended_by StringByte text v u rest (34 ∷ d) (quote_misses d) (stands_end StringByte text v rest (byte_misses rest n) s) m

pub closed_takes : (text v rest after : List ℕ) → string_byte rest ≡ None → Stands StringByte text v rest → rest ≡ 34 ∷ after → Takes (Closed text) v after
closed_takes text v rest after n s e = record {
  found = subst (λ w. Many StringByte text v w) e s.list;
  only = λ u d m.
      let o = closed_only text v rest n s u d m in
      let f : 34 ∷ d ≡ 34 ∷ after = o.1 ∙ e in
      (o.0, cc);
}

pub closed_misses : (text v rest : List ℕ) → string_byte rest ≡ None → Stands StringByte text v rest → ((after : List ℕ) → rest ≡ 34 ∷ after → ⊥) → (u d : List ℕ) → Closed text u d → ⊥
closed_misses text v rest n s none u d m = none d (sym (closed_only text v rest n s u d m).1)

either_wordy : (b : ℕ) (w : List ℕ) → starts_word (b ∷ w) ≡ true → is_wordy b ≡ true
either_wordy b w h = grind (arith, h)

first_wordy : (a w c : List ℕ) (k : ℕ) (d : List ℕ) → Run is_wordy (unblanked a) w c → 0 < length w → Sign k a d → is_wordy k ≡ true
first_wordy a [] c k d r l s = absurd (omega (arith, l))
first_wordy a (b ∷ w) c k d r l s =
    let e : k ∷ d ≡ b ∷ (w ++ c) = sym s ∙ r.split in
    let f : k ≡ b = cc in
    ap is_wordy f ∙ r.all.0

some_word : (w : List ℕ) → starts_word w ≡ true → 0 < length w
some_word [] h = absurd (let e : false ≡ true = h in cc)
some_word (b ∷ w) h = omega arith

-- no sign stands where a word does
pub word_sign : (a w c : List ℕ) (k : ℕ) (d : List ℕ) → Word a w c → Sign k a d → is_wordy k ≡ false → ⊥
word_sign a w c k d r s h = let e : true ≡ false = sym (first_wordy a w c k d r.run (some_word w r.starts) s) ∙ h in cc

pub bare_sign : (a w c : List ℕ) (k : ℕ) (d : List ℕ) → Bare a w c → Sign k a d → is_wordy k ≡ false → ⊥
bare_sign a w c k d r s h = let e : true ≡ false = sym (first_wordy a w c k d r.run r.some s) ∙ h in cc

pub value_only : (a q v c u d : List ℕ) → Sign 34 a q → Takes (Closed q) v c → Value a u d → (u ≡ v) × (d ≡ c)
value_only a q v c u d s t (in_quotes p e m) =
    let f : 34 ∷ p ≡ 34 ∷ q = sym e ∙ s in
    let g : p ≡ q = cc in
    t.only u d (subst (λ w. Closed w u d) g m)
value_only a q v c u d s t (bare b) = absurd (bare_sign a u d 34 q b s refl)

value_none : (a q u d : List ℕ) → Sign 34 a q → ((u d : List ℕ) → Closed q u d → ⊥) → Value a u d → ⊥
value_none a q u d s t (in_quotes p e m) =
    let f : 34 ∷ p ≡ 34 ∷ q = sym e ∙ s in
    let g : p ≡ q = cc in
    t u d (subst (λ w. Closed w u d) g m)
value_none a q u d s t (bare b) = bare_sign a u d 34 q b s refl

-- what a string is, the value is
pub value_quoted : {X : Type 0} (v : X → List ℕ) (r : X → List ℕ) (a q : List ℕ) → Sign 34 a q → (o : Option X) → Next v r (Closed q) o → Next v r (Value a) o
value_quoted v r a q s (Some x) t = record { found = in_quotes q s t.found; only = λ u d m. value_only a q (v x) (r x) u d s t m }
value_quoted v r a q s None t = λ u d m. value_none a q u d s t m
