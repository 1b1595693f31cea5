-- Blanks, comments and lexemes.
use Rattle.std.proofs.Common.{◌≡◌, ◌∙◌, sym, ap, subst, refl, arith, ℕ, ◌+◌, ◌*◌, ◌^◌, ◌<◌, ◌≤◌, List, [], ◌∷◌, length, take, Bool, true, Option, Some, None, suc, ◌++◌}
use Rattle.std.proofs.Math.Seq.{take-append_seam}
use Rattle.std.proofs.lemmas.List.{length-append}
use Rattle.std.proofs.lemmas.Bool.Decides.{nat_tests}
use Rattle.text_forms.specs.Answers.{Takes}
use Rattle.text_forms.specs.Bytes.{Run, is_of}
use Rattle.thrax_lexer.specs.Bytes.{starts, is_inside}
use Rattle.text_forms.specs.declared.bytes.ByteKind.TheVariants.{Wordy, Digit}
use Rattle.thrax_lexer.specs.declared.bytes.Inside.TheVariants as inner
use Rattle.thrax_lexer.specs.declared.bytes.Symbol.{Symbol}
use Rattle.thrax_lexer.specs.declared.bytes.Start.{Start}
use Rattle.thrax_lexer.specs.declared.bytes.Start.TheVariants.{Blank, Comment, Word, Number, Weight, Text, Quoted, Symbol as Single, Nothing}
use Rattle.text_forms.specs.Numbers.{value, value_from, digit_value, Decimal}
use Rattle.thrax_lexer.specs.Lexemes.{Lex, number, weight, string, quoted, symbol, word_lex, NumberAt, WeightAt, QuotedAt, Front, Piece}
use Rattle.text_forms.proofs.Digits.{decimal_once}
use Rattle.text_forms.proofs.Runs.{run_once}
use Rattle.thrax_lexer.specs.Strings.{Closed}

-- what the first byte begins is what stands there
pub piece_takes : (text rest c : List ℕ) (b : ℕ) (s : Start) (i : Option Lex) → text ≡ b ∷ rest → starts b ≡ s → Takes (Front s b rest) i c → Takes (Piece text) i c
piece_takes text rest c b s i e f t = subst (λ v. Takes (Piece v) i c) (sym e) (subst (λ v. Takes (Front v b rest) i c) (sym f) t)

pub piece_misses : (text rest : List ℕ) (b : ℕ) (s : Start) → text ≡ b ∷ rest → starts b ≡ s → ((i : Option Lex) (c : List ℕ) → Front s b rest i c → ⊥) → (i : Option Lex) (c : List ℕ) → Piece text i c → ⊥
piece_misses text rest b s e f n i c p = n i c (subst (λ v. Front v b rest i c) f (subst (λ v. Piece v i c) e p))

pub nothing_there : (text : List ℕ) → text ≡ [] → (i : Option Lex) (c : List ℕ) → Piece text i c → ⊥
nothing_there text e i c p = subst (λ v. Piece v i c) e p

pub blank_takes : (b : ℕ) (a : List ℕ) → Takes (Front Blank b a) None a
blank_takes b a = record { found = (refl, refl); only = λ i c p. p }

pub symbol_takes : (s : Symbol) (b : ℕ) (a : List ℕ) → Takes (Front (Single s) b a) (Some (symbol s)) a
symbol_takes s b a = record { found = (refl, refl); only = λ i c p. p }

pub comment_takes : (b : ℕ) (a x c : List ℕ) → Run (is_inside inner.Comment) a x c → Takes (Front Comment b a) None c
comment_takes b a x c r = record { found = (x, refl, r); only = λ i d p. (p.1, (run_once (is_inside inner.Comment) a x c p.0 d r p.2).1) }

take_run : (text : List ℕ) (b : ℕ) (a x c : List ℕ) → text ≡ b ∷ a → Run (is_of Wordy) a x c → take (suc (length x)) text ≡ b ∷ x
take_run text b a x c e r = ap (take (suc (length x))) (e ∙ ap (λ v. b ∷ v) r.split) ∙ ap (λ v. b ∷ v) (take-append_seam x c)

pub word_takes : (text : List ℕ) (b : ℕ) (a x c : List ℕ) (n : ℕ) (l : Lex) → text ≡ b ∷ a → Run (is_of Wordy) a x c → n ≡ suc (length x) → l ≡ word_lex (take n text) → Takes (Front Word b a) (Some l) c
word_takes text b a x c n l e r m k =
    let f : l ≡ word_lex (b ∷ x) = k ∙ ap (λ v. word_lex (take v text)) m ∙ ap word_lex (take_run text b a x c e r) in
    record {
      found = (x, ap Some f, r);
      only = λ i d p. let o = run_once (is_of Wordy) a x c p.0 d r p.2 in (p.1 ∙ ap (λ v. Some (word_lex (b ∷ v))) o.0 ∙ sym (ap Some f), o.1);
    }

-- a lexeme that is a value
pub as_takes : {T : Type 0} (f : T → Option Lex) (P : T → List ℕ → Type 0) (t : T) (c : List ℕ) → Takes P t c → Takes (λ i d. (x : T) × (i ≡ f x) × P x d) (f t) c
as_takes f P t c k = record { found = (t, refl, k.found); only = λ i d p. let o = k.only p.0 d p.2 in (p.1 ∙ ap f o.0, o.1) }

pub as_misses : {T : Type 0} (f : T → Option Lex) (P : T → List ℕ → Type 0) → ((t : T) (c : List ℕ) → P t c → ⊥) → (i : Option Lex) (d : List ℕ) → (x : T) × (i ≡ f x) × P x d → ⊥
as_misses f P n i d p = n p.0 d p.2

-- numbers
digit_small : (b : ℕ) → digit_value b ≤ 15
digit_small b = grind (arith, nat_tests)

pub short_small : (x : List ℕ) → length x ≤ 4 → value 10 x < 2 ^ 32
short_small [] h = omega arith
short_small (a ∷ []) h = let i = digit_small a in omega (arith, i)
short_small (a ∷ b ∷ []) h = let i = digit_small a in let j = digit_small b in omega (arith, i, j)
short_small (a ∷ b ∷ c ∷ []) h = let i = digit_small a in let j = digit_small b in let k = digit_small c in omega (arith, i, j, k)
short_small (a ∷ b ∷ c ∷ d ∷ []) h = let i = digit_small a in let j = digit_small b in let k = digit_small c in let l = digit_small d in omega (arith, i, j, k, l)
short_small (a ∷ b ∷ c ∷ d ∷ e ∷ x) h = absurd (omega (arith, h))

pub number_takes : (a digits c : List ℕ) (n : ℕ) → Run (is_of Digit) a digits c → 0 < length digits → length digits ≤ 4 → n ≡ value 10 digits → Takes (NumberAt a) n c
number_takes a digits c n r g h e = record {
  found = record { digits = digits; run = r; some = g; few = h; says = e };
  only = λ m d p. let o = run_once (is_of Digit) a digits c p.digits d r p.run in (p.says ∙ ap (value 10) o.0 ∙ sym e, o.1);
}

pub number_none : (a digits c : List ℕ) → Run (is_of Digit) a digits c → length digits ≡ 0 → (n : ℕ) (d : List ℕ) → NumberAt a n d → ⊥
number_none a digits c r h n d p = let o = run_once (is_of Digit) a digits c p.digits d r p.run in omega (arith, h, p.some, ap length o.0)

pub number_long : (a digits c : List ℕ) → Run (is_of Digit) a digits c → 4 < length digits → (n : ℕ) (d : List ℕ) → NumberAt a n d → ⊥
number_long a digits c r h n d p = let o = run_once (is_of Digit) a digits c p.digits d r p.run in omega (arith, h, p.few, ap length o.0)

-- weights
pub weight_takes : (a inside left c : List ℕ) (w : ℕ) → Run (is_inside inner.Weight) a inside left → left ≡ 62 ∷ c → Decimal inside w → w < 2 ^ 32 → Takes (WeightAt a) w c
weight_takes a inside left c w r e d h = record {
  found = record { inside = inside; run = subst (λ v. Run (is_inside inner.Weight) a inside v) e r; says = d; small = h };
  only = λ v x p.
      let o = run_once (is_inside inner.Weight) a inside left p.inside (62 ∷ x) r p.run in
      let f : 62 ∷ x ≡ 62 ∷ c = o.1 ∙ e in
      (decimal_once d (subst (λ y. Decimal y v) o.0 p.says), cc);
}

pub weight_open : (a inside left : List ℕ) → Run (is_inside inner.Weight) a inside left → ((c : List ℕ) → left ≡ 62 ∷ c → ⊥) → (w : ℕ) (c : List ℕ) → WeightAt a w c → ⊥
weight_open a inside left r n w c p = n c (sym (run_once (is_inside inner.Weight) a inside left p.inside (62 ∷ c) r p.run).1)

pub weight_wrong : (a inside left : List ℕ) → Run (is_inside inner.Weight) a inside left → ((w : ℕ) → Decimal inside w → 2 ^ 32 ≤ w) → (w : ℕ) (c : List ℕ) → WeightAt a w c → ⊥
weight_wrong a inside left r n w c p =
    let o = run_once (is_inside inner.Weight) a inside left p.inside (62 ∷ c) r p.run in
    let h = n w (subst (λ y. Decimal y w) o.0 p.says) in omega (arith, h, p.small)

-- quoted texts
pub quoted_takes : (a bytes left c : List ℕ) → Run (is_inside inner.Quotes) a bytes left → left ≡ 39 ∷ c → 0 < length bytes → Takes (QuotedAt a) bytes c
quoted_takes a bytes left c r e h = record {
  found = record { run = subst (λ v. Run (is_inside inner.Quotes) a bytes v) e r; some = h };
  only = λ x d p. let o = run_once (is_inside inner.Quotes) a bytes left x (39 ∷ d) r p.run in let f : 39 ∷ d ≡ 39 ∷ c = o.1 ∙ e in (o.0, cc);
}

pub quoted_open : (a bytes left : List ℕ) → Run (is_inside inner.Quotes) a bytes left → ((c : List ℕ) → left ≡ 39 ∷ c → ⊥) → (x c : List ℕ) → QuotedAt a x c → ⊥
quoted_open a bytes left r n x c p = n c (sym (run_once (is_inside inner.Quotes) a bytes left x (39 ∷ c) r p.run).1)

pub quoted_empty : (a bytes left : List ℕ) → Run (is_inside inner.Quotes) a bytes left → length bytes ≡ 0 → (x c : List ℕ) → QuotedAt a x c → ⊥
quoted_empty a bytes left r h x c p = let o = run_once (is_inside inner.Quotes) a bytes left x (39 ∷ c) r p.run in omega (arith, h, p.some, ap length o.0)

-- something is read
rest_shorter : (a x c : List ℕ) → a ≡ x ++ c → length a ≡ length x + length c
rest_shorter a x c e = ap length e ∙ length-append x c

pub front_shorter : (s : Start) (b : ℕ) (a c : List ℕ) (i : Option Lex) → Front s b a i c → length c < length (b ∷ a)
front_shorter Blank b a c i p = let e = ap length p.1 in omega (arith, e)
front_shorter Comment b a c i p = let e = rest_shorter a p.0 c p.2.split in omega (arith, e)
front_shorter Word b a c i p = let e = rest_shorter a p.0 c p.2.split in omega (arith, e)
front_shorter Number b a c i p = let e = rest_shorter (b ∷ a) p.2.digits c p.2.run.split in omega (arith, e, p.2.some)
front_shorter Weight b a c i p = let e = rest_shorter a p.2.inside (62 ∷ c) p.2.run.split in omega (arith, e)
front_shorter Text b a c i p = let e = rest_shorter a p.0 (34 ∷ c) p.2.split in omega (arith, e)
front_shorter Quoted b a c i p = let e = rest_shorter a p.0 (39 ∷ c) p.2.run.split in omega (arith, e)
front_shorter (Single s) b a c i p = let e = ap length p.1 in omega (arith, e)
front_shorter Nothing b a c i p = absurd p

pub piece_shorter : (text c : List ℕ) (i : Option Lex) → Piece text i c → length c < length text
piece_shorter [] c i p = absurd p
piece_shorter (b ∷ a) c i p = front_shorter (starts b) b a c i p

-- the arms of a reader that looks at the first byte
pub number_front : (text rest c : List ℕ) (b n : ℕ) → text ≡ b ∷ rest → Number ≡ starts b → Takes (NumberAt text) n c → Takes (Piece text) (Some (number n)) c
number_front text rest c b n e f t = piece_takes text rest c b Number (Some (number n)) e (sym f) (as_takes (λ v. Some (number v)) (NumberAt (b ∷ rest)) n c (subst (λ v. Takes (NumberAt v) n c) e t))

pub number_missed : (text rest : List ℕ) (b : ℕ) → text ≡ b ∷ rest → Number ≡ starts b → ((n : ℕ) (c : List ℕ) → NumberAt text n c → ⊥) → (i : Option Lex) (c : List ℕ) → Piece text i c → ⊥
number_missed text rest b e f k = piece_misses text rest b Number e (sym f) (as_misses (λ v. Some (number v)) (NumberAt (b ∷ rest)) (subst (λ v. (n : ℕ) (c : List ℕ) → NumberAt v n c → ⊥) e k))

pub weight_front : (text rest c : List ℕ) (b w : ℕ) → text ≡ b ∷ rest → Weight ≡ starts b → Takes (WeightAt rest) w c → Takes (Piece text) (Some (weight w)) c
weight_front text rest c b w e f t = piece_takes text rest c b Weight (Some (weight w)) e (sym f) (as_takes (λ v. Some (weight v)) (WeightAt rest) w c t)

pub weight_missed : (text rest : List ℕ) (b : ℕ) → text ≡ b ∷ rest → Weight ≡ starts b → ((n : ℕ) (c : List ℕ) → WeightAt rest n c → ⊥) → (i : Option Lex) (c : List ℕ) → Piece text i c → ⊥
weight_missed text rest b e f k = piece_misses text rest b Weight e (sym f) (as_misses (λ v. Some (weight v)) (WeightAt rest) k)

pub text_front : (text rest c x : List ℕ) (b : ℕ) → text ≡ b ∷ rest → Text ≡ starts b → Takes (Closed rest) x c → Takes (Piece text) (Some (string x)) c
text_front text rest c x b e f t = piece_takes text rest c b Text (Some (string x)) e (sym f) (as_takes (λ v. Some (string v)) (Closed rest) x c t)

pub text_missed : (text rest : List ℕ) (b : ℕ) → text ≡ b ∷ rest → Text ≡ starts b → ((n c : List ℕ) → Closed rest n c → ⊥) → (i : Option Lex) (c : List ℕ) → Piece text i c → ⊥
text_missed text rest b e f k = piece_misses text rest b Text e (sym f) (as_misses (λ v. Some (string v)) (Closed rest) k)

pub quoted_front : (text rest c x : List ℕ) (b : ℕ) → text ≡ b ∷ rest → Quoted ≡ starts b → Takes (QuotedAt rest) x c → Takes (Piece text) (Some (quoted x)) c
quoted_front text rest c x b e f t = piece_takes text rest c b Quoted (Some (quoted x)) e (sym f) (as_takes (λ v. Some (quoted v)) (QuotedAt rest) x c t)

pub quoted_missed : (text rest : List ℕ) (b : ℕ) → text ≡ b ∷ rest → Quoted ≡ starts b → ((n c : List ℕ) → QuotedAt rest n c → ⊥) → (i : Option Lex) (c : List ℕ) → Piece text i c → ⊥
quoted_missed text rest b e f k = piece_misses text rest b Quoted e (sym f) (as_misses (λ v. Some (quoted v)) (QuotedAt rest) k)
