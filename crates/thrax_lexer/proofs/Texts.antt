-- Strings.
use Rattle.std.proofs.Common.{◌≡◌, ◌∙◌, sym, ap, subst, refl, arith, ℕ, ◌+◌, ◌-◌, ◌<◌, ◌≤◌, Bool, true, false, nat_eq, List, [], ◌∷◌, ◌++◌, length, take, get_or, append_assoc, Option, Some, None, inl, inr}
use Rattle.std.proofs.lemmas.List.{append_cancel_right, length-append}
use Rattle.text_forms.specs.Answers.{Takes}
use Rattle.text_forms.specs.Bytes.{Run, Stops, is_of}
use Rattle.thrax_lexer.specs.Bytes.{is_inside}
use Rattle.text_forms.specs.declared.bytes.ByteKind.TheVariants.{Digit, HexDigit}
use Rattle.thrax_lexer.specs.declared.bytes.Inside.TheVariants as inner
use Rattle.text_forms.specs.Numbers.{value}
use Rattle.text_forms.specs.Steps.{Many, none, more, Longest}
use Rattle.thrax_lexer.specs.Strings.{is_plain, escaped, Numeral, NamedByte, by_decimal, by_hexadecimal, Named, Label, plain, escape, bracket, Labels, Closed}
use Rattle.text_forms.proofs.Chains.{ended_by, nothing_after}
use Rattle.text_forms.proofs.Runs.{run_once}

-- a name has one label
decimal_name : {x : List ℕ} {n m : ℕ} → Numeral Digit 10 3 x n → NamedByte x m → m ≡ n
decimal_name p (by_decimal q) = q.says ∙ sym p.says
decimal_name {x} p (by_hexadecimal {y} e q) =
    let r = subst (λ v. Run (is_of Digit) v v []) e p.digits in
    let f : false ≡ true = r.all.1.0 in absurd (cc)

hexadecimal_name : {x y : List ℕ} {n m : ℕ} → x ≡ 48 ∷ 120 ∷ y → Numeral HexDigit 16 2 y n → NamedByte x m → m ≡ n
hexadecimal_name e p (by_decimal q) =
    let r = subst (λ v. Run (is_of Digit) v v []) e q.digits in
    let f : false ≡ true = r.all.1.0 in absurd (cc)
hexadecimal_name {y} e p (by_hexadecimal {y = z} f q) =
    let g : z ≡ y = cc in
    q.says ∙ ap (value 16) g ∙ sym p.says

byte_once : {x : List ℕ} {n m : ℕ} → NamedByte x n → NamedByte x m → m ≡ n
byte_once (by_decimal p) q = decimal_name p q
byte_once (by_hexadecimal e p) q = hexadecimal_name e p q

mark_no_byte : {x : List ℕ} {n : ℕ} (b c d : ℕ) → x ≡ b ∷ c ∷ d ∷ [] → is_of Digit b ≡ false → (b ≡ 48 → ⊥) → NamedByte x n → ⊥
mark_no_byte b c d e h k (by_decimal q) =
    let r = subst (λ v. Run (is_of Digit) v v []) e q.digits in
    let f : false ≡ true = sym h ∙ r.all.0 in absurd (cc)
mark_no_byte b c d e h k (by_hexadecimal {y} f q) = let g : b ≡ 48 = cc in k g

begin_no_end : {x : List ℕ} → x ≡ 66 ∷ 79 ∷ 83 ∷ [] → x ≡ 69 ∷ 79 ∷ 83 ∷ [] → ⊥
begin_no_end {x} e f = let g : get_or x 0 0 ≡ 66 = ap (λ v. get_or v 0 0) e in let h : get_or x 0 0 ≡ 69 = ap (λ v. get_or v 0 0) f in omega (arith, g, h)

named_once : (x : List ℕ) (n m : ℕ) → Named x n → Named x m → m ≡ n
named_once x n m (inl p) (inl q) = q.1 ∙ sym p.1
named_once x n m (inl p) (inr (inl q)) = absurd (begin_no_end p.0 q.0)
named_once x n m (inl p) (inr (inr q)) = absurd (mark_no_byte 66 79 83 p.0 refl (λ e. omega (arith, e)) q)
named_once x n m (inr (inl p)) (inl q) = absurd (begin_no_end q.0 p.0)
named_once x n m (inr (inl p)) (inr (inl q)) = q.1 ∙ sym p.1
named_once x n m (inr (inl p)) (inr (inr q)) = absurd (mark_no_byte 69 79 83 p.0 refl (λ e. omega (arith, e)) q)
named_once x n m (inr (inr p)) (inl q) = absurd (mark_no_byte 66 79 83 q.0 refl (λ e. omega (arith, e)) p)
named_once x n m (inr (inr p)) (inr (inl q)) = absurd (mark_no_byte 69 79 83 q.0 refl (λ e. omega (arith, e)) p)
named_once x n m (inr (inr p)) (inr (inr q)) = byte_once p q

plain_not : (b d : ℕ) → b ≡ d → is_plain d ≡ false → is_plain b ≡ true → ⊥
plain_not b d e h k = let f : true ≡ false = sym k ∙ ap is_plain e ∙ h in cc

-- a text has one piece at its front
label_plain : {b m : ℕ} {a c : List ℕ} → is_plain b ≡ true → Label (b ∷ a) m c → (m ≡ b) × (c ≡ a)
label_plain h (plain g) = (refl, refl)
label_plain {b} h (escape e q) = absurd (plain_not b 92 e refl h)
label_plain {b} h (bracket e r q) = absurd (plain_not b 91 e refl h)

label_escape : {b d n m : ℕ} {a c : List ℕ} → b ≡ 92 → escaped d ≡ Some n → Label (b ∷ d ∷ a) m c → (m ≡ n) × (c ≡ a)
label_escape {b} e h (plain g) = absurd (plain_not b 92 e refl g)
label_escape {n} e h (escape {n = m} f g) = (let k : Some m ≡ Some n = sym g ∙ h in cc, refl)
label_escape e h (bracket f r q) = absurd (omega (arith, e, f))

label_bracket : {b n m : ℕ} {a x c d : List ℕ} → b ≡ 91 → Run (is_inside inner.Brackets) a x (93 ∷ c) → Named x n → Label (b ∷ a) m d → (m ≡ n) × (d ≡ c)
label_bracket {b} e r h (plain g) = absurd (plain_not b 91 e refl g)
label_bracket e r h (escape f g) = absurd (omega (arith, e, f))
label_bracket {n} {m} {a} {x} {c} e r h (bracket {x = y} {c = d} f s k) =
    let g = run_once (is_inside inner.Brackets) a x (93 ∷ c) y (93 ∷ d) r s in
    (named_once x n m h (subst (λ v. Named v m) g.0 k), let i : 93 ∷ d ≡ 93 ∷ c = g.1 in cc)

pub label_once : {a b c : List ℕ} {n m : ℕ} → Label a n b → Label a m c → (m ≡ n) × (c ≡ b)
label_once (plain h) q = label_plain h q
label_once (escape e h) q = label_escape e h q
label_once (bracket e r h) q = label_bracket e r h q

pub label_takes : (a b : List ℕ) (n : ℕ) → Label a n b → Takes (Label a) n b
label_takes a b n p = record { found = p; only = λ m c q. label_once p q }

-- a quote is no piece
pub quote_no_label : {b n : ℕ} {a c : List ℕ} → b ≡ 34 → Label (b ∷ a) n c → ⊥
quote_no_label {b} h (plain p) = plain_not b 34 h refl p
quote_no_label h (escape e g) = omega (arith, h, e)
quote_no_label h (bracket e r g) = omega (arith, h, e)

-- pieces go on to be pieces before whatever follows
pub record Cut (a : List ℕ) (ns : List ℕ) (b : List ℕ) : Type 0 where
  pub front : List ℕ
  pub split : a ≡ front ++ b
  pub labels : (z : List ℕ) → Many Label (front ++ z) ns z

label_cut : {a b : List ℕ} {n : ℕ} → Label a n b → (p : List ℕ) × (a ≡ p ++ b) × ((z : List ℕ) → Label (p ++ z) n z)
label_cut (plain {b} h) = (b ∷ [], refl, λ z. plain h)
label_cut (escape {b} {d} e h) = (b ∷ d ∷ [], refl, λ z. escape e h)
label_cut (bracket {b} {n} {x} {c} e r h) = (
  b ∷ (x ++ 93 ∷ []),
  ap (λ v. b ∷ v) (r.split ∙ sym (append_assoc x (93 ∷ []) c)),
  λ z. bracket e (record { split = append_assoc x (93 ∷ []) z; all = r.all; ends = r.ends }) h,
)

pub many_cut : {a b ns : List ℕ} → Many Label a ns b → Cut a ns b
many_cut none = record { front = []; split = refl; labels = λ z. none }
many_cut (more {b} {c} {x = n} {xs = ns} p q) =
    let h = label_cut p in
    let k = many_cut q in
    record {
      front = h.0 ++ k.front;
      split = h.1 ∙ ap (λ v. h.0 ++ v) k.split ∙ sym (append_assoc h.0 k.front c);
      labels = λ z. more (subst (λ v. Label v n (k.front ++ z)) (sym (append_assoc h.0 k.front z)) (h.2 (k.front ++ z))) (k.labels z);
    }

take_front : (x y : List ℕ) → take (length x) (x ++ y) ≡ x
take_front [] y = refl
take_front (b ∷ x) y = ap (λ v. b ∷ v) (take_front x y)

closed_many : {text p c : List ℕ} (q : Closed text p c) → Many Label text q.labels.0 (34 ∷ c)
closed_many {text} {p} {c} q =
    let k = many_cut q.labels.1 in
    subst (λ v. Many Label v q.labels.0 (34 ∷ c)) (ap (λ v. v ++ 34 ∷ c) (sym (k.split ∙ nothing_after k.front)) ∙ sym q.split) (k.labels (34 ∷ c))

-- a closed string, from where its longest list of pieces ends
pub closed_takes : (text rest after pieces ns : List ℕ) → Longest Label text ns rest → rest ≡ 34 ∷ after → pieces ≡ take (length text - length rest) text → Takes (Closed text) pieces after
closed_takes text rest after pieces ns l e t =
    let k = many_cut l.list in
    let n : length text ≡ length k.front + length rest = ap length k.split ∙ length-append k.front rest in
    let f : pieces ≡ k.front =
    t ∙ ap (λ v. take v text) (let m : length text - length rest ≡ length k.front = omega (arith, n) in m) ∙ ap (take (length k.front)) k.split ∙ take_front k.front rest in
    record {
      found = record {
        split = k.split ∙ ap (λ v. v ++ rest) (sym f) ∙ ap (λ v. pieces ++ v) e;
        labels = (ns, subst (λ v. Many Label v ns []) (nothing_after k.front ∙ sym f) (k.labels []));
      };
      only = λ p c q.
          let h = ended_by Label text ns q.labels.0 rest (34 ∷ c) (λ n d x. quote_no_label refl x) l (closed_many q) in
          let g : 34 ∷ c ≡ 34 ∷ after = h.1 ∙ e in
          let i : p ++ rest ≡ k.front ++ rest = ap (λ v. p ++ v) (sym h.1) ∙ sym q.split ∙ k.split in
          (append_cancel_right p k.front rest i ∙ sym f, cc);
    }

pub closed_none : (text rest ns : List ℕ) → Longest Label text ns rest → ((after : List ℕ) → rest ≡ 34 ∷ after → ⊥) → (p c : List ℕ) → Closed text p c → ⊥
closed_none text rest ns l n p c q =
    n c (sym (ended_by Label text ns q.labels.0 rest (34 ∷ c) (λ n d x. quote_no_label refl x) l (closed_many q)).1)

no_label : {n : ℕ} {c : List ℕ} → Label [] n c → ⊥
no_label p = elim p [ ]

-- the labels of a whole text
pub labels_only : (text rest ns ms : List ℕ) → Longest Label text ns rest → Labels text ms → (ms ≡ ns) × ([] ≡ rest)
labels_only text rest ns ms l m = ended_by Label text ns ms rest [] (λ n d x. no_label x) l m

-- one piece, by its first byte
pub found_plain : (text rest : List ℕ) (b n : ℕ) → text ≡ b ∷ rest → n ≡ b → is_plain b ≡ true → Label text n rest
found_plain text rest b n e f h = subst (λ v. Label v n rest) (sym e) (subst (λ v. Label (b ∷ rest) v rest) (sym f) (plain h))

pub found_escape : (text rest after : List ℕ) (b d n : ℕ) → text ≡ b ∷ rest → b ≡ 92 → rest ≡ d ∷ after → escaped d ≡ Some n → Label text n after
found_escape text rest after b d n e f g h = subst (λ v. Label v n after) (sym (e ∙ ap (λ v. b ∷ v) g)) (escape f h)

pub found_bracket : (text rest after name : List ℕ) (b n : ℕ) → text ≡ b ∷ rest → b ≡ 91 → Run (is_inside inner.Brackets) rest name (93 ∷ after) → Named name n → Label text n after
found_bracket text rest after name b n e f r h = subst (λ v. Label v n after) (sym e) (bracket f r h)

none_escape : {b n : ℕ} {a c : List ℕ} → b ≡ 92 → ((d m : ℕ) (x : List ℕ) → a ≡ d ∷ x → escaped d ≡ Some m → ⊥) → Label (b ∷ a) n c → ⊥
none_escape {b} e k (plain h) = plain_not b 92 e refl h
none_escape e k (escape {d} {n} {a} f h) = k d n a refl h
none_escape e k (bracket f r h) = omega (arith, e, f)

pub missed_escape : (text rest : List ℕ) (b : ℕ) → text ≡ b ∷ rest → b ≡ 92 → ((d m : ℕ) (x : List ℕ) → rest ≡ d ∷ x → escaped d ≡ Some m → ⊥) → (n : ℕ) (c : List ℕ) → Label text n c → ⊥
missed_escape text rest b e f k n c p = none_escape f k (subst (λ v. Label v n c) e p)

none_bracket : {b n : ℕ} {a c : List ℕ} → b ≡ 91 → ((name : List ℕ) (m : ℕ) (d : List ℕ) → Run (is_inside inner.Brackets) a name (93 ∷ d) → Named name m → ⊥) → Label (b ∷ a) n c → ⊥
none_bracket {b} e k (plain h) = plain_not b 91 e refl h
none_bracket e k (escape f h) = omega (arith, e, f)
none_bracket e k (bracket {n} {x} {c} f r h) = k x n c r h

pub missed_bracket : (text rest : List ℕ) (b : ℕ) → text ≡ b ∷ rest → b ≡ 91 → ((name : List ℕ) (m : ℕ) (d : List ℕ) → Run (is_inside inner.Brackets) rest name (93 ∷ d) → Named name m → ⊥) → (n : ℕ) (c : List ℕ) → Label text n c → ⊥
missed_bracket text rest b e f k n c p = none_bracket f k (subst (λ v. Label v n c) e p)

-- a name in brackets, from the run up to its end
pub bracket_run : (text name left x c : List ℕ) → Run (is_inside inner.Brackets) text name left → Run (is_inside inner.Brackets) text x (93 ∷ c) → (x ≡ name) × (93 ∷ c ≡ left)
bracket_run text name left x c r s = run_once (is_inside inner.Brackets) text name left x (93 ∷ c) r s
