-- Whole texts.
use Rattle.std.proofs.Common.{◌≡◌, ◌∙◌, sym, ap, subst, arith, ℕ, ◌≤◌, ◌+◌, List, [], ◌++◌, length, codes}
use Rattle.std.proofs.lemmas.List.{length-append}
use Rattle.text_forms.specs.Steps.{Longest}
use Rattle.text_forms.proofs.Chains.{Stands, stands_end, ended_by}
use Rattle.token_record.specs.Lexemes.{unblanked}
use Rattle.token_record.specs.Meaning.{TokenTree}
use Rattle.token_record.specs.Texts.{TokenAt, TokenText, Whole}

pub blank_none : (d : List ℕ) → unblanked d ≡ [] → (u : TokenTree) (c : List ℕ) → TokenAt d u c → ⊥
blank_none d e u c t = let f : [] ≡ codes "tokens" ++ t.opens.after = sym e ∙ t.opens.head in absurd (cc)

same_tokens : (text : List ℕ) (ts us : List TokenTree) (rest : List ℕ) → Longest TokenAt text ts rest → (p : TokenText us text) → (us ≡ ts) × (p.rest ≡ rest)
same_tokens text ts us rest l p = ended_by TokenAt text ts us rest p.rest (blank_none p.rest p.blank) l p.list

fewer : (ts us zs : List TokenTree) → ts ≡ us ++ zs → length us ≤ length ts
fewer ts us zs e = let f : length ts ≡ length us + length zs = ap length e ∙ length-append us zs in omega (arith, f)

pub read_stopped : (text : List ℕ) (ts : List TokenTree) (rest : List ℕ) (k : ℕ) → ((u : TokenTree) (c : List ℕ) → TokenAt rest u c → ⊥) → Stands TokenAt text ts rest → (unblanked rest ≡ [] → ⊥) → k ≡ length ts → Whole text k × ((us : List TokenTree) → TokenText us text → ⊥)
read_stopped text ts rest k n s e f =
    let l = stands_end TokenAt text ts rest n s in (
      record {
        tokens = ts;
        rest = rest;
        list = s.list;
        count = f;
        most = λ us d m. let o = l.only us d m in subst (λ z. length us ≤ z) (sym f) (fewer ts us o.0 o.1);
      },
      λ us p. e (let o = same_tokens text ts us rest l p in subst (λ z. unblanked z ≡ []) o.1 p.blank),
    )
