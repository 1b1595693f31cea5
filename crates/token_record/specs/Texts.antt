-- Which tokens a text is, and how many whole ones stand at its front.
use Rattle.std.specs.Prelude.{ℕ, ◌≡◌, ◌≤◌, List, [], ◌++◌, length, codes, Some, Result, Ok, Err, Vec}
use Rattle.std.specs.declared.alloc.Global.{Global}
use Rattle.text_forms.specs.Steps.{Many}
use Rattle.token_record.specs.Fields.{Fields}
use Rattle.token_record.specs.Lexemes.{unblanked, Sign}
use Rattle.token_record.specs.Grammar.{Block}
use Rattle.token_record.specs.Meaning.{TokenTree, meaning, token_trees}
use Rattle.token_record.specs.declared.tokens.Token.{Token}
use Rattle.token_record.specs.declared.reading.TokenFault.{TokenFault}
use Rattle.token_record.specs.declared.reading.TokenFault.TheVariants.{NotTokens, Memory}

-- "tokens" and '{' stand before the rest
pub record Opens (a c : List ℕ) : Type 0 where
  pub after : List ℕ
  pub head : unblanked a ≡ codes "tokens" ++ after
  pub brace : Sign 123 after c

-- "tokens", '{', fields and '}' stand before the rest, and the fields make this token
pub record TokenAt (a : List ℕ) (t : TokenTree) (c : List ℕ) : Type 0 where
  pub inner : List ℕ
  pub fields : Fields
  pub opens : Opens a inner
  pub block : Block 15 inner fields c
  pub means : meaning fields ≡ Some t

-- the text is these tokens, with blanks anywhere between lexemes
pub record TokenText (tokens : List TokenTree) (text : List ℕ) : Type 0 where
  pub rest : List ℕ
  pub list : Many TokenAt text tokens rest
  pub blank : unblanked rest ≡ []

-- the greatest number of tokens that stand one after another at the front of the text
pub record Whole (text : List ℕ) (n : ℕ) : Type 0 where
  pub tokens : List TokenTree
  pub rest : List ℕ
  pub list : Many TokenAt text tokens rest
  pub count : n ≡ length tokens
  pub most : (ts : List TokenTree) (d : List ℕ) → Many TokenAt text ts d → length ts ≤ n

-- the tokens that the text is, or none are and so many whole ones stand before the first fault
abbrev pub TokenAnswers : List ℕ → Result (Vec Token Global) TokenFault → Type 0
TokenAnswers text (Ok tokens) = TokenText (token_trees tokens.items) text
TokenAnswers text (Err (NotTokens n)) = Whole text n × ((ts : List TokenTree) → TokenText ts text → ⊥)
TokenAnswers text (Err Memory) = Unit {0}
