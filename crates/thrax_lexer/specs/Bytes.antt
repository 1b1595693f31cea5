-- Bytes of a grammar file.
use Rattle.std.specs.Prelude.{Bool, ℕ, ◌&&◌, ◌||◌, not, nat_eq, Option, Some, None, if◌then◌else◌}
use Rattle.text_forms.specs.Bytes.{from_to, is_blank, is_digit, is_letter}
use Rattle.thrax_lexer.specs.declared.bytes.Inside.{Inside}
use Rattle.thrax_lexer.specs.declared.bytes.Inside.TheVariants.{Quotes, Comment as In_comment, Weight as In_weight, Brackets}
use Rattle.thrax_lexer.specs.declared.bytes.Start.{Start}
use Rattle.thrax_lexer.specs.declared.bytes.Start.TheVariants.{Blank, Comment, Word, Number, Weight, Text, Quoted, Symbol as Single, Nothing}
use Rattle.thrax_lexer.specs.declared.bytes.Symbol.{Symbol}
use Rattle.thrax_lexer.specs.declared.bytes.Symbol.TheVariants.{Equals, Semicolon, Comma, Bar, Star, Plus, Question, OpenBrace, CloseBrace, Minus, Colon, At, OpenParen, CloseParen, OpenBracket, CloseBracket, Dot}

-- what may stand inside a comment or a lexeme
abbrev pub is_inside : Inside → ℕ → Bool
is_inside Quotes b = from_to 32 126 b && not (nat_eq b 39)
is_inside In_comment b = not (nat_eq b 10)
is_inside In_weight b = not (nat_eq b 62) && not (nat_eq b 10)
is_inside Brackets b = not (nat_eq b 93)

abbrev pub symbol_at : ℕ → Option Symbol
symbol_at b =
    if nat_eq b 61 then Some Equals else
    if nat_eq b 59 then Some Semicolon else
    if nat_eq b 44 then Some Comma else
    if nat_eq b 124 then Some Bar else
    if nat_eq b 42 then Some Star else
    if nat_eq b 43 then Some Plus else
    if nat_eq b 63 then Some Question else
    if nat_eq b 123 then Some OpenBrace else
    if nat_eq b 125 then Some CloseBrace else
    if nat_eq b 45 then Some Minus else
    if nat_eq b 58 then Some Colon else
    if nat_eq b 64 then Some At else
    if nat_eq b 40 then Some OpenParen else
    if nat_eq b 41 then Some CloseParen else
    if nat_eq b 91 then Some OpenBracket else
    if nat_eq b 93 then Some CloseBracket else
    if nat_eq b 46 then Some Dot else None

abbrev pub symbol_start : Option Symbol → Start
symbol_start (Some s) = Single s
symbol_start None = Nothing

-- what a byte begins
abbrev pub starts : ℕ → Start
starts b =
    if is_blank b then Blank else
    if nat_eq b 35 then Comment else
    if is_letter b || nat_eq b 95 then Word else
    if is_digit b then Number else
    if nat_eq b 60 then Weight else
    if nat_eq b 34 then Text else
    if nat_eq b 39 then Quoted else
    symbol_start (symbol_at b)
