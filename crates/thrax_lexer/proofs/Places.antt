-- A whole text.
use Rattle.std.proofs.Common.{◌≡◌, ◌∙◌, sym, ap, subst, refl, arith, ℕ, ◌+◌, ◌-◌, ◌<◌, ◌≤◌, List, [], ◌∷◌, ◌++◌, length, map, Option, Some, None, append_assoc}
use Rattle.std.specs.Prelude.{option_to_list}
use Rattle.text_forms.specs.Answers.{Takes}
use Rattle.text_forms.specs.Steps.{Longest}
use Rattle.thrax_lexer.specs.Lexemes.{Lex, Piece}
use Rattle.thrax_lexer.specs.Reading.{LexFails, Spot, Spotted, lexes, nested, nest, too_deep, StoppedBy, Stopped, LexText}
use Rattle.thrax_lexer.specs.declared.reading.Nesting.{Nesting}
use Rattle.thrax_lexer.specs.declared.reading.LexFault.{LexFault}
use Rattle.thrax_lexer.specs.declared.reading.LexFault.TheVariants.{BadLexeme, BadWeight, Memory}
use Rattle.text_forms.proofs.Chains.{Stands, stands_begin, stands_step, stands_end, nothing_after}

abbrev pub spot : ℕ → Option Lex → Spot
spot at item = record { at = at; item = item }

spot_same : (s : Spot) (at : ℕ) (i : Option Lex) → s.at ≡ at → s.item ≡ i → s ≡ spot at i
spot_same s at i e f = ap (λ v. spot v s.item) e ∙ ap (λ v. spot at v) f

pub spot_takes : (total at : ℕ) (rest after : List ℕ) (i : Option Lex) → at ≡ total - length rest → Takes (Piece rest) i after → Takes (Spotted total rest) (spot at i) after
spot_takes total at rest after i e t = record {
  found = (e, t.found);
  only = λ s d p. let o = t.only s.item d p.1 in (spot_same s at i (p.0 ∙ sym e) o.0, o.1);
}

pub spot_none : (total : ℕ) (rest : List ℕ) → ((i : Option Lex) (c : List ℕ) → Piece rest i c → ⊥) → (s : Spot) (c : List ℕ) → Spotted total rest s c → ⊥
spot_none total rest n s c p = n s.item c p.1

lexes_more : (ss : List Spot) (s : Spot) → lexes (ss ++ s ∷ []) ≡ lexes ss ++ option_to_list s.item
lexes_more [] s = nothing_after (option_to_list s.item)
lexes_more (t ∷ ss) s = ap (λ v. option_to_list t.item ++ v) (lexes_more ss s) ∙ sym (append_assoc (option_to_list t.item) (lexes ss) (option_to_list s.item))

nest_more : (n : Nesting) (ss : List Spot) (s : Spot) → nest n (ss ++ s ∷ []) ≡ nested (nest n ss).depth (nest n ss).over s.at s.item
nest_more n [] s = refl
nest_more n (t ∷ ss) s = nest_more (nested n.depth n.over t.at t.item) ss s

-- what was read so far
pub record Far (text rest : List ℕ) (found : List Lex) (nesting : Nesting) : Type 0 where
  pub spots : List Spot
  pub stands : Stands (Spotted (length text)) text spots rest
  pub lexemes : lexes spots ≡ found
  pub nested : nest (record { depth = 0; over = None }) spots ≡ nesting
  pub within : length rest ≤ length text

pub far_step : (text rest after : List ℕ) (found more : List Lex) (n m : Nesting) (at : ℕ) (i : Option Lex) → Far text rest found n → Takes (Piece rest) i after → length after < length rest → at ≡ length text - length rest → more ≡ found ++ option_to_list i → m ≡ nested n.depth n.over at i → Far text after more m
far_step text rest after found more n m at i f t l e g h = record {
  spots = f.spots ++ spot at i ∷ [];
  stands = stands_step (Spotted (length text)) text f.spots (spot at i) rest after (spot_takes (length text) at rest after i e t) f.stands;
  lexemes = lexes_more f.spots (spot at i) ∙ ap (λ v. v ++ option_to_list i) f.lexemes ∙ sym g;
  nested = nest_more (record { depth = 0; over = None }) f.spots (spot at i) ∙ ap (λ v. nested v.depth v.over at i) f.nested ∙ sym h;
  within = omega (arith, f.within, l);
}

pub far_end : (text rest : List ℕ) (found : List Lex) (n : Nesting) → Far text rest found n → ((i : Option Lex) (c : List ℕ) → Piece rest i c → ⊥) → rest ≡ [] → LexText text found n.over
far_end text rest found n f k e = record {
  spots = f.spots;
  whole = subst (λ v. Longest (Spotted (length text)) text f.spots v) e (stands_end (Spotted (length text)) text f.spots rest (spot_none (length text) rest k) f.stands);
  lexemes = f.lexemes;
  deepest = ap (λ v. v.over) f.nested;
}

pub far_stop : (text rest after : List ℕ) (found : List Lex) (n : Nesting) (b at : ℕ) (x : LexFault) → Far text rest found n → ((i : Option Lex) (c : List ℕ) → Piece rest i c → ⊥) → rest ≡ b ∷ after → at ≡ length text - length rest → StoppedBy b at x → Stopped text x
far_stop text rest after found n b at x f k e g h = record {
  spots = f.spots;
  first = b;
  after = after;
  longest = subst (λ v. Longest (Spotted (length text)) text f.spots v) e (stands_end (Spotted (length text)) text f.spots rest (spot_none (length text) rest k) f.stands);
  why = subst (λ v. StoppedBy b v x) (g ∙ ap (λ v. length text - length v) e) h;
}

pub far_begin : (text : List ℕ) (found : List Lex) → found ≡ [] → Far text text found (record { depth = 0; over = None })
far_begin text found e = record { spots = []; stands = stands_begin (Spotted (length text)) text; lexemes = sym e; nested = refl; within = omega arith }

pub fails_as : (text : List ℕ) (f : LexFault) → Stopped text f → LexFails text f
fails_as text Memory s = tt
fails_as text (BadLexeme at) s = s
fails_as text (BadWeight at) s = s
