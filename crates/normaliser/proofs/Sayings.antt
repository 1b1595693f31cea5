-- What a line says, by what is answered of its text and its tokens.
use Rattle.std.proofs.Common.{◌≡◌, ℕ, List, [], Ok, Err, subst, sym}
use Rattle.weighted_relations.specs.Relations.{Relation}
use Rattle.token_record.specs.Meaning.{TokenTree}
use Rattle.token_record.specs.Texts.{TokenText}
use Rattle.normaliser.specs.Lines.{Classified, IsClassifiedAs, IsSaid, empty, found}
use Rattle.normaliser.specs.Parts.{AreTokens, IsTold}
use Rattle.normaliser.specs.Words.{TokensSay, Words, not_tokens, said, unclassified}
use Rattle.normaliser.specs.Words as says
use Rattle.normaliser.specs.declared.faults.LineFault.{LineFault}
use Rattle.normaliser.specs.declared.faults.LineFault.TheVariants.{NulByte, LongLine, NoPath, NotTokens, TooManyFields, NoWords, Memory}

pub found_as : (C : Relation) (line text words : List ℕ) → text ≡ words → (line ≡ [] → ⊥) → Classified C line (Ok words) → IsClassifiedAs C line text
found_as C line text words is some (empty e) = absurd (some e)
found_as C line text words is some (found y c) = subst (IsClassifiedAs C line) (sym is) c

module _ (C V : Relation) (line : List ℕ) where
  pub empty_said : (y : List ℕ) → line ≡ [] → y ≡ [] → Words C V line (Ok y)
  empty_said y e f = subst (λ t. Words C V line (Ok t)) (sym f) (says.empty e)

  pub unclassified_said : (fault : LineFault) → IsSaid (Classified C) line (Err fault) → IsSaid (Words C V) line (Err fault)
  unclassified_said (NulByte at) h = unclassified (NulByte at) h
  unclassified_said LongLine h = unclassified LongLine h
  unclassified_said NoPath h = unclassified NoPath h
  unclassified_said (NotTokens n) h = unclassified (NotTokens n) h
  unclassified_said (TooManyFields n) h = unclassified (TooManyFields n) h
  unclassified_said (NoWords n) h = unclassified (NoWords n) h
  unclassified_said Memory h = tt

  module _ (y : List ℕ) (c : IsClassifiedAs C line y) where
    pub no_tokens_said : (fault : LineFault) → AreTokens y (Err fault) → IsSaid (Words C V) line (Err fault)
    no_tokens_said (NulByte at) h = absurd h
    no_tokens_said LongLine h = absurd h
    no_tokens_said NoPath h = absurd h
    no_tokens_said (NotTokens n) h = not_tokens y n c h.0 h.1
    no_tokens_said (TooManyFields n) h = absurd h
    no_tokens_said (NoWords n) h = absurd h
    no_tokens_said Memory h = tt

    module _ (tokens : List TokenTree) (t : TokenText tokens y) where
      pub tokens_said : (text : List ℕ) → TokensSay V tokens (Ok text) → Words C V line (Ok text)
      tokens_said text h = said y tokens (Ok text) c t h

      pub unsaid : (fault : LineFault) → IsTold (TokensSay V tokens) (Err fault) → IsSaid (Words C V) line (Err fault)
      unsaid (NulByte at) h = said y tokens (Err (NulByte at)) c t h
      unsaid LongLine h = said y tokens (Err LongLine) c t h
      unsaid NoPath h = said y tokens (Err NoPath) c t h
      unsaid (NotTokens n) h = said y tokens (Err (NotTokens n)) c t h
      unsaid (TooManyFields n) h = said y tokens (Err (TooManyFields n)) c t h
      unsaid (NoWords n) h = said y tokens (Err (NoWords n)) c t h
      unsaid Memory h = tt
