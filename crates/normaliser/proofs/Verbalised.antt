-- The words of one token, and of those before it.
use Rattle.std.proofs.Common.{◌≡◌, ◌+◌, ◌<◌, ◌≤◌, ◌∙◌, ◌++◌, ◌∷◌, [], ℕ, List, Ok, Some, Vec, ap, get_or, length, refl, subst, sym, take, true}
use Rattle.std.specs.declared.alloc.Global.{Global}
use Rattle.std.proofs.lemmas.List.{map_more, take_all}
use Rattle.weighted_relations.specs.Relations.{Relation}
use Rattle.token_record.specs.Fields.{fields_of}
use Rattle.token_record.specs.Meaning.{token_tree, token_trees}
use Rattle.token_record.specs.declared.tokens.Record.{Record}
use Rattle.token_record.specs.declared.tokens.Token.{Token}
use Rattle.token_record.specs.declared.tokens.Token.TheVariants as token
use Rattle.field_orders.specs.Orders.{Orders}
use Rattle.normaliser.specs.Parts.{AreJoined, IsOutput, IsPut, with_words}
use Rattle.normaliser.specs.Words.{HasNoWords, HasTooMany, IsFirst, NoneIs, Says, TokensSay, its_own, least, none}
use Rattle.normaliser.proofs.Firsts.{front_mapped_at, mapped_at}
use Rattle.normaliser.proofs.Joinings.{joined_all, joined_more}
use Rattle.normaliser.proofs.Once.{none_without}

module _ (V : Relation) (t : Token) (before now : List ℕ) where
  pub put_own : (own : Vec ℕ Global) → t ≡ token.Spoken own → now ≡ with_words before own.items → IsPut V (token_tree t) before now true
  put_own own is e = (own.items, subst (λ u. Says V (token_tree u) own.items) (sym is) (its_own own.items), e)

  pub put_nothing : t ≡ token.Silent → now ≡ before → IsPut V (token_tree t) before now true
  put_nothing is e = ([], subst (λ u. Says V (token_tree u) []) (sym is) none, e)

  pub put_class : (r : Record) (own : Vec ℕ Global) → t ≡ token.Class r → IsOutput V (Orders r.class r.keep (fields_of r.fields.items)) (Some own) → now ≡ with_words before own.items → IsPut V (token_tree t) before now true
  put_class r own is h e = (own.items, subst (λ u. Says V (token_tree u) own.items) (sym is) (least h.0 own.items h.1), e)

module _ (V : Relation) (tokens : List Token) (i : ℕ) where
  module _ (t : Token) (before : List ℕ) (within : i < length tokens) (there : t ≡ get_or tokens i t) (had : AreJoined V (token_trees (take i tokens)) before) where
    pub joined_step : (now : List ℕ) → IsPut V (token_tree t) before now true → AreJoined V (token_trees (take (i + 1) tokens)) now
    joined_step now put =
        subst (λ ts. AreJoined V ts now) (sym (map_more token_tree tokens i t within ∙ ap (λ u. token_trees (take i tokens) ++ token_tree u ∷ []) (sym there)))
        (joined_more V (token_trees (take i tokens)) (token_tree t) before now put.0 had put.1 put.2)

    pub first_without : HasNoWords V (token_tree t) → IsFirst (HasNoWords V) (token_trees tokens) (i + 1)
    first_without is = record {
      place = i;
      token = token_tree t;
      counted = refl;
      there = mapped_at token_tree tokens i t within there;
      is = is;
      first = λ k other l at lost. none_without V (token_trees (take i tokens)) had.all had.say k other (front_mapped_at token_tree tokens i k l ∙ at) lost;
    }

  pub joined_whole : (words : List ℕ) → length tokens ≤ i → NoneIs HasTooMany (token_trees tokens) → AreJoined V (token_trees (take i tokens)) words → TokensSay V (token_trees tokens) (Ok words)
  joined_whole words past few j = joined_all V (token_trees tokens) words few (subst (λ ts. AreJoined V (token_trees ts) words) (take_all i tokens past) j)
