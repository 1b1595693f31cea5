-- Words are joined token by token.
use Rattle.std.proofs.Common.{◌≡◌, ◌∙◌, ℕ, List, [], ◌∷◌, ◌++◌, Ok, ap, append-nil, append_assoc, filter, refl, subst, sym}
use Rattle.std.proofs.lemmas.List.Elements.{filter-append}
use Rattle.weighted_relations.specs.Relations.{Relation}
use Rattle.token_record.specs.Meaning.{TokenTree}
use Rattle.normaliser.specs.Parts.{AreJoined, behind, with_words}
use Rattle.normaliser.specs.Words.{AllSay, HasTooMany, NoneIs, Says, TokensSay, is_some, spaced, words}

-- each text has at least one byte
abbrev AreSome : List (List ℕ) → Type 0
AreSome [] = Unit {0}
AreSome ([] ∷ more) = ⊥
AreSome ((b ∷ x) ∷ more) = AreSome more

are_some : (all : List (List ℕ)) → AreSome (filter is_some all)
are_some [] = tt
are_some ([] ∷ all) = are_some all
are_some ((b ∷ x) ∷ all) = are_some all

behind_spaced : (b : ℕ) (x : List ℕ) (more : List (List ℕ)) (own : List ℕ) → behind (spaced ((b ∷ x) ∷ more)) own ≡ spaced ((b ∷ x) ∷ more) ++ 32 ∷ own
behind_spaced b x [] own = refl
behind_spaced b x (y ∷ more) own = refl

spaced_behind : (kept : List (List ℕ)) (own : List ℕ) → AreSome kept → spaced (kept ++ own ∷ []) ≡ behind (spaced kept) own
spaced_behind [] own h = refl
spaced_behind ([] ∷ more) own h = absurd h
spaced_behind ((b ∷ x) ∷ []) own h = refl
spaced_behind ((b ∷ x) ∷ [] ∷ more) own h = absurd h
spaced_behind ((b ∷ x) ∷ (d ∷ y) ∷ more) own h =
    ap (λ t. (b ∷ x) ++ 32 ∷ t) (spaced_behind ((d ∷ y) ∷ more) own h ∙ behind_spaced d y more own)
    ∙ sym (append_assoc (b ∷ x) (32 ∷ spaced ((d ∷ y) ∷ more)) (32 ∷ own))

with_words_spaced : (all : List (List ℕ)) (own : List ℕ) → with_words (spaced (filter is_some all)) own ≡ spaced (filter is_some (all ++ own ∷ []))
with_words_spaced all [] = sym (ap spaced (filter-append is_some all ([] ∷ []) ∙ append-nil (filter is_some all)))
with_words_spaced all (b ∷ own) = sym (ap spaced (filter-append is_some all ((b ∷ own) ∷ [])) ∙ spaced_behind (filter is_some all) (b ∷ own) (are_some all))

module _ (V : Relation) where
  all_say_more : (tokens : List TokenTree) (token : TokenTree) (all : List (List ℕ)) (own : List ℕ) → AllSay V tokens all → Says V token own → AllSay V (tokens ++ token ∷ []) (all ++ own ∷ [])
  all_say_more [] token [] own p s = (s, tt)
  all_say_more [] token (x ∷ all) own p s = absurd p
  all_say_more (t ∷ ts) token [] own p s = absurd p
  all_say_more (t ∷ ts) token (x ∷ all) own p s = (p.0, all_say_more ts token all own p.1 s)

  pub joined_none : (text : List ℕ) → text ≡ [] → AreJoined V [] text
  joined_none text e = record { all = []; say = tt; joined = e }

  -- one token more
  pub joined_more : (tokens : List TokenTree) (token : TokenTree) (before now own : List ℕ) → AreJoined V tokens before → Says V token own → now ≡ with_words before own → AreJoined V (tokens ++ token ∷ []) now
  joined_more tokens token before now own j s e = record {
    all = j.all ++ own ∷ [];
    say = all_say_more tokens token j.all own j.say s;
    joined = e ∙ (ap (λ t. with_words t own) j.joined ∙ with_words_spaced j.all own);
  }

  -- after the last token
  pub joined_all : (tokens : List TokenTree) (text : List ℕ) → NoneIs HasTooMany tokens → AreJoined V tokens text → TokensSay V tokens (Ok text)
  joined_all tokens text few j = subst (λ t. TokensSay V tokens (Ok t)) (sym j.joined) (words j.all few j.say)
