-- Relations with the same readings say the same.
use Rattle.std.proofs.Common.{◌≡◌, ℕ, Option, None, Some, List, [], ◌∷◌}
use Rattle.weighted_relations.specs.Least.{Least}
use Rattle.weighted_relations.specs.Relations.{Relation, Same}
use Rattle.weighted_relations.specs.RelationLaws.{same_sym}
use Rattle.token_record.specs.Meaning.{TokenTree, spoken, silent, class_of}
use Rattle.field_orders.specs.Orders.{Orders}
use Rattle.normaliser.specs.Lines.{Answer, Classified, IsClassifiedAs, empty, nul_byte, long_line, no_path, found}
use Rattle.normaliser.specs.Words.{AllSay, HasNoWords, IsFirst, Says, TokensSay, Words, its_own, none, least, too_many_fields, no_words, words, unclassified, not_tokens, said}
use Rattle.normaliser.specs.Words as says

least_alike : (R S : Relation) (X : List ℕ → Type 0) → Same R S → (answer : Option (ℕ × List ℕ)) → Least R X answer → Least S X answer
least_alike R S X f None n = λ x y w h r. n x y w h ((f x y w).1 r)
least_alike R S X f (Some reading) l = record {
  reads = (l.reads.0, l.reads.1, (f l.reads.0 reading.1 reading.0).0 l.reads.2);
  least = λ x z v h r. l.least x z v h ((f x z v).1 r);
}

module _ (C D : Relation) (f : Same C D) (line : List ℕ) where
  as_alike : (y : List ℕ) → IsClassifiedAs C line y → IsClassifiedAs D line y
  as_alike y c = record { searched = c.searched; weight = c.weight; least = least_alike C D (λ x. x ≡ line) f (Some (c.weight, y)) c.least }

  pub classified_alike : (a : Answer) → Classified C line a → Classified D line a
  classified_alike a (empty e) = empty e
  classified_alike a (nul_byte at z) = nul_byte at z
  classified_alike a (long_line h l) = long_line h l
  classified_alike a (no_path s n) = no_path s (least_alike C D (λ x. x ≡ line) f None n)
  classified_alike a (found y c) = found y (as_alike y c)

module _ (V W : Relation) (g : Same V W) where
  says_alike : (token : TokenTree) (y : List ℕ) → Says V token y → Says W token y
  says_alike token y (its_own own) = its_own own
  says_alike token y none = none
  says_alike token y (least {class} {keep} {fields} w z h) = least w z (least_alike V W (Orders class keep fields) g (Some (w, z)) h)

  all_say_alike : (tokens : List TokenTree) (all : List (List ℕ)) → AllSay V tokens all → AllSay W tokens all
  all_say_alike [] [] p = tt
  all_say_alike [] (y ∷ all) p = absurd p
  all_say_alike (t ∷ ts) [] p = absurd p
  all_say_alike (t ∷ ts) (y ∷ all) p = (says_alike t y p.0, all_say_alike ts all p.1)

  first_alike : (tokens : List TokenTree) (n : ℕ) → IsFirst (HasNoWords V) tokens n → IsFirst (HasNoWords W) tokens n
  first_alike tokens n h = record {
    place = h.place;
    token = h.token;
    counted = h.counted;
    there = h.there;
    is = no_words_alike V W g h.token h.is;
    first = λ k t l at w. h.first k t l at (no_words_alike W V (same_sym V W g) t w);
  } where
    no_words_alike : (R S : Relation) → Same R S → (token : TokenTree) → HasNoWords R token → HasNoWords S token
    no_words_alike R S e (spoken y) w = w
    no_words_alike R S e silent w = w
    no_words_alike R S e (class_of class keep fields) w = least_alike R S (Orders class keep fields) e None w

  tokens_alike : (tokens : List TokenTree) (a : Answer) → TokensSay V tokens a → TokensSay W tokens a
  tokens_alike tokens a (too_many_fields n h) = too_many_fields n h
  tokens_alike tokens a (no_words n free h) = no_words n free (first_alike tokens n h)
  tokens_alike tokens a (words all free s) = words all free (all_say_alike tokens all s)

module _ (C D V W : Relation) (f : Same C D) (g : Same V W) (line : List ℕ) where
  pub words_alike : (a : Answer) → Words C V line a → Words D W line a
  words_alike a (says.empty e) = says.empty e
  words_alike a (unclassified fault c) = unclassified fault (classified_alike C D f line a c)
  words_alike a (not_tokens y n c w neither) = not_tokens y n (as_alike C D f line y c) w neither
  words_alike a (said y ts r c t p) = said y ts r (as_alike C D f line y c) t (tokens_alike V W g ts r p)
