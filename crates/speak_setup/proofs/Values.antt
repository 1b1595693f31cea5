-- The values of a setup.
use Rattle.std.proofs.Common.{◌≡◌, ◌≤◌, ℕ, List, [], ◌∷◌, Bool, true, false, ◌&&◌, ◌==◌, None, Some, Ok, Err, Result, Option, IfSome, IfOk, IsSomeAnd, length, refl, subst, arith}
use Rattle.std.proofs.lemmas.Bool.{leb-true}
use Rattle.std.specs.List.{All}
use Rattle.std.specs.Option.{option_to_list}
use Rattle.speak_setup.specs.Forms.{IsValue, is_value_byte}
use Rattle.speak_setup.specs.Setups.{Entry, AllGive, IsNamed, IsSetup, HasNames, HasVerbalizer, SetupNames, SetupText, is_setup, same_key, values, first_missing, needed, most_rules, names_of, outcome_of}
use Rattle.speak_setup.specs.declared.key.Key.{Key}
use Rattle.speak_setup.specs.declared.key.Key.TheVariants.{TokenizerGrammar, TokenizerRule, VerbalizerGrammar, VerbalizerRule}
use Rattle.speak_setup.specs.declared.setup.Need.{Need}
use Rattle.speak_setup.specs.declared.setup.Need.TheVariants.{Both, Classifier}
use Rattle.speak_setup.specs.declared.setup.Setup.{Setup}
use Rattle.speak_setup.specs.declared.setup.SetupFault.{SetupFault}
use Rattle.text_lines.specs.Lines.{lines}

-- these are all values
abbrev AreValues : List (List ℕ) → Type 0
AreValues [] = Unit {0}
AreValues (value ∷ more) = IsValue value × AreValues more

values_are : (all : List (List ℕ)) (given : List (Option Entry)) (key : Key) → AllGive all given → AreValues (values given key)
values_are all [] key g = tt
values_are [] (x ∷ given) key g = absurd g
values_are (line ∷ all) (None ∷ given) key g = values_are all given key g.1
values_are (line ∷ all) (Some e ∷ given) key g = by (same_key e.key key) refl (values_are all given key g.1) where
  by : (t : Bool) → same_key e.key key ≡ t → AreValues (values given key) → AreValues (values (Some e ∷ given) key)
  by true is more = rw is (g.0.is_assigned.is_quoted.is_value, more)
  by false is more = rw is more

-- the bytes of a name that can be fetched
abbrev ArePrinted : List ℕ → Type 0
ArePrinted name = All (λ b. (32 ≤ b) × (b ≤ 126)) name

both : (a b : Bool) → (a && b) ≡ true → (a ≡ true) × (b ≡ true)
both true b h = (refl, h)
both false b h = absurd (let other : false ≡ true = h in cc)

printed : (b : ℕ) → is_value_byte b ≡ true → (32 ≤ b) × (b ≤ 126)
printed b h =
    let low = both _ _ (both _ _ (both _ _ h).0).0 in
    (leb-true _ _ low.0, leb-true _ _ low.1)

value_printed : (value : List ℕ) → IsValue value → ArePrinted value
value_printed value v k d inside = printed _ (v.bytes k d inside)

there : (l : List (List ℕ)) → (length l == 0) ≡ false → 1 ≤ length l
there [] h = absurd (let e : true ≡ false = h in cc)
there (x ∷ l) h = omega arith

some_first : (f : Key → List (List ℕ)) (k : Key) (more : List Key) → first_missing (k ∷ more) f ≡ None → (1 ≤ length (f k)) × (first_missing more f ≡ None)
some_first f k more h = at (length (f k) == 0) refl h where
  at : (a : Bool) → (length (f k) == 0) ≡ a → first_missing (k ∷ more) f ≡ None → (1 ≤ length (f k)) × (first_missing more f ≡ None)
  at true p h = absurd (let e : Some k ≡ None = rw p at h in cc)
  at false p h = (there (f k) p, rw p at h)

-- each of these keys has a value
abbrev AllThere : (Key → List (List ℕ)) → List Key → Type 0
AllThere f [] = Unit {0}
AllThere f (k ∷ more) = (1 ≤ length (f k)) × AllThere f more

all_there : (f : Key → List (List ℕ)) (keys : List Key) → first_missing keys f ≡ None → AllThere f keys
all_there f [] h = tt
all_there f (k ∷ more) h = let first = some_first f k more h in (first.0, all_there f more first.1)

some_values : (f : Key → List (List ℕ)) (need : Need) → first_missing (needed need) f ≡ None → 1 ≤ length (f TokenizerRule)
some_values f Both complete = (all_there f (needed Both) complete).1.0
some_values f Classifier complete = (all_there f (needed Classifier) complete).1.0

-- a key that is given one name, and another that is given rules
named : (all : List (List ℕ)) (given : List (Option Entry)) (key : Key) (grammar : List ℕ) (rules : List (List ℕ)) → AllGive all given → values given key ≡ grammar ∷ [] → 1 ≤ length rules → length rules ≤ most_rules → IsNamed grammar rules
named all given key grammar rules gives is some few = record { printed = value_printed grammar (subst AreValues is (values_are all given key gives)).0; some = some; few = few }

verbalizer_known : (need : Need) (all : List (List ℕ)) (names : SetupNames) → IsSetup need all names → HasVerbalizer need names
verbalizer_known Classifier all names s = tt
verbalizer_known Both all names s = at names.verbalizer s.verbalizer where
  needs : (1 ≤ length (values s.given VerbalizerGrammar)) × (1 ≤ length (values s.given VerbalizerRule))
  needs = let all = all_there (values s.given) (needed Both) s.complete in (all.1.1.0, all.1.1.1.0)

  at : (v : Option (List ℕ)) → values s.given VerbalizerGrammar ≡ option_to_list v → IsSomeAnd v (λ grammar. IsNamed grammar names.verbalizer_rules)
  at None is = absurd (let n : 1 ≤ 0 = subst (λ l. 1 ≤ length l) is needs.0 in omega (arith, n))
  at (Some grammar) is =
      named all s.given VerbalizerGrammar grammar names.verbalizer_rules s.are_free.gives is (subst (λ l. 1 ≤ length l) s.verbalizer_rules needs.1) (subst (λ l. length l ≤ most_rules) s.verbalizer_rules (s.are_free.fit VerbalizerRule))

names_known : (need : Need) (all : List (List ℕ)) (names : SetupNames) → IsSetup need all names → HasNames need names
names_known need all names s = record {
  tokenizer = named all s.given TokenizerGrammar names.tokenizer names.tokenizer_rules s.are_free.gives s.tokenizer (subst (λ l. 1 ≤ length l) s.tokenizer_rules (some_values (values s.given) need s.complete)) (subst (λ l. length l ≤ most_rules) s.tokenizer_rules (s.are_free.fit TokenizerRule));
  verbalizer = verbalizer_known need all names s;
}

setup_names : (need : Need) (text : List ℕ) (names : SetupNames) → SetupText need text (Ok names) → HasNames need names
setup_names need text names (is_setup n s) = names_known need (lines text) n s

pub result_names : (need : Need) (text : List ℕ) (r : Result Setup SetupFault) → IfSome (outcome_of r) (SetupText need text) → IfOk r (λ setup. HasNames need (names_of setup))
result_names need text (Ok s) h = setup_names need text (names_of s) h
result_names need text (Err fault) h = tt
