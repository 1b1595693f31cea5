-- The command, built by a parse.
use Rattle.std.proofs.Common.{◌≡◌, ◌∙◌, ◌⊎◌, ◌&&◌, ap, Bool, true, false, not, List, [], ◌∷◌, refl, inl, inr, codes, arith, rules}
use Rattle.std.proofs.lemmas.Bool.{ne_eqb}
use Rattle.std.specs.Prelude.{pos}
use Rattle.clap.specs.Walk.{is_empty}
use Rattle.clap.specs.Simple.{has_plain_fields}
use Rattle.clap.specs.Facts.{IsParsed}
use Rattle.clap.specs.Words.{App, BuildsOrBreaks, app_of, built, found_of, groups_of, has_subcommand, is_buildable, is_broken, is_simple, is_simple_and_free}
use Rattle.clap.specs.declared.builder.command.Command.{Command}
use Rattle.clap.specs.declared.builder.command.Command.TheViews.{out-Command as fields_of}
use Rattle.clap.specs.declared.builder.value_parser.ValueParser.TheVariants.{Signed}
use Rattle.clap.specs.declared.parser.matches.ArgMatches.{ArgMatches}
use Rattle.speak_words.specs.Numbers.{HasNumberIn}
use Rattle.speak_words.specs.Options.{command}
use Rattle.speak_words.proofs.Found.{Parses, given}

pub simple : is_simple command ≡ true
simple = refl

pub simple-free : is_simple_and_free command ≡ true
simple-free = refl

buildable : is_buildable command ≡ true
buildable = refl

both : (a b : Bool) → (a && b) ≡ true → (a ≡ true) × (b ≡ true)
both true b h = (refl, h)
both false b h = cc

empty : {X : Type 0} (xs : List X) → is_empty xs ≡ true → xs ≡ []
empty [] h = refl
empty (x ∷ xs) h =
    let some : is_empty (x ∷ xs) ≡ false = ne_eqb _ _ (λ e. omega arith) in
    cc

not-true : (b : Bool) → not b ≡ true → b ≡ false
not-true true h = cc
not-true false h = refl

-- a plain command has no groups and no global arguments
plain : (c : Command) → has_plain_fields (fields_of c) ≡ true → (groups_of c ≡ []) × ((fields_of c).has_globals ≡ false)
plain c h =
    let groups = both _ _ h in
    let external = both _ _ groups.1 in
    let globals = both _ _ external.1 in
    (empty _ groups.0, not-true _ globals.0)

-- what the number options are
count-parses : (a : App) → (a ≡ command) ⊎ (a ≡ built command) → Parses (codes "count") (Signed (pos 1) (pos 100000)) a.top.rules
count-parses a (inl is) = rw is (search rules)
count-parses a (inr is) = rw is (search rules)

start-parses : (a : App) → (a ≡ command) ⊎ (a ≡ built command) → Parses (codes "start") (Signed (pos 0) (pos 2147483647)) a.top.rules
start-parses a (inl is) = rw is (search rules)
start-parses a (inr is) = rw is (search rules)

places-parses : (a : App) → (a ≡ command) ⊎ (a ≡ built command) → Parses (codes "places") (Signed (pos 1) (pos 4096)) a.top.rules
places-parses a (inl is) = rw is (search rules)
places-parses a (inr is) = rw is (search rules)

jobs-parses : (a : App) → (a ≡ command) ⊎ (a ≡ built command) → Parses (codes "jobs") (Signed (pos 1) (pos 63)) a.top.rules
jobs-parses a (inl is) = rw is (search rules)
jobs-parses a (inr is) = rw is (search rules)

sweep-parses : (a : App) → (a ≡ command) ⊎ (a ≡ built command) → Parses (codes "sweep") (Signed (pos 0) (pos 10000)) a.top.rules
sweep-parses a (inl is) = rw is (search rules)
sweep-parses a (inr is) = rw is (search rules)

plain-top : (a : App) → (a ≡ command) ⊎ (a ≡ built command) → a.top.is_plain ≡ true
plain-top a (inl is) = rw is refl
plain-top a (inr is) = rw is refl

-- a parse that succeeds leaves the command as it was, or built
left_by : (old new : Command) → app_of old ≡ command → BuildsOrBreaks old new → (is_broken new ≡ true → ⊥)
    → (app_of new ≡ command) ⊎ (app_of new ≡ built command)
left_by old new is (inl broken) whole = absurd (whole broken)
left_by old new is (inr (builds, names, inl same)) whole = inl (same ∙ is)
left_by old new is (inr (builds, names, inr made)) whole =
    inr (made (ap is_buildable is ∙ buildable) ∙ ap built is)

-- what it found for the number options are numbers in their bounds
pub record HasNumbers (m : ArgMatches) : Type 0 where
  pub count : HasNumberIn 1 100000 (codes "count") (found_of m)
  pub start : HasNumberIn 0 2147483647 (codes "start") (found_of m)
  pub places : HasNumberIn 1 4096 (codes "places") (found_of m)
  pub jobs : HasNumberIn 1 63 (codes "jobs") (found_of m)
  pub sweep : HasNumberIn 0 10000 (codes "sweep") (found_of m)

pub numbers_found : (old new : Command) (m : ArgMatches) → app_of old ≡ command → BuildsOrBreaks old new → (is_broken new ≡ true → ⊥)
    → ((fields_of new).has_globals ≡ false → IsParsed new (found_of m) (has_subcommand m)) → HasNumbers m
numbers_found old new m is after whole parsed =
    let app : (app_of new ≡ command) ⊎ (app_of new ≡ built command) = left_by old new is after whole in
    let bare : (groups_of new ≡ []) × ((fields_of new).has_globals ≡ false) = plain new (plain-top (app_of new) app) in
    let values = (parsed bare.1).values in
    record {
      count = given new (found_of m) (codes "count") (Signed (pos 1) (pos 100000)) values bare.0 (λ e. cc) (count-parses (app_of new) app);
      start = given new (found_of m) (codes "start") (Signed (pos 0) (pos 2147483647)) values bare.0 (λ e. cc) (start-parses (app_of new) app);
      places = given new (found_of m) (codes "places") (Signed (pos 1) (pos 4096)) values bare.0 (λ e. cc) (places-parses (app_of new) app);
      jobs = given new (found_of m) (codes "jobs") (Signed (pos 1) (pos 63)) values bare.0 (λ e. cc) (jobs-parses (app_of new) app);
      sweep = given new (found_of m) (codes "sweep") (Signed (pos 0) (pos 10000)) values bare.0 (λ e. cc) (sweep-parses (app_of new) app);
    }
