-- The command as one simple command of clap.
use Rattle.std.specs.Prelude.{ℕ, pos, [], ◌∷◌, Some, codes, fold}
use Rattle.clap.specs.Words.{App, Rule, Text, new_app, new_rule, with_rule}
use Rattle.clap.specs.declared.builder.action.ArgAction.TheVariants.{SetTrue}
use Rattle.clap.specs.declared.builder.value_parser.ValueParser.TheVariants.{Signed}

-- `--NAME TEXT`
abbrev pub text_option : Text → Rule
text_option name = record (new_rule name) { long = Some name }

-- `--NAME NUMBER`, from the least to the most
abbrev pub number_option : Text → ℕ → ℕ → Rule
number_option name least most = record (text_option name) { parser = Some (Signed (pos least) (pos most)) }

-- `--NAME` alone
abbrev pub flag : Text → Rule
flag name = record (text_option name) { action = Some SetTrue }

-- the command with the options that say how a job is done
abbrev pub with_settings : App → App
with_settings jobs = fold with_rule jobs (
    number_option (codes "places") 1 4096
    ∷ number_option (codes "jobs") 1 63
    ∷ number_option (codes "sweep") 0 10000
    ∷ flag (codes "report")
    ∷ [])

-- the command with its options
abbrev pub command : App
command = with_settings (fold with_rule (new_app (codes "jackdawtray")) (
    text_option (codes "setup")
    ∷ text_option (codes "mode")
    ∷ number_option (codes "count") 1 100000
    ∷ number_option (codes "start") 0 2147483647
    ∷ []))
