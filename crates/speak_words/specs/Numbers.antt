-- What clap found for an option whose value is a number.
use Rattle.std.specs.Prelude.{◌≡◌, ℕ, pos, Some}
use Rattle.clap.specs.Words.{Text, one_text, without_minus}
use Rattle.clap.specs.Values.{IsSignedIn}
use Rattle.clap.specs.declared.parser.matches.Found.{Found}

-- where there is a text, it is what follows the minus, if there is one, of a decimal in these bounds
abbrev pub HasNumberIn : ℕ → ℕ → Text → Found → Type 0
HasNumberIn least most id found =
    (text : Text) → one_text found id ≡ Some text → (given : Text) × (text ≡ without_minus given) × IsSignedIn (pos least) (pos most) given
