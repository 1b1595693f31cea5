-- The job of words that clap takes or refuses.
use Rattle.std.proofs.Common.{◌≡◌, ◌∙◌, ap, true, false, cond, List, [], ◌∷◌, Option, None, Some, IfSome, refl, sym, subst, inl, inr, arith}
use Rattle.std.proofs.lemmas.Bool.{ne_eqb}
use Rattle.clap.specs.Walk.{is_empty}
use Rattle.clap.specs.Words.{App, HasKind, HasMatchesOf, IsAmong, Kinds, Text, fault_of, found_of, is_simple, is_simple_and_free, kind_of, matches_of, rows_of}
use Rattle.clap.specs.declared.error.Error.{Error}
use Rattle.clap.specs.declared.error.kind.ErrorKind.{ErrorKind}
use Rattle.clap.specs.declared.error.kind.ErrorKind.TheVariants.{OutOfMemory}
use Rattle.clap.specs.declared.parser.matches.ArgMatches.{ArgMatches}
use Rattle.speak_words.specs.Asked.{Job, job_by, job_for, settings_by, settings_for}
use Rattle.speak_words.specs.declared.asked.Asked.{Asked}
use Rattle.speak_words.specs.Options.{command}
use Rattle.speak_words.proofs.Built.{simple, simple-free}

none_fail : (kinds : Kinds) (o : Option Job) → kinds ≡ [] → cond (is_empty kinds) o None ≡ o
none_fail kinds o none = rw none refl

some_fails : (kinds : Kinds) (o : Option Job) (k : ErrorKind) → IsAmong k kinds → None ≡ cond (is_empty kinds) o None
some_fails [] o k among = absurd among
some_fails (x ∷ xs) o k among =
    let some : is_empty (x ∷ xs) ≡ false = ne_eqb _ _ (λ e. omega arith) in
    rw some refl

pub job-taken : (a : App) (words : List Text) (m : ArgMatches) (asked : Option Job) → a ≡ command → HasMatchesOf a words m
    → (is_simple_and_free a ≡ true → fault_of a words ≡ []) → asked ≡ job_by (rows_of (found_of m)) → asked ≡ job_for words
unfolding job_for
job-taken a words m asked is matches none job =
    let rows : rows_of (found_of m) ≡ matches_of command words = (matches (ap is_simple is ∙ simple)).0 ∙ ap (λ (b : App). matches_of b words) is in
    let free : fault_of command words ≡ [] = ap (λ (b : App). fault_of b words) (sym is) ∙ none (ap is_simple_and_free is ∙ simple-free) in
    job ∙ ap job_by rows ∙ sym (none_fail (fault_of command words) (job_by (matches_of command words)) free)

pub job-refused : (a : App) (words : List Text) (e : Error) → a ≡ command
    → (is_simple_and_free a ≡ true → HasKind (fault_of a words) e) → (kind_of e ≡ OutOfMemory → ⊥) → None ≡ job_for words
unfolding job_for
job-refused a words e is fails other =
    let kind : HasKind (fault_of command words) e =
    subst (λ (b : App). HasKind (fault_of b words) e) is (fails (ap is_simple_and_free is ∙ simple-free)) in
    elim kind [
      | inl memory ↦ absurd (other memory)
      | inr among ↦ some_fails (fault_of command words) (job_by (matches_of command words)) (kind_of e) among
    ]

pub settings-taken : (a : App) (words : List Text) (m : ArgMatches) (asked : Option Asked) → a ≡ command → HasMatchesOf a words m
    → IfSome asked (λ x. x.settings ≡ settings_by (rows_of (found_of m))) → IfSome asked (λ x. x.settings ≡ settings_for words)
unfolding settings_for
settings-taken a words m None is matches settings = tt
settings-taken a words m (Some x) is matches settings =
    let rows : rows_of (found_of m) ≡ matches_of command words = (matches (ap is_simple is ∙ simple)).0 ∙ ap (λ (b : App). matches_of b words) is in
    settings ∙ ap settings_by rows
