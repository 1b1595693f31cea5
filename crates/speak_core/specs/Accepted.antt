-- What words and files ask for: a plan, or a refusal with its text.
use Rattle.std.specs.Prelude.{◌≡◌, ℕ, List, [], ◌∷◌, ◌++◌, slice_get, Option, Some, None, Result, Ok, Err, String, if◌then◌else◌}
use Rattle.std.specs.declared.alloc.Global.{Global}
use Rattle.norm_base.specs.Files.{Files, file_of}
use Rattle.weighted_relations.specs.Expressions.{Expression, is_marked}
use Rattle.normaliser.specs.Loads.{IsFirstEmpty, NoneRewritesEmpty}
use Rattle.speak_setup.specs.Setups.{SetupNames, SetupText}
use Rattle.speak_setup.specs.declared.setup.Need.{Need}
use Rattle.speak_setup.specs.declared.setup.Need.TheVariants.{Both, Classifier}
use Rattle.speak_setup.specs.declared.setup.SetupFault.{SetupFault}
use Rattle.thrax_meaning.specs.declared.why.Why.{Why}
use Rattle.thrax_link.specs.Exports.{expression_named}
use Rattle.thrax_link.specs.Linking.{Linked, refuses, exporting}
use Rattle.speak_words.specs.Asked.{Job}
use Rattle.speak_core.specs.Requests.{Request, files_for, job_in, request_for}
use Rattle.speak_core.specs.Plans.{Plan, rules_of}
use Rattle.speak_core.specs.Texts.{absent_text, setup_text, no_rule_text, marked_text, empty_text, refusal_text}
use Rattle.speak_core.specs.declared.requests.Mode.{Mode}
use Rattle.speak_core.specs.declared.requests.Mode.TheVariants.{Classify, Speak}

-- something that is asked for, or a refusal with its text
abbrev pub OrText : Type 0 → Type 0
OrText A = Result A (List ℕ)

-- a rule of a linked file has to be exported, and then without marks
abbrev pub checked : List ℕ → List ℕ → Option Expression → OrText Expression
checked file name None = Err (no_rule_text name file)
checked file name (Some e) = if is_marked e then Err (marked_text name file) else Ok e

-- one more expression, where no rule is refused
abbrev pub with_first : OrText Expression → OrText (List Expression) → OrText (List Expression)
with_first (Err text) rest = Err text
with_first (Ok e) (Err text) = Err text
with_first (Ok e) (Ok es) = Ok (e ∷ es)

-- the expressions of rules in order, or the text of the first that is refused
abbrev pub named : List ℕ → List (List ℕ × Expression) → List (List ℕ) → OrText (List Expression)
named file exports [] = Ok []
named file exports (name ∷ names) = with_first (checked file name (expression_named exports name)) (named file exports names)

-- What rules of a grammar file come to: the file is linked with all that it imports, and then they are looked up.
pub data RulesOf (files : Files) (file : List ℕ) (rules : List (List ℕ)) : OrText (List Expression) → Type 0 where
  unlinked : (at : List ℕ) (statement : ℕ) (why : Why) → Linked files file (refuses at statement why) → RulesOf files file rules (Err (refusal_text at statement why))
  linked : (exports : List (List ℕ × Expression)) (found : OrText (List Expression)) → Linked files file (exporting exports) → named file exports rules ≡ found → RulesOf files file rules found

-- what the classifier's rules come to
abbrev pub ClassifierOf : Files → SetupNames → OrText (List Expression) → Type 0
ClassifierOf files names = RulesOf files names.tokenizer names.tokenizer_rules

-- what the verbaliser's rules come to, which mode classify doesn't look at
abbrev pub VerbaliserOf : Files → Mode → SetupNames → OrText (List Expression) → Type 0
VerbaliserOf files Classify names found = found ≡ Ok []
VerbaliserOf files Speak names found = (file : List ℕ) × (names.verbalizer ≡ Some file) × RulesOf files file names.verbalizer_rules found

-- The plan of a setup's rules before they are built. The classifier's are looked up before the verbaliser's.
pub data PlanOf (files : Files) (mode : Mode) (names : SetupNames) : OrText Plan → Type 0 where
  no_classifier : (text : List ℕ) → ClassifierOf files names (Err text) → PlanOf files mode names (Err text)
  no_verbaliser : (classifier : List Expression) (text : List ℕ) → ClassifierOf files names (Ok classifier) → VerbaliserOf files mode names (Err text) → PlanOf files mode names (Err text)
  has_both : (classifier verbaliser : List Expression) → ClassifierOf files names (Ok classifier) → VerbaliserOf files mode names (Ok verbaliser)
      → PlanOf files mode names (Ok (record { mode = mode; names = names; classifier = classifier; verbaliser = verbaliser }))

-- the names of all rules, in the order in which they are built
abbrev pub all_rules : SetupNames → List (List ℕ)
all_rules names = names.tokenizer_rules ++ names.verbalizer_rules

-- What the names of a setup ask for in a mode. All rules are looked up, and then they are built in order.
pub data NamesAsk (files : Files) (mode : Mode) (names : SetupNames) : OrText Plan → Type 0 where
  unplanned : (text : List ℕ) → PlanOf files mode names (Err text) → NamesAsk files mode names (Err text)
  rewrites_empty : (plan : Plan) (number : ℕ) (rule : List ℕ) → PlanOf files mode names (Ok plan) → IsFirstEmpty (rules_of plan) number → slice_get (all_rules names) number ≡ Some rule → NamesAsk files mode names (Err (empty_text rule))
  planned : (plan : Plan) → PlanOf files mode names (Ok plan) → NoneRewritesEmpty (rules_of plan) → NamesAsk files mode names (Ok plan)

-- what a mode needs of its setup
abbrev pub need_of : Mode → Need
need_of Classify = Classifier
need_of Speak = Both

-- what a request asks for
pub data RequestAsks (files : Files) (request : Request) : OrText Plan → Type 0 where
  absent : file_of files request.setup ≡ None → RequestAsks files request (Err absent_text)
  at_fault : (text : List ℕ) (fault : SetupFault) → file_of files request.setup ≡ Some text → SetupText (need_of request.mode) text (Err fault) → RequestAsks files request (Err (setup_text fault))
  read : (text : List ℕ) (names : SetupNames) (asked : OrText Plan) → file_of files request.setup ≡ Some text → SetupText (need_of request.mode) text (Ok names) → NamesAsk files request.mode names asked → RequestAsks files request asked

-- what a job asks for of its files
abbrev pub JobAsks : Files → Job → OrText Plan → Type 0
JobAsks files job asked = RequestAsks (files_for job files) (request_for job) asked

-- the words are a job, and with these files it asks for this
pub record Asks (words : List (String Global)) (files : Files) (asked : OrText Plan) : Type 0 where
  pub job : Job
  pub is_job : job_in words ≡ Some job
  pub asks : JobAsks files job asked

-- the words and the files ask for this plan
abbrev pub Accepted : List (String Global) → Files → Plan → Type 0
Accepted words files plan = Asks words files (Ok plan)

-- they ask for a refusal with this text
abbrev pub Refused : List (String Global) → Files → List ℕ → Type 0
Refused words files text = Asks words files (Err text)

-- they ask for no plan
abbrev pub AskForNone : List (String Global) → Files → Type 0
AskForNone words files = (plan : Plan) → Accepted words files plan → ⊥

-- this is asked for, and nothing else
pub record IsOnly {A : Type 0} (Asks : A → Type 0) (asked : A) : Type 0 where
  pub found : Asks asked
  pub only : (other : A) → Asks other → other ≡ asked

-- the words are a job, and what it names is refused with this text
abbrev pub IsRefusal : List (String Global) → Files → List ℕ → Type 0
IsRefusal words files text = IsOnly (Asks words files) (Err text)
