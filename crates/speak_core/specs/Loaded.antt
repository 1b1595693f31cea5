-- What was found on a shelf.
use Rattle.std.specs.Prelude.{◌≡◌, ◌≤◌, ◌+◌, ℕ, All, List, [], length, Ok, Err, Some, Result, map, slice_get, Vec}
use Rattle.std.specs.declared.alloc.Global.{Global}
use Rattle.core_expressions.specs.Views.{expression_of}
use Rattle.core_expressions.specs.declared.expressions.Expr.{Expr}
use Rattle.norm_base.specs.Files.{Files, file_of}
use Rattle.normaliser.specs.Lines.{Answer, Saying}
use Rattle.normaliser.specs.Loads.{CanBeBuilt, IsFirstEmpty, NoneRewritesEmpty}
use Rattle.speak_setup.specs.Setups.{SetupNames, SetupText, most_rules, names_of}
use Rattle.speak_setup.specs.declared.setup.Need.{Need}
use Rattle.speak_setup.specs.declared.setup.Setup.{Setup}
use Rattle.speak_setup.specs.declared.setup.SetupFault.{SetupFault}
use Rattle.thrax_link.specs.Exports.{exports_of}
use Rattle.thrax_link.specs.Linking.{Linked, Outcome, exporting}
use Rattle.thrax_link.specs.declared.grammar.Export.{Export}
use Rattle.weighted_relations.specs.Expressions.{Expression}
use Rattle.speak_core.specs.Accepted.{RequestAsks, IsOnly, OrText, RulesOf, all_rules, need_of}
use Rattle.speak_core.specs.Crews.{HasRun, IsCrewOf}
use Rattle.speak_core.specs.Left.{IsOfPlan}
use Rattle.speak_core.specs.Outputs.{checked_text}
use Rattle.speak_core.specs.Reports.{swept_sum}
use Rattle.speak_core.specs.Requests.{Request}
use Rattle.speak_words.specs.declared.asked.Settings.{Settings}
use Rattle.speak_core.specs.Parts.{says_of}
use Rattle.speak_core.specs.Plans.{Plan, rules_of, saying_of}
use Rattle.speak_core.specs.Texts.{empty_text}
use Rattle.speak_core.specs.declared.loading.Rules.{Rules}
use Rattle.speak_core.specs.declared.speakers.Loaded.{Loaded}
use Rattle.speak_core.specs.declared.stop.Stop.{Stop}
use Rattle.speak_core.specs.declared.stop.Stop.TheVariants as stop
use Rattle.speak_core.specs.declared.requests.Mode.{Mode}

-- A stop that tells a refusal is the one that is asked for; other stops say nothing of it.
abbrev pub StopsAs : {A : Type 0} → (OrText A → Type 0) → Stop → Type 0
StopsAs P (stop.Refused text) = IsOnly P (Err text.items)
StopsAs P _ = Unit {0}

-- what is asked for, by what it stands for, or the refusal
abbrev pub Finds : {A B : Type 0} → (B → A) → (OrText A → Type 0) → Result B Stop → Type 0
Finds view P (Ok found) = IsOnly P (Ok (view found))
Finds view P (Err s) = StopsAs P s

-- The text of a refusal is told where there is one. Want of memory says nothing of it.
abbrev pub TellsText : {A : Type 0} → OrText A → Stop → Type 0
TellsText found (stop.Refused text) = found ≡ Err text.items
TellsText found stop.Memory = Unit {0}
TellsText found _ = ⊥

-- expressions that are kept
abbrev pub expressions_of : Vec Expr Global → List Expression
expressions_of rules = map expression_of rules.items

-- the plan of a setup's rules in a mode
abbrev pub plan_of : Mode → SetupNames → Rules → Plan
plan_of mode names rules = record { mode = mode; names = names; classifier = expressions_of rules.classifier; verbaliser = expressions_of rules.verbaliser }

-- Rules that a normaliser can be made of, which are as many as their names.
pub record CanLoad (names : SetupNames) (rules : Rules) : Type 0 where
  pub some : 1 ≤ length rules.classifier.items
  pub few : length rules.classifier.items ≤ most_rules
  pub few_words : length rules.verbaliser.items ≤ most_rules
  pub classifier : All CanBeBuilt (expressions_of rules.classifier)
  pub verbaliser : All CanBeBuilt (expressions_of rules.verbaliser)
  pub named : length rules.classifier.items + length rules.verbaliser.items ≤ length (all_rules names)

-- lines say the same by both
abbrev pub SaySame : Saying → Saying → Type 0
SaySame P Q = (line : List ℕ) (answer : Answer) → (P line answer → Q line answer) × (Q line answer → P line answer)

-- a line says no two things
abbrev pub SaysOnce : Saying → Type 0
SaysOnce P = (line : List ℕ) (a b : Answer) → P line a → P line b → a ≡ b

-- a plan is asked for, and this fits it
pub record Planned {B : Type 0} (Fits : Plan → B → Type 0) (P : OrText Plan → Type 0) (b : B) : Type 0 where
  pub plan : Plan
  pub is_only : IsOnly P (Ok plan)
  pub fits : Fits plan b

-- what fits the plan that is asked for, or the refusal
abbrev pub FindsPlanned : {B : Type 0} → (Plan → B → Type 0) → (OrText Plan → Type 0) → Result B Stop → Type 0
FindsPlanned Fits P (Ok b) = Planned Fits P b
FindsPlanned Fits P (Err s) = StopsAs P s

-- its callers may be given lines, by these settings, and nothing was swept yet
pub record IsLoadedBy (settings : Settings) (loaded : Loaded) : Type 0 where
  pub ready : IsCrewOf loaded.speaker.normaliser loaded.crew
  pub by : loaded.crew.settings ≡ settings
  pub unswept : swept_sum loaded.crew.swept ≡ 0
  pub begun : HasRun loaded.speaker.normaliser loaded.crew [] 0

-- by its speaker the lines say the same as by a plan, and its table has the cascades of the plan's rules
pub record SpeaksBy (plan : Plan) (loaded : Loaded) : Type 0 where
  pub says : SaySame (says_of loaded.speaker) (saying_of plan)
  pub of_plan : IsOfPlan loaded.speaker.normaliser plan

-- this text tells the sizes of a plan's rules
abbrev pub ChecksBy : Plan → Vec ℕ Global → Type 0
ChecksBy plan text = text.items ≡ checked_text plan

-- the refusal of the first rule, by its name, of which a rewrite may read the empty text
abbrev pub TellsFirstEmpty : List (List ℕ) → List Expression → Stop → Type 0
TellsFirstEmpty names es (stop.Refused text) = (number : ℕ) × (rule : List ℕ) × IsFirstEmpty es number × (slice_get names number ≡ Some rule) × (text.items ≡ empty_text rule)
TellsFirstEmpty names es stop.Memory = Unit {0}
TellsFirstEmpty names es _ = ⊥

-- a speaker of a plan whose rules can be built, or the refusal of the first that can't
abbrev pub Builds : SetupNames → Plan → Result Loaded Stop → Type 0
Builds names plan (Ok loaded) = SpeaksBy plan loaded × NoneRewritesEmpty (rules_of plan)
Builds names plan (Err s) = TellsFirstEmpty (all_rules names) (rules_of plan) s

-- the sizes of the rules of a plan that can be built, or the refusal of the first that can't
abbrev pub Checks : SetupNames → Plan → Result (Vec ℕ Global) Stop → Type 0
Checks names plan (Ok text) = ChecksBy plan text × NoneRewritesEmpty (rules_of plan)
Checks names plan (Err s) = TellsFirstEmpty (all_rules names) (rules_of plan) s

-- the file of this name is a setup of these names, and of no others
pub record IsSetupFile (files : Files) (name : List ℕ) (need : Need) (names : SetupNames) : Type 0 where
  pub text : List ℕ
  pub there : file_of files name ≡ Some text
  pub reads : SetupText need text (Ok names)
  pub only : (other : Result SetupNames SetupFault) → SetupText need text other → other ≡ Ok names

-- the setup of a request, or the refusal
abbrev pub FindsSetup : Files → Request → Result Setup Stop → Type 0
FindsSetup files request (Ok setup) = IsSetupFile files request.setup (need_of request.mode) (names_of setup)
FindsSetup files request (Err s) = StopsAs (RequestAsks files request) s

-- the file of this name exports this, and nothing else
pub record IsGrammarFile (files : Files) (name : List ℕ) (exports : List (List ℕ × Expression)) : Type 0 where
  pub linked : Linked files name (exporting exports)
  pub only : (other : Outcome) → Linked files name other → other ≡ exporting exports

-- the grammar of this name, or the refusal of whichever rules are asked for
abbrev pub FindsGrammar : Files → List ℕ → Result (List Export) Stop → Type 0
FindsGrammar files name (Ok grammar) = IsGrammarFile files name (exports_of grammar)
FindsGrammar files name (Err s) = (rules : List (List ℕ)) → StopsAs (RulesOf files name rules) s
