-- What a job writes to its output: the words of each line, the sizes of rules, or the summary of a sample.
use Rattle.std.specs.Prelude.{ℕ, List, [], ◌∷◌, ◌++◌, Ok, Err, Some, None, Bool, true, false, codes, map}
use Rattle.std.specs.Fmt.{decimal}
use Rattle.normaliser.specs.Lines.{Answer}
use Rattle.sample_lines.specs.Lines.{sampled}
use Rattle.sample_lines.specs.Summary.{Said, summary_text, totals_of}
use Rattle.speak_setup.specs.Setups.{SetupNames}
use Rattle.speak_words.specs.Asked.{Job, check, classify, sample, speak}
use Rattle.text_lines.specs.Lines.{lines}
use Rattle.weighted_relations.specs.Expressions.{Expression, size}
use Rattle.speak_core.specs.Answers.{written}
use Rattle.speak_core.specs.Plans.{Plan}
use Rattle.speak_core.specs.Reports.{Reporting, no_reporting}

-- so many lines of the sample, from a state on
abbrev pub sample_lines : ℕ → ℕ → List (List ℕ)
sample_lines count start = (sampled count start).value

-- the lines that a job speaks, of an input or of the sample
abbrev pub lines_for : Job → List ℕ → List (List ℕ)
lines_for (speak setup) input = lines input
lines_for (classify setup) input = lines input
lines_for (check setup) input = []
lines_for (sample count start) input = sample_lines count start

-- whether the job reads the input
abbrev pub reads_input : Job → Bool
reads_input (speak setup) = true
reads_input (classify setup) = true
reads_input (check setup) = false
reads_input (sample count start) = false

-- what the job reports, where this is wanted: where it speaks no lines, nothing
abbrev pub reports_for : Job → Reporting → Reporting
reports_for (speak setup) report = report
reports_for (classify setup) report = report
reports_for (check setup) report = no_reporting
reports_for (sample count start) report = report

-- a rule with its size
abbrev pub rule_line : List ℕ → List ℕ → Expression → List ℕ
rule_line kind name e = kind ++ (codes " " ++ (name ++ (codes " size " ++ (decimal (size e) ++ 10 ∷ []))))

-- the rules of these names with their sizes
abbrev pub rule_lines : List ℕ → List (List ℕ) → List Expression → List ℕ
rule_lines kind [] es = []
rule_lines kind (name ∷ names) [] = []
rule_lines kind (name ∷ names) (e ∷ es) = rule_line kind name e ++ rule_lines kind names es

-- the rules of the tokeniser, and then those of the verbaliser
abbrev pub rules_text : SetupNames → List Expression → List Expression → List ℕ
rules_text names classifier verbaliser = rule_lines (codes "tokenizer_rule") names.tokenizer_rules classifier ++ rule_lines (codes "verbalizer_rule") names.verbalizer_rules verbaliser

abbrev pub checked_text : Plan → List ℕ
checked_text plan = rules_text plan.names plan.classifier plan.verbaliser

-- what an answer adds to a summary: its words, and of a refused line none
abbrev pub said_of : Answer → Said
said_of (Ok words) = Some words
said_of (Err fault) = None

-- the summary of what lines say
abbrev pub summary_of : List Answer → List ℕ
summary_of answers = summary_text (totals_of (map said_of answers))

-- what a job writes of what its lines say
abbrev pub out_text : Job → Plan → List Answer → List ℕ
out_text (speak setup) plan answers = written answers
out_text (classify setup) plan answers = written answers
out_text (check setup) plan answers = checked_text plan
out_text (sample count start) plan answers = summary_of answers
