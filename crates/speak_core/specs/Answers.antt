-- What the lines of an input say, and what is written and told of them.
use Rattle.std.specs.Prelude.{◌≡◌, ℕ, ◌+◌, ◌*◌, List, [], ◌∷◌, ◌++◌, Ok, Err, Bool, true, false, codes, length}
use Rattle.std.specs.Fmt.{decimal}
use Rattle.std.specs.List.{list_all}
use Rattle.normaliser.specs.Lines.{Answer, Saying}
use Rattle.shared_cascade.specs.Tallies.{no_tally}
use Rattle.shared_cascade.specs.declared.sweeping.Swept.{Swept}
use Rattle.shared_cascade.specs.declared.tallies.Tally.{Tally}
use Rattle.speak_core.specs.Reports.{AllTallied, Reporting, batches_of, end_text, if_wanted, report_text, swept_sum, with_tallies}
use Rattle.normaliser.specs.declared.faults.LineFault.{LineFault}
use Rattle.normaliser.specs.declared.faults.LineFault.TheVariants.{NulByte, LongLine, NoPath, NotTokens, TooManyFields, NoWords, Memory}

-- what each line says, in order
abbrev pub AllSaid : Saying → List (List ℕ) → List Answer → Type 0
AllSaid says [] [] = Unit {0}
AllSaid says [] (answer ∷ answers) = ⊥
AllSaid says (line ∷ lines) [] = ⊥
AllSaid says (line ∷ lines) (answer ∷ answers) = says line answer × AllSaid says lines answers

-- the words of a line and a line feed; the line feed alone where the line is refused
abbrev pub words_text : Answer → List ℕ
words_text (Ok words) = words ++ 10 ∷ []
words_text (Err fault) = 10 ∷ []

-- the words of all lines
abbrev pub written : List Answer → List ℕ
written [] = []
written (answer ∷ answers) = words_text answer ++ written answers

-- what is told of a fault, and a line feed; want of memory is no fault of a line
abbrev pub cause_of : LineFault → List ℕ
cause_of (NulByte at) = codes "byte 0 at " ++ (decimal at ++ 10 ∷ [])
cause_of LongLine = codes "longer than 16384 bytes" ++ 10 ∷ []
cause_of NoPath = codes "no path" ++ 10 ∷ []
cause_of (NotTokens token) = codes "not token text after " ++ (decimal token ++ (codes " tokens" ++ 10 ∷ []))
cause_of (TooManyFields token) = codes "token " ++ (decimal token ++ (codes " has more than 10 fields" ++ 10 ∷ []))
cause_of (NoWords token) = codes "token " ++ (decimal token ++ (codes " has no words" ++ 10 ∷ []))
cause_of Memory = []

-- the fault of the line of this number, where the line is refused
abbrev pub fault_text : ℕ → Answer → List ℕ
fault_text number (Ok words) = []
fault_text number (Err fault) = codes "line " ++ (decimal number ++ (codes ": " ++ cause_of fault))

-- what is told of one line: its fault, and with a report what came of its looks
abbrev pub line_text : Bool → ℕ → Answer → Tally → List ℕ
line_text report number answer t = fault_text number answer ++ if_wanted report (report_text number t)

-- of all lines, which are numbered on from this number; each has its tally
abbrev pub told : Bool → ℕ → List Answer → List Tally → List ℕ
told report number [] ts = []
told report number (answer ∷ answers) [] = []
told report number (answer ∷ answers) (t ∷ ts) = line_text report number answer t ++ told report (number + 1) answers ts

-- of all lines, and with a report their total, and the sweep, if there is one
abbrev pub told_all : Reporting → List Answer → List Tally → Swept → List ℕ
told_all report answers ts w = told report.wanted 1 answers ts ++ if_wanted report.wanted (end_text report.beside (length answers) (with_tallies no_tally ts) w)

-- What may be told of lines that say this.
pub record Tells (report : Reporting) (lines : List (List ℕ)) (answers : List Answer) (text : List ℕ) : Type 0 where
  pub tallies : List Tally
  pub tallied : AllTallied lines answers tallies
  pub swept : Swept
  pub sums : swept_sum swept ≡ report.beside * batches_of (length lines)
  pub is : text ≡ told_all report answers tallies swept

-- the line isn't refused
abbrev pub is_read : Answer → Bool
is_read (Ok words) = true
is_read (Err fault) = false

-- no line is refused
abbrev pub all_read : List Answer → Bool
all_read answers = list_all is_read answers
