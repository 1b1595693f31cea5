-- What a string file means, and what its reader answers.
use Rattle.std.specs.Prelude.{◌≡◌, ℕ, List, Result, Ok, Err}
use Rattle.std.specs.declared.alloc.Global.{Global}
use Rattle.std.specs.declared.rc.Rc.{Rc}
use Rattle.weighted_relations.specs.Expressions.{union, members}
use Rattle.checked_expressions.specs.Answers.{shared_of}
use Rattle.checked_expressions.specs.Nodes.{Checked, unfit, fit, sized}
use Rattle.checked_expressions.specs.declared.value.Value.{Value}
use Rattle.string_files.specs.StringFiles.{Entries, bad_line, entries, file_entries}
use Rattle.string_files.specs.declared.fault.LexiconFault.{LexiconFault}
use Rattle.string_files.specs.declared.fault.LexiconFault.TheVariants.{BadPair, Unfit, Memory}

-- the number of a line that is no entry, or the union of the entries, where it is checked
pub data Lexicon : Type 0 where
  bad_pair : ℕ → Lexicon
  union_of : Checked → Lexicon

abbrev pub from_entries : Entries → Lexicon
from_entries (bad_line number) = bad_pair number
from_entries (entries es) = union_of (sized (union (members es)))

-- what the bytes of a string file mean
abbrev pub file_lexicon : List ℕ → Lexicon
file_lexicon bytes = from_entries (file_entries bytes)

-- the answer is what the bytes mean, unless memory is wanting
abbrev pub GivesLexicon : Result (Rc Value Global) LexiconFault → Lexicon → Type 0
GivesLexicon (Ok v) l = l ≡ union_of (fit (shared_of v))
GivesLexicon (Err (BadPair line)) l = l ≡ bad_pair line
GivesLexicon (Err (Unfit fault)) l = l ≡ union_of (unfit fault)
GivesLexicon (Err Memory) l = Unit {0}
