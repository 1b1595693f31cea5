-- What the entries of a string file stand for, and which values they have.
use Rattle.std.specs.Prelude.{◌≡◌, ℕ, List, ◌++◌}
use Rattle.weighted_relations.specs.Expressions.{Expression, text, cross, weighted}
use Rattle.checked_expressions.specs.Nodes.{Checked, unfit, fit, text_of, cross_of, sized}
use Rattle.checked_expressions.specs.declared.fault.KindFault.TheVariants.{TooLarge}
use Rattle.string_files.specs.StringFiles.{Entries, bad_line, entries}
use Rattle.string_files.specs.declared.entries.Entry.{Entry}
use Rattle.string_files.specs.declared.entries.Entry.TheVariants.{Both, Pair, Weighing}
use Rattle.string_files.specs.declared.fault.LexiconFault.{LexiconFault}
use Rattle.string_files.specs.declared.fault.LexiconFault.TheVariants.{BadPair, Unfit}

-- the expression of an entry
abbrev pub said_by : Entry → Expression
said_by (Both bytes) = text bytes.now
said_by (Pair input output) = cross (text input.now) (text output.now)
said_by (Weighing input output w) = weighted (cross (text input.now) (text output.now)) w

-- what is made of an expression that is checked
abbrev pub with_fit : Checked → (Expression → Checked) → Checked
with_fit (unfit fault) f = unfit fault
with_fit (fit e) f = f e

abbrev pub pair_of : List ℕ → List ℕ → Checked
pair_of input output = with_fit (text_of input) (λ a. with_fit (text_of output) (λ b. cross_of a b))

-- what making an entry's nodes gives
abbrev pub made_of : Entry → Checked
made_of (Both bytes) = text_of bytes.now
made_of (Pair input output) = pair_of input.now output.now
made_of (Weighing input output w) = with_fit (pair_of input.now output.now) (λ e. sized (weighted e w))

-- why there is none of a string file whose entries are too large before these
abbrev pub OversizedBy : Entries → LexiconFault → Type 0
OversizedBy (bad_line n) fault = fault ≡ BadPair n
OversizedBy (entries es) fault = fault ≡ Unfit TooLarge

-- entries before others
abbrev pub before : List Expression → Entries → Entries
before es (bad_line n) = bad_line n
before es (entries us) = entries (es ++ us)
