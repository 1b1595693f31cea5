-- What is told of a setup or a grammar that is refused.
use Rattle.std.specs.Prelude.{ℕ, List, [], ◌∷◌, ◌++◌, codes}
use Rattle.std.specs.Fmt.{decimal}
use Rattle.speak_setup.specs.declared.setup.SetupFault.{SetupFault}
use Rattle.speak_setup.specs.declared.setup.SetupFault.TheVariants.{BadLine, Repeated, Missing, Memory as SetupMemory}
use Rattle.thrax_syntax.specs.declared.fault.ReadFault.{ReadFault}
use Rattle.thrax_syntax.specs.declared.fault.ReadFault.TheVariants.{BadLexeme, Syntax, BadWeight, TooDeep, Memory as ReadMemory}
use Rattle.thrax_meaning.specs.declared.why.Why.{Why}
use Rattle.thrax_meaning.specs.declared.why.Why.TheVariants.{Read, NotFound, Unknown, NotExported, Twice, ImportLoop, ImportDepth, Arity, NotAcceptor, IsWeighted, Unsupported, BadPair, TooLarge}

-- the setup isn't there
abbrev pub absent_text : List ℕ
absent_text = codes "setup: not found" ++ 10 ∷ []

-- the first fault of a setup (want of memory is none)
abbrev pub setup_text : SetupFault → List ℕ
setup_text (BadLine number) = codes "setup: line " ++ (decimal number ++ (codes " not understood" ++ 10 ∷ []))
setup_text (Repeated number) = codes "setup: line " ++ (decimal number ++ (codes " repeats a key" ++ 10 ∷ []))
setup_text (Missing key) = codes "setup: " ++ (key ++ (codes " is missing" ++ 10 ∷ []))
setup_text SetupMemory = []

-- the grammar file exports no such rule
abbrev pub no_rule_text : List ℕ → List ℕ → List ℕ
no_rule_text rule file = codes "setup: no rule " ++ (rule ++ (codes " in " ++ (file ++ 10 ∷ [])))

-- a reading of the rule may hold a mark
abbrev pub marked_text : List ℕ → List ℕ → List ℕ
marked_text rule file = codes "setup: rule " ++ (rule ++ (codes " in " ++ (file ++ (codes " holds a mark" ++ 10 ∷ []))))

-- a rewrite in the rule may read the empty text
abbrev pub empty_text : List ℕ → List ℕ
empty_text rule = codes "setup: rule " ++ (rule ++ (codes " rewrites the empty text" ++ 10 ∷ []))

-- a fault at a byte of a file, from 0 on
abbrev pub at_byte : List ℕ → ℕ → List ℕ → List ℕ
at_byte file byte what = file ++ (codes ": byte " ++ (decimal byte ++ (codes ": " ++ (what ++ 10 ∷ []))))

-- a refusal at a statement of a file, from 1 on
abbrev pub at_statement : List ℕ → ℕ → List ℕ → List ℕ
at_statement file statement what = file ++ (codes ": statement " ++ (decimal statement ++ (codes ": " ++ (what ++ 10 ∷ []))))

-- a call has another number of arguments
abbrev pub arity_text : ℕ → ℕ → List ℕ
arity_text wanted given = (codes "wants " ++ decimal wanted) ++ (codes " arguments, has " ++ decimal given)

-- the cause of a refusal at a statement
abbrev pub cause_text : Why → List ℕ
cause_text (Read fault) = []
cause_text (NotFound name) = codes "not found " ++ name
cause_text (Unknown name) = codes "unknown name " ++ name
cause_text (NotExported name) = name ++ codes " not exported"
cause_text (Twice name) = name ++ codes " defined twice"
cause_text (ImportLoop name) = name ++ codes " imports itself"
cause_text ImportDepth = codes "imports deeper than 32"
cause_text (Arity wanted given) = arity_text wanted given
cause_text NotAcceptor = codes "not an acceptor"
cause_text IsWeighted = codes "weighted"
cause_text Unsupported = codes "not supported"
cause_text (BadPair pairs number) = codes "bad pair in " ++ (pairs ++ (codes " line " ++ decimal number))
cause_text TooLarge = codes "too large"

-- a text that is no grammar file (want of memory is no such fault)
abbrev pub read_text : List ℕ → ReadFault → List ℕ
read_text file (BadLexeme byte) = at_byte file byte (codes "bad lexeme")
read_text file (Syntax statement) = at_statement file statement (codes "syntax")
read_text file (BadWeight byte) = at_byte file byte (codes "bad weight")
read_text file (TooDeep byte) = at_byte file byte (codes "brackets too deep")
read_text file ReadMemory = []

-- the refusal of a file, or of one of its statements
abbrev pub refusal_text : List ℕ → ℕ → Why → List ℕ
refusal_text file statement (Read fault) = read_text file fault
refusal_text file statement why = at_statement file statement (cause_text why)
