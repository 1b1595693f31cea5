-- What a tree means in a scope: its expression, or the first refusal.
-- A name means its expression, and a call the body with the arguments put in. A function is a map from arguments to
-- expressions, made where the function is defined, so it can't see itself or what comes later.
use Rattle.std.specs.Prelude.{ℕ, suc, ◌==◌, nat_lt, List, [], ◌∷◌, ◌++◌, length, codes, Bool, true, false, if◌then◌else◌, None, Some}
use Rattle.std.specs.Str.{bytes_eq, is_utf8}
use Rattle.std.specs.declared.option.Option.{Option}
use Rattle.norm_base.specs.Files.{Files, file_of}
use Rattle.weighted_relations.specs.Rewriting.{Manner, obligatory, optional}
use Rattle.weighted_relations.specs.Expressions.{Expression, weighted, union, concat, star, compose, invert, project, members, input_side, output_side}
use Rattle.checked_expressions.specs.Nodes.{Checked, unfit, fit, sized, text_of, cross_of, minus_of, rewrite_of, plus, maybe, times}
use Rattle.checked_expressions.specs.declared.fault.KindFault.{KindFault}
use Rattle.checked_expressions.specs.declared.fault.KindFault.TheVariants as kinds
use Rattle.string_files.specs.Lexicons.{Lexicon, bad_pair, union_of, file_lexicon}
use Rattle.thrax_syntax.specs.Trees.{TreeTerm, TreeTerms, no_terms, term, LocalTerm}
use Rattle.thrax_syntax.specs.Trees as tree
use Rattle.thrax_meaning.specs.declared.why.Why.{Why}
use Rattle.thrax_meaning.specs.declared.why.Why.TheVariants.{NotFound, Unknown, NotExported, Arity, NotAcceptor, IsWeighted, Unsupported, BadPair, TooLarge}
use Rattle.thrax_meaning.specs.declared.built_ins.BuiltIn.{BuiltIn}
use Rattle.thrax_meaning.specs.declared.built_ins.BuiltIn.TheVariants.{Optimize, Invert, Project, StringFile, CDRewrite}

-- an expression, or why there is none
pub data Taken : Type 0 where
  refused : Why → Taken
  taken : Expression → Taken

-- expressions in order, or why one is refused
pub data AllTaken : Type 0 where
  one_refused : Why → AllTaken
  all_taken : List Expression → AllTaken

mutual
  -- what a name means: an expression, which other files see where it is exported; a function of so many arguments;
  -- or the names of an imported file
  pub data Meaning : Type 0 where
    value : Bool → Expression → Meaning
    function : ℕ → (List Expression → Taken) → Meaning
    file : Scope → Meaning

  -- the names defined so far, the newest first
  pub data Scope : Type 0 where
    empty : Scope
    bound : List ℕ → Meaning → Scope → Scope

-- a parameter or local name of a function, with its expression
pub record Local : Type 0 where
  pub named : List ℕ
  pub stands_for : Expression

abbrev pub followed : Taken → (Expression → Taken) → Taken
followed (refused why) f = refused why
followed (taken e) f = f e

abbrev pub followed_all : AllTaken → (List Expression → Taken) → Taken
followed_all (one_refused why) f = refused why
followed_all (all_taken es) f = f es

abbrev pub onto : Taken → AllTaken → AllTaken
onto (refused why) all = one_refused why
onto (taken e) (one_refused why) = one_refused why
onto (taken e) (all_taken es) = all_taken (e ∷ es)

-- Nodes by their kinds

-- why a grammar is refused whose expression breaks a rule
abbrev pub why_of : KindFault → Why
why_of kinds.NotAcceptor = NotAcceptor
why_of kinds.IsWeighted = IsWeighted
why_of kinds.Unsupported = Unsupported
why_of kinds.TooLarge = TooLarge

-- an expression that is checked
abbrev pub taken_of : Checked → Taken
taken_of (unfit fault) = refused (why_of fault)
taken_of (fit e) = taken e

-- Names

abbrev pub found : Scope → List ℕ → Option Meaning
found empty n = None
found (bound m meaning older) n = if bytes_eq m n then Some meaning else found older n

abbrev pub local : List Local → List ℕ → Option Expression
local [] n = None
local (l ∷ ls) n = if bytes_eq l.named n then Some l.stands_for else local ls n

-- the name of a member of an imported file, as faults tell it
abbrev pub dotted : List ℕ → List ℕ → List ℕ
dotted a n = a ++ (46 ∷ n)

abbrev pub used_value : List ℕ → Option Meaning → Taken
used_value n (Some (value export e)) = taken e
used_value n (Some (function wanted f)) = refused (Unknown n)
used_value n (Some (file s)) = refused (Unknown n)
used_value n None = refused (Unknown n)

-- a parameter or local name comes before the values of the file
abbrev pub used : List ℕ → Option Expression → Option Meaning → Taken
used n (Some e) meaning = taken e
used n None meaning = used_value n meaning

-- the names of an imported file
abbrev pub names_of : Option Meaning → Scope
names_of (Some (file s)) = s
names_of (Some (value export e)) = empty
names_of (Some (function wanted f)) = empty
names_of None = empty

abbrev pub exported : List ℕ → Option Meaning → Taken
exported n (Some (value true e)) = taken e
exported n (Some (value false e)) = refused (NotExported n)
exported n (Some (function wanted f)) = refused (Unknown n)
exported n (Some (file s)) = refused (Unknown n)
exported n None = refused (Unknown n)

-- a function's expression for its arguments, of which there have to be as many as it wants
abbrev pub applied : ℕ → (List Expression → Taken) → ℕ → AllTaken → Taken
applied wanted f given args = if wanted == given then followed_all args f else refused (Arity wanted given)

abbrev pub called : List ℕ → Option Meaning → ℕ → AllTaken → Taken
called n (Some (function wanted f)) given args = applied wanted f given args
called n (Some (value export e)) given args = refused (Unknown n)
called n (Some (file s)) given args = refused (Unknown n)
called n None given args = refused (Unknown n)

-- Built-in functions

-- an argument of a built-in function: its bytes, where it is quoted, and what it means as an expression
pub record Argument : Type 0 where
  pub quoted : Option (List ℕ)
  pub operand : Taken

abbrev pub projected : List ℕ → Expression → Taken
projected side e =
    if bytes_eq side (codes "input") then taken_of (sized (project e input_side)) else
    if bytes_eq side (codes "output") then taken_of (sized (project e output_side)) else refused Unsupported

abbrev pub project_of : Expression → Option (List ℕ) → Taken
project_of e (Some side) = projected side e
project_of e None = refused Unsupported

abbrev pub from_lexicon : List ℕ → Lexicon → Taken
from_lexicon name (bad_pair number) = refused (BadPair name number)
from_lexicon name (union_of all) = taken_of all

abbrev pub from_file : List ℕ → Option (List ℕ) → Taken
from_file name None = refused (NotFound name)
from_file name (Some bytes) = from_lexicon name (file_lexicon bytes)

-- The file of a name. A shelf is asked by text, so a name that isn't UTF-8, which no grammar file has, is no file's.
abbrev pub named_file : Files → List ℕ → Option (List ℕ)
named_file files name = if is_utf8 name then file_of files name else None

abbrev pub string_file : Files → Option (List ℕ) → Taken
string_file files (Some name) = from_file name (named_file files name)
string_file files None = refused Unsupported

-- how a rewrite is made by its options, where they are ones

abbrev pub manner_of : Option (List ℕ) → Option Manner
manner_of (Some mode) =
    if bytes_eq mode (codes "obl") then Some obligatory else
    if bytes_eq mode (codes "opt") then Some optional else None
manner_of None = None

abbrev pub is_left_to_right : Option (List ℕ) → Bool
is_left_to_right (Some way) = bytes_eq way (codes "ltr")
is_left_to_right None = false

abbrev pub after_way : Argument → Option Manner → Option Manner
after_way way mode = if is_left_to_right way.quoted then mode else None

-- from left to right, and obligatory where nothing else is said
abbrev pub options_of : List Argument → Option Manner
options_of [] = Some obligatory
options_of (way ∷ []) = after_way way (Some obligatory)
options_of (way ∷ mode ∷ rest) = after_way way (manner_of mode.quoted)

abbrev pub rewrite_told : Option Manner → Expression → Expression → Expression → Expression → Taken
rewrite_told None tau left right sigma = refused Unsupported
rewrite_told (Some manner) tau left right sigma = taken_of (rewrite_of manner tau left right sigma)

abbrev pub rewrite_call : Argument → Argument → Argument → Argument → List Argument → Taken
rewrite_call tau left right sigma options =
    followed tau.operand (λ tau. followed left.operand (λ left. followed right.operand (λ right. followed sigma.operand (λ sigma.
    rewrite_told (options_of options) tau left right sigma))))

abbrev pub built_in_call : Files → BuiltIn → List Argument → Taken
built_in_call files Optimize (e ∷ []) = e.operand
built_in_call files Optimize args = refused (Arity 1 (length args))
built_in_call files Invert (e ∷ []) = followed e.operand (λ e. taken_of (sized (invert e)))
built_in_call files Invert args = refused (Arity 1 (length args))
built_in_call files Project (e ∷ side ∷ []) = followed e.operand (λ e. project_of e side.quoted)
built_in_call files Project args = refused (Arity 2 (length args))
built_in_call files StringFile (name ∷ []) = string_file files name.quoted
built_in_call files StringFile args = refused (Arity 1 (length args))
built_in_call files CDRewrite (tau ∷ left ∷ right ∷ sigma ∷ options) =
    if nat_lt 2 (length options) then refused (Arity 6 (length (tau ∷ left ∷ right ∷ sigma ∷ options))) else rewrite_call tau left right sigma options
built_in_call files CDRewrite args = refused (Arity 4 (length args))

-- the built-in function of this name
abbrev pub built_in : List ℕ → Option BuiltIn
built_in n =
    if bytes_eq n (codes "Optimize") then Some Optimize else
    if bytes_eq n (codes "Invert") then Some Invert else
    if bytes_eq n (codes "Project") then Some Project else
    if bytes_eq n (codes "StringFile") then Some StringFile else
    if bytes_eq n (codes "CDRewrite") then Some CDRewrite else None

-- a built-in function comes before what the file defines
abbrev pub called_by : Files → Option BuiltIn → List Argument → Taken → Taken
called_by files (Some b) args defined = built_in_call files b args
called_by files None args defined = defined

-- Trees

abbrev pub count : TreeTerms → ℕ
count no_terms = 0
count (term t ts) = suc (count ts)

-- the bytes of a quoted tree
abbrev pub quoted_bytes : TreeTerm → Option (List ℕ)
quoted_bytes (tree.quoted bytes) = Some bytes
quoted_bytes (tree.text labels) = None
quoted_bytes (tree.use_of n) = None
quoted_bytes (tree.member a n) = None
quoted_bytes (tree.call n args) = None
quoted_bytes (tree.call_member a n args) = None
quoted_bytes (tree.union ts) = None
quoted_bytes (tree.concat ts) = None
quoted_bytes (tree.cross a b) = None
quoted_bytes (tree.compose a b) = None
quoted_bytes (tree.minus a b) = None
quoted_bytes (tree.weighted e w) = None
quoted_bytes (tree.star e) = None
quoted_bytes (tree.plus e) = None
quoted_bytes (tree.maybe e) = None
quoted_bytes (tree.times e m n) = None

-- what a tree means over these files, in a scope and among the names of the function that is called
abbrev mutual
  pub meant : Files → Scope → List Local → TreeTerm → Taken
  meant f s l (tree.text labels) = taken_of (text_of labels)
  meant f s l (tree.quoted bytes) = refused Unsupported
  meant f s l (tree.use_of n) = used n (local l n) (found s n)
  meant f s l (tree.member a n) = exported (dotted a n) (found (names_of (found s a)) n)
  meant f s l (tree.call n args) = called_by f (built_in n) (arguments f s l args) (called n (found s n) (count args) (meant_each f s l args))
  meant f s l (tree.call_member a n args) = called (dotted a n) (found (names_of (found s a)) n) (count args) (meant_each f s l args)
  meant f s l (tree.union ts) = followed_all (meant_each f s l ts) (λ es. taken_of (sized (union (members es))))
  meant f s l (tree.concat ts) = followed_all (meant_each f s l ts) (λ es. taken_of (sized (concat (members es))))
  meant f s l (tree.cross a b) = followed (meant f s l a) (λ a. followed (meant f s l b) (λ b. taken_of (cross_of a b)))
  meant f s l (tree.compose a b) = followed (meant f s l a) (λ a. followed (meant f s l b) (λ b. taken_of (sized (compose a b))))
  meant f s l (tree.minus a b) = followed (meant f s l a) (λ a. followed (meant f s l b) (λ b. taken_of (minus_of a b)))
  meant f s l (tree.weighted t w) = followed (meant f s l t) (λ e. taken_of (sized (weighted e w)))
  meant f s l (tree.star t) = followed (meant f s l t) (λ e. taken_of (sized (star e)))
  meant f s l (tree.plus t) = followed (meant f s l t) (λ e. taken_of (sized (plus e)))
  meant f s l (tree.maybe t) = followed (meant f s l t) (λ e. taken_of (sized (maybe e)))
  meant f s l (tree.times t m n) = followed (meant f s l t) (λ e. taken_of (sized (times e m n)))

  -- trees in order
  pub meant_each : Files → Scope → List Local → TreeTerms → AllTaken
  meant_each f s l no_terms = all_taken []
  meant_each f s l (term t ts) = onto (meant f s l t) (meant_each f s l ts)

  -- the arguments of a built-in function
  pub arguments : Files → Scope → List Local → TreeTerms → List Argument
  arguments f s l no_terms = []
  arguments f s l (term t ts) = record { quoted = quoted_bytes t; operand = meant f s l t } ∷ arguments f s l ts

-- the local definitions in order, and then the result
abbrev pub in_turn : Files → Scope → List Local → List LocalTerm → TreeTerm → Taken
in_turn f s l [] result = meant f s l result
in_turn f s l (step ∷ steps) result = followed (meant f s l step.value) (λ e. in_turn f s (l ++ record { named = step.name; stands_for = e } ∷ []) steps result)

-- the parameters with their arguments
abbrev pub bind : List (List ℕ) → List Expression → List Local
bind ps [] = []
bind [] (e ∷ es) = []
bind (p ∷ ps) (e ∷ es) = record { named = p; stands_for = e } ∷ bind ps es

-- what a function of these parameters means where this scope is seen
abbrev pub function_of : Files → Scope → List (List ℕ) → List LocalTerm → TreeTerm → List Expression → Taken
function_of f s params steps result args = in_turn f s (bind params args) steps result
