-- What comes of linking a file of a shelf with all that it imports: its exported names with their expressions, or the first refusal.
use Rattle.std.specs.Prelude.{◌≡◌, ℕ, zero, suc, ◌+◌, ◌||◌, List, [], ◌∷◌, ◌++◌, map, length, Bool, true, false, if◌then◌else◌, Option, None, Some, is_some, Result, Ok, Err}
use Rattle.std.specs.List.{list_any}
use Rattle.std.specs.Str.{bytes_eq}
use Rattle.norm_base.specs.Files.{Files}
use Rattle.weighted_relations.specs.Expressions.{Expression}
use Rattle.thrax_syntax.specs.Trees.{StatementTerm, import_of, define, func}
use Rattle.thrax_syntax.specs.Files.{Reading}
use Rattle.thrax_syntax.specs.declared.fault.ReadFault.{ReadFault}
use Rattle.thrax_meaning.specs.Meaning.{Taken, refused, taken, Meaning, value, function, file, Scope, empty, bound, found, built_in, meant, function_of, named_file}
use Rattle.thrax_meaning.specs.declared.why.Why.{Why}
use Rattle.thrax_meaning.specs.declared.why.Why.TheVariants.{Read, NotFound, Twice, ImportLoop, ImportDepth}

-- a file that was linked earlier, and its names; of such files the newest comes first
pub record Finished : Type 0 where
  pub name : List ℕ
  pub names : Scope

-- How the linking of a file ends: it stops at a statement of a file for a cause, or the file has these names, and these
-- files are finished by then.
pub data Ending : Type 0 where
  stopped : List ℕ → ℕ → Why → Ending
  linked : List Finished → Scope → Ending

-- this ending, and no other
abbrev pub Is : Ending → Ending → Type 0
Is ending end = end ≡ ending

-- this ending where the test holds, and the others where it doesn't
abbrev pub Where : Bool → Ending → (Ending → Type 0) → Ending → Type 0
Where true ending Others = Is ending
Where false ending Others = Others

-- where nothing stopped, it goes on from the files that are finished and the names
abbrev pub From : Ending → (List Finished → Scope → Ending → Type 0) → Ending → Type 0
From (stopped f n why) Next = Is (stopped f n why)
From (linked done s) Next = Next done s

-- one after the other, unless the first stops
pub record Then (First : Ending → Type 0) (Next : List Finished → Scope → Ending → Type 0) (end : Ending) : Type 0 where
  pub middle : Ending
  pub first : First middle
  pub next : From middle Next end

-- what may come of importing a file (the last name) at a statement of a file (the first), where these files are finished
abbrev pub Importing : Type 1
Importing = List ℕ → ℕ → List Finished → List ℕ → Ending → Type 0

abbrev pub is_among : List ℕ → List (List ℕ) → Bool
is_among n names = list_any (λ m. bytes_eq m n) names

-- the first name that stands a second time, where some stand before
abbrev pub repeated : List (List ℕ) → List (List ℕ) → Option (List ℕ)
repeated before [] = None
repeated before (n ∷ ns) = if is_among n before then Some n else repeated (before ++ n ∷ []) ns

abbrev pub name_of : StatementTerm → List ℕ
name_of (import_of target alias) = alias
name_of (define exported name tree) = name
name_of (func name params body result) = name

-- the file has the name already, or it is that of a built-in function
abbrev pub is_used : Scope → List ℕ → Bool
is_used s name = is_some (found s name) || is_some (built_in name)

-- the file after a definition
abbrev pub defined : List ℕ → ℕ → List Finished → Scope → Bool → List ℕ → Taken → Ending
defined f n done s exported name (refused why) = stopped f n why
defined f n done s exported name (taken e) = linked done (bound name (value exported e) s)

-- the file after a function, of which no inner name stands twice
abbrev pub with_function : List ℕ → ℕ → List Finished → Scope → List ℕ → Meaning → Option (List ℕ) → Ending
with_function f n done s name meaning (Some twice) = stopped f n (Twice twice)
with_function f n done s name meaning None = linked done (bound name meaning s)

-- what a statement adds to the names of its file, where its own name is new
abbrev pub Adds : Files → Importing → List ℕ → ℕ → List Finished → Scope → StatementTerm → Ending → Type 0
Adds files Import f n done s (import_of target alias) = Then (Import f n done target) (λ done names. Is (linked done (bound alias (file names) s)))
Adds files Import f n done s (define exported name tree) = Is (defined f n done s exported name (meant files s [] tree))
Adds files Import f n done s (func name params body result) =
    Is (with_function f n done s name (function (length params) (function_of files s params body result)) (repeated [] (params ++ map (λ l. l.name) body)))

abbrev pub Takes : Files → Importing → List ℕ → ℕ → List Finished → Scope → StatementTerm → Ending → Type 0
Takes files Import f n done s x = Where (is_used s (name_of x)) (stopped f n (Twice (name_of x))) (Adds files Import f n done s x)

-- the statements from the n-th on, in order
abbrev pub TakesAll : Files → Importing → List ℕ → ℕ → List Finished → Scope → List StatementTerm → Ending → Type 0
TakesAll files Import f n done s [] = Is (linked done s)
TakesAll files Import f n done s (x ∷ xs) = Then (Takes files Import f n done s x) (λ done s. TakesAll files Import f (n + 1) done s xs)

-- the file is finished when its statements are taken
abbrev pub LinksRead : Files → Importing → List Finished → List ℕ → Result (List StatementTerm) ReadFault → Ending → Type 0
LinksRead files Import done name (Err fault) = Is (stopped name 0 (Read fault))
LinksRead files Import done name (Ok statements) =
    Then (TakesAll files Import name 1 done empty statements) (λ done names. Is (linked (record { name = name; names = names } ∷ done) names))

-- what a text is read as, and what comes of it
pub record LinksText (files : Files) (Import : Importing) (done : List Finished) (name text : List ℕ) (end : Ending) : Type 0 where
  pub answer : Result (List StatementTerm) ReadFault
  pub reading : Reading text answer
  pub ends : LinksRead files Import done name answer end

abbrev pub LinksFetched : Files → Importing → List ℕ → ℕ → List Finished → List ℕ → Option (List ℕ) → Ending → Type 0
LinksFetched files Import f n done name None = Is (stopped f n (NotFound name))
LinksFetched files Import f n done name (Some text) = LinksText files Import done name text

-- the names of a file that is finished
abbrev pub finished_names : List Finished → List ℕ → Option Scope
finished_names [] name = None
finished_names (d ∷ ds) name = if bytes_eq d.name name then Some d.names else finished_names ds name

abbrev pub Passes : List Finished → Option Scope → (Ending → Type 0) → Ending → Type 0
Passes done (Some names) Others = Is (linked done names)
Passes done None Others = Others

-- A file of the chain imports itself, and one that is finished passes with its names.
abbrev pub Imports : List (List ℕ) → List ℕ → ℕ → List Finished → List ℕ → (Ending → Type 0) → Ending → Type 0
Imports chain f n done name Others = Where (is_among name chain) (stopped f n (ImportLoop name)) (Passes done (finished_names done name) Others)

-- the chain of files that are being linked may grow by so many
abbrev pub LinksUnder : Files → ℕ → List (List ℕ) → Importing
LinksUnder files zero chain f n done name = Imports chain f n done name (Is (stopped f n ImportDepth))
LinksUnder files (suc left) chain f n done name = Imports chain f n done name (LinksFetched files (LinksUnder files left (chain ++ name ∷ [])) f n done name (named_file files name))

-- the exported names with their expressions, in the order of the file
abbrev pub exports : Scope → List (List ℕ × Expression)
exports empty = []
exports (bound name (value true e) older) = exports older ++ (name, e) ∷ []
exports (bound name (value false e) older) = exports older
exports (bound name (function wanted f) older) = exports older
exports (bound name (file s) older) = exports older

-- what a caller learns: a refusal with its file, statement and cause, or the exported names with their expressions
pub data Outcome : Type 0 where
  refuses : List ℕ → ℕ → Why → Outcome
  exporting : List (List ℕ × Expression) → Outcome

abbrev pub outcome_of : Ending → Outcome
outcome_of (stopped f n why) = refuses f n why
outcome_of (linked done s) = exporting (exports s)

-- the outcome of linking the file of this name
pub record Linked (files : Files) (name : List ℕ) (outcome : Outcome) : Type 0 where
  pub end : Ending
  pub links : LinksUnder files 32 [] name 0 [] name end
  pub is : outcome ≡ outcome_of end
