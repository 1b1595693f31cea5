-- What the linker knows on its way: the files that are finished, and the names of the file that is being linked.
use Rattle.std.specs.Prelude.{◌≡◌, ℕ, ◌<◌, List, [], ◌∷◌, ◌++◌, length, get_or, Result, Ok, Err, Vec}
use Rattle.std.specs.declared.alloc.Global.{Global}
use Rattle.std.specs.Str.{bytes_eq}
use Rattle.norm_base.specs.Files.{Files}
use Rattle.thrax_meaning.specs.Index.{IsIndex}
use Rattle.thrax_meaning.specs.Meaning.{Scope, empty}
use Rattle.thrax_meaning.specs.Tables.{scopes_of, scope_over}
use Rattle.thrax_meaning.specs.declared.table.Entry.{Entry}
use Rattle.thrax_meaning.specs.declared.table.Kind.{Kind}
use Rattle.thrax_meaning.specs.declared.table.Kind.TheVariants as kind
use Rattle.std.specs.HashSet.{HashSet, contains}
use Rattle.thrax_meaning.specs.declared.why.Why.TheVariants.{Read}
use Rattle.thrax_syntax.specs.declared.fault.ReadFault.{ReadFault}
use Rattle.thrax_syntax.specs.declared.fault.ReadFault.TheVariants as read
use Rattle.thrax_link.specs.Linking.{Finished, Ending, stopped, linked, is_among}
use Rattle.thrax_link.specs.declared.done.Done.{Done}
use Rattle.thrax_link.specs.declared.fault.LinkFault.{LinkFault}
use Rattle.thrax_link.specs.declared.fault.LinkFault.TheVariants.{Refused, ShelfFault, Memory}

-- P holds of this ending and of no other
pub record Sole (P : Ending → Type 0) (end : Ending) : Type 0 where
  pub found : P end
  pub only : (other : Ending) → P other → other ≡ end

-- files finished one after another, before others
abbrev pub finished_onto : List Finished → List (List ℕ) → List Scope → List Finished
finished_onto done [] scopes = done
finished_onto done (n ∷ names) [] = done
finished_onto done (n ∷ names) (s ∷ scopes) = finished_onto (record { name = n; names = s } ∷ done) names scopes

abbrev pub finished_of : Files → Done → List Finished
finished_of files done = finished_onto [] done.names.items (scopes_of files done.tables.items)

-- the names of a finished file
abbrev pub scope_at : Files → List (List Entry) → ℕ → Scope
scope_at files tables k = get_or (scopes_of files tables) k empty

-- each file has its name and its table, and is found by its name
pub record IsPlaced (done : Done) : Type 0 where
  pub aligned : length done.names.items ≡ length done.tables.items
  pub placed : IsIndex done.index.places done.names.items

-- more files are finished
pub record Grows (old new : Done) : Type 0 where
  pub is_placed : IsPlaced new
  pub more : List (List Entry)
  pub tables : new.tables.items ≡ old.tables.items ++ more

abbrev pub KindWithin : ℕ → Kind → Type 0
KindWithin n (kind.Value exported v) = Unit {0}
KindWithin n (kind.Function f) = Unit {0}
KindWithin n (kind.File k) = k < n

-- imports name files that are finished
abbrev pub IsWithin : ℕ → List Entry → Type 0
IsWithin n [] = Unit {0}
IsWithin n (e ∷ es) = KindWithin n e.kind × IsWithin n es

-- an answer that stops
abbrev pub Refuses : LinkFault → Ending → Type 0
Refuses (Refused f n why) end = end ≡ stopped f n why
Refuses ShelfFault end = Unit {0}
Refuses Memory end = Unit {0}

-- a refusal, unless memory is wanting
abbrev pub IsRefusal : LinkFault → Ending → Type 0
IsRefusal (Refused f n why) end = end ≡ stopped f n why
IsRefusal ShelfFault end = ⊥
IsRefusal Memory end = Unit {0}

-- the answer to one more name of a file, over the finished files
abbrev pub Defines : Files → Done → List Entry → Result Unit LinkFault → Ending → Type 0
Defines files done table (Ok x) end = end ≡ linked (finished_of files done) (scope_over files done.tables.items table)
Defines files done table (Err fault) end = Refuses fault end

-- an answer that stops is the one ending
abbrev pub Stops : LinkFault → (Ending → Type 0) → Type 0
Stops (Refused f n why) P = Sole P (stopped f n why)
Stops ShelfFault P = Unit {0}
Stops Memory P = Unit {0}

-- the answer to a statement is the one ending
abbrev pub Takes : Files → Done → List Entry → Result Unit LinkFault → (Ending → Type 0) → Type 0
Takes files done table (Ok x) P = Sole P (linked (finished_of files done) (scope_over files done.tables.items table))
Takes files done table (Err fault) P = Stops fault P

-- the answer to the statements of a file is the one ending
abbrev pub TakesAll : Files → Done → Result (List Entry) LinkFault → (Ending → Type 0) → Type 0
TakesAll files done (Ok table) P = Sole P (linked (finished_of files done) (scope_over files done.tables.items table))
TakesAll files done (Err fault) P = Stops fault P

-- the answer to an import, the place of the file, is the one ending
abbrev pub Imports : Files → Done → Result ℕ LinkFault → (Ending → Type 0) → Type 0
Imports files done (Ok k) P = Sole P (linked (finished_of files done) (scope_at files done.tables.items k))
Imports files done (Err fault) P = Stops fault P

-- the set has these names
abbrev pub Holds : {S : Type 0} → HashSet (Vec ℕ Global) S → List (List ℕ) → Type 0
Holds seen names = (q : Vec ℕ Global) → contains (λ v w. bytes_eq v.items w.items) seen q ≡ is_among q.items names

-- the shelf had no part in a fault
abbrev pub IsLocal : LinkFault → Type 0
IsLocal (Refused f n why) = Unit {0}
IsLocal ShelfFault = ⊥
IsLocal Memory = Unit {0}

-- the refusal of a text that is no file's, or memory was wanting in reading
abbrev pub IsUnread : List ℕ → ReadFault → LinkFault → Type 0
IsUnread name read.Memory fault = fault ≡ Memory
IsUnread name (read.BadLexeme at) fault = IsRefusal fault (stopped name 0 (Read (read.BadLexeme at)))
IsUnread name (read.BadWeight at) fault = IsRefusal fault (stopped name 0 (Read (read.BadWeight at)))
IsUnread name (read.TooDeep at) fault = IsRefusal fault (stopped name 0 (Read (read.TooDeep at)))
IsUnread name (read.Syntax statement) fault = IsRefusal fault (stopped name 0 (Read (read.Syntax statement)))
