use Rattle.std.proofs.Common.{◌≡◌, ◌+◌, ◌*◌, map, length, Some}
use Rattle.norm_base.specs.Files.{Files}
use Rattle.thrax_meaning.specs.Meaning.{empty}
use Rattle.thrax_meaning.specs.Tables.{scope_over}
use Rattle.thrax_syntax.specs.Trees.{statement_term}
use Rattle.thrax_link.specs.Linking.{Ending, LinksUnder, TakesAll}
use Rattle.thrax_link.specs.Progress.{Grows, IsWithin, Sole, finished_of}
use Rattle.thrax_link.proofs.linking.+link.Given as goal

abbrev pub decreases-import : goal.decreases-import
decreases-import g l = 7 * l.left

abbrev pub decreases-add_import : goal.decreases-add_import
decreases-add_import g l = 7 * l.left + 1

abbrev pub decreases-take_statement : goal.decreases-take_statement
decreases-take_statement g l = 7 * l.left + 2

abbrev pub decreases-take_all : goal.decreases-take_all
decreases-take_all g l = 7 * l.left + 3

abbrev pub decreases-link_statements : goal.decreases-link_statements
decreases-link_statements g l = 7 * l.left + 4

abbrev pub decreases-link_text : goal.decreases-link_text
decreases-link_text g l = 7 * l.left + 5

abbrev pub decreases-open : goal.decreases-open
decreases-open g l = 7 * l.left + 6

abbrev pub invariant-take_all-loop-statement : goal.invariant-take_all-loop-statement
invariant-take_all-loop-statement g l = record {
  grows : Grows l.initial.done l.done;
  within : IsWithin (length l.done.tables.items) l.table;
  files : g.H.Shelf.files l.shelf ≡ g.H.Shelf.files l.initial.shelf;
  faults : g.H.Shelf.faults l.shelf ≡ g.H.Shelf.faults l.initial.shelf;
  counted : l.number + length l.rest.items ≡ length l.initial.rest.items;
  goes : (known : Files) → g.H.Shelf.files l.initial.shelf ≡ Some known → (end : Ending)
      → Sole (TakesAll known (LinksUnder known l.left l.chain) l.file (l.number + 1) (finished_of known l.done) (scope_over known l.done.tables.items l.table) (map statement_term l.rest.items)) end
      → Sole (TakesAll known (LinksUnder known l.left l.chain) l.file 1 (finished_of known l.initial.done) empty (map statement_term l.initial.rest.items)) end;
}

abbrev pub decreases-take_all-loop-statement : goal.decreases-take_all-loop-statement
decreases-take_all-loop-statement g l = length l.rest.items
