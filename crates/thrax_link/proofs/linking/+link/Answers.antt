use Rattle.std.proofs.Common.{◌≡◌, ◌∙◌, ◌++◌, ◌∷◌, ◌+◌, ap, subst, sym, [], length, arith, map, refl, Ok}
use Rattle.thrax_meaning.specs.Tables.{scope_over}
use Rattle.thrax_meaning.specs.Meaning.{empty}
use Rattle.thrax_meaning.specs.declared.table.Kind.TheVariants as kind
use Rattle.thrax_syntax.specs.Trees.{statement_term, file_term}
use Rattle.thrax_link.specs.Linking.{LinksUnder, LinksRead, LinksText, TakesAll, Importing, linked}
use Rattle.thrax_link.specs.Progress.{finished_of, Sole, Stops}
use Rattle.thrax_link.proofs.Soles.{import_adds, adds_within, grown_within, imports_by, text_read, text_unread, read_links, all_more, all_stop, stops_by, sole_is, grows_on}
use Rattle.thrax_link.proofs.Fronts.{gone}
use Rattle.thrax_link.proofs.linking.+link.Goals as goal

pub add_import-returns-in-Ok-clause-takes : goal.add_import-returns-in-Ok-clause-takes
add_import-returns-in-Ok-clause-takes g t c = λ known told.
    import_adds known c.args.done.now c.import.new.done c.args.table.now c.add.new.table c.args.alias c.in-Ok.place c.add.result
    (LinksUnder known c.args.left c.args.chain.now c.args.file.now c.args.number (finished_of known c.args.done.now) c.args.target.now)
    c.in-Ok.ensures.grows c.requires.within (c.in-Ok.ensures.links known told) c.add.ensures.ok c.add.ensures.err

pub add_import-returns-in-Ok-clause-within : goal.add_import-returns-in-Ok-clause-within
add_import-returns-in-Ok-clause-within g t c =
    adds_within (length c.import.new.done.tables.items) c.args.table.now c.add.new.table c.args.alias (kind.File c.in-Ok.place) c.add.result
    (grown_within c.args.done.now c.import.new.done c.args.table.now c.in-Ok.ensures.grows c.requires.within) c.in-Ok.ensures.within c.add.ensures.ok

pub import-returns-in-Some-clause-within : goal.import-returns-in-Some-clause-within
import-returns-in-Some-clause-within g t c = (c.in-Some.ensures []).0

pub link_statements-returns-clause-links : goal.link_statements-returns-clause-links
link_statements-returns-clause-links g t c = λ known told.
    let mid = c.take_all.new.done in
    let table = c.in-Ok-take_all.table in
    let statements = map statement_term c.args.statements.items in
    let takes = subst (λ chain. Sole (TakesAll known (LinksUnder known c.args.left chain) c.args.name.now 1 (finished_of known c.args.done.now) empty statements) (linked (finished_of known mid) (scope_over known mid.tables.items table)))
    (c.deref.ensures.value ∙ c.in-Ok.ensures) (c.in-Ok-take_all.ensures.takes known told) in
    read_links known (LinksUnder known c.args.left (c.args.chain.now ++ c.args.name.now ∷ [])) c.args.done.now mid c.finish.new.self c.args.name.now statements table c.in-Ok-finish.place
    takes c.in-Ok-take_all.ensures.grows.is_placed.aligned c.in-Ok-finish.ensures.names c.in-Ok-finish.ensures.tables c.in-Ok-finish.ensures.place

pub link_text-returns-in-Ok-clause-links : goal.link_text-returns-in-Ok-clause-links
link_text-returns-in-Ok-clause-links g t c = λ known told.
    let I : Importing = LinksUnder known c.args.left (c.args.chain.now ++ c.args.name.now ∷ []) in
    imports_by known c.link_statements.new.done c.link_statements.result
    (LinksRead known I (finished_of known c.args.done.now) c.args.name.now (Ok (file_term c.in-Ok.read))) (LinksText known I (finished_of known c.args.done.now) c.args.name.now c.args.text.now)
    (text_read known I (finished_of known c.args.done.now) c.args.name.now c.args.text.now (Ok (file_term c.in-Ok.read)) c.in-Ok.ensures.found c.in-Ok.ensures.only)
    (c.link_statements.ensures.links known told)

pub link_text-returns-in-Err-clause-links : goal.link_text-returns-in-Err-clause-links
link_text-returns-in-Err-clause-links g t c = λ known told.
    text_unread known (LinksUnder known c.args.left (c.args.chain.now ++ c.args.name.now ∷ [])) (finished_of known c.args.done.now) c.args.name.now c.args.text.now c.in-Err.fault c.unread.result
    c.in-Err.ensures.found c.in-Err.ensures.only c.unread.ensures

pub take_all-loop-statement-preserved : goal.take_all-loop-statement-preserved
take_all-loop-statement-preserved g t c =
    let before = c.loop-statement in
    let after = c.take_statement.new in
    let popped = c.in-Some.ensures.items in
    let fewer = ap length popped in
    let counted = before.invariant.counted in
    record {
      grows = grows_on c.args.done.now before.done after.done before.invariant.grows c.in-Ok.ensures.grows;
      within = c.in-Ok.ensures.within;
      files = c.in-Ok.ensures.files ∙ before.invariant.files;
      faults = c.in-Ok.ensures.counts ∙ before.invariant.faults;
      counted = omega (arith, fewer, counted);
      goes = λ known told end rest.
          let I : Importing = LinksUnder known c.args.left c.args.chain.now in
          let one = c.in-Ok.ensures.takes known (before.invariant.files ∙ told) in
          let all = all_more known I c.args.file.now (before.number + 1) (finished_of known before.done) (finished_of known after.done) (scope_over known before.done.tables.items before.table)
          (scope_over known after.done.tables.items after.table) (statement_term c.in-Some.statement) (map statement_term c.pop_front.new.self.items) end one rest in
          before.invariant.goes known told end
          (subst (λ xs. Sole (TakesAll known I c.args.file.now (before.number + 1) (finished_of known before.done) (scope_over known before.done.tables.items before.table) (map statement_term xs)) end) (sym popped) all);
    }

pub take_all-returns-in-Err-clause-takes : goal.take_all-returns-in-Err-clause-takes
take_all-returns-in-Err-clause-takes g t c = λ known told.
    let before = c.loop-statement in
    let popped = c.in-Some.ensures.items in
    let I : Importing = LinksUnder known c.args.left c.args.chain.now in
    let here = all_stop known I c.args.file.now (before.number + 1) (finished_of known before.done) (scope_over known before.done.tables.items before.table) (statement_term c.in-Some.statement)
    (map statement_term c.pop_front.new.self.items) c.in-Err.fault (c.in-Err.ensures.takes known (before.invariant.files ∙ told)) in
    let all = stops_by c.in-Err.fault (TakesAll known I c.args.file.now (before.number + 1) (finished_of known before.done) (scope_over known before.done.tables.items before.table) (map statement_term before.rest.items))
    (TakesAll known I c.args.file.now 1 (finished_of known c.args.done.now) empty (map statement_term c.from-rest.result.items)) (before.invariant.goes known told)
    (subst (λ xs. Stops c.in-Err.fault (TakesAll known I c.args.file.now (before.number + 1) (finished_of known before.done) (scope_over known before.done.tables.items before.table) (map statement_term xs))) (sym popped) here) in
    subst (λ xs. Stops c.in-Err.fault (TakesAll known I c.args.file.now 1 (finished_of known c.args.done.now) empty (map statement_term xs))) c.from-rest.ensures.0 all

pub take_all-returns-clause-takes : goal.take_all-returns-clause-takes
take_all-returns-clause-takes g t c = λ known told.
    let before = c.loop-statement in
    let I : Importing = LinksUnder known c.args.left c.args.chain.now in
    let end = linked (finished_of known before.done) (scope_over known before.done.tables.items before.table) in
    let none : before.rest.items ≡ [] = gone before.rest.items c.pop_front.new.self.items c.in_default.ensures.items c.in_default.ensures.rest in
    let all = before.invariant.goes known told end
    (subst (λ xs. Sole (TakesAll known I c.args.file.now (before.number + 1) (finished_of known before.done) (scope_over known before.done.tables.items before.table) (map statement_term xs)) end) (sym none) (sole_is end end refl)) in
    subst (λ xs. Sole (TakesAll known I c.args.file.now 1 (finished_of known c.args.done.now) empty (map statement_term xs)) end) c.from-rest.ensures.0 all
