-- Endings that are the only ones.
use Rattle.std.proofs.Common.{◌≡◌, ◌∙◌, refl, sym, ap, subst, arith, ℕ, zero, suc, ◌+◌, ◌-◌, ◌<◌, List, [], ◌∷◌, ◌++◌, length, get_or, Bool, true, false, None, Some, Ok, Err, length-append, append_assoc}
use Rattle.std.specs.Prelude.{Result, OnOk, IfErr}
use Rattle.std.specs.declared.option.Option.{Option}
use Rattle.norm_base.specs.Files.{Files}
use Rattle.thrax_meaning.specs.Meaning.{Scope, empty, bound, file, named_file}
use Rattle.thrax_meaning.specs.Tables.{meaning_of, meaning_of_function, scopes_of, scope_over}
use Rattle.thrax_meaning.specs.declared.why.Why.{Why}
use Rattle.thrax_meaning.specs.declared.why.Why.TheVariants.{Read, NotFound, Twice, ImportLoop, ImportDepth}
use Rattle.thrax_meaning.specs.declared.table.Entry.{Entry}
use Rattle.thrax_meaning.specs.declared.table.Function.{Function}
use Rattle.thrax_meaning.specs.declared.table.Kind.{Kind}
use Rattle.thrax_meaning.specs.declared.table.Kind.TheVariants as kind
use Rattle.thrax_syntax.specs.Trees.{StatementTerm}
use Rattle.thrax_syntax.specs.Files.{IsRead, IsAnswer, Reading}
use Rattle.thrax_syntax.specs.declared.fault.ReadFault.{ReadFault}
use Rattle.thrax_syntax.specs.declared.fault.ReadFault.TheVariants as read
use Rattle.thrax_link.specs.Linking.{Finished, Ending, stopped, linked, Is, Where, From, Then, Passes, Importing, Adds, Takes as TakesOne, TakesAll, LinksRead, LinksText, LinksFetched, LinksUnder, finished_names, is_among, is_used, name_of, with_function}
use Rattle.thrax_link.specs.Progress.{Sole, Refuses, IsRefusal, IsUnread, Stops, Defines, Takes, Imports, IsWithin, KindWithin, Grows, finished_of, finished_onto, scope_at}
use Rattle.thrax_link.specs.declared.done.Done.{Done}
use Rattle.thrax_link.specs.declared.fault.LinkFault.{LinkFault}
use Rattle.thrax_link.specs.declared.fault.LinkFault.TheVariants.{Refused, ShelfFault, Memory}
use Rattle.thrax_meaning.proofs.Scopes.{scope_push, scopes_push, scopes_length, get_or-append-last}
use Rattle.thrax_link.proofs.Scopes.{scope_kept, within_push, within_grown}

pub sole_is : (e end : Ending) → e ≡ end → Sole (Is e) end
sole_is e end h = record { found = sym h; only = λ o g. g ∙ h }

pub sole_first : (P : Ending → Type 0) (K : List Finished → Scope → Ending → Type 0) (f : List ℕ) (n : ℕ) (why : Why) → Sole P (stopped f n why) → Sole (Then P K) (stopped f n why)
sole_first P K f n why s = record {
  found = record { middle = stopped f n why; first = s.found; next = refl };
  only = λ o t. subst (λ m. From m K o) (s.only t.middle t.first) t.next;
}

pub sole_then : (P : Ending → Type 0) (K : List Finished → Scope → Ending → Type 0) (done : List Finished) (names : Scope) (end : Ending) → Sole P (linked done names) → Sole (K done names) end → Sole (Then P K) end
sole_then P K done names end s k = record {
  found = record { middle = linked done names; first = s.found; next = k.found };
  only = λ o t. k.only o (subst (λ m. From m K o) (s.only t.middle t.first) t.next);
}

pub stops_is : (fault : LinkFault) (end : Ending) → IsRefusal fault end → Stops fault (Is end)
stops_is (Refused f n why) end h = sole_is end (stopped f n why) h
stops_is ShelfFault end h = tt
stops_is Memory end h = tt

pub stops_then : (fault : LinkFault) (P : Ending → Type 0) (K : List Finished → Scope → Ending → Type 0) → Stops fault P → Stops fault (Then P K)
stops_then (Refused f n why) P K s = sole_first P K f n why s
stops_then ShelfFault P K s = tt
stops_then Memory P K s = tt

pub stops_by : (fault : LinkFault) (P Q : Ending → Type 0) → ((end : Ending) → Sole P end → Sole Q end) → Stops fault P → Stops fault Q
stops_by (Refused f n why) P Q go s = go (stopped f n why) s
stops_by ShelfFault P Q go s = tt
stops_by Memory P Q go s = tt

pub refuses_is : (fault : LinkFault) (end : Ending) → IsRefusal fault end → Refuses fault end
refuses_is (Refused f n why) end h = h
refuses_is ShelfFault end h = tt
refuses_is Memory end h = tt

stops_refuses : (fault : LinkFault) (end : Ending) → Refuses fault end → Stops fault (Is end)
stops_refuses (Refused f n why) end h = sole_is end (stopped f n why) h
stops_refuses ShelfFault end h = tt
stops_refuses Memory end h = tt

-- a statement whose ending is computed
pub takes_is : (files : Files) (d : Done) (table : List Entry) (r : Result Unit LinkFault) (end : Ending) → Defines files d table r end → Takes files d table r (Is end)
takes_is files d table (Ok x) end h = sole_is end _ h
takes_is files d table (Err fault) end h = stops_refuses fault end h

memory_refuses : (fault : LinkFault) (end : Ending) → fault ≡ Memory → Refuses fault end
memory_refuses fault end h = subst (λ f. Refuses f end) (sym h) tt

-- one more name
pub adds : (files : Files) (d : Done) (es es' : List Entry) (name : List ℕ) (k : Kind) (r : Result Unit LinkFault) (end : Ending)
    → end ≡ linked (finished_of files d) (bound name (meaning_of files (scopes_of files d.tables.items) (scope_over files d.tables.items es) k) (scope_over files d.tables.items es))
    → OnOk r (es' ≡ es ++ record { name = name; kind = k } ∷ []) → IfErr r (λ fault. fault ≡ Memory) → Defines files d es' r end
adds files d es es' name k (Ok x) end e items err =
    e ∙ ap (linked (finished_of files d)) (sym (scope_push files (scopes_of files d.tables.items) es (record { name = name; kind = k })) ∙ ap (scope_over files d.tables.items) (sym items))
adds files d es es' name k (Err fault) end e items err = memory_refuses fault end err

pub adds_within : (n : ℕ) (es es' : List Entry) (name : List ℕ) (k : Kind) (r : Result Unit LinkFault) → IsWithin n es → KindWithin n k → OnOk r (es' ≡ es ++ record { name = name; kind = k } ∷ []) → OnOk r (IsWithin n es')
adds_within n es es' name k (Ok x) h kind items = subst (IsWithin n) (sym items) (within_push n es (record { name = name; kind = k }) h kind)
adds_within n es es' name k (Err fault) h kind items = tt

finished_push : (done : List Finished) (names : List (List ℕ)) (ss : List Scope) (n : List ℕ) (s : Scope) → length names ≡ length ss → finished_onto done (names ++ n ∷ []) (ss ++ s ∷ []) ≡ record { name = n; names = s } ∷ finished_onto done names ss
finished_push done [] [] n s l = refl
finished_push done [] (t ∷ ss) n s l = absurd (omega (arith, l))
finished_push done (m ∷ names) [] n s l = absurd (omega (arith, l))
finished_push done (m ∷ names) (t ∷ ss) n s l = finished_push (record { name = m; names = t } ∷ done) names ss n s (omega (arith, l))

-- a file that is finished
pub finishes : (files : Files) (mid new : Done) (name : List ℕ) (table : List Entry) (k : ℕ) → length mid.names.items ≡ length mid.tables.items
    → new.names.items ≡ mid.names.items ++ name ∷ [] → new.tables.items ≡ mid.tables.items ++ table ∷ [] → k ≡ length mid.tables.items
    → linked (record { name = name; names = scope_over files mid.tables.items table } ∷ finished_of files mid) (scope_over files mid.tables.items table) ≡ linked (finished_of files new) (scope_at files new.tables.items k)
finishes files mid new name table k aligned names tables place =
    let long = scopes_length files [] mid.tables.items in
    let s = scope_over files mid.tables.items table in
    let done : finished_of files new ≡ record { name = name; names = s } ∷ finished_of files mid =
    ap (λ v. finished_onto [] v (scopes_of files new.tables.items)) names ∙ ap (λ v. finished_onto [] (mid.names.items ++ name ∷ []) (scopes_of files v)) tables
    ∙ ap (finished_onto [] (mid.names.items ++ name ∷ [])) (scopes_push files [] mid.tables.items table)
    ∙ finished_push [] mid.names.items (scopes_of files mid.tables.items) name s (omega (arith, long, aligned)) in
    let at : scope_at files new.tables.items k ≡ s =
    ap (λ v. scope_at files v k) tables ∙ ap (λ v. get_or v k empty) (scopes_push files [] mid.tables.items table)
    ∙ ap (λ j. get_or (scopes_of files mid.tables.items ++ s ∷ []) j empty) (omega (arith, long, place)) ∙ get_or-append-last (scopes_of files mid.tables.items) s empty in
    ap (λ v. linked v s) (sym done) ∙ ap (linked (finished_of files new)) (sym at)

-- what holds of a part holds of the whole
pub imports_by : (files : Files) (d : Done) (r : Result ℕ LinkFault) (P Q : Ending → Type 0) → ((end : Ending) → Sole P end → Sole Q end) → Imports files d r P → Imports files d r Q
imports_by files d (Ok k) P Q go s = go _ s
imports_by files d (Err fault) P Q go s = stops_by fault P Q go s

pub takes_by : (files : Files) (d : Done) (table : List Entry) (r : Result Unit LinkFault) (P Q : Ending → Type 0) → ((end : Ending) → Sole P end → Sole Q end) → Takes files d table r P → Takes files d table r Q
takes_by files d table (Ok x) P Q go s = go _ s
takes_by files d table (Err fault) P Q go s = stops_by fault P Q go s

pub where_true : (b : Bool) (first : Ending) (Others : Ending → Type 0) (fault : LinkFault) → b ≡ true → IsRefusal fault first → Stops fault (Where b first Others)
where_true b first Others fault e h = subst (λ v. Stops fault (Where v first Others)) (sym e) (stops_is fault first h)

pub where_false : (b : Bool) (first : Ending) (Others : Ending → Type 0) → b ≡ false → (end : Ending) → Sole Others end → Sole (Where b first Others) end
where_false b first Others e end s = subst (λ v. Sole (Where v first Others) end) (sym e) s

pub passes_none : (done : List Finished) (o : Option Scope) (Others : Ending → Type 0) → o ≡ None → (end : Ending) → Sole Others end → Sole (Passes done o Others) end
passes_none done o Others e end s = subst (λ v. Sole (Passes done v Others) end) (sym e) s

pub passes_some : (done : List Finished) (o : Option Scope) (Others : Ending → Type 0) (names : Scope) → o ≡ Some names → Sole (Passes done o Others) (linked done names)
passes_some done o Others names e = subst (λ v. Sole (Passes done v Others) (linked done names)) (sym e) (sole_is (linked done names) (linked done names) refl)

pub kept : (files : Files) (old new : Done) (es : List Entry) → Grows old new → IsWithin (length old.tables.items) es → scope_over files new.tables.items es ≡ scope_over files old.tables.items es
kept files old new es g h = ap (λ v. scope_over files v es) g.tables ∙ scope_kept files old.tables.items g.more es h

pub grown_within : (old new : Done) (es : List Entry) → Grows old new → IsWithin (length old.tables.items) es → IsWithin (length new.tables.items) es
grown_within old new es g h =
    let long = ap length g.tables ∙ length-append old.tables.items g.more in
    within_grown (length old.tables.items) (length new.tables.items) es (omega (arith, long)) h

pub grows_on : (a b c : Done) → Grows a b → Grows b c → Grows a c
grows_on a b c g h = record { is_placed = h.is_placed; more = g.more ++ h.more; tables = h.tables ∙ ap (λ v. v ++ h.more) g.tables ∙ append_assoc a.tables.items g.more h.more }

-- an alias of an imported file
pub import_adds : (files : Files) (old mid : Done) (es es' : List Entry) (alias : List ℕ) (k : ℕ) (r : Result Unit LinkFault) (P : Ending → Type 0)
    → Grows old mid → IsWithin (length old.tables.items) es → Sole P (linked (finished_of files mid) (scope_at files mid.tables.items k))
    → OnOk r (es' ≡ es ++ record { name = alias; kind = kind.File k } ∷ []) → IfErr r (λ fault. fault ≡ Memory)
    → Takes files mid es' r (Then P (λ done names. Is (linked done (bound alias (file names) (scope_over files old.tables.items es)))))
import_adds files old mid es es' alias k r P g h s ok err =
    let same = kept files old mid es g h in
    let defines = adds files mid es es' alias (kind.File k) r
    (linked (finished_of files mid) (bound alias (file (scope_at files mid.tables.items k)) (scope_over files old.tables.items es)))
    (ap (λ v. linked (finished_of files mid) (bound alias (file (scope_at files mid.tables.items k)) v)) (sym same)) ok err in
    takes_by files mid es' r (Is (linked (finished_of files mid) (bound alias (file (scope_at files mid.tables.items k)) (scope_over files old.tables.items es)))) _
    (λ end k-is. sole_then P (λ done names. Is (linked done (bound alias (file names) (scope_over files old.tables.items es)))) (finished_of files mid) (scope_at files mid.tables.items k) end s k-is)
    (takes_is files mid es' r _ defines)

-- a function, no inner name of which comes twice
pub function_adds : (files : Files) (d : Done) (es es' : List Entry) (f : List ℕ) (n : ℕ) (name : List ℕ) (fun : Function) (o : Option (List ℕ)) (r : Result Unit LinkFault)
    → o ≡ None → OnOk r (es' ≡ es ++ record { name = name; kind = kind.Function fun } ∷ []) → IfErr r (λ fault. fault ≡ Memory)
    → Defines files d es' r (with_function f n (finished_of files d) (scope_over files d.tables.items es) name (meaning_of_function files (scope_over files d.tables.items es) fun) o)
function_adds files d es es' f n name fun o r e ok err =
    adds files d es es' name (kind.Function fun) r _ (ap (with_function f n (finished_of files d) (scope_over files d.tables.items es) name (meaning_of_function files (scope_over files d.tables.items es) fun)) e) ok err

-- importing, by cases on how much the chain may grow
pub import_loops : (files : Files) (left : ℕ) (chain : List (List ℕ)) (f : List ℕ) (n : ℕ) (done : List Finished) (name : List ℕ) (fault : LinkFault)
    → is_among name chain ≡ true → IsRefusal fault (stopped f n (ImportLoop name)) → Stops fault (LinksUnder files left chain f n done name)
import_loops files zero chain f n done name fault e h = where_true (is_among name chain) _ _ fault e h
import_loops files (suc left) chain f n done name fault e h = where_true (is_among name chain) _ _ fault e h

pub import_passes : (files : Files) (left : ℕ) (chain : List (List ℕ)) (f : List ℕ) (n : ℕ) (done : List Finished) (name : List ℕ) (names : Scope)
    → is_among name chain ≡ false → finished_names done name ≡ Some names → Sole (LinksUnder files left chain f n done name) (linked done names)
import_passes files zero chain f n done name names e h = where_false (is_among name chain) _ _ e _ (passes_some done (finished_names done name) _ names h)
import_passes files (suc left) chain f n done name names e h = where_false (is_among name chain) _ _ e _ (passes_some done (finished_names done name) _ names h)

pub import_deep : (files : Files) (left : ℕ) (chain : List (List ℕ)) (f : List ℕ) (n : ℕ) (done : List Finished) (name : List ℕ) (fault : LinkFault)
    → left ≡ 0 → is_among name chain ≡ false → finished_names done name ≡ None → IsRefusal fault (stopped f n ImportDepth) → Stops fault (LinksUnder files left chain f n done name)
import_deep files zero chain f n done name fault z e h r =
    stops_by fault (Is (stopped f n ImportDepth)) _ (λ end s. where_false (is_among name chain) _ _ e end (passes_none done (finished_names done name) _ h end s)) (stops_is fault (stopped f n ImportDepth) r)
import_deep files (suc left) chain f n done name fault z e h r = absurd (omega (arith, z))

pub import_opens : (files : Files) (left : ℕ) (chain : List (List ℕ)) (f : List ℕ) (n : ℕ) (done : List Finished) (name : List ℕ) (d : Done) (r : Result ℕ LinkFault)
    → 0 < left → is_among name chain ≡ false → finished_names done name ≡ None
    → Imports files d r (LinksFetched files (LinksUnder files (left - 1) (chain ++ name ∷ [])) f n done name (named_file files name))
    → Imports files d r (LinksUnder files left chain f n done name)
import_opens files zero chain f n done name d r z e h i = absurd (omega (arith, z))
import_opens files (suc left) chain f n done name d r z e h i =
    let one : suc left - 1 ≡ left = omega arith in
    imports_by files d r (LinksFetched files (LinksUnder files left (chain ++ name ∷ [])) f n done name (named_file files name)) _
    (λ end s. where_false (is_among name chain) _ _ e end (passes_none done (finished_names done name) _ h end s))
    (subst (λ k. Imports files d r (LinksFetched files (LinksUnder files k (chain ++ name ∷ [])) f n done name (named_file files name))) one i)

pub fetched_none : (files : Files) (I : Importing) (f : List ℕ) (n : ℕ) (done : List Finished) (name : List ℕ) (o : Option (List ℕ)) (fault : LinkFault) → o ≡ None → IsRefusal fault (stopped f n (NotFound name)) → Stops fault (LinksFetched files I f n done name o)
fetched_none files I f n done name o fault e r = subst (λ v. Stops fault (LinksFetched files I f n done name v)) (sym e) (stops_is fault (stopped f n (NotFound name)) r)

pub fetched_some : (files : Files) (I : Importing) (f : List ℕ) (n : ℕ) (done : List Finished) (name : List ℕ) (o : Option (List ℕ)) (text : List ℕ) (d : Done) (r : Result ℕ LinkFault) → o ≡ Some text
    → Imports files d r (LinksText files I done name text) → Imports files d r (LinksFetched files I f n done name o)
fetched_some files I f n done name o text d r e i = subst (λ v. Imports files d r (LinksFetched files I f n done name v)) (sym e) i

-- a text with one reading
pub text_read : (files : Files) (I : Importing) (done : List Finished) (name text : List ℕ) (answer : Result (List StatementTerm) ReadFault) → Reading text answer → ((other : Result (List StatementTerm) ReadFault) → Reading text other → other ≡ answer)
    → (end : Ending) → Sole (LinksRead files I done name answer) end → Sole (LinksText files I done name text) end
text_read files I done name text answer reading only end s = record {
  found = record { answer = answer; reading = reading; ends = s.found };
  only = λ o t. s.only o (subst (λ a. LinksRead files I done name a o) (only t.answer t.reading) t.ends);
}

pub text_refused : (files : Files) (I : Importing) (done : List Finished) (name text : List ℕ) (why : ReadFault) (fault : LinkFault) → Reading text (Err why)
    → ((other : Result (List StatementTerm) ReadFault) → Reading text other → other ≡ Err why) → IsRefusal fault (stopped name 0 (Read why)) → Stops fault (LinksText files I done name text)
text_refused files I done name text why fault found only r =
    stops_by fault (Is (stopped name 0 (Read why))) _ (text_read files I done name text (Err why) found only) (stops_is fault (stopped name 0 (Read why)) r)

memory_stops : (fault : LinkFault) (P : Ending → Type 0) → fault ≡ Memory → Stops fault P
memory_stops fault P e = subst (λ f. Stops f P) (sym e) tt

-- a text that is no file's, or want of memory
pub text_unread : (files : Files) (I : Importing) (done : List Finished) (name text : List ℕ) (why : ReadFault) (fault : LinkFault) → IsRead text (Err why)
    → ((other : Result (List StatementTerm) ReadFault) → Reading text other → IsAnswer other (Err why)) → IsUnread name why fault → Stops fault (LinksText files I done name text)
text_unread files I done name text (read.BadLexeme at) fault found only r = text_refused files I done name text (read.BadLexeme at) fault found only r
text_unread files I done name text (read.Syntax n) fault found only r = text_refused files I done name text (read.Syntax n) fault found only r
text_unread files I done name text (read.BadWeight at) fault found only r = text_refused files I done name text (read.BadWeight at) fault found only r
text_unread files I done name text (read.TooDeep at) fault found only r = text_refused files I done name text (read.TooDeep at) fault found only r
text_unread files I done name text read.Memory fault found only r = memory_stops fault _ r

-- a file whose statements are taken
pub read_links : (files : Files) (I : Importing) (old mid new : Done) (name : List ℕ) (statements : List StatementTerm) (table : List Entry) (k : ℕ)
    → Sole (TakesAll files I name 1 (finished_of files old) empty statements) (linked (finished_of files mid) (scope_over files mid.tables.items table))
    → length mid.names.items ≡ length mid.tables.items → new.names.items ≡ mid.names.items ++ name ∷ [] → new.tables.items ≡ mid.tables.items ++ table ∷ [] → k ≡ length mid.tables.items
    → Sole (LinksRead files I (finished_of files old) name (Ok statements)) (linked (finished_of files new) (scope_at files new.tables.items k))
read_links files I old mid new name statements table k s aligned names tables place =
    sole_then (TakesAll files I name 1 (finished_of files old) empty statements) _ (finished_of files mid) (scope_over files mid.tables.items table) _ s
    (sole_is _ _ (finishes files mid new name table k aligned names tables place))

-- statements one after another
pub all_more : (files : Files) (I : Importing) (f : List ℕ) (n : ℕ) (done done' : List Finished) (s s' : Scope) (x : StatementTerm) (xs : List StatementTerm) (end : Ending)
    → Sole (TakesOne files I f n done s x) (linked done' s') → Sole (TakesAll files I f (n + 1) done' s' xs) end → Sole (TakesAll files I f n done s (x ∷ xs)) end
all_more files I f n done done' s s' x xs end one rest = sole_then (TakesOne files I f n done s x) (λ done s. TakesAll files I f (n + 1) done s xs) done' s' end one rest

pub all_stop : (files : Files) (I : Importing) (f : List ℕ) (n : ℕ) (done : List Finished) (s : Scope) (x : StatementTerm) (xs : List StatementTerm) (fault : LinkFault)
    → Stops fault (TakesOne files I f n done s x) → Stops fault (TakesAll files I f n done s (x ∷ xs))
all_stop files I f n done s x xs fault h = stops_then fault (TakesOne files I f n done s x) (λ done s. TakesAll files I f (n + 1) done s xs) h

-- a statement whose name is used, or is new
pub used_stops : (files : Files) (I : Importing) (f : List ℕ) (n : ℕ) (done : List Finished) (s : Scope) (x : StatementTerm) (fault : LinkFault)
    → is_used s (name_of x) ≡ true → IsRefusal fault (stopped f n (Twice (name_of x))) → Stops fault (TakesOne files I f n done s x)
used_stops files I f n done s x fault e h = where_true (is_used s (name_of x)) _ _ fault e h

pub new_takes : (files : Files) (I : Importing) (f : List ℕ) (n : ℕ) (done : List Finished) (s : Scope) (x : StatementTerm) (d : Done) (table : List Entry) (r : Result Unit LinkFault)
    → is_used s (name_of x) ≡ false → Takes files d table r (Adds files I f n done s x) → Takes files d table r (TakesOne files I f n done s x)
new_takes files I f n done s x d table r e h = takes_by files d table r (Adds files I f n done s x) _ (where_false (is_used s (name_of x)) _ _ e) h
