-- A look that finds its key, from the knock to the leave.
use Rattle.std.specs.Prelude.{◌≡◌, ◌<◌, ℕ, ◌+◌, List, [], ◌∷◌, ◌++◌, Option, Contains, filter, length, nat_eq, true}
use Rattle.std.proofs.Common.{refl, sym, ◌∙◌, ap, subst, arith}
use Rattle.std.proofs.lemmas.List.Sorted.{length_permutation}
use Rattle.place_words.specs.declared.view.Entry.{Entry}
use Rattle.place_words.specs.declared.view.Entry.TheVariants.{Leave}
use Rattle.place_words.specs.declared.view.Read.{Read}
use Rattle.place_words.specs.declared.view.View.{View}
use Rattle.place_words.specs.Places.{Agrees}
use Rattle.place_words.specs.Modes.{IsReading, place_or, seen_of}
use Rattle.place_words.specs.Seats.{IsSeatOf, mode_of, view_of}
use Rattle.place_words.specs.Steps.{left}
use Rattle.place_table.specs.declared.answers.Find.TheVariants.{Holding, Absent}
use Rattle.place_table.specs.declared.answers.Found.{Found}
use Rattle.place_table.specs.Entries.{logged, reads_of, seen_from}
use Rattle.place_table.specs.Looks.{Finds, ShownLook}
use Rattle.place_table.specs.Tables.{words_of}
use Rattle.place_table.specs.Ways.{way_count, ways}
use Rattle.place_table.proofs.Counted.{begun_reads, reads_append as count_append, reads_counted}
use Rattle.place_table.proofs.Looking.{begun_more}
use Rattle.place_table.proofs.Order.{some_way, ways_length}
use Rattle.state_tuples.specs.declared.tuples.Tuple.{Tuple}
use Rattle.state_tuples.specs.declared.tuples.TupleArc.{TupleArc}
use Rattle.state_tuples.specs.Calls.{HaveOwnNumbers, IsKnown}
use Rattle.state_tuples.specs.Cascades.{Cascaded, IsOf, end_of, moves_of}
use Rattle.state_tuples.specs.Codes.{key}
use Rattle.state_tuples.specs.Orders.{Ordered, moves_on}
use Rattle.state_tuples.proofs.CodedExpansions.{ordered_kept}
use Rattle.shared_cascade.specs.declared.callers.Caller.{Caller}
use Rattle.shared_cascade.specs.declared.facts.Grammars.{Grammars}
use Rattle.shared_cascade.specs.declared.shared.Shared.{Shared}
use Rattle.shared_cascade.specs.declared.tallies.Outcome.TheVariants.{Shown}
use Rattle.shared_cascade.specs.Callers.{FoundFor, HasLooked, IsAtRest, IsReady, StaysAt, cascades_in, grammars_of, log_before, places_in}
use Rattle.shared_cascade.specs.Episodes.{Missed}
use Rattle.shared_cascade.specs.Grammars.{HaveNumbers, cascades_of}
use Rattle.shared_cascade.specs.Hands.{HadNoRoom}
use Rattle.shared_cascade.specs.Held.{OfOne, read_on}
use Rattle.shared_cascade.specs.RightCodes.{IsRight}
use Rattle.shared_cascade.specs.Tallies.{with_outcome}
use Rattle.shared_cascade.proofs.Counting.{Runs, all_passed, shown}
use Rattle.shared_cascade.proofs.Handing.{code_of_it, one_cascade}
use Rattle.shared_cascade.proofs.Readies.{again, still_idle}
use Rattle.shared_cascade.proofs.RightKeys.{named}
use Rattle.shared_cascade.proofs.Seen.{left_held, seen_here}

abbrev right_under : Grammars → List ℕ → Type 0
right_under g code = IsRight (cascades_of g) code

-- the caller stays where its look has found the key
pub stays : (s : Shared) (c d : Caller) (t : Tuple) (p : ℕ) (k : List ℕ) → HaveNumbers (grammars_of s) → IsAtRest s c → IsSeatOf (words_of s.table) d.seat → d.tally ≡ c.tally → log_before d ≡ log_before c → k ≡ key t
    → Finds right_under k (ways k (places_in s)) (view_of c.seat) (view_of d.seat) (Holding p) → StaysAt s c d t
stays s c d t p k numbers ready own tally before same found =
    let f = subst (λ z. Finds right_under z (ways z (places_in s)) (view_of c.seat) (view_of d.seat) (Holding p)) same found in
    let h = f.2.2 in
    let g = grammars_of s in
    let code = h.code.0 in
    let tag : (view_of c.seat).tag ≡ g = ready.tag in
    record {
      p = p;
      seen = seen_from 0 f.0;
      entries = f.2.0;
      held = record {
        own = own;
        tag = ap (λ (v : View Grammars). v.tag) h.view ∙ tag;
        reading = subst (λ (v : View Grammars). IsReading v.mode) (sym h.view) tt;
        numbers = numbers;
        sound = ready.sound;
        some = seen_here g numbers ready.sound (seen_of (mode_of d.seat)) code (subst (λ z. right_under z code) tag h.code.1) (subst (λ (v : View Grammars). Agrees (seen_of v.mode) code) (sym h.view) h.code.2);
      };
      begun = f.2.1;
      few = f.2.3;
      own = λ other right agrees. h.own other (subst (λ z. right_under z other) (sym tag) right) agrees;
      view = h.view;
      tally = tally;
      before = before;
    }

-- a look that went through all ways
pub record Through (s : Shared) (c : Caller) (t : Tuple) (v : View Grammars) : Type 0 where
  pub entries : List Entry
  pub missed : Missed (places_in s) (key t) entries
  pub view : v ≡ logged (view_of c.seat) entries
  pub runs : Runs (way_count (places_in s)) 0 entries 0 1

pub through : (s : Shared) (c : Caller) (t : Tuple) (v : View Grammars) (k : List ℕ) (found : List Found) (n : ℕ) → k ≡ key t
    → Finds right_under k (ways k (places_in s)) (view_of c.seat) v (Absent found n) → Through s c t v
through s c t v k found n same h =
    let f = subst (λ z. Finds right_under z (ways z (places_in s)) (view_of c.seat) v (Absent found n)) same h in
    let a = f.2 in
    let all = places_in s in
    let count : length (ways (key t) all) ≡ way_count all = ways_length (key t) all (way_count all) in
    let some = some_way (key t) all s.table.words.sized.2 in
    record {
      entries = a.0;
      missed = (found, n, a.1.0);
      view = a.2;
      runs = all_passed (way_count all) 0 (key t) (ways (key t) all) _ a.0 a.1.0.passed (omega arith) (omega arith);
    }

-- a look that was Shown, with so many words read after the key
pub whole : (s : Shared) (c m d : Caller) (t : Tuple) (rs : List Read) (w : ℕ) → IsAtRest s c → StaysAt s c m t → IsSeatOf (words_of s.table) d.seat
    → view_of d.seat ≡ left (read_on (view_of m.seat) rs) (place_or 0 (mode_of m.seat)) w true → d.tally ≡ with_outcome Shown m.tally → log_before d ≡ log_before m
    → HasLooked s c d (FoundFor s t (28 + length rs))
whole s c m d t rs w rest at own view tally before =
    let n = places_in s in
    let k = key t in
    let es = (at.entries ++ reads_of at.p rs) ++ Leave at.p w true ∷ [] in
    let look : ShownLook k (ways k n) at.p (at.seen ++ rs) es =
    record { begun = at.entries ++ reads_of at.p rs; w = w; begins = begun_more k (ways k n) at.p at.seen rs at.entries at.begun; entries = refl } in
    let is : view_of d.seat ≡ logged (view_of c.seat) es =
    view ∙ (ap (λ (v : View Grammars). left (read_on v rs) (place_or 0 v.mode) w true) at.view ∙ left_held (view_of c.seat) at.p w at.entries at.seen rs) in
    let x = again s c d es 1 rest own is (shown (way_count n) k (ways k n) at.p (at.seen ++ rs) es (ways_length k n (way_count n)) look) in
    let first = begun_reads k n at.p at.seen at.entries at.begun at.few in
    let all = count_append (at.entries ++ reads_of at.p rs) (Leave at.p w true ∷ []) in
    let both = count_append at.entries (reads_of at.p rs) in
    let more = reads_counted at.p rs in
    record {
      rest = x.rest;
      looks = x.looks;
      before = before ∙ at.before;
      adds = (Shown, es, (refl, (at.p, at.seen ++ rs, look), omega arith), is ∙ still_idle (view_of c.seat) es rest.idle, tally ∙ ap (with_outcome Shown) at.tally);
    }

-- what was read there is of the expansion of the tuple
pub record Expanded (s : Shared) (t : Tuple) (P : Option ℕ → List TupleArc → Type 0) : Type 0 where
  pub c : Cascaded
  pub among : Contains (cascades_in s) c
  pub known : IsOf c t
  pub arcs : List TupleArc
  pub ordered : Ordered (moves_of c t) arcs
  pub holds : P (end_of c t) arcs

pub expanded : (s : Shared) (c m : Caller) (t : Tuple) → IsReady s c → IsKnown (cascades_in s) t → StaysAt s c m t
    → (P : Option ℕ → List TupleArc → Type 0) → OfOne (grammars_of s) (seen_of (mode_of m.seat)) P → Expanded s t P
expanded s c m t ready known at P one =
    let agrees = subst (λ (v : View Grammars). Agrees (seen_of v.mode) one.0) at.view one.2 in
    let x = named (cascades_in s) t one.0 known.2.width one.1 (at.own one.0 one.1 agrees) in
    let is = code_of_it (grammars_of s) s.numbered ready.sound t x.c x.among x.known one.0 x.expansion in
    record {
      c = x.c;
      among = x.among;
      known = x.known;
      arcs = x.expansion.0;
      ordered = x.expansion.1;
      holds = one.3 t (end_of x.c t) x.expansion.0 is x.expansion.1.order;
    }

-- as many arcs of the expansion read a label as moves do
pub as_many : (c : Cascaded) (t : Tuple) (label : ℕ) (arcs : List TupleArc) → Ordered (moves_of c t) arcs → length (filter (λ a. nat_eq a.input label) arcs) ≡ length (moves_on c t label)
as_many c t label arcs h = length_permutation (moves_on c t label) (filter (λ a. nat_eq a.input label) arcs) (ordered_kept (λ a. nat_eq a.input label) (moves_of c t) arcs h).same

-- so the moves that read a label had no room
pub no_room : (s : Shared) (t : Tuple) → HaveOwnNumbers (cascades_in s) → (label room : ℕ) → Expanded s t (λ end arcs. room < length (filter (λ a. nat_eq a.input label) arcs)) → HadNoRoom (cascades_in s) t label room
no_room s t own label room x e there other =
    let same : x.c ≡ e = one_cascade (cascades_in s) own t x.c e x.among there x.known other in
    subst (λ z. room < length (moves_on z t label)) same (subst (λ (n : ℕ). room < n) (as_many x.c t label x.arcs x.ordered) x.holds)
